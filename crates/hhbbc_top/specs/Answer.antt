-- What each status says, and when it comes.
use Rattle.std.specs.Prelude.{◌≡◌, ◌⊎◌, ◌≤◌, ℕ, Bool, true, false, List, [], Option, Some, None, Result, Ok, Err, IfSome, length, codes}
use Rattle.std.specs.Io.KnownBytes.{IsAtEnd}
use Rattle.hack_values.specs.declared.memory.NoMemory.{NoMemory as Want}
use Rattle.hh_io.specs.Counts.{Rose}
use Rattle.hh_io.specs.Sources.{IsLonger, IsWithin}
use Rattle.hh_io.specs.Sinks.{Takes, TakesPart}
use Rattle.hhbc_repo.specs.declared.link_fault.LinkFault.{LinkFault}
use Rattle.hhbc_repo.specs.Linked.{Linked}
use Rattle.hhbc_repo.specs.CanonicalText.{canonical_text}
use Rattle.hhbc_semantics.specs.Form.{IsSecondForm}
use Rattle.hhbc_repo.specs.Shapes.{Types}
use Rattle.hhbc_repo.specs.TextSyntax.{FirstFault}
use Rattle.hhbc_semantics.specs.Setting.{with_six}
use Rattle.hhbc_semantics.specs.Run.{Result as Ran, run}
use Rattle.hhbc_semantics.specs.Truth.{IsFaithful}
use Rattle.hhas_read.specs.LinkedTexts.{LinksWithFault, ReadsRepository}
use Rattle.func_analyze.specs.Annotated.{IsAnnotated}
use Rattle.hhbbc_top.specs.declared.status.Status.{Status}
use Rattle.hhbbc_top.specs.declared.status.Status.TheVariants.{Done, Uncaught, StepsSpent, AssertFalse, Usage, BadText, BadLink, BadShape, TooLong, NoMemory, NotYet, ReadFault, WriteFault}
use Rattle.hhbbc_top.specs.declared.form.Unfit.{Unfit}
use Rattle.hhbbc_top.specs.declared.form.Unfit.TheVariants as unfits
use Rattle.hhbbc_top.specs.declared.words.Command.{Command}
use Rattle.hhbbc_top.specs.declared.words.Command.TheVariants.{Check, Format, Analyze, Run}
use Rattle.hhbbc_top.specs.declared.top.Answer.{Answer}
use Rattle.hhbbc_top.specs.declared.top.Answer.TheVariants as answers
use Rattle.hhbbc_top.specs.Counts.{counts_line}
use Rattle.hhbbc_top.specs.FaultLines.{ShapeFault, IsFirst, bad_text, bad_link, bad_shape}
use Rattle.hhbbc_top.specs.ReadText.{IsReadText}
use Rattle.hhbbc_top.specs.Report.{run_line, HasStatus}
use Rattle.hhbbc_top.specs.Words.{command_of}

-- the number that the process ends with
abbrev pub number_of : Status → ℕ
number_of Done = 0
number_of Uncaught = 1
number_of StepsSpent = 3
number_of AssertFalse = 4
number_of Usage = 64
number_of BadText = 65
number_of BadLink = 66
number_of BadShape = 67
number_of TooLong = 69
number_of NoMemory = 70
number_of NotYet = 72
number_of ReadFault = 74
number_of WriteFault = 75

-- the line to standard error of a status whose line is always the same
abbrev pub line_of : Status → List ℕ
line_of Done = []
line_of Uncaught = []
line_of StepsSpent = []
line_of AssertFalse = []
line_of Usage = codes "usage\n"
line_of BadText = []
line_of BadLink = []
line_of BadShape = []
line_of TooLong = codes "too long\n"
line_of NoMemory = codes "no memory\n"
line_of NotYet = codes "not yet\n"
line_of ReadFault = codes "read fault\n"
line_of WriteFault = []

-- the longest text that a command takes
abbrev pub limit_of : Command → ℕ
limit_of Check = 134217728
limit_of Format = 134217728
limit_of Analyze = 16777216
limit_of (Run steps asserted) = 134217728

-- whether a command asks that the repository keeps to its shapes
abbrev pub verifies : Command → Bool
verifies Check = true
verifies Format = false
verifies Analyze = true
verifies (Run steps asserted) = true

-- the bytes that are read for these words at most
abbrev pub read_limit : Option Command → ℕ
read_limit None = 0
read_limit (Some c) = limit_of c

-- how often the facts are made anew
abbrev pub rounds : ℕ
rounds = 10

-- the canonical text of the repository of a text of the form that is read, annotated; it runs as the text's own repository does,
-- its claims are true in every run, and no run of either is stuck
pub record IsAnnotatedText (bytes out : List ℕ) : Type 0 where
  pub repo : Linked
  pub read : IsReadText bytes repo
  pub only : (other : Linked) → IsReadText bytes other → other ≡ repo
  pub annotated : Linked
  pub is : IsAnnotated rounds repo annotated
  -- the annotated repository is the one and only
  pub unique : (other : Linked) → IsAnnotated rounds repo other → other ≡ annotated
  pub faithful : IsFaithful (with_six repo) annotated
  pub written : out ≡ canonical_text annotated
  -- which is read as it
  pub again : ReadsRepository out annotated

-- how main runs with so many steps at most, without arguments, over the six natives
abbrev pub ran : Linked → ℕ → Bool → Ran
ran r steps asserted = run (with_six r) (codes "main") [] steps asserted

-- what is said of the run of main of a text of the form that is read
pub record IsRunText (bytes : List ℕ) (steps : ℕ) (asserted : Bool) (s : Status) (out told : List ℕ) : Type 0 where
  pub repo : Linked
  pub read : IsReadText bytes repo
  pub only : (other : Linked) → IsReadText bytes other → other ≡ repo
  pub status : HasStatus (ran repo steps asserted).outcome s
  pub output : out ≡ (ran repo steps asserted).output
  pub line : told ≡ run_line repo (ran repo steps asserted).outcome

-- the text links to a repository that keeps to its shapes
pub record IsTypedText (bytes : List ℕ) (r : Linked) : Type 0 where
  pub reads : ReadsRepository bytes r
  pub types : Types r

-- the line tells how much there is in the repository of the text
pub record IsCheckedText (bytes out : List ℕ) : Type 0 where
  pub repo : Linked
  pub read : IsTypedText bytes repo
  pub only : (other : Linked) → ReadsRepository bytes other → other ≡ repo
  pub written : out ≡ counts_line repo

-- the canonical text of the repository of the text, which is read as the same repository
pub record IsFormattedText (bytes out : List ℕ) : Type 0 where
  pub repo : Linked
  pub reads : ReadsRepository bytes repo
  pub only : (other : Linked) → ReadsRepository bytes other → other ≡ repo
  pub written : out ≡ canonical_text repo
  pub again : ReadsRepository out repo

-- what a command answers to a text whose repository it goes on with
abbrev pub Answers : Command → List ℕ → Status → List ℕ → List ℕ → Type 0
Answers Check bytes s out line = (s ≡ Done) × IsCheckedText bytes out × (line ≡ [])
Answers Format bytes s out line = (s ≡ Done) × IsFormattedText bytes out × (line ≡ [])
Answers Analyze bytes s out line = (s ≡ Done) × IsAnnotatedText bytes out × (line ≡ [])
Answers (Run steps asserted) bytes s out line = IsRunText bytes steps asserted s out line

-- it keeps to its shapes, and isn't of the form that is annotated and run
pub record IsOfOtherForm (r : Linked) : Type 0 where
  pub types : Types r
  pub other : IsSecondForm r → ⊥

-- a repository that a command does no more with yet
abbrev pub IsUnserved : Command → Linked → Type 0
IsUnserved Check r = ⊥
IsUnserved Format r = ⊥
IsUnserved Analyze r = IsOfOtherForm r
IsUnserved (Run steps asserted) r = IsOfOtherForm r

-- the text links to such a repository
pub record IsOtherText (c : Command) (bytes : List ℕ) : Type 0 where
  pub repo : Linked
  pub reads : ReadsRepository bytes repo
  pub unserved : IsUnserved c repo

-- the text links, and this is the first check of its repository that fails, for a command that verifies it
pub record HasFirst (c : Command) (bytes : List ℕ) (f : ShapeFault) : Type 0 where
  pub verified : verifies c ≡ true
  pub reads : ReadsRepository bytes f.repo
  pub first : IsFirst f

-- a command went through all that the source had left, and P says what it found there
pub record Ends (c : Command) (left rest : Option (List ℕ)) (before now : ℕ) (P : List ℕ → Type 0) : Type 0 where
  pub ended : IsAtEnd rest
  pub within : IsWithin left (limit_of c)
  pub found : IfSome left P
  pub faults : now ≡ before

-- nothing goes to standard output, and the line is that of the status
abbrev pub Says : Status → List ℕ → List ℕ → Type 0
Says s out line = (out ≡ []) × (line ≡ line_of s)

-- the same, and the line tells the place of a fault of the text, or a fault of linking or of shapes
abbrev pub SaysPlace : ℕ → List ℕ → List ℕ → Type 0
SaysPlace at out line = (out ≡ []) × (line ≡ bad_text at)

abbrev pub SaysFault : LinkFault → List ℕ → List ℕ → Type 0
SaysFault f out line = (out ≡ []) × (line ≡ bad_link f)

abbrev pub SaysShape : ShapeFault → List ℕ → List ℕ → Type 0
SaysShape f out line = (out ≡ []) × (line ≡ bad_shape f)

-- when a status comes of a command, and what is to be written to standard output and standard error: from what the source had
-- left and has left now, and its count of faults before and now. Memory may be wanting wherever a text is read.
abbrev pub Obeys : Command → Option (List ℕ) → Option (List ℕ) → ℕ → ℕ → Status → List ℕ → List ℕ → Type 0
Obeys c left rest before now Done out line = Ends c left rest before now (λ bytes. Answers c bytes Done out line)
Obeys c left rest before now Uncaught out line = Ends c left rest before now (λ bytes. Answers c bytes Uncaught out line)
Obeys c left rest before now StepsSpent out line = Ends c left rest before now (λ bytes. Answers c bytes StepsSpent out line)
Obeys c left rest before now AssertFalse out line = Ends c left rest before now (λ bytes. Answers c bytes AssertFalse out line)
Obeys c left rest before now Usage out line = ⊥
Obeys c left rest before now BadText out line = (at : ℕ) × Ends c left rest before now (λ bytes. FirstFault bytes at) × SaysPlace at out line
Obeys c left rest before now BadLink out line = (f : LinkFault) × Ends c left rest before now (λ bytes. LinksWithFault bytes f) × SaysFault f out line
Obeys c left rest before now BadShape out line = (f : ShapeFault) × Ends c left rest before now (λ bytes. HasFirst c bytes f) × SaysShape f out line
Obeys c left rest before now TooLong out line = IsLonger left (limit_of c) × (now ≡ before) × Says TooLong out line
Obeys c left rest before now NoMemory out line = (now ≡ before) × Says NoMemory out line
Obeys c left rest before now NotYet out line = Ends c left rest before now (IsOtherText c) × Says NotYet out line
Obeys c left rest before now ReadFault out line = Rose before now × Says ReadFault out line
Obeys c left rest before now WriteFault out line = ⊥

-- the same of words: those of no command are Usage, and nothing is read
abbrev pub OfCommand : Option Command → Option (List ℕ) → Option (List ℕ) → ℕ → ℕ → Status → List ℕ → List ℕ → Type 0
OfCommand None left rest before now s out line = (s ≡ Usage) × (rest ≡ left) × (now ≡ before) × Says Usage out line
OfCommand (Some c) left rest before now s out line = Obeys c left rest before now s out line

abbrev pub IsAnswer : List (List ℕ) → Option (List ℕ) → Option (List ℕ) → ℕ → ℕ → Status → List ℕ → List ℕ → Type 0
IsAnswer words left rest before now s out line = OfCommand (command_of words) left rest before now s out line

-- the status of an answer, and what it writes
abbrev pub status_of_answer : Answer → Status
status_of_answer (answers.Text out) = Done
status_of_answer (answers.Line s line) = s

abbrev pub status_of : Result Answer Status → Status
status_of (Ok a) = status_of_answer a
status_of (Err s) = s

abbrev pub out_of_answer : Answer → List ℕ
out_of_answer (answers.Text out) = out
out_of_answer (answers.Line s line) = []

abbrev pub out_of : Result Answer Status → List ℕ
out_of (Ok a) = out_of_answer a
out_of (Err s) = []

abbrev pub line_of_answer : Answer → List ℕ
line_of_answer (answers.Text out) = []
line_of_answer (answers.Line s line) = line

abbrev pub line_to : Result Answer Status → List ℕ
line_to (Ok a) = line_of_answer a
line_to (Err s) = line_of s

-- a status with a line of its own, where there is memory for the line
abbrev pub told : Status → Result (List ℕ) Want → Result Answer Status
told s (Ok line) = Ok (answers.Line s line)
told s (Err _) = Err NoMemory

-- the status of a repository that isn't gone on with
abbrev pub status_of_unfit : Unfit → Status
status_of_unfit unfits.OtherForm = NotYet
status_of_unfit unfits.NoMemory = NoMemory

-- a part of what was to be written was taken: of standard output and nothing else, or all of it and a part of the line
abbrev pub WritesPart : Option (List ℕ) → Option (List ℕ) → Option (List ℕ) → Option (List ℕ) → List ℕ → List ℕ → Type 0
WritesPart out out_now err err_now bytes line =
    (TakesPart out out_now bytes × (err_now ≡ err)) ⊎ (Takes out out_now bytes × TakesPart err err_now line)

-- where a write failed: the status that was to be, and the part of its bytes that was taken
abbrev pub WritesPartOf : (Status → List ℕ → List ℕ → Type 0) → Option (List ℕ) → Option (List ℕ) → Option (List ℕ) → Option (List ℕ) → Type 0
WritesPartOf Answer out out_now err err_now =
    (s : Status) × (bytes : List ℕ) × (line : List ℕ) × Answer s bytes line × WritesPart out out_now err err_now bytes line

-- all of an answer was written
abbrev pub WritesAll : (Status → List ℕ → List ℕ → Type 0) → Status → Option (List ℕ) → Option (List ℕ) → Option (List ℕ) → Option (List ℕ) → Type 0
WritesAll Answer s out out_now err err_now =
    (bytes : List ℕ) × (line : List ℕ) × Answer s bytes line × Takes out out_now bytes × Takes err err_now line

-- which texts have a status, by the command of the words
abbrev pub HasTextFault : List ℕ → Type 0
HasTextFault bytes = (at : ℕ) × FirstFault bytes at

abbrev pub HasLinkFault : List ℕ → Type 0
HasLinkFault bytes = (f : LinkFault) × LinksWithFault bytes f

abbrev pub HasShapeFault : Command → List ℕ → Type 0
HasShapeFault c bytes = (f : ShapeFault) × HasFirst c bytes f

abbrev pub IsMisshapenText : Option Command → List ℕ → Type 0
IsMisshapenText None bytes = ⊥
IsMisshapenText (Some c) bytes = HasShapeFault c bytes

abbrev pub IsUnservedText : Option Command → List ℕ → Type 0
IsUnservedText None bytes = ⊥
IsUnservedText (Some c) bytes = IsOtherText c bytes

-- the text's repository is one that a command goes on with
abbrev pub IsServed : Command → List ℕ → Linked → Type 0
IsServed Check bytes repo = IsTypedText bytes repo
IsServed Format bytes repo = ReadsRepository bytes repo
IsServed Analyze bytes repo = IsReadText bytes repo
IsServed (Run steps asserted) bytes repo = IsReadText bytes repo

-- the status that such a text has
abbrev pub IsExpected : Command → Linked → Status → Type 0
IsExpected Check repo s = s ≡ Done
IsExpected Format repo s = s ≡ Done
IsExpected Analyze repo s = s ≡ Done
IsExpected (Run steps asserted) repo s = HasStatus (ran repo steps asserted).outcome s

-- so it is, memory and stream faults aside
abbrev pub IsOrWants : Type 0 → Status → Type 0
IsOrWants P s = P ⊎ ((s ≡ NoMemory) ⊎ ((s ≡ ReadFault) ⊎ (s ≡ WriteFault)))

-- each text that a command takes has the status that is its own
pub record Expects (c : Command) (bytes : List ℕ) (s : Status) : Type 0 where
  pub bad_text : HasTextFault bytes → IsOrWants (s ≡ BadText) s
  pub bad_link : HasLinkFault bytes → IsOrWants (s ≡ BadLink) s
  pub bad_shape : HasShapeFault c bytes → IsOrWants (s ≡ BadShape) s
  pub not_yet : IsOtherText c bytes → IsOrWants (s ≡ NotYet) s
  pub done : (repo : Linked) → IsServed c bytes repo → IsOrWants (IsExpected c repo s) s

abbrev pub Accepts : List (List ℕ) → Option (List ℕ) → Status → Type 0
Accepts words left s =
    (c : Command) (bytes : List ℕ) → command_of words ≡ Some c → left ≡ Some bytes → length bytes ≤ limit_of c → Expects c bytes s
