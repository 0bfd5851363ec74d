-- What a command makes of a text, and of its repository.
use Rattle.std.specs.Prelude.{◌≡◌, ◌⊎◌, ℕ, true, List, [], Result, Ok, Err, IfOk}
use Rattle.hack_values.specs.declared.memory.NoMemory.{NoMemory as Want}
use Rattle.hhas_read.specs.LinkedTexts.{LinksWithFault}
use Rattle.hhbc_repo.specs.CanonicalText.{canonical_text}
use Rattle.hhbc_repo.specs.declared.link_fault.LinkFault.{LinkFault}
use Rattle.hhbc_repo.specs.Linked.{Linked}
use Rattle.hhbc_repo.specs.Shapes.{Types}
use Rattle.hhbc_repo.specs.TextSyntax.{FirstFault}
use Rattle.hhbbc_top.specs.declared.form.Main.{Main}
use Rattle.hhbbc_top.specs.declared.status.Status.{Status}
use Rattle.hhbbc_top.specs.declared.status.Status.TheVariants.{Done, Uncaught, StepsSpent, AssertFalse, Usage, BadText, BadLink, BadShape, TooLong, NoMemory, NotYet, ReadFault, WriteFault}
use Rattle.hhbbc_top.specs.declared.top.Answer.{Answer}
use Rattle.hhbbc_top.specs.declared.words.Command.{Command}
use Rattle.hhbbc_top.specs.declared.words.Command.TheVariants.{Check, Format, Analyze, Run}
use Rattle.hhbbc_top.specs.Answer.{Answers, IsUnserved, IsOtherText, HasFirst, Says, SaysPlace, SaysFault, SaysShape, ran, told, verifies, status_of_answer, out_of_answer, line_of_answer}
use Rattle.hhbbc_top.specs.Counts.{counts_line}
use Rattle.hhbbc_top.specs.FaultLines.{ShapeFault, IsFirst, bad_shape}
use Rattle.hhbbc_top.specs.Forms.{annotated_text, repo_of}
use Rattle.hhbbc_top.specs.Mains.{IsMainOf}
use Rattle.hhbbc_top.specs.Report.{run_line, HasStatus}

-- of the function that is all of a repository
abbrev pub Makes : Command → Main → Status → List ℕ → List ℕ → Type 0
Makes Check m s out line = ⊥
Makes Format m s out line = ⊥
Makes Analyze m s out line = (s ≡ Done) × (out ≡ annotated_text m) × (line ≡ [])
Makes (Run steps asserted) m s out line =
    HasStatus (ran (repo_of m) steps asserted).outcome s
    × (out ≡ (ran (repo_of m) steps asserted).output)
    × (line ≡ run_line (repo_of m) (ran (repo_of m) steps asserted).outcome)

abbrev pub Does : Command → Main → Result Answer Status → Type 0
Does c m (Ok a) = Makes c m (status_of_answer a) (out_of_answer a) (line_of_answer a)
Does c m (Err s) = s ≡ NoMemory

-- it goes on with the function that is all of a repository
pub record Goes (c : Command) (r : Linked) (a : Answer) : Type 0 where
  pub main : Main
  pub is : IsMainOf r main
  pub makes : Makes c main (status_of_answer a) (out_of_answer a) (line_of_answer a)

-- it tells how much there is in a repository
pub record Counts (r : Linked) (a : Answer) : Type 0 where
  pub status : status_of_answer a ≡ Done
  pub written : out_of_answer a ≡ counts_line r
  pub line : line_of_answer a ≡ []

-- it writes a repository in the canonical form
pub record Formats (r : Linked) (a : Answer) : Type 0 where
  pub status : status_of_answer a ≡ Done
  pub written : out_of_answer a ≡ canonical_text r
  pub line : line_of_answer a ≡ []

abbrev pub Gives : Command → Linked → Answer → Type 0
Gives Check r a = Counts r a
Gives Format r a = Formats r a
Gives Analyze r a = Goes Analyze r a
Gives (Run steps asserted) r a = Goes (Run steps asserted) r a

abbrev pub Stops : Command → Linked → Status → Type 0
Stops c r NoMemory = Unit {0}
Stops c r NotYet = IsUnserved c r
Stops c r _ = ⊥

-- of a repository that keeps to its shapes where the command verifies: there is no memory, or it does no more with it, or this is what it makes of it
abbrev pub Serves : Command → Linked → Result Answer Status → Type 0
Serves c r (Ok a) = Gives c r a
Serves c r (Err s) = Stops c r s

-- the first check of a repository that fails is told, where there is memory for its line
pub record TellsFirst (r : Linked) (o : Result Answer Status) : Type 0 where
  pub fault : ShapeFault
  pub of : fault.repo ≡ r
  pub first : IsFirst fault
  pub line : Result (List ℕ) Want
  pub line_is : IfOk line (λ l. l ≡ bad_shape fault)
  pub is : o ≡ told BadShape line

-- of each repository
abbrev pub Judges : Command → Linked → Result Answer Status → Type 0
Judges c r o = ((verifies c ≡ true → Types r) × Serves c r o) ⊎ (((verifies c ≡ true) × TellsFirst r o) ⊎ (o ≡ Err NoMemory))

-- of the bytes that were read
abbrev pub AnswersTo : Command → List ℕ → Status → List ℕ → List ℕ → Type 0
AnswersTo c bytes Done out line = Answers c bytes Done out line
AnswersTo c bytes Uncaught out line = Answers c bytes Uncaught out line
AnswersTo c bytes StepsSpent out line = Answers c bytes StepsSpent out line
AnswersTo c bytes AssertFalse out line = Answers c bytes AssertFalse out line
AnswersTo c bytes BadText out line = (at : ℕ) × FirstFault bytes at × SaysPlace at out line
AnswersTo c bytes BadLink out line = (f : LinkFault) × LinksWithFault bytes f × SaysFault f out line
AnswersTo c bytes BadShape out line = (f : ShapeFault) × HasFirst c bytes f × SaysShape f out line
AnswersTo c bytes NoMemory out line = Says NoMemory out line
AnswersTo c bytes NotYet out line = IsOtherText c bytes × Says NotYet out line
AnswersTo c bytes Usage out line = ⊥
AnswersTo c bytes TooLong out line = ⊥
AnswersTo c bytes ReadFault out line = ⊥
AnswersTo c bytes WriteFault out line = ⊥
