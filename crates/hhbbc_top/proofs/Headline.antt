-- What the laws say of a text that was read, and of one that wasn't.
use Rattle.std.proofs.Common.{◌≡◌, ◌≢◌, ◌≤◌, ◌<◌, Bool, true, false, arith, inl, inr, ℕ, refl, sym, ◌∙◌, ap, subst, List, [], ◌∷◌, ◌++◌, append-nil, map, codes, Option, Some, None, Result, Ok, Err, length}
use Rattle.std.specs.Prelude.{◌⊎◌, IfOk, IfSome}
use Rattle.std.proofs.lemmas.Option.{slice_get_within}
use Rattle.hack_values.specs.declared.memory.NoMemory.{NoMemory as Want}
use Rattle.std.specs.Io.KnownBytes.{Consumes, IsAtEnd}
use Rattle.hh_io.specs.Sources.{IsWithin}
use Rattle.hhbc_repo.specs.declared.link_fault.LinkFault.{LinkFault}
use Rattle.hhbc_repo.specs.declared.body.Body.{Body}
use Rattle.hhbc_repo.specs.declared.body.Position.{Position}
use Rattle.hhbc_repo.specs.Linked.{Linked}
use Rattle.hhbc_repo.specs.Bare.{bare, bare_position}
use Rattle.hhbc_repo.specs.CanonicalText.{canonical_text}
use Rattle.hhbc_repo.specs.Spelled.{HasSpelling}
use Rattle.hhbc_semantics.specs.Form.{IsSecondForm}
use Rattle.hhbc_repo.specs.Shapes.{Types, ShapeKind, FailsAt, IsFirstFault, fault_at}
use Rattle.hhbc_repo.specs.Bodies.{bodies, body_at}
use Rattle.hhbc_repo.specs.TextSyntax.{FirstFault}
use Rattle.hhbc_semantics.specs.Setting.{with_six}
use Rattle.hhbc_semantics.specs.Truth.{IsNeverStuck, SecondFormNeverSticks}
use Rattle.hhbc_semantics.specs.Outcome as outcomes
use Rattle.hhbc_semantics.specs.Outcome.{Outcome, Underflow}
use Rattle.hhbc_semantics.specs.Run.{Result as Ran, run}
use Rattle.hhas_read.specs.LinkedTexts.{LinksWithFault, ReadsRepository}
use Rattle.hhas_read.proofs.ReadBack.{repositories_one}
use Rattle.func_analyze.specs.Laws.{AnnotatedHasSpelling, AreWords, BareChainAnnotates, SecondIsFaithful, SecondIsUnique}
use Rattle.func_analyze.specs.Annotated.{IsAnnotated}
use Rattle.func_analyze.specs.Chain.{annotated_by}
use Rattle.hhbbc_top.specs.declared.form.Line.{Line}
use Rattle.hhbbc_top.specs.declared.form.Main.{Main}
use Rattle.hhbbc_top.specs.declared.form.Unfit.{Unfit}
use Rattle.hhbbc_top.specs.declared.form.Unfit.TheVariants as unfits
use Rattle.hhbbc_top.specs.declared.machine.Ending.{Ending}
use Rattle.hhbbc_top.specs.declared.machine.Ending.TheVariants as endings
use Rattle.hhbbc_top.specs.declared.status.Status.{Status}
use Rattle.hhbbc_top.specs.declared.status.Status.TheVariants.{Done, Uncaught, StepsSpent, AssertFalse, Usage, BadText, BadLink, BadShape, TooLong, NoMemory, NotYet, ReadFault, WriteFault}
use Rattle.hhbbc_top.specs.declared.top.Answer.{Answer}
use Rattle.hhbbc_top.specs.declared.words.Command.{Command}
use Rattle.hhbbc_top.specs.declared.words.Command.TheVariants.{Check, Format, Analyze, Run}
use Rattle.hhbbc_top.specs.Answer.{limit_of, line_of, ran, verifies, status_of, out_of, line_to, status_of_answer, out_of_answer, line_of_answer, Accepts, Answers, Expects, HasFirst, HasTextFault, HasLinkFault, HasShapeFault, IsAnswer, IsServed, IsAnnotatedText, IsExpected, IsOrWants, IsOtherText, IsUnserved, Obeys, OfCommand, status_of_unfit, told}
use Rattle.hhbbc_top.specs.Commands.{AnswersTo, Does, Gives, Goes, Judges, Makes, Serves, Stops, TellsFirst}
use Rattle.hhbbc_top.specs.FaultLines.{ShapeFault, IsFirst, bad_text, bad_link, bad_shape}
use Rattle.hhbbc_top.specs.Forms.{position_of, bare_of, repo_of, setting_of, bare_repo_of, annotated_text}
use Rattle.hhbbc_top.specs.Mains.{IsMainOf}
use Rattle.hhbbc_top.specs.ReadText.{IsReadText, SpellsOne, SpelledIsFaultless}
use Rattle.hhbbc_top.specs.Report.{HasStatus}
use Rattle.hhbbc_top.specs.Running.{outcome_of}
use Rattle.hhbbc_top.proofs.OneText.{links-or-not, read-or-not, linked-or-not}

-- codes without their assertions
bare-lines : (lines : List Line) → map bare_position (map position_of lines) ≡ map bare_of lines
bare-lines [] = refl
bare-lines (l ∷ ls) = ap (λ (ps : List Position). bare_of l ∷ ps) (bare-lines ls)

bare-is : (m : Main) → bare (repo_of m) ≡ bare_repo_of m
bare-is m = λ i. record {
  functions = record { name = codes "main"; params = 0; locals = m.locals; iters = 0; stated = None; positions = bare-lines m.codes i; regions = [] } ∷ [];
  classes = [];
}

-- the repository of a text, as the function that is all of it
main-read : (bytes : List ℕ) (r : Linked) (m : Main) → ReadsRepository bytes r → IsMainOf r m → IsReadText bytes (repo_of m)
main-read bytes r m a h = subst (λ (s : Linked). IsReadText bytes s) h.is (record { reads = a; form = h.form; types = h.types })

only-one : (bytes : List ℕ) (r : Linked) → ReadsRepository bytes r → (other : Linked) → IsReadText bytes other → other ≡ r
only-one bytes r a other w = repositories_one bytes other r w.reads a

-- what the laws say of annotated texts
pub record Laws : Type 0 where
  pub one : SpellsOne
  pub annotates : BareChainAnnotates
  pub faithful : SecondIsFaithful
  pub unique : SecondIsUnique
  pub spelled : (bytes : List ℕ) (r : Linked) → ReadsRepository bytes r → HasSpelling r
  pub back : (r : Linked) → HasSpelling r → ReadsRepository (canonical_text r) r
  pub kept : AnnotatedHasSpelling

-- the annotated repository of the function of a repository has a spelling
pub annotated-spelled : AnnotatedHasSpelling → (r : Linked) (m : Main) → IsMainOf r m → HasSpelling r → HasSpelling (annotated_by (bare_repo_of m))
annotated-spelled kept r m h s = subst (λ (q : Linked). HasSpelling (annotated_by q)) (ap bare h.is ∙ bare-is m) (kept r h.form s)

annotated-text : Laws → (bytes : List ℕ) (r : Linked) (m : Main) (out : List ℕ) → ReadsRepository bytes r → IsMainOf r m → out ≡ annotated_text m → IsAnnotatedText bytes out
annotated-text laws bytes r m out a h written =
    let bare-of : bare r ≡ bare_repo_of m = ap bare h.is ∙ bare-is m in
    let is : IsAnnotated 10 r (annotated_by (bare_repo_of m)) = subst (λ (s : Linked). IsAnnotated 10 r (annotated_by s)) bare-of (laws.annotates r h.form h.words 9) in
    record {
      repo = r;
      read = record { reads = a; form = h.form; types = h.types };
      only = only-one bytes r a;
      annotated = annotated_by (bare_repo_of m);
      is = is;
      unique = λ other w. subst (λ (s : Linked). other ≡ annotated_by s) bare-of (laws.unique r other h.form h.words 9 w);
      faithful = laws.faithful (with_six r) (annotated_by (bare_repo_of m)) h.form h.types 9 is;
      written = written;
      again = subst (λ (o : List ℕ). ReadsRepository o (annotated_by (bare_repo_of m))) (sym written) (laws.back (annotated_by (bare_repo_of m)) (annotated-spelled laws.kept r m h (laws.spelled bytes r a)));
    }

-- what a command makes of the function of a text is what it answers to the text
answered : Laws → (c : Command) (bytes : List ℕ) (r : Linked) (m : Main) (s : Status) (out line : List ℕ) → ReadsRepository bytes r → IsMainOf r m
    → Makes c m s out line → Answers c bytes s out line
answered laws Check bytes r m s out line a h k = absurd k
answered laws Format bytes r m s out line a h k = absurd k
answered laws Analyze bytes r m s out line a h k = (k.0, annotated-text laws bytes r m out a h k.1, k.2)
answered laws (Run steps asserted) bytes r m s out line a h k = record {
  repo = repo_of m;
  read = main-read bytes r m a h;
  only = λ other w. only-one bytes r a other w ∙ h.is;
  status = k.0;
  output = k.1;
  line = k.2;
}

-- what a command gives of a repository that keeps to its shapes is what it answers to the text
given-as : Laws → (c : Command) (bytes : List ℕ) (r : Linked) (a : Answer) → ReadsRepository bytes r → (verifies c ≡ true → Types r) → Gives c r a
    → Answers c bytes (status_of_answer a) (out_of_answer a) (line_of_answer a)
given-as laws Check bytes r a w t h = (
  h.status,
  record {
    repo = r;
    read = record { reads = w; types = t refl };
    only = λ other v. repositories_one bytes other r v w;
    written = h.written;
  },
  h.line,
)
given-as laws Format bytes r a w t h = (
  h.status,
  record {
    repo = r;
    reads = w;
    only = λ other v. repositories_one bytes other r v w;
    written = h.written;
    again = subst (λ (o : List ℕ). ReadsRepository o r) (sym h.written) (laws.back r (laws.spelled bytes r w));
  },
  h.line,
)
given-as laws Analyze bytes r a w t h = answered laws Analyze bytes r h.main (status_of_answer a) (out_of_answer a) (line_of_answer a) w h.is h.makes
given-as laws (Run steps asserted) bytes r a w t h =
    answered laws (Run steps asserted) bytes r h.main (status_of_answer a) (out_of_answer a) (line_of_answer a) w h.is h.makes

-- the statuses of texts that were read
abbrev ends_well : Status → Bool
ends_well Done = true
ends_well Uncaught = true
ends_well StepsSpent = true
ends_well AssertFalse = true
ends_well Usage = false
ends_well BadText = false
ends_well BadLink = false
ends_well BadShape = false
ends_well TooLong = false
ends_well NoMemory = false
ends_well NotYet = false
ends_well ReadFault = false
ends_well WriteFault = false

run-ends : (o : Outcome) (s : Status) → HasStatus o s → ends_well s ≡ true
run-ends (outcomes.Returned c) s h = ap ends_well h
run-ends (outcomes.Uncaught class message p) s h = ap ends_well h
run-ends (outcomes.AssertFalse p) s h = ap ends_well h
run-ends outcomes.Steps s h = ap ends_well h
run-ends (outcomes.Fatal name p) s h = absurd h
run-ends (outcomes.Stuck why) s h = absurd h
run-ends outcomes.UnknownEntry s h = absurd h
run-ends outcomes.WrongCount s h = absurd h

all-end : (c : Command) (bytes : List ℕ) (s : Status) (out line : List ℕ) → Answers c bytes s out line → ends_well s ≡ true
all-end Check bytes s out line h = ap ends_well h.0
all-end Format bytes s out line h = ap ends_well h.0
all-end Analyze bytes s out line h = ap ends_well h.0
all-end (Run steps asserted) bytes s out line h = run-ends (ran h.repo steps asserted).outcome s h.status

told-as : (c : Command) (bytes : List ℕ) (s : Status) (out line : List ℕ) → ends_well s ≡ true → Answers c bytes s out line → AnswersTo c bytes s out line
told-as c bytes Done out line e h = h
told-as c bytes Uncaught out line e h = h
told-as c bytes StepsSpent out line e h = h
told-as c bytes AssertFalse out line e h = h
told-as c bytes Usage out line e h = absurd (cc)
told-as c bytes BadText out line e h = absurd (cc)
told-as c bytes BadLink out line e h = absurd (cc)
told-as c bytes BadShape out line e h = absurd (cc)
told-as c bytes TooLong out line e h = absurd (cc)
told-as c bytes NoMemory out line e h = absurd (cc)
told-as c bytes NotYet out line e h = absurd (cc)
told-as c bytes ReadFault out line e h = absurd (cc)
told-as c bytes WriteFault out line e h = absurd (cc)

-- what is answered to a text that was read, and whose repository keeps to its shapes
served-as : Laws → (c : Command) (bytes : List ℕ) (r : Linked) (o : Result Answer Status) → ReadsRepository bytes r → (verifies c ≡ true → Types r) → Serves c r o
    → AnswersTo c bytes (status_of o) (out_of o) (line_to o)
served-as laws c bytes r (Ok a) w t h =
    let is = given-as laws c bytes r a w t h in
    told-as c bytes (status_of_answer a) (out_of_answer a) (line_of_answer a) (all-end c bytes (status_of_answer a) (out_of_answer a) (line_of_answer a) is) is
served-as laws c bytes r (Err NoMemory) w t h = (refl, refl)
served-as laws c bytes r (Err NotYet) w t h = (record { repo = r; reads = w; unserved = h }, (refl, refl))
served-as laws c bytes r (Err Done) w t h = absurd h
served-as laws c bytes r (Err Uncaught) w t h = absurd h
served-as laws c bytes r (Err StepsSpent) w t h = absurd h
served-as laws c bytes r (Err AssertFalse) w t h = absurd h
served-as laws c bytes r (Err Usage) w t h = absurd h
served-as laws c bytes r (Err BadText) w t h = absurd h
served-as laws c bytes r (Err BadLink) w t h = absurd h
served-as laws c bytes r (Err BadShape) w t h = absurd h
served-as laws c bytes r (Err TooLong) w t h = absurd h
served-as laws c bytes r (Err ReadFault) w t h = absurd h
served-as laws c bytes r (Err WriteFault) w t h = absurd h

-- a fault is told with its line, where there is memory for it
pub text_told : (c : Command) (bytes : List ℕ) (at : ℕ) (line : Result (List ℕ) Want) → FirstFault bytes at → IfOk line (λ l. l ≡ bad_text at)
    → AnswersTo c bytes (status_of (told BadText line)) (out_of (told BadText line)) (line_to (told BadText line))
text_told c bytes at (Ok line) h e = (at, h, (refl, e))
text_told c bytes at (Err w) h e = (refl, refl)

pub link_told : (c : Command) (bytes : List ℕ) (f : LinkFault) (line : Result (List ℕ) Want) → LinksWithFault bytes f → IfOk line (λ l. l ≡ bad_link f)
    → AnswersTo c bytes (status_of (told BadLink line)) (out_of (told BadLink line)) (line_to (told BadLink line))
link_told c bytes f (Ok line) h e = (f, h, (refl, e))
link_told c bytes f (Err w) h e = (refl, refl)

pub shape_told : (c : Command) (bytes : List ℕ) (f : ShapeFault) (line : Result (List ℕ) Want) → HasFirst c bytes f → IfOk line (λ l. l ≡ bad_shape f)
    → AnswersTo c bytes (status_of (told BadShape line)) (out_of (told BadShape line)) (line_to (told BadShape line))
shape_told c bytes f (Ok line) h e = (f, h, (refl, e))
shape_told c bytes f (Err w) h e = (refl, refl)

-- what is answered to a text that was read
pub judged-as : Laws → (c : Command) (bytes : List ℕ) (r : Linked) (o : Result Answer Status) → ReadsRepository bytes r → Judges c r o
    → AnswersTo c bytes (status_of o) (out_of o) (line_to o)
judged-as laws c bytes r o w (inl h) = served-as laws c bytes r o w h.0 h.1
judged-as laws c bytes r o w (inr (inl h)) =
    subst (λ (p : Result Answer Status). AnswersTo c bytes (status_of p) (out_of p) (line_to p)) (sym h.1.is)
    (shape_told c bytes h.1.fault h.1.line (record { verified = h.0; reads = subst (λ (s : Linked). ReadsRepository bytes s) (sym h.1.of) w; first = h.1.first }) h.1.line_is)
judged-as laws c bytes r o w (inr (inr e)) =
    subst (λ (p : Result Answer Status). AnswersTo c bytes (status_of p) (out_of p) (line_to p)) (sym e) (refl, refl)

true-or-false : (b : Bool) → b ≡ true → b ≡ false → ⊥
true-or-false true t f = absurd (cc)
true-or-false false t f = absurd (cc)

-- a repository that was verified, or the first of its checks that fails
pub verified_as : (c : Command) (r v s : Linked) (o : Result Answer Status) → v ≡ r → s ≡ v → (verifies c ≡ true → Types r) → Serves c s o → Judges c r o
verified_as c r v s o e g t h = inl (t, subst (λ (x : Linked). Serves c x o) (g ∙ e) h)

pub unverified_as : (c : Command) (r : Linked) (o : Result Answer Status) → verifies c ≡ false → Serves c r o → Judges c r o
unverified_as c r o e h = inl (λ v. absurd (true-or-false (verifies c) v e), h)

pub refused_as : (c : Command) (r back : Linked) (n p : ℕ) (kind : ShapeKind) (line : Result (List ℕ) Want) (o : Result Answer Status) → verifies c ≡ true → back ≡ r → IsFirstFault r n p kind
    → IfOk line (λ l. l ≡ bad_shape (record { repo = back; body = n; position = p; kind = kind })) → o ≡ told BadShape line → Judges c r o
refused_as c r back n p kind line o v e h l is = inr (inl (
  v,
  record {
    fault = record { repo = back; body = n; position = p; kind = kind };
    of = e;
    first = subst (λ (x : Linked). IsFirstFault x n p kind) (sym e) h;
    line = line;
    line_is = l;
    is = is;
  },
))

pub within_bodies : (r back : Linked) (n p : ℕ) (kind : ShapeKind) → back ≡ r → IsFirstFault r n p kind → n < length (bodies back)
within_bodies r back n p kind e h = subst (λ (x : Linked). n < length (bodies x)) (sym e) (slice_get_within (bodies r) n h.body h.at)

-- a repository that isn't gone on with
pub left-as : (c : Command) (r : Linked) (u : Unfit) → (◌≡◌ {A = Result Main Unfit} (Err u) (Err unfits.OtherForm) → IsUnserved c r) → Stops c r (status_of_unfit u)
left-as c r unfits.OtherForm h = h refl
left-as c r unfits.NoMemory h = tt

-- a command goes on with the function that is all of a repository, or stops
pub goes-with : (c : Command) (r : Linked) (m : Main) (o : Result Answer Status) → IsMainOf r m → Does c m o → Serves c r o
goes-with Check r m (Ok a) h k = absurd k
goes-with Format r m (Ok a) h k = absurd k
goes-with Analyze r m (Ok a) h k = record { main = m; is = h; makes = k }
goes-with (Run steps asserted) r m (Ok a) h k = record { main = m; is = h; makes = k }
goes-with c r m (Err s) h k = subst (λ (t : Status). Serves c r (Err t)) (sym k) tt

-- no run of what was read is stuck
pub never-stuck : SecondFormNeverSticks → (r : Linked) (m : Main) → IsMainOf r m → IsNeverStuck (setting_of m)
never-stuck never r m h = subst (λ (r : Linked). IsNeverStuck (with_six r)) h.is (never (with_six r) h.form h.types)

pub not-stuck : (m : Main) (steps : ℕ) (asserted : Bool) (x : Ending) → IsNeverStuck (setting_of m)
    → run (setting_of m) (codes "main") [] steps asserted ≡ record { outcome = outcome_of m.locals x; output = [] } → x ≢ endings.Stuck
not-stuck m steps asserted x never e is = never (codes "main") [] steps asserted Underflow (λ k d h. absurd (omega (arith, h))) (ap (λ (r : Ran). r.outcome) e ∙ ap (outcome_of m.locals) is)

-- the bytes that were read are all that was left, where the source tells them
all-told : (left rest : Option (List ℕ)) (bytes : List ℕ) (P : List ℕ → Type 0) → Consumes left rest bytes → IsAtEnd rest → P bytes → IfSome left P
all-told None rest bytes P h e p = tt
all-told (Some xs) None bytes P h e p = absurd h
all-told (Some xs) (Some ys) bytes P h e p = subst P (sym (h ∙ ap (λ z. bytes ++ z) e ∙ append-nil bytes)) p

-- what is answered to the bytes that were read is what is answered to what the source had left
pub obeyed : (c : Command) (left rest : Option (List ℕ)) (before now : ℕ) (bytes : List ℕ) (s : Status) (out line : List ℕ)
    → Consumes left rest bytes → IsAtEnd rest → IsWithin left (limit_of c) → now ≡ before → AnswersTo c bytes s out line
    → Obeys c left rest before now s out line
obeyed c left rest before now bytes Done out line h e w f a = record { ended = e; within = w; found = all-told left rest bytes (λ b. Answers c b Done out line) h e a; faults = f }
obeyed c left rest before now bytes Uncaught out line h e w f a = record { ended = e; within = w; found = all-told left rest bytes (λ b. Answers c b Uncaught out line) h e a; faults = f }
obeyed c left rest before now bytes StepsSpent out line h e w f a = record { ended = e; within = w; found = all-told left rest bytes (λ b. Answers c b StepsSpent out line) h e a; faults = f }
obeyed c left rest before now bytes AssertFalse out line h e w f a = record { ended = e; within = w; found = all-told left rest bytes (λ b. Answers c b AssertFalse out line) h e a; faults = f }
obeyed c left rest before now bytes Usage out line h e w f a = absurd a
obeyed c left rest before now bytes BadText out line h e w f a =
    (a.0, record { ended = e; within = w; found = all-told left rest bytes (λ b. FirstFault b a.0) h e a.1; faults = f }, a.2)
obeyed c left rest before now bytes BadLink out line h e w f a =
    (a.0, record { ended = e; within = w; found = all-told left rest bytes (λ b. LinksWithFault b a.0) h e a.1; faults = f }, a.2)
obeyed c left rest before now bytes BadShape out line h e w f a =
    (a.0, record { ended = e; within = w; found = all-told left rest bytes (λ b. HasFirst c b a.0) h e a.1; faults = f }, a.2)
obeyed c left rest before now bytes TooLong out line h e w f a = absurd a
obeyed c left rest before now bytes NoMemory out line h e w f a = (f, a)
obeyed c left rest before now bytes NotYet out line h e w f a = (record { ended = e; within = w; found = all-told left rest bytes (IsOtherText c) h e a.0; faults = f }, a.1)
obeyed c left rest before now bytes ReadFault out line h e w f a = absurd a
obeyed c left rest before now bytes WriteFault out line h e w f a = absurd a

both : (left : Option (List ℕ)) (bytes : List ℕ) (P : List ℕ → Type 0) → left ≡ Some bytes → IfSome left P → P bytes
both left bytes P e h = rw e at h

-- there is no memory, or a stream has a fault
wants-as : (c : Command) (bytes : List ℕ) (s : Status) → (s ≡ NoMemory) ⊎ ((s ≡ ReadFault) ⊎ (s ≡ WriteFault)) → Expects c bytes s
wants-as c bytes s h = record { bad_text = λ t. inr h; bad_link = λ t. inr h; bad_shape = λ t. inr h; not_yet = λ t. inr h; done = λ repo w. inr h }

none-some : (x : Option ShapeKind) (kind : ShapeKind) → x ≡ None → x ≡ Some kind → ⊥
none-some None kind e g = absurd (cc)
none-some (Some k) kind e g = absurd (cc)

-- a repository that keeps to its shapes has no check that fails
passes-or-not : (r : Linked) (n : ℕ) (b : Body) (p : ℕ) (kind : ShapeKind) → Types r → body_at r n ≡ Some b → FailsAt b p kind → ⊥
passes-or-not r n b p kind t at (inl h) = t.has_positions n b at h.0
passes-or-not r n b p kind t at (inr h) = none-some (fault_at b p) kind (t.passes n b at p h.0) h.1

types-or-not : (f : ShapeFault) → Types f.repo → IsFirst f → ⊥
types-or-not f t h = passes-or-not f.repo f.body h.body f.position f.kind t h.at h.fails

no-form : (bytes : List ℕ) (r repo : Linked) → r ≡ repo → (IsSecondForm r → ⊥) → IsReadText bytes repo → ⊥
no-form bytes r repo e u w = subst (λ (x : Linked). IsSecondForm x → ⊥) e u w.form

-- a text that is what an answer says of it has the status of the answer, and no other
module _ (one : SpellsOne) (spelled : SpelledIsFaultless) (c : Command) (bytes : List ℕ) where
  ends-as : (repo : Linked) (s : Status) (out line : List ℕ) → (d : Command) → Answers d bytes s out line → IsServed d bytes repo → IsExpected d repo s
  ends-as repo s out line Check h w = h.0
  ends-as repo s out line Format h w = h.0
  ends-as repo s out line Analyze h w = h.0
  ends-as repo s out line (Run steps asserted) h w =
      subst (λ (r : Linked). HasStatus (ran r steps asserted).outcome s) (sym (h.only repo w)) h.status

  -- what was gone on with keeps to its shapes, and isn't left
  form-of : (d : Command) (s : Status) (out line : List ℕ) → Answers d bytes s out line → (r : Linked) × ReadsRepository bytes r × (verifies d ≡ true → Types r) × (IsUnserved d r → ⊥)
  form-of Check s out line h = (h.1.repo, h.1.read.reads, λ v. h.1.read.types, λ u. u)
  form-of Format s out line h = (h.1.repo, h.1.reads, λ v. absurd (cc), λ u. u)
  form-of Analyze s out line h = (h.1.repo, h.1.read.reads, λ v. h.1.read.types, λ u. u.other h.1.read.form)
  form-of (Run steps asserted) s out line h = (h.repo, h.read.reads, λ v. h.read.types, λ u. u.other h.read.form)

  reads-of : (d : Command) (r : Linked) → IsServed d bytes r → ReadsRepository bytes r
  reads-of Check r w = w.reads
  reads-of Format r w = w
  reads-of Analyze r w = w.reads
  reads-of (Run steps asserted) r w = w.reads

  types-of : (d : Command) (r : Linked) → IsServed d bytes r → verifies d ≡ true → Types r
  types-of Check r w v = w.types
  types-of Format r w v = absurd (cc)
  types-of Analyze r w v = w.types
  types-of (Run steps asserted) r w v = w.types

  types-left : (d : Command) (r : Linked) → IsUnserved d r → Types r
  types-left Check r u = absurd u
  types-left Format r u = absurd u
  types-left Analyze r u = u.types
  types-left (Run steps asserted) r u = u.types

  no-shape : (r : Linked) → ReadsRepository bytes r → (verifies c ≡ true → Types r) → HasShapeFault c bytes → ⊥
  no-shape r a t h = types-or-not h.0 (subst Types (repositories_one bytes r h.0.repo a h.1.reads) (t h.1.verified)) h.1.first

  left-alone : (d : Command) (r other : Linked) → (IsUnserved d r → ⊥) → ReadsRepository bytes r → ReadsRepository bytes other → IsUnserved d other → ⊥
  left-alone d r other kept a b u = kept (subst (λ (x : Linked). IsUnserved d x) (repositories_one bytes other r b a) u)

  goes-on-as : (s : Status) (out line : List ℕ) → Answers c bytes s out line → Expects c bytes s
  goes-on-as s out line h =
      let f = form-of c s out line h in record {
        bad_text = λ t. absurd (read-or-not spelled bytes f.0 t.0 f.1 t.1);
        bad_link = λ t. absurd (links-or-not one bytes f.0 t.0 f.1 t.1);
        bad_shape = λ t. absurd (no-shape f.0 f.1 f.2 t);
        not_yet = λ t. absurd (left-alone c f.0 t.repo f.3 f.1 t.reads t.unserved);
        done = λ repo w. inl (ends-as repo s out line c h w);
      }

  text-fault-as : (at : ℕ) → FirstFault bytes at → Expects c bytes BadText
  text-fault-as at h = record {
    bad_text = λ t. inl refl;
    bad_link = λ t. absurd (linked-or-not spelled bytes t.0 at t.1 h);
    bad_shape = λ t. absurd (read-or-not spelled bytes t.0.repo at t.1.reads h);
    not_yet = λ t. absurd (read-or-not spelled bytes t.repo at t.reads h);
    done = λ repo w. absurd (read-or-not spelled bytes repo at (reads-of c repo w) h);
  }

  link-fault-as : (f : LinkFault) → LinksWithFault bytes f → Expects c bytes BadLink
  link-fault-as f h = record {
    bad_text = λ t. absurd (linked-or-not spelled bytes f t.0 h t.1);
    bad_link = λ t. inl refl;
    bad_shape = λ t. absurd (links-or-not one bytes t.0.repo f t.1.reads h);
    not_yet = λ t. absurd (links-or-not one bytes t.repo f t.reads h);
    done = λ repo w. absurd (links-or-not one bytes repo f (reads-of c repo w) h);
  }

  shape-fault-as : (f : ShapeFault) → HasFirst c bytes f → Expects c bytes BadShape
  shape-fault-as f h = record {
    bad_text = λ t. absurd (read-or-not spelled bytes f.repo t.0 h.reads t.1);
    bad_link = λ t. absurd (links-or-not one bytes f.repo t.0 h.reads t.1);
    bad_shape = λ t. inl refl;
    not_yet = λ t. absurd (no-shape t.repo t.reads (λ v. types-left c t.repo t.unserved) (f, h));
    done = λ repo w. absurd (no-shape repo (reads-of c repo w) (types-of c repo w) (f, h));
  }

  served-or-not : (d : Command) (r repo : Linked) → ReadsRepository bytes r → IsUnserved d r → IsServed d bytes repo → ⊥
  served-or-not Check r repo a u w = u
  served-or-not Format r repo a u w = u
  served-or-not Analyze r repo a u w = no-form bytes r repo (repositories_one bytes r repo a w.reads) u.other w
  served-or-not (Run steps asserted) r repo a u w = no-form bytes r repo (repositories_one bytes r repo a w.reads) u.other w

  other-as : IsOtherText c bytes → Expects c bytes NotYet
  other-as h = record {
    bad_text = λ t. absurd (read-or-not spelled bytes h.repo t.0 h.reads t.1);
    bad_link = λ t. absurd (links-or-not one bytes h.repo t.0 h.reads t.1);
    bad_shape = λ t. absurd (no-shape h.repo h.reads (λ v. types-left c h.repo h.unserved) t);
    not_yet = λ t. inl refl;
    done = λ repo w. absurd (served-or-not c h.repo repo h.reads h.unserved w);
  }

  accepted : (left rest : Option (List ℕ)) (before now : ℕ) (s : Status) (out line : List ℕ) → Obeys c left rest before now s out line
      → left ≡ Some bytes → length bytes ≤ limit_of c → Expects c bytes s
  accepted left rest before now Done out line a e l = goes-on-as Done out line (both left bytes (λ b. Answers c b Done out line) e a.found)
  accepted left rest before now Uncaught out line a e l = goes-on-as Uncaught out line (both left bytes (λ b. Answers c b Uncaught out line) e a.found)
  accepted left rest before now StepsSpent out line a e l = goes-on-as StepsSpent out line (both left bytes (λ b. Answers c b StepsSpent out line) e a.found)
  accepted left rest before now AssertFalse out line a e l = goes-on-as AssertFalse out line (both left bytes (λ b. Answers c b AssertFalse out line) e a.found)
  accepted left rest before now Usage out line a e l = absurd a
  accepted left rest before now BadText out line a e l = text-fault-as a.0 (both left bytes (λ b. FirstFault b a.0) e a.1.found)
  accepted left rest before now BadLink out line a e l = link-fault-as a.0 (both left bytes (λ b. LinksWithFault b a.0) e a.1.found)
  accepted left rest before now BadShape out line a e l = shape-fault-as a.0 (both left bytes (λ b. HasFirst c b a.0) e a.1.found)
  accepted left rest before now TooLong out line a e l =
      let longer : limit_of c < length bytes = both left bytes (λ b. limit_of c < length b) e a.0 in absurd (omega (arith, longer, l))
  accepted left rest before now NoMemory out line a e l = wants-as c bytes NoMemory (inl refl)
  accepted left rest before now NotYet out line a e l = other-as (both left bytes (IsOtherText c) e a.0.found)
  accepted left rest before now ReadFault out line a e l = wants-as c bytes ReadFault (inr (inl refl))
  accepted left rest before now WriteFault out line a e l = absurd a

pub accepted-answer : SpellsOne → SpelledIsFaultless → (words : List (List ℕ)) (left rest : Option (List ℕ)) (before now : ℕ) (s : Status) (out line : List ℕ)
    → IsAnswer words left rest before now s out line → Accepts words left s
accepted-answer one spelled words left rest before now s out line a c bytes w e l =
    accepted one spelled c bytes left rest before now s out line (subst (λ (o : Option Command). OfCommand o left rest before now s out line) w a) e l

delivered-as : (words : List (List ℕ)) (left : Option (List ℕ)) (s t : Status) → s ≡ t → Accepts words left t → Accepts words left s
delivered-as words left s t e a = subst (Accepts words left) (sym e) a

-- the status that is delivered is that of the answer, or says that a write failed
pub accepted-delivered : (words : List (List ℕ)) (left : Option (List ℕ)) (s t : Status) → (s ≢ WriteFault → s ≡ t) → Accepts words left t → Accepts words left s
accepted-delivered words left Done t h a = delivered-as words left Done t (h (λ e. cc)) a
accepted-delivered words left Uncaught t h a = delivered-as words left Uncaught t (h (λ e. cc)) a
accepted-delivered words left StepsSpent t h a = delivered-as words left StepsSpent t (h (λ e. cc)) a
accepted-delivered words left AssertFalse t h a = delivered-as words left AssertFalse t (h (λ e. cc)) a
accepted-delivered words left Usage t h a = delivered-as words left Usage t (h (λ e. cc)) a
accepted-delivered words left BadText t h a = delivered-as words left BadText t (h (λ e. cc)) a
accepted-delivered words left BadLink t h a = delivered-as words left BadLink t (h (λ e. cc)) a
accepted-delivered words left BadShape t h a = delivered-as words left BadShape t (h (λ e. cc)) a
accepted-delivered words left TooLong t h a = delivered-as words left TooLong t (h (λ e. cc)) a
accepted-delivered words left NoMemory t h a = delivered-as words left NoMemory t (h (λ e. cc)) a
accepted-delivered words left NotYet t h a = delivered-as words left NotYet t (h (λ e. cc)) a
accepted-delivered words left ReadFault t h a = delivered-as words left ReadFault t (h (λ e. cc)) a
accepted-delivered words left WriteFault t h a = λ c bytes w e l. wants-as c bytes WriteFault (inr (inr refl))
