-- Positions stand apart from what follows them, and each has one value.
use Rattle.std.proofs.Common.{◌≡◌, ℕ, true, false, List, [], ◌∷◌, ◌++◌, inl, inr, refl, ap, ◌∙◌, Err}
use Rattle.hhas_lex.specs.Tokens.{Token, Word, front}
use Rattle.hhbc_ops.specs.declared.op.Op.{Op}
use Rattle.hhbc_ops.specs.Ops.{op_name}
use Rattle.hhbc_repo.specs.declared.parts.AssertParts.{AssertParts}
use Rattle.hhbc_repo.specs.declared.parts.AssertParts.TheVariants as claims
use Rattle.hhbc_repo.specs.declared.parts.CodeParts.{CodeParts}
use Rattle.hhbc_repo.specs.declared.parts.CodeParts.TheVariants as forms
use Rattle.hhbc_repo.specs.declared.parts.PositionParts.{PositionParts}
use Rattle.hhbc_repo.specs.BodySyntax.{AnAssert, APosition}
use Rattle.hhbc_repo.specs.CodeSyntax.{ACode, AnInstruction, is_reserved}
use Rattle.hhas_read.specs.declared.reader.Stop.{Stop}
use Rattle.hhas_read.specs.Assertions.{IsAssertionNext}
use Rattle.hhas_read.specs.Reading.{Past, Placed, Reads, Taken, next}
use Rattle.hhas_read.specs.Written.{ends_type}
use Rattle.hhas_read.proofs.Resuming.{Resumes, past_none, past_on, resumes_then}
use Rattle.hhas_read.proofs.Joining.{Lawful, LeadsOn}
use Rattle.hhas_read.proofs.Following.{Avoids}
use Rattle.hhas_read.proofs.Runs.{Run, run_leads, run_none}
use Rattle.hhas_read.proofs.Many.{Apart, RunTaken, last_next, none_taken, one_stops, one_taken, run_lawful}
use Rattle.hhas_read.proofs.AssertionForms.{assertion_law, assertion_begins, assertion_leads, assertion_split, assertion_word, no_assertion}
use Rattle.hhas_read.proofs.CodeLaws.{code_law, code_no_claim, code_word, named_code, op_no_claim}

abbrev pub AssertionsAndCode : Type 0
AssertionsAndCode = List AssertParts × CodeParts

abbrev pub of_run : AssertionsAndCode → PositionParts
of_run p = record { asserts = p.0; code = p.1 }

-- ---- what follows an assertion

code_leads : LeadsOn ends_type ACode ends_type
code_leads w c x n o = ap (λ l. ends_type (front (l ++ x))) (code_word w c n).2

pub more_leads : LeadsOn ends_type (Run AnAssert ACode) ends_type
more_leads = run_leads ends_type ends_type AnAssert ACode code_leads assertion_leads

pub no_code : (p : Placed) → IsAssertionNext p true → Avoids ends_type ACode (next p)
no_code p (inl is) w c x n o e = (code_no_claim w c x n).0 (e ∙ is)
no_code p (inr is) w c x n o e = (code_no_claim w c x n).1 (e ∙ is)

assertions_apart : Apart ends_type ends_type AnAssert ACode
assertions_apart w (claims.Local name t) x n o b c y m p e = (code_no_claim b c y m).0 (e ∙ assertion_begins w (claims.Local name t) x n)
assertions_apart w (claims.Stack k t) x n o b c y m p e = (code_no_claim b c y m).1 (e ∙ assertion_begins w (claims.Stack k t) x n)

-- ---- positions

pub position_resumes : (left : List Token) → Resumes ends_type APosition [] (Run AnAssert ACode) of_run left
position_resumes left = record { on = λ ts u m. m; back = λ w v x y n o h e. (w, (v.asserts, v.code), n, refl, refl) }

run_law : Lawful ends_type (Run AnAssert ACode)
run_law = run_lawful ends_type ends_type AnAssert ACode more_leads assertion_law code_law assertions_apart

pub position_law : Lawful ends_type APosition
position_law = record {
  same = λ a b x y v w n m o p e. let s = run_law.same a b x y (v.asserts, v.code) (w.asserts, w.code) n m o p e in (s.0, ap of_run s.1);
  some = let s = run_law.some in record { more = s.more; value = of_run s.value; word = s.word; proper = s.proper };
}

assertion_reserved : (v : AssertParts) → is_reserved (assertion_word v) ≡ true
unfolding Rattle.hhbc_repo.specs.CodeSyntax.other_names
assertion_reserved (claims.Local name t) = refl
assertion_reserved (claims.Stack n t) = refl

run_word : (w : List Token) (vs : List AssertParts) (c : CodeParts) → Run AnAssert ACode w (vs, c)
    → (name : List ℕ) × (rest : List Token) × (w ≡ Word name ∷ rest) × (is_reserved name ≡ true)
run_word w [] c n = code_word w c (run_none AnAssert ACode w c n)
run_word w (v ∷ vs) c n =
    let m = n.left in
    let s = assertion_split m.0 v m.2 in
    (assertion_word v, (s.0 ++ m.1) ++ n.second, n.tokens ∙ ap (λ l. l ++ n.second) (m.4 ∙ ap (λ l. l ++ m.1) s.1), assertion_reserved v)

-- a position begins with a reserved word
pub position_word : (w : List Token) (p : PositionParts) → APosition w p → (name : List ℕ) × (rest : List Token) × (w ≡ Word name ∷ rest) × (is_reserved name ≡ true)
position_word w p n = run_word w p.asserts p.code n

-- ---- the loop

-- the assertions so far were taken
abbrev pub AssertionsTaken : Placed → Placed → List AssertParts → Type 0
AssertionsTaken = RunTaken ends_type AnAssert ACode APosition of_run

pub no_assertions : (start : Placed) → AssertionsTaken start start []
no_assertions start = none_taken ends_type AnAssert ACode APosition of_run start (position_resumes start.tokens)

pub assertion_taken : (start old mid : Placed) (vs more : List AssertParts) (v : AssertParts) → AssertionsTaken start old vs → IsAssertionNext old true → Taken ends_type AnAssert old mid v
    → more ≡ vs ++ v ∷ [] → AssertionsTaken start mid more
assertion_taken start old mid vs more v inv is t pushed =
    one_taken ends_type AnAssert ACode APosition of_run ends_type more_leads assertion_law start old mid vs more v inv (no_code old is) t pushed

pub assertion_stops : (start old new : Placed) (vs : List AssertParts) (e : Stop) → AssertionsTaken start old vs → IsAssertionNext old true → Reads ends_type AnAssert old (Err e) new
    → Reads ends_type APosition start (Err e) new
assertion_stops start old new vs e inv is s =
    one_stops ends_type AnAssert ACode APosition of_run ends_type more_leads start old new vs e code_law.some inv (no_code old is) s

-- the code is next
pub code_next : (start old : Placed) (vs : List AssertParts) → AssertionsTaken start old vs → IsAssertionNext old false
    → (used : List Token) × Past used start old × Resumes ends_type APosition used ACode (λ c. of_run (vs, c)) old.tokens
code_next start old vs inv other = last_next ends_type AnAssert ACode APosition of_run ends_type more_leads start old vs inv (no_assertion ends_type old other)

-- an instruction is next
pub instruction_next : (op : Op) (old : Placed) → next old ≡ Word (op_name op)
    → (used : List Token) × Past used old old × Resumes ends_type APosition used AnInstruction (λ i. of_run ([], forms.Plain i)) old.tokens
instruction_next op old is =
    let far = code_next old old [] (no_assertions old) (op_no_claim op (next old) is) in (
      far.0 ++ [],
      past_on far.1 (past_none old),
      resumes_then ends_type APosition ACode AnInstruction far.0 [] old.tokens old.tokens (λ c. of_run ([], c)) forms.Plain far.2 (named_code op old is) refl,
    )
