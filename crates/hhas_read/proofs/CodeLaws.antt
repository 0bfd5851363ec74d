-- Instructions and codes stand apart from what follows, have one value, and begin with a reserved word that is none of
-- assertions.
use Rattle.std.proofs.Common.{◌≡◌, true, false, ℕ, List, [], ◌∷◌, ◌++◌, refl, sym, ap, ◌∙◌, codes, subst}
use Rattle.std.specs.Str.{bytes_eq}
use Rattle.std.proofs.lemmas.Slice.Eq.{bytes_eq-Decides}
use Rattle.hhas_lex.specs.Tokens.{Token, Word, front}
use Rattle.hhbc_ops.specs.declared.op.Op.{Op}
use Rattle.hhbc_ops.specs.declared.op.Op.TheVariants as ops
use Rattle.hhbc_ops.specs.Ops.{op_name, kinds_of}
use Rattle.hhbc_ops.proofs.Names.{names_differ}
use Rattle.hhbc_repo.specs.declared.parts.BaseParts.{BaseParts}
use Rattle.hhbc_repo.specs.declared.parts.BaseParts.TheVariants as bases
use Rattle.hhbc_repo.specs.declared.parts.CodeParts.{CodeParts}
use Rattle.hhbc_repo.specs.declared.parts.CodeParts.TheVariants as forms
use Rattle.hhbc_repo.specs.declared.parts.InstrParts.{InstrParts}
use Rattle.hhbc_repo.specs.CodeSyntax.{ABase, ACode, AnInstruction, Operands, is_reserved}
use Rattle.hhas_read.specs.Reading.{Placed, next}
use Rattle.hhas_read.specs.Written.{ends_type}
use Rattle.hhas_read.proofs.Joining.{Lawful}
use Rattle.hhas_read.proofs.Reserved.{never_both}
use Rattle.hhas_read.proofs.Said.{same_word}
use Rattle.hhas_read.proofs.FormLaws.{base_word}
use Rattle.hhas_read.proofs.MemberLaws.{member_law}
use Rattle.hhas_read.proofs.OperandRuns.{kinds_last, operands_lawful}
use Rattle.hhas_read.proofs.CodeForms.{code_begins, code_name, instruction_begins, op_no_base, plain_resumes, some_instruction, with_operands}
use Rattle.hhas_read.proofs.Resuming.{Resumes}

same_op : (a b x y : List Token) (i j : InstrParts) → AnInstruction a i → AnInstruction b j → a ++ x ≡ b ++ y → i.op ≡ j.op
same_op a b x y i j n m e = names_differ i.op j.op (same_word (op_name i.op) (op_name j.op) (sym (instruction_begins a i x n) ∙ ap front e ∙ instruction_begins b j y m))

abbrev without_first : List Token → List Token
without_first [] = []
without_first (t ∷ ts) = ts

pub instruction_law : Lawful ends_type AnInstruction
instruction_law = record {
  same = λ a b x y v w n m o p e.
      let is = same_op a b x y v w n m e in
      let rest : n.rest ++ x ≡ m.rest ++ y = ap without_first (sym (ap (λ l. l ++ x) n.tokens) ∙ e ∙ ap (λ l. l ++ y) m.tokens) in
      let s = (operands_lawful (kinds_of w.op) (kinds_last w.op)).same n.rest m.rest x y v.imms w.imms (subst (λ k. Operands (kinds_of k) n.rest v.imms) is n.word) m.word o p rest in
      (n.tokens ∙ (λ i. Word (op_name (is i)) ∷ s.0 i) ∙ sym m.tokens, λ i. with_operands (is i) (s.1 i));
  some = some_instruction;
}

differ : {A : Type 0} (a b : List ℕ) → bytes_eq a b ≡ false → Word a ≡ Word b → A
differ a b d e = absurd (never_both (sym ((bytes_eq-Decides a b).1 (same_word a b e)) ∙ d))

code_same : (a b x y : List Token) (c d : CodeParts) → ACode a c → ACode b d → ends_type (front x) ≡ true → ends_type (front y) ≡ true → a ++ x ≡ b ++ y → (a ≡ b) × (c ≡ d)
code_same a b x y (forms.Plain i) (forms.Plain j) n m o p e = let s = instruction_law.same a b x y i j n m o p e in (s.0, ap forms.Plain s.1)
code_same a b x y (forms.Member i) (forms.Member j) n m o p e = let s = member_law.same a b x y i j n m refl refl e in (s.0, ap forms.Member s.1)
code_same a b x y (forms.Plain i) (forms.Member j) n m o p e =
    differ (op_name i.op) (base_word j.base) (op_no_base i.op j.base) (sym (code_begins a (forms.Plain i) x n) ∙ ap front e ∙ code_begins b (forms.Member j) y m)
code_same a b x y (forms.Member i) (forms.Plain j) n m o p e =
    differ (op_name j.op) (base_word i.base) (op_no_base j.op i.base) (sym (code_begins b (forms.Plain j) y m) ∙ ap front (sym e) ∙ code_begins a (forms.Member i) x n)

pub code_law : Lawful ends_type ACode
code_law = record {
  same = λ a b x y v w n m o p e. code_same a b x y v w n m o p e;
  some = record { more = some_instruction.more; value = forms.Plain some_instruction.value; word = some_instruction.word; proper = some_instruction.proper };
}

-- ---- the first word

reserved_op : (op : Op) → is_reserved (op_name op) ≡ true
reserved_op ops.Nop = refl
reserved_op _ = refl

reserved_base : (b : BaseParts) → is_reserved (base_word b) ≡ true
unfolding Rattle.hhbc_repo.specs.CodeSyntax.other_names
reserved_base (bases.Local w) = refl
reserved_base (bases.Stack n) = refl
reserved_base bases.This = refl

split_base : (w : List Token) (b : BaseParts) → ABase w b → (rest : List Token) × (w ≡ Word (base_word b) ∷ rest)
split_base w (bases.Local u) n = (n.rest, n.tokens)
split_base w (bases.Stack i) n = (n.rest, n.tokens)
split_base w bases.This n = ([], n)

pub code_word : (w : List Token) (c : CodeParts) → ACode w c → (name : List ℕ) × (rest : List Token) × (w ≡ Word name ∷ rest) × (is_reserved name ≡ true)
code_word w (forms.Plain i) n = (op_name i.op, n.rest, n.tokens, reserved_op i.op)
code_word w (forms.Member m) n =
    let b = split_base n.word.first m.base n.word.left in
    (base_word m.base, b.0 ++ n.word.second, n.word.tokens ∙ ap (λ l. l ++ n.word.second) b.1, reserved_base m.base)

no_local_claim : (c : CodeParts) → bytes_eq (code_name c) (codes "AssertRATL") ≡ false
no_local_claim (forms.Plain i) = by i.op
  where
    by : (op : Op) → bytes_eq (op_name op) (codes "AssertRATL") ≡ false
    by ops.Nop = refl
    by _ = refl
no_local_claim (forms.Member m) = by m.base
  where
    by : (b : BaseParts) → bytes_eq (base_word b) (codes "AssertRATL") ≡ false
    by (bases.Local w) = refl
    by _ = refl

no_stack_claim : (c : CodeParts) → bytes_eq (code_name c) (codes "AssertRATStk") ≡ false
no_stack_claim (forms.Plain i) = by i.op
  where
    by : (op : Op) → bytes_eq (op_name op) (codes "AssertRATStk") ≡ false
    by ops.Nop = refl
    by _ = refl
no_stack_claim (forms.Member m) = by m.base
  where
    by : (b : BaseParts) → bytes_eq (base_word b) (codes "AssertRATStk") ≡ false
    by (bases.Local w) = refl
    by _ = refl

-- nor is one an instruction's
pub op_no_claim : (op : Op) (t : Token) → t ≡ Word (op_name op) → (t ≡ Word (codes "AssertRATL") → ⊥) × (t ≡ Word (codes "AssertRATStk") → ⊥)
op_no_claim op t is = (
  λ e. differ (op_name op) (codes "AssertRATL") (no_local_claim (forms.Plain (with_operands op []))) (sym is ∙ e),
  λ e. differ (op_name op) (codes "AssertRATStk") (no_stack_claim (forms.Plain (with_operands op []))) (sym is ∙ e),
)

pub code_no_claim : (w : List Token) (c : CodeParts) (x : List Token) → ACode w c → (front (w ++ x) ≡ Word (codes "AssertRATL") → ⊥) × (front (w ++ x) ≡ Word (codes "AssertRATStk") → ⊥)
code_no_claim w c x n = (
  λ e. differ (code_name c) (codes "AssertRATL") (no_local_claim c) (sym (code_begins w c x n) ∙ e),
  λ e. differ (code_name c) (codes "AssertRATStk") (no_stack_claim c) (sym (code_begins w c x n) ∙ e),
)

-- an instruction is next
pub named_code : (op : Op) (old : Placed) → next old ≡ Word (op_name op) → Resumes ends_type ACode [] AnInstruction forms.Plain old.tokens
named_code op old is = plain_resumes old.tokens (λ b e. differ (op_name op) (base_word b) (op_no_base op b) (sym is ∙ e))
