-- Instructions and codes by the word that they begin with.
use Rattle.std.proofs.Common.{◌≡◌, false, List, ℕ, [], ◌∷◌, ◌++◌, inl, inr, refl, sym, ap, ◌∙◌, codes, subst, append_assoc, Result}
use Rattle.std.specs.Str.{bytes_eq}
use Rattle.hhas_lex.specs.Tokens.{Token, Word, front}
use Rattle.hhbc_ops.specs.declared.op.Op.{Op}
use Rattle.hhbc_ops.specs.declared.op.Op.TheVariants as ops
use Rattle.hhbc_ops.specs.Ops.{op_name, kinds_of}
use Rattle.hhbc_ops.proofs.Names.{names_differ}
use Rattle.hhbc_repo.specs.declared.parts.BaseParts.{BaseParts}
use Rattle.hhbc_repo.specs.declared.parts.BaseParts.TheVariants as bases
use Rattle.hhbc_repo.specs.declared.parts.CodeParts.{CodeParts}
use Rattle.hhbc_repo.specs.declared.parts.CodeParts.TheVariants as forms
use Rattle.hhbc_repo.specs.declared.parts.ImmParts.{ImmParts}
use Rattle.hhbc_repo.specs.declared.parts.InstrParts.{InstrParts}
use Rattle.hhbc_repo.specs.Languages.{Means}
use Rattle.hhbc_repo.specs.CodeSyntax.{ACode, AMemberSeq, AnInstruction, Operands}
use Rattle.hhas_read.specs.declared.reader.Stop.{Stop}
use Rattle.hhas_read.specs.Reading.{Follow, Placed, Reads, StuckAt, Viable, next}
use Rattle.hhas_read.specs.Written.{ends_type}
use Rattle.hhas_read.proofs.Said.{same_word}
use Rattle.hhas_read.proofs.Resuming.{Resumes, past_none, reads_on}
use Rattle.hhas_read.proofs.FirstWord.{Form, form_resumes, means_left}
use Rattle.hhas_read.proofs.FormLaws.{base_begins, base_word}

-- ---- instructions

abbrev pub with_operands : Op → List ImmParts → InstrParts
with_operands op imms = record { op = op; imms = imms }

pub instruction_begins : (w : List Token) (i : InstrParts) (x : List Token) → AnInstruction w i → front (w ++ x) ≡ Word (op_name i.op)
instruction_begins w i x n = ap (λ l. front (l ++ x)) n.tokens

-- the name was taken
pub named_resumes : (F : Follow) (op : Op) (left : List Token) → Resumes F AnInstruction (Word (op_name op) ∷ []) (Operands (kinds_of op)) (with_operands op) left
named_resumes F op left = record {
  on = λ ts u m. record { rest = ts; word = m; tokens = refl };
  back = λ w v x y n o h e.
      let is : v.op ≡ op = names_differ v.op op (same_word (op_name v.op) (op_name op) (sym (instruction_begins w v x n) ∙ ap front e)) in
      (n.rest, v.imms, subst (λ k. Operands (kinds_of k) n.rest v.imms) is n.word, n.tokens ∙ ap (λ k. Word (op_name k) ∷ n.rest) is, ap (λ k. with_operands k v.imms) is);
}

pub some_instruction : Viable AnInstruction []
some_instruction = record {
  more = Word (codes "Nop") ∷ [];
  value = with_operands ops.Nop [];
  word = record { rest = []; word = refl; tokens = refl };
  proper = refl;
}

pub instruction_stuck : (F : Follow) (p : Placed) → ((op : Op) → next p ≡ Word (op_name op) → ⊥) → StuckAt F AnInstruction p p
instruction_stuck F p other = record {
  read = [];
  past = past_none p;
  viable = some_instruction;
  dead = λ w v x y n o e. other v.op (sym (ap front e) ∙ instruction_begins w v x n);
}

-- ---- codes

-- the word that a code begins with
abbrev pub code_name : CodeParts → List ℕ
code_name (forms.Plain i) = op_name i.op
code_name (forms.Member m) = base_word m.base

pub code_begins : (w : List Token) (c : CodeParts) (x : List Token) → ACode w c → front (w ++ x) ≡ Word (code_name c)
code_begins w (forms.Plain i) x n = instruction_begins w i x n
code_begins w (forms.Member m) x n =
    ap (λ l. front (l ++ x)) n.word.tokens ∙ ap front (append_assoc n.word.first n.word.second x) ∙ base_begins n.word.first m.base (n.word.second ++ x) n.word.left

-- no instruction is called as a base
pub op_no_base : (op : Op) (b : BaseParts) → bytes_eq (op_name op) (base_word b) ≡ false
op_no_base op (bases.Local w) = no_local op
  where
    no_local : (op : Op) → bytes_eq (op_name op) (codes "BaseL") ≡ false
    no_local ops.Nop = refl
    no_local _ = refl
op_no_base op (bases.Stack n) = no_slot op
  where
    no_slot : (op : Op) → bytes_eq (op_name op) (codes "BaseC") ≡ false
    no_slot ops.Nop = refl
    no_slot _ = refl
op_no_base op bases.This = no_this op
  where
    no_this : (op : Op) → bytes_eq (op_name op) (codes "BaseH") ≡ false
    no_this ops.Nop = refl
    no_this _ = refl

pub member_form : (b : BaseParts) → Form code_name forms.Member (base_word b)
member_form b (forms.Plain i) = inr (op_no_base i.op b)
member_form b (forms.Member m) = inl (m, refl)

-- a base is next
pub base_next : (b : BaseParts) (old new : Placed) (r : Result CodeParts Stop) → next old ≡ Word (base_word b) → Reads ends_type (Means forms.Member AMemberSeq) old r new
    → Reads ends_type ACode old r new
base_next b old new r is s =
    reads_on ends_type ACode (Means forms.Member AMemberSeq) old old new [] r
    (means_left ends_type ACode [] AMemberSeq forms.Member old.tokens
    (form_resumes ACode code_name AMemberSeq forms.Member (base_word b) code_begins (member_form b) (λ w u m. m) (λ w u n. n) ends_type old.tokens is)) (past_none old) s

-- and none
pub plain_resumes : (left : List Token) → ((b : BaseParts) → front left ≡ Word (base_word b) → ⊥) → Resumes ends_type ACode [] AnInstruction forms.Plain left
plain_resumes left other = record { on = λ ts u m. m; back = λ w v x y n o h e. back w v x y n h e }
  where
    back : (w : List Token) (v : CodeParts) (x y : List Token) → ACode w v → front y ≡ front left → w ++ x ≡ y
        → (ts : List Token) × (u : InstrParts) × AnInstruction ts u × (w ≡ ts) × (v ≡ forms.Plain u)
    back w (forms.Plain i) x y n h e = (w, i, n, refl, refl)
    back w (forms.Member m) x y n h e = absurd (other m.base (sym h ∙ ap front (sym e) ∙ code_begins w (forms.Member m) x n))

pub base_cases : (t : Token) → (t ≡ Word (codes "BaseL") → ⊥) → (t ≡ Word (codes "BaseC") → ⊥) → (t ≡ Word (codes "BaseH") → ⊥) → (b : BaseParts) → t ≡ Word (base_word b) → ⊥
base_cases t no_local no_slot no_this (bases.Local w) e = no_local e
base_cases t no_local no_slot no_this (bases.Stack n) e = no_slot e
base_cases t no_local no_slot no_this bases.This e = no_this e
