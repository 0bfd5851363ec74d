-- Operands stand apart from what follows, and have one value.
use Rattle.std.proofs.Common.{◌≡◌, ℕ, [], ◌∷◌, ◌++◌, refl, sym, ap, ◌∙◌, pos, arith, Some}
use Rattle.hhas_lex.specs.Tokens.{Integer, Word}
use Rattle.hhbc_ops.specs.declared.words.QueryMode.{QueryMode}
use Rattle.hhbc_ops.specs.declared.words.QueryMode.TheVariants as modes
use Rattle.hhbc_ops.specs.declared.words.SetOpOp.{SetOpOp}
use Rattle.hhbc_ops.specs.declared.words.SetOpOp.TheVariants as set_ops
use Rattle.hhbc_ops.specs.declared.words.IncDecOp.{IncDecOp}
use Rattle.hhbc_ops.specs.declared.words.IncDecOp.TheVariants as changes
use Rattle.hhbc_ops.specs.Words.{set_op_name, inc_dec_name, query_mode_name}
use Rattle.hhbc_ops.proofs.Names.{set_op_found, inc_dec_found, query_mode_found}
use Rattle.hhbc_repo.specs.CodeSyntax.{AChange, AMode, AnIndex, ASetOp, UpTo}
use Rattle.hhas_read.specs.Reading.{any}
use Rattle.hhas_read.proofs.Joining.{Lawful}
use Rattle.hhas_read.proofs.OneToken.{single_lawful}
use Rattle.hhas_read.proofs.Said.{same_integer, same_word}

same_pos : (i j : ℕ) → pos i ≡ pos j → i ≡ j
same_pos i j e = cc e

pub same_some : {A : Type 0} (a b : A) → Some a ≡ Some b → a ≡ b
same_some a b e = cc e

pub number_lawful : (most : ℕ) → Lawful any (UpTo most)
number_lawful most = record {
  same = λ a b x y u w n m o p d.
      let s = same_pos u w (same_integer (pos u) (pos w) (cc (d, ap (λ l. l ++ x) n.0, ap (λ l. l ++ y) m.0))) in
      (n.0 ∙ ap (λ z. Integer (pos z) ∷ []) s ∙ sym m.0, s);
  some = record { more = Integer (pos 0) ∷ []; value = 0; word = (refl, omega arith); proper = refl };
}

pub index_lawful : Lawful any AnIndex
index_lawful = number_lawful 254

same_mode : (a b : QueryMode) → Word (query_mode_name a) ≡ Word (query_mode_name b) → a ≡ b
same_mode a b e =
    same_some a b (sym (query_mode_found a (query_mode_name b) (same_word (query_mode_name a) (query_mode_name b) e)) ∙ query_mode_found b (query_mode_name b) refl)

pub mode_lawful : Lawful any AMode
mode_lawful = single_lawful (λ op. Word (query_mode_name op)) any modes.CGet refl same_mode

same_set_op : (a b : SetOpOp) → Word (set_op_name a) ≡ Word (set_op_name b) → a ≡ b
same_set_op a b e =
    same_some a b (sym (set_op_found a (set_op_name b) (same_word (set_op_name a) (set_op_name b) e)) ∙ set_op_found b (set_op_name b) refl)

pub set_op_lawful : Lawful any ASetOp
set_op_lawful = single_lawful (λ op. Word (set_op_name op)) any set_ops.PlusEqual refl same_set_op

same_change : (a b : IncDecOp) → Word (inc_dec_name a) ≡ Word (inc_dec_name b) → a ≡ b
same_change a b e =
    same_some a b (sym (inc_dec_found a (inc_dec_name b) (same_word (inc_dec_name a) (inc_dec_name b) e)) ∙ inc_dec_found b (inc_dec_name b) refl)

pub change_lawful : Lawful any AChange
change_lawful = single_lawful (λ op. Word (inc_dec_name op)) any changes.PreInc refl same_change
