-- The names of instructions and the words of operands are words.
use Rattle.std.proofs.Common.{◌≡◌, true, refl}
use Rattle.hhas_lex.specs.Spelling.{is_word}
use Rattle.hhbc_ops.specs.declared.op.Op.{Op}
use Rattle.hhbc_ops.specs.declared.op.Op.TheVariants as ops
use Rattle.hhbc_ops.specs.declared.words.IncDecOp.{IncDecOp}
use Rattle.hhbc_ops.specs.declared.words.IncDecOp.TheVariants as changes
use Rattle.hhbc_ops.specs.declared.words.IsTypeOp.{IsTypeOp}
use Rattle.hhbc_ops.specs.declared.words.IsTypeOp.TheVariants as types
use Rattle.hhbc_ops.specs.declared.words.QueryMode.{QueryMode}
use Rattle.hhbc_ops.specs.declared.words.QueryMode.TheVariants as modes
use Rattle.hhbc_ops.specs.declared.words.SetOpOp.{SetOpOp}
use Rattle.hhbc_ops.specs.declared.words.SetOpOp.TheVariants as set_ops
use Rattle.hhbc_ops.specs.Ops.{op_name}
use Rattle.hhbc_ops.specs.Words.{set_op_name, inc_dec_name, query_mode_name, is_type_name}

pub op_word : (op : Op) → is_word (op_name op) ≡ true
op_word ops.Nop = refl
op_word _ = refl

pub set_op_word : (op : SetOpOp) → is_word (set_op_name op) ≡ true
set_op_word set_ops.PlusEqual = refl
set_op_word _ = refl

pub inc_dec_word : (op : IncDecOp) → is_word (inc_dec_name op) ≡ true
inc_dec_word changes.PreInc = refl
inc_dec_word _ = refl

pub query_mode_word : (mode : QueryMode) → is_word (query_mode_name mode) ≡ true
query_mode_word modes.CGet = refl
query_mode_word _ = refl

pub is_type_word : (op : IsTypeOp) → is_word (is_type_name op) ≡ true
is_type_word types.Null = refl
is_type_word _ = refl
