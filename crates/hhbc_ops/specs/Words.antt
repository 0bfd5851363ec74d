-- The words of operands.
use Rattle.std.specs.Prelude.{ℕ, List, codes}
use Rattle.hhbc_ops.specs.declared.words.SetOpOp.{SetOpOp}
use Rattle.hhbc_ops.specs.declared.words.SetOpOp.TheVariants as set_ops
use Rattle.hhbc_ops.specs.declared.words.IncDecOp.{IncDecOp}
use Rattle.hhbc_ops.specs.declared.words.IncDecOp.TheVariants as changes
use Rattle.hhbc_ops.specs.declared.words.QueryMode.{QueryMode}
use Rattle.hhbc_ops.specs.declared.words.QueryMode.TheVariants as modes
use Rattle.hhbc_ops.specs.declared.words.IsTypeOp.{IsTypeOp}
use Rattle.hhbc_ops.specs.declared.words.IsTypeOp.TheVariants as types

abbrev pub set_op_name : SetOpOp → List ℕ
set_op_name set_ops.PlusEqual = codes "PlusEqual"
set_op_name set_ops.MinusEqual = codes "MinusEqual"
set_op_name set_ops.MulEqual = codes "MulEqual"
set_op_name set_ops.ModEqual = codes "ModEqual"
set_op_name set_ops.ConcatEqual = codes "ConcatEqual"
set_op_name set_ops.AndEqual = codes "AndEqual"
set_op_name set_ops.OrEqual = codes "OrEqual"
set_op_name set_ops.XorEqual = codes "XorEqual"
set_op_name set_ops.SlEqual = codes "SlEqual"
set_op_name set_ops.SrEqual = codes "SrEqual"

abbrev pub inc_dec_name : IncDecOp → List ℕ
inc_dec_name changes.PreInc = codes "PreInc"
inc_dec_name changes.PostInc = codes "PostInc"
inc_dec_name changes.PreDec = codes "PreDec"
inc_dec_name changes.PostDec = codes "PostDec"

abbrev pub query_mode_name : QueryMode → List ℕ
query_mode_name modes.CGet = codes "CGet"
query_mode_name modes.CGetQuiet = codes "CGetQuiet"
query_mode_name modes.Isset = codes "Isset"

abbrev pub is_type_name : IsTypeOp → List ℕ
is_type_name types.Null = codes "Null"
is_type_name types.Bool = codes "Bool"
is_type_name types.Int = codes "Int"
is_type_name types.Str = codes "Str"
is_type_name types.Vec = codes "Vec"
is_type_name types.Dict = codes "Dict"
is_type_name types.Keyset = codes "Keyset"
is_type_name types.Obj = codes "Obj"
