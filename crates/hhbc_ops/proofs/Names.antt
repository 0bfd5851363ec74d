-- Instructions and words of operands by their names.
use Rattle.std.proofs.Common.{◌≡◌, ◌≢◌, ℕ, refl, List, [], ◌∷◌, length, Some, MatchOption}
use Rattle.hhbc_ops.specs.declared.op.Op.{Op}
use Rattle.hhbc_ops.specs.declared.op.Op.TheVariants as ops
use Rattle.hhbc_ops.specs.declared.words.SetOpOp.{SetOpOp}
use Rattle.hhbc_ops.specs.declared.words.SetOpOp.TheVariants as set_ops
use Rattle.hhbc_ops.specs.declared.words.IncDecOp.{IncDecOp}
use Rattle.hhbc_ops.specs.declared.words.IncDecOp.TheVariants as changes
use Rattle.hhbc_ops.specs.declared.words.QueryMode.{QueryMode}
use Rattle.hhbc_ops.specs.declared.words.QueryMode.TheVariants as modes
use Rattle.hhbc_ops.specs.declared.words.IsTypeOp.{IsTypeOp}
use Rattle.hhbc_ops.specs.declared.words.IsTypeOp.TheVariants as types
use Rattle.hhbc_ops.specs.Names.{first_named}
use Rattle.hhbc_ops.specs.Ops.{op_name, of_length, op_called}
use Rattle.hhbc_ops.specs.Words.{set_op_name, inc_dec_name, query_mode_name, is_type_name}
use Rattle.hhbc_ops.specs.Laws.{NamesDiffer}
use Rattle.hhbc_ops.proofs.Finding as finding

abbrev ops_for : List ℕ → List Op
ops_for name = of_length (length name)

op_listed : (op : Op) → first_named op_name (ops_for (op_name op)) (op_name op) ≡ Some op
op_listed ops.Nop = refl
op_listed _ = refl

pub op_found : (op : Op) (name : List ℕ) → op_name op ≡ name → op_called name ≡ Some op
op_found = finding.each_named op_name ops_for op_listed

pub op_only : (name : List ℕ) → MatchOption (op_called name) ((op : Op) → op_name op ≢ name) (λ op. op_name op ≡ name)
op_only = finding.only_named op_name ops_for op_listed

pub names_differ : NamesDiffer
names_differ = finding.names_differ op_name ops_for op_listed

abbrev pub all_set_ops : List SetOpOp
all_set_ops = set_ops.PlusEqual ∷ set_ops.MinusEqual ∷ set_ops.MulEqual ∷ set_ops.ModEqual ∷ set_ops.ConcatEqual ∷ set_ops.AndEqual ∷ set_ops.OrEqual ∷ set_ops.XorEqual ∷ set_ops.SlEqual ∷ set_ops.SrEqual ∷ []

set_op_listed : (op : SetOpOp) → first_named set_op_name all_set_ops (set_op_name op) ≡ Some op
set_op_listed set_ops.PlusEqual = refl
set_op_listed _ = refl

pub set_op_found : (op : SetOpOp) (name : List ℕ) → set_op_name op ≡ name → first_named set_op_name all_set_ops name ≡ Some op
set_op_found = finding.each_named set_op_name (λ name. all_set_ops) set_op_listed

pub set_op_only : (name : List ℕ) → MatchOption (first_named set_op_name all_set_ops name) ((op : SetOpOp) → set_op_name op ≢ name) (λ op. set_op_name op ≡ name)
set_op_only = finding.only_named set_op_name (λ name. all_set_ops) set_op_listed

abbrev pub all_changes : List IncDecOp
all_changes = changes.PreInc ∷ changes.PostInc ∷ changes.PreDec ∷ changes.PostDec ∷ []

inc_dec_listed : (op : IncDecOp) → first_named inc_dec_name all_changes (inc_dec_name op) ≡ Some op
inc_dec_listed changes.PreInc = refl
inc_dec_listed _ = refl

pub inc_dec_found : (op : IncDecOp) (name : List ℕ) → inc_dec_name op ≡ name → first_named inc_dec_name all_changes name ≡ Some op
inc_dec_found = finding.each_named inc_dec_name (λ name. all_changes) inc_dec_listed

pub inc_dec_only : (name : List ℕ) → MatchOption (first_named inc_dec_name all_changes name) ((op : IncDecOp) → inc_dec_name op ≢ name) (λ op. inc_dec_name op ≡ name)
inc_dec_only = finding.only_named inc_dec_name (λ name. all_changes) inc_dec_listed

abbrev pub all_modes : List QueryMode
all_modes = modes.CGet ∷ modes.CGetQuiet ∷ modes.Isset ∷ []

query_mode_listed : (op : QueryMode) → first_named query_mode_name all_modes (query_mode_name op) ≡ Some op
query_mode_listed modes.CGet = refl
query_mode_listed _ = refl

pub query_mode_found : (op : QueryMode) (name : List ℕ) → query_mode_name op ≡ name → first_named query_mode_name all_modes name ≡ Some op
query_mode_found = finding.each_named query_mode_name (λ name. all_modes) query_mode_listed

pub query_mode_only : (name : List ℕ) → MatchOption (first_named query_mode_name all_modes name) ((op : QueryMode) → query_mode_name op ≢ name) (λ op. query_mode_name op ≡ name)
query_mode_only = finding.only_named query_mode_name (λ name. all_modes) query_mode_listed

abbrev pub all_types : List IsTypeOp
all_types = types.Null ∷ types.Bool ∷ types.Int ∷ types.Str ∷ types.Vec ∷ types.Dict ∷ types.Keyset ∷ types.Obj ∷ []

is_type_listed : (op : IsTypeOp) → first_named is_type_name all_types (is_type_name op) ≡ Some op
is_type_listed types.Null = refl
is_type_listed _ = refl

pub is_type_found : (op : IsTypeOp) (name : List ℕ) → is_type_name op ≡ name → first_named is_type_name all_types name ≡ Some op
is_type_found = finding.each_named is_type_name (λ name. all_types) is_type_listed

pub is_type_only : (name : List ℕ) → MatchOption (first_named is_type_name all_types name) ((op : IsTypeOp) → is_type_name op ≢ name) (λ op. is_type_name op ≡ name)
is_type_only = finding.only_named is_type_name (λ name. all_types) is_type_listed
