-- Laws of the table of instructions.
use Rattle.std.specs.Prelude.{◌≡◌, ◌≤◌, Bool, true, false, List, ◌∷◌, length}
use Rattle.hhbc_ops.specs.declared.words.Flavour.{Flavour}
use Rattle.hhbc_ops.specs.declared.op.Op.{Op}
use Rattle.hhbc_ops.specs.declared.words.ImmKind.{ImmKind}
use Rattle.hhbc_ops.specs.declared.words.ImmKind.TheVariants as kinds
use Rattle.hhbc_ops.specs.declared.words.OperandUse.{OperandUse}
use Rattle.hhbc_ops.specs.declared.words.OperandUse.TheVariants as uses
use Rattle.hhbc_ops.specs.Ops.{Row, op_name, table}
use Rattle.hhbc_ops.specs.Stacks.{Pops, Fixed, Counted}

-- no two instructions have the same name
abbrev pub NamesDiffer : Type 0
NamesDiffer = (a b : Op) → op_name a ≡ op_name b → a ≡ b

-- what may be done with a first operand of this kind
abbrev pub use_fits : List ImmKind → OperandUse → Bool
use_fits (kinds.Local ∷ _) uses.ReadsLocal = true
use_fits (kinds.Local ∷ _) uses.SetsLocal = true
use_fits (kinds.Local ∷ _) _ = false
use_fits (kinds.Iter ∷ _) uses.BeginsIter = true
use_fits (kinds.Iter ∷ _) uses.AdvancesIter = true
use_fits (kinds.Iter ∷ _) uses.FreesIter = true
use_fits (kinds.Iter ∷ _) _ = false
use_fits _ uses.Nothing = true
use_fits _ _ = false

-- the slots are counted by a count
abbrev pub pops_fit : List ImmKind → Pops → Bool
pops_fit (kinds.Count ∷ _) _ = true
pops_fit _ (Fixed _) = true
pops_fit _ (Counted _) = false

-- the flavours that it names
abbrev pub flavours_of : Pops → List Flavour
flavours_of (Fixed flavours) = flavours
flavours_of (Counted flavours) = flavours

-- each instruction says what it does with a local or an iterator that is its first operand, and with no other; what is
-- counted has a count there, and few slots are named
pub record RowFits (r : Row) : Type 0 where
  pub operand : use_fits r.kinds r.operand ≡ true
  pub pops : pops_fit r.kinds r.pops ≡ true
  pub few : length (flavours_of r.pops) ≤ 3

abbrev pub RowsFit : Type 0
RowsFit = (op : Op) → RowFits (table op)
