-- Natives as a list: of each the name, how many arguments it takes, and the type of what it answers.
use Rattle.std.specs.Prelude.{◌≡◌, ℕ, Bool, true, false, cond, is_some, List, [], ◌∷◌, Option, Some, None}
use Rattle.std.specs.Str.{bytes_eq}
use Rattle.hack_values.specs.Natives.{native_value}
use Rattle.hack_values.specs.declared.cell.Cell.{Cell}
use Rattle.type_lattice.specs.InRange.{is_proper}
use Rattle.type_lattice.specs.Types.{never}
use Rattle.type_lattice.specs.declared.types.HType.{HType}
use Rattle.type_lattice.specs.declared.types.IntPart.TheVariants as ints
use Rattle.type_lattice.specs.declared.types.StrPart.TheVariants as strs
use Rattle.native_table.specs.Answers.{AreArguments, IsOfType}

pub record NativeRow : Type 0 where
  pub name : List ℕ
  pub arity : ℕ
  pub answers : HType

-- the first of a name
abbrev pub named : {A : Type 0} → (A → List ℕ) → List A → List ℕ → Option A
named name_of [] name = None
named name_of (a ∷ more) name = cond (bytes_eq name (name_of a)) (Some a) (named name_of more name)

abbrev pub native_named : List NativeRow → List ℕ → Option NativeRow
native_named rows name = named (λ row. row.name) rows name

abbrev pub has_native : List NativeRow → List ℕ → Bool
has_native rows name = is_some (native_named rows name)

-- whatever the native of the name gives for so many arguments is of the type
abbrev pub HoldsValues : List ℕ → ℕ → HType → Type 0
HoldsValues name arity answers = (args : List Cell) (c : Cell) → AreArguments arity args → native_value name args ≡ Some c → IsOfType c answers

-- the type of a native's answers has no Uninit and names no class, and holds all that it gives
pub record IsTyped (row : NativeRow) : Type 0 where
  pub initialised : row.answers.uninit ≡ false
  pub classless : is_proper 0 row.answers ≡ true
  pub holds : HoldsValues row.name row.arity row.answers

-- every int, and every string
abbrev pub any_int : HType
any_int = record never { int = ints.Any }

abbrev pub any_str : HType
any_str = record never { str = strs.Any }
