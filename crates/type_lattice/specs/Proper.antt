-- Types that a program can state.
use Rattle.std.specs.Prelude.{◌≡◌, ◌<◌, ◌≤◌, ◌-◌, false, Option, Some, None, length, drop, replicate, All, FitsSigned}
use Rattle.std.proofs.Common.{w64}
use Rattle.hack_values.specs.declared.cell.Cell.{Cell}
use Rattle.hack_values.specs.declared.cell.Cell.TheVariants as cells
use Rattle.type_lattice.specs.declared.types.IntPart.{IntPart}
use Rattle.type_lattice.specs.declared.types.IntPart.TheVariants as ints
use Rattle.type_lattice.specs.declared.types.StrPart.{StrPart}
use Rattle.type_lattice.specs.declared.types.StrPart.TheVariants as strs
use Rattle.type_lattice.specs.declared.types.Short.{Short}
use Rattle.type_lattice.specs.declared.types.ObjPart.{ObjPart}
use Rattle.type_lattice.specs.declared.types.ObjPart.TheVariants as objs
use Rattle.type_lattice.specs.declared.types.Leaf.{Leaf}
use Rattle.type_lattice.specs.declared.types.HType.{HType}
use Rattle.type_lattice.specs.Classes.{Tree}
use Rattle.type_lattice.specs.Order.{Le}

-- an int of 64 bits
abbrev pub ProperInt : IntPart → Type 0
ProperInt ints.No = Unit {0}
ProperInt (ints.One i) = FitsSigned w64 i
ProperInt ints.Any = Unit {0}

-- at most 32 bytes, and zeros after them
pub record ProperShort (s : Short) : Type 0 where
  pub short : s.len ≤ 32
  pub room : length s.bytes ≡ 32
  pub bytes : All (λ b. b < 256) s.bytes
  pub zeros : drop s.len s.bytes ≡ replicate (32 - s.len) 0

abbrev pub ProperStr : StrPart → Type 0
ProperStr strs.No = Unit {0}
ProperStr (strs.One s) = ProperShort s
ProperStr strs.Any = Unit {0}

-- a class of the tree
abbrev pub ProperObj : Tree → ObjPart → Type 0
ProperObj tree objs.No = Unit {0}
ProperObj tree (objs.Exact c) = c < length tree
ProperObj tree (objs.Sub c) = c < length tree
ProperObj tree objs.Any = Unit {0}

pub record ProperLeaf (tree : Tree) (l : Leaf) : Type 0 where
  pub int : ProperInt l.int
  pub str : ProperStr l.str
  pub obj : ProperObj tree l.obj

-- int and str parts alone
pub record ProperKey (l : Leaf) : Type 0 where
  pub null : l.null ≡ false
  pub no : l.no ≡ false
  pub yes : l.yes ≡ false
  pub int : ProperInt l.int
  pub str : ProperStr l.str
  pub obj : l.obj ≡ objs.No
  pub vec : l.vec ≡ false
  pub dict : l.dict ≡ false
  pub keyset : l.keyset ≡ false

abbrev pub ProperVec : Tree → Option Leaf → Type 0
ProperVec tree None = Unit {0}
ProperVec tree (Some l) = ProperLeaf tree l

abbrev pub ProperDict : Tree → Option (Leaf × Leaf) → Type 0
ProperDict tree None = Unit {0}
ProperDict tree (Some e) = ProperKey e.0 × ProperLeaf tree e.1

abbrev pub ProperKeyset : Option Leaf → Type 0
ProperKeyset None = Unit {0}
ProperKeyset (Some l) = ProperKey l

pub record IsProper (tree : Tree) (t : HType) : Type 0 where
  pub int : ProperInt t.int
  pub str : ProperStr t.str
  pub obj : ProperObj tree t.obj
  pub vec : ProperVec tree t.vec
  pub dict : ProperDict tree t.dict
  pub keyset : ProperKeyset t.keyset

-- a cell whose int is of 64 bits and whose string is of bytes
abbrev pub ProperScalar : Cell → Type 0
ProperScalar cells.Null = Unit {0}
ProperScalar (cells.Bool b) = Unit {0}
ProperScalar (cells.Int i) = FitsSigned w64 i
ProperScalar (cells.Str s) = All (λ b. b < 256) s
ProperScalar (cells.Vec items) = Unit {0}
ProperScalar (cells.Dict entries) = Unit {0}
ProperScalar (cells.Keyset elements) = Unit {0}
ProperScalar (cells.Obj n) = Unit {0}

-- the join of the types that are among these: a proper type above each, and below every proper type above each
pub record IsJoin (tree : Tree) (Among : HType → Type 0) (t : HType) : Type 0 where
  pub proper : IsProper tree t
  pub above : (s : HType) → Among s → Le tree s t
  pub least : (u : HType) → IsProper tree u → ((s : HType) → Among s → Le tree s u) → Le tree t u
