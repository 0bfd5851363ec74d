-- How high a type stands: a number that each strictly higher type raises. Depth is a bound on the number
-- of classes above a class.
use Rattle.std.specs.Prelude.{ℕ, suc, ◌+◌, ◌-◌, ◌*◌, ◌≤◌, Bool, true, false, Option, Some, None, length}
use Rattle.type_lattice.specs.declared.types.IntPart.{IntPart}
use Rattle.type_lattice.specs.declared.types.IntPart.TheVariants as ints
use Rattle.type_lattice.specs.declared.types.StrPart.{StrPart}
use Rattle.type_lattice.specs.declared.types.StrPart.TheVariants as strs
use Rattle.type_lattice.specs.declared.types.ObjPart.{ObjPart}
use Rattle.type_lattice.specs.declared.types.ObjPart.TheVariants as objs
use Rattle.type_lattice.specs.declared.types.Leaf.{Leaf}
use Rattle.type_lattice.specs.declared.types.HType.{HType}
use Rattle.type_lattice.specs.Classes.{Tree, chain}

-- no class has more than so many classes above it
abbrev pub IsWithin : Tree → ℕ → Type 0
IsWithin tree depth = (c : ℕ) → length (chain tree c) ≤ suc depth

abbrev pub flag_rank : Bool → ℕ
flag_rank false = 0
flag_rank true = 1

abbrev pub int_rank : IntPart → ℕ
int_rank ints.No = 0
int_rank (ints.One i) = 1
int_rank ints.Any = 2

abbrev pub str_rank : StrPart → ℕ
str_rank strs.No = 0
str_rank (strs.One s) = 1
str_rank strs.Any = 2

-- the fewer classes are above a class, the higher it stands
abbrev pub obj_rank : ℕ → Tree → ObjPart → ℕ
obj_rank depth tree objs.No = 0
obj_rank depth tree (objs.Exact c) = 1
obj_rank depth tree (objs.Sub c) = depth + 3 - length (chain tree c)
obj_rank depth tree objs.Any = depth + 4

abbrev pub leaf_rank : ℕ → Tree → Leaf → ℕ
leaf_rank depth tree l =
    flag_rank l.null + flag_rank l.no + flag_rank l.yes + int_rank l.int + str_rank l.str + obj_rank depth tree l.obj
    + flag_rank l.vec + flag_rank l.dict + flag_rank l.keyset

abbrev pub part_rank : {A : Type 0} → (A → ℕ) → Option A → ℕ
part_rank f None = 0
part_rank f (Some a) = 1 + f a

abbrev pub entry_rank : ℕ → Tree → Leaf × Leaf → ℕ
entry_rank depth tree e = leaf_rank depth tree e.0 + leaf_rank depth tree e.1

abbrev pub rank : ℕ → Tree → HType → ℕ
rank depth tree t =
    flag_rank t.uninit + flag_rank t.null + flag_rank t.no + flag_rank t.yes + int_rank t.int + str_rank t.str + obj_rank depth tree t.obj
    + part_rank (leaf_rank depth tree) t.vec + part_rank (entry_rank depth tree) t.dict + part_rank (leaf_rank depth tree) t.keyset

-- no type stands higher
abbrev pub highest : ℕ → ℕ
highest depth = 5 * depth + 71

-- no leaf does
abbrev pub highest_leaf : ℕ → ℕ
highest_leaf depth = depth + 14

-- and no part of objects
abbrev pub highest_obj : ℕ → ℕ
highest_obj depth = depth + 4
