-- Types that each cell has.
use Rattle.std.specs.Prelude.{◌≡◌, ◌↔◌, Bool, true, false, ◌&&◌, Option, Some, None}
use Rattle.type_lattice.specs.declared.types.IntPart.{IntPart}
use Rattle.type_lattice.specs.declared.types.IntPart.TheVariants as ints
use Rattle.type_lattice.specs.declared.types.StrPart.{StrPart}
use Rattle.type_lattice.specs.declared.types.StrPart.TheVariants as strs
use Rattle.type_lattice.specs.declared.types.ObjPart.{ObjPart}
use Rattle.type_lattice.specs.declared.types.ObjPart.TheVariants as objs
use Rattle.type_lattice.specs.declared.types.Leaf.{Leaf}
use Rattle.type_lattice.specs.declared.types.HType.{HType}
use Rattle.type_lattice.specs.Classes.{Tree}
use Rattle.type_lattice.specs.Order.{Le}
use Rattle.type_lattice.specs.Types.{cell}

abbrev pub all_ints : IntPart → Bool
all_ints ints.No = false
all_ints (ints.One i) = false
all_ints ints.Any = true

abbrev pub all_strs : StrPart → Bool
all_strs strs.No = false
all_strs (strs.One s) = false
all_strs strs.Any = true

abbrev pub all_objs : ObjPart → Bool
all_objs objs.No = false
all_objs (objs.Exact c) = false
all_objs (objs.Sub c) = false
all_objs objs.Any = true

abbrev pub whole_key : Leaf → Bool
whole_key l = all_ints l.int && all_strs l.str

abbrev pub whole_leaf : Leaf → Bool
whole_leaf l =
    l.null && (l.no && (l.yes && (all_ints l.int && (all_strs l.str && (all_objs l.obj && (l.vec && (l.dict && l.keyset)))))))

abbrev pub part_is : {A : Type 0} → (A → Bool) → Option A → Bool
part_is test None = false
part_is test (Some a) = test a

abbrev pub whole_entry : Leaf × Leaf → Bool
whole_entry e = whole_key e.0 && whole_leaf e.1

-- the type of all cells is below it
abbrev pub is_whole : HType → Bool
is_whole t =
    t.null && (t.no && (t.yes && (all_ints t.int && (all_strs t.str && (all_objs t.obj
    && (part_is whole_leaf t.vec && (part_is whole_entry t.dict && part_is whole_key t.keyset)))))))

abbrev pub WholeIsAboveCell : Type 0
WholeIsAboveCell = (tree : Tree) (t : HType) → (is_whole t ≡ true) ↔ Le tree cell t
