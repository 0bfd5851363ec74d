-- Which slots are of a type.
use Rattle.std.specs.Prelude.{◌≡◌, ℕ, ℤ, Bool, true, false, ◌&&◌, ◌==◌, List, [], ◌∷◌, Option, Some, None, slice_get, nat_eq, option_map}
use Rattle.std.specs.Cmp.Lexicographic.{pointwise}
use Rattle.std.specs.Ordering.{int_eq}
use Rattle.std.specs.List.{list_all}
use Rattle.std.specs.Map.{keys_of, values_of}
use Rattle.hack_values.specs.View.{cells_of}
use Rattle.hack_values.specs.declared.key.Key.{Key}
use Rattle.hack_values.specs.declared.key.Key.TheVariants as keys
use Rattle.hack_values.specs.declared.cell.Cell.{Cell}
use Rattle.hack_values.specs.declared.cell.Cell.TheVariants as cells
use Rattle.hack_values.specs.declared.cell.Slot.{Slot}
use Rattle.hack_values.specs.declared.cell.Slot.TheVariants as slots
use Rattle.hack_values.specs.declared.heap.Object.{Object}
use Rattle.type_lattice.specs.declared.types.IntPart.{IntPart}
use Rattle.type_lattice.specs.declared.types.IntPart.TheVariants as ints
use Rattle.type_lattice.specs.declared.types.StrPart.{StrPart}
use Rattle.type_lattice.specs.declared.types.StrPart.TheVariants as strs
use Rattle.type_lattice.specs.declared.types.ObjPart.{ObjPart}
use Rattle.type_lattice.specs.declared.types.ObjPart.TheVariants as objs
use Rattle.type_lattice.specs.declared.types.Leaf.{Leaf}
use Rattle.type_lattice.specs.declared.types.HType.{HType}
use Rattle.type_lattice.specs.Classes.{Tree, below}
use Rattle.type_lattice.specs.Types.{short_bytes}

-- the objects of a run, each named by its place
abbrev pub Heap : Type 0
Heap = List Object

-- the class of an object, where the object is in the heap
abbrev pub class_at : Heap → ℕ → Option ℕ
class_at heap n = option_map (λ (o : Object). o.class) (slice_get heap n)

abbrev pub int_in : ℤ → IntPart → Bool
int_in i ints.No = false
int_in i (ints.One j) = int_eq i j
int_in i ints.Any = true

abbrev pub str_in : List ℕ → StrPart → Bool
str_in s strs.No = false
str_in s (strs.One t) = pointwise nat_eq s (short_bytes t)
str_in s strs.Any = true

abbrev pub is_class : Option ℕ → ℕ → Bool
is_class None c = false
is_class (Some d) c = d == c

abbrev pub is_below : Tree → Option ℕ → ℕ → Bool
is_below tree None c = false
is_below tree (Some d) c = below tree d c

-- an object, by its class
abbrev pub obj_in : Tree → Option ℕ → ObjPart → Bool
obj_in tree d objs.No = false
obj_in tree d (objs.Exact c) = is_class d c
obj_in tree d (objs.Sub c) = is_below tree d c
obj_in tree d objs.Any = true

-- a cell in a container; a container in it is of its part, whatever it holds
abbrev pub in_leaf : Tree → Heap → Leaf → Cell → Bool
in_leaf tree heap l cells.Null = l.null
in_leaf tree heap l (cells.Bool false) = l.no
in_leaf tree heap l (cells.Bool true) = l.yes
in_leaf tree heap l (cells.Int i) = int_in i l.int
in_leaf tree heap l (cells.Str s) = str_in s l.str
in_leaf tree heap l (cells.Vec items) = l.vec
in_leaf tree heap l (cells.Dict entries) = l.dict
in_leaf tree heap l (cells.Keyset elements) = l.keyset
in_leaf tree heap l (cells.Obj n) = obj_in tree (class_at heap n) l.obj

abbrev pub key_in : Leaf → Key → Bool
key_in l (keys.Int i) = int_in i l.int
key_in l (keys.Str s) = str_in s l.str

abbrev pub vec_in : Tree → Heap → Option Leaf → List Cell → Bool
vec_in tree heap None items = false
vec_in tree heap (Some l) items = list_all (in_leaf tree heap l) items

abbrev pub dict_in : Tree → Heap → Option (Leaf × Leaf) → List Key → List Cell → Bool
dict_in tree heap None ks items = false
dict_in tree heap (Some e) ks items = list_all (key_in e.0) ks && list_all (in_leaf tree heap e.1) items

abbrev pub keyset_in : Option Leaf → List Key → Bool
keyset_in None ks = false
keyset_in (Some l) ks = list_all (key_in l) ks

-- a scalar by its part, a container by its part and all that it holds, and an object by its class
abbrev pub cell_in : Tree → Heap → Cell → HType → Bool
cell_in tree heap cells.Null t = t.null
cell_in tree heap (cells.Bool false) t = t.no
cell_in tree heap (cells.Bool true) t = t.yes
cell_in tree heap (cells.Int i) t = int_in i t.int
cell_in tree heap (cells.Str s) t = str_in s t.str
cell_in tree heap (cells.Vec items) t = vec_in tree heap t.vec (cells_of items)
cell_in tree heap (cells.Dict entries) t = dict_in tree heap t.dict (keys_of entries) (cells_of (values_of entries))
cell_in tree heap (cells.Keyset elements) t = keyset_in t.keyset elements
cell_in tree heap (cells.Obj n) t = obj_in tree (class_at heap n) t.obj

-- the slot is of the type
abbrev pub is_member : Tree → Heap → Slot → HType → Bool
is_member tree heap slots.Uninit t = t.uninit
is_member tree heap (slots.Cell c) t = cell_in tree heap c t

-- as many slots as types, each of the type at its place
abbrev pub AreMembers : Tree → Heap → List Slot → List HType → Type 0
AreMembers tree heap [] [] = Unit {0}
AreMembers tree heap [] (t ∷ ts) = ⊥
AreMembers tree heap (s ∷ ss) [] = ⊥
AreMembers tree heap (s ∷ ss) (t ∷ ts) = (is_member tree heap s t ≡ true) × AreMembers tree heap ss ts
