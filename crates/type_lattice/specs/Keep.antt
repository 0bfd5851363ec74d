-- What a constraint keeps of a type.
use Rattle.std.specs.Prelude.{◌≡◌, ℕ, Bool, true, false, not, Option, Some, None, ◌&&◌, if◌then◌else◌}
use Rattle.type_lattice.specs.declared.types.IntPart.{IntPart}
use Rattle.type_lattice.specs.declared.types.IntPart.TheVariants as ints
use Rattle.type_lattice.specs.declared.types.StrPart.{StrPart}
use Rattle.type_lattice.specs.declared.types.StrPart.TheVariants as strs
use Rattle.type_lattice.specs.declared.types.ObjPart.{ObjPart}
use Rattle.type_lattice.specs.declared.types.ObjPart.TheVariants as objs
use Rattle.type_lattice.specs.declared.types.Leaf.{Leaf}
use Rattle.type_lattice.specs.declared.types.HType.{HType}
use Rattle.type_lattice.specs.Classes.{Tree, below}
use Rattle.type_lattice.specs.Types.{cell_leaf, key_leaf}
use Rattle.type_lattice.specs.Never.{is_never}
use Rattle.type_lattice.specs.Whole.{whole_leaf, whole_key}
use Rattle.type_lattice.specs.InRange.{where_there, has_keys_alone}

-- no int, or all
abbrev pub IsIntKind : IntPart → Type 0
IsIntKind ints.No = Unit {0}
IsIntKind (ints.One i) = ⊥
IsIntKind ints.Any = Unit {0}

abbrev pub IsStrKind : StrPart → Type 0
IsStrKind strs.No = Unit {0}
IsStrKind (strs.One s) = ⊥
IsStrKind strs.Any = Unit {0}

-- no object, those of a class and the classes below it, or all
abbrev pub IsObjKind : ObjPart → Type 0
IsObjKind objs.No = Unit {0}
IsObjKind (objs.Exact c) = ⊥
IsObjKind (objs.Sub c) = Unit {0}
IsObjKind objs.Any = Unit {0}

-- no container, or all
abbrev pub IsKind : {A : Type 0} → A → Option A → Type 0
IsKind whole None = Unit {0}
IsKind whole (Some a) = a ≡ whole

-- kinds of cells, one or more, each whole
pub record IsConstraint (t : HType) : Type 0 where
  pub uninit : t.uninit ≡ false
  pub bools : t.no ≡ t.yes
  pub int : IsIntKind t.int
  pub str : IsStrKind t.str
  pub obj : IsObjKind t.obj
  pub vec : IsKind cell_leaf t.vec
  pub dict : IsKind (key_leaf, cell_leaf) t.dict
  pub keyset : IsKind key_leaf t.keyset
  pub some : is_never t ≡ false

-- ---- the same as a test

abbrev pub agree : Bool → Bool → Bool
agree true b = b
agree false b = not b

abbrev pub no_one_int : IntPart → Bool
no_one_int ints.No = true
no_one_int (ints.One i) = false
no_one_int ints.Any = true

abbrev pub no_one_str : StrPart → Bool
no_one_str strs.No = true
no_one_str (strs.One s) = false
no_one_str strs.Any = true

abbrev pub no_one_class : ObjPart → Bool
no_one_class objs.No = true
no_one_class (objs.Exact c) = false
no_one_class (objs.Sub c) = true
no_one_class objs.Any = true

-- all keys and nothing else
abbrev pub is_all_keys : Leaf → Bool
is_all_keys l = has_keys_alone l && whole_key l

abbrev pub is_all_entries : Leaf × Leaf → Bool
is_all_entries e = is_all_keys e.0 && whole_leaf e.1

abbrev pub is_constraint : HType → Bool
is_constraint t =
    not t.uninit && (agree t.no t.yes && (no_one_int t.int && (no_one_str t.str && (no_one_class t.obj
    && (where_there whole_leaf t.vec && (where_there is_all_entries t.dict && (where_there is_all_keys t.keyset && not (is_never t))))))))

-- ---- what it keeps

-- a part that the constraint has stays, and the others go
abbrev pub int_keep : IntPart → IntPart → IntPart
int_keep a ints.No = ints.No
int_keep a (ints.One i) = a
int_keep a ints.Any = a

abbrev pub str_keep : StrPart → StrPart → StrPart
str_keep a strs.No = strs.No
str_keep a (strs.One s) = a
str_keep a strs.Any = a

-- the objects of a class and of the classes below it
abbrev pub sub_keep : Tree → ObjPart → ℕ → ObjPart
sub_keep tree objs.No c = objs.No
sub_keep tree (objs.Exact d) c = if below tree d c then objs.Exact d else objs.No
sub_keep tree (objs.Sub d) c = if below tree d c then objs.Sub d else (if below tree c d then objs.Sub c else objs.No)
sub_keep tree objs.Any c = objs.Sub c

abbrev pub obj_keep : Tree → ObjPart → ObjPart → ObjPart
obj_keep tree a objs.No = objs.No
obj_keep tree a (objs.Exact c) = a
obj_keep tree a (objs.Sub c) = sub_keep tree a c
obj_keep tree a objs.Any = a

abbrev pub part_keep : {A : Type 0} → Option A → Option A → Option A
part_keep a None = None
part_keep a (Some c) = a

abbrev pub keep : Tree → HType → HType → HType
keep tree a c = record {
  uninit = a.uninit && c.uninit;
  null = a.null && c.null;
  no = a.no && c.no;
  yes = a.yes && c.yes;
  int = int_keep a.int c.int;
  str = str_keep a.str c.str;
  obj = obj_keep tree a.obj c.obj;
  vec = part_keep a.vec c.vec;
  dict = part_keep a.dict c.dict;
  keyset = part_keep a.keyset c.keyset;
}
