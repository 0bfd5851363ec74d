-- How the canonical text writes a type: its atoms in the order of their lines, the short form where a container is
-- whole, and Cell where each part is whole.
use Rattle.std.specs.Prelude.{ℕ, ◌+◌, Bool, true, false, List, [], ◌∷◌, ◌++◌, Option, Some, None, option_map, length, if◌then◌else◌}
use Rattle.type_lattice.specs.declared.types.IntPart.{IntPart}
use Rattle.type_lattice.specs.declared.types.IntPart.TheVariants as ints
use Rattle.type_lattice.specs.declared.types.StrPart.{StrPart}
use Rattle.type_lattice.specs.declared.types.StrPart.TheVariants as strs
use Rattle.type_lattice.specs.declared.types.ObjPart.{ObjPart}
use Rattle.type_lattice.specs.declared.types.ObjPart.TheVariants as objs
use Rattle.type_lattice.specs.declared.types.Leaf.{Leaf}
use Rattle.type_lattice.specs.declared.types.HType.{HType}
use Rattle.type_lattice.specs.Types.{short_bytes}
use Rattle.type_lattice.specs.Whole.{whole_leaf, whole_key, whole_entry, is_whole}
use Rattle.type_lattice.specs.TypeText.{class_name}
use Rattle.hhbc_repo.specs.declared.parts.TypeParts.{TypeParts}
use Rattle.hhbc_repo.specs.LinkFaults.{Name}
use Rattle.hhbc_repo.specs.TypeSyntax.{Atom, Written, TypeAtom, WrittenType}
use Rattle.hhbc_repo.specs.TypeSyntax as types

-- ---- the parts of a type: its classes stand in a list, in the order of the text, and are numbered by their places in it

abbrev pub obj_classes : List Name → ObjPart → List Name
obj_classes names objs.No = []
obj_classes names (objs.Exact c) = class_name names c ∷ []
obj_classes names (objs.Sub c) = class_name names c ∷ []
obj_classes names objs.Any = []

-- with its class at the place
abbrev pub obj_placed : ℕ → ObjPart → ObjPart
obj_placed n objs.No = objs.No
obj_placed n (objs.Exact c) = objs.Exact n
obj_placed n (objs.Sub c) = objs.Sub n
obj_placed n objs.Any = objs.Any

abbrev pub vec_classes : List Name → Option Leaf → List Name
vec_classes names None = []
vec_classes names (Some l) = obj_classes names l.obj

-- keys have no classes
abbrev pub dict_classes : List Name → Option (Leaf × Leaf) → List Name
dict_classes names None = []
dict_classes names (Some e) = obj_classes names e.1.obj

abbrev pub leaf_placed : ℕ → Leaf → Leaf
leaf_placed n l = record l { obj = obj_placed n l.obj }

abbrev pub entry_placed : ℕ → Leaf × Leaf → Leaf × Leaf
entry_placed n e = (e.0, leaf_placed n e.1)

-- the parts of a type, given the names of all classes
abbrev pub canonical_type : List Name → HType → TypeParts
canonical_type names t = record {
  t = record t {
    obj = obj_placed 0 t.obj;
    vec = option_map (leaf_placed (length (obj_classes names t.obj))) t.vec;
    dict = option_map (entry_placed (length (obj_classes names t.obj) + length (vec_classes names t.vec))) t.dict;
  };
  classes = obj_classes names t.obj ++ (vec_classes names t.vec ++ dict_classes names t.dict);
}

-- ---- the atoms of a type, with the names of its classes

-- an atom, where it is there
abbrev pub atom : Bool → Atom → List Atom
atom true a = a ∷ []
atom false a = []

abbrev pub bool_atoms : Bool → Bool → List Atom
bool_atoms true true = types.Bools ∷ []
bool_atoms true false = types.False ∷ []
bool_atoms false true = types.True ∷ []
bool_atoms false false = []

abbrev pub int_atoms : IntPart → List Atom
int_atoms ints.No = []
int_atoms (ints.One i) = types.OneInt i ∷ []
int_atoms ints.Any = types.Int ∷ []

abbrev pub str_atoms : StrPart → List Atom
str_atoms strs.No = []
str_atoms (strs.One s) = types.OneStr (short_bytes s) ∷ []
str_atoms strs.Any = types.Str ∷ []

abbrev pub obj_atoms : List Name → ObjPart → List Atom
obj_atoms names objs.No = []
obj_atoms names (objs.Exact c) = types.Exact (class_name names c) ∷ []
obj_atoms names (objs.Sub c) = types.Sub (class_name names c) ∷ []
obj_atoms names objs.Any = types.Obj ∷ []

abbrev pub kind_atoms : Leaf → List Atom
kind_atoms l = atom l.vec types.Vec ++ (atom l.dict types.Dict ++ atom l.keyset types.Keyset)

abbrev pub leaf_atoms : List Name → Leaf → List Atom
leaf_atoms names l =
    atom l.null types.Null ++ (bool_atoms l.no l.yes ++ (int_atoms l.int ++ (str_atoms l.str ++ (obj_atoms names l.obj ++ kind_atoms l))))

abbrev pub written_atoms : List Atom → Written
written_atoms [] = types.Never
written_atoms (a ∷ more) = types.Of (a ∷ more)

abbrev pub written_leaf : List Name → Leaf → Written
written_leaf names l = if whole_leaf l then types.Cell else written_atoms (leaf_atoms names l)

-- keys are ints and strings alone
abbrev pub written_key : Leaf → Written
written_key k = written_atoms (int_atoms k.int ++ str_atoms k.str)

abbrev pub plain : Atom → TypeAtom
plain a = types.Plain a

abbrev pub plains : List Atom → List TypeAtom
plains [] = []
plains (a ∷ more) = plain a ∷ plains more

abbrev pub vec_atoms : List Name → Option Leaf → List TypeAtom
vec_atoms names None = []
vec_atoms names (Some l) = (if whole_leaf l then plain types.Vec else types.VecOf (written_leaf names l)) ∷ []

abbrev pub dict_atoms : List Name → Option (Leaf × Leaf) → List TypeAtom
dict_atoms names None = []
dict_atoms names (Some e) = (if whole_entry e then plain types.Dict else types.DictOf (written_key e.0) (written_leaf names e.1)) ∷ []

abbrev pub keyset_atoms : Option Leaf → List TypeAtom
keyset_atoms None = []
keyset_atoms (Some k) = (if whole_key k then plain types.Keyset else types.KeysetOf (written_key k)) ∷ []

abbrev pub uninit_atoms : Bool → List TypeAtom
uninit_atoms true = types.Uninit ∷ []
uninit_atoms false = []

abbrev pub scalar_atoms : List Name → HType → List Atom
scalar_atoms names t = atom t.null types.Null ++ (bool_atoms t.no t.yes ++ (int_atoms t.int ++ (str_atoms t.str ++ obj_atoms names t.obj)))

abbrev pub container_atoms : List Name → HType → List TypeAtom
container_atoms names t = vec_atoms names t.vec ++ (dict_atoms names t.dict ++ keyset_atoms t.keyset)

abbrev pub written_type_atoms : List TypeAtom → WrittenType
written_type_atoms [] = types.NeverType
written_type_atoms (a ∷ more) = types.AtomsType (a ∷ more)

abbrev pub written_whole : Bool → WrittenType
written_whole true = types.UninitCell
written_whole false = types.CellType

-- given the names of all classes
abbrev pub written_type : List Name → HType → WrittenType
written_type names t =
    if is_whole t then written_whole t.uninit
    else written_type_atoms (uninit_atoms t.uninit ++ (plains (scalar_atoms names t) ++ container_atoms names t))
