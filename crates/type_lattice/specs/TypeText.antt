-- The canonical text of a type.
use Rattle.std.specs.Prelude.{ℕ, Bool, true, false, List, [], ◌∷◌, ◌++◌, Option, Some, None, slice_get, codes, if◌then◌else◌}
use Rattle.std.specs.List.{flat_map}
use Rattle.std.specs.Fmt.{signed_decimal}
use Rattle.hack_values.specs.Literal.{literal}
use Rattle.type_lattice.specs.declared.types.IntPart.{IntPart}
use Rattle.type_lattice.specs.declared.types.IntPart.TheVariants as ints
use Rattle.type_lattice.specs.declared.types.StrPart.{StrPart}
use Rattle.type_lattice.specs.declared.types.StrPart.TheVariants as strs
use Rattle.type_lattice.specs.declared.types.ObjPart.{ObjPart}
use Rattle.type_lattice.specs.declared.types.ObjPart.TheVariants as objs
use Rattle.type_lattice.specs.declared.types.Leaf.{Leaf}
use Rattle.type_lattice.specs.declared.types.HType.{HType}
use Rattle.type_lattice.specs.Types.{short_bytes}
use Rattle.type_lattice.specs.Whole.{whole_leaf, whole_key, whole_entry, is_whole}

-- an atom, where it is there
abbrev pub atom : Bool → List ℕ → List (List ℕ)
atom true name = name ∷ []
atom false name = []

abbrev pub bool_atoms : Bool → Bool → List (List ℕ)
bool_atoms true true = codes "Bool" ∷ []
bool_atoms true false = codes "False" ∷ []
bool_atoms false true = codes "True" ∷ []
bool_atoms false false = []

abbrev pub int_atoms : IntPart → List (List ℕ)
int_atoms ints.No = []
int_atoms (ints.One i) = (codes "Int=" ++ signed_decimal i) ∷ []
int_atoms ints.Any = codes "Int" ∷ []

abbrev pub one_str : List ℕ → List ℕ
one_str s = codes "Str=" ++ literal s

abbrev pub str_atoms : StrPart → List (List ℕ)
str_atoms strs.No = []
str_atoms (strs.One s) = one_str (short_bytes s) ∷ []
str_atoms strs.Any = codes "Str" ∷ []

abbrev pub named : Option (List ℕ) → List ℕ
named None = []
named (Some name) = name

-- the name of a class, from the names of all classes; a class past their end has none
abbrev pub class_name : List (List ℕ) → ℕ → List ℕ
class_name names c = named (slice_get names c)

abbrev pub obj_atoms : List (List ℕ) → ObjPart → List (List ℕ)
obj_atoms names objs.No = []
obj_atoms names (objs.Exact c) = (codes "Obj=" ++ class_name names c) ∷ []
obj_atoms names (objs.Sub c) = (codes "Obj<=" ++ class_name names c) ∷ []
obj_atoms names objs.Any = codes "Obj" ∷ []

abbrev pub barred : List ℕ → List ℕ
barred a = 124 ∷ a

-- atoms with bars between them; without any the type has no members
abbrev pub joined : List (List ℕ) → List ℕ
joined [] = codes "Never"
joined (a ∷ more) = a ++ flat_map barred more

-- the kinds of containers that a leaf holds
abbrev pub kind_atoms : Leaf → List (List ℕ)
kind_atoms l = atom l.vec (codes "Vec") ++ (atom l.dict (codes "Dict") ++ atom l.keyset (codes "Keyset"))

abbrev pub leaf_atoms : List (List ℕ) → Leaf → List (List ℕ)
leaf_atoms names l =
    atom l.null (codes "Null") ++ (bool_atoms l.no l.yes ++ (int_atoms l.int ++ (str_atoms l.str ++ (obj_atoms names l.obj ++ kind_atoms l))))

abbrev pub leaf_text : List (List ℕ) → Leaf → List ℕ
leaf_text names l = if whole_leaf l then codes "Cell" else joined (leaf_atoms names l)

-- keys are ints and strings alone
abbrev pub key_atoms : Leaf → List (List ℕ)
key_atoms k = int_atoms k.int ++ str_atoms k.str

abbrev pub key_text : Leaf → List ℕ
key_text k = joined (key_atoms k)

abbrev pub entry_text : List (List ℕ) → Leaf × Leaf → List ℕ
entry_text names e = key_text e.0 ++ (44 ∷ leaf_text names e.1)

-- an atom, with what stands in angle brackets where that isn't whole
abbrev pub bracketed : List ℕ → Bool → List ℕ → List (List ℕ)
bracketed name true inner = name ∷ []
bracketed name false inner = (name ++ (60 ∷ (inner ++ 62 ∷ []))) ∷ []

abbrev pub vec_atoms : List (List ℕ) → Option Leaf → List (List ℕ)
vec_atoms names None = []
vec_atoms names (Some l) = bracketed (codes "Vec") (whole_leaf l) (leaf_text names l)

abbrev pub dict_atoms : List (List ℕ) → Option (Leaf × Leaf) → List (List ℕ)
dict_atoms names None = []
dict_atoms names (Some d) = bracketed (codes "Dict") (whole_entry d) (entry_text names d)

abbrev pub keyset_atoms : Option Leaf → List (List ℕ)
keyset_atoms None = []
keyset_atoms (Some k) = bracketed (codes "Keyset") (whole_key k) (key_text k)

-- the atoms of the parts that aren't containers
abbrev pub scalar_atoms : List (List ℕ) → HType → List (List ℕ)
scalar_atoms names t = atom t.null (codes "Null") ++ (bool_atoms t.no t.yes ++ (int_atoms t.int ++ (str_atoms t.str ++ obj_atoms names t.obj)))

abbrev pub container_atoms : List (List ℕ) → HType → List (List ℕ)
container_atoms names t = vec_atoms names t.vec ++ (dict_atoms names t.dict ++ keyset_atoms t.keyset)

abbrev pub cell_atoms : List (List ℕ) → HType → List (List ℕ)
cell_atoms names t = if is_whole t then codes "Cell" ∷ [] else scalar_atoms names t ++ container_atoms names t

abbrev pub type_atoms : List (List ℕ) → HType → List (List ℕ)
type_atoms names t = atom t.uninit (codes "Uninit") ++ cell_atoms names t

-- a type, given the names of all classes
abbrev pub type_text : List (List ℕ) → HType → List ℕ
type_text names t = joined (type_atoms names t)
