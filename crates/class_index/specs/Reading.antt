-- The type of what reading along keys finds.
use Rattle.std.specs.Prelude.{Bool, true, false, List, [], ◌∷◌, Option, Some, None, map}
use Rattle.type_lattice.specs.declared.types.Leaf.{Leaf}
use Rattle.type_lattice.specs.declared.types.HType.{HType}
use Rattle.type_lattice.specs.declared.types.ObjPart.{ObjPart}
use Rattle.type_lattice.specs.Classes.{Tree}
use Rattle.type_lattice.specs.Types.{never}
use Rattle.type_lattice.specs.Join.{join}
use Rattle.hhbc_repo.specs.Linked.{Linked}
use Rattle.hhbc_repo.specs.Bodies.{tree_of}
use Rattle.class_index.specs.declared.keys.TypeKey.{TypeKey}
use Rattle.class_index.specs.declared.keys.TypeKey.TheVariants as keys
use Rattle.class_index.specs.Leaves.{type_of, has_int, has_key, joins}
use Rattle.class_index.specs.Named.{Names, OneName, names_of, given, fact}

-- what a part holds, where the key fits it
abbrev pub held : {A : Type 0} → (A → HType) → Bool → Option A → HType
held f false part = never
held f true None = never
held f true (Some a) = f a

abbrev pub value_of : Leaf × Leaf → HType
value_of entry = type_of entry.1

-- the elements of a vec under an int; the values of a dict and the elements of a keyset under an int or a string
abbrev pub element_type : Tree → HType → HType → HType
element_type tree t k = join tree (held type_of (has_int k) t.vec) (join tree (held value_of (has_key k) t.dict) (held type_of (has_key k) t.keyset))

abbrev pub null_if : Bool → HType
null_if flag = record never { null = flag }

module _ (r : Linked) (props : List HType) where
  abbrev pub property_type : ObjPart → Names → HType
  property_type part names = joins (tree_of r) (map (fact props) (given r part names))

  -- one step; a null-safe key gives Null at Null
  abbrev pub step_type : HType → TypeKey → HType
  step_type t (keys.Elem k) = element_type (tree_of r) t k
  step_type t (keys.Prop k) = property_type t.obj (names_of k.str)
  step_type t (keys.PropName name) = property_type t.obj (OneName name)
  step_type t (keys.Nullsafe name) = join (tree_of r) (property_type t.obj (OneName name)) (null_if t.null)
  step_type t keys.Append = never

  -- step by step
  abbrev pub path_type : HType → List TypeKey → HType
  path_type t [] = t
  path_type t (k ∷ rest) = path_type (step_type t k) rest
