-- What names give in the classes of a part: properties, and the bodies that a call may enter.
use Rattle.std.specs.Prelude.{ℕ, Bool, false, ◌&&◌, ◌==◌, List, Option, Some, None, filter, length, slice_get}
use Rattle.std.specs.List.{list_any}
use Rattle.type_lattice.specs.declared.types.HType.{HType}
use Rattle.type_lattice.specs.declared.types.StrPart.{StrPart}
use Rattle.type_lattice.specs.declared.types.StrPart.TheVariants as strs
use Rattle.type_lattice.specs.declared.types.ObjPart.{ObjPart}
use Rattle.type_lattice.specs.Classes.{has}
use Rattle.type_lattice.specs.Types.{short_bytes, cell}
use Rattle.type_lattice.specs.Member.{obj_in}
use Rattle.class_index.specs.declared.keys.TypeKey.{TypeKey}
use Rattle.class_index.specs.declared.keys.TypeKey.TheVariants as keys
use Rattle.hhbc_repo.specs.declared.body.Body.{Body}
use Rattle.hhbc_repo.specs.Linked.{Linked}
use Rattle.hhbc_repo.specs.LinkFaults.{Name}
use Rattle.hhbc_repo.specs.Bodies.{tree_of, numbers, properties_of, bodies, body_at}
use Rattle.hhbc_repo.specs.LookUps.{property_of, method_of, total, all_properties}

-- the classes whose objects are of the part
abbrev pub classes : Linked → ObjPart → List ℕ
classes r part = filter (λ c. obj_in (tree_of r) (Some c) part) (numbers 0 (length (tree_of r)))

-- the names that the key of a property may have
pub data Names : Type 0 where
  NoName : Names
  OneName : Name → Names
  AnyName : Names

abbrev pub names_of : StrPart → Names
names_of strs.No = NoName
names_of (strs.One s) = OneName (short_bytes s)
names_of strs.Any = AnyName

-- the names that a key gives of properties
abbrev pub key_names : TypeKey → Names
key_names (keys.Elem k) = NoName
key_names (keys.Prop k) = names_of k.str
key_names (keys.PropName name) = OneName name
key_names (keys.Nullsafe name) = OneName name
key_names keys.Append = NoName

abbrev pub is_number : Option ℕ → ℕ → Bool
is_number None n = false
is_number (Some m) n = m == n

-- the names give the property in objects of a class
abbrev pub gives : Linked → Names → ℕ → ℕ → Bool
gives r NoName q c = false
gives r (OneName name) q c = is_number (property_of r c name) q
gives r AnyName q c = has q (properties_of r c)

-- they give it in objects of some class of the part
abbrev pub is_given : Linked → ObjPart → Names → ℕ → Bool
is_given r part names q = list_any (gives r names q) (classes r part)

-- the properties that they give there, ascending, each once
abbrev pub given : Linked → ObjPart → Names → List ℕ
given r part names = filter (is_given r part names) (numbers 0 (total (all_properties r)))

-- what the facts say of a property; nothing is known of one that they don't have
abbrev pub or_cell : Option HType → HType
or_cell None = cell
or_cell (Some t) = t

abbrev pub fact : List HType → ℕ → HType
fact props q = or_cell (slice_get props q)

abbrev pub takes : Option Body → ℕ → Bool
takes None count = false
takes (Some b) count = b.params == count

-- a class of the part has this body by the name
abbrev pub is_called : Linked → ObjPart → Name → ℕ → Bool
is_called r part name n = list_any (λ c. is_number (method_of r c name) n) (classes r part)

-- the bodies that a call by the name with so many arguments may enter, ascending, each once
abbrev pub targets : Linked → ObjPart → Name → ℕ → List ℕ
targets r part name count = filter (λ n. is_called r part name n && takes (body_at r n) count) (numbers 0 (length (bodies r)))
