-- What bears a name, and which of it objects of a part have: so no walk goes over all classes.
use Rattle.std.specs.Prelude.{ℕ, Bool, true, false, ◌||◌, ◌&&◌, List, [], Option, Some, None, slice_get, get_or, map, filter}
use Rattle.type_lattice.specs.declared.types.HType.{HType}
use Rattle.type_lattice.specs.declared.types.ObjPart.{ObjPart}
use Rattle.type_lattice.specs.declared.types.ObjPart.TheVariants as objs
use Rattle.type_lattice.specs.Classes.{Tree, below, flat}
use Rattle.type_lattice.specs.Join.{join}
use Rattle.hhbc_repo.specs.Linked.{Linked}
use Rattle.hhbc_repo.specs.LinkFaults.{Name}
use Rattle.hhbc_repo.specs.Bodies.{tree_of, numbers, body_at}
use Rattle.hhbc_repo.specs.LookUps.{method_of, owners, property_owners, total, all_properties}
use Rattle.hhbc_repo.specs.Places.{properties_named}
use Rattle.class_index.specs.Leaves.{joins}
use Rattle.class_index.specs.Named.{Names, NoName, OneName, AnyName, is_number, gives, fact, takes}

-- objects of the part have what this class declares, where `give` says of a class whether its objects have it
abbrev pub reaches : Tree → ObjPart → (ℕ → Bool) → ℕ → Bool
reaches tree objs.No give d = false
reaches tree (objs.Exact c) give d = give c
reaches tree (objs.Sub c) give d = below tree d c || give c
reaches tree objs.Any give d = true

-- a function is declared by no class
abbrev pub reaches_from : Tree → ObjPart → (ℕ → Bool) → Option ℕ → Bool
reaches_from tree part give None = false
reaches_from tree part give (Some d) = reaches tree part give d

abbrev pub owner_at : Linked → ℕ → ℕ
owner_at r q = get_or (property_owners r) q 0

abbrev pub is_reached : Linked → ObjPart → Names → ℕ → Bool
is_reached r part names q = reaches (tree_of r) part (gives r names q) (owner_at r q)

abbrev pub is_entered : Linked → ObjPart → Name → ℕ → Bool
is_entered r part name n = reaches_from (tree_of r) part (λ c. is_number (method_of r c name) n) (flat (slice_get (owners r) n))

-- the properties that bear one of the names, whichever class declares them
abbrev pub borne : Linked → Names → List ℕ
borne r NoName = []
borne r (OneName name) = properties_named r name
borne r AnyName = numbers 0 (total (all_properties r))

-- what is joined so far, with what those of more properties hold that objects of the part have
abbrev pub gathered : Linked → List HType → ObjPart → Names → HType → List ℕ → HType
gathered r props part names all qs = join (tree_of r) all (joins (tree_of r) (map (fact props) (filter (is_reached r part names) qs)))

abbrev pub is_met : Linked → ObjPart → Name → ℕ → ℕ → Bool
is_met r part name count n = is_entered r part name n && takes (body_at r n) count
