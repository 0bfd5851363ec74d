-- What names and numbers find in a repository.
use Rattle.std.specs.Prelude.{◌≡◌, ◌<◌, ◌^◌, ℕ, suc, ◌+◌, true, List, [], ◌∷◌, ◌++◌, Option, Some, None, map, flat_map, length, replicate, slice_get, codes}
use Rattle.std.specs.List.{list_all}
use Rattle.type_lattice.specs.Classes.{Tree, Forest, below, chain}
use Rattle.hhbc_repo.specs.declared.body.Body.{Body}
use Rattle.hhbc_repo.specs.declared.repo.Class.{Class}
use Rattle.hhbc_repo.specs.declared.repo.Property.{Property}
use Rattle.hhbc_repo.specs.Linked.{Linked}
use Rattle.hhbc_repo.specs.LinkFaults.{Name, place_in, at_class, first_class}
use Rattle.hhbc_repo.specs.Lengths.{lists_fewer}
use Rattle.hhbc_repo.specs.Names.{distinct}
use Rattle.hhbc_repo.specs.Ranges.{few_iterators}
use Rattle.hhbc_repo.specs.Bodies.{class_names, tree_of, bodies, body_at, own_from}

-- the names of what each class declares, by class; of the built-in ones Exception alone has a property, and none has methods
abbrev pub function_names : List Body → List Name
function_names bs = map (λ (b : Body). b.name) bs

abbrev pub method_names : List Class → List (List Name)
method_names cs = map (λ (c : Class). function_names c.methods) cs

abbrev pub property_names : List Class → List (List Name)
property_names cs = map (λ (c : Class). map (λ (p : Property). p.name) c.props) cs

abbrev pub names_of_classes : List Class → List Name
names_of_classes cs = map (λ (c : Class). c.name) cs

abbrev pub parents_of_classes : List Class → Tree
parents_of_classes cs = map (λ (c : Class). c.parent) cs

-- the methods of all classes, in order
abbrev pub methods_in : List Class → List Body
methods_in cs = flat_map (λ (c : Class). c.methods) cs

abbrev pub no_names : List (List Name)
no_names = [] ∷ [] ∷ [] ∷ [] ∷ [] ∷ []

abbrev pub all_methods : Linked → List (List Name)
all_methods r = ([] ∷ no_names) ++ method_names r.classes

abbrev pub all_properties : Linked → List (List Name)
all_properties r = ((codes "message" ∷ []) ∷ no_names) ++ property_names r.classes

-- the number that a list has at a place
abbrev pub number_at : List ℕ → Option ℕ → Option ℕ
number_at numbers None = None
number_at numbers (Some place) = slice_get numbers place

-- the number of what a class itself declares by a name, where numbers begin with the first class
abbrev pub own_number : ℕ → List (List Name) → Name → ℕ → Option ℕ
own_number first table name c = number_at (own_from first (map length table) c) (place_in (at_class (slice_get table c)) name)

abbrev pub or_else : Option ℕ → Option ℕ → Option ℕ
or_else None later = later
or_else (Some n) later = Some n

-- what the first of them gives that gives any
abbrev pub first_some : (ℕ → Option ℕ) → List ℕ → Option ℕ
first_some f [] = None
first_some f (c ∷ cs) = or_else (f c) (first_some f cs)

-- in the class, then in its ancestors, the nearest first
abbrev pub inherited : ℕ → List (List Name) → Tree → ℕ → Name → Option ℕ
inherited first table tree c name = first_some (own_number first table name) (chain tree c)

abbrev pub method_of : Linked → ℕ → Name → Option ℕ
method_of r c name = inherited (length r.functions) (all_methods r) (tree_of r) c name

abbrev pub property_of : Linked → ℕ → Name → Option ℕ
property_of r c name = inherited 0 (all_properties r) (tree_of r) c name

-- the class of each body; a function has none
abbrev pub owners_from : ℕ → List Class → List (Option ℕ)
owners_from n [] = []
owners_from n (c ∷ cs) = map (λ (b : Body). Some n) c.methods ++ owners_from (suc n) cs

abbrev pub owners : Linked → List (Option ℕ)
owners r = map (λ (b : Body). None) r.functions ++ owners_from first_class r.classes

-- the class of each property, by class
abbrev pub property_owners_from : ℕ → List (List Name) → List ℕ
property_owners_from n [] = []
property_owners_from n (names ∷ more) = replicate (length names) n ++ property_owners_from (suc n) more

abbrev pub property_owners : Linked → List ℕ
property_owners r = property_owners_from 0 (all_properties r)

-- the number is that of a body of the name, a method of the class itself or of one that it descends from
pub record IsMethodOf (r : Linked) (c : ℕ) (name : Name) (n : ℕ) : Type 0 where
  pub owner : ℕ
  pub body : Body
  pub above : below (tree_of r) c owner ≡ true
  pub owned : slice_get (owners r) n ≡ Some (Some owner)
  pub there : body_at r n ≡ Some body
  pub named : body.name ≡ name

abbrev pub total : List (List Name) → ℕ
total [] = 0
total (ns ∷ more) = length ns + total more

-- what linking sees to: names differ, classes descend from classes and none from itself, all that is numbered has a number, no
-- list has 2^32 elements, and no body has more than 32 iterators
pub record Sound (r : Linked) : Type 0 where
  pub functions : distinct (function_names r.functions) ≡ true
  pub names : distinct (class_names r) ≡ true
  pub methods : list_all distinct (method_names r.classes) ≡ true
  pub properties : list_all distinct (property_names r.classes) ≡ true
  pub forest : Forest (tree_of r)
  pub body_count : length (bodies r) < 2 ^ 32
  pub class_count : length (class_names r) < 2 ^ 32
  pub property_count : total (all_properties r) + 1 < 2 ^ 32
  pub lists : lists_fewer (2 ^ 32) r ≡ true
  pub iterators : list_all few_iterators (bodies r) ≡ true
