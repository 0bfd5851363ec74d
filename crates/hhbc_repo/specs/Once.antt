-- Names of which each is kept once, and what is kept of what is linked.
use Rattle.std.specs.Prelude.{◌≡◌, List, [], ◌∷◌, ◌++◌, map, if◌then◌else◌, codes}
use Rattle.type_lattice.specs.Classes.{Tree}
use Rattle.hhbc_repo.specs.declared.parts.BodyParts.{BodyParts}
use Rattle.hhbc_repo.specs.declared.parts.ClassParts.{ClassParts}
use Rattle.hhbc_repo.specs.declared.repo.Const.{Const}
use Rattle.hhbc_repo.specs.LinkFaults.{Name, Whole, names, parents, property_names, methods}

abbrev pub added : List Name → Name → List Name
added all name = if names all name then all else all ++ name ∷ []

abbrev pub added_all : List Name → List Name → List Name
added_all all [] = all
added_all all (name ∷ more) = added_all (added all name) more

-- each name at its first place
abbrev pub once : List Name → List Name
once all = added_all [] all

-- the names of what each class declares, each once; Exception has its message
abbrev pub constant_tables : List ClassParts → List (List Name)
constant_tables cs = ([] ∷ [] ∷ [] ∷ [] ∷ [] ∷ [] ∷ []) ++ map (λ (c : ClassParts). once (map (λ (k : Const). k.name) c.consts)) cs

abbrev pub property_tables : List ClassParts → List (List Name)
property_tables cs = ((codes "message" ∷ []) ∷ [] ∷ [] ∷ [] ∷ [] ∷ [] ∷ []) ++ map (λ (c : ClassParts). once (property_names c)) cs

-- the parents of the classes, and what they declare by name
pub record Tabled (w : Whole) (tree : Tree) (functions : List BodyParts) (of_constants of_properties : List (List Name)) (of_methods : List (List BodyParts)) : Type 0 where
  pub tree_is : tree ≡ parents w
  pub functions_are : functions ≡ w.functions
  pub constants_are : of_constants ≡ constant_tables w.classes
  pub properties_are : of_properties ≡ property_tables w.classes
  pub methods_are : of_methods ≡ methods w
