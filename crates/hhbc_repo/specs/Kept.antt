-- What a repository keeps beside its functions and classes, and keeps to.
use Rattle.std.specs.Prelude.{◌≡◌, ℕ, List, length}
use Rattle.type_lattice.specs.Classes.{Tree}
use Rattle.hhbc_repo.specs.declared.homes.Home.{Home}
use Rattle.hhbc_repo.specs.Linked.{Linked}
use Rattle.hhbc_repo.specs.LinkFaults.{Name}
use Rattle.hhbc_repo.specs.Bodies.{class_names, tree_of}
use Rattle.hhbc_repo.specs.Bearers.{Bearers, borne}
use Rattle.hhbc_repo.specs.MemberNames.{MemberNames}
use Rattle.hhbc_repo.specs.Homes.{homes_of}
use Rattle.hhbc_repo.specs.Places.{methods_named, properties_named}
use Rattle.hhbc_repo.specs.Spelled.{HasSpelling}
use Rattle.hhbc_repo.specs.LookUps.{Sound, function_names, all_methods, all_properties, property_owners}

pub record Kept (r : Linked) (functions class_table class_list : List Name) (methods properties : MemberNames) (tree : Tree) (homes : List Home) (owners : List ℕ) (named_methods named_properties : Bearers) : Type 0 where
  pub functions_are : functions ≡ function_names r.functions
  pub table_is : class_table ≡ class_names r
  pub list_is : class_list ≡ class_names r
  pub methods_are : methods ≡ record { first = length r.functions; names = all_methods r }
  pub properties_are : properties ≡ record { first = 0; names = all_properties r }
  pub tree_is : tree ≡ tree_of r
  pub homes_are : homes ≡ homes_of r.functions r.classes
  pub owners_are : owners ≡ property_owners r
  pub method_bearers_are : (name : Name) → borne named_methods name ≡ methods_named r name
  pub property_bearers_are : (name : Name) → borne named_properties name ≡ properties_named r name
  pub sound : Sound r
  pub spelling : HasSpelling r
