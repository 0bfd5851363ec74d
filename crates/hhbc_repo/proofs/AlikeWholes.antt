-- Wholes whose classes and bodies have the same names and parameters: their checks of types and operands and their numbers of classes
-- are the same.
use Rattle.std.proofs.Common.{◌≡◌, ℕ, not, ◌==◌, List, [], ◌∷◌, ◌++◌, map, flat_map, length, slice_get, Option, Some, None, option_map, is_some, codes, refl, ap, ap₂, ◌∙◌}
use Rattle.type_lattice.specs.Classes.{Tree, chain}
use Rattle.hhbc_repo.specs.declared.link_fault.LinkFault.{LinkFault}
use Rattle.hhbc_repo.specs.declared.link_fault.LinkKind.TheVariants as reasons
use Rattle.hhbc_repo.specs.declared.parts.BodyParts.{BodyParts}
use Rattle.hhbc_repo.specs.declared.parts.ClassParts.{ClassParts}
use Rattle.hhbc_repo.specs.declared.parts.PropertyParts.{PropertyParts}
use Rattle.hhbc_repo.specs.declared.parts.TypeParts.{TypeParts}
use Rattle.hhbc_repo.specs.LinkFaults.{Name, Whole, Place, names, place_in, class_names, class_of, parent_in, parents, constants, properties, methods, along, with_name, check, known, class_faults, type_faults, stated_faults, parent_faults, constant_faults, method_in, method_faults, function_faults, property_checks}
use Rattle.hhbc_repo.specs.Resolved.{or_zero, named_class, class_number, type_with, resolved_type}

abbrev pub parameters : BodyParts → List Name
parameters b = b.params

abbrev pub place : Whole → BodyParts → Name → Place
place w b owner = record { whole = w; body = b; owner = owner }

-- bodies that faults call by what comes of their names
abbrev pub places_called : Whole → (Name → Name) → List BodyParts → List Place
places_called w called bs = map (λ (b : BodyParts). record { whole = w; body = b; owner = called b.name }) bs

-- what faults call the methods of a class
abbrev pub of_class : ClassParts → Name → Name
of_class c name = c.name ++ (codes "::" ++ name)

pub record Alike (w v : Whole) : Type 0 where
  pub names_same : class_names v ≡ class_names w
  pub tree_same : parents v ≡ parents w
  pub constants_same : constants v ≡ constants w
  pub properties_same : properties v ≡ properties w
  pub functions_same : (name : Name) → option_map parameters (with_name v.functions name) ≡ option_map parameters (with_name w.functions name)
  pub methods_same : (cs : List ℕ) (name : Name) → option_map parameters (with_name (along (methods v) cs) name) ≡ option_map parameters (with_name (along (methods w) cs) name)

-- ---- classes by number

pub parent_named : (w v : Whole) → class_names v ≡ class_names w → (o : Option Name) → parent_in v o ≡ parent_in w o
parent_named w v e None = refl
parent_named w v e (Some name) = ap (λ (l : List Name). place_in l name) e

module _ (w v : Whole) (alike : Alike w v) where
  pub class_same : (name : Name) → class_of v name ≡ class_of w name
  class_same name = ap (λ (l : List Name). place_in l name) alike.names_same

  pub number_same : (name : Name) → class_number v name ≡ class_number w name
  number_same name = ap or_zero (class_same name)

  named_same : (o : Option Name) → named_class v o ≡ named_class w o
  named_same None = refl
  named_same (Some name) = number_same name

  pub parent_same : (o : Option Name) → parent_in v o ≡ parent_in w o
  parent_same o = parent_named w v alike.names_same o

  pub type_same : (t : TypeParts) → resolved_type v t ≡ resolved_type w t
  type_same t = λ i. type_with (λ n. named_same (slice_get t.classes n) i) t.t

  -- ---- checks of types

  pub class_faults_same : (owner name : Name) → class_faults v owner name ≡ class_faults w owner name
  class_faults_same owner name = ap (λ (o : Option ℕ). known (is_some o) owner name) (class_same name)

  pub type_faults_same : (owner : Name) (t : TypeParts) → type_faults v owner t ≡ type_faults w owner t
  type_faults_same owner t = λ i. flat_map (λ name. class_faults_same owner name i) t.classes

  pub stated_faults_same : (owner : Name) (o : Option TypeParts) → stated_faults v owner o ≡ stated_faults w owner o
  stated_faults_same owner None = refl
  stated_faults_same owner (Some t) = type_faults_same owner t

  pub parent_faults_same : (owner : Name) (o : Option Name) → parent_faults v owner o ≡ parent_faults w owner o
  parent_faults_same owner None = refl
  parent_faults_same owner (Some name) = class_faults_same owner name

  pub property_checks_same : (owner : Name) (before : List Name) (ps : List PropertyParts) → property_checks v owner before ps ≡ property_checks w owner before ps
  property_checks_same owner before [] = refl
  property_checks_same owner before (p ∷ ps) =
      ap₂ (λ (x y : List LinkFault). check (not (names before p.name)) reasons.DuplicateProperty owner p.name 0 ++ (x ++ y))
      (stated_faults_same owner p.stated) (property_checks_same owner (before ++ p.name ∷ []) ps)

  -- ---- checks of calls and constants

  module _ (b c : BodyParts) (owner name : Name) where
    pub constant_faults_same : (class : Name) (o : Option ℕ) → constant_faults (place v c owner) name class o ≡ constant_faults (place w b owner) name class o
    constant_faults_same class None = refl
    constant_faults_same class (Some n) =
        ap₂ (λ (t : List (List Name)) (r : Tree). known (names (along t (chain r n)) name) owner name) alike.constants_same alike.tree_same

    count_same : (count : ℕ) (o p : Option BodyParts) → option_map parameters p ≡ option_map parameters o → method_in (place v c owner) name count p ≡ method_in (place w b owner) name count o
    count_same count None None e = refl
    count_same count None (Some y) e = absurd (cc)
    count_same count (Some x) None e = absurd (cc)
    count_same count (Some x) (Some y) e = let same : y.params ≡ x.params = cc in ap (λ (l : List Name). check (length l == count) reasons.WrongArity owner name count) same

    pub method_faults_same : (class : Name) (count : ℕ) (o : Option ℕ) → method_faults (place v c owner) name class count o ≡ method_faults (place w b owner) name class count o
    method_faults_same class count None = refl
    method_faults_same class count (Some n) =
        ap (λ (r : Tree). method_in (place v c owner) name count (with_name (along (methods v) (chain r n)) name)) alike.tree_same
        ∙ count_same count (with_name (along (methods w) (chain (parents w) n)) name) (with_name (along (methods v) (chain (parents w) n)) name) (alike.methods_same (chain (parents w) n) name)

    same_function : (count : ℕ) (o p : Option BodyParts) → option_map parameters p ≡ option_map parameters o → function_faults (place v c owner) name count p ≡ function_faults (place w b owner) name count o
    same_function count None None e = refl
    same_function count None (Some y) e = absurd (cc)
    same_function count (Some x) None e = absurd (cc)
    same_function count (Some x) (Some y) e = let same : y.params ≡ x.params = cc in ap (λ (l : List Name). check (length l == count) reasons.WrongArity owner name count) same

    pub function_faults_same : (count : ℕ) → function_faults (place v c owner) name count (with_name v.functions name) ≡ function_faults (place w b owner) name count (with_name w.functions name)
    function_faults_same count = same_function count (with_name w.functions name) (with_name v.functions name) (alike.functions_same name)
