-- What a repository keeps beside its functions and classes doesn't depend on what it claims.
use Rattle.std.proofs.Common.{◌≡◌, ◌<◌, ◌+◌, ◌^◌, ℕ, suc, Bool, true, ◌&&◌, Option, Some, None, List, [], ◌∷◌, ◌++◌, map, length, refl, sym, ap, ap₂, ◌∙◌, subst, codes}
use Rattle.std.specs.List.{list_all, flat_map}
use Rattle.std.proofs.lemmas.List.{length-map, map-append}
use Rattle.std.proofs.lemmas.Simd.{map-map}
use Rattle.type_lattice.specs.Classes.{Tree, Forest}
use Rattle.hhbc_repo.specs.declared.body.Body.{Body}
use Rattle.hhbc_repo.specs.declared.homes.Home.{Home}
use Rattle.hhbc_repo.specs.declared.repo.Class.{Class}
use Rattle.hhbc_repo.specs.declared.repo.Property.{Property}
use Rattle.hhbc_repo.specs.Bare.{bare, bare_body, bare_class, bare_property}
use Rattle.hhbc_repo.specs.Bearers.{Bearers, borne}
use Rattle.hhbc_repo.specs.Bodies.{bodies, built_in_names, built_in_tree, class_names, tree_of}
use Rattle.hhbc_repo.specs.Claims.{claims_within}
use Rattle.hhbc_repo.specs.Homes.{homes_at, homes_from, homes_of}
use Rattle.hhbc_repo.specs.Kept.{Kept}
use Rattle.hhbc_repo.specs.Lengths.{lists_fewer}
use Rattle.hhbc_repo.specs.Linked.{Linked}
use Rattle.hhbc_repo.specs.LinkFaults.{Name, first_class}
use Rattle.hhbc_repo.specs.LookUps.{Sound, all_methods, all_properties, function_names, method_names, methods_in, no_names, property_names, property_owners_from, total}
use Rattle.hhbc_repo.specs.MemberNames.{MemberNames}
use Rattle.hhbc_repo.specs.Names.{distinct}
use Rattle.hhbc_repo.specs.Places.{bearers, together}
use Rattle.hhbc_repo.specs.Ranges.{few_iterators}
use Rattle.hhbc_repo.proofs.BareWholes.{bare_names}
use Rattle.hhbc_repo.proofs.ClaimsKept.{claims_kept}

-- ---- each of them is that of the repository without claims

names_bare : (bs : List Body) → function_names (map bare_body bs) ≡ function_names bs
names_bare bs = map-map (λ (b : Body). b.name) bare_body bs

methods_bare : (cs : List Class) → method_names (map bare_class cs) ≡ method_names cs
methods_bare [] = refl
methods_bare (c ∷ cs) = ap₂ (λ (x : List Name) (xs : List (List Name)). x ∷ xs) (names_bare c.methods) (methods_bare cs)

properties_bare : (cs : List Class) → property_names (map bare_class cs) ≡ property_names cs
properties_bare [] = refl
properties_bare (c ∷ cs) = ap₂ (λ (x : List Name) (xs : List (List Name)). x ∷ xs) (map-map (λ (p : Property). p.name) bare_property c.props) (properties_bare cs)

tree_bare : (r : Linked) → tree_of (bare r) ≡ tree_of r
tree_bare r = ap (λ (t : Tree). built_in_tree ++ t) (map-map (λ (c : Class). c.parent) bare_class r.classes)

homes_at_bare : (o : Option ℕ) (n : ℕ) (bs : List Body) → homes_at o n (map bare_body bs) ≡ homes_at o n bs
homes_at_bare o n [] = refl
homes_at_bare o n (b ∷ bs) = ap (λ (l : List Home). record { class = o; place = n } ∷ l) (homes_at_bare o (suc n) bs)

homes_from_bare : (n : ℕ) (cs : List Class) → homes_from n (map bare_class cs) ≡ homes_from n cs
homes_from_bare n [] = refl
homes_from_bare n (c ∷ cs) = ap₂ (λ (x y : List Home). x ++ y) (homes_at_bare (Some n) 0 c.methods) (homes_from_bare (suc n) cs)

homes_bare : (r : Linked) → homes_of (bare r).functions (bare r).classes ≡ homes_of r.functions r.classes
homes_bare r = ap₂ (λ (x y : List Home). x ++ y) (homes_at_bare None 0 r.functions) (homes_from_bare first_class r.classes)

methods_in_bare : (cs : List Class) → methods_in (map bare_class cs) ≡ map bare_body (methods_in cs)
methods_in_bare [] = refl
methods_in_bare (c ∷ cs) = ap (λ (l : List Body). map bare_body c.methods ++ l) (methods_in_bare cs) ∙ sym (map-append bare_body c.methods (methods_in cs))

bodies_bare : (r : Linked) → bodies (bare r) ≡ map bare_body (bodies r)
bodies_bare r = ap (λ (l : List Body). map bare_body r.functions ++ l) (methods_in_bare r.classes) ∙ sym (map-append bare_body r.functions (methods_in r.classes))

iterators_bare : (bs : List Body) → list_all few_iterators (map bare_body bs) ≡ list_all few_iterators bs
iterators_bare [] = refl
iterators_bare (b ∷ bs) = ap (λ (x : Bool). few_iterators b && x) (iterators_bare bs)

all_methods_bare : (r : Linked) → all_methods (bare r) ≡ all_methods r
all_methods_bare r = ap (λ (l : List (List Name)). ([] ∷ no_names) ++ l) (methods_bare r.classes)

all_properties_bare : (r : Linked) → all_properties (bare r) ≡ all_properties r
all_properties_bare r = ap (λ (l : List (List Name)). ((codes "message" ∷ []) ∷ no_names) ++ l) (properties_bare r.classes)

-- ---- so it is the same for repositories that differ in claims alone

module _ (r s : Linked) (e : bare r ≡ bare s) where
  same : {A : Type 0} (f : Linked → A) → ((x : Linked) → f (bare x) ≡ f x) → f r ≡ f s
  same f h = sym (h r) ∙ ap f e ∙ h s

  pub same_names : class_names r ≡ class_names s
  same_names = same class_names bare_names

  same_functions : function_names r.functions ≡ function_names s.functions
  same_functions = same (λ x. function_names x.functions) (λ x. names_bare x.functions)

  same_count : length r.functions ≡ length s.functions
  same_count = same (λ x. length x.functions) (λ x. length-map x.functions bare_body)

  same_methods : all_methods r ≡ all_methods s
  same_methods = same all_methods all_methods_bare

  same_properties : all_properties r ≡ all_properties s
  same_properties = same all_properties all_properties_bare

  same_tree : tree_of r ≡ tree_of s
  same_tree = same tree_of tree_bare

  same_homes : homes_of r.functions r.classes ≡ homes_of s.functions s.classes
  same_homes = same (λ x. homes_of x.functions x.classes) homes_bare

  sound_kept : lists_fewer (2 ^ 32) s ≡ true → Sound r → Sound s
  sound_kept lists h = record {
    functions = subst (λ (l : List Name). distinct l ≡ true) same_functions h.functions;
    names = subst (λ (l : List Name). distinct l ≡ true) same_names h.names;
    methods = subst (λ (l : List (List Name)). list_all distinct l ≡ true) (same (λ x. method_names x.classes) (λ x. methods_bare x.classes)) h.methods;
    properties = subst (λ (l : List (List Name)). list_all distinct l ≡ true) (same (λ x. property_names x.classes) (λ x. properties_bare x.classes)) h.properties;
    forest = subst Forest same_tree h.forest;
    body_count = subst (λ (n : ℕ). n < 2 ^ 32) (same (λ x. length (bodies x)) (λ x. ap (λ (l : List Body). length l) (bodies_bare x) ∙ length-map (bodies x) bare_body)) h.body_count;
    class_count = subst (λ (l : List Name). length l < 2 ^ 32) same_names h.class_count;
    property_count = subst (λ (l : List (List Name)). total l + 1 < 2 ^ 32) same_properties h.property_count;
    lists = lists;
    iterators = subst (λ (b : Bool). b ≡ true)
        (same (λ x. list_all few_iterators (bodies x)) (λ x. ap (list_all few_iterators) (bodies_bare x) ∙ iterators_bare (bodies x))) h.iterators;
  }

  pub kept_too : (functions class_table class_list : List Name) (methods properties : MemberNames) (tree : Tree) (homes : List Home) (owners : List ℕ) (named_methods named_properties : Bearers)
      → claims_within s ≡ true → lists_fewer (2 ^ 32) s ≡ true
      → Kept r functions class_table class_list methods properties tree homes owners named_methods named_properties
      → Kept s functions class_table class_list methods properties tree homes owners named_methods named_properties
  kept_too functions class_table class_list methods properties tree homes owners named_methods named_properties claims lists k = record {
    functions_are = k.functions_are ∙ same_functions;
    table_is = k.table_is ∙ same_names;
    list_is = k.list_is ∙ same_names;
    methods_are = k.methods_are ∙ ap₂ (λ (n : ℕ) (l : List (List Name)). record { first = n; names = l }) same_count same_methods;
    properties_are = k.properties_are ∙ ap (λ (l : List (List Name)). record { first = 0; names = l }) same_properties;
    tree_is = k.tree_is ∙ same_tree;
    homes_are = k.homes_are ∙ same_homes;
    owners_are = k.owners_are ∙ ap (property_owners_from 0) same_properties;
    method_bearers_are = λ name. k.method_bearers_are name ∙ ap₂ (λ (n : ℕ) (l : List (List Name)). bearers n (together l) name) same_count same_methods;
    property_bearers_are = λ name. k.property_bearers_are name ∙ ap (λ (l : List (List Name)). bearers 0 (together l) name) same_properties;
    sound = sound_kept lists k.sound;
    spelling = claims_kept r s e claims k.spelling;
  }
