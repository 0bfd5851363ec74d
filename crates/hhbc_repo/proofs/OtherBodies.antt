-- Wholes that are made of others body by body and class by class: where names, parents and parameters stay, they are alike.
use Rattle.std.proofs.Common.{◌≡◌, ℕ, Bool, true, false, List, [], ◌∷◌, ◌++◌, map, slice_get, Option, Some, None, option_map, refl, sym, ap, ap₂, ◌∙◌, codes}
use Rattle.std.specs.Prelude.{if◌then◌else◌, take}
use Rattle.std.proofs.lemmas.List.{map-append}
use Rattle.std.proofs.lemmas.Option.{slice_get-map}
use Rattle.std.proofs.lemmas.Simd.{map-map}
use Rattle.type_lattice.specs.Classes.{Tree}
use Rattle.hhbc_repo.specs.declared.parts.BodyParts.{BodyParts}
use Rattle.hhbc_repo.specs.declared.parts.ClassParts.{ClassParts}
use Rattle.hhbc_repo.specs.declared.repo.Const.{Const}
use Rattle.hhbc_repo.specs.Bodies.{built_in_names, built_in_tree}
use Rattle.hhbc_repo.specs.LinkFaults.{Name, Whole, is_name, class_names, parent_in, parents, property_names, methods, at_class, along, with_name}
use Rattle.hhbc_repo.proofs.AlikeWholes.{Alike, parameters, parent_named}

abbrev constant_names : ClassParts → List Name
constant_names c = map (λ (k : Const). k.name) c.consts

-- what is made of bodies and classes has the same names, parents and parameters
pub record Keeps (f : BodyParts → BodyParts) (g : ClassParts → ClassParts) : Type 0 where
  pub body_name : (b : BodyParts) → (f b).name ≡ b.name
  pub body_params : (b : BodyParts) → (f b).params ≡ b.params
  pub class_name : (c : ClassParts) → (g c).name ≡ c.name
  pub class_parent : (c : ClassParts) → (g c).parent ≡ c.parent
  pub class_consts : (c : ClassParts) → map (λ (k : Const). k.name) (g c).consts ≡ map (λ (k : Const). k.name) c.consts
  pub class_props : (c : ClassParts) → property_names (g c) ≡ property_names c
  pub class_methods : (c : ClassParts) → (g c).methods ≡ map f c.methods

module _ (f : BodyParts → BodyParts) (g : ClassParts → ClassParts) (keeps : Keeps f g) where
  abbrev made : Whole → Whole
  made w = record { functions = map f w.functions; classes = map g w.classes }

  -- ---- bodies by their names

  found_when : (c d : Bool) (b : BodyParts) (o p : Option BodyParts) → d ≡ c → p ≡ option_map f o → (if d then Some (f b) else p) ≡ option_map f (if c then Some b else o)
  found_when true d b o p h e = ap (λ (x : Bool). if x then Some (f b) else p) h
  found_when false d b o p h e = ap (λ (x : Bool). if x then Some (f b) else p) h ∙ e

  found : (bs : List BodyParts) (name : Name) → with_name (map f bs) name ≡ option_map f (with_name bs name)
  found [] name = refl
  found (b ∷ bs) name =
      found_when (is_name name b.name) (is_name name (f b).name) b (with_name bs name) (with_name (map f bs) name) (ap (is_name name) (keeps.body_name b)) (found bs name)

  same_parameters : (o : Option BodyParts) → option_map parameters (option_map f o) ≡ option_map parameters o
  same_parameters None = refl
  same_parameters (Some b) = ap (λ (l : List Name). Some l) (keeps.body_params b)

  -- ---- methods of classes

  each_methods : (cs : List ClassParts) → map (λ (c : ClassParts). c.methods) (map g cs) ≡ map (map f) (map (λ (c : ClassParts). c.methods) cs)
  each_methods [] = refl
  each_methods (c ∷ cs) = ap₂ (λ (x : List BodyParts) (l : List (List BodyParts)). x ∷ l) (keeps.class_methods c) (each_methods cs)

  all_methods : (w : Whole) → methods (made w) ≡ map (map f) (methods w)
  all_methods w = ap (λ (l : List (List BodyParts)). map (λ (n : Name). []) built_in_names ++ l) (each_methods w.classes)

  at_class_map : (o : Option (List BodyParts)) → at_class (option_map (map f) o) ≡ map f (at_class o)
  at_class_map None = refl
  at_class_map (Some bs) = refl

  along_map : (table : List (List BodyParts)) (cs : List ℕ) → along (map (map f) table) cs ≡ map f (along table cs)
  along_map table [] = refl
  along_map table (c ∷ cs) =
      ap₂ (λ (x y : List BodyParts). x ++ y) (ap at_class (slice_get-map (map f) table c) ∙ at_class_map (slice_get table c)) (along_map table cs)
      ∙ sym (map-append f (at_class (slice_get table c)) (along table cs))

  -- ---- all of it

  names_made : (w : Whole) → class_names (made w) ≡ class_names w
  names_made w =
      let same : map (λ (c : ClassParts). (g c).name) w.classes ≡ map (λ (c : ClassParts). c.name) w.classes = λ i. map (λ (c : ClassParts). keeps.class_name c i) w.classes in
      ap (λ (l : List Name). built_in_names ++ l) (map-map (λ (c : ClassParts). c.name) g w.classes ∙ same)

  parents_made : (w : Whole) → parents (made w) ≡ parents w
  parents_made w =
      let own : map (λ (c : ClassParts). parent_in (made w) (g c).parent) w.classes ≡ map (λ (c : ClassParts). parent_in (made w) c.parent) w.classes =
      λ i. map (λ (c : ClassParts). parent_in (made w) (keeps.class_parent c i)) w.classes in
      let same : map (λ (c : ClassParts). parent_in (made w) c.parent) w.classes ≡ map (λ (c : ClassParts). parent_in w c.parent) w.classes =
      λ i. map (λ (c : ClassParts). parent_named w (made w) (names_made w) c.parent i) w.classes in
      ap (λ (l : Tree). built_in_tree ++ l) (map-map (λ (c : ClassParts). parent_in (made w) c.parent) g w.classes ∙ own ∙ same)

  constants_made : (cs : List ClassParts) → map constant_names (map g cs) ≡ map constant_names cs
  constants_made cs =
      let same : map (λ (c : ClassParts). constant_names (g c)) cs ≡ map constant_names cs = λ i. map (λ (c : ClassParts). keeps.class_consts c i) cs in
      map-map constant_names g cs ∙ same

  properties_made : (cs : List ClassParts) → map property_names (map g cs) ≡ map property_names cs
  properties_made cs =
      let same : map (λ (c : ClassParts). property_names (g c)) cs ≡ map property_names cs = λ i. map (λ (c : ClassParts). keeps.class_props c i) cs in
      map-map property_names g cs ∙ same

  pub made_alike : (w : Whole) → Alike w (record { functions = map f w.functions; classes = map g w.classes })
  made_alike w = record {
    names_same = names_made w;
    tree_same = parents_made w;
    constants_same = ap (λ (l : List (List Name)). map (λ (n : Name). []) built_in_names ++ l) (constants_made w.classes);
    properties_same = ap (λ (l : List (List Name)). ((codes "message" ∷ []) ∷ map (λ (n : Name). []) (take 5 built_in_names)) ++ l) (properties_made w.classes);
    functions_same = λ name. ap (option_map parameters) (found w.functions name) ∙ same_parameters (with_name w.functions name);
    methods_same = λ cs name.
        ap (λ (t : List (List BodyParts)). option_map parameters (with_name (along t cs) name)) (all_methods w)
        ∙ ap (λ (l : List BodyParts). option_map parameters (with_name l name)) (along_map (methods w) cs)
        ∙ ap (option_map parameters) (found (along (methods w) cs) name)
        ∙ same_parameters (with_name (along (methods w) cs) name);
  }
