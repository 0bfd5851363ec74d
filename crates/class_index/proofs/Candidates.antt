-- What names give in the classes of a part, among what bears the names.
use Rattle.std.proofs.Common.{◌≡◌, ◌<◌, ◌≤◌, ◌+◌, ℕ, zero, suc, refl, sym, subst, ap, ap₂, ◌∙◌, cond, Bool, true, false, ◌&&◌, ◌==◌, Some, None, Option, List, [], ◌∷◌, ◌++◌, map, filter, length, slice_get, get_or, arith, length-append, replicate, option_map, reverse, take, if◌then◌else◌}
use Rattle.std.specs.List.{list_any, list_all, flat_map}
use Rattle.std.proofs.lemmas.Bool.{eqb-true, eq-eqb}
use Rattle.std.proofs.lemmas.List.{length-map, take_all}
use Rattle.std.proofs.lemmas.Option.{get_or_from_slice_get, slice_get-get_or, slice_get-map}
use Rattle.type_lattice.specs.declared.types.ObjPart.{ObjPart}
use Rattle.type_lattice.specs.Classes.{Tree, Forest, has, below, chain, flat}
use Rattle.type_lattice.specs.Member.{obj_in}
use Rattle.type_lattice.proofs.Chains.{below_here}
use Rattle.hhbc_repo.specs.declared.body.Body.{Body}
use Rattle.hhbc_repo.specs.declared.repo.Class.{Class}
use Rattle.hhbc_repo.specs.Linked.{Linked}
use Rattle.hhbc_repo.specs.Names.{distinct}
use Rattle.hhbc_repo.specs.Bodies.{bodies, body_at, numbers, own_from, tree_of}
use Rattle.hhbc_repo.specs.LinkFaults.{Name, is_name}
use Rattle.hhbc_repo.specs.LookUps.{Sound, all_methods, all_properties, inherited, method_names, method_of, methods_in, own_number, owners, owners_from, property_owners, property_owners_from, total}
use Rattle.hhbc_repo.specs.Places.{bearers, methods_named, together}
use Rattle.hhbc_repo.proofs.Inherited.{inherited_here}
use Rattle.hhbc_repo.proofs.MethodsFound.{given}
use Rattle.hhbc_repo.proofs.Numbering.{numbers_on}
use Rattle.hhbc_repo.proofs.Placed.{counts_are, tables_count}
use Rattle.class_index.specs.Named.{Names, NoName, OneName, AnyName, classes, gives, is_called, is_given, is_number, takes, targets}
use Rattle.class_index.specs.Named as named
use Rattle.class_index.specs.Reached.{borne, is_entered, is_met, is_reached, owner_at, reaches, reaches_from}
use Rattle.class_index.proofs.PartsReached.{IsHad, any_from, reached}
use Rattle.class_index.proofs.Tables.{declared, from_zero, stands}
use Rattle.class_index.proofs.NamesReached.{all_is_had, all_is_below, alone, finds, found_is_had, has_name, in_tree, not_before, is_some_number}

-- ---- filters

pub filter_same : (p t : ℕ → Bool) (s k : ℕ) → ((q : ℕ) → s ≤ q → q < s + k → p q ≡ t q) → filter p (numbers s k) ≡ filter t (numbers s k)
filter_same p t s zero h = refl
filter_same p t s (suc k) h =
    ap (λ (b : Bool). cond b (s ∷ filter p (numbers (suc s) k)) (filter p (numbers (suc s) k))) (h s (omega arith) (omega arith))
    ∙ ap (λ (xs : List ℕ). cond (t s) (s ∷ xs) xs) (filter_same p t (suc s) k (λ q l m. h q (omega (arith, l)) (omega (arith, m))))

filter_none : (p : ℕ → Bool) (s k : ℕ) → ((q : ℕ) → s ≤ q → q < s + k → p q ≡ false) → filter p (numbers s k) ≡ []
filter_none p s zero h = refl
filter_none p s (suc k) h =
    ap (λ (b : Bool). cond b (s ∷ filter p (numbers (suc s) k)) (filter p (numbers (suc s) k))) (h s (omega arith) (omega arith))
    ∙ filter_none p (suc s) k (λ q l m. h q (omega (arith, l)) (omega (arith, m)))

filter_parts : (p : ℕ → Bool) (xs ys : List ℕ) → filter p (xs ++ ys) ≡ filter p xs ++ filter p ys
filter_parts p [] ys = refl
filter_parts p (x ∷ xs) ys = go (p x) (filter_parts p xs ys)
  where
    go : (b : Bool) → filter p (xs ++ ys) ≡ filter p xs ++ filter p ys → cond b (x ∷ filter p (xs ++ ys)) (filter p (xs ++ ys)) ≡ cond b (x ∷ filter p xs) (filter p xs) ++ filter p ys
    go true more = ap (λ (zs : List ℕ). x ∷ zs) more
    go false more = more

-- what passes among numbers is what passes another test among those that bear a name, where nothing else passes
record Agrees (p t : ℕ → Bool) (name : Name) (n : ℕ) (ns : List Name) : Type 0 where
  others : (i : ℕ) (other : Name) → slice_get ns i ≡ Some other → is_name name other ≡ false → p (n + i) ≡ false
  bearers : (i : ℕ) (other : Name) → slice_get ns i ≡ Some other → is_name name other ≡ true → p (n + i) ≡ t (n + i)

sieve : (p t : ℕ → Bool) (name : Name) (n : ℕ) (ns : List Name) → Agrees p t name n ns → filter t (bearers n ns name) ≡ filter p (numbers n (length ns))
sieve p t name n [] h = refl
sieve p t name n (other ∷ ns) h = go (is_name name other) refl (sieve p t name (suc n) ns later)
  where
    at : (i : ℕ) → n + suc i ≡ suc n + i
    at i = omega arith

    later : Agrees p t name (suc n) ns
    later = record {
      others = λ i o k l. subst (λ (q : ℕ). p q ≡ false) (at i) (h.others (suc i) o k l);
      bearers = λ i o k l. subst (λ (q : ℕ). p q ≡ t q) (at i) (h.bearers (suc i) o k l);
    }

    here : n + 0 ≡ n
    here = omega arith

    go : (b : Bool) → is_name name other ≡ b → filter t (bearers (suc n) ns name) ≡ filter p (numbers (suc n) (length ns))
        → filter t ((if b then n ∷ [] else []) ++ bearers (suc n) ns name) ≡ cond (p n) (n ∷ filter p (numbers (suc n) (length ns))) (filter p (numbers (suc n) (length ns)))
    go true e more =
        let k : p n ≡ t n = subst (λ (q : ℕ). p q ≡ t q) here (h.bearers 0 other refl e) in
        ap (λ (xs : List ℕ). cond (t n) (n ∷ xs) xs) more ∙ ap (λ (b : Bool). cond b (n ∷ filter p (numbers (suc n) (length ns))) (filter p (numbers (suc n) (length ns)))) (sym k)
    go false e more =
        let k : p n ≡ false = subst (λ (q : ℕ). p q ≡ false) here (h.others 0 other refl e) in
        more ∙ ap (λ (b : Bool). cond b (n ∷ filter p (numbers (suc n) (length ns))) (filter p (numbers (suc n) (length ns)))) (sym k)

together_count : (table : List (List Name)) → length (together table) ≡ total table
together_count [] = refl
together_count (names ∷ table) = length-append names (together table) ∙ ap (λ (k : ℕ). length names + k) (together_count table)

false_if_not : (b : Bool) → (b ≡ true → ⊥) → b ≡ false
false_if_not true h = absurd (h refl)
false_if_not false h = refl

within_list : {A : Type 0} (xs : List A) (i : ℕ) (x : A) → slice_get xs i ≡ Some x → i < length xs
within_list [] i x e = absurd (cc)
within_list (y ∷ xs) zero x e = omega arith
within_list (y ∷ xs) (suc i) x e = let l = within_list xs i x e in omega (arith, l)

-- ---- a table of names over the classes of a tree

module _ (first : ℕ) (table : List (List Name)) (tree : Tree) (forest : Forest tree) (differ : list_all distinct table ≡ true) (whole : length table ≡ length tree) (name : Name) where
  abbrev finding : ℕ → ℕ → Bool
  finding q c = is_number (inherited first table tree c name) q

  abbrev class_finds : ObjPart → ℕ → Bool
  class_finds part q = list_any (finding q) (filter (λ c. obj_in tree (Some c) part) (numbers 0 (length tree)))

  pub nothing_else : (part : ObjPart) (i : ℕ) (other : Name) → slice_get (together table) i ≡ Some other → is_name name other ≡ false → class_finds part (first + i) ≡ false
  nothing_else part i other h k = false_if_not (class_finds part (first + i)) (λ m.
      let l = within_list (together table) i other h in
      let z = together_count table in
      let d = declared first 0 table i (omega (arith, l, z)) in
      let w = any_from (finding (first + i)) (λ c. obj_in tree (Some c) part) (numbers 0 (length tree)) m in
      let v = given (own_number first table name) (chain tree w.0) (first + i) (is_some_number (inherited first table tree w.0 name) (first + i) w.2) in
      let n = has_name first table name d.class d.place (first + i) other (stands first 0 table d.class d.place (first + i) d.stands) i refl h v.0 v.2 in
      let x : true ≡ false = sym n ∙ k in
      absurd (cc))

  pub those_named : (part : ObjPart) (i : ℕ) (other : Name) → slice_get (together table) i ≡ Some other → is_name name other ≡ true
      → (d : ℕ) → slice_get (property_owners_from 0 table) i ≡ Some d → class_finds part (first + i) ≡ reaches tree part (finding (first + i)) d
  those_named part i other h k o owned =
      let l = within_list (together table) i other h in
      let z = together_count table in
      let d = declared first 0 table i (omega (arith, l, z)) in
      let s = stands first 0 table d.class d.place (first + i) d.stands in
      let own = finds first table name differ d.class d.place (first + i) other d.stands i refl h k in
      let number = s.number in
      let at : i ≡ s.at = omega (arith, number) in
      let same : Some (0 + d.class) ≡ Some o = sym s.owner ∙ ap (slice_get (property_owners_from 0 table)) (sym at) ∙ owned in
      let class : d.class ≡ o = same_number d.class o same in
      let c = s.class in
      subst (λ (e : ℕ). class_finds part (first + i) ≡ reaches tree part (finding (first + i)) e) class
      (reached tree forest (finding (first + i)) d.class
      (found_is_had tree forest (own_number first table name) d.class (first + i) (omega (arith, c, whole)) own (alone first table name d.class d.place (first + i) s)
      (inherited_here tree forest first table name d.class (first + i) own)) part)
    where
      same_number : (a b : ℕ) → Some (0 + a) ≡ Some b → a ≡ b
      same_number a b e = let m : 0 + a ≡ b = cc in omega (arith, m)

-- ---- properties

module _ (r : Linked) (sound : Sound r) where
  tree_count : length (all_properties r) ≡ length (tree_of r)
  tree_count = tables_count r ∙ ap (λ n. suc (suc (suc (suc (suc (suc n)))))) (length-map r.classes (λ (c : Class). c.name) ∙ sym (length-map r.classes (λ (c : Class). c.parent)))

  properties_differ : list_all distinct (all_properties r) ≡ true
  properties_differ = sound.properties

  owned : (i : ℕ) → i < total (all_properties r) → slice_get (property_owners r) i ≡ Some (owner_at r i)
  owned i h =
      let d = from_zero 0 (all_properties r) i h in
      let s = stands 0 0 (all_properties r) d.0 d.1 i d.2 in
      let number = s.number in
      let at : s.at ≡ i = omega (arith, number) in
      let e : slice_get (property_owners r) i ≡ Some (0 + d.0) = ap (slice_get (property_owners r)) (sym at) ∙ s.owner in
      e ∙ ap (λ (k : ℕ). Some k) (sym (get_or_from_slice_get (property_owners r) i (0 + d.0) 0 e))

  one_name : (part : ObjPart) (name : Name) → Agrees (is_given r part (OneName name)) (is_reached r part (OneName name)) name 0 (together (all_properties r))
  one_name part name = record {
    others = λ i other h k. nothing_else 0 (all_properties r) (tree_of r) sound.forest properties_differ tree_count name part i other h k;
    bearers = λ i other h k.
        let l = within_list (together (all_properties r)) i other h in
        let z = together_count (all_properties r) in
        those_named 0 (all_properties r) (tree_of r) sound.forest properties_differ tree_count name part i other h k (owner_at r (0 + i))
        (owned i (omega (arith, l, z)) ∙ ap (λ (j : ℕ). Some (owner_at r j)) (on i));
  }
    where
      on : (i : ℕ) → i ≡ 0 + i
      on i = omega arith

  pub has_below : (c q : ℕ) → q < total (all_properties r) → gives r AnyName q c ≡ below (tree_of r) c (owner_at r q)
  has_below c q h =
      let d = from_zero 0 (all_properties r) q h in
      let s = stands 0 0 (all_properties r) d.0 d.1 q d.2 in
      let number = s.number in
      let at : s.at ≡ q = omega (arith, number) in
      let zero_on : d.0 ≡ 0 + d.0 = omega arith in
      let e : slice_get (property_owners r) q ≡ Some (0 + d.0) = ap (slice_get (property_owners r)) (sym at) ∙ s.owner in
      let o : d.0 ≡ owner_at r q = zero_on ∙ sym (get_or_from_slice_get (property_owners r) q (0 + d.0) 0 e) in
      let k = s.class in
      let inside : d.0 < length (tree_of r) = omega (arith, k, tree_count) in
      subst (λ (ns : List ℕ). has q (flat_map (λ d. own_from 0 ns d) (reverse (chain (tree_of r) c))) ≡ below (tree_of r) c (owner_at r q)) (counts_are r)
      (all_is_below 0 (all_properties r) (tree_of r) sound.forest d.0 d.1 q inside d.2 c ∙ ap (below (tree_of r) c) o)

  any_name : (part : ObjPart) (q : ℕ) → q < total (all_properties r) → is_given r part AnyName q ≡ is_reached r part AnyName q
  any_name part q h =
      let d = from_zero 0 (all_properties r) q h in
      let s = stands 0 0 (all_properties r) d.0 d.1 q d.2 in
      let number = s.number in
      let at : s.at ≡ q = omega (arith, number) in
      let zero_on : d.0 ≡ 0 + d.0 = omega arith in
      let e : slice_get (property_owners r) q ≡ Some (0 + d.0) = ap (slice_get (property_owners r)) (sym at) ∙ s.owner in
      let o : d.0 ≡ owner_at r q = zero_on ∙ sym (get_or_from_slice_get (property_owners r) q (0 + d.0) 0 e) in
      let c = s.class in
      let inside : d.0 < length (tree_of r) = omega (arith, c, tree_count) in
      subst (λ (e : ℕ). is_given r part AnyName q ≡ reaches (tree_of r) part (gives r AnyName q) e) o
      (reached (tree_of r) sound.forest (gives r AnyName q) d.0 (had d.0 d.1 inside d.2) part)
    where
      had : (d p : ℕ) → d < length (tree_of r) → slice_get (own_from 0 (map length (all_properties r)) d) p ≡ Some q → IsHad (tree_of r) (gives r AnyName q) d
      had d p inside there =
          subst (λ (ns : List ℕ). IsHad (tree_of r) (λ c. has q (flat_map (λ d. own_from 0 ns d) (reverse (chain (tree_of r) c)))) d) (counts_are r)
          (all_is_had 0 (all_properties r) (tree_of r) sound.forest d p q inside there
          (in_tree (tree_of r) sound.forest (λ e. cond (e == d) (Some q) None) d q inside (lone_here d) (lone_alone d)) (below_here (tree_of r) sound.forest d d refl))
        where
          lone_here : (d : ℕ) → cond (d == d) (Some q) None ≡ Some q
          lone_here d = ap (λ (b : Bool). cond b (Some q) None) (eq-eqb d d refl)

          lone_alone : (d e : ℕ) → cond (e == d) (Some q) None ≡ Some q → e ≡ d
          lone_alone d e h = go (e == d) refl h
            where
              go : (b : Bool) → (e == d) ≡ b → cond b (Some q) None ≡ Some q → e ≡ d
              go true k m = eqb-true e d k
              go false k m = absurd (cc)

  pub properties_reached : (part : ObjPart) (names : Names) → filter (is_reached r part names) (borne r names) ≡ named.given r part names
  properties_reached part NoName = sym (filter_none (is_given r part NoName) 0 (total (all_properties r)) (λ q l m. none q))
    where
      none_among : (q : ℕ) (cs : List ℕ) → list_any (gives r NoName q) cs ≡ false
      none_among q [] = refl
      none_among q (c ∷ cs) = none_among q cs

      none : (q : ℕ) → is_given r part NoName q ≡ false
      none q = none_among q (classes r part)
  properties_reached part (OneName name) =
      sieve (is_given r part (OneName name)) (is_reached r part (OneName name)) name 0 (together (all_properties r)) (one_name part name)
      ∙ ap (λ (k : ℕ). filter (is_given r part (OneName name)) (numbers 0 k)) (together_count (all_properties r))
  properties_reached part AnyName = sym (filter_same (is_given r part AnyName) (is_reached r part AnyName) 0 (total (all_properties r)) (λ q l m. any_name part q (omega (arith, m))))

-- ---- bodies

owners_are : (n : ℕ) (cs : List Class) → owners_from n cs ≡ map (λ (k : ℕ). Some k) (property_owners_from n (method_names cs))
owners_are n [] = refl
owners_are n (c ∷ cs) = go c.methods (owners_are (suc n) cs)
  where
    go : (bs : List Body) → owners_from (suc n) cs ≡ map (λ (k : ℕ). Some k) (property_owners_from (suc n) (method_names cs))
        → map (λ (b : Body). Some n) bs ++ owners_from (suc n) cs
        ≡ map (λ (k : ℕ). Some k) (replicate (length (map (λ (b : Body). b.name) bs)) n ++ property_owners_from (suc n) (method_names cs))
    go [] more = more
    go (b ∷ bs) more = ap (λ (os : List (Option ℕ)). Some n ∷ os) (go bs more)

methods_total : (cs : List Class) → total (method_names cs) ≡ length (methods_in cs)
methods_total [] = refl
methods_total (c ∷ cs) = ap₂ (λ (x y : ℕ). x + y) (length-map c.methods (λ (b : Body). b.name)) (methods_total cs) ∙ sym (length-append c.methods (methods_in cs))

behind : {A : Type 0} (xs ys : List A) (n : ℕ) → slice_get (xs ++ ys) (length xs + n) ≡ slice_get ys n
behind [] ys n = ap (slice_get ys) (omega arith)
behind (x ∷ xs) ys n = let e : suc (length xs) + n ≡ suc (length xs + n) = omega arith in ap (slice_get (x ∷ (xs ++ ys))) e ∙ behind xs ys n

module _ (r : Linked) (sound : Sound r) where
  methods_count : length (all_methods r) ≡ length (tree_of r)
  methods_count = ap (λ n. suc (suc (suc (suc (suc (suc n)))))) (length-map r.classes (λ (c : Class). map (λ (b : Body). b.name) c.methods) ∙ sym (length-map r.classes (λ (c : Class). c.parent)))

  methods_differ : list_all distinct (all_methods r) ≡ true
  methods_differ = sound.methods

  owner_of_method : (i : ℕ) → slice_get (owners r) (length r.functions + i) ≡ slice_get (map (λ (k : ℕ). Some k) (property_owners_from 0 (all_methods r))) i
  owner_of_method i =
      ap (λ (k : ℕ). slice_get (owners r) (k + i)) (sym (length-map r.functions (λ (b : Body). None)))
      ∙ behind (map (λ (b : Body). None) r.functions) (owners_from 6 r.classes) i
      ∙ ap (λ (os : List (Option ℕ)). slice_get os i) (owners_are 6 r.classes)

  method_owner : (i d : ℕ) → slice_get (property_owners_from 0 (all_methods r)) i ≡ Some d → flat (slice_get (owners r) (length r.functions + i)) ≡ Some d
  method_owner i d h =
      ap flat (owner_of_method i ∙ slice_get-map (λ (k : ℕ). Some k) (property_owners_from 0 (all_methods r)) i ∙ ap (option_map (λ (k : ℕ). Some k)) h)

  module _ (part : ObjPart) (name : Name) (count : ℕ) where
    abbrev is_target : ℕ → Bool
    is_target n = is_called r part name n && takes (body_at r n) count

    no_function : (n : ℕ) → n < length r.functions → is_target n ≡ false
    no_function n h = ap (λ (b : Bool). b && takes (body_at r n) count) (false_if_not (is_called r part name n) none)
      where
        none : is_called r part name n ≡ true → ⊥
        none m =
            let w = any_from (λ c. is_number (method_of r c name) n) (λ c. obj_in (tree_of r) (Some c) part) (numbers 0 (length (tree_of r))) m in
            let v = given (own_number (length r.functions) (all_methods r) name) (chain (tree_of r) w.0) n (is_some_number (method_of r w.0 name) n w.2) in
            let l = not_before (length r.functions) (all_methods r) name v.0 n v.2 in
            absurd (omega (arith, l, h))

    inside_all : (i : ℕ) → i < length (together (all_methods r)) → i < total (all_methods r)
    inside_all i h = subst (λ (k : ℕ). i < k) (together_count (all_methods r)) h

    agrees : Agrees is_target (is_met r part name count) name (length r.functions) (together (all_methods r))
    agrees = record {
      others = λ i other h k. ap (λ (b : Bool). b && takes (body_at r (length r.functions + i)) count)
          (nothing_else (length r.functions) (all_methods r) (tree_of r) sound.forest methods_differ methods_count name part i other h k);
      bearers = λ i other h k. ap (λ (b : Bool). b && takes (body_at r (length r.functions + i)) count) (there i other h k);
    }
      where
        there : (i : ℕ) (other : Name) → slice_get (together (all_methods r)) i ≡ Some other → is_name name other ≡ true
            → is_called r part name (length r.functions + i) ≡ is_entered r part name (length r.functions + i)
        there i other h k =
            let l = within_list (together (all_methods r)) i other h in
            let d = from_zero 0 (all_methods r) i (inside_all i l) in
            let s = stands 0 0 (all_methods r) d.0 d.1 i d.2 in
            let number = s.number in
            let at : s.at ≡ i = omega (arith, number) in
            let e : slice_get (property_owners_from 0 (all_methods r)) i ≡ Some (0 + d.0) = ap (slice_get (property_owners_from 0 (all_methods r))) (sym at) ∙ s.owner in
            those_named (length r.functions) (all_methods r) (tree_of r) sound.forest methods_differ methods_count name part i other h k (0 + d.0) e
            ∙ ap (reaches_from (tree_of r) part (λ c. is_number (method_of r c name) (length r.functions + i))) (sym (method_owner i (0 + d.0) e))

    pub bodies_entered : filter (is_met r part name count) (methods_named r name) ≡ targets r part name count
    bodies_entered =
        let m = methods_total r.classes in
        let z = together_count (all_methods r) in
        let w = length-append r.functions (methods_in r.classes) in
        let e : length (together (all_methods r)) ≡ length (methods_in r.classes) = omega (arith, z, m) in
        sieve is_target (is_met r part name count) name (length r.functions) (together (all_methods r)) agrees
        ∙ ap (λ (k : ℕ). filter is_target (numbers (length r.functions) k)) e
        ∙ ap (λ (xs : List ℕ). xs ++ filter is_target (numbers (length r.functions) (length (methods_in r.classes)))) (sym (filter_none is_target 0 (length r.functions) (λ q a b. no_function q (omega (arith, b)))))
        ∙ ap (λ (k : ℕ). filter is_target (numbers 0 (length r.functions)) ++ filter is_target (numbers k (length (methods_in r.classes)))) on
        ∙ sym (filter_parts is_target (numbers 0 (length r.functions)) (numbers (0 + length r.functions) (length (methods_in r.classes))))
        ∙ ap (filter is_target) (numbers_on 0 (length r.functions) (length (methods_in r.classes)))
        ∙ ap (λ (k : ℕ). filter is_target (numbers 0 k)) (sym w)
      where
        on : length r.functions ≡ 0 + length r.functions
        on = omega arith

-- ---- what bears a name is in range

bearers_within : (n : ℕ) (ns : List Name) (name : Name) (i q : ℕ) → slice_get (bearers n ns name) i ≡ Some q → (n ≤ q) × (q < n + length ns)
bearers_within n [] name i q e = absurd (cc)
bearers_within n (other ∷ ns) name i q e = go (is_name name other) i e (λ j k. bearers_within (suc n) ns name j q k)
  where
    later : (suc n ≤ q) × (q < suc n + length ns) → (n ≤ q) × (q < n + suc (length ns))
    later w = let a = w.0 in let b = w.1 in (omega (arith, a), omega (arith, b))

    go : (b : Bool) (i : ℕ) → slice_get ((if b then n ∷ [] else []) ++ bearers (suc n) ns name) i ≡ Some q
        → ((j : ℕ) → slice_get (bearers (suc n) ns name) j ≡ Some q → (suc n ≤ q) × (q < suc n + length ns)) → (n ≤ q) × (q < n + suc (length ns))
    go true zero k more = let m : n ≡ q = cc in (omega (arith, m), omega (arith, m))
    go true (suc j) k more = later (more j k)
    go false j k more = later (more j k)

numbers_within : (s k p q : ℕ) → slice_get (numbers s k) p ≡ Some q → q < s + k
numbers_within s zero p q e = absurd (cc)
numbers_within s (suc k) zero q e = let m : s ≡ q = cc in omega (arith, m)
numbers_within s (suc k) (suc p) q e = let w = numbers_within (suc s) k p q e in omega (arith, w)

pub borne_within : (r : Linked) (names : Names) (i q : ℕ) → slice_get (borne r names) i ≡ Some q → q < total (all_properties r)
borne_within r NoName i q e = absurd (cc)
borne_within r (OneName name) i q e = let w = (bearers_within 0 (together (all_properties r)) name i q e).1 in let z = together_count (all_properties r) in omega (arith, w, z)
borne_within r AnyName i q e = let w = numbers_within 0 (total (all_properties r)) i q e in omega (arith, w)

pub methods_within : (r : Linked) (name : Name) (i n : ℕ) → slice_get (methods_named r name) i ≡ Some n → n < length (bodies r)
methods_within r name i n e =
    let w = (bearers_within (length r.functions) (together (all_methods r)) name i n e).1 in
    let z = together_count (all_methods r) in
    let m = methods_total r.classes in
    let l = length-append r.functions (methods_in r.classes) in
    omega (arith, w, z, m, l)

pub method_within : (r : Linked) (name : Name) (ms : List ℕ) (i : ℕ) → ms ≡ methods_named r name → i < length ms → get_or ms i 0 < length (bodies r)
method_within r name ms i e h = methods_within r name i (get_or ms i 0) (ap (λ (ns : List ℕ). slice_get ns i) (sym e) ∙ slice_get-get_or ms i 0 h)

pub all_entered : (r : Linked) → Sound r → (part : ObjPart) (name : Name) (count : ℕ) (ms : List ℕ) (i : ℕ) → ms ≡ methods_named r name → length ms ≤ i
    → filter (is_met r part name count) (take i ms) ≡ targets r part name count
all_entered r sound part name count ms i e h = ap (filter (is_met r part name count)) (take_all i ms h ∙ e) ∙ bodies_entered r sound part name count
