-- What a name finds on the way up from a class, told from the class that declares it.
use Rattle.std.proofs.Common.{◌≡◌, ◌<◌, ◌≤◌, ◌+◌, ◌⊎◌, inl, inr, ℕ, zero, suc, refl, sym, subst, ap, ◌∙◌, Bool, true, false, ◌||◌, ◌&&◌, ◌==◌, Some, None, Option, List, [], ◌∷◌, ◌++◌, map, length, reverse, slice_get, get_or, arith}
use Rattle.std.specs.List.{list_all, flat_map}
use Rattle.std.proofs.lemmas.Bool.{eqb-true, eq-eqb, lt-ltb}
use Rattle.std.proofs.lemmas.List.{reverse-append, append-nil}
use Rattle.std.proofs.lemmas.List.Quantifiers.{position-Some}
use Rattle.std.proofs.lemmas.Grind.{flat_map-append}
use Rattle.std.proofs.lemmas.Option.{slice_get_past, get_or_from_slice_get}
use Rattle.type_lattice.specs.Classes.{Tree, Forest, has, below, chain, flat}
use Rattle.type_lattice.specs.TypeText.{class_name, named}
use Rattle.type_lattice.proofs.Chains.{part, chain_root}
use Rattle.hhbc_repo.specs.Names.{distinct}
use Rattle.hhbc_repo.specs.Bodies.{own_from}
use Rattle.hhbc_repo.specs.LinkFaults.{Name, is_name, place_in, at_class}
use Rattle.hhbc_repo.specs.LookUps.{first_some, number_at, or_else, own_number, property_owners_from}
use Rattle.hhbc_repo.specs.Places.{together}
use Rattle.hhbc_repo.proofs.MethodsFound.{given}
use Rattle.hhbc_repo.proofs.Placed.{Apart, chain_apart}
use Rattle.hhbc_repo.proofs.TypesForth.{place_of_number}
use Rattle.class_index.specs.Named.{is_number}
use Rattle.class_index.proofs.PartsReached.{IsHad, both_ways, either, or_left, or_right}
use Rattle.class_index.proofs.Tables.{Stands, stands, split_at}

same_name : (name other : Name) → is_name name other ≡ true → name ≡ other
same_name [] [] e = refl
same_name [] (n ∷ ns) e = absurd (cc)
same_name (m ∷ ms) [] e = absurd (cc)
same_name (m ∷ ms) (n ∷ ns) e = grind (arith, same_name ms ns)

some_same : {A : Type 0} (a b : A) → Some a ≡ Some b → a ≡ b
some_same a b e = cc

pub is_some_number : (o : Option ℕ) (q : ℕ) → is_number o q ≡ true → o ≡ Some q
is_some_number None q h = absurd (cc)
is_some_number (Some m) q h = ap (λ (k : ℕ). Some k) (eqb-true m q h)

pub number_is : (o : Option ℕ) (q : ℕ) → o ≡ Some q → is_number o q ≡ true
number_is None q h = absurd (cc)
number_is (Some m) q h = eq-eqb m q (some_same m q h)

-- ---- no class stands twice on the way up

apart_parts : (xs ys : List ℕ) (d : ℕ) → Apart (xs ++ ys) → has d xs ≡ true → has d ys ≡ true → ⊥
apart_parts [] ys d a h k = absurd (cc)
apart_parts (x ∷ xs) ys d a h k = go (either (d == x) (has d xs) h) (λ e. apart_parts xs ys d a.1 e k)
  where
    behind : (zs : List ℕ) → has d ys ≡ true → has d (zs ++ ys) ≡ true
    behind [] m = m
    behind (z ∷ zs) m = or_right (d == z) (has d (zs ++ ys)) (behind zs m)

    go : ((d == x) ≡ true) ⊎ (has d xs ≡ true) → (has d xs ≡ true → ⊥) → ⊥
    go (inl e) more = let m : has x (xs ++ ys) ≡ true = subst (λ (z : ℕ). has z (xs ++ ys) ≡ true) (eqb-true d x e) (behind xs k) in let n : true ≡ false = sym m ∙ a.0 in absurd (cc)
    go (inr e) more = more e

first_parts : (f : ℕ → Option ℕ) (xs ys : List ℕ) → first_some f (xs ++ ys) ≡ or_else (first_some f xs) (first_some f ys)
first_parts f [] ys = refl
first_parts f (x ∷ xs) ys = go (f x) (first_parts f xs ys)
  where
    go : (o : Option ℕ) → first_some f (xs ++ ys) ≡ or_else (first_some f xs) (first_some f ys) → or_else o (first_some f (xs ++ ys)) ≡ or_else (or_else o (first_some f xs)) (first_some f ys)
    go None more = more
    go (Some m) more = refl

-- where one class alone gives the number, what passes it on the way up is only what stands below that class
module _ (tree : Tree) (forest : Forest tree) (f : ℕ → Option ℕ) (d q : ℕ) (inside : d < length tree) (own : f d ≡ Some q) (alone : (e : ℕ) → f e ≡ Some q → e ≡ d) where
  found_above : (c : ℕ) → first_some f (chain tree c) ≡ Some q → below tree c d ≡ true
  found_above c h = let w = given f (chain tree c) q h in subst (λ (e : ℕ). has e (chain tree c) ≡ true) (alone w.0 w.2) w.1

  pub in_tree : (c : ℕ) → below tree c d ≡ true → c < length tree
  in_tree c h = go (split_at c (length tree))
    where
      outside : length tree ≤ c → has d (chain tree c) ≡ true → c < length tree
      outside l m =
          let e : chain tree c ≡ c ∷ [] = chain_root tree forest c (ap flat (slice_get_past tree c l)) in
          let n : has d (c ∷ []) ≡ true = subst (λ (cs : List ℕ). has d cs ≡ true) e m in
          same (either (d == c) false n)
        where
          same : ((d == c) ≡ true) ⊎ (false ≡ true) → c < length tree
          same (inl k) = subst (λ (x : ℕ). x < length tree) (eqb-true d c k) inside
          same (inr k) = absurd (cc)

      go : (c < length tree) ⊎ (length tree ≤ c) → c < length tree
      go (inl l) = l
      go (inr l) = outside l h

  passed : (b c : ℕ) → first_some f (chain tree b) ≡ Some q → below tree b c ≡ true → below tree c d ≡ true → first_some f (chain tree c) ≡ Some q
  passed b c h k l =
      let w = part tree forest b c k in
      go w.0 w.1 (first_some f w.0) refl (sym (first_parts f w.0 (chain tree c)) ∙ ap (first_some f) (sym w.1) ∙ h)
    where
      go : (front : List ℕ) → chain tree b ≡ front ++ chain tree c → (o : Option ℕ) → first_some f front ≡ o → or_else (first_some f front) (first_some f (chain tree c)) ≡ Some q → first_some f (chain tree c) ≡ Some q
      go front e None m n = ap (λ (o : Option ℕ). or_else o (first_some f (chain tree c))) (sym m) ∙ n
      go front e (Some x) m n =
          let y : Some x ≡ Some q = ap (λ (o : Option ℕ). or_else o (first_some f (chain tree c))) (sym m) ∙ n in
          let w = given f front q (m ∙ y) in
          absurd (apart_parts front (chain tree c) d (subst Apart e (chain_apart tree forest b)) (subst (λ (z : ℕ). has z front ≡ true) (alone w.0 w.2) w.1) l)

  pub found_is_had : first_some f (chain tree d) ≡ Some q → IsHad tree (λ c. is_number (first_some f (chain tree c)) q) d
  found_is_had h = record {
    inside = inside;
    here = number_is (first_some f (chain tree d)) q h;
    above = λ c g. found_above c (is_some_number (first_some f (chain tree c)) q g);
    known = λ c g. in_tree c (found_above c (is_some_number (first_some f (chain tree c)) q g));
    between = λ b c g k l. number_is (first_some f (chain tree c)) q (passed b c (is_some_number (first_some f (chain tree b)) q g) k l);
  }

-- ---- a table of names

all_at : (table : List (List Name)) (d : ℕ) → list_all distinct table ≡ true → d < length table → distinct (at_class (slice_get table d)) ≡ true
all_at [] d h k = absurd (omega (arith, k))
all_at (names ∷ table) zero h k = go (distinct names) refl h
  where
    go : (b : Bool) → distinct names ≡ b → (b && list_all distinct table) ≡ true → distinct names ≡ true
    go true e m = e
    go false e m = absurd (cc)
all_at (names ∷ table) (suc d) h k = all_at table d (go (distinct names) h) (omega (arith, k))
  where
    go : (b : Bool) → (b && list_all distinct table) ≡ true → list_all distinct table ≡ true
    go true m = m
    go false m = absurd (cc)

module _ (first : ℕ) (table : List (List Name)) where
  -- the class and the place of a number are one
  same_class : (d p e s q : ℕ) → Stands first 0 table d p q → Stands first 0 table e s q → e ≡ d
  same_class d p e s q w v =
      let m = w.number in
      let n = v.number in
      let k : v.at ≡ w.at = omega (arith, m, n) in
      let l : Some (0 + e) ≡ Some (0 + d) = sym v.owner ∙ ap (slice_get (property_owners_from 0 table)) k ∙ w.owner in
      let r : 0 + e ≡ 0 + d = some_same (0 + e) (0 + d) l in
      omega (arith, r)

  module _ (name : Name) where
    record Bears (e q : ℕ) : Type 0 where
      place : ℕ
      stands : Stands first 0 table e place q
      named : is_name name (get_or (at_class (slice_get table e)) place []) ≡ true

    bears : (e q : ℕ) → own_number first table name e ≡ Some q → Bears e q
    bears e q h = go (place_in (at_class (slice_get table e)) name) refl h
      where
        go : (o : Option ℕ) → place_in (at_class (slice_get table e)) name ≡ o → number_at (own_from first (map length table) e) o ≡ Some q → Bears e q
        go None k m = absurd (cc)
        go (Some p) k m = record { place = p; stands = stands first 0 table e p q m; named = (position-Some (is_name name) (at_class (slice_get table e)) p [] k).1 }

    pub alone : (d p q : ℕ) → Stands first 0 table d p q → (e : ℕ) → own_number first table name e ≡ Some q → e ≡ d
    alone d p q w e h = let v = bears e q h in same_class d p e v.place q w v.stands

    pub not_before : (e q : ℕ) → own_number first table name e ≡ Some q → first ≤ q
    not_before e q h = let v = bears e q h in let w = v.stands in let n = w.number in omega (arith, n)

    -- what a name finds has the name
    pub has_name : (d p q : ℕ) (other : Name) → Stands first 0 table d p q → (i : ℕ) → q ≡ first + i → slice_get (together table) i ≡ Some other
        → (e : ℕ) → own_number first table name e ≡ Some q → is_name name other ≡ true
    has_name d p q other w i m n e h =
        let v = bears e q h in
        let s = v.stands in
        let k = s.number in
        let j : i ≡ s.at = omega (arith, m, k) in
        let o : slice_get (at_class (slice_get table e)) v.place ≡ Some other = sym s.name ∙ ap (slice_get (together table)) (sym j) ∙ n in
        subst (λ (x : Name). is_name name x ≡ true) (get_or_from_slice_get (at_class (slice_get table e)) v.place other [] o) v.named

    -- and where names differ, each that has the name is found
    pub finds : list_all distinct table ≡ true → (d p q : ℕ) (other : Name) → slice_get (own_from first (map length table) d) p ≡ Some q
        → (i : ℕ) → q ≡ first + i → slice_get (together table) i ≡ Some other → is_name name other ≡ true → own_number first table name d ≡ Some q
    finds differ d p q other own i m n h =
        let s = stands first 0 table d p q own in
        let k = s.number in
        let j : i ≡ s.at = omega (arith, m, k) in
        let o : slice_get (at_class (slice_get table d)) p ≡ Some other = sym s.name ∙ ap (slice_get (together table)) (sym j) ∙ n in
        let w = s.within in
        let z = place_of_number (at_class (slice_get table d)) p (all_at table d differ s.class) (lt-ltb p (length (at_class (slice_get table d))) w) in
        let y : class_name (at_class (slice_get table d)) p ≡ name = named_so (slice_get (at_class (slice_get table d)) p) o ∙ sym (same_name name other h) in
        let x : place_in (at_class (slice_get table d)) name ≡ Some p = subst (λ (x : Name). place_in (at_class (slice_get table d)) x ≡ Some p) y z in
        ap (number_at (own_from first (map length table) d)) x ∙ own
      where
        named_so : (o : Option Name) → o ≡ Some other → named o ≡ other
        named_so None e = absurd (cc)
        named_so (Some x) e = some_same x other e

  -- ---- all that objects of a class have

  has_both : (n : ℕ) (xs ys : List ℕ) → has n (xs ++ ys) ≡ (has n xs || has n ys)
  has_both n [] ys = refl
  has_both n (x ∷ xs) ys = go (n == x) (has_both n xs ys)
    where
      go : (b : Bool) → has n (xs ++ ys) ≡ (has n xs || has n ys) → (b || has n (xs ++ ys)) ≡ ((b || has n xs) || has n ys)
      go true more = refl
      go false more = more

  place_has : (n : ℕ) (xs : List ℕ) → has n xs ≡ true → (p : ℕ) × (slice_get xs p ≡ Some n)
  place_has n [] h = absurd (cc)
  place_has n (x ∷ xs) h = go (either (n == x) (has n xs) h) (λ k. place_has n xs k)
    where
      go : ((n == x) ≡ true) ⊎ (has n xs ≡ true) → (has n xs ≡ true → (p : ℕ) × (slice_get xs p ≡ Some n)) → (p : ℕ) × (slice_get (x ∷ xs) p ≡ Some n)
      go (inl e) more = (0, ap (λ (k : ℕ). Some k) (sym (eqb-true n x e)))
      go (inr e) more = let w = more e in (suc w.0, w.1)

  has_place : (n : ℕ) (xs : List ℕ) (p : ℕ) → slice_get xs p ≡ Some n → has n xs ≡ true
  has_place n [] p h = absurd (cc)
  has_place n (x ∷ xs) zero h = or_left (n == x) (has n xs) (eq-eqb n x (sym (some_same x n h)))
  has_place n (x ∷ xs) (suc p) h = or_right (n == x) (has n xs) (has_place n xs p h)

  abbrev own : ℕ → List ℕ
  own c = own_from first (map length table) c

  abbrev along : List ℕ → List ℕ
  along cs = flat_map own (reverse cs)

  along_step : (c : ℕ) (cs : List ℕ) → along (c ∷ cs) ≡ along cs ++ own c
  along_step c cs =
      ap (flat_map own) (reverse-append (c ∷ []) cs) ∙ flat_map-append own (reverse cs) (c ∷ []) ∙ ap (λ (l : List ℕ). flat_map own (reverse cs) ++ l) (append-nil (own c))

  from_along : (q d p : ℕ) → Stands first 0 table d p q → (cs : List ℕ) → has q (along cs) ≡ true → has d cs ≡ true
  from_along q d p w [] h = absurd (cc)
  from_along q d p w (c ∷ cs) h = go (either (has q (along cs)) (has q (own c)) (sym (ap (has q) (along_step c cs) ∙ has_both q (along cs) (own c)) ∙ h)) (λ k. from_along q d p w cs k)
    where
      go : (has q (along cs) ≡ true) ⊎ (has q (own c) ≡ true) → (has q (along cs) ≡ true → has d cs ≡ true) → has d (c ∷ cs) ≡ true
      go (inl k) more = or_right (d == c) (has d cs) (more k)
      go (inr k) more =
          let v = place_has q (own c) k in
          or_left (d == c) (has d cs) (eq-eqb d c (sym (same_class d p c v.0 q w (stands first 0 table c v.0 q v.1))))

  pub to_along : (q d p : ℕ) → slice_get (own d) p ≡ Some q → (cs : List ℕ) → has d cs ≡ true → has q (along cs) ≡ true
  to_along q d p w [] h = absurd (cc)
  to_along q d p w (c ∷ cs) h = ap (has q) (along_step c cs) ∙ has_both q (along cs) (own c) ∙ go (either (d == c) (has d cs) h) (λ k. to_along q d p w cs k)
    where
      go : ((d == c) ≡ true) ⊎ (has d cs ≡ true) → (has d cs ≡ true → has q (along cs) ≡ true) → (has q (along cs) || has q (own c)) ≡ true
      go (inl k) more = or_right (has q (along cs)) (has q (own c)) (subst (λ (x : ℕ). has q (own x) ≡ true) (eqb-true d c k) (has_place q (own d) p w))
      go (inr k) more = or_left (has q (along cs)) (has q (own c)) (more k)

  module _ (tree : Tree) (forest : Forest tree) (d p q : ℕ) (inside : d < length tree) (there : slice_get (own d) p ≡ Some q) where
    abbrev had : ℕ → Bool
    had c = has q (flat_map own (reverse (chain tree c)))

    onto : (c : ℕ) → had c ≡ true → below tree c d ≡ true
    onto c h = from_along q d p (stands first 0 table d p q there) (chain tree c) h

    back : (c : ℕ) → below tree c d ≡ true → had c ≡ true
    back c h = to_along q d p there (chain tree c) h

    pub all_is_had : ((c : ℕ) → below tree c d ≡ true → c < length tree) → below tree d d ≡ true → IsHad tree (λ c. has q (flat_map own (reverse (chain tree c)))) d
    all_is_had known here = record { inside = inside; here = back d here; above = onto; known = λ c g. known c (onto c g); between = λ b c g k l. back c l }

    pub all_is_below : (c : ℕ) → had c ≡ below tree c d
    all_is_below c = both_ways (had c) (below tree c d) (onto c) (back c)
