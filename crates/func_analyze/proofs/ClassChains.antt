-- The order of classes is transitive in every tree, since a chain of parents that meets no class twice is no longer than the tree.
use Rattle.std.proofs.Common.{◌≡◌, ℕ, zero, suc, ◌<◌, ◌≤◌, refl, sym, ◌∙◌, ap, subst, Bool, true, false, ◌||◌, ◌==◌, eqb, Option, Some, None, List, [], ◌∷◌, ◌++◌, length, slice_get, arith}
use Rattle.std.specs.List.{list_any, IsDistinct, AllByRecursion}
use Rattle.std.proofs.lemmas.Option.{slice_get_within}
use Rattle.std.proofs.lemmas.Bool.Decides.{Decides-eqb}
use Rattle.std.proofs.lemmas.Map.Keys.{IsDistinct-cons}
use Rattle.std.proofs.lemmas.Map.Steps.{length-le_from_distinct_below}
use Rattle.type_lattice.specs.Classes.{Tree, has, flat, parent_of, chain_on, chain_within}
use Rattle.type_lattice.proofs.OrderLaws.{Transitive}

-- the classes from a up to b, each with its parent behind it, without b
abbrev IsChain : Tree → List ℕ → ℕ → ℕ → Type 0
IsChain tree [] a b = a ≡ b
IsChain tree (x ∷ xs) a b = (x ≡ a) × ((p : ℕ) × (parent_of tree a ≡ Some p) × IsChain tree xs p b)

-- no class stands twice
abbrev Once : List ℕ → Type 0
Once [] = Unit {0}
Once (x ∷ xs) = (list_any (eqb x) xs ≡ false) × Once xs

neither : (s t : Bool) → (s || t) ≡ false → (s ≡ false) × (t ≡ false)
neither true t h = absurd (cc)
neither false t h = (refl, h)

second : (s t : Bool) → t ≡ true → (s || t) ≡ true
second true t h = refl
second false t h = h

first_holds : (t : Bool) → (t || false) ≡ true → t ≡ true
first_holds true h = refl
first_holds false h = h

apart : (x : ℕ) (ys : List ℕ) → list_any (eqb x) ys ≡ false → AllByRecursion (λ y. eqb x y ≡ false) ys
apart x [] h = tt
apart x (y ∷ ys) h = let w = neither (eqb x y) (list_any (eqb x) ys) h in (w.0, apart x ys w.1)

distinct : (xs : List ℕ) → Once xs → IsDistinct eqb xs
unfolding IsDistinct
distinct [] h = tt
distinct (x ∷ xs) h = IsDistinct-cons eqb x xs (apart x xs h.0) (distinct xs h.1)

module _ (tree : Tree) where
  flat_some : (o : Option (Option ℕ)) (p : ℕ) → flat o ≡ Some p → o ≡ Some (Some p)
  flat_some None p e = absurd (cc)
  flat_some (Some o) p e = ap Some e

  child_is_within : (a p : ℕ) → parent_of tree a ≡ Some p → a < length tree
  child_is_within a p e = slice_get_within tree a (Some p) (flat_some (slice_get tree a) p e)

  -- each class of a chain is in the tree
  all_within : (xs : List ℕ) (a b : ℕ) → IsChain tree xs a b → (q : ℕ) → list_any (eqb q) xs ≡ true → q < length tree
  all_within [] a b w q h = absurd (cc)
  all_within (x ∷ xs) a b w q h = by_first (eqb q x) refl h (λ k. all_within xs w.1.0 b w.1.2 q k)
    where
      by_first : (t : Bool) → eqb q x ≡ t → (t || list_any (eqb q) xs) ≡ true → (list_any (eqb q) xs ≡ true → q < length tree) → q < length tree
      by_first true e h more =
          let f : q ≡ x = (Decides-eqb q x).0 e in
          subst (λ y. y < length tree) (sym (f ∙ w.0)) (child_is_within a w.1.0 w.1.1)
      by_first false e h more = more h

  -- what a chain without repeats has from one of its classes on
  from : (ys : List ℕ) (a p b : ℕ) → IsChain tree ys p b → Once ys → list_any (eqb a) ys ≡ true → (zs : List ℕ) × (IsChain tree zs a b × Once zs)
  from [] a p b w o h = absurd (cc)
  from (y ∷ ys) a p b w o h = by_first (eqb a y) refl h (λ k. from ys a w.1.0 b w.1.2 o.1 k)
    where
      by_first : (t : Bool) → eqb a y ≡ t → (t || list_any (eqb a) ys) ≡ true
          → (list_any (eqb a) ys ≡ true → (zs : List ℕ) × (IsChain tree zs a b × Once zs)) → (zs : List ℕ) × (IsChain tree zs a b × Once zs)
      by_first true e h more =
          let f : p ≡ a = sym w.0 ∙ sym ((Decides-eqb a y).0 e) in
          (y ∷ ys, (subst (λ q. IsChain tree (y ∷ ys) q b) f w, o))
      by_first false e h more = more h

  with_first : (a p b : ℕ) → parent_of tree a ≡ Some p → (zs : List ℕ) × (IsChain tree zs p b × Once zs) → (zs : List ℕ) × (IsChain tree zs a b × Once zs)
  with_first a p b e w = by_test (list_any (eqb a) w.0) refl
    where
      by_test : (t : Bool) → list_any (eqb a) w.0 ≡ t → (zs : List ℕ) × (IsChain tree zs a b × Once zs)
      by_test true h = from w.0 a p b w.1.0 w.1.1 h
      by_test false h = (a ∷ w.0, ((refl, (p, e, w.1.0)), (h, w.1.1)))

  -- each chain can be made one without repeats
  simple : (xs : List ℕ) (a b : ℕ) → IsChain tree xs a b → (zs : List ℕ) × (IsChain tree zs a b × Once zs)
  simple [] a b w = ([], (w, tt))
  simple (x ∷ xs) a b w = with_first a w.1.0 b w.1.1 (simple xs w.1.0 b w.1.2)

  append : (xs ys : List ℕ) (a b c : ℕ) → IsChain tree xs a b → IsChain tree ys b c → IsChain tree (xs ++ ys) a c
  append [] ys a b c w v = subst (λ q. IsChain tree ys q c) (sym w) v
  append (x ∷ xs) ys a b c w v = (w.0, (w.1.0, w.1.1, append xs ys w.1.0 b c w.1.2 v))

  -- a chain is what the test follows
  to_chain : (n a b : ℕ) → has b (chain_within n tree a) ≡ true → (xs : List ℕ) × IsChain tree xs a b
  to_chain zero a b h = ([], sym ((Decides-eqb b a).0 (first_holds (b == a) h)))
  to_chain (suc n) a b h = by_first (b == a) refl h (λ p k. to_chain n p b k)
    where
      up : (o : Option ℕ) → parent_of tree a ≡ o → has b (chain_on (chain_within n tree) o) ≡ true
          → ((p : ℕ) → has b (chain_within n tree p) ≡ true → (xs : List ℕ) × IsChain tree xs p b) → (xs : List ℕ) × IsChain tree xs a b
      up None e h more = absurd (cc)
      up (Some p) e h more = let w = more p h in (a ∷ w.0, (refl, (p, e, w.1)))

      by_first : (t : Bool) → (b == a) ≡ t → (t || has b (chain_on (chain_within n tree) (parent_of tree a))) ≡ true
          → ((p : ℕ) → has b (chain_within n tree p) ≡ true → (xs : List ℕ) × IsChain tree xs p b) → (xs : List ℕ) × IsChain tree xs a b
      by_first true e h more = ([], sym ((Decides-eqb b a).0 e))
      by_first false e h more = up (parent_of tree a) refl h more

  starts_chain : (n a : ℕ) → has a (chain_within n tree a) ≡ true
  starts_chain zero a = rw ((Decides-eqb a a).1 refl) refl
  starts_chain (suc n) a = rw ((Decides-eqb a a).1 refl) refl

  of_chain : (xs : List ℕ) (n a b : ℕ) → length xs ≤ n → IsChain tree xs a b → has b (chain_within n tree a) ≡ true
  of_chain [] n a b l w = subst (λ c. has c (chain_within n tree a) ≡ true) w (starts_chain n a)
  of_chain (x ∷ xs) zero a b l w = absurd (omega arith)
  of_chain (x ∷ xs) (suc n) a b l w =
      let h = of_chain xs n w.1.0 b (omega arith) w.1.2 in
      second (b == a) _ (rw w.1.1 h)

  short : (xs : List ℕ) (a b : ℕ) → IsChain tree xs a b → Once xs → length xs ≤ length tree
  short xs a b w o = length-le_from_distinct_below xs (length tree) (distinct xs o) (all_within xs a b w)

pub classes_are_transitive : (tree : Tree) → Transitive tree
classes_are_transitive tree a b c h k =
    let v = to_chain tree (length tree) a b h in
    let w = to_chain tree (length tree) b c k in
    let z = simple tree (v.0 ++ w.0) a c (append tree v.0 w.0 a b c v.1 w.1) in
    of_chain tree z.0 (length tree) a c (short tree z.0 a c z.1.0 z.1.1) z.1.0
