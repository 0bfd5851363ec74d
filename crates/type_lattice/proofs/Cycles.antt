-- A way up a tree that doesn't end comes to a cycle, and where each ends there is none.
use Rattle.std.proofs.Common.{◌≡◌, ◌≤◌, ◌<◌, ◌+◌, ◌-◌, ℕ, zero, suc, List, [], ◌∷◌, length, Option, Some, None, Bool, true, false, ◌||◌, refl, arith, ap, sym, inl, inr, ◌⊎◌}
use Rattle.std.specs.Prelude.{IsTrue}
use Rattle.std.specs.List.{IsDistinct, list_any, AllByRecursion}
use Rattle.std.proofs.Math.Dec.{eqb}
use Rattle.std.proofs.lemmas.Bool.{eqb-true, cases_Bool, cases_lt}
use Rattle.std.proofs.lemmas.Option.{slice_get_past}
use Rattle.std.proofs.lemmas.Map.Steps.{length-le_from_distinct_below}
use Rattle.type_lattice.specs.Classes.{Tree, parent_of, climb_on, climb, HasCycle, Forest, chain_on, chain_within}
use Rattle.type_lattice.specs.Walks.{ends_on, no_parent, ends}

module _ (t : Tree) where
  climb_to : (n c a : ℕ) → list_any (eqb c) (chain_within n t a) ≡ true → (k : ℕ) × (climb k t a ≡ Some c)
  climb_to zero c a h = go (eqb c a) refl h
    where
      go : (b : Bool) → eqb c a ≡ b → b || false ≡ true → (k : ℕ) × (climb k t a ≡ Some c)
      go true e q = (0, ap Some (sym (eqb-true c a e)))
      go false e q = cc
  climb_to (suc n) c a h = go (eqb c a) refl h (climb_to n)
    where
      up : (o : Option ℕ) → parent_of t a ≡ o → list_any (eqb c) (chain_on (chain_within n t) o) ≡ true → ((c a : ℕ) → list_any (eqb c) (chain_within n t a) ≡ true → (k : ℕ) × (climb k t a ≡ Some c))
          → (k : ℕ) × (climb k t a ≡ Some c)
      up None e q i = cc
      up (Some p) e q i = let r = i c p q in (suc r.0, rw e r.1)

      go : (b : Bool) → eqb c a ≡ b → b || list_any (eqb c) (chain_on (chain_within n t) (parent_of t a)) ≡ true → ((c a : ℕ) → list_any (eqb c) (chain_within n t a) ≡ true → (k : ℕ) × (climb k t a ≡ Some c))
          → (k : ℕ) × (climb k t a ≡ Some c)
      go true e q i = (0, ap Some (sym (eqb-true c a e)))
      go false e q i = up (parent_of t a) refl q i

  climb_more : (n c a : ℕ) → climb n t a ≡ Some c → (p : ℕ) → parent_of t c ≡ Some p → climb (suc n) t a ≡ Some p
  climb_more zero c a e p h = let k : a ≡ c = cc in rw (k, h) refl
  climb_more (suc n) c a e p h = go (parent_of t a) refl (climb_more n)
    where
      go : (o : Option ℕ) → parent_of t a ≡ o → ((c a : ℕ) → climb n t a ≡ Some c → (p : ℕ) → parent_of t c ≡ Some p → climb (suc n) t a ≡ Some p) → climb (suc (suc n)) t a ≡ Some p
      go None s i = let k : climb_on (climb n t) None ≡ Some c = rw s at e in cc
      go (Some u) s i = rw s (i c u (rw s at e) p h)

  -- a class that stands in the chain above itself is a cycle; else the chain has each class once
  all_apart : (x : ℕ) (xs : List ℕ) → list_any (eqb x) xs ≡ false → AllByRecursion (λ y. eqb x y ≡ false) xs
  all_apart x [] h = tt
  all_apart x (y ∷ ys) h = go (eqb x y) refl (all_apart x ys) h
    where
      go : (b : Bool) → eqb x y ≡ b → (list_any (eqb x) ys ≡ false → AllByRecursion (λ y. eqb x y ≡ false) ys) → b || list_any (eqb x) ys ≡ false → (eqb x y ≡ false) × AllByRecursion (λ y. eqb x y ≡ false) ys
      go true e i q = cc
      go false e i q = (e, i q)

  cycle_or_apart : (n c : ℕ) → HasCycle t ⊎ IsDistinct eqb (chain_within n t c)
  unfolding IsDistinct
  cycle_or_apart zero c = inr (tt, tt)
  cycle_or_apart (suc n) c = go (parent_of t c) refl (cycle_or_apart n)
    where
      go : (o : Option ℕ) → parent_of t c ≡ o → ((c : ℕ) → HasCycle t ⊎ IsDistinct eqb (chain_within n t c)) → HasCycle t ⊎ IsDistinct eqb (c ∷ chain_on (chain_within n t) o)
      go None e i = inr (tt, tt)
      go (Some p) e i = apart (cases_Bool (list_any (eqb c) (chain_within n t p))) (i p)
        where
          apart : (list_any (eqb c) (chain_within n t p) ≡ true) ⊎ (list_any (eqb c) (chain_within n t p) ≡ false) → HasCycle t ⊎ IsDistinct eqb (chain_within n t p) → HasCycle t ⊎ IsDistinct eqb (c ∷ chain_within n t p)
          apart d (inl w) = inl w
          apart (inl h) (inr w) = let r = climb_to n c p h in inl (c, r.0, rw e r.1)
          apart (inr h) (inr w) = inr (all_apart c (chain_within n t p) h, w)

  unended_length : (n c : ℕ) → ends n t c ≡ false → length (chain_within n t c) ≡ suc n
  unended_length zero c h = refl
  unended_length (suc n) c h = go (parent_of t c) refl (unended_length n)
    where
      go : (o : Option ℕ) → parent_of t c ≡ o → ((c : ℕ) → ends n t c ≡ false → length (chain_within n t c) ≡ suc n) → length (c ∷ chain_on (chain_within n t) o) ≡ suc (suc n)
      go None e i = let k : ends_on (ends n t) None ≡ false = rw e at h in cc
      go (Some p) e i = ap suc (i p (rw e at h))

  chain_inside : (n c q : ℕ) → ((c p : ℕ) → parent_of t c ≡ Some p → p < length t) → c < length t → list_any (eqb q) (chain_within n t c) ≡ true → q < length t
  chain_inside zero c q inner h k = go (eqb q c) refl k
    where
      go : (b : Bool) → eqb q c ≡ b → b || false ≡ true → q < length t
      go true e m = rw (eqb-true q c e) h
      go false e m = cc
  chain_inside (suc n) c q inner h k = go (eqb q c) refl k (chain_inside n)
    where
      up : (o : Option ℕ) → parent_of t c ≡ o → list_any (eqb q) (chain_on (chain_within n t) o) ≡ true → ((c q : ℕ) → ((c p : ℕ) → parent_of t c ≡ Some p → p < length t) → c < length t → list_any (eqb q) (chain_within n t c) ≡ true → q < length t) → q < length t
      up None e m i = cc
      up (Some p) e m i = i p q inner (inner c p e) m

      go : (b : Bool) → eqb q c ≡ b → b || list_any (eqb q) (chain_on (chain_within n t) (parent_of t c)) ≡ true → ((c q : ℕ) → ((c p : ℕ) → parent_of t c ≡ Some p → p < length t) → c < length t → list_any (eqb q) (chain_within n t c) ≡ true → q < length t) → q < length t
      go true e m i = rw (eqb-true q c e) h
      go false e m i = up (parent_of t c) refl m i

  -- a way up that doesn't end shows a cycle
  pub unended_cycle : ((c p : ℕ) → parent_of t c ≡ Some p → p < length t) → (c : ℕ) → c < length t → ends (length t) t c ≡ false → HasCycle t
  unended_cycle inner c h e = go (cycle_or_apart (length t) c)
    where
      go : HasCycle t ⊎ IsDistinct eqb (chain_within (length t) t c) → HasCycle t
      go (inl w) = w
      go (inr d) = let k = length-le_from_distinct_below (chain_within (length t) t c) (length t) d (λ q m. chain_inside (length t) c q inner h m) in
          let m = unended_length (length t) c e in absurd (omega arith)

  -- and one that ends shows none
  climb_step : (n c p : ℕ) → parent_of t c ≡ Some p → climb (suc n) t c ≡ climb n t p
  climb_step n c p e = rw e refl

  ended_no_cycle : (m n c : ℕ) → IsTrue (ends m t c) → climb (suc n) t c ≡ Some c → ⊥
  ended_no_cycle zero n c h e = go (parent_of t c) refl
    where
      go : (o : Option ℕ) → parent_of t c ≡ o → ⊥
      go None s = let k : climb_on (climb n t) None ≡ Some c = rw s at e in cc
      go (Some p) s = let k : IsTrue (no_parent (Some p)) = rw s at h in cc
  ended_no_cycle (suc m) n c h e = go (parent_of t c) refl (ended_no_cycle m)
    where
      go : (o : Option ℕ) → parent_of t c ≡ o → ((n c : ℕ) → IsTrue (ends m t c) → climb (suc n) t c ≡ Some c → ⊥) → ⊥
      go None s i = let k : climb_on (climb n t) None ≡ Some c = rw s at e in cc
      go (Some p) s i = i n p (rw s at h) (climb_more n c p (rw s at e) p s)

  ends_on_step : (m c p : ℕ) → parent_of t c ≡ Some p → ends (suc m) t c ≡ ends m t p
  ends_on_step m c p e = rw e refl

  pub ends_step : (n i c p : ℕ) → i < n → parent_of t c ≡ Some p → ends (n - i) t c ≡ ends (n - (i + 1)) t p
  ends_step n i c p h e = let k : n - i ≡ suc (n - (i + 1)) = omega arith in rw k (ends_on_step (n - (i + 1)) c p e)

  pub ends_root : (n c : ℕ) → parent_of t c ≡ None → ends n t c ≡ true
  ends_root zero c e = rw e refl
  ends_root (suc n) c e = rw e refl

  pub no_parent_past : (c : ℕ) → length t ≤ c → parent_of t c ≡ None
  no_parent_past c h = let e = slice_get_past t c h in rw e refl

  -- in a tree without strays and cycles each way up ends
  pub forest_inside : Forest t → (c p : ℕ) → parent_of t c ≡ Some p → p < length t
  forest_inside f c p e = go (cases_lt p (length t))
    where
      go : (p < length t) ⊎ (length t ≤ p) → p < length t
      go (inl h) = h
      go (inr h) = absurd (f.within (c, p, e, h))

  pub forest_ended : Forest t → (c : ℕ) → ends (length t) t c ≡ true
  forest_ended f c = go (cases_lt c (length t))
    where
      by_end : c < length t → (b : Bool) → ends (length t) t c ≡ b → ends (length t) t c ≡ true
      by_end h true e = e
      by_end h false e = absurd (f.acyclic (unended_cycle (forest_inside f) c h e))

      go : (c < length t) ⊎ (length t ≤ c) → ends (length t) t c ≡ true
      go (inl h) = by_end h (ends (length t) t c) refl
      go (inr h) = ends_root (length t) c (no_parent_past c h)

  pub inside_ended_forest : ((c p : ℕ) → parent_of t c ≡ Some p → p < length t) → ((c : ℕ) → c < length t → ends (length t) t c ≡ true) → Forest t
  inside_ended_forest inner ended = record {
    within = λ w. let k = inner w.0 w.1 w.2 in let m = w.3 in absurd (omega arith);
    acyclic = λ w. ended_no_cycle (length t) w.1 w.0 (each w.0 (cases_lt w.0 (length t))) w.2;
  }
    where
      each : (c : ℕ) → (c < length t) ⊎ (length t ≤ c) → ends (length t) t c ≡ true
      each c (inl h) = ended c h
      each c (inr h) = ends_root (length t) c (no_parent_past c h)
