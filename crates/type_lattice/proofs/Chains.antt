-- The laws of classes and those above them.
use Rattle.std.proofs.Common.{◌≡◌, ◌≤◌, ◌<◌, ℕ, zero, suc, List, [], ◌∷◌, ◌++◌, length, Option, Some, None, Bool, true, false, ◌||◌, ◌==◌, refl, arith, ap, sym, ◌∙◌, inl, inr, ◌⊎◌, length-append, append_assoc}
use Rattle.std.specs.Prelude.{IsTrue, cond, ◌≢◌}
use Rattle.std.proofs.lemmas.Bool.{eqb-true, eq-eqb, ne_eqb}
use Rattle.type_lattice.specs.Classes.{Tree, parent_of, Forest, chain_on, chain_within, chain, has, below, first, nearest}
use Rattle.type_lattice.specs.Walks.{no_parent, ends}
use Rattle.type_lattice.proofs.Cycles.{forest_ended}
use Rattle.type_lattice.proofs.OrderLaws.{Transitive, below-refl}

module _ (t : Tree) where
  -- more steps change nothing where the way up ends
  chain_more : (n c : ℕ) → IsTrue (ends n t c) → chain_within (suc n) t c ≡ chain_within n t c
  chain_more zero c h = go (parent_of t c) refl
    where
      go : (o : Option ℕ) → parent_of t c ≡ o → c ∷ chain_on (chain_within zero t) (parent_of t c) ≡ c ∷ []
      go None e = rw e refl
      go (Some p) e = let k : IsTrue (no_parent (Some p)) = rw e at h in cc
  chain_more (suc n) c h = go (parent_of t c) refl (chain_more n)
    where
      go : (o : Option ℕ) → parent_of t c ≡ o → ((d : ℕ) → IsTrue (ends n t d) → chain_within (suc n) t d ≡ chain_within n t d)
          → c ∷ chain_on (chain_within (suc n) t) (parent_of t c) ≡ c ∷ chain_on (chain_within n t) (parent_of t c)
      go None e i = rw e refl
      go (Some p) e i = rw e (ap (λ xs. c ∷ xs) (i p (rw e at h)))

  module _ (forest : Forest t) where
    pub chain_step : (c : ℕ) → chain t c ≡ c ∷ chain_on (chain t) (parent_of t c)
    chain_step c = sym (chain_more (length t) c (forest_ended t forest c))

    pub chain_up : (c p : ℕ) → parent_of t c ≡ Some p → chain t c ≡ c ∷ chain t p
    chain_up c p e = chain_step c ∙ rw e refl

    pub chain_root : (c : ℕ) → parent_of t c ≡ None → chain t c ≡ c ∷ []
    chain_root c e = chain_step c ∙ rw e refl

    pub has_first : (c x : ℕ) (xs : List ℕ) → c ≡ x → IsTrue (has c (x ∷ xs))
    has_first c x xs e = let h : (c == x) ≡ true = eq-eqb c x e in rw h refl

    pub has_later : (c x : ℕ) (xs : List ℕ) → IsTrue (has c xs) → IsTrue (has c (x ∷ xs))
    has_later c x xs h = go (c == x)
      where
        go : (b : Bool) → IsTrue (b || has c xs)
        go true = refl
        go false = h

    pub has_cases : (c x : ℕ) (xs : List ℕ) → IsTrue (has c (x ∷ xs)) → (x ≡ c) ⊎ IsTrue (has c xs)
    has_cases c x xs h = go (c == x) refl h
      where
        go : (b : Bool) → (c == x) ≡ b → IsTrue (b || has c xs) → (x ≡ c) ⊎ IsTrue (has c xs)
        go true e k = inl (sym (eqb-true c x e))
        go false e k = inr k

    -- what stands in a class's chain has the rest of the chain as its own
    part_within : (n a b : ℕ) → IsTrue (has b (chain_within n t a)) → (front : List ℕ) × (chain t a ≡ front ++ chain t b)
    part_within zero a b h = go (has_cases b a [] h)
      where
        go : (a ≡ b) ⊎ IsTrue false → (front : List ℕ) × (chain t a ≡ front ++ chain t b)
        go (inl e) = ([], ap (chain t) e)
        go (inr k) = cc
    part_within (suc n) a b h = go (part_within n) (has_cases b a (chain_on (chain_within n t) (parent_of t a)) h)
      where
        go : ((c d : ℕ) → IsTrue (has d (chain_within n t c)) → (front : List ℕ) × (chain t c ≡ front ++ chain t d))
            → (a ≡ b) ⊎ IsTrue (has b (chain_on (chain_within n t) (parent_of t a))) → (front : List ℕ) × (chain t a ≡ front ++ chain t b)
        go i (inl e) = ([], ap (chain t) e)
        go i (inr k) = up (parent_of t a) refl k
          where
            up : (o : Option ℕ) → parent_of t a ≡ o → IsTrue (has b (chain_on (chain_within n t) o)) → (front : List ℕ) × (chain t a ≡ front ++ chain t b)
            up None e m = cc
            up (Some p) e m = let r = i p b m in (a ∷ r.0, chain_up a p e ∙ ap (λ xs. a ∷ xs) r.1)

    pub part : (a b : ℕ) → IsTrue (below t a b) → (front : List ℕ) × (chain t a ≡ front ++ chain t b)
    part a b h = part_within (length t) a b h

    pub chain_head : (c : ℕ) → (rest : List ℕ) × (chain t c ≡ c ∷ rest)
    chain_head c = (chain_on (chain t) (parent_of t c), chain_step c)

    has_behind : (c : ℕ) (xs ys : List ℕ) → IsTrue (has c ys) → IsTrue (has c (xs ++ ys))
    has_behind c [] ys h = h
    has_behind c (x ∷ xs) ys h = has_later c x (xs ++ ys) (has_behind c xs ys h)

    pub from_part : (a b : ℕ) (front : List ℕ) → chain t a ≡ front ++ chain t b → IsTrue (below t a b)
    from_part a b front e = let r = chain_head b in
        rw (e, r.1) (has_behind b front (b ∷ r.0) (has_first b b r.0 refl))

    pub below_trans : Transitive t
    below_trans a b c h k = let x = part a b h in let y = part b c k in from_part a c (x.0 ++ y.0) (rw (x.1, y.1) (sym (append_assoc x.0 y.0 (chain t c))))

    head_same : (a b : ℕ) → chain t a ≡ chain t b → a ≡ b
    head_same a b e = let x = chain_head a in let y = chain_head b in
        let k : a ∷ x.0 ≡ b ∷ y.0 = sym x.1 ∙ e ∙ y.1 in cc

    -- a class that descends from another has a longer chain
    pub below_longer : (a b : ℕ) → IsTrue (below t a b) → (a ≡ b) ⊎ (length (chain t b) < length (chain t a))
    below_longer a b h = go (part a b h)
      where
        go : (front : List ℕ) × (chain t a ≡ front ++ chain t b) → (a ≡ b) ⊎ (length (chain t b) < length (chain t a))
        go ([], e) = inl (head_same a b e)
        go (x ∷ xs, e) = inr (rw e (omega (arith, length-append xs (chain t b))))

    pub below_antisym : (a b : ℕ) → IsTrue (below t a b) → IsTrue (below t b a) → a ≡ b
    below_antisym a b h k = go (below_longer a b h) (below_longer b a k)
      where
        go : (a ≡ b) ⊎ (length (chain t b) < length (chain t a)) → (b ≡ a) ⊎ (length (chain t a) < length (chain t b)) → a ≡ b
        go (inl e) d = e
        go (inr l) (inl e) = sym e
        go (inr l) (inr m) = absurd (omega arith)

    -- of two classes above one, one is above the other
    overlap : (xs ys : List ℕ) (b c : ℕ) → xs ++ chain t b ≡ ys ++ chain t c → IsTrue (below t b c) ⊎ IsTrue (below t c b)
    overlap [] ys b c e = inl (from_part b c ys e)
    overlap (x ∷ xs) [] b c e = inr (from_part c b (x ∷ xs) (sym e))
    overlap (x ∷ xs) (y ∷ ys) b c e = overlap xs ys b c (cc)

    pub below_linear : (a b c : ℕ) → IsTrue (below t a b) → IsTrue (below t a c) → IsTrue (below t b c) ⊎ IsTrue (below t c b)
    below_linear a b c h k = let x = part a b h in let y = part a c k in overlap x.0 y.0 b c (sym x.1 ∙ y.1)

    -- the nearest common class
    first_passes : (p : ℕ → Bool) (xs : List ℕ) (x : ℕ) → first p xs ≡ Some x → IsTrue (p x) × IsTrue (has x xs)
    first_passes p [] x e = cc
    first_passes p (y ∷ ys) x e = go (p y) refl (first_passes p ys x) e
      where
        go : (b : Bool) → p y ≡ b → (first p ys ≡ Some x → IsTrue (p x) × IsTrue (has x ys)) → cond b (Some y) (first p ys) ≡ Some x → IsTrue (p x) × IsTrue (has x (y ∷ ys))
        go true q i e = let k : y ≡ x = cc in (rw k at q, has_first x y ys (sym k))
        go false q i e = let r = i e in (r.0, has_later x y ys r.1)

    pub nearest_above : (a b x : ℕ) → nearest t a b ≡ Some x → IsTrue (below t a x) × IsTrue (below t b x)
    nearest_above a b x e = let r = first_passes (λ x. below t b x) (chain t a) x e in (r.1, r.0)

    -- each class above both is above the first that passes
    first_least : (p : ℕ → Bool) (n a e : ℕ) → IsTrue (p e) → IsTrue (has e (chain_within n t a)) → (x : ℕ) × (first p (chain_within n t a) ≡ Some x) × IsTrue (below t x e)
    first_least p zero a e q h = go (has_cases e a [] h)
      where
        go : (a ≡ e) ⊎ IsTrue false → (x : ℕ) × (first p (a ∷ []) ≡ Some x) × IsTrue (below t x e)
        go (inl k) = let m : p a ≡ true = rw k q in (a, rw m refl, rw k (below-refl t e))
        go (inr k) = cc
    first_least p (suc n) a e q h = go (p a) refl (first_least p n)
      where
        go : (b : Bool) → p a ≡ b → ((c d : ℕ) → IsTrue (p d) → IsTrue (has d (chain_within n t c)) → (x : ℕ) × (first p (chain_within n t c) ≡ Some x) × IsTrue (below t x d))
            → (x : ℕ) × (first p (chain_within (suc n) t a) ≡ Some x) × IsTrue (below t x e)
        go true m i = let r = part_within (suc n) a e h in (a, rw m refl, from_part a e r.0 r.1)
        go false m i = later (has_cases e a (chain_on (chain_within n t) (parent_of t a)) h)
          where
            later : (a ≡ e) ⊎ IsTrue (has e (chain_on (chain_within n t) (parent_of t a))) → (x : ℕ) × (first p (chain_within (suc n) t a) ≡ Some x) × IsTrue (below t x e)
            later (inl k) = let w : true ≡ false = sym q ∙ ap p (sym k) ∙ m in cc
            later (inr k) = up (parent_of t a) refl k
              where
                up : (o : Option ℕ) → parent_of t a ≡ o → IsTrue (has e (chain_on (chain_within n t) o)) → (x : ℕ) × (first p (chain_within (suc n) t a) ≡ Some x) × IsTrue (below t x e)
                up None s k = cc
                up (Some u) s k = let r = i u e q k in (r.0, rw (m, s) r.1, r.2)

    pub nearest_least : (a b e : ℕ) → IsTrue (below t a e) → IsTrue (below t b e) → (x : ℕ) × (nearest t a b ≡ Some x) × IsTrue (below t x e)
    nearest_least a b e h k = first_least (λ x. below t b x) (length t) a e k h

  -- no chain is longer than the count of classes and one
  chain_length_within : (n c : ℕ) → length (chain_within n t c) ≤ suc n
  chain_length_within zero c = omega arith
  chain_length_within (suc n) c = go (parent_of t c) (chain_length_within n)
    where
      go : (o : Option ℕ) → ((d : ℕ) → length (chain_within n t d) ≤ suc n) → length (c ∷ chain_on (chain_within n t) o) ≤ suc (suc n)
      go None i = omega arith
      go (Some p) i = let k = i p in omega arith

  pub chain_length : (c : ℕ) → length (chain t c) ≤ suc (length t)
  chain_length c = chain_length_within (length t) c

  module _ (forest : Forest t) where
    -- what a walk up knows
    pub below_here : (a b : ℕ) → a ≡ b → below t a b ≡ true
    below_here a b e = rw e (below-refl t b)

    pub below_root : (a b : ℕ) → a ≢ b → parent_of t a ≡ None → below t a b ≡ false
    below_root a b n e = rw (chain_root forest a e) (let k : (b == a) ≡ false = ne_eqb b a (λ w. n (sym w)) in rw k refl)

    pub below_up : (a b p : ℕ) → a ≢ b → parent_of t a ≡ Some p → below t a b ≡ below t p b
    below_up a b p n e = rw (chain_up forest a p e) (let k : (b == a) ≡ false = ne_eqb b a (λ w. n (sym w)) in rw k refl)

    pub chain_shorter : (a p : ℕ) → parent_of t a ≡ Some p → length (chain t p) < length (chain t a)
    chain_shorter a p e = rw (chain_up forest a p e) (omega arith)

    pub nearest_here : (a b : ℕ) → below t b a ≡ true → nearest t a b ≡ Some a
    nearest_here a b h = rw (chain_step forest a, h) refl

    pub nearest_root : (a b : ℕ) → below t b a ≡ false → parent_of t a ≡ None → nearest t a b ≡ None
    nearest_root a b h e = rw (chain_root forest a e, h) refl

    pub nearest_up : (a b p : ℕ) → below t b a ≡ false → parent_of t a ≡ Some p → nearest t a b ≡ nearest t p b
    nearest_up a b p h e = rw (chain_up forest a p e, h) refl

    pub below_up_one : (a b p : ℕ) → parent_of t a ≡ Some p → IsTrue (below t p b) → IsTrue (below t a b)
    below_up_one a b p e h = rw (chain_up forest a p e) (has_later forest b a (chain t p) h)
