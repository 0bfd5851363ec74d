-- Ways up among parents that may go in circles. One that comes to a class that was met goes no farther.
use Rattle.std.proofs.Common.{◌≡◌, ◌≢◌, ◌≤◌, ◌<◌, ◌-◌, ◌+◌, ℕ, zero, suc, min, List, [], ◌∷◌, ◌++◌, length, Option, Some, None, Bool, true, false, ◌||◌, ◌==◌, nat_le, inl, inr, ◌⊎◌, refl, sym, ap, subst, ◌∙◌, arith, le-leb}
use Rattle.std.proofs.lemmas.Bool.{eqb-true, eq-eqb, ne_eqb, leb-true, cases_Bool, cases_lt, false_from_ne_true}
use Rattle.type_lattice.specs.Classes.{Tree, parent_of, chain_on, chain_within, chain, has, climb_on, climb}
use Rattle.type_lattice.proofs.Chains.{chain_length}
use Rattle.hhbc_repo.specs.LinkFaults.{above, different}
use Rattle.hhbc_repo.specs.Bodies.{numbers}
use Rattle.hhbc_repo.proofs.Different.{different_le, different_length, different_end}
use Rattle.hhbc_repo.proofs.Numbering.{numbers_length}

has_first : (c x : ℕ) (xs : List ℕ) → c ≡ x → has c (x ∷ xs) ≡ true
has_first c x xs e = let h : (c == x) ≡ true = eq-eqb c x e in rw h refl

has_later : (c x : ℕ) (xs : List ℕ) → has c xs ≡ true → has c (x ∷ xs) ≡ true
has_later c x xs h = go (c == x)
  where
    go : (b : Bool) → (b || has c xs) ≡ true
    go true = refl
    go false = h

has_cases : (c x : ℕ) (xs : List ℕ) → has c (x ∷ xs) ≡ true → (c ≡ x) ⊎ (has c xs ≡ true)
has_cases c x xs h = go (c == x) refl h
  where
    go : (b : Bool) → (c == x) ≡ b → (b || has c xs) ≡ true → (c ≡ x) ⊎ (has c xs ≡ true)
    go true e k = inl (eqb-true c x e)
    go false e k = inr k

numbers_has : (s n q : ℕ) → s ≤ q → q < s + n → has q (numbers s n) ≡ true
numbers_has s zero q l h = absurd (omega arith)
numbers_has s (suc n) q l h = go (cases_lt s q) (numbers_has (suc s) n q)
  where
    go : (s < q) ⊎ (q ≤ s) → (suc s ≤ q → q < suc s + n → has q (numbers (suc s) n) ≡ true) → has q (numbers s (suc n)) ≡ true
    go (inl k) i = has_later q s (numbers (suc s) n) (i k (omega arith))
    go (inr k) i = let e : q ≡ s = omega arith in has_first q s (numbers (suc s) n) e

module _ (t : Tree) where
  -- a look for a class on the way up
  pub met_here : (n i c q : ℕ) → c ≡ q → has q (chain_within (n - i) t c) ≡ true
  met_here n i c q e = starts (n - i)
    where
      starts : (k : ℕ) → has q (chain_within k t c) ≡ true
      starts zero = has_first q c [] (sym e)
      starts (suc k) = has_first q c (chain_on (chain_within k t) (parent_of t c)) (sym e)

  pub met_root : (n i c q : ℕ) → c ≢ q → parent_of t c ≡ None → has q (chain_within (n - i) t c) ≡ false
  met_root n i c q d e = ends (n - i)
    where
      other : (q == c) ≡ false
      other = ne_eqb q c (λ w. d (sym w))

      ends : (k : ℕ) → has q (chain_within k t c) ≡ false
      ends zero = rw other refl
      ends (suc k) = rw (other, e) refl

  pub met_up : (n i c p q : ℕ) → i < n → c ≢ q → parent_of t c ≡ Some p → has q (chain_within (n - i) t c) ≡ has q (chain_within (n - (i + 1)) t p)
  met_up n i c p q h d e =
      let k : n - i ≡ suc (n - (i + 1)) = omega arith in
      let other : (q == c) ≡ false = ne_eqb q c (λ w. d (sym w)) in rw (k, other, e) refl

  starts_chain : (k c : ℕ) → has c (chain_within k t c) ≡ true
  starts_chain zero c = has_first c c [] refl
  starts_chain (suc k) c = has_first c c (chain_on (chain_within k t) (parent_of t c)) refl

  -- a longer way has what a shorter one has
  farther : (k m c q : ℕ) → k ≤ m → has q (chain_within k t c) ≡ true → has q (chain_within m t c) ≡ true
  farther zero m c q l h = go (has_cases q c [] h)
    where
      go : (q ≡ c) ⊎ (false ≡ true) → has q (chain_within m t c) ≡ true
      go (inl e) = rw e (starts_chain m c)
      go (inr w) = cc
  farther (suc k) zero c q l h = absurd (omega arith)
  farther (suc k) (suc m) c q l h = go (has_cases q c (chain_on (chain_within k t) (parent_of t c)) h) (λ p. farther k m p q (omega arith))
    where
      up : (o : Option ℕ) → has q (chain_on (chain_within k t) o) ≡ true → ((p : ℕ) → has q (chain_within k t p) ≡ true → has q (chain_within m t p) ≡ true) → has q (chain_on (chain_within m t) o) ≡ true
      up None w i = cc
      up (Some p) w i = i p w

      go : (q ≡ c) ⊎ (has q (chain_on (chain_within k t) (parent_of t c)) ≡ true) → ((p : ℕ) → has q (chain_within k t p) ≡ true → has q (chain_within m t p) ≡ true) → has q (chain_within (suc m) t c) ≡ true
      go (inl e) i = has_first q c (chain_on (chain_within m t) (parent_of t c)) e
      go (inr w) i = has_later q c (chain_on (chain_within m t) (parent_of t c)) (up (parent_of t c) w i)

  climb_next : (k c a : ℕ) → climb k t c ≡ Some a → climb (suc k) t c ≡ parent_of t a
  climb_next zero c a e = let k : c ≡ a = cc in rw k (go (parent_of t a))
    where
      go : (o : Option ℕ) → climb_on (climb zero t) o ≡ o
      go None = refl
      go (Some p) = refl
  climb_next (suc k) c a e = go (parent_of t c) refl (climb_next k)
    where
      go : (o : Option ℕ) → parent_of t c ≡ o → ((c a : ℕ) → climb k t c ≡ Some a → climb (suc k) t c ≡ parent_of t a) → climb (suc (suc k)) t c ≡ parent_of t a
      go None s i = let w : climb_on (climb k t) None ≡ Some a = rw s at e in cc
      go (Some p) s i = rw s (i p a (rw s at e))

  -- the class that a step more comes to stands at the end
  step_added : (k c q : ℕ) → climb (suc k) t c ≡ Some q → chain_within (suc k) t c ≡ chain_within k t c ++ q ∷ []
  step_added zero c q e = go (parent_of t c) refl
    where
      go : (o : Option ℕ) → parent_of t c ≡ o → chain_within 1 t c ≡ c ∷ q ∷ []
      go None s = let w : climb_on (climb zero t) None ≡ Some q = rw s at e in cc
      go (Some p) s = let w : climb_on (climb zero t) (Some p) ≡ Some q = rw s at e in let k : p ≡ q = cc in rw (s, k) refl
  step_added (suc k) c q e = go (parent_of t c) refl (step_added k)
    where
      go : (o : Option ℕ) → parent_of t c ≡ o → ((c q : ℕ) → climb (suc k) t c ≡ Some q → chain_within (suc k) t c ≡ chain_within k t c ++ q ∷ [])
          → c ∷ chain_on (chain_within (suc k) t) o ≡ (c ∷ chain_on (chain_within k t) o) ++ q ∷ []
      go None s i = let w : climb_on (climb (suc k) t) None ≡ Some q = rw s at e in cc
      go (Some p) s i = ap (λ xs. c ∷ xs) (i p q (rw s at e))

  -- parents of these are these
  abbrev Closed : List ℕ → Type 0
  Closed xs = (x p : ℕ) → has x xs ≡ true → parent_of t x ≡ Some p → has p xs ≡ true

  closed_stays : (xs : List ℕ) → Closed xs → (m c q : ℕ) → has c xs ≡ true → has q (chain_within m t c) ≡ true → has q xs ≡ true
  closed_stays xs closed zero c q h w = go (has_cases q c [] w)
    where
      go : (q ≡ c) ⊎ (false ≡ true) → has q xs ≡ true
      go (inl e) = rw e h
      go (inr k) = cc
  closed_stays xs closed (suc m) c q h w = go (has_cases q c (chain_on (chain_within m t) (parent_of t c)) w) (λ p. closed_stays xs closed m p q)
    where
      up : (o : Option ℕ) → parent_of t c ≡ o → has q (chain_on (chain_within m t) o) ≡ true → ((p : ℕ) → has p xs ≡ true → has q (chain_within m t p) ≡ true → has q xs ≡ true) → has q xs ≡ true
      up None e k i = cc
      up (Some p) e k i = i p (closed c p h e) k

      go : (q ≡ c) ⊎ (has q (chain_on (chain_within m t) (parent_of t c)) ≡ true) → ((p : ℕ) → has p xs ≡ true → has q (chain_within m t p) ≡ true → has q xs ≡ true) → has q xs ≡ true
      go (inl e) i = rw e h
      go (inr k) i = up (parent_of t c) refl k i

  parents_met : (k c x p : ℕ) → has x (chain_within k t c) ≡ true → parent_of t x ≡ Some p → (has p (chain_within k t c) ≡ true) ⊎ (climb (suc k) t c ≡ Some p)
  parents_met zero c x p h e = go (has_cases x c [] h)
    where
      go : (x ≡ c) ⊎ (false ≡ true) → (has p (chain_within zero t c) ≡ true) ⊎ (climb 1 t c ≡ Some p)
      go (inl s) = let w : parent_of t c ≡ Some p = rw s at e in inr (rw w refl)
      go (inr w) = cc
  parents_met (suc k) c x p h e = go (has_cases x c (chain_on (chain_within k t) (parent_of t c)) h) (parents_met k)
    where
      up : (o : Option ℕ) → parent_of t c ≡ o → has x (chain_on (chain_within k t) o) ≡ true
          → ((c x p : ℕ) → has x (chain_within k t c) ≡ true → parent_of t x ≡ Some p → (has p (chain_within k t c) ≡ true) ⊎ (climb (suc k) t c ≡ Some p))
          → (has p (chain_within (suc k) t c) ≡ true) ⊎ (climb (suc (suc k)) t c ≡ Some p)
      up None s w i = cc
      up (Some a) s w i = on (i a x p w e)
        where
          on : (has p (chain_within k t a) ≡ true) ⊎ (climb (suc k) t a ≡ Some p) → (has p (chain_within (suc k) t c) ≡ true) ⊎ (climb (suc (suc k)) t c ≡ Some p)
          on (inl m) = inl (has_later p c (chain_on (chain_within k t) (parent_of t c)) (rw s m))
          on (inr m) = inr (rw s m)

      go : (x ≡ c) ⊎ (has x (chain_on (chain_within k t) (parent_of t c)) ≡ true)
          → ((c x p : ℕ) → has x (chain_within k t c) ≡ true → parent_of t x ≡ Some p → (has p (chain_within k t c) ≡ true) ⊎ (climb (suc k) t c ≡ Some p))
          → (has p (chain_within (suc k) t c) ≡ true) ⊎ (climb (suc (suc k)) t c ≡ Some p)
      go (inl s) i = let w : parent_of t c ≡ Some p = rw s at e in inl (has_later p c (chain_on (chain_within k t) (parent_of t c)) (rw w (starts_chain k p)))
      go (inr w) i = up (parent_of t c) refl w i

  -- so many steps come to each class that any number of them does
  abbrev Whole : ℕ → ℕ → Type 0
  Whole k c = (m q : ℕ) → has q (chain_within m t c) ≡ true → has q (chain_within k t c) ≡ true

  closed_whole : (k c : ℕ) → Closed (chain_within k t c) → Whole k c
  closed_whole k c closed = λ m q h. closed_stays (chain_within k t c) closed m c q (starts_chain k c) h

  root_whole : (k c : ℕ) → climb (suc k) t c ≡ None → Whole k c
  root_whole k c e = closed_whole k c (λ x p h s. go p (parents_met k c x p h s))
    where
      go : (p : ℕ) → (has p (chain_within k t c) ≡ true) ⊎ (climb (suc k) t c ≡ Some p) → has p (chain_within k t c) ≡ true
      go p (inl w) = w
      go p (inr w) = cc

  back_whole : (k c q : ℕ) → climb (suc k) t c ≡ Some q → has q (chain_within k t c) ≡ true → Whole k c
  back_whole k c q e there = closed_whole k c (λ x p h s. go p (parents_met k c x p h s))
    where
      go : (p : ℕ) → (has p (chain_within k t c) ≡ true) ⊎ (climb (suc k) t c ≡ Some p) → has p (chain_within k t c) ≡ true
      go p (inl w) = w
      go p (inr w) = let s : p ≡ q = cc in rw s there

  one_more : (k c q : ℕ) → different (chain_within k t c) ≡ suc k → climb (suc k) t c ≡ Some q → has q (chain_within k t c) ≡ false → different (chain_within (suc k) t c) ≡ suc (suc k)
  one_more k c q d e h = ap different (step_added k c q e) ∙ (different_end q (chain_within k t c) h ∙ ap suc d)

  -- each step comes to another class, or no more come
  different_or_whole : (k c : ℕ) → (different (chain_within k t c) ≡ suc k) ⊎ Whole k c
  different_or_whole zero c = inl refl
  different_or_whole (suc k) c = go (different_or_whole k c)
    where
      more : Whole k c → Whole (suc k) c
      more w = λ m q h. farther k (suc k) c q (omega arith) (w m q h)

      at : different (chain_within k t c) ≡ suc k → (o : Option ℕ) → climb (suc k) t c ≡ o → (different (chain_within (suc k) t c) ≡ suc (suc k)) ⊎ Whole (suc k) c
      at d None e = inr (more (root_whole k c e))
      at d (Some q) e = met (cases_Bool (has q (chain_within k t c)))
        where
          met : (has q (chain_within k t c) ≡ true) ⊎ (has q (chain_within k t c) ≡ false) → (different (chain_within (suc k) t c) ≡ suc (suc k)) ⊎ Whole (suc k) c
          met (inl h) = inr (more (back_whole k c q e h))
          met (inr h) = inl (one_more k c q d e h)

      go : (different (chain_within k t c) ≡ suc k) ⊎ Whole k c → (different (chain_within (suc k) t c) ≡ suc (suc k)) ⊎ Whole (suc k) c
      go (inl d) = at d (climb (suc k) t c) refl
      go (inr w) = inr (more w)

  -- what a count of the classes on the way up knows
  whole_few : (k n c : ℕ) → k < n → different (chain_within k t c) ≡ suc k → Whole k c → nat_le (different (chain t c)) n ≡ true
  whole_few k n c l d w = let h = different_le (chain t c) (chain_within k t c) (w (length t)) in le-leb (different (chain t c)) n (omega arith)

  pub few_classes : (n c : ℕ) → length t < n → nat_le (different (chain t c)) n ≡ true
  few_classes n c l = let h = different_length (chain t c) in let k = chain_length t c in le-leb (different (chain t c)) n (omega arith)

  pub few_at_root : (k n c a : ℕ) → k < n → climb k t c ≡ Some a → different (chain_within k t c) ≡ suc k → parent_of t a ≡ None → nat_le (different (chain t c)) n ≡ true
  few_at_root k n c a l e d r = whole_few k n c l d (root_whole k c (climb_next k c a e ∙ r))

  pub few_at_met : (k n c a q : ℕ) → k < n → climb k t c ≡ Some a → different (chain_within k t c) ≡ suc k → parent_of t a ≡ Some q → has q (chain_within k t c) ≡ true → nat_le (different (chain t c)) n ≡ true
  few_at_met k n c a q l e d r h = whole_few k n c l d (back_whole k c q (climb_next k c a e ∙ r) h)

  pub too_many : (n c : ℕ) → n ≤ length t → different (chain_within n t c) ≡ suc n → nat_le (different (chain t c)) n ≡ false
  too_many n c l d =
      let h = different_le (chain_within n t c) (chain t c) (λ q. farther n (length t) c q l) in
      false_from_ne_true (nat_le (different (chain t c)) n) (λ w. let k = leb-true (different (chain t c)) n w in absurd (omega arith))

  pub counted_up : (k c a q : ℕ) → climb k t c ≡ Some a → different (chain_within k t c) ≡ suc k → parent_of t a ≡ Some q → has q (chain_within k t c) ≡ false → (climb (k + 1) t c ≡ Some q) × (different (chain_within (k + 1) t c) ≡ suc (k + 1))
  counted_up k c a q e d r h =
      let s = climb_next k c a e ∙ r in
      let m : k + 1 ≡ suc k = omega arith in subst (λ n. (climb n t c ≡ Some q) × (different (chain_within n t c) ≡ suc n)) (sym m) (s, one_more k c q d s h)

  -- where no more than n classes come, those that are met above a class are met within n steps
  above_chain : (o : Option ℕ) → above t o ≡ chain_on (chain_within (length t) t) o
  above_chain None = refl
  above_chain (Some p) = refl

  pub met_above : (c q : ℕ) → has q (chain_on (chain_within (length t) t) (parent_of t c)) ≡ has q (above t (parent_of t c))
  met_above c q = ap (has q) (sym (above_chain (parent_of t c)))

  met_soon : (n c p q : ℕ) → n < length t → nat_le (different (chain t c)) n ≡ true → parent_of t c ≡ Some p → has q (chain t p) ≡ true → has q (chain_within n t p) ≡ true
  met_soon n c p q l few e h = go (different_or_whole n p)
    where
      higher : (x : ℕ) → has x (chain_within n t p) ≡ true → has x (chain t c) ≡ true
      higher x w = farther (suc n) (length t) c x l (has_later x c (chain_on (chain_within n t) (parent_of t c)) (rw e w))

      go : (different (chain_within n t p) ≡ suc n) ⊎ Whole n p → has q (chain_within n t p) ≡ true
      go (inl d) = let m = different_le (chain_within n t p) (chain t c) higher in let k = leb-true (different (chain t c)) n few in absurd (omega arith)
      go (inr w) = w (length t) q h

  pub met_within : (n c q : ℕ) → nat_le (different (chain t c)) n ≡ true → has q (chain_on (chain_within (min (length t) n) t) (parent_of t c)) ≡ has q (above t (parent_of t c))
  met_within n c q few = go (cases_lt n (length t))
    where
      same : (a b : Bool) → (a ≡ true → b ≡ true) → (b ≡ true → a ≡ true) → a ≡ b
      same true b f g = sym (f refl)
      same false true f g = g refl
      same false false f g = refl

      at : n < length t → (o : Option ℕ) → parent_of t c ≡ o → has q (chain_on (chain_within n t) o) ≡ has q (above t o)
      at l None e = refl
      at l (Some p) e = same (has q (chain_within n t p)) (has q (chain t p)) (farther n (length t) p q (omega arith)) (met_soon n c p q l few e)

      go : (n < length t) ⊎ (length t ≤ n) → has q (chain_on (chain_within (min (length t) n) t) (parent_of t c)) ≡ has q (above t (parent_of t c))
      go (inl l) = let k : min (length t) n ≡ n = omega arith in rw k (at l (parent_of t c) refl)
      go (inr l) = let k : min (length t) n ≡ length t = omega arith in rw k (met_above c q)

  climb_there : (n c q : ℕ) → climb n t c ≡ Some q → has q (chain_within n t c) ≡ true
  climb_there zero c q e = let k : c ≡ q = cc in has_first q c [] (sym k)
  climb_there (suc n) c q e = has_later q c (chain_on (chain_within n t) (parent_of t c)) (go (parent_of t c) refl (climb_there n))
    where
      go : (o : Option ℕ) → parent_of t c ≡ o → ((c q : ℕ) → climb n t c ≡ Some q → has q (chain_within n t c) ≡ true) → has q (chain_on (chain_within n t) o) ≡ true
      go None s i = let w : climb_on (climb n t) None ≡ Some q = rw s at e in cc
      go (Some p) s i = i p q (rw s at e)

  -- where no parent is a stray, a chain has each class that any number of steps comes to
  pub climb_in_chain : ((c p : ℕ) → parent_of t c ≡ Some p → p < length t) → (n c q : ℕ) → c < length t → climb n t c ≡ Some q → has q (chain t c) ≡ true
  climb_in_chain inner n c q l e = go (different_or_whole (length t) c)
    where
      there : (x : ℕ) → x < length t → has x (numbers 0 (length t)) ≡ true
      there x h = numbers_has 0 (length t) x (omega arith) (omega arith)

      few : different (chain t c) ≤ length t
      few =
          let k = different_le (chain t c) (numbers 0 (length t)) (λ x. closed_stays (numbers 0 (length t)) (λ y p h s. there p (inner y p s)) (length t) c x (there c l)) in
          let m = different_length (numbers 0 (length t)) in
          let s = numbers_length 0 (length t) in
          omega (arith, k, m, s)

      go : (different (chain t c) ≡ suc (length t)) ⊎ Whole (length t) c → has q (chain t c) ≡ true
      go (inl d) = let k = few in absurd (omega (arith, k, d))
      go (inr w) = w n q (climb_there n c q e)
