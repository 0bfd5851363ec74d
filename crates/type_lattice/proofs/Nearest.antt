-- What a walk up from two classes at once knows of the nearest class above both.
use Rattle.std.proofs.Common.{◌≡◌, ◌≤◌, ◌<◌, ◌+◌, ℕ, List, [], ◌∷◌, length, Option, Some, None, Bool, true, false, refl, arith, ap, ap₂, sym, ◌∙◌, ◌⊎◌, inl, inr, cond}
use Rattle.std.specs.Prelude.{IsTrue, ◌≢◌}
use Rattle.type_lattice.specs.Classes.{Tree, parent_of, Forest, chain, has, below, first, nearest}
use Rattle.type_lattice.proofs.OrderLaws.{below-refl}
use Rattle.type_lattice.proofs.Chains.{below_longer, below_up, chain_head, chain_root, chain_up, has_first, has_later, nearest_here, nearest_root, nearest_up}

-- tests that agree on each of the list find the same first
first-agree : (f g : ℕ → Bool) (t : Tree) (forest : Forest t) (xs : List ℕ) → ((x : ℕ) → IsTrue (has x xs) → f x ≡ g x) → first f xs ≡ first g xs
first-agree f g t forest [] h = refl
first-agree f g t forest (x ∷ xs) h =
    ap₂ (λ (b : Bool) (o : Option ℕ). cond b (Some x) o) (h x (has_first t forest x x xs refl)) (first-agree f g t forest xs (λ y k. h y (has_later t forest y x xs k)))

module _ (t : Tree) (forest : Forest t) where
  pub nearest_same : (a b : ℕ) → a ≡ b → nearest t a b ≡ Some a
  nearest_same a b e = nearest_here t forest a b (rw e (below-refl t b))

  -- another class isn't below one that is as deep
  not_below : (a b : ℕ) → a ≢ b → length (chain t b) ≤ length (chain t a) → below t b a ≡ false
  not_below a b n h = go (below t b a) refl
    where
      go : (x : Bool) → below t b a ≡ x → x ≡ false
      go false e = refl
      go true e = by (below_longer t forest b a e)
        where
          by : (b ≡ a) ⊎ (length (chain t a) < length (chain t b)) → true ≡ false
          by (inl s) = absurd (n (sym s))
          by (inr l) = absurd (omega arith)

  pub nearest_step : (a b p : ℕ) → a ≢ b → length (chain t b) ≤ length (chain t a) → parent_of t a ≡ Some p → nearest t a b ≡ nearest t p b
  nearest_step a b p n h e = nearest_up t forest a b p (not_below a b n h) e

  pub nearest_end : (a b : ℕ) → a ≢ b → length (chain t b) ≤ length (chain t a) → parent_of t a ≡ None → nearest t a b ≡ None
  nearest_end a b n h e = nearest_root t forest a b (not_below a b n h) e

  pub nearest_other_step : (a b p : ℕ) → length (chain t a) < length (chain t b) → parent_of t b ≡ Some p → nearest t a b ≡ nearest t a p
  nearest_other_step a b p h e = first-agree (below t b) (below t p) t forest (chain t a) (λ x k. below_up t forest b x p (other x k) e)
    where
      other : (x : ℕ) → IsTrue (has x (chain t a)) → b ≢ x
      other x k s = by (below_longer t forest a x k)
        where
          by : (a ≡ x) ⊎ (length (chain t x) < length (chain t a)) → ⊥
          by (inl q) = let w : length (chain t b) ≡ length (chain t a) = ap (λ c. length (chain t c)) (s ∙ sym q) in omega arith
          by (inr l) = let w : length (chain t b) ≡ length (chain t x) = ap (λ c. length (chain t c)) s in omega arith

  pub nearest_other_end : (a b : ℕ) → length (chain t a) < length (chain t b) → parent_of t b ≡ None → nearest t a b ≡ None
  nearest_other_end a b h e =
      let one : length (chain t b) ≡ 1 = ap length (chain_root t forest b e) in
      let r = chain_head t forest a in
      let some : length (chain t a) ≡ 1 + length r.0 = ap length r.1 ∙ omega arith in
      absurd (omega arith)

  pub chain_one_shorter : (a p : ℕ) → parent_of t a ≡ Some p → length (chain t a) ≡ length (chain t p) + 1
  chain_one_shorter a p e = ap length (chain_up t forest a p e) ∙ omega arith

  pub chain_some : (a : ℕ) → 1 ≤ length (chain t a)
  chain_some a = let r = chain_head t forest a in let e : length (chain t a) ≡ 1 + length r.0 = ap length r.1 ∙ omega arith in omega arith
