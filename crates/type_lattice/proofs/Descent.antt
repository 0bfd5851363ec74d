-- A class is below another exactly where some number of steps up lead there.
use Rattle.std.proofs.Common.{◌≡◌, ℕ, zero, suc, [], length, Option, Some, None, false, refl, ap, ◌⊎◌, inl, inr, sym, ◌∙◌, subst, true}
use Rattle.std.specs.Prelude.{IsTrue}
use Rattle.type_lattice.specs.Classes.{Tree, parent_of, climb, climb_on, Descends, IsNearest, nearest, Forest, chain_on, chain_within, has, below}
use Rattle.type_lattice.proofs.OrderLaws.{below-refl}
use Rattle.type_lattice.proofs.Chains.{has_cases, below_up_one, nearest_above, nearest_least}

module _ (t : Tree) (forest : Forest t) where
  steps_within : (n a b : ℕ) → IsTrue (has b (chain_within n t a)) → (m : ℕ) × (climb m t a ≡ Some b)
  steps_within zero a b h = go (has_cases t forest b a [] h)
    where
      go : (a ≡ b) ⊎ IsTrue false → (m : ℕ) × (climb m t a ≡ Some b)
      go (inl e) = (0, ap Some e)
      go (inr w) = cc
  steps_within (suc n) a b h = go (has_cases t forest b a (chain_on (chain_within n t) (parent_of t a)) h) (steps_within n)
    where
      up : (o : Option ℕ) → parent_of t a ≡ o → IsTrue (has b (chain_on (chain_within n t) o)) → ((a b : ℕ) → IsTrue (has b (chain_within n t a)) → (m : ℕ) × (climb m t a ≡ Some b)) → (m : ℕ) × (climb m t a ≡ Some b)
      up None e w i = cc
      up (Some p) e w i = let r = i p b w in (suc r.0, rw e r.1)

      go : (a ≡ b) ⊎ IsTrue (has b (chain_on (chain_within n t) (parent_of t a))) → ((a b : ℕ) → IsTrue (has b (chain_within n t a)) → (m : ℕ) × (climb m t a ≡ Some b)) → (m : ℕ) × (climb m t a ≡ Some b)
      go (inl e) i = (0, ap Some e)
      go (inr w) i = up (parent_of t a) refl w i

  pub descent : (a b : ℕ) → IsTrue (below t a b) → Descends t a b
  descent a b h = steps_within (length t) a b h

  from_steps : (m a b : ℕ) → climb m t a ≡ Some b → IsTrue (below t a b)
  from_steps zero a b e = let k : a ≡ b = cc in rw k (below-refl t b)
  from_steps (suc m) a b e = go (parent_of t a) refl (from_steps m)
    where
      go : (o : Option ℕ) → parent_of t a ≡ o → ((a b : ℕ) → climb m t a ≡ Some b → IsTrue (below t a b)) → IsTrue (below t a b)
      go None s i = let k : climb_on (climb m t) None ≡ Some b = rw s at e in cc
      go (Some p) s i = below_up_one t forest a b p s (i p b (rw s at e))

  pub ascent : (a b : ℕ) → Descends t a b → IsTrue (below t a b)
  ascent a b h = from_steps h.0 a b h.1

  pub nearest_is : (a b : ℕ) → IsNearest t a b (nearest t a b)
  nearest_is a b = go (nearest t a b) refl
    where
      go : (o : Option ℕ) → nearest t a b ≡ o → IsNearest t a b o
      go None e = λ c h k. let r = nearest_least t forest a b c (ascent a c h) (ascent b c k) in let z : None ≡ Some r.0 = sym e ∙ r.1 in absurd (cc)
      go (Some c) e =
          let n = nearest_above t forest a b c e in (
            descent a c n.0,
            descent b c n.1,
            λ d h k. let r = nearest_least t forest a b d (ascent a d h) (ascent b d k) in
                let z : Some c ≡ Some r.0 = sym e ∙ r.1 in
                let y : r.0 ≡ c = cc in descent c d (subst (λ x. below t x d ≡ true) y r.2),
          )
