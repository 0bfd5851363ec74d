-- Repositories of the first form: one body, and the built-in classes alone.
use Rattle.std.proofs.Common.{◌≡◌, ◌⊎◌, inl, inr, ℕ, zero, suc, refl, sym, ◌∙◌, subst, Bool, true, false, ◌||◌, ◌==◌, [], ◌∷◌}
use Rattle.std.proofs.lemmas.Bool.Decides.{Decides-eqb}
use Rattle.type_lattice.specs.Classes.{below, has}
use Rattle.type_lattice.proofs.Antisymmetry.{Antisymmetric}
use Rattle.type_lattice.proofs.OrderLaws.{Transitive}
use Rattle.hhbc_repo.specs.declared.body.Body.{Body}
use Rattle.hhbc_repo.specs.Linked.{Linked}
use Rattle.hhbc_repo.specs.Bodies.{built_in_tree}
use Rattle.hhbc_semantics.specs.Form.{IsFirstForm, IsSecondForm}

abbrev pub only : Body → Linked
only b = record { functions = b ∷ []; classes = [] }

pub first_is : (r : Linked) (w : IsFirstForm r) → r ≡ only w.body
first_is r w = λ i. record { functions = w.functions i; classes = w.classes i }

pub second_is : (r : Linked) (w : IsSecondForm r) → r ≡ only w.body
second_is r w = λ i. record { functions = w.functions i; classes = w.classes i }

-- a class is below itself and below Exception
has_one : (b x : ℕ) → has b (x ∷ []) ≡ true → b ≡ x
has_one b x h = (Decides-eqb b x).0 (first (b == x) h)
  where
    first : (t : Bool) → (t || false) ≡ true → t ≡ true
    first true h = refl
    first false h = h

has_two : (b x : ℕ) → has b (x ∷ 0 ∷ []) ≡ true → (b ≡ x) ⊎ (b ≡ 0)
has_two b x h = cases (b == x) refl h
  where
    cases : (t : Bool) → (b == x) ≡ t → (t || has b (0 ∷ [])) ≡ true → (b ≡ x) ⊎ (b ≡ 0)
    cases true e h = inl ((Decides-eqb b x).0 e)
    cases false e h = inr (has_one b 0 h)

below_built_in : (a b : ℕ) → below built_in_tree a b ≡ true → (b ≡ a) ⊎ (b ≡ 0)
below_built_in zero b h = inl (has_one b 0 h)
below_built_in (suc zero) b h = has_two b 1 h
below_built_in (suc (suc zero)) b h = has_two b 2 h
below_built_in (suc (suc (suc zero))) b h = has_two b 3 h
below_built_in (suc (suc (suc (suc zero)))) b h = has_two b 4 h
below_built_in (suc (suc (suc (suc (suc zero))))) b h = has_two b 5 h
below_built_in (suc (suc (suc (suc (suc (suc a)))))) b h = inl (has_one b _ h)

pub built_in_transitive : Transitive built_in_tree
built_in_transitive a b c h k = by_case (below_built_in a b h)
  where
    at_root : b ≡ 0 → c ≡ 0 → below built_in_tree a c ≡ true
    at_root e f = subst (λ x. below built_in_tree a x ≡ true) (e ∙ sym f) h

    either : b ≡ 0 → (c ≡ 0) ⊎ (c ≡ 0) → below built_in_tree a c ≡ true
    either e (inl f) = at_root e f
    either e (inr f) = at_root e f

    by_case : (b ≡ a) ⊎ (b ≡ 0) → below built_in_tree a c ≡ true
    by_case (inl e) = subst (λ x. below built_in_tree x c ≡ true) e k
    by_case (inr e) = either e (below_built_in 0 c (subst (λ x. below built_in_tree x c ≡ true) e k))

pub built_in_antisymmetric : Antisymmetric built_in_tree
built_in_antisymmetric a b h k = by_cases (below_built_in a b h) (below_built_in b a k)
  where
    by_cases : (b ≡ a) ⊎ (b ≡ 0) → (a ≡ b) ⊎ (a ≡ 0) → a ≡ b
    by_cases (inl e) f = sym e
    by_cases (inr e) (inl f) = f
    by_cases (inr e) (inr f) = f ∙ sym e
