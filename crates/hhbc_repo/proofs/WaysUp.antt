-- What is found on the way up from a class, which goes so many steps at most.
use Rattle.std.proofs.Common.{◌≡◌, ◌<◌, ◌-◌, ◌+◌, ℕ, zero, suc, List, [], ◌∷◌, Option, Some, None, Bool, true, false, ◌||◌, refl, ap, ◌∙◌, arith, slice_get}
use Rattle.type_lattice.specs.Classes.{Tree, parent_of, chain_on, chain_within}
use Rattle.hhbc_repo.specs.declared.parts.BodyParts.{BodyParts}
use Rattle.hhbc_repo.specs.LinkFaults.{Name, names, with_name, at_class, along}
use Rattle.hhbc_repo.proofs.FoundByName.{names_append, with_append_some, with_append_none}

module _ {R : Type 0} (f : List ℕ → R) (t : Tree) where
  -- the class itself decides
  found_here : (k c : ℕ) (r : R) → ((cs : List ℕ) → f (c ∷ cs) ≡ r) → f (chain_within k t c) ≡ r
  found_here zero c r h = h []
  found_here (suc k) c r h = h (chain_on (chain_within k t) (parent_of t c))

  -- the class itself has nothing to say
  none_at_root : (k c : ℕ) → ((cs : List ℕ) → f (c ∷ cs) ≡ f cs) → parent_of t c ≡ None → f (chain_within k t c) ≡ f []
  none_at_root zero c h e = h []
  none_at_root (suc k) c h e = h (chain_on (chain_within k t) (parent_of t c)) ∙ ap (λ o. f (chain_on (chain_within k t) o)) e

  goes_up : (n i c p : ℕ) → i < n → ((cs : List ℕ) → f (c ∷ cs) ≡ f cs) → parent_of t c ≡ Some p → f (chain_within (n - i) t c) ≡ f (chain_within (n - (i + 1)) t p)
  goes_up n i c p l h e =
      let k : n - i ≡ suc (n - (i + 1)) = omega arith in
      ap (λ m. f (chain_within m t c)) k ∙ h (chain_on (chain_within (n - (i + 1)) t) (parent_of t c)) ∙ ap (λ o. f (chain_on (chain_within (n - (i + 1)) t) o)) e

module _ (table : List (List Name)) (t : Tree) (q : Name) where
  abbrev own : ℕ → Bool
  own c = names (at_class (slice_get table c)) q

  declares : (c : ℕ) (b : Bool) → own c ≡ b → (cs : List ℕ) → names (along table (c ∷ cs)) q ≡ b || names (along table cs) q
  declares c b e cs = names_append (at_class (slice_get table c)) (along table cs) q ∙ ap (λ d. d || names (along table cs) q) e

  pub declared_here : (k c : ℕ) → own c ≡ true → names (along table (chain_within k t c)) q ≡ true
  declared_here k c e = found_here (λ cs. names (along table cs) q) t k c true (declares c true e)

  pub declared_root : (k c : ℕ) → own c ≡ false → parent_of t c ≡ None → names (along table (chain_within k t c)) q ≡ false
  declared_root k c e p = none_at_root (λ cs. names (along table cs) q) t k c (declares c false e) p

  pub declared_up : (n i c p : ℕ) → i < n → own c ≡ false → parent_of t c ≡ Some p
      → names (along table (chain_within (n - i) t c)) q ≡ names (along table (chain_within (n - (i + 1)) t p)) q
  declared_up n i c p l e s = goes_up (λ cs. names (along table cs) q) t n i c p l (declares c false e) s

  -- no steps are left
  pub declared_last : (c : ℕ) → names (along table (c ∷ [])) q ≡ own c
  declared_last c = declares c (own c) refl [] ∙ last (own c)
    where
      last : (b : Bool) → b || false ≡ b
      last true = refl
      last false = refl

module _ (table : List (List BodyParts)) (t : Tree) (q : Name) where
  abbrev own_body : ℕ → Option BodyParts
  own_body c = with_name (at_class (slice_get table c)) q

  pub method_here : (k c : ℕ) (b : BodyParts) → own_body c ≡ Some b → with_name (along table (chain_within k t c)) q ≡ Some b
  method_here k c b e = found_here (λ cs. with_name (along table cs) q) t k c (Some b) (λ cs. with_append_some (at_class (slice_get table c)) (along table cs) q b e)

  method_none : (c : ℕ) → own_body c ≡ None → (cs : List ℕ) → with_name (along table (c ∷ cs)) q ≡ with_name (along table cs) q
  method_none c e cs = with_append_none (at_class (slice_get table c)) (along table cs) q e

  pub method_root : (k c : ℕ) → own_body c ≡ None → parent_of t c ≡ None → with_name (along table (chain_within k t c)) q ≡ None
  method_root k c e p = none_at_root (λ cs. with_name (along table cs) q) t k c (method_none c e) p

  pub method_up : (n i c p : ℕ) → i < n → own_body c ≡ None → parent_of t c ≡ Some p
      → with_name (along table (chain_within (n - i) t c)) q ≡ with_name (along table (chain_within (n - (i + 1)) t p)) q
  method_up n i c p l e s = goes_up (λ cs. with_name (along table cs) q) t n i c p l (method_none c e) s
