-- What a name finds has it, and what has it is found, where each is the first of its name among those that it is looked for among.
use Rattle.std.proofs.Common.{◌≡◌, ◌≢◌, ℕ, Bool, true, false, refl, sym, ◌∙◌, subst, cond, List, [], ◌∷◌, Option, Some, None, MatchOption}
use Rattle.std.specs.Str.{bytes_eq}
use Rattle.std.proofs.lemmas.Slice.Eq.{bytes_eq-Decides}
use Rattle.hhbc_ops.specs.Names.{first_named}

module _ {A : Type 0} (spelling : A → List ℕ) where
  chosen : (x y : A) (name : List ℕ) (other : Option A) (b : Bool) → bytes_eq (spelling x) name ≡ b → (other ≡ Some y → spelling y ≡ name)
      → cond b (Some x) other ≡ Some y → spelling y ≡ name
  chosen x y name other true h k e = let i : x ≡ y = cc in subst (λ (a : A). spelling a ≡ name) i ((bytes_eq-Decides (spelling x) name).0 h)
  chosen x y name other false h k e = k e

  is_named : (xs : List A) (name : List ℕ) (y : A) → first_named spelling xs name ≡ Some y → spelling y ≡ name
  is_named [] name y e = absurd (cc)
  is_named (x ∷ xs) name y e =
      chosen x y name (first_named spelling xs name) (bytes_eq (spelling x) name) refl (λ k. is_named xs name y k) e

  some≢none : (x : A) → Some x ≡ None → ⊥
  some≢none x e = cc

  -- those among which a name is looked for
  module _ (among : List ℕ → List A) (listed : (x : A) → first_named spelling (among (spelling x)) (spelling x) ≡ Some x) where
    pub each_named : (x : A) (name : List ℕ) → spelling x ≡ name → first_named spelling (among name) name ≡ Some x
    each_named x name e = subst (λ (n : List ℕ). first_named spelling (among n) n ≡ Some x) e (listed x)

    only_at : (name : List ℕ) (o : Option A) → first_named spelling (among name) name ≡ o → MatchOption o ((x : A) → spelling x ≢ name) (λ x. spelling x ≡ name)
    only_at name None h = λ x e. some≢none x (sym (each_named x name e) ∙ h)
    only_at name (Some x) h = is_named (among name) name x h

    pub only_named : (name : List ℕ) → MatchOption (first_named spelling (among name) name) ((x : A) → spelling x ≢ name) (λ x. spelling x ≡ name)
    only_named name = only_at name (first_named spelling (among name) name) refl

    pub names_differ : (x y : A) → spelling x ≡ spelling y → x ≡ y
    names_differ x y e =
        let h : Some x ≡ Some y = sym (each_named x (spelling y) e) ∙ each_named y (spelling y) refl in
        cc
