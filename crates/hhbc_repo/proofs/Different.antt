-- How many different numbers lists have.
use Rattle.std.proofs.Common.{◌≡◌, ◌≤◌, ℕ, suc, List, [], ◌∷◌, ◌++◌, length, Bool, true, false, ◌||◌, ◌==◌, nat_eq, refl, sym, ap, ◌∙◌, cond}
use Rattle.std.specs.Prelude.{if◌then◌else◌}
use Rattle.std.specs.Set.{is_member, unique_keys, distinct_count}
use Rattle.std.proofs.lemmas.Bool.{eqb-true, eq-eqb, ne_eqb}
use Rattle.std.proofs.lemmas.Cmp.{nat_eq_equiv}
use Rattle.std.proofs.lemmas.Map.Made.{length-le_from_is_member, IsDistinct-from_count, distinct_count-le}
use Rattle.type_lattice.specs.Classes.{has}
use Rattle.hhbc_repo.specs.LinkFaults.{different}

has_member : (q : ℕ) (xs : List ℕ) → has q xs ≡ is_member nat_eq xs q
has_member q [] = refl
has_member q (x ∷ xs) = ap (λ b. (q == x) || b) (has_member q xs)

different_count : (xs : List ℕ) → different xs ≡ distinct_count nat_eq xs
different_count [] = refl
different_count (x ∷ xs) = rw (has_member x xs) (go (is_member nat_eq xs x) (different_count xs))
  where
    go : (b : Bool) → different xs ≡ distinct_count nat_eq xs → (if b then different xs else suc (different xs)) ≡ length (cond b (unique_keys nat_eq xs) (x ∷ unique_keys nat_eq xs))
    go true i = i
    go false i = ap suc i

unique_member : (q : ℕ) (xs : List ℕ) → is_member nat_eq (unique_keys nat_eq xs) q ≡ is_member nat_eq xs q
unique_member q [] = refl
unique_member q (x ∷ xs) = go (is_member nat_eq xs x) refl (unique_member q xs)
  where
    again : is_member nat_eq xs x ≡ true → (b : Bool) → nat_eq q x ≡ b → is_member nat_eq xs q ≡ (b || is_member nat_eq xs q)
    again h true e = rw (eqb-true q x e) h
    again h false e = refl

    go : (b : Bool) → is_member nat_eq xs x ≡ b → is_member nat_eq (unique_keys nat_eq xs) q ≡ is_member nat_eq xs q
        → is_member nat_eq (cond b (unique_keys nat_eq xs) (x ∷ unique_keys nat_eq xs)) q ≡ (nat_eq q x || is_member nat_eq xs q)
    go true h i = i ∙ again h (nat_eq q x) refl
    go false h i = ap (λ b. nat_eq q x || b) i

unique_count : (xs : List ℕ) → distinct_count nat_eq (unique_keys nat_eq xs) ≡ length (unique_keys nat_eq xs)
unique_count [] = refl
unique_count (x ∷ xs) = go (is_member nat_eq xs x) refl (unique_count xs)
  where
    go : (b : Bool) → is_member nat_eq xs x ≡ b → distinct_count nat_eq (unique_keys nat_eq xs) ≡ length (unique_keys nat_eq xs)
        → distinct_count nat_eq (cond b (unique_keys nat_eq xs) (x ∷ unique_keys nat_eq xs)) ≡ length (cond b (unique_keys nat_eq xs) (x ∷ unique_keys nat_eq xs))
    go true h i = i
    go false h i = let k : is_member nat_eq (unique_keys nat_eq xs) x ≡ false = unique_member x xs ∙ h in rw k (ap suc i)

-- a list whose numbers are all in another has no more of them
pub different_le : (xs ys : List ℕ) → ((q : ℕ) → has q xs ≡ true → has q ys ≡ true) → different xs ≤ different ys
different_le xs ys sub = rw (different_count xs, different_count ys)
    (length-le_from_is_member nat_eq_equiv (unique_keys nat_eq xs) (unique_keys nat_eq ys) (IsDistinct-from_count nat_eq_equiv (unique_keys nat_eq xs) (unique_count xs)) there)
  where
    there : (q : ℕ) → is_member nat_eq (unique_keys nat_eq xs) q ≡ true → is_member nat_eq (unique_keys nat_eq ys) q ≡ true
    there q h = unique_member q ys ∙ (sym (has_member q ys) ∙ sub q (has_member q xs ∙ (sym (unique_member q xs) ∙ h)))

pub different_length : (xs : List ℕ) → different xs ≤ length xs
different_length xs = rw (different_count xs) (distinct_count-le nat_eq xs)

has_end : (c q : ℕ) (xs : List ℕ) → (c == q) ≡ false → has c (xs ++ q ∷ []) ≡ has c xs
has_end c q [] e = rw e refl
has_end c q (x ∷ xs) e = ap (λ b. (c == x) || b) (has_end c q xs e)

-- one that isn't there yet makes one more
pub different_end : (q : ℕ) (xs : List ℕ) → has q xs ≡ false → different (xs ++ q ∷ []) ≡ suc (different xs)
different_end q [] h = refl
different_end q (x ∷ xs) h = go (q == x) refl h (different_end q xs)
  where
    more : (b : Bool) → different (xs ++ q ∷ []) ≡ suc (different xs)
        → (if b then different (xs ++ q ∷ []) else suc (different (xs ++ q ∷ []))) ≡ suc (if b then different xs else suc (different xs))
    more true i = i
    more false i = ap suc i

    go : (b : Bool) → (q == x) ≡ b → (b || has q xs) ≡ false → (has q xs ≡ false → different (xs ++ q ∷ []) ≡ suc (different xs)) → different ((x ∷ xs) ++ q ∷ []) ≡ suc (different (x ∷ xs))
    go true e k i = cc
    go false e k i =
        let apart : (x == q) ≡ false = ne_eqb x q (λ w. let m : (q == x) ≡ true = eq-eqb q x (sym w) in cc) in
        rw (has_end x q xs apart) (more (has x xs) (i k))
