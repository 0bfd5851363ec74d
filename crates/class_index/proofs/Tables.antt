-- Members that classes declare, by number: the class of each, and its name.
use Rattle.std.proofs.Common.{◌≡◌, ◌<◌, ◌≤◌, ◌+◌, ◌-◌, ◌⊎◌, inl, inr, ℕ, zero, suc, refl, sym, ap, ◌∙◌, Some, List, [], ◌∷◌, ◌++◌, map, length, replicate, slice_get, get_or, arith}
use Rattle.std.proofs.lemmas.Option.{slice_get-get_or}
use Rattle.hhbc_repo.specs.Bodies.{numbers, own_from}
use Rattle.hhbc_repo.specs.LinkFaults.{Name, at_class}
use Rattle.hhbc_repo.specs.LookUps.{property_owners_from, total}
use Rattle.hhbc_repo.specs.Places.{together}
use Rattle.hhbc_repo.proofs.Numbered.{numbers-get}
use Rattle.hhbc_repo.proofs.Elements.{before_last}

behind : {A : Type 0} (xs ys : List A) (n : ℕ) → slice_get (xs ++ ys) (length xs + n) ≡ slice_get ys n
behind [] ys n = ap (slice_get ys) (omega arith)
behind (x ∷ xs) ys n = let e : suc (length xs) + n ≡ suc (length xs + n) = omega arith in ap (slice_get (x ∷ (xs ++ ys))) e ∙ behind xs ys n

copy_at : (k n p : ℕ) → p < k → slice_get (replicate k n) p ≡ Some n
copy_at zero n p h = absurd (omega (arith, h))
copy_at (suc k) n zero h = refl
copy_at (suc k) n (suc p) h = copy_at k n p (omega (arith, h))

copies_count : (k n : ℕ) → length (replicate k n) ≡ k
copies_count zero n = refl
copies_count (suc k) n = ap suc (copies_count k n)

numbers_within : (s k p q : ℕ) → slice_get (numbers s k) p ≡ Some q → (p < k) × (q ≡ s + p)
numbers_within s zero p q e = absurd (cc)
numbers_within s (suc k) zero q e = let m : s ≡ q = cc in (omega arith, omega (arith, m))
numbers_within s (suc k) (suc p) q e = let w = numbers_within (suc s) k p q e in let a = w.0 in let b = w.1 in (omega (arith, a), omega (arith, b))

-- the place of a member among all, where a class declares it at a place of its own
pub record Stands (first n : ℕ) (table : List (List Name)) (d p q : ℕ) : Type 0 where
  pub at : ℕ
  pub number : q ≡ first + at
  pub owner : slice_get (property_owners_from n table) at ≡ Some (n + d)
  pub name : slice_get (together table) at ≡ slice_get (at_class (slice_get table d)) p
  pub within : p < length (at_class (slice_get table d))
  pub class : d < length table

first_stands : (first n : ℕ) (names : List Name) (table : List (List Name)) (p q : ℕ) → (p < length names) × (q ≡ first + p) → Stands first n (names ∷ table) 0 p q
first_stands first n names table p q w = record {
  at = p;
  number = w.1;
  owner = before_last (replicate (length names) n) (property_owners_from (suc n) table) p n (copy_at (length names) n p w.0) ∙ ap (λ (k : ℕ). Some k) (omega arith);
  name =
      let e = slice_get-get_or names p [] w.0 in
      before_last names (together table) p (get_or names p []) e ∙ sym e;
  within = w.0;
  class = omega arith;
}

later_stands : (first n : ℕ) (names : List Name) (table : List (List Name)) (d p q : ℕ) → Stands (first + length names) (suc n) table d p q → Stands first n (names ∷ table) (suc d) p q
later_stands first n names table d p q w = record {
  at = length names + w.at;
  number = let e = w.number in omega (arith, e);
  owner =
      ap (λ (k : ℕ). slice_get (property_owners_from n (names ∷ table)) (k + w.at)) (sym (copies_count (length names) n))
      ∙ behind (replicate (length names) n) (property_owners_from (suc n) table) w.at
      ∙ w.owner
      ∙ ap (λ (k : ℕ). Some k) (omega arith);
  name = behind names (together table) w.at ∙ w.name;
  within = w.within;
  class = let e = w.class in omega (arith, e);
}

pub stands : (first n : ℕ) (table : List (List Name)) (d p q : ℕ) → slice_get (own_from first (map length table) d) p ≡ Some q → Stands first n table d p q
stands first n [] d p q e = absurd (cc)
stands first n (names ∷ table) zero p q e = first_stands first n names table p q (numbers_within first (length names) p q e)
stands first n (names ∷ table) (suc d) p q e = later_stands first n names table d p q (stands (first + length names) (suc n) table d p q e)

-- each number is that of a member of some class
pub record Declared (first n : ℕ) (table : List (List Name)) (i : ℕ) : Type 0 where
  pub class : ℕ
  pub place : ℕ
  pub stands : slice_get (own_from first (map length table) class) place ≡ Some (first + i)

pub split_at : (i k : ℕ) → (i < k) ⊎ (k ≤ i)
split_at i zero = inr (omega arith)
split_at zero (suc k) = inl (omega arith)
split_at (suc i) (suc k) = go (split_at i k)
  where
    go : (i < k) ⊎ (k ≤ i) → (suc i < suc k) ⊎ (suc k ≤ suc i)
    go (inl h) = inl (omega (arith, h))
    go (inr h) = inr (omega (arith, h))

pub declared : (first n : ℕ) (table : List (List Name)) (i : ℕ) → i < total table → Declared first n table i
declared first n [] i h = absurd (omega (arith, h))
declared first n (names ∷ table) i h = go (split_at i (length names)) (λ k. declared (first + length names) (suc n) table (i - length names) k)
  where
    go : (i < length names) ⊎ (length names ≤ i) → (i - length names < total table → Declared (first + length names) (suc n) table (i - length names)) → Declared first n (names ∷ table) i
    go (inl k) more = record { class = 0; place = i; stands = numbers-get first (length names) i k }
    go (inr k) more =
        let w = more (omega (arith, h, k)) in
        record { class = suc w.class; place = w.place; stands = w.stands ∙ ap (λ (m : ℕ). Some m) (omega (arith, k)) }

pub from_zero : (n : ℕ) (table : List (List Name)) (i : ℕ) → i < total table → (d : ℕ) × (p : ℕ) × (slice_get (own_from 0 (map length table) d) p ≡ Some i)
from_zero n table i h = let d = declared 0 n table i h in (d.class, d.place, d.stands ∙ ap (λ (m : ℕ). Some m) (omega arith))
