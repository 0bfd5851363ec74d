-- Reading a number digit by digit with a bound on its way.
use Rattle.std.proofs.Common.{◌≡◌, ℕ, ◌+◌, ◌-◌, ◌*◌, ◌^◌, ◌<◌, ◌≤◌, true, false, cond, nat_le, List, [], ◌∷◌, length, drop, get_or, refl, ap, sym, ◌∙◌, arith, Option, Some, None, add-one}
use Rattle.std.proofs.Math.Seq.{drop-cons}
use Rattle.std.proofs.lemmas.Bool.Decides.{nat_tests}
use Rattle.hack_values.specs.Casts.{number_after, is_digit, capped_u64, within_u64, positive, negative}

-- numbers from 2^64 - 1 on are as good as each other
number_after-great : (m n : ℕ) (ds : List ℕ) → 2 ^ 64 - 1 ≤ m → 2 ^ 64 - 1 ≤ n → within_u64 (number_after m ds) ≡ within_u64 (number_after n ds)
number_after-great m n [] p q = ap Some (omega arith)
number_after-great m n (d ∷ ds) p q =
    let rest = number_after-great (10 * m + (d - 48)) (10 * n + (d - 48)) ds (omega arith) (omega arith) in
    elim (is_digit d) as (λ b. within_u64 (cond b (number_after (10 * m + (d - 48)) ds) None) ≡ within_u64 (cond b (number_after (10 * n + (d - 48)) ds) None)) [ true ↦ rest | false ↦ refl ]

either : {P : Type 0} (m n : ℕ) → (m ≤ n → P) → (n ≤ m → P) → P
either {P = P} m n f g = elim (nat_le m n) as (λ b. nat_le m n ≡ b → P) [ true ↦ λ e. f (grind (arith, nat_tests)) | false ↦ λ e. g (grind (arith, nat_tests)) ] refl

pub number_after-capped : (n : ℕ) (ds : List ℕ) → within_u64 (number_after (capped_u64 n) ds) ≡ within_u64 (number_after n ds)
number_after-capped n ds =
    either n (2 ^ 64 - 1)
    (λ h. let same : capped_u64 n ≡ n = omega arith in ap (λ x. within_u64 (number_after x ds)) same)
    (λ h. number_after-great (capped_u64 n) n ds (omega arith) h)

pub ruleset digits = (number_after-capped)

pub positive-within : (o : Option ℕ) → positive (within_u64 o) ≡ positive o
positive-within None = refl
positive-within (Some n) = grind (arith, nat_tests)

pub negative-within : (o : Option ℕ) → negative (within_u64 o) ≡ negative o
negative-within None = refl
negative-within (Some n) = grind (arith, nat_tests)

pub ruleset ranges = (positive-within, negative-within)

-- one digit more
pub number_after-read : (v m s : ℕ) (ds : List ℕ) (at : ℕ) → at < length ds → is_digit (get_or ds at 0) ≡ true → m ≡ capped_u64 (v * 10) → s ≡ capped_u64 (m + (get_or ds at 0 - 48)) → within_u64 (number_after s (drop (at + 1) ds)) ≡ within_u64 (number_after v (drop at ds))
number_after-read v m s ds at h digit p q =
    let sum : s ≡ capped_u64 (10 * v + (get_or ds at 0 - 48)) = omega arith in
    let cut : drop at ds ≡ get_or ds at 0 ∷ drop (at + 1) ds = rw add-one (drop-cons ds at 0 h) in
    ap (λ n. within_u64 (number_after n (drop (at + 1) ds))) sum
    ∙ number_after-capped (10 * v + (get_or ds at 0 - 48)) (drop (at + 1) ds)
    ∙ sym (ap (λ rest. within_u64 (number_after v rest)) cut ∙ ap (λ b. within_u64 (cond b (number_after (10 * v + (get_or ds at 0 - 48)) (drop (at + 1) ds)) None)) digit)
