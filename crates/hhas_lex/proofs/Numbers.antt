-- Numbers in digits.
use Rattle.std.proofs.Common.{◌≡◌, ℕ, zero, suc, ◌+◌, ◌-◌, ◌*◌, ◌^◌, ◌<◌, ◌≤◌, List, [], ◌∷◌, length, drop, get_or, pos, neg_ℤ, nat_le, arith}
use Rattle.std.proofs.lemmas.List.{at_drop_more}
use Rattle.std.proofs.lemmas.Bool.Decides.{nat_tests}
use Rattle.hhas_lex.specs.Bytes.{number_from}
use Rattle.hhas_lex.specs.Shape.{is_int64}

pub number_from-grows : (n : ℕ) (ds : List ℕ) → n ≤ number_from n ds
number_from-grows n [] = omega arith
number_from-grows n (d ∷ ds) = omega (arith, number_from-grows (10 * n + (d - 48)) ds)

-- a number that one more digit takes past the range stays past it
pub number_from-past : (n i : ℕ) (ds : List ℕ) → i < length ds → 2 ^ 63 < 10 * n + (get_or ds i 0 - 48) → 2 ^ 63 < number_from n (drop i ds)
number_from-past n i ds within past =
    rw (at_drop_more (number_from n) ds i 0 within) (omega (arith, number_from-grows (10 * n + (get_or ds i 0 - 48)) (drop (i + 1) ds)))

-- a negative number may go one further
pub is_int64-neg : (v : ℕ) → is_int64 (neg_ℤ (pos v)) ≡ nat_le v (2 ^ 63)
is_int64-neg zero = grind (arith, nat_tests)
is_int64-neg (suc v) = grind (arith, nat_tests)
