-- Flavours and flags, as they are compared and kept.
use Rattle.std.proofs.Common.{◌≡◌, ℕ, zero, suc, ◌<◌, ◌≤◌, ◌^◌, refl, Bool, true, false, min, List, [], ◌∷◌, drop, length, arith}
use Rattle.std.proofs.Math.Nat.{two-pow-succ}
use Rattle.hhbc_ops.specs.declared.words.Flavour.{Flavour}
use lib.Pointwise.{pointwise}
use mathlib.Core.Bool.{beq}
use Rattle.hhbc_repo.specs.Shapes.{agree, same_live}
use Rattle.stack_verify.specs.Kept.{bit_of, bits_of}

-- of two lists as far as both go, nothing is left to agree on
pub agree_end : (xs ys : List Flavour) (n : ℕ) → n ≡ min (length xs) (length ys) → agree (drop n xs) (drop n ys) ≡ true
agree_end [] [] zero e = refl
agree_end [] [] (suc n) e = refl
agree_end [] (y ∷ ys) zero e = refl
agree_end [] (y ∷ ys) (suc n) e = refl
agree_end (x ∷ xs) [] zero e = refl
agree_end (x ∷ xs) [] (suc n) e = absurd (omega arith)
agree_end (x ∷ xs) (y ∷ ys) zero e = absurd (omega arith)
agree_end (x ∷ xs) (y ∷ ys) (suc n) e = agree_end xs ys n (omega arith)

bit_small : (b : Bool) → bit_of b ≤ 1
bit_small true = omega arith
bit_small false = omega arith

-- so many flags are so many bits
pub bits_below : (bs : List Bool) (k : ℕ) → length bs ≤ k → bits_of bs < 2 ^ k
bits_below [] zero l = omega arith
bits_below [] (suc k) l = let i = bits_below [] k (omega arith) in let e = two-pow-succ k in omega (arith, i, e)
bits_below (b ∷ bs) zero l = absurd (omega arith)
bits_below (b ∷ bs) (suc k) l =
    let i = bits_below bs k (omega arith) in
    let j = bit_small b in
    let e = two-pow-succ k in
    omega (arith, i, j, e)

pub same_flags : (xs ys : List Bool) → pointwise beq xs ys ≡ same_live xs ys
same_flags [] [] = refl
same_flags [] (y ∷ ys) = refl
same_flags (x ∷ xs) [] = refl
same_flags (true ∷ xs) (true ∷ ys) = same_flags xs ys
same_flags (true ∷ xs) (false ∷ ys) = refl
same_flags (false ∷ xs) (true ∷ ys) = refl
same_flags (false ∷ xs) (false ∷ ys) = same_flags xs ys
