-- Numbers that follow each other.
use Rattle.std.proofs.Common.{◌≡◌, ℕ, zero, suc, ◌+◌, ◌∷◌, ◌++◌, length, refl, ap, ap₂, ◌∙◌, arith}
use Rattle.hhbc_repo.specs.Bodies.{numbers}

pub numbers_length : (s n : ℕ) → length (numbers s n) ≡ n
numbers_length s zero = refl
numbers_length s (suc n) = ap suc (numbers_length (suc s) n)

pub numbers_on : (n j k : ℕ) → numbers n j ++ numbers (n + j) k ≡ numbers n (j + k)
numbers_on n zero k =
    let first : n + 0 ≡ n = omega arith in
    let many : k ≡ 0 + k = omega arith in
    ap₂ numbers first many
numbers_on n (suc j) k =
    let first : n + suc j ≡ suc n + j = omega arith in
    let many : suc (j + k) ≡ suc j + k = omega arith in
    ap (λ l. n ∷ l) (ap (λ m. numbers (suc n) j ++ numbers m k) first ∙ numbers_on (suc n) j k) ∙ ap (numbers n) many
