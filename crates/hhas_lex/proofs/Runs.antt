-- Runs of bytes of one kind.
use Rattle.std.proofs.Common.{◌≡◌, ℕ, ◌+◌, ◌<◌, ◌≤◌, refl, ap, Bool, true, false, cond, All, List, [], ◌∷◌, length, take, arith}
use Rattle.std.specs.List.{take_while, AllByRecursion}
use Rattle.std.proofs.lemmas.List.Sums.{take_while-cons}
use Rattle.std.proofs.lemmas.List.Elements.{All-from_recursion}
use Rattle.hhas_lex.specs.Bytes.{run_of}

run-chosen : (p : ℕ → Bool) (b : ℕ) (ys : List ℕ) (t : Bool) → p b ≡ t → AllByRecursion (λ d. p d ≡ true) ys → AllByRecursion (λ d. p d ≡ true) (cond t (b ∷ ys) [])
run-chosen p b ys true e h = (e, h)
run-chosen p b ys false e h = tt

run-all : (p : ℕ → Bool) (bs : List ℕ) → AllByRecursion (λ d. p d ≡ true) (take_while p bs)
run-all p [] = tt
run-all p (b ∷ bs) = rw (take_while-cons p b bs) (run-chosen p b (take_while p bs) (p b) refl (run-all p bs))

take-chosen : (b : ℕ) (bs ys : List ℕ) (t : Bool) → take (length ys) bs ≡ ys → take (length (cond t (b ∷ ys) [])) (b ∷ bs) ≡ cond t (b ∷ ys) []
take-chosen b bs ys true e = ap (λ z. b ∷ z) e
take-chosen b bs ys false e = refl

take-run_of : (p : ℕ → Bool) (bs : List ℕ) → take (run_of p bs) bs ≡ take_while p bs
take-run_of p [] = refl
take-run_of p (b ∷ bs) = rw (take_while-cons p b bs) (take-chosen b bs (take_while p bs) (p b) (take-run_of p bs))

-- each byte of a run passes
pub All-run_of : (p : ℕ → Bool) (bs : List ℕ) → All (λ d. p d ≡ true) (take (run_of p bs) bs)
All-run_of p bs = rw (take-run_of p bs) (All-from_recursion (λ d. p d ≡ true) (take_while p bs) (run-all p bs))

length-chosen : (b : ℕ) (ys : List ℕ) (t : Bool) (n : ℕ) → length ys ≤ n → length (cond t (b ∷ ys) []) ≤ 1 + n
length-chosen b ys true n h = omega arith
length-chosen b ys false n h = omega arith

pub run_of-le-length : (p : ℕ → Bool) (bs : List ℕ) → run_of p bs ≤ length bs
run_of-le-length p [] = omega arith
run_of-le-length p (b ∷ bs) =
    rw (take_while-cons p b bs) (omega (arith, length-chosen b (take_while p bs) (p b) (length bs) (run_of-le-length p bs)))

-- a run that begins takes a byte
pub run_of-positive : (p : ℕ → Bool) (b : ℕ) (bs : List ℕ) → p b ≡ true → 0 < run_of p (b ∷ bs)
run_of-positive p b bs e = rw (take_while-cons p b bs, e) (omega arith)
