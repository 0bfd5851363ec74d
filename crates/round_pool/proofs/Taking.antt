-- Which jobs may be done, in a list and in its parts.
use Rattle.std.proofs.Common.{ℕ, ◌+◌, suc, zero, ◌<◌, List, [], ◌∷◌, length, take, drop, get_or, subst, arith, add-zero}
use Rattle.round_pool.specs.Pieces.{AllTaken}

-- one job may be done at its own place
pub taken_at : (takes : ℕ → ℕ → Type 0) (place : ℕ) (jobs : List ℕ) (i d : ℕ) → i < length jobs → AllTaken takes place jobs → takes (place + i) (get_or jobs i d)
taken_at takes place [] i d h v = absurd (omega arith)
taken_at takes place (job ∷ jobs) zero d h v = rw (add-zero) v.0
taken_at takes place (job ∷ jobs) (suc i) d h v =
    let P : ℕ → Type 0 = λ n. takes n (get_or jobs i d) in
    subst P (omega arith) (taken_at takes (place + 1) jobs i d (omega arith) v.1)

-- the first jobs
pub taken_take : (takes : ℕ → ℕ → Type 0) (place : ℕ) (jobs : List ℕ) (n : ℕ) → AllTaken takes place jobs → AllTaken takes place (take n jobs)
taken_take takes place [] zero v = v
taken_take takes place [] (suc n) v = v
taken_take takes place (job ∷ jobs) zero v = tt
taken_take takes place (job ∷ jobs) (suc n) v = (v.0, taken_take takes (place + 1) jobs n v.1)

-- the jobs behind them
pub taken_drop : (takes : ℕ → ℕ → Type 0) (place : ℕ) (jobs : List ℕ) (n : ℕ) → AllTaken takes place jobs → AllTaken takes (place + n) (drop n jobs)
taken_drop takes place [] zero v = tt
taken_drop takes place [] (suc n) v = tt
taken_drop takes place (job ∷ jobs) zero v = rw (add-zero) v
taken_drop takes place (job ∷ jobs) (suc n) v =
    let P : ℕ → Type 0 = λ k. AllTaken takes k (drop n jobs) in
    subst P (omega arith) (taken_drop takes (place + 1) jobs n v.1)
