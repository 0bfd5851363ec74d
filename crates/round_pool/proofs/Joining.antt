-- Two pieces, one behind the other.
use Rattle.std.proofs.Common.{◌≡◌, ◌≤◌, ℕ, ◌+◌, List, ◌++◌, length, Result, Ok, Err, subst, sym, ap, arith, length-append}
use Rattle.std.specs.declared.alloc.Global.{Global}
use Rattle.std.specs.declared.vec.Vec.{Vec}
use Rattle.round_pool.specs.Pieces.{AllGiven, IsPieceOf, AreJoined}
use Rattle.round_pool.proofs.Giving.{given_append}

-- no piece counts more jobs than it has
piece_count : {A E : Type 0} (gives : ℕ → A → Type 0) (jobs : List ℕ) (answers : Result (Vec A Global) E) (count : ℕ) → IsPieceOf gives jobs answers count → count ≤ length jobs
piece_count gives jobs (Ok answers) count v = let e = v.1 in omega arith
piece_count gives jobs (Err e) count v = v

-- both pieces, and what they counted, make a piece of all jobs
pub piece_joined : {A E : Type 0} (gives : ℕ → A → Type 0) (front back jobs : List ℕ) (left right all : Result (Vec A Global) E) (m n count : ℕ)
    → IsPieceOf gives front left m → IsPieceOf gives back right n → AreJoined left right all → count ≡ m + n → front ++ back ≡ jobs → IsPieceOf gives jobs all count
piece_joined gives front back jobs (Ok left) (Ok right) (Ok all) m n count v w j c e = (
  subst (λ jobs. AllGiven gives jobs all.items) e
      (subst (λ answers. AllGiven gives (front ++ back) answers) (sym j) (given_append gives front back left.items right.items v.0 w.0)),
  (let l = ap length e in let k = v.1 in let i = w.1 in omega (arith, length-append front back)),
)
piece_joined gives front back jobs (Ok left) (Err f) (Ok all) m n count v w j c e = absurd j
piece_joined gives front back jobs (Err f) right (Ok all) m n count v w j c e = absurd j
piece_joined gives front back jobs left right (Err f) m n count v w j c e =
    let k = piece_count gives front left m v in
    let i = piece_count gives back right n w in
    let l = ap length e in
    omega (arith, length-append front back)
