-- What pieces of a list of jobs may do, and what they give.
use Rattle.std.specs.Prelude.{◌≡◌, ◌≤◌, ℕ, ◌+◌, List, [], ◌∷◌, ◌++◌, length, Result, Ok, Err}
use Rattle.std.specs.declared.alloc.Global.{Global}
use Rattle.std.specs.declared.vec.Vec.{Vec}

-- each job may be done at its place; the first has this place
abbrev pub AllTaken : (ℕ → ℕ → Type 0) → ℕ → List ℕ → Type 0
AllTaken takes place [] = Unit {0}
AllTaken takes place (job ∷ jobs) = takes place job × AllTaken takes (place + 1) jobs

-- there is one answer for each job, in the order of the jobs, and it is one that the job gives
abbrev pub AllGiven : {A : Type 0} → (ℕ → A → Type 0) → List ℕ → List A → Type 0
AllGiven gives [] [] = Unit {0}
AllGiven gives [] (answer ∷ answers) = ⊥
AllGiven gives (job ∷ jobs) [] = ⊥
AllGiven gives (job ∷ jobs) (answer ∷ answers) = gives job answer × AllGiven gives jobs answers

-- a piece answered all its jobs and counted each, or there was no memory and it counted at most as many
abbrev pub IsPieceOf : {A E : Type 0} → (ℕ → A → Type 0) → List ℕ → Result (Vec A Global) E → ℕ → Type 0
IsPieceOf gives jobs (Ok answers) count = AllGiven gives jobs answers.items × (count ≡ length jobs)
IsPieceOf gives jobs (Err e) count = count ≤ length jobs

-- all answers are those of two pieces, one behind the other, and there are none where a piece has none
abbrev pub AreJoined : {A E : Type 0} → Result (Vec A Global) E → Result (Vec A Global) E → Result (Vec A Global) E → Type 0
AreJoined (Ok left) (Ok right) (Ok all) = all.items ≡ left.items ++ right.items
AreJoined (Ok left) (Err e) (Ok all) = ⊥
AreJoined (Err e) right (Ok all) = ⊥
AreJoined left right (Err e) = Unit {0}
