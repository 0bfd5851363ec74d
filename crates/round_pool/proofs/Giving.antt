-- What jobs give, in parts of a list and in the whole.
use Rattle.std.proofs.Common.{◌≡◌, ℕ, ◌+◌, suc, zero, ◌<◌, List, [], ◌∷◌, ◌++◌, length, map, take, get_or, arith, add-one, refl}
use Rattle.round_pool.specs.Pieces.{AllGiven}

-- what two lists of jobs give, one behind the other
pub given_append : {A : Type 0} (gives : ℕ → A → Type 0) (left right : List ℕ) (first second : List A) → AllGiven gives left first → AllGiven gives right second
    → AllGiven gives (left ++ right) (first ++ second)
given_append gives [] right [] second v w = w
given_append gives [] right (answer ∷ first) second v w = absurd v
given_append gives (job ∷ left) right [] second v w = absurd v
given_append gives (job ∷ left) right (answer ∷ first) second v w = (v.0, given_append gives left right first second v.1 w)

-- one answer more
pub given_more : {A : Type 0} (gives : ℕ → A → Type 0) (jobs : List ℕ) (i d : ℕ) (answers : List A) (answer : A) → i < length jobs
    → AllGiven gives (take i jobs) answers → gives (get_or jobs i d) answer → AllGiven gives (take (i + 1) jobs) (answers ++ answer ∷ [])
given_more gives [] i d answers answer h v g = absurd (omega arith)
given_more gives (job ∷ jobs) zero d [] answer h v g = (g, tt)
given_more gives (job ∷ jobs) zero d (other ∷ answers) answer h v g = absurd v
given_more gives (job ∷ jobs) (suc i) d [] answer h v g = absurd v
given_more gives (job ∷ jobs) (suc i) d (other ∷ answers) answer h v g =
    rw add-one (v.0, rw add-one at (given_more gives jobs i d answers answer (omega arith) v.1 g))

-- where each job has one answer
pub given_map : {A : Type 0} (answer_of : ℕ → A) (jobs : List ℕ) (answers : List A) → AllGiven (λ job answer. answer ≡ answer_of job) jobs answers → answers ≡ map answer_of jobs
given_map answer_of [] [] v = refl
given_map answer_of [] (answer ∷ answers) v = absurd v
given_map answer_of (job ∷ jobs) [] v = absurd v
given_map answer_of (job ∷ jobs) (answer ∷ answers) v = let rest = given_map answer_of jobs answers v.1 in let here = v.0 in cc
