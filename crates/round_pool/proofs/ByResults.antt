-- Rounds by the results of all bodies give the facts after rounds.
use Rattle.std.proofs.Common.{◌≡◌, ℕ, zero, suc, ◌+◌, refl, ap, subst, Some, List, [], ◌∷◌, slice_get, length, arith}
use Rattle.hhbc_repo.specs.Bodies.{numbers}
use Rattle.func_analyze.specs.Results.{IsResult}
use Rattle.func_analyze.proofs.RoundResults.{results_make_round, results_depend_on_names}
use Rattle.round_pool.specs.Pieces.{AllGiven}
use Rattle.round_pool.specs.ResultRounds.{ResultRoundsAreFacts, NamesAreDependencies}

-- as many results as numbers, each given by its number
given_count : {A : Type 0} (gives : ℕ → A → Type 0) (first count : ℕ) (xs : List A) → AllGiven gives (numbers first count) xs → length xs ≡ count
given_count gives first zero [] v = refl
given_count gives first zero (x ∷ xs) v = absurd v
given_count gives first (suc count) [] v = absurd v
given_count gives first (suc count) (x ∷ xs) v = ap suc (given_count gives (suc first) count xs v.1)

given_at : {A : Type 0} (gives : ℕ → A → Type 0) (first count : ℕ) (xs : List A) → AllGiven gives (numbers first count) xs
    → (n : ℕ) (x : A) → slice_get xs n ≡ Some x → gives (first + n) x
given_at gives first zero [] v n x e = absurd (cc)
given_at gives first zero (y ∷ xs) v n x e = absurd v
given_at gives first (suc count) [] v n x e = absurd v
given_at gives first (suc count) (y ∷ xs) v zero x e =
    let k : y ≡ x = cc in
    let z : first ≡ first + 0 = omega arith in
    subst (λ m. gives m x) z (subst (λ x. gives first x) k v.0)
given_at gives first (suc count) (y ∷ xs) v (suc n) x e =
    let z : suc first + n ≡ first + suc n = omega arith in
    subst (λ m. gives m x) z (given_at gives (suc first) count xs v.1 n x e)

pub result_rounds_are_facts : (Name : Type 0) → ResultRoundsAreFacts Name
result_rounds_are_facts Name depends differs r zero G is = is
result_rounds_are_facts Name depends differs r (suc n) G is = (
  is.0,
  result_rounds_are_facts Name depends differs r n is.0 is.1,
  results_make_round r is.0 G is.2.results (given_count (IsResult r is.0) 0 _ is.2.results is.2.given)
      (λ m x e.
      let z : 0 + m ≡ m = omega arith in
      subst (λ m. IsResult r is.0 m x) z (given_at (IsResult r is.0) 0 _ is.2.results is.2.given m x e)) is.2.joined,
)

pub names_are_dependencies : NamesAreDependencies
names_are_dependencies r differs sound F G n x same is = results_depend_on_names r F G n x (λ d m. sound F G d (same d m)) is
