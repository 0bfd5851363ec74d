-- How many calls are certain not to fail, from one call to the next.
use Rattle.std.proofs.Common.{◌≡◌, ℕ, ◌+◌, ◌-◌, ◌≤◌, List, [], ◌∷◌, Bool, true, false, min, refl, arith}
use Rattle.std.specs.Prelude.{◌==◌, ◌||◌, nat_le, if◌then◌else◌}
use Rattle.std.proofs.lemmas.Bool.Decides.{nat_tests}
use Rattle.hh_io.specs.Counts.{count_after, last_count}
use Rattle.hh_io.specs.Memory.{is_listed, certain_calls}

certain_step : (failing : List ℕ) (call next : ℕ) → call ≤ next → next ≤ call + 1 → certain_calls failing call ≤ certain_calls failing next + 1
certain_step [] call next low high = omega arith
certain_step (number ∷ rest) call next low high =
    let further : certain_calls rest call ≤ certain_calls rest next + 1 = certain_step rest call next low high in
    grind (arith, nat_tests)

-- a call uses one at most
pub certain_next : (old_failing failing : List ℕ) (old_call call next : ℕ) → old_failing ≡ failing → old_call ≡ call → call ≤ last_count → next ≡ count_after call
    → certain_calls old_failing old_call ≤ certain_calls failing next + 1
certain_next old_failing failing old_call call next same_list same_call within is =
    rw (same_list, same_call) (certain_step failing call next (omega arith) (omega arith))

-- the first number is the call's, or the rest lists it
first_or_rest : (number call certain : ℕ) (listed : Bool) → (listed ≡ true → certain ≡ 0) → (number == call) || listed ≡ true → (if nat_le call number then min (number - call) certain else certain) ≡ 0
first_or_rest number call certain true none either = let zero : certain ≡ 0 = none refl in grind (arith, nat_tests)
first_or_rest number call certain false none either = grind (arith, nat_tests)

-- none is certain where the next one is listed
pub none_certain : (failing : List ℕ) (call : ℕ) → is_listed failing call ≡ true → certain_calls failing call ≡ 0
none_certain [] call listed = (cc)
none_certain (number ∷ rest) call listed =
    first_or_rest number call (certain_calls rest call) (is_listed rest call) (none_certain rest call) listed
