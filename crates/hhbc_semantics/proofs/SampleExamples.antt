-- Calls, exceptions and handlers of the sample language, computed by the definitions.
use Rattle.std.proofs.Common.{◌≡◌, ℕ, List, [], ◌∷◌, None, pos, refl}
use Rattle.hack_values.specs.declared.cell.Cell.TheVariants as cells
use Rattle.hhbc_repo.specs.declared.body.Body.{Body}
use Rattle.hhbc_repo.specs.declared.body.Region.{Region}
use Rattle.hhbc_repo.specs.Linked.{Linked}
use Rattle.hhbc_semantics.specs.Outcome.{Outcome, Returned, Uncaught, Steps}
use Rattle.hhbc_semantics.specs.Steps.{Running, steps_by}
use Rattle.hhbc_semantics.specs.Run.{no_world, result_of}
use Rattle.hhbc_semantics.specs.Sample.{Program, Number, Nothing, Call, Throw, Return, fresh, sample}

-- a body with these regions; what it does is said by its acts
with_regions : List Region → Body
with_regions regions = record { name = []; params = 0; locals = []; iters = 0; stated = None; positions = []; regions = regions }

-- how a run of body 0 stands after so many steps
after_steps : Linked → Program → ℕ → Outcome
after_steps r program n = (result_of (steps_by (sample program r).turn r (Running (fresh 0) [] no_world) n)).outcome

plain : Linked
plain = record { functions = with_regions [] ∷ with_regions [] ∷ []; classes = [] }

-- the second body returns 7 to the first, which returns it
calling : Program
calling = (Call 1 ∷ Return ∷ []) ∷ (Number (pos 7) ∷ Return ∷ []) ∷ []

not_yet : after_steps plain calling 3 ≡ Steps
unfolding after_steps plain calling with_regions
not_yet = refl

given_back : after_steps plain calling 4 ≡ Returned (cells.Int (pos 7))
unfolding after_steps plain calling with_regions
given_back = refl

-- what the second body raises goes past its end to the handler of the first, which returns 3
raising : Program
raising = (Call 1 ∷ Return ∷ Number (pos 3) ∷ Return ∷ []) ∷ (Throw ∷ Nothing ∷ Number (pos 4) ∷ Return ∷ []) ∷ []

guarded : Linked
guarded = record { functions = with_regions (record { first = 0; mid = 2; last = 4 } ∷ []) ∷ with_regions [] ∷ []; classes = [] }

caught_below : after_steps guarded raising 4 ≡ Returned (cells.Int (pos 3))
unfolding after_steps guarded raising with_regions
caught_below = refl

-- its own handler comes first
both_guarded : Linked
both_guarded = record {
  functions =
      with_regions (record { first = 0; mid = 2; last = 4 } ∷ []) ∷ with_regions (record { first = 0; mid = 2; last = 4 } ∷ []) ∷ [];
  classes = [];
}

caught_here : after_steps both_guarded raising 5 ≡ Returned (cells.Int (pos 4))
unfolding after_steps both_guarded raising with_regions
caught_here = refl

-- without a handler the run ends with the exception, at the place where it was raised
uncaught_there : after_steps plain raising 2 ≡ Uncaught 0 [] (record { body = 1; position = 0 })
unfolding after_steps plain raising with_regions
uncaught_there = refl
