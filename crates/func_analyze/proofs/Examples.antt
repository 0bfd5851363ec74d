-- Bodies, their annotations and their runs, computed by the definitions.
use Rattle.std.proofs.Common.{Bool, List, None, Some, [], codes, false, map, pos, refl, true, ℕ, ◌∷◌, ◌≡◌}
use Rattle.hhbc_ops.specs.declared.op.Op.TheVariants as ops
use Rattle.type_lattice.specs.declared.types.HType.{HType}
use Rattle.type_lattice.specs.declared.types.IntPart.TheVariants as ints
use Rattle.type_lattice.specs.Types.{never, uninit}
use Rattle.hhbc_repo.specs.declared.body.Body.{Body}
use Rattle.hhbc_repo.specs.declared.body.Position.{Position}
use Rattle.hhbc_repo.specs.declared.body.Assert.{Assert}
use Rattle.hhbc_repo.specs.declared.body.Assert.TheVariants as asserts
use Rattle.hhbc_repo.specs.declared.code.Code.{Code}
use Rattle.hhbc_repo.specs.declared.code.Code.TheVariants as kinds
use Rattle.hhbc_repo.specs.declared.code.Imm.TheVariants as imms
use Rattle.hack_values.specs.declared.cell.Cell.TheVariants as cells
use Rattle.type_lattice.specs.declared.types.StrPart.TheVariants as strs
use Rattle.hhbc_semantics.specs.Setting.{Setting, with_six}
use Rattle.hhbc_semantics.specs.Outcome.{Outcome, Returned, Uncaught, AssertFalse, Steps}
use Rattle.hhbc_semantics.specs.Run.{run}
use Rattle.hhbc_repo.specs.Shapes.{fault_at, Underflow, FallsOff}
use Rattle.func_analyze.specs.Chain.{annotated_main}

main_of : List Position → Body
main_of ps = record {
  name = codes "main";
  params = 0;
  locals = codes "x" ∷ [];
  iters = 0;
  stated = None;
  positions = ps;
  regions = [];
}

bare_code : Code → Position
bare_code c = record { asserts = []; code = c }

two : HType
two = record never { int = ints.One (pos 2) }

stored : List Code
stored =
    kinds.Plain (record { op = ops.Int; imms = imms.Int (pos 2) ∷ [] })
    ∷ kinds.Plain (record { op = ops.SetL; imms = imms.Local 0 ∷ [] })
    ∷ kinds.Plain (record { op = ops.PopC; imms = [] })
    ∷ kinds.Plain (record { op = ops.CGetL; imms = imms.Local 0 ∷ [] })
    ∷ kinds.Plain (record { op = ops.RetC; imms = [] })
    ∷ []

asserted : Body → List (List Assert)
asserted b = map (λ (p : Position). p.asserts) b.positions

-- a local that was set to 2 and is returned
stored_claims : asserted (annotated_main (main_of (map bare_code stored)))
    ≡ [] ∷ (asserts.Stack 0 two ∷ []) ∷ (asserts.Stack 0 two ∷ []) ∷ (asserts.Local 0 two ∷ []) ∷ (asserts.Stack 0 two ∷ []) ∷ []
unfolding asserted main_of bare_code stored two
stored_claims = refl

stored_states : (annotated_main (main_of (map bare_code stored))).stated ≡ Some two
unfolding main_of bare_code stored two
stored_states = refl

unset : List Code
unset =
    kinds.Plain (record { op = ops.CGetL; imms = imms.Local 0 ∷ [] })
    ∷ kinds.Plain (record { op = ops.RetC; imms = [] })
    ∷ []

-- a local that was never set: what follows isn't reached
unset_claims : asserted (annotated_main (main_of (map bare_code unset))) ≡ (asserts.Local 0 uninit ∷ []) ∷ [] ∷ []
unfolding asserted main_of bare_code unset
unset_claims = refl

unset_states : (annotated_main (main_of (map bare_code unset))).stated ≡ Some never
unfolding main_of bare_code unset
unset_states = refl

one : Body → Setting
one b = with_six (record { functions = b ∷ []; classes = [] })

runs_to : Body → ℕ → Bool → Outcome
runs_to b n asserted = (run (one b) (codes "main") [] n asserted).outcome

-- 4 steps don't suffice, and 5 do, with the assertions of the annotated body too
spent : runs_to (main_of (map bare_code stored)) 4 false ≡ Steps
unfolding runs_to one main_of bare_code stored
spent = refl

spent_annotated : runs_to (annotated_main (main_of (map bare_code stored))) 4 true ≡ Steps
unfolding runs_to one main_of bare_code stored
spent_annotated = refl

returned : runs_to (main_of (map bare_code stored)) 5 false ≡ Returned (cells.Int (pos 2))
unfolding runs_to one main_of bare_code stored
returned = refl

returned_annotated : runs_to (annotated_main (main_of (map bare_code stored))) 5 true ≡ Returned (cells.Int (pos 2))
unfolding runs_to one main_of bare_code stored
returned_annotated = refl

-- a local that isn't set raises an exception, which nothing catches
uncaught : runs_to (main_of (map bare_code unset)) 5 false ≡ Uncaught 3 (codes "undefined $x") (record { body = 0; position = 0 })
unfolding runs_to one main_of bare_code unset
uncaught = refl

-- a false assertion ends a run where assertions are tested
any_string : HType
any_string = record never { str = strs.Any }

asserting : List Position
asserting =
    bare_code (kinds.Plain (record { op = ops.Int; imms = imms.Int (pos 2) ∷ [] }))
    ∷ bare_code (kinds.Plain (record { op = ops.SetL; imms = imms.Local 0 ∷ [] }))
    ∷ bare_code (kinds.Plain (record { op = ops.PopC; imms = [] }))
    ∷ record { asserts = asserts.Local 0 any_string ∷ []; code = kinds.Plain (record { op = ops.CGetL; imms = imms.Local 0 ∷ [] }) }
    ∷ bare_code (kinds.Plain (record { op = ops.RetC; imms = [] }))
    ∷ []

untested : runs_to (main_of asserting) 5 false ≡ Returned (cells.Int (pos 2))
unfolding runs_to one main_of asserting bare_code any_string
untested = refl

false_assertion : runs_to (main_of asserting) 5 true ≡ AssertFalse (record { body = 0; position = 3 })
unfolding runs_to one main_of asserting bare_code any_string
false_assertion = refl

-- a code that reaches below the stack, and a body whose end is fallen off
below : fault_at (main_of (bare_code (kinds.Plain (record { op = ops.PopC; imms = [] })) ∷ [])) 0 ≡ Some Underflow
unfolding main_of bare_code
below = refl

falls : fault_at (main_of (bare_code (kinds.Plain (record { op = ops.Null; imms = [] })) ∷ [])) 0 ≡ Some FallsOff
unfolding main_of bare_code
falls = refl
