-- Runs of small functions, computed by the definitions: operators and what they raise, functions that aren't there, natives.
use Rattle.std.proofs.Common.{◌≡◌, ℕ, List, [], ◌∷◌, None, pos, refl, false, codes}
use Rattle.std.specs.Int.{w64, int_wrap}
use Rattle.hack_values.specs.declared.cell.Cell.TheVariants as cells
use Rattle.hhbc_ops.specs.declared.op.Op.{Op}
use Rattle.hhbc_ops.specs.declared.op.Op.TheVariants as ops
use Rattle.hhbc_repo.specs.declared.code.Code.TheVariants as kinds
use Rattle.hhbc_repo.specs.declared.code.Imm.{Imm}
use Rattle.hhbc_repo.specs.declared.code.Imm.TheVariants as imms
use Rattle.hhbc_repo.specs.declared.body.Position.{Position}
use Rattle.hhbc_repo.specs.Linked.{Linked}
use Rattle.hhbc_semantics.specs.Setting.{with_six}
use Rattle.hhbc_semantics.specs.Outcome.{Outcome, Returned, Uncaught, Fatal, Undefined}
use Rattle.hhbc_semantics.specs.Run.{run}

does : Op → List Imm → Position
does op is = record { asserts = []; code = kinds.Plain (record { op = op; imms = is }) }

-- one function of these codes, with a local `x`
main : List Position → Linked
main positions = record {
  functions = record { name = codes "main"; params = 0; locals = codes "x" ∷ []; iters = 0; stated = None; positions = positions; regions = [] } ∷ [];
  classes = [];
}

outcome_of : List Position → ℕ → Outcome
outcome_of positions n = (run (with_six (main positions)) (codes "main") [] n false).outcome

-- the sum goes round within 64 bits
greatest_and_one : outcome_of (does ops.Int (imms.Int (pos 9223372036854775807) ∷ []) ∷ does ops.Int (imms.Int (pos 1) ∷ []) ∷ does ops.Add [] ∷ does ops.RetC [] ∷ []) 4
    ≡ Returned (cells.Int (int_wrap w64 (pos 9223372036854775808)))
unfolding outcome_of main does
greatest_and_one = refl

undefined_local : outcome_of (does ops.CGetL (imms.Local 0 ∷ []) ∷ does ops.RetC [] ∷ []) 1
    ≡ Uncaught 3 (codes "undefined $x") (record { body = 0; position = 0 })
unfolding outcome_of main does
undefined_local = refl

by_zero : outcome_of (does ops.Int (imms.Int (pos 1) ∷ []) ∷ does ops.Int (imms.Int (pos 0) ∷ []) ∷ does ops.Mod [] ∷ does ops.RetC [] ∷ []) 3
    ≡ Uncaught 4 (codes "division by zero") (record { body = 0; position = 2 })
unfolding outcome_of main does
by_zero = refl

no_function : outcome_of (does ops.NullUninit [] ∷ does ops.NullUninit [] ∷ does ops.FCallFuncD (imms.Count 0 ∷ imms.Name (codes "nope") ∷ []) ∷ does ops.RetC [] ∷ []) 3
    ≡ Fatal Undefined (record { body = 0; position = 2 })
unfolding outcome_of main does
no_function = refl

-- a native of a string, and of what it doesn't take
length_of : Position → List Position
length_of argument =
    does ops.NullUninit [] ∷ does ops.NullUninit [] ∷ argument ∷ does ops.FCallFuncD (imms.Count 1 ∷ imms.Name (codes "strlen") ∷ []) ∷ does ops.RetC [] ∷ []

native_answers : outcome_of (length_of (does ops.String (imms.Str (codes "abc") ∷ []))) 5 ≡ Returned (cells.Int (pos 3))
unfolding outcome_of main does length_of
native_answers = refl

native_throws : outcome_of (length_of (does ops.Null [])) 4 ≡ Uncaught 2 (codes "native strlen") (record { body = 0; position = 3 })
unfolding outcome_of main does length_of
native_throws = refl
