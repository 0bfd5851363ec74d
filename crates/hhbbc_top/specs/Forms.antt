-- The repository of a text that was read, and the types along its codes as the program keeps them.
use Rattle.std.specs.Prelude.{ℕ, Bool, true, false, List, [], ◌∷◌, map, reverse, Option, Some, None, codes}
use Rattle.hhbc_ops.specs.declared.op.Op.{Op}
use Rattle.hhbc_ops.specs.declared.op.Op.TheVariants as ops
use Rattle.hhbc_repo.specs.declared.code.Imm.{Imm}
use Rattle.hhbc_repo.specs.declared.code.Imm.TheVariants as imms
use Rattle.hhbc_repo.specs.declared.code.Code.{Code}
use Rattle.hhbc_repo.specs.declared.code.Code.TheVariants as kinds
use Rattle.hhbc_repo.specs.declared.body.Body.{Body}
use Rattle.hhbc_repo.specs.declared.body.Position.{Position}
use Rattle.hhbc_repo.specs.Linked.{Linked}
use Rattle.hhbc_repo.specs.CanonicalText.{canonical_text}
use Rattle.hhbc_semantics.specs.Setting.{Setting, with_six}
use Rattle.func_analyze.specs.Chain.{annotated_by}
use Rattle.abstract_step.specs.State.{State}
use Rattle.hhbbc_top.specs.declared.form.Step.{Step}
use Rattle.hhbbc_top.specs.declared.form.Step.TheVariants as steps
use Rattle.hhbbc_top.specs.declared.form.Line.{Line}
use Rattle.hhbbc_top.specs.declared.form.Main.{Main}
use Rattle.hhbbc_top.specs.declared.annotation.Types.{Types}

abbrev pub plain : Op → List Imm → Code
plain op operands = kinds.Plain (record { op = op; imms = operands })

abbrev pub code_of : Step → Code
code_of steps.Null = plain ops.Null []
code_of steps.True = plain ops.True []
code_of steps.False = plain ops.False []
code_of (steps.Int i) = plain ops.Int (imms.Int i ∷ [])
code_of steps.PopC = plain ops.PopC []
code_of (steps.SetL l) = plain ops.SetL (imms.Local l ∷ [])
code_of (steps.CGetL l) = plain ops.CGetL (imms.Local l ∷ [])
code_of steps.RetC = plain ops.RetC []

-- a code with its assertions
abbrev pub position_of : Line → Position
position_of l = record { asserts = l.asserts; code = code_of l.step }

abbrev pub body_of : Main → Body
body_of m = record {
  name = codes "main";
  params = 0;
  locals = m.locals;
  iters = 0;
  stated = m.stated;
  positions = map position_of m.codes;
  regions = [];
}

-- the repository of one function
abbrev pub repo_of : Main → Linked
repo_of m = record { functions = body_of m ∷ []; classes = [] }

-- what it runs in
abbrev pub setting_of : Main → Setting
setting_of m = with_six (repo_of m)

-- a code alone
abbrev pub bare_of : Line → Position
bare_of l = record { asserts = []; code = code_of l.step }

-- the same repository without claims
abbrev pub bare_repo_of : Main → Linked
bare_repo_of m = record {
  functions = record {
    name = codes "main";
    params = 0;
    locals = m.locals;
    iters = 0;
    stated = None;
    positions = map bare_of m.codes;
    regions = [];
  }
      ∷ [];
  classes = [];
}

-- the program keeps the top of the stack last
abbrev pub state_of : Types → State
state_of t = record { locals = t.locals.items; stack = reverse t.stack.items; iters = [] }

-- a state where it is reached
abbrev pub if_reached : Bool → State → Option State
if_reached true s = Some s
if_reached false s = None

-- the canonical text of a function, annotated along its codes
abbrev pub annotated_text : Main → List ℕ
annotated_text m = canonical_text (annotated_by (bare_repo_of m))
