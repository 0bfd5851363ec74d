-- What a code makes of types, and where its states go.
use Rattle.std.specs.Prelude.{ℕ, suc, Bool, true, false, not, List, [], ◌∷◌, ◌++◌, filter, Option, Some, None, slice_get, slice_set}
use Rattle.hack_values.specs.declared.cell.Cell.TheVariants as cells
use Rattle.hhbc_ops.specs.declared.op.Op.{Op}
use Rattle.hhbc_ops.specs.declared.op.Op.TheVariants as ops
use Rattle.type_lattice.specs.declared.types.HType.{HType}
use Rattle.type_lattice.specs.declared.types.ObjPart.TheVariants as objs
use Rattle.type_lattice.specs.Types.{never, literal, initialised}
use Rattle.type_lattice.specs.Never.{is_never}
use Rattle.hhbc_repo.specs.declared.code.Code.{Code}
use Rattle.hhbc_repo.specs.declared.code.Code.TheVariants as kinds
use Rattle.hhbc_repo.specs.declared.code.Imm.{Imm}
use Rattle.hhbc_repo.specs.declared.body.Body.{Body}
use Rattle.hhbc_repo.specs.Linked.{Linked}
use Rattle.hhbc_repo.specs.Bodies.{body_at, code_at}
use Rattle.hhbc_repo.specs.Codes.{local_of, int_of, throws}
use Rattle.hhbc_repo.specs.Edges.{handler_of}
use Rattle.hhbc_semantics.specs.Truth.{Facts}
use Rattle.abstract_step.specs.State.{State, is_alive}

-- a property may hold a value of this type
pub record Effect : Type 0 where
  pub property : ℕ
  pub type : HType

-- what a code makes of a state: the state behind it, if it may go on there, those at labels,
-- the type that it returns (`never` if it returns nothing), and what it writes to properties
pub record Row : Type 0 where
  pub behind : Option State
  pub labels : List (ℕ × State)
  pub returned : HType
  pub effects : List Effect

abbrev pub nothing : Row
nothing = record { behind = None; labels = []; returned = never; effects = [] }

abbrev pub goes : State → Row
goes s = record { behind = Some s; labels = []; returned = never; effects = [] }

abbrev pub returns : HType → Row
returns t = record { behind = None; labels = []; returned = t; effects = [] }

abbrev pub push : State → HType → State
push s t = record s { stack = t ∷ s.stack }

-- the topmost type
abbrev pub with_type : List HType → (HType → List HType → Row) → Row
with_type [] go = nothing
with_type (t ∷ ts) go = go t ts

-- what is read of a local, which isn't Uninit
abbrev pub with_local_type : Option HType → (HType → Row) → Row
with_local_type None go = nothing
with_local_type (Some t) go = go (initialised t)

-- what is not defined here goes nowhere
abbrev pub undefined_row : Row
undefined_row = nothing

-- an instruction of a body, by its number, under facts; the further ones come with the forms that have them
abbrev pub op_row : Linked → Facts → ℕ → Op → List Imm → State → Row
op_row r F n ops.Null imms s = goes (push s (literal cells.Null))
op_row r F n ops.True imms s = goes (push s (literal (cells.Bool true)))
op_row r F n ops.False imms s = goes (push s (literal (cells.Bool false)))
op_row r F n ops.Int imms s = goes (push s (literal (cells.Int (int_of imms))))
op_row r F n ops.PopC imms s = with_type s.stack (λ t ts. goes (record s { stack = ts }))
op_row r F n ops.SetL imms s = with_type s.stack (λ t ts. goes (record s { locals = slice_set s.locals (local_of imms) t }))
op_row r F n ops.CGetL imms s = with_local_type (slice_get s.locals (local_of imms)) (λ t. goes (push s t))
op_row r F n ops.RetC imms s = with_type s.stack (λ t ts. returns t)
op_row r F n _ imms s = undefined_row

-- member sequences come with their first instruction
abbrev pub row : Linked → Facts → ℕ → Code → State → Row
row r F n (kinds.Plain i) s = op_row r F n i.op i.imms s
row r F n (kinds.Member m) s = undefined_row

-- the flows of a position, in the order of its edges, with what it returns and writes
pub record Flows : Type 0 where
  pub to : List (ℕ × State)
  pub returned : HType
  pub effects : List Effect

abbrev pub to_behind : ℕ → Option State → List (ℕ × State)
to_behind p None = []
to_behind p (Some s) = (suc p, s) ∷ []

-- an exception at a code that may throw finds the state before the code, with the exception alone on the stack
abbrev pub exception_type : HType
exception_type = record never { obj = objs.Sub 0 }

abbrev pub to_handler : Bool → Option ℕ → State → List (ℕ × State)
to_handler false o s = []
to_handler true None s = []
to_handler true (Some q) s = (q, record s { stack = exception_type ∷ [] }) ∷ []

abbrev pub lives : ℕ × State → Bool
lives x = is_alive x.1

abbrev pub has_type : Effect → Bool
has_type e = not (is_never e.type)

-- a flow with a type without members isn't there, and an effect of such a type is none
abbrev pub completed : Row → ℕ → List (ℕ × State) → Flows
completed w p handler = record {
  to = filter lives (to_behind p w.behind ++ w.labels ++ handler);
  returned = w.returned;
  effects = filter has_type w.effects;
}

abbrev pub no_flows : Flows
no_flows = record { to = []; returned = never; effects = [] }

abbrev pub code_flow : Linked → Facts → ℕ → Body → ℕ → Option Code → State → Flows
code_flow r F n b p None s = no_flows
code_flow r F n b p (Some c) s = completed (row r F n c s) p (to_handler (throws c) (handler_of b p) s)

abbrev pub body_flow : Linked → Facts → ℕ → Option Body → ℕ → State → Flows
body_flow r F n None p s = no_flows
body_flow r F n (Some b) p s = code_flow r F n b p (code_at b p) s

-- the flows of a state at a position of a body, under facts
abbrev pub flow : Linked → Facts → ℕ → ℕ → State → Flows
flow r F n p s = body_flow r F n (body_at r n) p s
