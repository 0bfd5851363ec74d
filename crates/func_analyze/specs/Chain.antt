-- The states along a body without jumps, each made from the one before it.
use Rattle.std.specs.Prelude.{List, [], ◌∷◌, Option, Some, None, if◌then◌else◌}
use Rattle.type_lattice.specs.declared.types.HType.{HType}
use Rattle.type_lattice.specs.Types.{never}
use Rattle.hhbc_repo.specs.declared.body.Body.{Body}
use Rattle.hhbc_repo.specs.declared.body.Position.{Position}
use Rattle.hhbc_repo.specs.declared.code.Code.{Code}
use Rattle.hhbc_repo.specs.Linked.{Linked}
use Rattle.hhbc_semantics.specs.Truth.{Facts}
use Rattle.abstract_step.specs.State.{State, is_alive, entry_state}
use Rattle.abstract_step.specs.Flow.{Row, row}
use Rattle.func_analyze.specs.Solution.{Table}
use Rattle.func_analyze.specs.Annotated.{annotated_body}

-- codes of constants and locals ask for no other body and no facts
abbrev pub no_repo : Linked
no_repo = record { functions = []; classes = [] }

abbrev pub no_facts : Facts
no_facts = record { returns = []; props = [] }

abbrev pub row_of : Code → State → Row
row_of c s = row no_repo no_facts 0 c s

-- the state, unless one of its types is without members
abbrev pub if_alive : Option State → Option State
if_alive None = None
if_alive (Some s) = if is_alive s then Some s else None

-- the state behind a code, where there is one
abbrev pub state_behind : Code → Option State → Option State
state_behind c None = None
state_behind c (Some s) = if_alive (row_of c s).behind

-- the state at each position, from the one at the first
abbrev pub chain : List Position → Option State → Table
chain [] o = []
chain (p ∷ ps) o = o ∷ chain ps (state_behind p.code o)

abbrev pub returned_by : Code → Option State → HType
returned_by c None = never
returned_by c (Some s) = (row_of c s).returned

-- what the last code returns
abbrev pub returned_at_end : List Position → Option State → HType
returned_at_end [] o = never
returned_at_end (p ∷ []) o = returned_by p.code o
returned_at_end (p ∷ q ∷ ps) o = returned_at_end (q ∷ ps) (state_behind p.code o)

-- a body with what it returns and with its assertions
abbrev pub annotated_main : Body → Body
annotated_main b =
    annotated_body b (Some (returned_at_end b.positions (Some (entry_state b)))) (chain b.positions (Some (entry_state b)))

abbrev pub annotated_functions : List Body → List Body
annotated_functions [] = []
annotated_functions (b ∷ bs) = annotated_main b ∷ annotated_functions bs

-- a repository of the first form, annotated
abbrev pub annotated_by : Linked → Linked
annotated_by r = record { functions = annotated_functions r.functions; classes = [] }
