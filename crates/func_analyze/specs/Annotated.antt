-- The annotated repository: what it states and asserts.
use Rattle.std.specs.Prelude.{◌≡◌, ℕ, suc, ◌+◌, List, [], ◌∷◌, ◌++◌, length, Option, Some, None, slice_get, if◌then◌else◌}
use Rattle.type_lattice.specs.declared.types.HType.{HType}
use Rattle.type_lattice.specs.Whole.{is_whole}
use Rattle.hhbc_repo.specs.declared.body.Body.{Body}
use Rattle.hhbc_repo.specs.declared.body.Position.{Position}
use Rattle.hhbc_repo.specs.declared.body.Assert.{Assert}
use Rattle.hhbc_repo.specs.declared.body.Assert.TheVariants as asserts
use Rattle.hhbc_repo.specs.declared.code.Code.{Code}
use Rattle.hhbc_repo.specs.declared.repo.Class.{Class}
use Rattle.hhbc_repo.specs.declared.repo.Property.{Property}
use Rattle.hhbc_repo.specs.Codes.{Flavour, pops, reads_locals}
use Rattle.hhbc_repo.specs.Linked.{Linked}
use Rattle.hhbc_repo.specs.Bare.{bare}
use Rattle.hhbc_semantics.specs.Truth.{Facts}
use Rattle.abstract_step.specs.State.{State}
use Rattle.func_analyze.specs.Solution.{Table}
use Rattle.func_analyze.specs.Rounds.{IsFacts, AreLeast}

-- an assertion, left out where each cell is of the type
abbrev pub claim : (HType → Assert) → Option HType → List Assert
claim make None = []
claim make (Some t) = if is_whole t then [] else make t ∷ []

abbrev pub local_claims : List ℕ → List HType → List Assert
local_claims [] types = []
local_claims (l ∷ ls) types = claim (λ t. asserts.Local l t) (slice_get types l) ++ local_claims ls types

-- of the topmost slot, where the code takes it away
abbrev pub stack_claims : List Flavour → List HType → List Assert
stack_claims [] types = []
stack_claims (f ∷ fs) types = claim (λ t. asserts.Stack 0 t) (slice_get types 0)

-- the assertions before a code: of the locals that it reads, and of the topmost slot; none where it isn't reached
abbrev pub claims : Code → Option State → List Assert
claims c None = []
claims c (Some s) = local_claims (reads_locals c) s.locals ++ stack_claims (pops c) s.stack

abbrev pub with_claims : List Position → Table → List Position
with_claims [] T = []
with_claims (p ∷ ps) [] = record p { asserts = [] } ∷ with_claims ps []
with_claims (p ∷ ps) (s ∷ T) = record p { asserts = claims p.code s } ∷ with_claims ps T

abbrev pub annotated_body : Body → Option HType → Table → Body
annotated_body b t T = record b { stated = t; positions = with_claims b.positions T }

abbrev pub or_empty : Option Table → Table
or_empty None = []
or_empty (Some T) = T

-- the bodies, from this number on, with their facts and their least solutions
abbrev pub annotated_bodies : ℕ → List Body → List HType → List Table → List Body
annotated_bodies n [] types Ts = []
annotated_bodies n (b ∷ bs) types Ts =
    annotated_body b (slice_get types n) (or_empty (slice_get Ts n)) ∷ annotated_bodies (suc n) bs types Ts

-- the properties, from this number on, with their facts
abbrev pub annotated_properties : ℕ → List Property → List HType → List Property
annotated_properties q [] types = []
annotated_properties q (p ∷ ps) types = record p { stated = slice_get types q } ∷ annotated_properties (suc q) ps types

-- the classes, whose methods and properties begin at these numbers
abbrev pub annotated_classes : ℕ → ℕ → List Class → Facts → List Table → List Class
annotated_classes n q [] F Ts = []
annotated_classes n q (c ∷ cs) F Ts =
    record c { props = annotated_properties q c.props F.props; methods = annotated_bodies n c.methods F.returns Ts }
    ∷ annotated_classes (n + length c.methods) (q + length c.props) cs F Ts

abbrev pub annotated : Linked → Facts → List Table → Linked
annotated r F Ts = record {
  functions = annotated_bodies 0 r.functions F.returns Ts;
  classes = annotated_classes (length r.functions) 1 r.classes F Ts;
}

-- a is r, without its own assertions and stated types, annotated by the facts after n rounds
pub record IsAnnotated (n : ℕ) (r a : Linked) : Type 0 where
  pub facts : Facts
  pub after : IsFacts (bare r) n facts
  pub tables : List Table
  pub least : AreLeast (bare r) facts tables
  pub is : a ≡ annotated (bare r) facts tables
