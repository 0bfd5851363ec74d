-- Facts and claims that are true in every run.
use Rattle.std.specs.Prelude.{◌≡◌, ◌≤◌, ℕ, Bool, true, false, List, Option, Some, None, slice_get, map, ◌∷◌, flat_map, All}
use Rattle.hack_values.specs.declared.cell.Cell.{Cell}
use Rattle.hack_values.specs.Val.{weight, depth}
use Rattle.hack_values.specs.View.{val_of}
use Rattle.hack_values.specs.Limits.{max_weight, max_depth}
use Rattle.hack_values.specs.Objects.{no_object}
use Rattle.hack_values.specs.declared.heap.Object.{Object}
use Rattle.type_lattice.specs.declared.types.HType.{HType}
use Rattle.type_lattice.specs.Member.{Heap, cell_in}
use Rattle.hhbc_repo.specs.declared.body.Body.{Body}
use Rattle.hhbc_repo.specs.declared.repo.Class.{Class}
use Rattle.hhbc_repo.specs.declared.repo.Property.{Property}
use Rattle.hhbc_repo.specs.Linked.{Linked}
use Rattle.hhbc_repo.specs.Bodies.{bodies, tree_of, properties_of}
use Rattle.hhbc_repo.specs.Bare.{bare}
use Rattle.hhbc_semantics.specs.Form.{IsFirstForm, IsSecondForm}
use Rattle.hhbc_repo.specs.Shapes.{Types}
use Rattle.hhbc_semantics.specs.Setting.{Setting, with_repo, bare_setting}
use Rattle.hhbc_semantics.specs.Outcome.{Why, Stuck}
use Rattle.hhbc_semantics.specs.Frames.{World, Frame, Returns}
use Rattle.hhbc_semantics.specs.Machine.{turn}
use Rattle.hhbc_semantics.specs.Steps.{Config, Running, Ended}
use Rattle.hhbc_semantics.specs.Run.{test, asserts_of, state_after, run}

-- a cell that a run may be given: it holds no object, and is within the limits of weight and depth
pub record IsArgument (c : Cell) : Type 0 where
  pub plain : no_object (val_of c) ≡ true
  pub light : weight (val_of c) ≤ max_weight
  pub flat : depth (val_of c) ≤ max_depth

abbrev pub AreArguments : List Cell → Type 0
AreArguments args = All IsArgument args

-- a type for each body, of what it returns, and one for each property, of what it holds
pub record Facts : Type 0 where
  pub returns : List HType
  pub props : List HType

-- each property of each object is of the type at its number, where one is stated
abbrev pub HoldIn : Linked → List (Option HType) → Heap → Type 0
HoldIn r types heap =
    (n : ℕ) (o : Object) → slice_get heap n ≡ Some o
    → (i : ℕ) (c : Cell) → slice_get o.props i ≡ Some c
    → (q : ℕ) → slice_get (properties_of r o.class) i ≡ Some q
    → (t : HType) → slice_get types q ≡ Some (Some t)
    → cell_in (tree_of r) heap c t ≡ true

-- where the next step returns from its frame, the cell is of the body's type, where one is stated
abbrev pub ReturnsIn : Setting → List (Option HType) → Frame → World → Type 0
ReturnsIn S types f w =
    (c : Cell) (v : World) → turn (bare_setting S) f w ≡ Returns c v
    → (t : HType) → slice_get types f.body ≡ Some (Some t)
    → cell_in (tree_of S.repo) v.heap c t ≡ true

abbrev pub each : List HType → List (Option HType)
each types = map (λ t. Some t) types

-- the facts are true of a state
abbrev pub TrueOf : Setting → Facts → Config → Type 0
TrueOf S F (Running f fs w) = HoldIn S.repo (each F.props) w.heap × ReturnsIn S (each F.returns) f w
TrueOf S F (Ended o w) = HoldIn S.repo (each F.props) w.heap

-- the facts are true in every state of every run
abbrev pub AreTrue : Setting → Facts → Type 0
AreTrue S F = (entry : List ℕ) (args : List Cell) (asserted : Bool) (n : ℕ) → AreArguments args → TrueOf S F (state_after S entry args asserted n)

-- the types that bodies state
abbrev pub stated_returns : Linked → List (Option HType)
stated_returns r = map (λ (b : Body). b.stated) (bodies r)

-- the types that properties state; the message of an exception has none
abbrev pub stated_props : Linked → List (Option HType)
stated_props r = None ∷ flat_map (λ (c : Class). map (λ (p : Property). p.stated) c.props) r.classes

-- the claims are true of a state: the assertions of the topmost frame's position, and the stated types
abbrev pub ClaimsHold : Setting → Config → Type 0
ClaimsHold S (Running f fs w) =
    (test (tree_of S.repo) w.heap f (asserts_of S.repo f) ≡ Some true) × HoldIn S.repo (stated_props S.repo) w.heap
    × ReturnsIn S (stated_returns S.repo) f w
ClaimsHold S (Ended o w) = HoldIn S.repo (stated_props S.repo) w.heap

-- all claims are true in every state of every run
abbrev pub ClaimsAreTrue : Setting → Type 0
ClaimsAreTrue S = (entry : List ℕ) (args : List Cell) (asserted : Bool) (n : ℕ) → AreArguments args → ClaimsHold S (state_after S entry args asserted n)

-- no run meets an underflow, a wrong flavour or a wrong iterator
abbrev pub IsNeverStuck : Setting → Type 0
IsNeverStuck S =
    (entry : List ℕ) (args : List Cell) (n : ℕ) (asserted : Bool) (why : Why)
    → AreArguments args → (run S entry args n asserted).outcome ≡ Stuck why → ⊥

-- the one with its assertions tested runs as the other does without: the same outcome, place, value and output
abbrev pub RunsAs : Setting → Setting → Type 0
RunsAs a r = (entry : List ℕ) (args : List Cell) (n : ℕ) → AreArguments args → run a entry args n true ≡ run r entry args n false

-- an annotated form of the setting's repository that changes no run and says nothing false
pub record IsFaithful (S : Setting) (a : Linked) : Type 0 where
  pub runs : RunsAs (with_repo S a) S
  pub claims : ClaimsAreTrue (with_repo S a)
  pub never : IsNeverStuck S × IsNeverStuck (with_repo S a)

-- no run of a repository of the first form that keeps to its shapes is stuck
abbrev pub FirstFormNeverSticks : Type 0
FirstFormNeverSticks = (S : Setting) → IsFirstForm S.repo → Types S.repo → IsNeverStuck S

-- the same of the second form, whether its assertions are tested or not
abbrev pub SecondFormNeverSticks : Type 0
SecondFormNeverSticks = (S : Setting) → IsSecondForm S.repo → Types S.repo → IsNeverStuck S

-- without its assertions tested a repository runs as it does without them
abbrev pub RunsAsBare : Type 0
RunsAsBare = (S : Setting) (entry : List ℕ) (args : List Cell) (n : ℕ) → run S entry args n false ≡ run (bare_setting S) entry args n false

-- a repository of the second form, without its claims, is of the first form; it keeps to its shapes where the whole one does
abbrev pub BareIsFirstForm : Type 0
BareIsFirstForm = (r : Linked) → IsSecondForm r → IsFirstForm (bare r) × (Types r → Types (bare r))
