-- Flows between positions: what solves them, and the least that does.
use Rattle.std.specs.Prelude.{◌≡◌, ℕ, List, Option, Some, length, slice_get, Contains}

-- a state or none for each position
abbrev pub TableOf : Type 0 → Type 0
TableOf State = List (Option State)

abbrev pub HasStateOf : {State : Type 0} → List (Option State) → ℕ → State → Type 0
HasStateOf T p s = slice_get T p ≡ Some (Some s)

module _ {State : Type 0} (below : State → State → Type 0) where
  -- the table has a state there that is above this one
  abbrev pub HasAboveOf : List (Option State) → ℕ → State → Type 0
  HasAboveOf T p s = (t : State) × HasStateOf T p t × below s t

  -- the table has a state above each of these flows, where it goes
  abbrev pub Covers : List (Option State) → List (ℕ × State) → Type 0
  Covers T flows = (q : ℕ) (t : State) → Contains flows (q, t) → HasAboveOf T q t

  -- to each flow of the first there is one of the second to the same position, above it
  abbrev pub FlowsBelow : List (ℕ × State) → List (ℕ × State) → Type 0
  FlowsBelow v w = (q : ℕ) (s : State) → Contains v (q, s) → (t : State) × Contains w (q, t) × below s t

  -- each state of the first has one above it
  abbrev pub TableBelow : List (Option State) → List (Option State) → Type 0
  TableBelow T U = (p : ℕ) (s : State) → HasStateOf T p s → HasAboveOf U p s

  -- a solution for so many positions, the state that enters and these flows
  pub record IsSolutionOf (positions : ℕ) (entry : State) (flows : ℕ → State → List (ℕ × State)) (T : List (Option State)) : Type 0 where
    pub count : length T ≡ positions
    pub enters : HasAboveOf T 0 entry
    pub closed : (p : ℕ) (s : State) → HasStateOf T p s → Covers T (flows p s)

  -- the solution that is below every solution; a position is reached where it has a state
  pub record IsLeastOf (positions : ℕ) (entry : State) (flows : ℕ → State → List (ℕ × State)) (T : List (Option State)) : Type 0 where
    pub solution : IsSolutionOf positions entry flows T
    pub least : (U : List (Option State)) → IsSolutionOf positions entry flows U → TableBelow T U
