-- What a worklist does with its table and its list.
use Rattle.std.specs.Prelude.{◌≡◌, ◌⊎◌, ℕ, ◌+◌, ◌-◌, ◌*◌, ◌≤◌, List, [], ◌∷◌, Option, Some, None, length, slice_get, Contains}
use Rattle.func_analyze.specs.Problem.{HasStateOf, Covers, TableBelow}

-- how far a state may still rise
abbrev pub room_of : {State : Type 0} → (State → ℕ) → ℕ → Option State → ℕ
room_of rank top None = top + 1
room_of rank top (Some s) = top - rank s

-- how far the states of the table may still rise
abbrev pub room : {State : Type 0} → (State → ℕ) → ℕ → List (Option State) → ℕ
room rank top [] = 0
room rank top (o ∷ os) = room_of rank top o + room rank top os

-- each state may stand where it stands
abbrev pub AllFit : {State : Type 0} → (ℕ → State → Type 0) → List (Option State) → Type 0
AllFit fits T = (p : ℕ) (s : _) → HasStateOf T p s → fits p s

-- each flow may stand where it goes
abbrev pub FlowsFit : {State : Type 0} → (ℕ → State → Type 0) → List (ℕ × State) → Type 0
FlowsFit fits flows = (q : ℕ) (t : _) → Contains flows (q, t) → fits q t

module _ {State : Type 0} (below : State → State → Type 0) where
  -- the state is below the one that stands there
  abbrev pub Stays : Option (Option State) → State → Type 0
  Stays o s = (t : State) × (o ≡ Some (Some t)) × below s t

  -- n is above the state, strictly above the one that stands there, and below whatever is above both
  pub record Lifts (o : Option (Option State)) (s n : State) : Type 0 where
    pub above : below s n
    pub old : (t : State) → o ≡ Some (Some t) → below t n × (below n t → ⊥)
    pub least : (u : State) → below s u → ((t : State) → o ≡ Some (Some t) → below t u) → below n u

  -- by these flows the table T with the list V becomes the table U with the list W
  pub record Puts (fits : ℕ → State → Type 0) (rank : State → ℕ) (top : ℕ) (T : List (Option State)) (V : List ℕ)
      (flows : List (ℕ × State)) (U : List (Option State)) (W : List ℕ) : Type 0 where
    pub count : length U ≡ length T
    pub fit : AllFit fits U
    pub rises : TableBelow below T U
    pub covers : Covers below U flows
    pub changed : (p : ℕ) → (slice_get U p ≡ slice_get T p) ⊎ Contains W p
    pub listed : (p : ℕ) → Contains V p → Contains W p
    pub least : (X : List (Option State)) → Covers below X flows → TableBelow below T X → TableBelow below U X
    pub measure : 2 * room rank top U + length W ≤ 2 * room rank top T + length V
