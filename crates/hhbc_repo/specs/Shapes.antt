-- What the stack looks like at each position, and which repositories keep to it.
use Rattle.std.specs.Prelude.{◌≡◌, ◌≢◌, ◌⊎◌, ◌<◌, ◌*◌, ◌+◌, ℕ, zero, suc, max, Bool, true, false, ◌&&◌, not, nat_le, nat_lt, ◌==◌, List, [], ◌∷◌, ◌++◌, length, drop, replicate, slice_get, slice_set, Option, Some, None, if◌then◌else◌}
use Rattle.hhbc_repo.specs.declared.code.Code.{Code}
use Rattle.hhbc_repo.specs.declared.body.Assert.{Assert}
use Rattle.hhbc_repo.specs.declared.body.Assert.TheVariants as asserts
use Rattle.hhbc_repo.specs.declared.body.Body.{Body}
use Rattle.hhbc_repo.specs.declared.body.Region.{Region}
use Rattle.hhbc_repo.specs.Linked.{Linked}
use Rattle.hhbc_repo.specs.Bodies.{body_at, code_at, asserts_at}
use Rattle.hhbc_repo.specs.Codes.{Flavour, C, U, IterUse, Begin, Advance, Free, pops, pushes, slots_read, iter_use}
use Rattle.hhbc_repo.specs.Edges.{Edge, Next, To, Handler, target, edges}

-- the flavours of the stack, the topmost first, and of each iterator whether it is live
pub record Shape : Type 0 where
  pub stack : List Flavour
  pub live : List Bool

abbrev pub empty_shape : Body → Shape
empty_shape b = record { stack = []; live = replicate b.iters false }

abbrev pub caught_shape : Shape → Shape
caught_shape s = record s { stack = C ∷ [] }

-- the live iterators behind a code: one that begins is live at the next position and not at the label, where it had no
-- element; one that takes its next element is live at the label and not at the next position, where it had none
abbrev pub live_next : Option IterUse → List Bool → List Bool
live_next None live = live
live_next (Some (Begin i)) live = slice_set live i true
live_next (Some (Advance i)) live = slice_set live i false
live_next (Some (Free i)) live = slice_set live i false

abbrev pub live_to : Option IterUse → List Bool → List Bool
live_to None live = live
live_to (Some (Begin i)) live = slice_set live i false
live_to (Some (Advance i)) live = slice_set live i true
live_to (Some (Free i)) live = slice_set live i false

-- the stack that a code leaves
abbrev pub stack_left : Code → List Flavour → List Flavour
stack_left c stack = pushes c ++ drop (length (pops c)) stack

-- the shape behind a code, at the next position and at a label
abbrev pub behind : Code → Shape → Shape
behind c s = record { stack = stack_left c s.stack; live = live_next (iter_use c) s.live }

abbrev pub at_label : Code → Shape → Shape
at_label c s = record { stack = stack_left c s.stack; live = live_to (iter_use c) s.live }

abbrev pub hands_on : Option Code → Shape → Edge → Shape
hands_on None s e = s
hands_on (Some c) s (Next q) = behind c s
hands_on (Some c) s (To q) = at_label c s
hands_on (Some c) s (Handler q) = caught_shape s

-- what a position with this shape hands on along an edge
abbrev pub after : Body → ℕ → Shape → Edge → Shape
after b p s e = hands_on (code_at b p) s e

-- the first edge to the position
abbrev pub edge_to : ℕ → List Edge → Option Edge
edge_to q [] = None
edge_to q (e ∷ es) = if target e == q then Some e else edge_to q es

abbrev pub handed : Body → ℕ → Shape → Option Edge → Option Shape → Option Shape
handed b p s None other = other
handed b p s (Some e) other = Some (after b p s e)

-- what the first of the positions from p on that has an edge to q hands to it, from their shapes
abbrev pub given_by : Body → ℕ → List Shape → ℕ → Option Shape
given_by b p [] q = None
given_by b p (s ∷ ss) q = handed b p s (edge_to q (edges b p)) (given_by b (suc p) ss q)

abbrev pub is_catch : List Region → ℕ → Bool
is_catch [] q = false
is_catch (g ∷ gs) q = if g.mid == q then true else is_catch gs q

-- a position that no earlier one leads to
abbrev pub unled : Body → ℕ → Shape
unled b q = if is_catch b.regions q then caught_shape (empty_shape b) else empty_shape b

abbrev pub or_unled : Body → ℕ → Option Shape → Shape
or_unled b q None = unled b q
or_unled b q (Some s) = s

-- the layout rule: position 0 has the empty shape, a later one what the least earlier position that leads to it hands to it
abbrev pub given_after : Body → ℕ → List Shape → Shape
given_after b zero earlier = empty_shape b
given_after b (suc q) earlier = or_unled b (suc q) (given_by b 0 earlier (suc q))

-- the shapes of the first n positions
abbrev pub shapes : Body → ℕ → List Shape
shapes b zero = []
shapes b (suc n) = shapes b n ++ given_after b n (shapes b n) ∷ []

-- the shape that a position has
abbrev pub given : Body → ℕ → Shape
given b q = given_after b q (shapes b q)

pub data ShapeKind : Type 0 where
  Underflow : ShapeKind
  WrongFlavour : ShapeKind
  DepthMismatch : ShapeKind
  IteratorDead : ShapeKind
  IteratorLive : ShapeKind
  IteratorMismatch : ShapeKind
  FallsOff : ShapeKind
  StackTooDeep : ShapeKind
  TooManyCells : ShapeKind

-- a check by what it finds and whether it passes
abbrev pub Check : Type 0
Check = ShapeKind × Bool

-- checks that all pass
abbrev pub AllPass : List Check → Type 0
AllPass [] = Unit {0}
AllPass (c ∷ cs) = (c.1 ≡ true) × AllPass cs

abbrev pub same_flavour : Flavour → Flavour → Bool
same_flavour C C = true
same_flavour C U = false
same_flavour U C = false
same_flavour U U = true

-- the flavours agree as far as both lists go
abbrev pub agree : List Flavour → List Flavour → Bool
agree [] ys = true
agree (x ∷ xs) [] = true
agree (x ∷ xs) (y ∷ ys) = same_flavour x y && agree xs ys

abbrev pub same_flag : Bool → Bool → Bool
same_flag true b = b
same_flag false b = not b

abbrev pub same_live : List Bool → List Bool → Bool
same_live [] [] = true
same_live [] (b ∷ bs) = false
same_live (a ∷ xs) [] = false
same_live (a ∷ xs) (b ∷ bs) = same_flag a b && same_live xs bs

-- the slots that an assertion needs
abbrev pub assert_reach : Assert → ℕ
assert_reach (asserts.Local l t) = 0
assert_reach (asserts.Stack i t) = suc i

abbrev pub reaches : List Assert → ℕ → Bool
reaches [] depth = true
reaches (a ∷ more) depth = nat_le (assert_reach a) depth && reaches more depth

abbrev pub pops_of : Option Code → List Flavour
pops_of None = []
pops_of (Some c) = pops c

abbrev pub slots_read_of : Option Code → List ℕ
slots_read_of None = []
slots_read_of (Some c) = slots_read c

abbrev pub iter_use_of : Option Code → Option IterUse
iter_use_of None = None
iter_use_of (Some c) = iter_use c

-- the places are on a stack of so many slots
abbrev pub all_within : List ℕ → ℕ → Bool
all_within [] depth = true
all_within (i ∷ is) depth = nat_lt i depth && all_within is depth

abbrev pub is_cell : Option Flavour → Bool
is_cell None = true
is_cell (Some C) = true
is_cell (Some U) = false

-- those of the places that are on the stack are cells
abbrev pub all_cells : List ℕ → List Flavour → Bool
all_cells [] stack = true
all_cells (i ∷ is) stack = is_cell (slice_get stack i) && all_cells is stack

abbrev pub stack_checks : Body → ℕ → Shape → List Check
stack_checks b p s = (
  Underflow,
  reaches (asserts_at b p) (length s.stack)
      && (nat_le (length (pops_of (code_at b p))) (length s.stack) && all_within (slots_read_of (code_at b p)) (length s.stack)),
)
    ∷ (WrongFlavour, agree (pops_of (code_at b p)) s.stack && all_cells (slots_read_of (code_at b p)) s.stack)
    ∷ []

abbrev pub is_live : Option Bool → Bool
is_live None = false
is_live (Some b) = b

-- one that begins is not to be live, and one that is moved or ended is
abbrev pub iter_checks : Option IterUse → List Bool → List Check
iter_checks None live = []
iter_checks (Some (Begin i)) live = (IteratorLive, not (is_live (slice_get live i))) ∷ []
iter_checks (Some (Advance i)) live = (IteratorDead, is_live (slice_get live i)) ∷ []
iter_checks (Some (Free i)) live = (IteratorDead, is_live (slice_get live i)) ∷ []

-- an edge, what is handed on along it, and the shape of its target; the edge that gives the target its shape agrees with it
abbrev pub edge_checks : Body → Shape → ℕ → List Check
edge_checks b s q =
    (FallsOff, nat_lt q (length b.positions))
    ∷ (StackTooDeep, nat_le (length s.stack) 255)
    ∷ (DepthMismatch, length s.stack == length (given b q).stack)
    ∷ (WrongFlavour, agree s.stack (given b q).stack)
    ∷ (IteratorMismatch, same_live s.live (given b q).live)
    ∷ []

abbrev pub all_edge_checks : Body → ℕ → Shape → List Edge → List Check
all_edge_checks b p s [] = []
all_edge_checks b p s (e ∷ es) = edge_checks b (after b p s e) (target e) ++ all_edge_checks b p s es

-- the depth of the deepest of these
abbrev pub deepest : List Shape → ℕ
deepest [] = 0
deepest (s ∷ ss) = max (length s.stack) (deepest ss)

abbrev pub cells : Body → ℕ
cells b = length b.positions * (length b.locals + deepest (shapes b (length b.positions)) + b.iters)

abbrev pub last_checks : Body → ℕ → List Check
last_checks b p = if suc p == length b.positions then (TooManyCells, nat_le (cells b) 1000000) ∷ [] else []

-- the checks of a position with this shape, in order
abbrev pub position_checks : Body → ℕ → Shape → List Check
position_checks b p s =
    stack_checks b p s ++ (iter_checks (iter_use_of (code_at b p)) s.live ++ (all_edge_checks b p s (edges b p) ++ last_checks b p))

abbrev pub checks : Body → ℕ → List Check
checks b p = position_checks b p (given b p)

-- the first check that fails
abbrev pub first_fault : List Check → Option ShapeKind
first_fault [] = None
first_fault (c ∷ cs) = if c.1 then first_fault cs else Some c.0

abbrev pub fault_at : Body → ℕ → Option ShapeKind
fault_at b p = first_fault (checks b p)

-- each body has a position, and no check fails at any
pub record Types (r : Linked) : Type 0 where
  pub has_positions : (n : ℕ) (b : Body) → body_at r n ≡ Some b → b.positions ≢ []
  pub passes : (n : ℕ) (b : Body) → body_at r n ≡ Some b → (p : ℕ) → p < length b.positions → fault_at b p ≡ None

-- the check that fails at a position; a body without positions falls off at its first one
abbrev pub FailsAt : Body → ℕ → ShapeKind → Type 0
FailsAt b p kind = ((b.positions ≡ []) × (p ≡ 0) × (kind ≡ FallsOff)) ⊎ ((p < length b.positions) × (fault_at b p ≡ Some kind))

-- the first fault: the first body, in it the first position, and there the first check that fails
pub record IsFirstFault (r : Linked) (n p : ℕ) (kind : ShapeKind) : Type 0 where
  pub body : Body
  pub at : body_at r n ≡ Some body
  pub fails : FailsAt body p kind
  pub earlier_positions : (q : ℕ) → q < p → fault_at body q ≡ None
  pub earlier_bodies : (m : ℕ) (b : Body) → m < n → body_at r m ≡ Some b → (q : ℕ) (other : ShapeKind) → FailsAt b q other → ⊥
