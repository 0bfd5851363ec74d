-- What a walk over the positions of a body knows of their shapes.
use Rattle.std.specs.Prelude.{◌≡◌, ◌⊎◌, ◌==◌, ◌<◌, ◌≤◌, ℕ, Bool, true, false, nat_le, nat_lt, List, [], ◌∷◌, ◌++◌, map, length, slice_get, slice_set, Option, Some, None, Result, Ok, Err}
use Rattle.hhbc_repo.specs.declared.body.Body.{Body}
use Rattle.hhbc_repo.specs.Bodies.{code_at}
use Rattle.hhbc_repo.specs.Edges.{Edge, target, edges}
use Rattle.hhbc_repo.specs.Shapes.{Shape, ShapeKind, Check, FallsOff, StackTooDeep, DepthMismatch, WrongFlavour, IteratorMismatch, given, given_by, shapes, unled, deepest, agree, same_live, first_fault, FailsAt, fault_at, stack_checks, iter_checks, iter_use_of, all_edge_checks}
use Rattle.stack_verify.specs.declared.shape.Shape.{Shape as KeptShape}
use Rattle.stack_verify.specs.declared.shape.Stop.{Stop}
use Rattle.stack_verify.specs.declared.shape.Stop.TheVariants.{Fails, NoMemory}
use Rattle.stack_verify.specs.declared.walk.Walk.{Walk}
use Rattle.stack_verify.specs.declared.walk.BodyStop.{BodyStop}
use Rattle.stack_verify.specs.declared.walk.BodyStop.TheVariants as stops
use Rattle.stack_verify.specs.Kept.{kept, kind_of}

-- of each position its shape, once an edge has led to it
abbrev pub Table : Type 0
Table = List (Option Shape)

abbrev pub known : Option (Option Shape) → Option Shape
known None = None
known (Some o) = o

-- where two shapes that come to one position may differ
abbrev pub mismatches : Shape → Shape → List Check
mismatches s t =
    (DepthMismatch, length s.stack == length t.stack)
    ∷ (WrongFlavour, agree s.stack t.stack)
    ∷ (IteratorMismatch, same_live s.live t.live)
    ∷ []

-- the value, where no check fails
abbrev pub unless : {V : Type 0} → Option ShapeKind → V → Result V ShapeKind
unless None v = Ok v
unless (Some kind) v = Err kind

abbrev pub and_then : {V W : Type 0} → Result V ShapeKind → (V → Result W ShapeKind) → Result W ShapeKind
and_then (Ok v) f = f v
and_then (Err kind) f = Err kind

-- the table once a shape has come to a position, which there may be and which may have a shape
abbrev pub meets : Table → Shape → ℕ → Option Shape → Bool → Bool → Result Table ShapeKind
meets T s q o false fits = Err FallsOff
meets T s q o true false = Err StackTooDeep
meets T s q None true true = Ok (slice_set T q (Some s))
meets T s q (Some t) true true = unless (first_fault (mismatches s t)) T

abbrev pub led : Table → Shape → ℕ → Result Table ShapeKind
led T s q = meets T s q (known (slice_get T q)) (nat_lt q (length T)) (nat_le (length s.stack) 255)

-- the same, once what is handed on along each of these edges has come to its target
abbrev pub led_all : (Edge → Shape) → List Edge → Table → Result Table ShapeKind
led_all f [] T = Ok T
led_all f (e ∷ es) T = and_then (led T (f e) (target e)) (led_all f es)

-- the shape of a position that is visited now, and the table that knows it
abbrev pub settled : Body → ℕ → Option Shape → Shape
settled b p None = unled b p
settled b p (Some s) = s

abbrev pub settles : Body → ℕ → Option Shape → Table → Table
settles b p None T = slice_set T p (Some (unled b p))
settles b p (Some s) T = T

-- a position to which none of the first n leads
pub record IsUnled (b : Body) (n q : ℕ) : Type 0 where
  pub later : n ≤ q
  pub behind_first : 0 < q
  pub unled : given_by b 0 (shapes b n) q ≡ None

-- the table knows the shapes of the first n positions, and those that they have given to others
pub record Ready (b : Body) (n : ℕ) (T : Table) : Type 0 where
  pub count : length T ≡ length b.positions
  pub row : (q : ℕ) → q < length b.positions → (slice_get T q ≡ Some (Some (given b q))) ⊎ ((slice_get T q ≡ Some None) × IsUnled b n q)

-- the checks of a position without that of the last one
abbrev pub own_checks : Body → ℕ → List Check
own_checks b p =
    stack_checks b p (given b p) ++ (iter_checks (iter_use_of (code_at b p)) (given b p).live ++ all_edge_checks b p (given b p) (edges b p))

abbrev pub own_fault : Body → ℕ → Option ShapeKind
own_fault b p = first_fault (own_checks b p)

-- a walk stops where the check fails that is told, or for want of memory
abbrev pub StopsAs : Option ShapeKind → Stop → Type 0
StopsAs o (Fails kind) = o ≡ Some (kind_of kind)
StopsAs o NoMemory = Unit {0}

-- a walk has passed the first n positions
pub record Walks (b : Body) (n : ℕ) (w : Walk) : Type 0 where
  pub ready : Ready b n w.table.items
  pub kept_shapes : w.shapes ≡ map kept (shapes b n)
  pub depth : w.deepest ≡ deepest (shapes b n)
  pub pass : (q : ℕ) → q < n → own_fault b q ≡ None

-- all shapes of a body, as they are kept
abbrev pub kept_of : Body → List KeptShape
kept_of b = map kept (shapes b (length b.positions))

-- the body has positions, and no check fails at any
pub record BodyTypes (b : Body) : Type 0 where
  pub has_positions : b.positions ≡ [] → ⊥
  pub passes : (p : ℕ) → p < length b.positions → fault_at b p ≡ None

-- the first fault of the body is told, or there was no memory
abbrev pub StopsBody : Body → BodyStop → Type 0
StopsBody b (stops.Fails p kind) = FailsAt b p (kind_of kind) × ((q : ℕ) → q < p → fault_at b q ≡ None)
StopsBody b stops.NoMemory = Unit {0}

-- where a walk over a body stops that stops at this position
abbrev pub stopped : ℕ → Stop → BodyStop
stopped p (Fails kind) = stops.Fails p kind
stopped p NoMemory = stops.NoMemory
