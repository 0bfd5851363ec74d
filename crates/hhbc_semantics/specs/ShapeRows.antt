-- What each code owes to shapes: a frame that has the slots and iterators that its code asks for is left by the turn in a shape
-- that an edge of the code hands on, and the turn isn't stuck.
use Rattle.std.specs.Prelude.{◌≡◌, ◌⊎◌, ℕ, suc, Bool, true, nat_le, List, [], ◌∷◌, Some, None, length, replicate, slice_get}
use Rattle.hhbc_repo.specs.declared.code.Code.{Code}
use Rattle.hhbc_repo.specs.declared.body.Body.{Body}
use Rattle.hhbc_repo.specs.Linked.{Linked}
use Rattle.hhbc_repo.specs.Bodies.{body_at}
use Rattle.hhbc_repo.specs.Codes.{Flavour, C, pops, pushes, slots_read, iter_use, throws, goes_on, labels}
use Rattle.hhbc_repo.specs.Shapes.{Shape, AllPass, agree, all_within, all_cells, iter_checks, stack_left, live_next, live_to}
use Rattle.hhbc_repo.specs.Within.{bounds_of, code_within}
use Rattle.hhbc_semantics.specs.Frames.{World, Frame, Turn, Goes, Calls, Returns, Raises, Ends, Fails, Sticks}
use Rattle.hhbc_semantics.specs.Growth.{WorldGrows}
use Rattle.hhbc_semantics.specs.Soundness.{CallsBody}
use Rattle.hhbc_semantics.specs.ShapeAnalysis.{AreOfFlavours, AreLive}

-- the frame is of the shape, its code has its operands, and the shape has what the code takes away, reads and moves on
pub record IsReady (classes : ℕ) (b : Body) (c : Code) (s : Shape) (f : Frame) : Type 0 where
  pub within : code_within (bounds_of classes b) c ≡ true
  pub locals : length f.locals ≡ length b.locals
  pub stack : AreOfFlavours f.stack s.stack
  pub live : AreLive f.iters s.live
  pub count : length f.iters ≡ b.iters
  pub enough : nat_le (length (pops c)) (length s.stack) ≡ true
  pub agrees : agree (pops c) s.stack ≡ true
  pub places : all_within (slots_read c) (length s.stack) ≡ true
  pub are_cells : all_cells (slots_read c) s.stack ≡ true
  pub iters : AllPass (iter_checks (iter_use c) s.live)

-- the second frame is the first at its next position, or at a label of its code, with this stack and the iterators that the edge leaves
pub record IsNext (c : Code) (live : List Bool) (f g : Frame) : Type 0 where
  pub on : goes_on c ≡ true
  pub position : g.position ≡ suc f.position
  pub iters : AreLive g.iters (live_next (iter_use c) live)

pub record IsAtLabel (c : Code) (live : List Bool) (g : Frame) : Type 0 where
  pub place : ℕ
  pub labelled : slice_get (labels c) place ≡ Some g.position
  pub iters : AreLive g.iters (live_to (iter_use c) live)

pub record Follows (c : Code) (live : List Bool) (left : List Flavour) (f g : Frame) : Type 0 where
  pub body : g.body ≡ f.body
  pub locals : length g.locals ≡ length f.locals
  pub stack : AreOfFlavours g.stack left
  pub leads : IsNext c live f g ⊎ IsAtLabel c live g

-- a frame at the start of a body, with its locals, an empty stack and no live iterator
pub record IsEntered (r : Linked) (g : Frame) : Type 0 where
  pub body : Body
  pub at : body_at r g.body ≡ Some body
  pub position : g.position ≡ 0
  pub locals : length g.locals ≡ length body.locals
  pub stack : g.stack ≡ []
  pub iters : g.iters ≡ replicate body.iters None

-- a call goes on behind itself with one cell, and calls the same body again in each world that grew from this one
pub record CallFits (r : Linked) (c : Code) (act : World → Turn) (w : World) (g : Frame) : Type 0 where
  pub enters : IsEntered r g
  pub may : throws c ≡ true
  pub on : goes_on c ≡ true
  pub gives : pushes c ≡ C ∷ []
  pub idle : iter_use c ≡ None
  pub again : (u : World) → WorldGrows w u → CallsBody g.body (act u)

abbrev pub Does : Linked → Code → List Bool → List Flavour → Frame → (World → Turn) → World → Turn → Type 0
Does r c live left f act w (Goes g v) = Follows c live left f g × WorldGrows w v
Does r c live left f act w (Calls g v) = CallFits r c act w g × WorldGrows w v
Does r c live left f act w (Returns x v) = WorldGrows w v
Does r c live left f act w (Raises e v) = (throws c ≡ true) × WorldGrows w v
Does r c live left f act w (Ends (Fails name) v) = WorldGrows w v
Does r c live left f act w (Ends (Sticks why) v) = ⊥

-- in every world the turns of a frame fit the code and what it leaves on the stack
pub record Fits (r : Linked) (c : Code) (live : List Bool) (left : List Flavour) (f : Frame) (act : World → Turn) : Type 0 where
  pub does : (w : World) → Does r c live left f act w (act w)

-- what a code owes
abbrev pub KeepsShape : Linked → ℕ → Code → (Body → Frame → World → Turn) → Type 0
KeepsShape r classes c act =
    (b : Body) (f : Frame) (s : Shape) → IsReady classes b c s f → Fits r c s.live (stack_left c s.stack) f (act b f)
