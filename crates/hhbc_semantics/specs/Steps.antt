-- What a turn does to the frames: calls, returns and exceptions.
use Rattle.std.specs.Prelude.{ℕ, zero, suc, nat_le, List, [], ◌∷◌, Option, Some, None, option_map, slice_get, length, drop, if◌then◌else◌}
use Rattle.hack_values.specs.declared.cell.Cell.{Cell}
use Rattle.hack_values.specs.declared.cell.Cell.TheVariants as cells
use Rattle.hack_values.specs.declared.cell.Slot.TheVariants as slots
use Rattle.hack_values.specs.declared.heap.Object.{Object}
use Rattle.type_lattice.specs.Member.{Heap}
use Rattle.hhbc_repo.specs.declared.code.Code.{Code}
use Rattle.hhbc_repo.specs.declared.body.Body.{Body}
use Rattle.hhbc_repo.specs.Linked.{Linked}
use Rattle.hhbc_repo.specs.Bodies.{body_at, code_at}
use Rattle.hhbc_repo.specs.Codes.{pops}
use Rattle.hhbc_repo.specs.Edges.{handler_of}
use Rattle.hhbc_semantics.specs.Setting.{Setting}
use Rattle.hhbc_semantics.specs.Outcome.{Place, Outcome, Returned, Uncaught, Fatal, Stuck, Frames}
use Rattle.hhbc_semantics.specs.Frames.{World, Frame, Turn, Goes, Calls, Returns, Raises, Ends, Fails, Sticks, ahead}
use Rattle.hhbc_semantics.specs.Machine.{turn}

-- the topmost frame, the frames below it, the nearest first, and what they share; or how the run ended
pub data Config : Type 0 where
  Running : Frame → List Frame → World → Config
  Ended : Outcome → World → Config

abbrev pub place_of : Frame → Place
place_of f = record { body = f.body; position = f.position }

abbrev pub pop_count : Option Code → ℕ
pop_count None = 0
pop_count (Some c) = length (pops c)

abbrev pub call_pops : Option Body → ℕ → ℕ
call_pops None p = 0
call_pops (Some b) p = pop_count (code_at b p)

-- the calling frame behind its call, with what the call gave
abbrev pub after_call : Linked → Frame → Cell → Frame
after_call r f c = ahead f (slots.Cell c ∷ drop (call_pops (body_at r f.body) f.position) f.stack)

abbrev pub handler_in : Option Body → ℕ → Option ℕ
handler_in None p = None
handler_in (Some b) p = handler_of b p

-- the frame at its handler, where it has one, with the exception alone on the stack
abbrev pub caught : Linked → Frame → Cell → Option Frame
caught r f e = option_map (λ q. record f { position = q; stack = slots.Cell e ∷ [] }) (handler_in (body_at r f.body) f.position)

abbrev pub text_of : Option Cell → List ℕ
text_of (Some (cells.Str s)) = s
text_of _ = []

-- an exception that no frame catches ends the run with its class and its message, if that is a string
abbrev pub uncaught : Option Object → Place → Outcome
uncaught None p = Uncaught 0 [] p
uncaught (Some o) p = Uncaught o.class (text_of (slice_get o.props 0)) p

abbrev pub uncaught_cell : Heap → Cell → Place → Outcome
uncaught_cell heap (cells.Obj n) p = uncaught (slice_get heap n) p
uncaught_cell heap _ p = Uncaught 0 [] p

abbrev pub resume : Option Frame → List Frame → World → Config → Config
resume None fs w other = other
resume (Some f) fs w other = Running f fs w

-- an exception goes to the nearest frame that has a handler for its position
abbrev pub unwind : Linked → Place → List Frame → Cell → World → Config
unwind r p [] e w = Ended (uncaught_cell w.heap e p) w
unwind r p (f ∷ fs) e w = resume (caught r f e) fs w (unwind r p fs e w)

abbrev pub give : Linked → List Frame → Cell → World → Config
give r [] c w = Ended (Returned c) w
give r (f ∷ fs) c w = Running (after_call r f c) fs w

abbrev pub frame_limit : ℕ
frame_limit = 10000

-- a frame on top of these, unless there would be too many
abbrev pub enter : Frame → Frame → List Frame → World → Config
enter g f fs w = if nat_le frame_limit (suc (length fs)) then Ended (Fatal Frames (place_of f)) w else Running g (f ∷ fs) w

-- what a turn of the topmost frame makes of a run
abbrev pub finish : Linked → Frame → List Frame → Turn → Config
finish r f fs (Goes g w) = Running g fs w
finish r f fs (Calls g w) = enter g f fs w
finish r f fs (Returns c w) = give r fs c w
finish r f fs (Raises e w) = unwind r (place_of f) (f ∷ fs) e w
finish r f fs (Ends (Fails name) w) = Ended (Fatal name (place_of f)) w
finish r f fs (Ends (Sticks why) w) = Ended (Stuck why) w

-- one step of frames that take these turns
abbrev pub next_by : (Frame → World → Turn) → Linked → Config → Config
next_by turns r (Running f fs w) = finish r f fs (turns f w)
next_by turns r (Ended o w) = Ended o w

-- so many steps
abbrev pub steps_by : (Frame → World → Turn) → Linked → Config → ℕ → Config
steps_by turns r c zero = c
steps_by turns r c (suc n) = next_by turns r (steps_by turns r c n)

-- one step
abbrev pub next : Setting → Config → Config
next S c = next_by (turn S) S.repo c
