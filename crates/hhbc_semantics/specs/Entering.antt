-- Functions by name, and frames that enter a body.
use Rattle.std.specs.Prelude.{ℕ, suc, ◌-◌, nat_eq, List, [], ◌∷◌, ◌++◌, map, Option, Some, None, length, replicate, if◌then◌else◌}
use Rattle.std.specs.Cmp.Lexicographic.{pointwise}
use Rattle.hack_values.specs.declared.cell.Cell.{Cell}
use Rattle.hack_values.specs.declared.cell.Slot.TheVariants as slots
use Rattle.hhbc_repo.specs.declared.body.Body.{Body}
use Rattle.hhbc_semantics.specs.Frames.{Frame}

-- the first function of the name, from this number on
abbrev pub function_from : ℕ → List Body → List ℕ → Option (ℕ × Body)
function_from n [] name = None
function_from n (b ∷ bs) name = if pointwise nat_eq b.name name then Some (n, b) else function_from (suc n) bs name

-- a frame that enters a body: parameters set, other locals Uninit, no iterator live
abbrev pub entered : ℕ → Body → List Cell → Frame
entered n b args = record {
  body = n;
  position = 0;
  locals = map (λ c. slots.Cell c) args ++ replicate (length b.locals - b.params) slots.Uninit;
  stack = [];
  iters = replicate b.iters None;
  this = None;
}

-- the same, called on an object
abbrev pub entered_on : ℕ → ℕ → Body → List Cell → Frame
entered_on object n b args = record (entered n b args) { this = Some object }
