-- Shapes and faults as the program keeps and tells them.
use Rattle.std.specs.Prelude.{◌≡◌, ℕ, ◌+◌, ◌*◌, Bool, true, false, List, [], ◌∷◌, Result, Err}
use Rattle.hhbc_repo.specs.Shapes.{Shape}
use Rattle.hhbc_repo.specs.Shapes as shapes
use Rattle.stack_verify.specs.declared.shape.Shape.{Shape as KeptShape}
use Rattle.stack_verify.specs.declared.shape.ShapeKind.{ShapeKind}
use Rattle.stack_verify.specs.declared.shape.ShapeKind.TheVariants as kinds
use Rattle.stack_verify.specs.declared.shape.Stop.{Stop}
use Rattle.stack_verify.specs.declared.shape.Stop.TheVariants.{Fails, NoMemory}

abbrev pub bit_of : Bool → ℕ
bit_of true = 1
bit_of false = 0

-- flags as the bits of a number, the first as the lowest
abbrev pub bits_of : List Bool → ℕ
bits_of [] = 0
bits_of (b ∷ bs) = 2 * bits_of bs + bit_of b

abbrev pub kept : Shape → KeptShape
kept s = record { slots = s.stack; live = bits_of s.live }

abbrev pub kind_of : ShapeKind → shapes.ShapeKind
kind_of kinds.Underflow = shapes.Underflow
kind_of kinds.Flavour = shapes.WrongFlavour
kind_of kinds.DepthMismatch = shapes.DepthMismatch
kind_of kinds.IteratorDead = shapes.IteratorDead
kind_of kinds.IteratorLive = shapes.IteratorLive
kind_of kinds.IteratorMismatch = shapes.IteratorMismatch
kind_of kinds.FallsOff = shapes.FallsOff
kind_of kinds.StackTooDeep = shapes.StackTooDeep
kind_of kinds.TooManyCells = shapes.TooManyCells

-- the walk stops where the check fails that is told, or for want of memory
abbrev pub StopsBy : {V : Type 0} → Result V shapes.ShapeKind → Stop → Type 0
StopsBy w (Fails kind) = w ≡ Err (kind_of kind)
StopsBy w NoMemory = Unit {0}
