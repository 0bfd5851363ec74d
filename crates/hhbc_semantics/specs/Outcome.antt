-- How runs end.
use Rattle.std.specs.Prelude.{ℕ, List}
use Rattle.hack_values.specs.declared.cell.Cell.{Cell}

-- a position of a body, by their numbers
pub record Place : Type 0 where
  pub body : ℕ
  pub position : ℕ

-- what a program may not do: too many frames, too great or too deep a value, too much output, a function that isn't there, or what it asked for
pub data FatalName : Type 0 where
  Frames : FatalName
  Size : FatalName
  Depth : FatalName
  Output : FatalName
  Undefined : FatalName
  User : FatalName

-- what no run of a repository that keeps to its shapes does: reach below the stack, find another flavour, begin a live or move a dead iterator
pub data Why : Type 0 where
  Underflow : Why
  WrongFlavour : Why
  WrongIterator : Why

pub data Outcome : Type 0 where
  Returned : Cell → Outcome
  Uncaught : (class : ℕ) → (message : List ℕ) → Place → Outcome
  Fatal : FatalName → Place → Outcome
  AssertFalse : Place → Outcome
  Steps : Outcome
  Stuck : Why → Outcome
  UnknownEntry : Outcome
  WrongCount : Outcome
