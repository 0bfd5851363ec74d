-- The limits of the values that codes make, and of output.
use Rattle.std.specs.Prelude.{ℕ, nat_lt, if◌then◌else◌}
use Rattle.hack_values.specs.declared.cell.Cell.{Cell}
use Rattle.hack_values.specs.Val.{weight, depth}
use Rattle.hack_values.specs.View.{val_of}
use Rattle.hack_values.specs.Limits.{max_weight, max_depth}
use Rattle.hhbc_semantics.specs.Outcome.{Size, Depth}
use Rattle.hhbc_semantics.specs.Frames.{World, Turn, Ends, Fails}

-- the most bytes that a run may write
abbrev pub max_output : ℕ
max_output = 16777216

-- a value that keeps the limits: that of weight first, then that of depth
abbrev pub within_limits : Cell → World → Turn → Turn
within_limits c w turn =
    if nat_lt max_weight (weight (val_of c)) then Ends (Fails Size) w
    else if nat_lt max_depth (depth (val_of c)) then Ends (Fails Depth) w
    else turn
