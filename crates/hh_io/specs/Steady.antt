-- A sink over memory that takes all that it is given, and tells it while it fits its room.
use Rattle.std.specs.Prelude.{ℕ, ◌+◌, ◌-◌, ◌^◌, nat_le, List, ◌++◌, length, min, Option, Some, None, if◌then◌else◌}

-- the bytes kept, how many were taken in all, and the room
pub record Steady : Type 0 where
  pub kept : List ℕ
  pub total : ℕ
  pub room : ℕ

-- the bytes taken, while they are at most the room
abbrev pub told_bytes : Steady → Option (List ℕ)
told_bytes k = if nat_le k.total k.room then Some k.kept else None

-- after a call that took this piece: past the room no more is kept
abbrev pub steady_after : Steady → List ℕ → Steady
steady_after k piece =
    let total = min (k.total + length piece) (2 ^ 64 - 1) in
    record {
      kept = if nat_le total k.room then k.kept ++ piece else k.kept;
      total = total;
      room = k.room;
    }
