-- What is known of the runs of a repository that keeps to its shapes, whatever natives it may call.
use Rattle.std.specs.Prelude.{ℕ, Bool, List}
use Rattle.hack_values.specs.declared.cell.Cell.{Cell}
use Rattle.hhbc_repo.specs.Linked.{Linked}
use Rattle.hhbc_repo.specs.Bare.{bare}
use Rattle.hhbc_semantics.specs.Setting.{NativeRow, Setting}
use Rattle.hhbc_semantics.specs.Run.{state_after}
use Rattle.hhbc_semantics.specs.Truth.{IsNeverStuck}
use Rattle.hhbc_semantics.specs.GivenShapes.{FramesAreGiven}

abbrev pub with_natives : List NativeRow → Linked → Setting
with_natives natives r = record { natives = natives; repo = r }

-- no run meets an underflow, a wrong flavour or a wrong iterator, whether its assertions are tested or not
abbrev pub NeverStuck : Linked → Type 0
NeverStuck r = (natives : List NativeRow) → IsNeverStuck (with_natives natives r)

-- in every state of every run each frame has the shape of its position, those that wait for a call too
abbrev pub KeepsShapes : Linked → Type 0
KeepsShapes r =
    (natives : List NativeRow) (entry : List ℕ) (args : List Cell) (asserted : Bool) (n : ℕ)
    → FramesAreGiven (bare r) (state_after (with_natives natives r) entry args asserted n)
