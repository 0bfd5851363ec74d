-- What the tests of assertions do to a run.
use Rattle.std.specs.Prelude.{◌≡◌, ◌⊎◌, ◌<◌, ℕ, true, false, List, None}
use Rattle.hhbc_repo.specs.Bodies.{tree_of}
use Rattle.hhbc_semantics.specs.Setting.{Setting}
use Rattle.hhbc_semantics.specs.Outcome.{Outcome, AssertFalse, Stuck, Underflow}
use Rattle.hhbc_semantics.specs.Frames.{World, Frame}
use Rattle.hhbc_semantics.specs.Steps.{Config, Running, Ended, place_of}
use Rattle.hhbc_semantics.specs.Run.{test, asserts_of, after}

-- an earlier state of the run without tests, whose frame has a false assertion or one that reaches below its stack
pub record IsStopped (S : Setting) (start : Config) (n : ℕ) (end : Config) : Type 0 where
  pub turns : ℕ
  pub earlier : turns < n
  pub frame : Frame
  pub below : List Frame
  pub world : World
  pub at : after S false start turns ≡ Running frame below world
  pub outcome : Outcome
  pub stops : (outcome ≡ AssertFalse (place_of frame))
      ⊎ ((outcome ≡ Stuck Underflow) × (test (tree_of S.repo) world.heap frame (asserts_of S.repo frame) ≡ None))
  pub is : end ≡ Ended outcome world

-- a run whose assertions are tested goes as the one without tests, or has stopped in the world of an earlier state of it
abbrev pub TestsOnlyStop : Type 0
TestsOnlyStop =
    (S : Setting) (start : Config) (n : ℕ)
    → (after S true start n ≡ after S false start n) ⊎ IsStopped S start n (after S true start n)
