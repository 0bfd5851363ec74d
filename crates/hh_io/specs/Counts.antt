-- Counts of calls and of faults: they never fall, and stand still at the last number of 64 bits.
use Rattle.std.specs.Prelude.{◌≡◌, ℕ, ◌+◌, ◌-◌, ◌^◌, ◌≤◌, min, Result, OnOk, OnErr}

-- the last number that a count can have
abbrev pub last_count : ℕ
last_count = 2 ^ 64 - 1

-- a count after one more
abbrev pub count_after : ℕ → ℕ
count_after n = min (n + 1) last_count

-- the count rose, or stands at its last number
abbrev pub Rose : ℕ → ℕ → Type 0
Rose before now = count_after before ≤ now

-- a call failed only where the count of faults rose, and else left it
pub record HasCause {T E : Type 0} (before now : ℕ) (result : Result T E) : Type 0 where
  pub later : before ≤ now
  pub kept : OnOk result (now ≡ before)
  pub failed : OnErr result (Rose before now)

-- a call raised the count by one at most
pub record RisesByOne (before now : ℕ) : Type 0 where
  pub later : before ≤ now
  pub once : now ≤ before + 1

-- a call that was certain not to fail did not, and at most one call fewer is certain now
pub record UsesCertainty {T E : Type 0} (before now : ℕ) (result : Result T E) : Type 0 where
  pub fewer : before ≤ now + 1
  pub held : OnErr result (before ≡ 0)
