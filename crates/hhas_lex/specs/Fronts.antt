-- The longest front of bytes that passes a test.
use Rattle.std.specs.Prelude.{◌≡◌, ℕ, ◌<◌, ◌≤◌, Bool, true, false, List, length, take}

-- the first n bytes pass, and no longer front does
pub record LongestFront (test : List ℕ → Bool) (bytes : List ℕ) (n : ℕ) : Type 0 where
  pub inside : n ≤ length bytes
  pub passes : test (take n bytes) ≡ true
  pub longest : (m : ℕ) → n < m → m ≤ length bytes → test (take m bytes) ≡ false

pub record NoFront (test : List ℕ → Bool) (bytes : List ℕ) : Type 0 where
  pub none : (m : ℕ) → m ≤ length bytes → test (take m bytes) ≡ false
