-- What a source has left, where it tells it.
use Rattle.std.specs.Prelude.{◌≡◌, ℕ, ◌+◌, ◌≤◌, ◌<◌, ⊤, Result, Ok, Err, List, Option, Some, None, length, IfSome}
use Rattle.std.specs.Io.KnownBytes.{Consumes}
use Rattle.hh_io.specs.Counts.{Rose}
use Rattle.hh_io.specs.declared.reading.ReadError.{ReadError}
use Rattle.hh_io.specs.declared.reading.ReadError.TheVariants.{ReadFailed, TooLong, NoMemory}

-- more bytes than the limit are left
abbrev pub IsLonger : Option (List ℕ) → ℕ → Type 0
IsLonger left limit = IfSome left (λ bytes. limit < length bytes)

-- at most as many bytes as the limit are left
abbrev pub IsWithin : Option (List ℕ) → ℕ → Type 0
IsWithin left limit = IfSome left (λ bytes. length bytes ≤ limit)

-- some bytes were read, and the rest is left
abbrev pub LosesFront : Option (List ℕ) → Option (List ℕ) → Type 0
LosesFront old new = (bytes : List ℕ) × Consumes old new bytes

-- the reads were at most one more than the bytes that were taken
abbrev pub ReadsPerByte : Option (List ℕ) → Option (List ℕ) → ℕ → ℕ → Type 0
ReadsPerByte (Some old) (Some new) before now = now + length new ≤ before + length old + 1
ReadsPerByte (Some old) None before now = ⊤
ReadsPerByte None new before now = ⊤

-- the count of faults rose where a read failed, and else stayed
abbrev pub FaultsFollow : {T : Type 0} → ℕ → ℕ → Result T ReadError → Type 0
FaultsFollow before now (Ok bytes) = now ≡ before
FaultsFollow before now (Err ReadFailed) = (before ≤ now) × Rose before now
FaultsFollow before now (Err TooLong) = now ≡ before
FaultsFollow before now (Err NoMemory) = now ≡ before
