-- What sources and sinks over memory are, and what a call leaves of them.
use Rattle.std.specs.Prelude.{◌==◌, ℕ, ◌-◌, ◌^◌, nat_le, Bool, List, [], ◌∷◌, ◌++◌, length, drop, min, if◌then◌else◌}
use Rattle.std.specs.List.{list_any}
use Rattle.hh_io.specs.Counts.{count_after}

-- whether the call of this number fails
abbrev pub is_listed : List ℕ → ℕ → Bool
is_listed failing call = list_any (λ number. number == call) failing

-- how many calls from this number on are certain not to fail
abbrev pub certain_calls : List ℕ → ℕ → ℕ
certain_calls [] call = 2 ^ 64
certain_calls (number ∷ rest) call =
    if nat_le call number then min (number - call) (certain_calls rest call) else certain_calls rest call

-- a source over memory: the bytes left, the numbers of the calls that fail, and the counts
pub record Supply : Type 0 where
  pub left : List ℕ
  pub failing : List ℕ
  pub calls : ℕ
  pub faults : ℕ

-- how many bytes a read into so much room gives
abbrev pub given_count : Supply → ℕ → ℕ
given_count s room = min (length s.left) room

-- after a call that gave so many bytes
abbrev pub supply_after : Supply → ℕ → Supply
supply_after s count = record s { left = drop count s.left; calls = count_after s.calls }

-- after a call that failed
abbrev pub supply_failed : Supply → Supply
supply_failed s = record s { calls = count_after s.calls; faults = count_after s.faults }

-- a sink over memory: the bytes taken, its room in all, the numbers of the calls that fail, and the counts
pub record Store : Type 0 where
  pub taken : List ℕ
  pub room : ℕ
  pub failing : List ℕ
  pub calls : ℕ
  pub faults : ℕ

-- how many bytes of a piece still fit
abbrev pub fitting_count : Store → ℕ → ℕ
fitting_count k size = min size (k.room - length k.taken)

-- after a call that took these bytes
abbrev pub store_after : Store → List ℕ → Store
store_after k bytes = record k { taken = k.taken ++ bytes; calls = count_after k.calls }

-- after a call that failed
abbrev pub store_failed : Store → Store
store_failed k = record k { calls = count_after k.calls; faults = count_after k.faults }
