use Rattle.std.proofs.Common.{◌≡◌, ◌≤◌, ℕ, Option}
use Rattle.flow_regions.specs.Guarded.{handled, lowered_from}
use Rattle.flow_regions.proofs.regions.guard_all.Given as goal

abbrev pub invariant-loop-position : goal.invariant-loop-position
invariant-loop-position l =
    ((f : ℕ → Option ℕ) (n : ℕ) → l.initial.handlers ≡ handled f n → l.handlers ≡ handled (lowered_from l.first l.position l.mid f) n)
    × (l.first ≤ l.position)
