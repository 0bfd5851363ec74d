-- What a walk over items from the last to the first knows of those that it has seen.
use Rattle.std.specs.Prelude.{◌≡◌, ℕ, zero, suc, List, [], ◌∷◌}
use Rattle.hhbc_repo.specs.declared.parts.ItemParts.{ItemParts}
use Rattle.hhbc_repo.specs.declared.regions.Level.{Level}
use Rattle.hhbc_repo.specs.declared.regions.Walk.{Walk}
use Rattle.hhbc_repo.specs.Resolved.{catch_from, end_from, regions_from}

-- the level that so many are open within; one that isn't listed is open to the end
abbrev pub level : ℕ → List Level → ℕ → Level
level end [] k = record { mid = end; last = end }
level end (l ∷ ls) zero = l
level end (l ∷ ls) (suc k) = level end ls k

pub record Seen (w : Walk) (more : List ItemParts) : Type 0 where
  pub mids : (k : ℕ) → (level w.end w.levels k).mid ≡ catch_from w.here k more
  pub lasts : (k : ℕ) → (level w.end w.levels k).last ≡ end_from w.here k more
  pub regions : w.regions ≡ regions_from w.here more
