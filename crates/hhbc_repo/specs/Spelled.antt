-- Repositories that some text spells.
use Rattle.std.specs.Prelude.{◌≡◌, true}
use Rattle.hhbc_repo.specs.Canonical.{canonical}
use Rattle.hhbc_repo.specs.Fits.{parts_fit}
use Rattle.hhbc_repo.specs.Linked.{Linked}
use Rattle.hhbc_repo.specs.Resolved.{LinksTo}

-- the canonical parts are parts of a text, and link back
pub record HasSpelling (r : Linked) : Type 0 where
  pub fits : parts_fit (canonical r).functions (canonical r).classes ≡ true
  pub links : LinksTo (canonical r) r
