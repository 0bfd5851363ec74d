-- What linking comes to.
use Rattle.std.specs.Prelude.{Result, Ok, Err}
use Rattle.hhbc_repo.specs.declared.link_fault.LinkError.{LinkError}
use Rattle.hhbc_repo.specs.Linked.{Linked}
use Rattle.hhbc_repo.specs.Checks.{TellsFirst}
use Rattle.hhbc_repo.specs.LinkFaults.{Whole, faults}
use Rattle.hhbc_repo.specs.Resolved.{LinksTo}

-- the repository that the parts link to, or the first of all that is wrong with them
abbrev pub Links : Whole → Result Linked LinkError → Type 0
Links w (Ok r) = LinksTo w r
Links w (Err e) = TellsFirst (faults w) e
