use Rattle.std.proofs.Common.{sym, ap, ◌∙◌}
use Rattle.hhbc_repo.specs.Claims.{holding}
use Rattle.hhbc_repo.proofs.ChangedParts.{changed_none, changed_set}
use Rattle.hhbc_repo.proofs.claims.hold.Goals as goal

pub returns-in-Some : goal.returns-in-Some
returns-in-Some c = changed_set (holding c.args.stated) c.args.at c.args.properties.now c.in-Some.property.now c.in-Some.ensures.value

pub returns-in-None : goal.returns-in-None
returns-in-None c = sym (changed_none (holding c.args.stated) c.args.at c.args.properties.now c.in-None.ensures.variant.1)
