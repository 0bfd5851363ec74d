use Rattle.std.proofs.Common.{sym, ap, ◌∙◌}
use Rattle.hhbc_repo.specs.Claims.{claiming}
use Rattle.hhbc_repo.proofs.ChangedParts.{changed_none, changed_set}
use Rattle.hhbc_repo.proofs.claims.claim_position.Goals as goal

pub returns-in-Some : goal.returns-in-Some
returns-in-Some c = changed_set (claiming c.args.asserts) c.args.at c.args.positions.now c.in-Some.position.now c.in-Some.ensures.value

pub returns-in-None : goal.returns-in-None
returns-in-None c = sym (changed_none (claiming c.args.asserts) c.args.at c.args.positions.now c.in-None.ensures.variant.1)
