use Rattle.std.proofs.Common.{sym, ap, ◌∙◌}
use Rattle.hhbc_repo.specs.declared.body.Body.{Body}
use Rattle.hhbc_repo.specs.ChangedClaims.{claimed}
use Rattle.std.proofs.Common.{slice_set}
use Rattle.hhbc_repo.proofs.ChangedParts.{changed_none, changed_set}
use Rattle.hhbc_repo.proofs.claims.claim_body.Goals as goal

pub returns-in-Some : goal.returns-in-Some
returns-in-Some c = ap (λ (b : Body). slice_set c.args.bodies.now c.args.at b) c.give_claim.ensures ∙ changed_set (claimed c.args.new) c.args.at c.args.bodies.now c.in-Some.body.now c.in-Some.ensures.value

pub returns-in-None : goal.returns-in-None
returns-in-None c = sym (changed_none (claimed c.args.new) c.args.at c.args.bodies.now c.in-None.ensures.variant.1)
