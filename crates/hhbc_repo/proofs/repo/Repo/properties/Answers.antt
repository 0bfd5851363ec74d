use Rattle.std.proofs.Common.{ap, ◌∙◌}
use Rattle.hhbc_repo.specs.Linked.{Linked}
use Rattle.hhbc_repo.specs.LookUps.{all_properties, total}
use Rattle.hhbc_repo.specs.MemberNames.{MemberNames}
use Rattle.hhbc_repo.proofs.repo.Repo.properties.Goals as goal

pub returns : goal.returns
returns c = c.count.ensures ∙ ap (λ (m : MemberNames). total m.names) c.self.invariant.properties_are ∙ ap (λ (r : Linked). total (all_properties r)) c.self.view_is
