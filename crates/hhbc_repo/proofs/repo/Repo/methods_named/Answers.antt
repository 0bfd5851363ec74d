use Rattle.std.proofs.Common.{ap, ◌∙◌}
use Rattle.hhbc_repo.specs.Linked.{Linked}
use Rattle.hhbc_repo.specs.Places.{methods_named}
use Rattle.hhbc_repo.proofs.repo.Repo.methods_named.Goals as goal

pub returns : goal.returns
returns c = c.of.ensures ∙ c.self.invariant.method_bearers_are c.args.name.now ∙ ap (λ (r : Linked). methods_named r c.args.name.now) c.self.view_is
