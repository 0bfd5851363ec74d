use Rattle.std.proofs.Common.{subst}
use Rattle.hhbc_repo.specs.Spelled.{HasSpelling}
use Rattle.stack_verify.specs.Runs.{with_natives}
use Rattle.stack_verify.proofs.verified.Verified.never_stuck.Goals as goal

pub returns : goal.returns
returns c = λ natives.
    c.never_sticks.ensures (with_natives natives c.args.self.now)
    (c.accepted_has_operands.ensures c.args.self.now (record { spelling = subst (λ r. HasSpelling r) c.repo.ensures.repo c.has_spelling.ensures; types = c.repo.ensures.types }))
    c.repo.ensures.types
