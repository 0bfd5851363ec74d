use Rattle.hhbbc_top.proofs.Headline.{annotated-spelled, goes-with, left-as}
use Rattle.hhbbc_top.specs.declared.words.Command.TheVariants.{Analyze}
use Rattle.hhbbc_top.proofs.top.analyzed.Goals as goal

pub returns-in-Ok : goal.returns-in-Ok
returns-in-Ok c = goes-with Analyze c.args.repo.now c.in-Ok.main c.written.result c.in-Ok.ensures.read c.written.ensures

pub returns-in-Err : goal.returns-in-Err
returns-in-Err c = rw c.status_of.ensures (left-as Analyze c.args.repo.now c.in-Err.unfit (λ e. record { types = c.requires; other = λ f. c.in-Err.ensures.other e f }))

pub written-requires : goal.written-requires
written-requires c = annotated-spelled c.annotated_has_spelling.ensures c.args.repo.now c.in-Ok.main c.in-Ok.ensures.read c.has_spelling.ensures
