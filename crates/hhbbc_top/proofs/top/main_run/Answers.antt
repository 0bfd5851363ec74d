use Rattle.hhbbc_top.proofs.Headline.{goes-with, left-as, never-stuck}
use Rattle.hhbbc_top.specs.declared.words.Command.TheVariants.{Run}
use Rattle.hhbbc_top.proofs.top.main_run.Goals as goal

pub reported-requires : goal.reported-requires
reported-requires c = never-stuck c.second_form_never_sticks.ensures c.args.repo.now c.in-Ok.main c.in-Ok.ensures.read

pub returns-in-Ok : goal.returns-in-Ok
returns-in-Ok c = goes-with (Run c.args.steps c.args.asserted) c.args.repo.now c.in-Ok.main c.reported.result c.in-Ok.ensures.read c.reported.ensures

pub returns-in-Err : goal.returns-in-Err
returns-in-Err c = rw c.status_of.ensures (left-as (Run c.args.steps c.args.asserted) c.args.repo.now c.in-Err.unfit (λ e. record { types = c.requires; other = λ f. c.in-Err.ensures.other e f }))
