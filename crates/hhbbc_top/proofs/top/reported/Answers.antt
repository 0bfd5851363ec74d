use Rattle.hhbbc_top.proofs.Headline.{not-stuck}
use Rattle.hhbbc_top.proofs.top.reported.Goals as goal

pub report_of-requires : goal.report_of-requires
report_of-requires c = not-stuck c.args.main.now c.args.steps c.args.asserted c.in-Ok.ending c.requires c.in-Ok.ensures
