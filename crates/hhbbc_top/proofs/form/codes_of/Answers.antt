use Rattle.hhbbc_top.proofs.Fitting.{claimed-all}
use Rattle.hhbbc_top.proofs.form.codes_of.Goals as goal

pub returns-in-Err-clause-other : goal.returns-in-Err-clause-other
returns-in-Err-clause-other c = λ e fit. c.in-Err.ensures.other e (claimed-all c.args.locals c.args.positions.now fit)
