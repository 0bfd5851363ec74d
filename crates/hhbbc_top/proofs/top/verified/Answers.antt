use Rattle.hhbbc_top.proofs.Headline.{verified_as}
use Rattle.hhbbc_top.proofs.top.verified.Goals as goal

pub returns-in-Ok : goal.returns-in-Ok
returns-in-Ok c =
    verified_as c.args.command c.args.repo c.in-Ok.verified c.repo.result.now c.served.result c.in-Ok.ensures.0 c.repo.ensures.repo (λ v. c.in-Ok.ensures.1) c.served.ensures

pub shape_told-requires : goal.shape_told-requires
shape_told-requires c = (c.args.repo, c.in-Err.ensures)

pub returns-in-Err : goal.returns-in-Err
returns-in-Err c = c.shape_told.ensures c.args.command c.args.repo c.requires c.in-Err.ensures
