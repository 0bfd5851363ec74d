use Rattle.stack_verify.proofs.Walking.{handled, handled_there}
use Rattle.stack_verify.proofs.walk.handler_at.Goals as goal

pub handler_in-requires : goal.handler_in-requires
handler_in-requires c = handled_there c.args.body.now c.args.position c.args.handlers.now c.requires.handlers c.requires.place

pub returns : goal.returns
returns c =
    let e = handled c.args.body.now c.args.position c.args.handlers.now c.requires.handlers c.requires.place in
    let f = c.handler_in.ensures in
    cc
