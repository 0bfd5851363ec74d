use Rattle.std.proofs.Common.{length}
use Rattle.stack_verify.proofs.Catches.{marked_at, marked_there}
use Rattle.stack_verify.proofs.walk.is_catch.Goals as goal

pub flag_in-requires : goal.flag_in-requires
flag_in-requires c =
    marked_there c.args.body.now.regions (length c.args.body.now.positions) c.args.position c.args.catches.now c.requires.catches c.requires.place

pub returns : goal.returns
returns c =
    let e = marked_at c.args.body.now.regions (length c.args.body.now.positions) c.args.position c.args.catches.now c.requires.catches c.requires.place in
    let f = c.flag_in.ensures in
    cc
