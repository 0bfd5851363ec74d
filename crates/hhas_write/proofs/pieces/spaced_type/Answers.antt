use Rattle.std.proofs.lemmas.Result.{on_ok_weaker}
use Rattle.hhas_write.proofs.TypesWritten.{type_written}
use Rattle.hhas_write.proofs.pieces.spaced_type.Goals as goal

pub returns : goal.returns
returns c =
    on_ok_weaker c.push_type.result
    (type_written c.args.classes.now c.args.t.now c.args.out.now c.append.new.self c.push_type.new.out c.in_ok-append.ensures.ok) c.push_type.ensures
