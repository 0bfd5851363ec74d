use Rattle.std.proofs.Common.{sym, ◌∙◌}
use Rattle.std.proofs.lemmas.Slice.Zip.{zip_end}
use Rattle.stack_verify.proofs.Flags.{agree_end}
use Rattle.stack_verify.proofs.known.agrees.Goals as goal

pub returns : goal.returns
returns c =
    let n = zip_end c.args.these.now c.args.those.now c.loop-this.yielded c.into_iter-this-iterator.result c.loop-this.this-iterator c.next.new.self c.next.result (cc) (cc) c.loop-this.yielded_by c.in-None.is c.next.ensures.steps in
    sym (c.loop-this.invariant ∙ agree_end c.args.these.now c.args.those.now _ n)
