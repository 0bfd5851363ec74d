use Rattle.std.proofs.Common.{◌∙◌}
use Rattle.stack_verify.proofs.Flags.{same_flags}
use Rattle.stack_verify.proofs.known.is_same_live.Goals as goal

pub returns : goal.returns
returns c = c.eq.ensures ∙ same_flags c.args.these.now c.args.those.now
