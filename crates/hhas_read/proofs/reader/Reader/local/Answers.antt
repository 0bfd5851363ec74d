use Rattle.std.proofs.Common.{refl, codes}
use Rattle.hhas_lex.specs.Tokens.{Local}
use Rattle.hhas_read.specs.Reading.{any, next}
use Rattle.hhas_read.proofs.OneToken.{single_stuck}
use Rattle.hhas_read.proofs.Said.{not_local}
use Rattle.hhas_read.proofs.reader.Reader.local.Goals as goal

pub returns-in_default : goal.returns-in_default
returns-in_default c = single_stuck Local any (codes "a") refl c.args.self.now (not_local c.peek.result (next c.args.self.now) c.peek.ensures c.in_default.not-Local)
