use Rattle.hhas_read.specs.Reading.{next}
use Rattle.hhas_read.proofs.Said.{not_mark}
use Rattle.hhas_read.proofs.reader.Reader.is_mark.Goals as goal

pub returns-in_default : goal.returns-in_default
returns-in_default c = not_mark c.peek.result (next c.args.self.now) c.peek.ensures c.in_default.not-Mark c.args.byte
