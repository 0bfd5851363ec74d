use Rattle.std.proofs.Common.{refl}
use Rattle.hhas_lex.specs.Tokens.{Mark}
use Rattle.hhbc_repo.specs.CodeSyntax.{UpTo}
use Rattle.hhas_read.specs.Reading.{any}
use Rattle.hhas_read.proofs.Closing.{closed, closed_stop, not_closed}
use Rattle.hhas_read.proofs.Operands.{number_lawful}
use Rattle.hhas_read.proofs.reader.Reader.count.Goals as goal

pub returns-then-not-is_mark : goal.returns-then-not-is_mark
returns-then-not-is_mark c = not_closed any (UpTo 65535) (Mark 59) refl refl (number_lawful 65535) c.args.self.now c.number.new.self c.in-Ok.count c.in-Ok.ensures c.if-not-is_mark.ensures

pub returns-else-not-is_mark : goal.returns-else-not-is_mark
returns-else-not-is_mark c =
    closed any (UpTo 65535) (Mark 59) refl refl (number_lawful 65535) c.args.self.now c.number.new.self c.skip.new.self c.in-Ok.count c.in-Ok.ensures
    c.if-not-is_mark.ensures c.skip.ensures

pub returns-in-Err : goal.returns-in-Err
returns-in-Err c = closed_stop any (UpTo 65535) (Mark 59) refl refl c.args.self.now c.number.new.self c.in-Err.stop c.in-Err.ensures
