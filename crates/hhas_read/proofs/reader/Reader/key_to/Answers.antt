use Rattle.hhas_lex.specs.Tokens.{Mark}
use Rattle.hhas_read.specs.LeafSyntax.{AKeyOf}
use Rattle.hhas_read.specs.Written.{ends_type}
use Rattle.hhas_read.proofs.Apart.{key_lawful}
use Rattle.hhas_read.proofs.Closing.{closed, closed_stop, not_closed}
use Rattle.hhas_read.proofs.reader.Reader.key_to.Goals as goal

pub returns-then-not-is_mark : goal.returns-then-not-is_mark
returns-then-not-is_mark c = not_closed ends_type AKeyOf (Mark c.args.end) c.requires.follows c.requires.proper key_lawful c.args.self.now c.key_type.new.self c.in-Ok.key c.in-Ok.ensures c.if-not-is_mark.ensures

pub returns-else-not-is_mark : goal.returns-else-not-is_mark
returns-else-not-is_mark c = closed ends_type AKeyOf (Mark c.args.end) c.requires.follows c.requires.proper key_lawful c.args.self.now c.key_type.new.self c.skip.new.self c.in-Ok.key c.in-Ok.ensures c.if-not-is_mark.ensures c.skip.ensures

pub returns-in-Err : goal.returns-in-Err
returns-in-Err c = closed_stop ends_type AKeyOf (Mark c.args.end) c.requires.follows c.requires.proper c.args.self.now c.key_type.new.self c.in-Err.stop c.in-Err.ensures
