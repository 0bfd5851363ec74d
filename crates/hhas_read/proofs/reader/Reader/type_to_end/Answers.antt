use Rattle.std.proofs.Common.{refl}
use Rattle.hhas_lex.specs.Tokens.{Mark}
use Rattle.hhbc_repo.specs.TypeSyntax.{AType}
use Rattle.hhas_read.specs.Written.{ends_type}
use Rattle.hhas_read.proofs.Closing.{closed, closed_stop, not_closed}
use Rattle.hhas_read.proofs.TypeLaws.{type_law}
use Rattle.hhas_read.proofs.reader.Reader.type_to_end.Goals as goal

pub returns-then-not-is_mark : goal.returns-then-not-is_mark
returns-then-not-is_mark c =
    not_closed ends_type AType (Mark 59) refl refl type_law c.args.self.now c.type_parts.new.self c.in-Ok.stated c.in-Ok.ensures c.if-not-is_mark.ensures

pub returns-else-not-is_mark : goal.returns-else-not-is_mark
returns-else-not-is_mark c =
    closed ends_type AType (Mark 59) refl refl type_law c.args.self.now c.type_parts.new.self c.skip.new.self c.in-Ok.stated c.in-Ok.ensures c.if-not-is_mark.ensures c.skip.ensures

pub returns-in-Err : goal.returns-in-Err
returns-in-Err c = closed_stop ends_type AType (Mark 59) refl refl c.args.self.now c.type_parts.new.self c.in-Err.stop c.in-Err.ensures
