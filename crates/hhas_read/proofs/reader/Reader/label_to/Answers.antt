use Rattle.std.proofs.Common.{refl}
use Rattle.hhas_lex.specs.Tokens.{Mark}
use Rattle.hhbc_repo.specs.CodeSyntax.{ALabel}
use Rattle.hhas_read.specs.Reading.{any}
use Rattle.hhas_read.proofs.Closing.{closed, closed_stop, not_closed}
use Rattle.hhas_read.proofs.ArmForms.{label_lawful}
use Rattle.hhas_read.proofs.reader.Reader.label_to.Goals as goal

pub returns-then-not-is_mark : goal.returns-then-not-is_mark
returns-then-not-is_mark c =
    let end = Mark c.args.end in
    not_closed any ALabel end refl c.requires label_lawful c.args.self.now c.label.new.self c.in-Ok.label c.in-Ok.ensures c.if-not-is_mark.ensures

pub returns-else-not-is_mark : goal.returns-else-not-is_mark
returns-else-not-is_mark c =
    let end = Mark c.args.end in
    closed any ALabel end refl c.requires label_lawful c.args.self.now c.label.new.self c.skip.new.self c.in-Ok.label c.in-Ok.ensures c.if-not-is_mark.ensures c.skip.ensures

pub returns-in-Err : goal.returns-in-Err
returns-in-Err c = let end = Mark c.args.end in closed_stop any ALabel end refl c.requires c.args.self.now c.label.new.self c.in-Err.stop c.in-Err.ensures
