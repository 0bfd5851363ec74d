use Rattle.hhas_lex.specs.Tokens.{Mark}
use Rattle.hhas_read.specs.Reading.{any}
use Rattle.hhbc_repo.specs.Languages.{Both}
use Rattle.hhbc_repo.specs.TextSyntax.{AnInitial}
use Rattle.hhas_read.specs.ClassMembers.{HeldToEnd}
use Rattle.hhas_read.proofs.ClassParts.{initial_held_law}
use Rattle.hhas_read.proofs.Firsts.{first_reads, first_stop}
use Rattle.hhas_read.proofs.reader.Reader.property_value.Goals as goal

pub returns-in-Ok : goal.returns-in-Ok
returns-in-Ok c =
    first_reads any (Mark 61) (Both AnInitial HeldToEnd) c.args.self.now c.mark.new.self c.initial_and_held.new.self c.initial_and_held.result c.in-Ok.ensures c.initial_and_held.ensures

pub returns-in-Err : goal.returns-in-Err
returns-in-Err c = first_stop any (Mark 61) (Both AnInitial HeldToEnd) c.args.self.now c.mark.new.self c.in-Err.stop initial_held_law.some c.in-Err.ensures
