use Rattle.std.proofs.Common.{[], ◌∷◌}
use Rattle.hhas_lex.specs.Tokens.{Mark}
use Rattle.hhas_read.specs.Reading.{any}
use Rattle.hhbc_repo.specs.Languages.{Ended}
use Rattle.hhbc_repo.specs.TextSyntax.{AScalar}
use Rattle.hhas_read.proofs.ClassParts.{scalar_end_law}
use Rattle.hhas_read.proofs.Firsts.{first_reads, first_stop}
use Rattle.hhas_read.proofs.reader.Reader.const_value.Goals as goal

pub returns-in-Ok : goal.returns-in-Ok
returns-in-Ok c =
    first_reads any (Mark 61) (Ended AScalar (Mark 59 ∷ [])) c.args.self.now c.mark.new.self c.scalar_to_end.new.self c.scalar_to_end.result c.in-Ok.ensures c.scalar_to_end.ensures

pub returns-in-Err : goal.returns-in-Err
returns-in-Err c = first_stop any (Mark 61) (Ended AScalar (Mark 59 ∷ [])) c.args.self.now c.mark.new.self c.in-Err.stop scalar_end_law.some c.in-Err.ensures
