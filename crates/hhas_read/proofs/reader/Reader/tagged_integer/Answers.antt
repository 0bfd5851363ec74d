use Rattle.std.proofs.Common.{[], ◌∷◌, refl, pos}
use Rattle.hhas_lex.specs.Tokens.{Integer, Word, Mark}
use Rattle.hhbc_repo.specs.CodeSyntax.{AnInteger}
use Rattle.hhas_read.specs.Reading.{Viable, any}
use Rattle.hhas_read.proofs.Tags.{behind_reads, behind_stop}
use Rattle.hhas_read.proofs.reader.Reader.tagged_integer.Goals as goal

some : Viable AnInteger []
some = record { more = Integer (pos 0) ∷ []; value = pos 0; word = refl; proper = refl }

pub returns-in-Ok : goal.returns-in-Ok
returns-in-Ok c = behind_reads any (Word c.args.name.now ∷ Mark 58 ∷ []) AnInteger c.args.self.now c.tag.new.self c.integer.new.self c.integer.result c.in-Ok.ensures c.integer.ensures

pub returns-in-Err : goal.returns-in-Err
returns-in-Err c = behind_stop any (Word c.args.name.now ∷ Mark 58 ∷ []) AnInteger c.args.self.now c.tag.new.self c.in-Err.stop some c.in-Err.ensures
