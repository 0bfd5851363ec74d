use Rattle.std.proofs.Common.{[], ◌∷◌, refl}
use Rattle.hhas_lex.specs.Tokens.{Str, Word, Mark}
use Rattle.hhbc_repo.specs.CodeSyntax.{AString}
use Rattle.hhas_read.specs.Reading.{Viable, any}
use Rattle.hhas_read.proofs.Tags.{behind_reads, behind_stop}
use Rattle.hhas_read.proofs.reader.Reader.tagged_string.Goals as goal

some : Viable AString []
some = record { more = Str [] ∷ []; value = []; word = refl; proper = refl }

pub returns-in-Ok : goal.returns-in-Ok
returns-in-Ok c = behind_reads any (Word c.args.name.now ∷ Mark 58 ∷ []) AString c.args.self.now c.tag.new.self c.string.new.self c.string.result c.in-Ok.ensures c.string.ensures

pub returns-in-Err : goal.returns-in-Err
returns-in-Err c = behind_stop any (Word c.args.name.now ∷ Mark 58 ∷ []) AString c.args.self.now c.tag.new.self c.in-Err.stop some c.in-Err.ensures
