use Rattle.std.proofs.Common.{[], ◌∷◌, refl, codes}
use Rattle.hhas_lex.specs.Tokens.{Local, Word, Mark}
use Rattle.hhbc_repo.specs.CodeSyntax.{ALocal}
use Rattle.hhas_read.specs.Reading.{Viable, any}
use Rattle.hhas_read.proofs.Tags.{behind_reads, behind_stop}
use Rattle.hhas_read.proofs.reader.Reader.tagged_local.Goals as goal

some : Viable ALocal []
some = record { more = Local (codes "a") ∷ []; value = codes "a"; word = refl; proper = refl }

pub returns-in-Ok : goal.returns-in-Ok
returns-in-Ok c = behind_reads any (Word c.args.name.now ∷ Mark 58 ∷ []) ALocal c.args.self.now c.tag.new.self c.local.new.self c.local.result c.in-Ok.ensures c.local.ensures

pub returns-in-Err : goal.returns-in-Err
returns-in-Err c = behind_stop any (Word c.args.name.now ∷ Mark 58 ∷ []) ALocal c.args.self.now c.tag.new.self c.in-Err.stop some c.in-Err.ensures
