use Rattle.std.proofs.Common.{[], ◌∷◌, refl, codes}
use Rattle.hhas_lex.specs.Tokens.{Word, Mark}
use Rattle.hhbc_repo.specs.CodeSyntax.{AWord}
use Rattle.hhas_read.specs.Reading.{Viable, any}
use Rattle.hhas_read.proofs.Tags.{behind_reads, behind_stop}
use Rattle.hhas_read.proofs.reader.Reader.tagged_word.Goals as goal

some : Viable AWord []
some = record { more = Word (codes "a") ∷ []; value = codes "a"; word = refl; proper = refl }

pub returns-in-Ok : goal.returns-in-Ok
returns-in-Ok c = behind_reads any (Word c.args.name.now ∷ Mark 58 ∷ []) AWord c.args.self.now c.tag.new.self c.word.new.self c.word.result c.in-Ok.ensures c.word.ensures

pub returns-in-Err : goal.returns-in-Err
returns-in-Err c = behind_stop any (Word c.args.name.now ∷ Mark 58 ∷ []) AWord c.args.self.now c.tag.new.self c.in-Err.stop some c.in-Err.ensures
