use Rattle.std.proofs.Common.{codes}
use Rattle.hhas_lex.specs.Tokens.{Word}
use Rattle.hhas_read.specs.Reading.{any}
use Rattle.hhbc_repo.specs.CodeSyntax.{AWord}
use Rattle.hhas_read.proofs.OneAtom.{a_word}
use Rattle.hhas_read.proofs.Firsts.{first_reads, first_stop}
use Rattle.hhas_read.proofs.reader.Reader.parent.Goals as goal

pub returns-in-Ok : goal.returns-in-Ok
returns-in-Ok c =
    first_reads any (Word (codes "extends")) AWord c.args.self.now c.keyword.new.self c.word.new.self c.word.result c.in-Ok.ensures c.word.ensures

pub returns-in-Err : goal.returns-in-Err
returns-in-Err c = first_stop any (Word (codes "extends")) AWord c.args.self.now c.keyword.new.self c.in-Err.stop a_word.some c.in-Err.ensures
