use Rattle.hhbc_repo.specs.CodeSyntax.{ChangeKey, SetKey}
use Rattle.hhas_read.specs.Reading.{any}
use Rattle.hhas_read.proofs.FirstWord.{reads_wider}
use Rattle.hhas_read.proofs.KeyForms.{set_narrow}
use Rattle.hhas_read.proofs.reader.Reader.set_key.Goals as goal

pub returns : goal.returns
returns c =
    reads_wider any ChangeKey SetKey c.args.self.now c.change_key.new.self c.change_key.result (λ w k n. (n.0, n.2)) (set_narrow c.args.self.now c.if-is_word.ensures) c.change_key.ensures
