use Rattle.hhas_read.proofs.FirstFaults.{spells_one}
use Rattle.hhas_read.proofs.DeclaredLaws.{declared_law}
use Rattle.hhas_read.proofs.laws.text_spells_one_repository.Goals as goal

pub returns : goal.returns
returns c = spells_one declared_law
