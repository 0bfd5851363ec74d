use Rattle.hhas_read.proofs.ReadBack.{read_back, read_spelled, repositories_one}
use Rattle.hhas_read.proofs.reading_back.canonical_texts_are_read_back.Goals as goal

pub returns-clause-spelled : goal.returns-clause-spelled
returns-clause-spelled c = read_spelled

pub returns-clause-reads : goal.returns-clause-reads
returns-clause-reads c = read_back

pub returns-clause-one : goal.returns-clause-one
returns-clause-one c = repositories_one
