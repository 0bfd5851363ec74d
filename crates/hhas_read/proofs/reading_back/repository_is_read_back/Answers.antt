use Rattle.hhbc_repo.specs.CanonicalText.{canonical_text}
use Rattle.hhas_read.proofs.ReadBack.{no_fault_back, read_back, repositories_one}
use Rattle.hhas_read.proofs.reading_back.repository_is_read_back.Goals as goal

pub returns-clause-reads : goal.returns-clause-reads
returns-clause-reads c = read_back c.args.repo.now c.has_spelling.ensures

pub returns-clause-one : goal.returns-clause-one
returns-clause-one c other k =
    repositories_one (canonical_text c.args.repo.now) other c.args.repo.now k (read_back c.args.repo.now c.has_spelling.ensures)

pub returns-clause-none : goal.returns-clause-none
returns-clause-none c = no_fault_back c.args.repo.now c.has_spelling.ensures
