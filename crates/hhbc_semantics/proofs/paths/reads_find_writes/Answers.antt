use Rattle.hhbc_semantics.proofs.ReadingBack.{reads_find_writes}
use Rattle.hhbc_semantics.proofs.paths.reads_find_writes.Goals as goal

pub returns : goal.returns
returns c = reads_find_writes
