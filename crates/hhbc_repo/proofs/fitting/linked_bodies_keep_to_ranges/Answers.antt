use Rattle.hhbc_repo.proofs.WithinRanges.{all_within}
use Rattle.hhbc_repo.proofs.fitting.linked_bodies_keep_to_ranges.Goals as goal

pub returns : goal.returns
returns c w h e = all_within w h e
