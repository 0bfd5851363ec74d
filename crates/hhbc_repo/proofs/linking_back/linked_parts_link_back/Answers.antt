use Rattle.hhbc_repo.proofs.LinksBack.{linked_back}
use Rattle.hhbc_repo.proofs.linking_back.linked_parts_link_back.Goals as goal

pub returns : goal.returns
returns c w h e = let b = linked_back w h e in record { fits = b.0; links = b.1 }
