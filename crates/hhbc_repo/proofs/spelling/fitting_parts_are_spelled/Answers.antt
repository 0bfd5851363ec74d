use Rattle.hhbc_repo.proofs.TextsSpelled.{text_spelled}
use Rattle.hhbc_repo.proofs.spelling.fitting_parts_are_spelled.Goals as goal

pub returns : goal.returns
returns c w h = text_spelled w h
