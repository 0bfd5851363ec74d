use Rattle.std.proofs.Common.{refl, ap, ◌∙◌}
use Rattle.hhbc_repo.specs.CanonicalText.{canonical_text}
use Rattle.hhbc_repo.specs.Linked.{Linked}
use Rattle.hhbbc_top.proofs.top.written.Goals as goal

pub returns-in-Ok-write_text : goal.returns-in-Ok-write_text
returns-in-Ok-write_text c = (refl, c.in-Ok-write_text.ensures ∙ ap (λ (r : Linked). canonical_text r) c.in-Ok.ensures, refl)
