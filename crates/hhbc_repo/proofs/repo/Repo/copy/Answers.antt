use Rattle.std.proofs.Common.{◌≡◌, List, ap₂, sym, subst, ◌∙◌}
use Rattle.hhbc_repo.specs.declared.body.Body.{Body}
use Rattle.hhbc_repo.specs.declared.repo.Class.{Class}
use Rattle.hhbc_repo.specs.Linked.{Linked}
use Rattle.hhbc_repo.specs.LookUps.{Sound}
use Rattle.hhbc_repo.specs.Spelled.{HasSpelling}
use Rattle.hhbc_repo.proofs.Borne.{if_ok}
use Rattle.hhbc_repo.proofs.repo.Repo.copy.Goals as goal

abbrev repo : List Body → List Class → Linked
repo fs cs = record { functions = fs; classes = cs }

same : (c : goal.In_ok-classes) → repo c.in_ok-functions.functions c.in_ok-classes.classes ≡ repo c.self.inside.functions c.self.inside.classes
same c = ap₂ repo (c.in_ok-functions.ensures ∙ c.as_slice.ensures) (c.in_ok-classes.ensures ∙ c.as_slice-2.ensures)

pub new-requires-clause-sound : goal.new-requires-clause-sound
new-requires-clause-sound c = subst Sound (sym (same c)) c.self.invariant.sound

pub new-requires-clause-spelled : goal.new-requires-clause-spelled
new-requires-clause-spelled c = subst HasSpelling (sym (same c)) c.self.invariant.spelling

pub returns : goal.returns
returns c = if_ok c.new.result _ _ (λ r h. h ∙ ap₂ repo (c.in_ok-functions.ensures ∙ c.as_slice.ensures) (c.in_ok-classes.ensures ∙ c.as_slice-2.ensures) ∙ c.self.view_is) c.new.ensures
