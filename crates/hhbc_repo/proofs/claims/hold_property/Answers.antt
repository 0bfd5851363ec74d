use Rattle.std.proofs.Common.{sym, ap, ◌∙◌}
use Rattle.hhbc_repo.specs.declared.repo.Class.{Class}
use Rattle.std.proofs.Common.{slice_set, List}
use Rattle.hhbc_repo.specs.declared.repo.Property.{Property}
use Rattle.hhbc_repo.specs.Claims.{changed, holding}
use Rattle.hhbc_repo.proofs.ChangedParts.{changed_none, changed_set}
use Rattle.hhbc_repo.proofs.claims.hold_property.Goals as goal

pub returns-in-Some : goal.returns-in-Some
returns-in-Some c = ap (λ (ps : List Property). slice_set c.args.classes.now c.args.class (record c.in-Some.class.now { props = ps })) c.hold.ensures ∙ changed_set (λ (k : Class). record k { props = changed (holding c.args.stated) c.args.at k.props }) c.args.class c.args.classes.now c.in-Some.class.now c.in-Some.ensures.value

pub returns-in-None : goal.returns-in-None
returns-in-None c = sym (changed_none (λ (k : Class). record k { props = changed (holding c.args.stated) c.args.at k.props }) c.args.class c.args.classes.now c.in-None.ensures.variant.1)
