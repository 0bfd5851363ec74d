use Rattle.std.proofs.Common.{◌≡◌, Option, Some, None, sym, ap, ◌∙◌, subst}
use Rattle.type_lattice.specs.Classes.{chain}
use Rattle.hhbc_repo.specs.Checks.{Checks, TellsFirst}
use Rattle.hhbc_repo.specs.declared.parts.BodyParts.{BodyParts}
use Rattle.hhbc_repo.specs.LinkFaults.{Whole, along, methods, method_in, parents, with_name}
use Rattle.hhbc_repo.proofs.scope.Scope.check_method_in.Goals as goal

pub returns-in-Some : goal.returns-in-Some
returns-in-Some c =
    let p = c.args.self.now in
    let name = c.args.name.now in
    let found : with_name (along (methods p.whole) (chain (parents p.whole) c.args.class)) name ≡ Some c.in-Some.called.now =
    ap (λ (w : Whole). with_name (along (methods w) (chain (parents w) c.args.class)) name) (sym c.known.ensures) ∙ c.in-Some.ensures in
    subst (λ (o : Option BodyParts). Checks (method_in p name c.args.count o) tt c.check_count.result) (sym found) c.check_count.ensures

pub returns-in-None : goal.returns-in-None
returns-in-None c =
    let p = c.args.self.now in
    let name = c.args.name.now in
    let found : with_name (along (methods p.whole) (chain (parents p.whole) c.args.class)) name ≡ None =
    ap (λ (w : Whole). with_name (along (methods w) (chain (parents w) c.args.class)) name) (sym c.known.ensures) ∙ c.in-None.ensures in
    subst (λ (o : Option BodyParts). TellsFirst (method_in p name c.args.count o) c.missing.result) (sym found) c.missing.ensures
