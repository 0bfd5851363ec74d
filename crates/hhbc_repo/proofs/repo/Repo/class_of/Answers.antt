use Rattle.std.proofs.Common.{◌<◌, length, ap, sym, subst, ◌∙◌, List, None, slice_get}
use Rattle.hhbc_repo.specs.Linked.{Linked}
use Rattle.hhbc_repo.specs.Bodies.{bodies}
use Rattle.hhbc_repo.specs.LookUps.{owners}
use Rattle.hhbc_repo.specs.declared.homes.Home.{Home}
use Rattle.hhbc_repo.proofs.HomesFound.{length_of, owner-at}
use Rattle.hhbc_repo.proofs.repo.Repo.class_of.Goals as goal

pub bounds-as_slice-body : goal.bounds-as_slice-body
bounds-as_slice-body c =
    let r : Linked = record { functions = c.self.inside.functions; classes = c.self.inside.classes } in
    let e = ap (λ (hs : List Home). length hs) (c.as_slice.ensures ∙ c.self.invariant.homes_are) ∙ length_of r ∙ ap (λ (l : Linked). length (bodies l)) c.self.view_is in
    subst (λ n. c.args.body < n) (sym e) c.requires

pub returns : goal.returns
returns c =
    let r : Linked = record { functions = c.self.inside.functions; classes = c.self.inside.classes } in
    let e = ap (λ (hs : List Home). length hs) (c.as_slice.ensures ∙ c.self.invariant.homes_are) ∙ length_of r ∙ ap (λ (l : Linked). length (bodies l)) c.self.view_is in
    ap (λ (l : Linked). slice_get (owners l) c.args.body) (sym c.self.view_is)
    ∙ owner-at r c.as_slice.result.now c.args.body (record { class = None; place = 0 }) (c.as_slice.ensures ∙ c.self.invariant.homes_are) (subst (λ n. c.args.body < n) (sym e) c.requires)
