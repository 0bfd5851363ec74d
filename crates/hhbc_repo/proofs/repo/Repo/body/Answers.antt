use Rattle.std.proofs.Common.{◌≡◌, ◌<◌, ℕ, List, None, length, slice_get, get_or, ap, ap₂, sym, subst, subst₂, ◌∙◌}
use Rattle.hhbc_repo.specs.declared.body.Body.{Body}
use Rattle.hhbc_repo.specs.declared.repo.Class.{Class}
use Rattle.hhbc_repo.specs.declared.homes.Home.{Home}
use Rattle.hhbc_repo.specs.Linked.{Linked}
use Rattle.hhbc_repo.specs.Homes.{bodies_in}
use Rattle.hhbc_repo.specs.Bodies.{bodies}
use Rattle.hhbc_repo.proofs.HomesFound.{listed, home_stands, home_within}
use Rattle.hhbc_repo.proofs.repo.Repo.body.Goals as goal

abbrev nowhere : Home
nowhere = record { class = None; place = 0 }

abbrev repo : List Body → List Class → Linked
repo fs cs = record { functions = fs; classes = cs }

in_range : (n : ℕ) (r s : Linked) → r ≡ s → n < length (bodies s) → n < length (bodies r)
in_range n r s e h = subst (λ (l : Linked). n < length (bodies l)) (sym e) h

pub bounds-as_slice-body : goal.bounds-as_slice-body
bounds-as_slice-body c =
    let r = repo c.self.inside.functions c.self.inside.classes in
    listed r c.as_slice.result.now (c.as_slice.ensures ∙ c.self.invariant.homes_are) c.args.body nowhere (in_range c.args.body r c.args.self.now c.self.view_is c.requires)

pub body_at-requires-clause-declared : goal.body_at-requires-clause-declared
body_at-requires-clause-declared c =
    let r = repo c.self.inside.functions c.self.inside.classes in
    (home_stands r c.as_slice.result.now (c.as_slice.ensures ∙ c.self.invariant.homes_are) c.args.body nowhere (in_range c.args.body r c.args.self.now c.self.view_is c.requires)).declared

pub body_at-requires-clause-within : goal.body_at-requires-clause-within
body_at-requires-clause-within c =
    let r = repo c.self.inside.functions c.self.inside.classes in
    let h = get_or c.as_slice.result.now c.args.body nowhere in
    subst₂ (λ (fs : List Body) (cs : List Class). h.place < length (bodies_in fs cs h.class)) (sym c.as_slice-2.ensures) (sym c.as_slice-3.ensures)
    (home_within r c.as_slice.result.now (c.as_slice.ensures ∙ c.self.invariant.homes_are) c.args.body nowhere (in_range c.args.body r c.args.self.now c.self.view_is c.requires))

pub returns : goal.returns
returns c =
    let r = repo c.self.inside.functions c.self.inside.classes in
    let h = get_or c.as_slice.result.now c.args.body nowhere in
    let s = home_stands r c.as_slice.result.now (c.as_slice.ensures ∙ c.self.invariant.homes_are) c.args.body nowhere (in_range c.args.body r c.args.self.now c.self.view_is c.requires) in
    ap (λ (l : Linked). slice_get (bodies l) c.args.body) (sym c.self.view_is)
    ∙ sym s.found
    ∙ ap₂ (λ (fs : List Body) (cs : List Class). slice_get (bodies_in fs cs h.class) h.place) (sym c.as_slice-2.ensures) (sym c.as_slice-3.ensures)
    ∙ c.body_at.ensures
