use Rattle.std.proofs.Common.{◌≡◌, List, length, ap, ◌∙◌, arith}
use Rattle.hhbc_repo.specs.Linked.{Linked}
use Rattle.hhbc_repo.specs.Bodies.{bodies}
use Rattle.hhbc_repo.specs.declared.homes.Home.{Home}
use Rattle.hhbc_repo.proofs.HomesFound.{length_of}
use Rattle.hhbc_repo.proofs.repo.Repo.bodies.Goals as goal

pub overflow_cast-result : goal.overflow_cast-result
overflow_cast-result c =
    let r : Linked = record { functions = c.self.inside.functions; classes = c.self.inside.classes } in
    let e : length c.as_slice.result.now ≡ length (bodies r) = ap (λ (hs : List Home). length hs) (c.as_slice.ensures ∙ c.self.invariant.homes_are) ∙ length_of r in
    let b = c.self.invariant.sound.body_count in
    omega (arith, e, b)

pub returns : goal.returns
returns c =
    let r : Linked = record { functions = c.self.inside.functions; classes = c.self.inside.classes } in
    ap (λ (hs : List Home). length hs) (c.as_slice.ensures ∙ c.self.invariant.homes_are) ∙ length_of r ∙ ap (λ (l : Linked). length (bodies l)) c.self.view_is
