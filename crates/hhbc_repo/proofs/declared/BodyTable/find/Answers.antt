use Rattle.std.proofs.Common.{◌<◌, List, Some, length, sym, ap, ◌∙◌, subst}
use Rattle.std.proofs.lemmas.Option.{slice_get-get_or}
use Rattle.hhbc_repo.specs.declared.parts.BodyParts.{BodyParts}
use Rattle.hhbc_repo.proofs.FoundByName.{body_there, body_within, with_place}
use Rattle.hhbc_repo.proofs.declared.BodyTable.find.Goals as goal

pub returns-in-Some : goal.returns-in-Some
returns-in-Some c =
    let inside : c.in-Some.place < length c.self.inside.bodies.now =
    subst (λ (bs : List BodyParts). c.in-Some.place < length bs) (sym c.self.view_is) (body_within c.args.self.now c.args.name.now c.in-Some.place (sym c.place.ensures ∙ c.in-Some.is)) in
    with_place c.args.self.now c.args.name.now
    ∙ ap (body_there c.args.self.now) (sym c.place.ensures ∙ c.in-Some.is)
    ∙ ap (λ (bs : List BodyParts). body_there bs (Some c.in-Some.place)) (sym c.self.view_is)
    ∙ slice_get-get_or c.self.inside.bodies.now c.in-Some.place c.index-self-place.result inside

pub returns-in-None : goal.returns-in-None
returns-in-None c = with_place c.args.self.now c.args.name.now ∙ ap (body_there c.args.self.now) (sym c.place.ensures ∙ c.in-None.is)
