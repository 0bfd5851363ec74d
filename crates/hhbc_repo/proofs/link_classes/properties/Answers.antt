use Rattle.std.proofs.Common.{map, ap, ◌∙◌}
use Rattle.std.specs.Vec.Iter.{into_iter_items}
use Rattle.hhbc_repo.specs.Resolved.{resolved_property}
use Rattle.hhbc_repo.proofs.GivenAway.{given_all, given_count, given_made, none_given}
use Rattle.hhbc_repo.proofs.link_classes.properties.Goals as goal

pub loop-part-preserved : goal.loop-part-preserved
loop-part-preserved c =
    let w = c.args.known.now in
    let l = c.loop-part in
    let x = c.in-Some.part in
    record {
      all = given_made (resolved_property w) (map (resolved_property w) (into_iter_items c.into_iter-part-iterator.result)) (into_iter_items l.part-iterator) (into_iter_items c.next.new.self) x _ _ c.property.result c.in-Some.ensures.steps.0 l.invariant.all c.in_ok-push.ensures.ok c.property.ensures;
      len = given_count (into_iter_items l.part-iterator) (into_iter_items c.next.new.self) x _ _ c.in-Some.ensures.steps.0 c.in-Some.ensures.steps.1 l.invariant.len;
    }

pub returns : goal.returns
returns c =
    let w = c.args.known.now in
    let l = c.loop-part in
    let none = none_given (into_iter_items l.part-iterator) _ c.in-None.ensures.steps.0 l.invariant.len in
    let is = c.into_iter-part-iterator.ensures.into_iter_gives.0 ∙ c.into_vec-part-items.ensures in
    given_all (resolved_property w) (map (resolved_property w) (into_iter_items c.into_iter-part-iterator.result)) (into_iter_items l.part-iterator) l.all none l.invariant.all ∙ ap (map (resolved_property w)) is
