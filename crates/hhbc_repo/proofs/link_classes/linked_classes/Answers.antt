use Rattle.std.proofs.Common.{rules, ◌≡◌, List, [], ap, ◌∙◌, sym, subst, map}
use Rattle.std.specs.List.{flat_map}
use Rattle.std.specs.Vec.Iter.{into_iter_items}
use Rattle.std.proofs.lemmas.Grind.{flat_map-append}
use Rattle.hhbc_repo.specs.declared.parts.ClassParts.{ClassParts}
use Rattle.hhbc_repo.specs.declared.link_fault.LinkFault.{LinkFault}
use Rattle.hhbc_repo.specs.Checks.{TellsFirst}
use Rattle.hhbc_repo.specs.LinkFaults.{Whole, body_faults, method_places}
use Rattle.hhbc_repo.specs.Resolved.{resolved_class}
use Rattle.hhbc_repo.proofs.GivenAway.{given_all, given_count, given_made, given_passes, given_tells, none_given}
use Rattle.hhbc_repo.proofs.link_classes.linked_classes.Goals as goal

abbrev one_faults : Whole → ClassParts → List LinkFault
one_faults w c = flat_map body_faults (method_places w c)

abbrev all_faults : Whole → List ClassParts → List LinkFault
all_faults w cs = flat_map body_faults (flat_map (method_places w) cs)

pub returns-in-Err : goal.returns-in-Err
returns-in-Err c =
    let w = c.args.known.now in
    let l = c.loop-class in
    let x = c.in-Some.class in
    let told : TellsFirst (one_faults w x) c.in-Err.error = search rules in
    let all = given_tells (all_faults w) (one_faults w) (into_iter_items c.into_iter-class-iterator.result) (into_iter_items l.class-iterator) (into_iter_items c.next.new.self) x (λ y ys. flat_map-append body_faults (method_places w y) (flat_map (method_places w) ys)) c.in-Some.ensures.steps.0 l.invariant.left c.in-Err.error told in
    subst (λ xs. TellsFirst (all_faults w xs) c.in-Err.error) (c.into_iter-class-iterator.ensures.into_iter_gives.0 ∙ c.into_vec-class-items.ensures) all

pub loop-class-preserved : goal.loop-class-preserved
loop-class-preserved c =
    let w = c.args.known.now in
    let l = c.loop-class in
    let x = c.in-Some.class in
    let none : one_faults w x ≡ [] = search rules in
    record {
      left = given_passes (all_faults w) (one_faults w) (into_iter_items c.into_iter-class-iterator.result) (into_iter_items l.class-iterator) (into_iter_items c.next.new.self) x (λ y ys. flat_map-append body_faults (method_places w y) (flat_map (method_places w) ys)) c.in-Some.ensures.steps.0 l.invariant.left none;
      all = given_made (resolved_class w) (map (resolved_class w) (into_iter_items c.into_iter-class-iterator.result)) (into_iter_items l.class-iterator) (into_iter_items c.next.new.self) x _ _ c.in-Ok.linked c.in-Some.ensures.steps.0 l.invariant.all c.in_ok-push-in-Ok.ensures.ok c.in-Ok.ensures.1;
      len = given_count (into_iter_items l.class-iterator) (into_iter_items c.next.new.self) x _ _ c.in-Some.ensures.steps.0 c.in-Some.ensures.steps.1 l.invariant.len;
    }

pub returns : goal.returns
returns c =
    let w = c.args.known.now in
    let l = c.loop-class in
    let none = none_given (into_iter_items l.class-iterator) _ c.in-None.ensures.steps.0 l.invariant.len in
    let is = c.into_iter-class-iterator.ensures.into_iter_gives.0 ∙ c.into_vec-class-items.ensures in
    (ap (all_faults w) (sym is) ∙ l.invariant.left ∙ ap (all_faults w) none, given_all (resolved_class w) (map (resolved_class w) (into_iter_items c.into_iter-class-iterator.result)) (into_iter_items l.class-iterator) l.all none l.invariant.all ∙ ap (map (resolved_class w)) is)
