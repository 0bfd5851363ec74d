use Rattle.std.proofs.Common.{rules, ◌≡◌, List, [], ap, ◌∙◌, sym, subst, map, refl, ◌++◌, codes}
use Rattle.std.specs.List.{flat_map}
use Rattle.std.specs.Vec.Iter.{into_iter_items}
use Rattle.hhbc_repo.specs.declared.parts.BodyParts.{BodyParts}
use Rattle.hhbc_repo.specs.declared.link_fault.LinkFault.{LinkFault}
use Rattle.hhbc_repo.specs.Checks.{TellsFirst}
use Rattle.hhbc_repo.specs.LinkFaults.{Name, Place, Whole, body_faults}
use Rattle.hhbc_repo.specs.Resolved.{resolved_body}
use Rattle.hhbc_repo.proofs.GivenAway.{given_all, given_count, given_made, given_passes, given_tells, none_given}
use Rattle.hhbc_repo.proofs.link_classes.linked_methods.Goals as goal

abbrev place : Whole → Name → BodyParts → Place
place w class b = record { whole = w; body = b; owner = class ++ (codes "::" ++ b.name) }

abbrev one_faults : Whole → Name → BodyParts → List LinkFault
one_faults w class b = body_faults (place w class b)

abbrev all_faults : Whole → Name → List BodyParts → List LinkFault
all_faults w class bs = flat_map body_faults (map (place w class) bs)

pub returns-in-Err : goal.returns-in-Err
returns-in-Err c =
    let w = c.args.known.now in
    let l = c.loop-method in
    let x = c.in-Some.method in
    let told : TellsFirst (one_faults w c.args.class.now x) c.in-Err.error = search rules in
    let all = given_tells (all_faults w c.args.class.now) (one_faults w c.args.class.now) (into_iter_items c.into_iter-method-iterator.result) (into_iter_items l.method-iterator) (into_iter_items c.next.new.self) x (λ y ys. refl) c.in-Some.ensures.steps.0 l.invariant.left c.in-Err.error told in
    subst (λ xs. TellsFirst (all_faults w c.args.class.now xs) c.in-Err.error) (c.into_iter-method-iterator.ensures.into_iter_gives.0 ∙ c.into_vec-method-items.ensures) all

pub loop-method-preserved : goal.loop-method-preserved
loop-method-preserved c =
    let w = c.args.known.now in
    let l = c.loop-method in
    let x = c.in-Some.method in
    let none : one_faults w c.args.class.now x ≡ [] = search rules in
    record {
      left = given_passes (all_faults w c.args.class.now) (one_faults w c.args.class.now) (into_iter_items c.into_iter-method-iterator.result) (into_iter_items l.method-iterator) (into_iter_items c.next.new.self) x (λ y ys. refl) c.in-Some.ensures.steps.0 l.invariant.left none;
      all = given_made (resolved_body w) (map (resolved_body w) (into_iter_items c.into_iter-method-iterator.result)) (into_iter_items l.method-iterator) (into_iter_items c.next.new.self) x _ _ c.in-Ok.linked c.in-Some.ensures.steps.0 l.invariant.all c.in_ok-push-in-Ok.ensures.ok c.in-Ok.ensures.1;
      len = given_count (into_iter_items l.method-iterator) (into_iter_items c.next.new.self) x _ _ c.in-Some.ensures.steps.0 c.in-Some.ensures.steps.1 l.invariant.len;
    }

pub returns : goal.returns
returns c =
    let w = c.args.known.now in
    let l = c.loop-method in
    let none = none_given (into_iter_items l.method-iterator) _ c.in-None.ensures.steps.0 l.invariant.len in
    let is = c.into_iter-method-iterator.ensures.into_iter_gives.0 ∙ c.into_vec-method-items.ensures in
    (ap (all_faults w c.args.class.now) (sym is) ∙ l.invariant.left ∙ ap (all_faults w c.args.class.now) none, given_all (resolved_body w) (map (resolved_body w) (into_iter_items c.into_iter-method-iterator.result)) (into_iter_items l.method-iterator) l.all none l.invariant.all ∙ ap (map (resolved_body w)) is)
