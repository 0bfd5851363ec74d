use Rattle.std.proofs.Common.{◌≡◌, ◌+◌, ◌≤◌, ◌++◌, ◌∷◌, [], ℕ, suc, map, take, length, subst, sym, ◌∙◌, arith}
use Rattle.hhbc_repo.specs.Bodies.{bodies}
use Rattle.stack_verify.specs.declared.shape.RepoStop.{RepoStop}
use Rattle.stack_verify.specs.Verified.{FirstType, StopsRepo}
use Rattle.stack_verify.specs.Walk.{kept_of}
use Rattle.stack_verify.proofs.Bodies.{given_next, types_next, typed, stops_there}
use Rattle.stack_verify.proofs.verified.shapes_of.Goals as goal

pub walk_over-requires : goal.walk_over-requires
walk_over-requires c = c.is_sound.ensures.iterators c.loop-number.number c.body.result.now c.body.ensures

pub loop-number-preserved : goal.loop-number-preserved
loop-number-preserved c =
    let r = c.args.repo.now in
    let n = c.loop-number.number in
    let b = c.body.result.now in
    let e : suc n ≡ n + 1 = omega arith in
    record {
      given = c.in_ok-push-in-Ok.ensures.ok
          ∙ subst (λ (m : ℕ). c.loop-number.all ++ c.in-Ok.shapes ∷ [] ≡ map kept_of (take m (bodies r))) e
          (given_next (bodies r) n b c.loop-number.all c.in-Ok.shapes c.body.ensures c.loop-number.invariant.given c.in-Ok.ensures.shapes);
      types = subst (λ (m : ℕ). FirstType r m) e (types_next r n b c.loop-number.invariant.types c.body.ensures c.in-Ok.ensures.types);
    }

pub returns-in-Err : goal.returns-in-Err
returns-in-Err c =
    let r = c.args.repo.now in
    subst (λ (s : RepoStop). StopsRepo r s) (sym c.stop_in.ensures)
    (stops_there r c.loop-number.number c.body.result.now c.in-Err.stop c.loop-number.invariant.types c.body.ensures c.in-Err.ensures.types)

pub returns : goal.returns
returns c =
    let r = c.args.repo.now in
    let l : length (bodies r) ≤ c.loop-number.number = omega (arith, c.bodies-number-end.ensures) in
    typed r c.loop-number.number c.loop-number.all l c.loop-number.invariant.given c.loop-number.invariant.types
