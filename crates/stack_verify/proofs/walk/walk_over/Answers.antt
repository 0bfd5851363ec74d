use Rattle.std.proofs.Common.{◌≡◌, ◌+◌, ◌*◌, ◌-◌, ◌<◌, ℕ, suc, nat_le, not, true, false, length, subst, sym, arith}
use Rattle.stack_verify.specs.declared.walk.BodyStop.{BodyStop}
use Rattle.stack_verify.specs.Walk.{StopsBody, Walks}
use Rattle.stack_verify.proofs.Walking.{stops_here, ends_badly, ends_well}
use Rattle.stack_verify.proofs.walk.walk_over.Goals as goal

pub loop-position-preserved : goal.loop-position-preserved
loop-position-preserved c =
    let n : suc c.loop-position.position ≡ c.loop-position.position + 1 = omega arith in
    subst (λ (n : ℕ). Walks c.args.body.now n c.step.new.self) n c.in-Ok.ensures

pub returns-in-Err-clause-types : goal.returns-in-Err-clause-types
returns-in-Err-clause-types c =
    let b = c.args.body.now in
    let p = c.loop-position.position in
    let e = c.in_ok-count.ensures in
    let l : p < length b.positions = omega (arith, e) in
    subst (λ (s : BodyStop). StopsBody b s) (sym c.stop_at.ensures) (stops_here b p c.loop-position.walk c.in-Err.stop c.loop-position.invariant l c.in-Err.ensures)

pub returns-then-has_too_many_cells-clause-types : goal.returns-then-has_too_many_cells-clause-types
returns-then-has_too_many_cells-clause-types c =
    let b = c.args.body.now in
    let n = c.loop-position.position in
    let m = c.in_ok-count.count in
    let e = c.in_ok-count.ensures in
    let f : n ≡ length b.positions = omega (arith, e) in
    let g : suc (m - 1) ≡ length b.positions = omega (arith, e) in
    let t = subst (λ (k : ℕ). true ≡ not (nat_le (k * (length b.locals + c.loop-position.walk.deepest + b.iters)) 1000000)) e c.if-has_too_many_cells.ensures in
    ends_badly b n (m - 1) c.loop-position.walk c.loop-position.invariant f g t

pub returns-clause-types : goal.returns-clause-types
returns-clause-types c =
    let b = c.args.body.now in
    let n = c.loop-position.position in
    let e = c.in_ok-count.ensures in
    let f : n ≡ length b.positions = omega (arith, e) in
    let g : 0 < length b.positions = omega (arith, e) in
    let t = subst (λ (k : ℕ). false ≡ not (nat_le (k * (length b.locals + c.loop-position.walk.deepest + b.iters)) 1000000)) e c.if-has_too_many_cells.ensures in
    ends_well b n c.loop-position.walk c.loop-position.invariant f g t
