use Rattle.std.proofs.Common.{◌∙◌, length, ap, arith}
use Rattle.hhbc_repo.specs.Shapes.{Shape}
use Rattle.stack_verify.proofs.Lives.{live_length}
use Rattle.stack_verify.proofs.Walking.{kept_push, depth_push, pass_next}
use Rattle.stack_verify.proofs.walk.Walk.step.Goals as goal

pub shape-requires : goal.shape-requires
shape-requires c =
    let b = c.args.body.now in
    let e = ap (λ (s : Shape). length s.live) c.in-Ok.ensures.shape ∙ live_length b c.args.position in
    let i = c.requires.iters in
    omega (arith, e, i)

pub returns : goal.returns
returns c =
    let b = c.args.body.now in
    let p = c.args.position in
    let w = c.requires.walks in
    let g = c.in-Ok.ensures.shape in
    record {
      ready = c.in-Ok.ensures.ready;
      kept_shapes = c.in_ok-push.ensures.ok ∙ kept_push b p c.args.self.now.shapes c.in_ok-shape.field-0 c.in-Ok.shape w.kept_shapes c.in_ok-shape.ensures g;
      depth = depth_push b p c.args.self.now.deepest c.max-self.result c.in-Ok.shape w.depth g (cc);
      pass = pass_next b p w.pass c.in-Ok.ensures.passes;
    }
