use Rattle.std.proofs.Common.{◌≡◌, ◌∙◌, ℕ, Some, replicate, slice_set, subst, sym, ap, arith}
use Rattle.hhbc_repo.specs.Shapes.{Shape, empty_shape}
use Rattle.stack_verify.specs.Walk.{Ready}
use Rattle.stack_verify.proofs.Walking.{ready_first, no_shape}
use Rattle.stack_verify.proofs.walk.first_table.Goals as goal

pub returns : goal.returns
returns c =
    let b = c.args.body.now in
    let e = c.in_ok-table.ensures ∙ ap (λ (n : ℕ). replicate n no_shape) c.requires.all in
    let f : c.in_ok-empty.field-0 ≡ empty_shape b = c.in_ok-empty.ensures in
    subst (λ (s : Shape). Ready b 0 (slice_set c.in_ok-table.table.items 0 (Some s))) (sym f) (ready_first b c.in_ok-table.table.items e (let l = c.requires.any in let m = c.requires.all in omega (arith, l, m)))
