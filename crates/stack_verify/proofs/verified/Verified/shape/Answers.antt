use Rattle.std.proofs.Common.{◌∙◌, ap, map, arith}
use Rattle.hhbc_repo.specs.Linked.{Linked}
use Rattle.hhbc_repo.specs.Bodies.{bodies}
use Rattle.stack_verify.specs.Walk.{kept_of}
use Rattle.stack_verify.proofs.Bodies.{all_long, body_there, table_there, table_long, kept_there}
use Rattle.stack_verify.proofs.verified.Verified.shape.Goals as goal

pub table_in-table-requires : goal.table_in-table-requires
table_in-table-requires c =
    let e = c.self.invariant.given ∙ ap (λ (r : Linked). map kept_of (bodies r)) c.self.view_is in
    all_long c.args.self.now c.args.body c.self.inside.shapes e c.requires.body

pub shape_in-requires : goal.shape_in-requires
shape_in-requires c =
    let r = c.args.self.now in
    let e = c.self.invariant.given ∙ ap (λ (r : Linked). map kept_of (bodies r)) c.self.view_is in
    let w = body_there (bodies r) c.args.body c.requires.body in
    let t = table_long w.0 c.table_in-table.result.now (table_there r c.args.body c.self.inside.shapes c.table_in-table.result.now w.0 e c.table_in-table.ensures w.1) in
    let l = c.requires.position w.0 w.1 in
    omega (arith, t, l)

pub returns : goal.returns
returns c =
    let r = c.args.self.now in
    let e = c.self.invariant.given ∙ ap (λ (r : Linked). map kept_of (bodies r)) c.self.view_is in
    λ b f.
    kept_there b c.args.position c.table_in-table.result.now c.shape_in.result.now
    (table_there r c.args.body c.self.inside.shapes c.table_in-table.result.now b e c.table_in-table.ensures f) c.shape_in.ensures
