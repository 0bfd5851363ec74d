use Rattle.std.proofs.Common.{◌∙◌}
use Rattle.stack_verify.proofs.Visiting.{Visit, is_given, visit_ok, check_stops, edge_stops}
use Rattle.stack_verify.proofs.walk.visit.Goals as goal

pub returns-in-Err-clause-shape : goal.returns-in-Err-clause-shape
returns-in-Err-clause-shape c =
    let b = c.args.body.now in
    let p = c.args.position in
    let x = c.position_at-here.result.now in
    let T = c.args.table.now.items in
    let v : Visit b p x T = record { ready = c.requires.ready; place = c.requires.place; here = c.position_at-here.ensures } in
    let g = c.in_ok-shape.ensures.shape ∙ is_given b p x T v in
    check_stops b p x c.in_ok-shape.shape c.in-Err.stop v.here g c.in-Err.ensures

pub returns-in-Ok-follow-clause-passes : goal.returns-in-Ok-follow-clause-passes
returns-in-Ok-follow-clause-passes c =
    let b = c.args.body.now in
    let p = c.args.position in
    let x = c.position_at-here.result.now in
    let T = c.args.table.now.items in
    let v : Visit b p x T = record { ready = c.requires.ready; place = c.requires.place; here = c.position_at-here.ensures } in
    let g = c.in_ok-shape.ensures.shape ∙ is_given b p x T v in
    (visit_ok b p x T c.settle.new.table.items c.follow.new.table.items c.in_ok-shape.shape c.args.handler v g c.requires.handler c.in_ok-shape.ensures.table c.in-Ok.ensures c.in-Ok-follow.ensures).passes

pub returns-in-Ok-follow-clause-ready : goal.returns-in-Ok-follow-clause-ready
returns-in-Ok-follow-clause-ready c =
    let b = c.args.body.now in
    let p = c.args.position in
    let x = c.position_at-here.result.now in
    let T = c.args.table.now.items in
    let v : Visit b p x T = record { ready = c.requires.ready; place = c.requires.place; here = c.position_at-here.ensures } in
    let g = c.in_ok-shape.ensures.shape ∙ is_given b p x T v in
    (visit_ok b p x T c.settle.new.table.items c.follow.new.table.items c.in_ok-shape.shape c.args.handler v g c.requires.handler c.in_ok-shape.ensures.table c.in-Ok.ensures c.in-Ok-follow.ensures).ready

pub returns-in-Err-follow-clause-shape : goal.returns-in-Err-follow-clause-shape
returns-in-Err-follow-clause-shape c =
    let b = c.args.body.now in
    let p = c.args.position in
    let x = c.position_at-here.result.now in
    let T = c.args.table.now.items in
    let v : Visit b p x T = record { ready = c.requires.ready; place = c.requires.place; here = c.position_at-here.ensures } in
    let g = c.in_ok-shape.ensures.shape ∙ is_given b p x T v in
    edge_stops b p x T c.settle.new.table.items c.in_ok-shape.shape c.args.handler c.in-Err-follow.stop v g c.requires.handler c.in_ok-shape.ensures.table c.in-Ok.ensures c.in-Err-follow.ensures
