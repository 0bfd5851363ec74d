use Rattle.std.proofs.Common.{◌+◌, ◌∷◌, List, drop, sym, ap}
use Rattle.std.specs.List.{flat_map}
use Rattle.hhbc_repo.specs.declared.parts.ItemParts.{ItemParts}
use Rattle.hhbc_repo.specs.LinkFaults.{position_faults, position_in}
use Rattle.hhbc_repo.proofs.CheckLoops.{loop_tells}
use Rattle.hhbc_repo.proofs.scope.Scope.positions_among.Goals as goal

pub returns-in-Err : goal.returns-in-Err
returns-in-Err c =
    let p = c.args.self.now in
    let l = c.loop-item in
    let of = λ (items : List ItemParts). flat_map (position_faults p) (flat_map position_in items) in
    let rest = drop (l.item-index + 1) c.args.items.now in
    loop_tells of c.args.items.now l.item-index c.item-item.result c.item-item.result (position_faults p c.in-Position.parts) (of rest) (of c.args.items.now) c.in-Err.error
    c.loop-item-test.true c.item-item.is (sym l.invariant.0) (ap (λ (item : ItemParts). of (item ∷ rest)) c.in-Position.is) c.in-Err.ensures
