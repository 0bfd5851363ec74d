use Rattle.std.proofs.Common.{length, arith}
use Rattle.flow_regions.proofs.Guarding.{no_region, region_before}
use Rattle.flow_regions.proofs.regions.handlers.Goals as goal

pub loop-at-init : goal.loop-at-init
loop-at-init c =
    no_region c.as_slice-regions.result.now _ (length c.args.body.now.positions) c.in_ok-count_positions.field-0 c.in_ok-found.found c.in_ok-found.ensures
    c.in_ok-count_positions.ensures (omega arith)

pub loop-at-preserved : goal.loop-at-preserved
loop-at-preserved c =
    region_before c.as_slice-regions.result.now c.loop-at.at (length c.args.body.now.positions) _ c.loop-at.found c.guard_region.new.handlers
    c.loop-at-test.true c.loop-at.auto.at c.loop-at.invariant c.guard_region.ensures
