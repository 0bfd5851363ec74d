use Rattle.std.proofs.Common.{◌≡◌, map, take}
use Rattle.hhbc_repo.specs.Outlines.{class_outline}
use Rattle.hhbc_repo.proofs.outlines.class_outlines.Given as goal

abbrev pub invariant-loop-class : goal.invariant-loop-class
invariant-loop-class l = l.all ≡ map class_outline (take l.class-index l.classes)
