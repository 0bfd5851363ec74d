use Rattle.std.proofs.Common.{◌≡◌, ◌++◌, length, map}
use Rattle.std.specs.Vec.Iter.{into_iter_items, into_iter_len}
use Rattle.hhbc_repo.specs.Resolved.{resolved_property}
use Rattle.hhbc_repo.proofs.link_classes.properties.Given as goal

abbrev pub invariant-loop-part : goal.invariant-loop-part
invariant-loop-part l = record {
  all : l.all ++ map (resolved_property l.known) (into_iter_items l.part-iterator) ≡ map (resolved_property l.known) (into_iter_items l.initial.part-iterator);
  len : into_iter_len l.part-iterator ≡ length (into_iter_items l.part-iterator);
}
