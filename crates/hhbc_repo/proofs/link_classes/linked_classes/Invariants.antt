use Rattle.std.proofs.Common.{◌≡◌, ◌++◌, length, map}
use Rattle.std.specs.List.{flat_map}
use Rattle.std.specs.Vec.Iter.{into_iter_items, into_iter_len}
use Rattle.hhbc_repo.specs.LinkFaults.{body_faults, method_places}
use Rattle.hhbc_repo.specs.Resolved.{resolved_class}
use Rattle.hhbc_repo.proofs.link_classes.linked_classes.Given as goal

abbrev pub invariant-loop-class : goal.invariant-loop-class
invariant-loop-class l = record {
  left : flat_map body_faults (flat_map (method_places l.known) (into_iter_items l.initial.class-iterator))
      ≡ flat_map body_faults (flat_map (method_places l.known) (into_iter_items l.class-iterator));
  all : l.all ++ map (resolved_class l.known) (into_iter_items l.class-iterator) ≡ map (resolved_class l.known) (into_iter_items l.initial.class-iterator);
  len : into_iter_len l.class-iterator ≡ length (into_iter_items l.class-iterator);
}
