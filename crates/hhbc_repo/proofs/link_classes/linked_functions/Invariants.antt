use Rattle.std.proofs.Common.{◌≡◌, ◌++◌, length, map}
use Rattle.std.specs.List.{flat_map}
use Rattle.std.specs.Vec.Iter.{into_iter_items, into_iter_len}
use Rattle.hhbc_repo.specs.declared.parts.BodyParts.{BodyParts}
use Rattle.hhbc_repo.specs.LinkFaults.{body_faults}
use Rattle.hhbc_repo.specs.Resolved.{resolved_body}
use Rattle.hhbc_repo.proofs.link_classes.linked_functions.Given as goal

abbrev pub invariant-loop-function : goal.invariant-loop-function
invariant-loop-function l = record {
  left : flat_map body_faults (map (λ (b : BodyParts). record { whole = l.known; body = b; owner = b.name }) (into_iter_items l.initial.function-iterator))
      ≡ flat_map body_faults (map (λ (b : BodyParts). record { whole = l.known; body = b; owner = b.name }) (into_iter_items l.function-iterator));
  all : l.all ++ map (resolved_body l.known) (into_iter_items l.function-iterator) ≡ map (resolved_body l.known) (into_iter_items l.initial.function-iterator);
  len : into_iter_len l.function-iterator ≡ length (into_iter_items l.function-iterator);
}
