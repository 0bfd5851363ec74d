use Rattle.std.proofs.Common.{◌≡◌, ◌++◌, codes, length, map}
use Rattle.std.specs.List.{flat_map}
use Rattle.std.specs.Vec.Iter.{into_iter_items, into_iter_len}
use Rattle.hhbc_repo.specs.declared.parts.BodyParts.{BodyParts}
use Rattle.hhbc_repo.specs.LinkFaults.{body_faults}
use Rattle.hhbc_repo.specs.Resolved.{resolved_body}
use Rattle.hhbc_repo.proofs.link_classes.linked_methods.Given as goal

abbrev pub invariant-loop-method : goal.invariant-loop-method
invariant-loop-method l = record {
  left : flat_map body_faults (map (λ (b : BodyParts). record { whole = l.known; body = b; owner = l.class ++ (codes "::" ++ b.name) }) (into_iter_items l.initial.method-iterator))
      ≡ flat_map body_faults (map (λ (b : BodyParts). record { whole = l.known; body = b; owner = l.class ++ (codes "::" ++ b.name) }) (into_iter_items l.method-iterator));
  all : l.all ++ map (resolved_body l.known) (into_iter_items l.method-iterator) ≡ map (resolved_body l.known) (into_iter_items l.initial.method-iterator);
  len : into_iter_len l.method-iterator ≡ length (into_iter_items l.method-iterator);
}
