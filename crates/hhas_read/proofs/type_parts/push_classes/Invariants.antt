use Rattle.std.proofs.Common.{◌≡◌, ◌++◌, length, map}
use Rattle.std.specs.List.{flat_map}
use Rattle.std.specs.Vec.Iter.{into_iter_items, into_iter_len}
use Rattle.hhbc_repo.specs.TypeSyntax.{atom_classes}
use Rattle.hhas_read.specs.Written.{atom_of}
use Rattle.hhas_read.proofs.type_parts.push_classes.Given as goal

abbrev pub invariant-loop-atom : goal.invariant-loop-atom
invariant-loop-atom l = record {
  named : l.classes ++ flat_map atom_classes (map atom_of (into_iter_items l.atom-iterator))
      ≡ l.fn.classes ++ flat_map atom_classes (map atom_of (into_iter_items l.initial.atom-iterator));
  len : into_iter_len l.atom-iterator ≡ length (into_iter_items l.atom-iterator);
}
