use Rattle.std.proofs.Common.{◌≡◌, ◌++◌, length, map}
use Rattle.std.specs.List.{flat_map}
use Rattle.std.specs.Vec.Iter.{into_iter_items, into_iter_len}
use Rattle.type_lattice.specs.Types.{never}
use Rattle.hhbc_repo.specs.TypeSyntax as grammar
use Rattle.hhbc_repo.specs.TypeSyntax.{type_classes, type_from}
use Rattle.hhas_read.specs.Written.{atom_of}
use Rattle.hhas_read.proofs.type_parts.parts_of_plain_atoms.Given as goal

abbrev pub invariant-loop-atom : goal.invariant-loop-atom
invariant-loop-atom l = record {
  made : type_from (length l.classes) (map grammar.Plain (map atom_of (into_iter_items l.atom-iterator))) l.t
      ≡ type_from 0 (map grammar.Plain (map atom_of (into_iter_items l.initial.atom-iterator))) never;
  named : l.classes ++ flat_map type_classes (map grammar.Plain (map atom_of (into_iter_items l.atom-iterator)))
      ≡ flat_map type_classes (map grammar.Plain (map atom_of (into_iter_items l.initial.atom-iterator)));
  len : into_iter_len l.atom-iterator ≡ length (into_iter_items l.atom-iterator);
}
