use Rattle.std.proofs.Common.{◌≡◌, drop, map}
use Rattle.type_lattice.specs.Types.{never_leaf}
use Rattle.hhbc_repo.specs.TypeSyntax.{leaf_from}
use Rattle.hhas_read.specs.Written.{atom_of}
use Rattle.hhas_read.proofs.type_parts.leaf_of_atoms.Given as goal

abbrev pub invariant-loop-atom : goal.invariant-loop-atom
invariant-loop-atom l = leaf_from l.number (map atom_of (drop l.atom-index l.atoms)) l.leaf ≡ leaf_from l.fn.first (map atom_of l.atoms) never_leaf
