use Rattle.std.proofs.Common.{◌≡◌, drop}
use Rattle.type_lattice.specs.Types.{never}
use Rattle.class_index.specs.Named.{key_names}
use Rattle.class_index.specs.Reached.{borne, gathered}
use Rattle.class_index.proofs.reading.property_type.Given as goal

abbrev pub invariant-loop-at : goal.invariant-loop-at
invariant-loop-at l =
    gathered l.fn.repo l.fn.facts.props l.fn.part (key_names l.fn.key) l.all (drop l.at (borne l.fn.repo (key_names l.fn.key)))
    ≡ gathered l.fn.repo l.fn.facts.props l.fn.part (key_names l.fn.key) never (borne l.fn.repo (key_names l.fn.key))
