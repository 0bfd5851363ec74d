use Rattle.std.proofs.Common.{◌≡◌, drop}
use Rattle.class_index.specs.Reading.{path_type}
use Rattle.class_index.proofs.reading.path_type.Given as goal

abbrev pub invariant-loop-key : goal.invariant-loop-key
invariant-loop-key l =
    path_type l.fn.repo l.fn.facts.props l.t (drop l.key-index l.fn.keys) ≡ path_type l.fn.repo l.fn.facts.props l.fn.base l.fn.keys
