use Rattle.std.proofs.Common.{◌∙◌, sym, ap, ap₂}
use Rattle.type_lattice.specs.Join.{join}
use Rattle.class_index.specs.Named.{key_names}
use Rattle.class_index.specs.Reached.{gathered}
use Rattle.class_index.proofs.Joining.{gathered_not, gathered_one}
use Rattle.class_index.proofs.reading.with_property.Goals as goal

pub returns-then-is_reached : goal.returns-then-is_reached
returns-then-is_reached c =
    λ rest. ap (λ t. gathered c.args.repo.now c.args.facts.now.props c.args.part (key_names c.args.key.now) t rest)
    (c.join.ensures ∙ ap₂ (λ tree t. join tree c.args.all t) c.tree.ensures c.fact_of.ensures)
    ∙ gathered_one c.args.repo.now c.is_sound.ensures.sound.forest c.args.facts.now.props c.args.part (key_names c.args.key.now) c.args.all c.args.property rest (sym c.if-is_reached.ensures)

pub returns-else-is_reached : goal.returns-else-is_reached
returns-else-is_reached c =
    λ rest. gathered_not c.args.repo.now c.is_sound.ensures.sound.forest c.args.facts.now.props c.args.part (key_names c.args.key.now) c.args.all c.args.property rest (sym c.if-is_reached.ensures)
