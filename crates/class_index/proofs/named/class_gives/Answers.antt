use Rattle.std.proofs.Common.{◌∙◌, ap}
use Rattle.type_lattice.specs.Classes.{below}
use Rattle.class_index.proofs.ByKey.{any_gives}
use Rattle.class_index.proofs.named.class_gives.Goals as goal

pub returns-in-Any : goal.returns-in-Any
returns-in-Any c =
    c.below.ensures.value ∙ ap (λ t. below t c.args.class c.owner_of.result) c.tree.ensures ∙ any_gives c.args.repo.now c.args.key.now c.in-Prop.t c.in-Prop.is c.in-Any.is c.is_sound.ensures.sound c.args.class c.args.property c.owner_of.result c.requires c.owner_of.ensures
