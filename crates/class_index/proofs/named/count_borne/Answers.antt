use Rattle.std.proofs.Common.{◌∙◌}
use Rattle.class_index.proofs.ByKey.{any_count}
use Rattle.class_index.proofs.named.count_borne.Goals as goal

pub returns-in-Any : goal.returns-in-Any
returns-in-Any c = c.properties.ensures ∙ any_count c.args.repo.now c.args.key.now c.in-Prop.t c.in-Prop.is c.in-Any.is
