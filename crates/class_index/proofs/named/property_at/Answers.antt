use Rattle.std.proofs.Common.{arith}
use Rattle.class_index.proofs.ByKey.{any_at, any_fits}
use Rattle.class_index.proofs.named.property_at.Goals as goal

pub overflow_cast-result : goal.overflow_cast-result
overflow_cast-result c = let f = any_fits c.args.repo.now c.args.key.now c.in-Prop.t c.in-Prop.is c.in-Any.is c.is_sound.ensures.sound c.args.at c.requires in omega (arith, f)

pub returns-in-Any : goal.returns-in-Any
returns-in-Any c = any_at c.args.repo.now c.args.key.now c.in-Prop.t c.in-Prop.is c.in-Any.is c.args.at c.requires
