use Rattle.std.proofs.Common.{refl}
use Rattle.hack_values.proofs.known.Known.empty.Goals as goal

pub returns-clause-vec : goal.returns-clause-vec
returns-clause-vec c = record { weighs = refl; deep = c.exactly.ensures.exact 1 refl }

pub returns-clause-dict : goal.returns-clause-dict
returns-clause-dict c = record { weighs = refl; deep = c.exactly.ensures.exact 1 refl }
