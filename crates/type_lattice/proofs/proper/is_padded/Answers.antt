use Rattle.std.proofs.Common.{◌∙◌}
use Rattle.type_lattice.proofs.Ranges.{padded_tested}
use Rattle.type_lattice.proofs.proper.is_padded.Goals as goal

pub returns-then-len-le32 : goal.returns-then-len-le32
returns-then-len-le32 c = c.are_zeros.ensures ∙ padded_tested c.args.len c.args.bytes.now c.requires c.if-len-le32.true c.type_inv.bytes
