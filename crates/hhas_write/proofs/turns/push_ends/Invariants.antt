use Rattle.std.proofs.Common.{replicate}
use Rattle.hhbc_repo.specs.declared.parts.ItemParts.TheVariants as items
use Rattle.hhas_write.specs.Items.{Writes}
use Rattle.hhas_write.proofs.turns.push_ends.Given as goal

abbrev pub invariant-loop : goal.invariant-loop
invariant-loop l = Writes (replicate l.counter items.End) l.fn.out l.fn.depth l.out l.depth
