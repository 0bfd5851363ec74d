use Rattle.std.proofs.Common.{◌≡◌, drop}
use Rattle.type_lattice.specs.Never.{all_alive}
use Rattle.hhbbc_top.proofs.annotation.are_alive.Given as goal

abbrev pub invariant-loop-t : goal.invariant-loop-t
invariant-loop-t l = all_alive (drop l.t-index l.ts) ≡ all_alive l.ts
