use Rattle.std.proofs.Common.{◌≡◌}
use Rattle.hhbbc_top.specs.Running.{config_of}
use Rattle.hhbbc_top.proofs.Machines.{main_after}
use Rattle.hhbbc_top.proofs.machine.run.Given as goal

abbrev pub invariant-loop-count : goal.invariant-loop-count
invariant-loop-count l = config_of l.machine ≡ main_after l.main l.asserted l.count
