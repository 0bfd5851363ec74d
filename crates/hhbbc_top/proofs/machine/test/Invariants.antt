use Rattle.std.proofs.Common.{◌≡◌, [], drop}
use Rattle.hhbc_repo.specs.Bodies.{built_in_tree}
use Rattle.hhbc_semantics.specs.Run as runs
use Rattle.hhbbc_top.specs.Running.{frame_of}
use Rattle.hhbbc_top.proofs.machine.test.Given as goal

abbrev pub invariant-loop-assert : goal.invariant-loop-assert
invariant-loop-assert l = runs.test built_in_tree [] (frame_of l.machine) (drop l.assert-index l.asserts) ≡ runs.test built_in_tree [] (frame_of l.machine) l.asserts
