use Rattle.std.proofs.Common.{map, take}
use Rattle.hhbc_repo.specs.declared.parts.BodyParts.{BodyParts}
use Rattle.hhbc_repo.specs.FirstNumbers.{Finds}
use Rattle.hhbc_repo.proofs.declared.BodyTable.new.Given as goal

abbrev pub invariant-loop-place : goal.invariant-loop-place
invariant-loop-place l = Finds (record { known = l.known; firsts = l.firsts }) (take l.place (map (λ (b : BodyParts). b.name) l.bodies))
