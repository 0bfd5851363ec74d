use Rattle.std.proofs.Common.{◌≡◌, ◌+◌, drop}
use Rattle.hhbc_repo.specs.LinkFaults.{member_checks, each_class, first_class}
use Rattle.hhbc_repo.proofs.member_checks.check_members.Given as goal

abbrev pub invariant-loop-class : goal.invariant-loop-class
invariant-loop-class l =
    (l.number ≡ 6 + l.class-index)
    × (each_class (member_checks l.known) l.number (drop l.class-index l.classes) ≡ each_class (member_checks l.known) first_class l.classes)
