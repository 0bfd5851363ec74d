use Rattle.std.proofs.Common.{ℕ, [], length, codes, subst}
use Rattle.hhbc_repo.specs.Checks.{TellsFirst}
use Rattle.hhbc_repo.specs.LinkFaults.{Whole, places, within}
use Rattle.hhbc_repo.proofs.Checking.{checks_first}
use Rattle.hhbc_repo.proofs.link_counts.check_counts.Goals as goal

pub returns-in-Err : goal.returns-in-Err
returns-in-Err c =
    let w : Whole = record { functions = c.args.functions.now; classes = c.args.classes.now } in
    let e = c.in-Err.error in
    checks_first (within 65535 (length (places w)) [] (codes "functions")) (within 16384 (length w.classes) [] (codes "classes")) e
    (subst (λ (n : ℕ). TellsFirst (within 65535 n [] (codes "functions")) e) c.in-Some.ensures c.in-Err.ensures)
