use Rattle.std.proofs.Common.{rules, ◌≡◌, ℕ, Bool, List, [], true, false, not, take, ap, subst, ◌++◌, nat_le}
use Rattle.type_lattice.specs.Classes.{Tree, chain, has, parent_of}
use Rattle.hhbc_repo.specs.Checks.{Checks, Tells, TellsFirst}
use Rattle.hhbc_repo.specs.LinkFaults.{Name, Whole, above, check, class_names, different, names, parent_faults, parents}
use Rattle.hhbc_repo.specs.declared.link_fault.LinkFault.{LinkFault}
use Rattle.hhbc_repo.specs.declared.link_fault.LinkKind.TheVariants as kinds
use Rattle.hhbc_repo.proofs.Checking.{check_passes, check_told, checks_first, checks_then, tells_then}
use Rattle.hhbc_repo.proofs.class_checks.check_class.Goals as goal

-- whether a class before this one has the name
abbrev taken : Whole → ℕ → Name → Bool
taken w n name = names (take n (class_names w)) name

abbrev of_chain : Tree → ℕ → Name → List LinkFault
of_chain tree n name =
    check (not (has n (above tree (parent_of tree n)))) kinds.ClassCycle name name 0 ++ check (nat_le (different (chain tree n)) 64) kinds.ClassTooDeep name name 0

pub returns-then-is_taken : goal.returns-then-is_taken
returns-then-is_taken c =
    let w = c.args.known.now in
    let name = c.args.class.now.name in
    let met : taken w c.args.number name ≡ true = search rules in
    let told : Tells (record { kind = kinds.DuplicateName; owner = name; name = name; found = 0 }) c.plain.result = search rules in
    checks_first _ _ c.plain.result (check_told (not (taken w c.args.number name)) kinds.DuplicateName name name 0 c.plain.result (ap not met) told)

pub returns-in-Ok : goal.returns-in-Ok
returns-in-Ok c =
    let w = c.args.known.now in
    let class = c.args.class.now in
    let new : taken w c.args.number class.name ≡ false = search rules in
    let parent : parent_faults w class.name class.parent ≡ [] = search rules in
    let r = c.check_chain.result in
    let chain : Checks (of_chain (parents w) c.args.number class.name) tt r =
    subst (λ (n : Name). Checks (of_chain (parents w) c.args.number n) tt r) c.bytes-name.ensures
    (subst (λ (t : Tree). Checks (of_chain t c.args.number c.bytes-name.result.now) tt r) c.parents.ensures c.check_chain.ensures) in
    checks_then _ _ tt r (check_passes (not (taken w c.args.number class.name)) kinds.DuplicateName class.name class.name 0 (ap not new)) (checks_then _ _ tt r parent chain)

pub returns-in-Err : goal.returns-in-Err
returns-in-Err c =
    let w = c.args.known.now in
    let class = c.args.class.now in
    let e = c.in-Err.error in
    let new : taken w c.args.number class.name ≡ false = search rules in
    let parent : TellsFirst (parent_faults w class.name class.parent) e = search rules in
    tells_then _ _ e (check_passes (not (taken w c.args.number class.name)) kinds.DuplicateName class.name class.name 0 (ap not new)) (checks_first _ _ e parent)
