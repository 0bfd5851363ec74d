-- One check, and checks one after the other.
use Rattle.std.proofs.Common.{◌≡◌, ℕ, Bool, true, false, List, [], ◌∷◌, ◌++◌, Result, refl, sym, ap, ◌∙◌, subst}
use Rattle.hhbc_repo.specs.declared.link_fault.LinkFault.{LinkFault}
use Rattle.hhbc_repo.specs.declared.link_fault.LinkKind.{LinkKind}
use Rattle.hhbc_repo.specs.declared.link_fault.LinkError.{LinkError}
use Rattle.hhbc_repo.specs.declared.link_fault.LinkError.TheVariants.{Fault, NoMemory}
use Rattle.hhbc_repo.specs.LinkFaults.{Name, check}
use Rattle.hhbc_repo.specs.Checks.{Tells, TellsFirst, Checks}

-- a check that fails, and its fault
pub check_told : (passes : Bool) (kind : LinkKind) (owner name : Name) (found : ℕ) (e : LinkError)
    → passes ≡ false → Tells (record { kind = kind; owner = owner; name = name; found = found }) e → TellsFirst (check passes kind owner name found) e
check_told true kind owner name found e is told = absurd (cc)
check_told false kind owner name found (Fault f) is told = ([], ap (λ g. g ∷ []) (sym told))
check_told false kind owner name found NoMemory is told = tt

pub check_passes : (passes : Bool) (kind : LinkKind) (owner name : Name) (found : ℕ) → passes ≡ true → check passes kind owner name found ≡ []
check_passes true kind owner name found is = refl
check_passes false kind owner name found is = absurd (cc)

-- ---- checks, and more behind them

-- the first of these is the first of more
pub checks_first : (fs gs : List LinkFault) (e : LinkError) → TellsFirst fs e → TellsFirst (fs ++ gs) e
checks_first fs gs (Fault f) told = (told.0 ++ gs, ap (λ l. l ++ gs) told.1)
checks_first fs gs NoMemory told = tt

-- where these pass, those behind them decide
pub checks_then : {V : Type 0} (fs gs : List LinkFault) (v : V) (r : Result V LinkError) → fs ≡ [] → Checks gs v r → Checks (fs ++ gs) v r
checks_then fs gs v r none c = subst (λ (l : List LinkFault). Checks (l ++ gs) v r) (sym none) c

-- where these pass, the first of those behind them
pub tells_then : (fs gs : List LinkFault) (e : LinkError) → fs ≡ [] → TellsFirst gs e → TellsFirst (fs ++ gs) e
tells_then fs gs e none told = subst (λ l. TellsFirst (l ++ gs) e) (sym none) told

pub both_pass : (fs gs : List LinkFault) → fs ≡ [] → gs ≡ [] → fs ++ gs ≡ []
both_pass fs gs none more = ap (λ l. l ++ gs) none ∙ more
