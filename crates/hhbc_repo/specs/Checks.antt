-- What checks come to: the first of their faults, or a value where there is none.
use Rattle.std.specs.Prelude.{◌≡◌, List, [], ◌∷◌, Result, Ok, Err}
use Rattle.hhbc_repo.specs.declared.link_fault.LinkFault.{LinkFault}
use Rattle.hhbc_repo.specs.declared.link_fault.LinkError.{LinkError}
use Rattle.hhbc_repo.specs.declared.link_fault.LinkError.TheVariants.{Fault, NoMemory}

-- the error tells the fault, or there is no memory
abbrev pub Tells : LinkFault → LinkError → Type 0
Tells f (Fault g) = g ≡ f
Tells f NoMemory = Unit {0}

-- the error tells the first of these faults, or there is no memory
abbrev pub TellsFirst : List LinkFault → LinkError → Type 0
TellsFirst fs (Fault f) = (more : List LinkFault) × (fs ≡ f ∷ more)
TellsFirst fs NoMemory = Unit {0}

abbrev pub Checks : {V : Type 0} → List LinkFault → V → Result V LinkError → Type 0
Checks fs v (Ok r) = (fs ≡ []) × (r ≡ v)
Checks fs v (Err e) = TellsFirst fs e
