-- Where each body stands: among the functions, or among the methods of a class.
use Rattle.std.specs.Prelude.{ℕ, suc, ◌-◌, ◌≤◌, List, [], ◌∷◌, ◌++◌, Option, None, Some, slice_get}
use Rattle.hhbc_repo.specs.declared.body.Body.{Body}
use Rattle.hhbc_repo.specs.declared.repo.Class.{Class}
use Rattle.hhbc_repo.specs.declared.homes.Home.{Home}
use Rattle.hhbc_repo.specs.LinkFaults.{first_class}

-- bodies of one class, or functions, from a place on
abbrev pub homes_at : Option ℕ → ℕ → List Body → List Home
homes_at class place [] = []
homes_at class place (b ∷ bs) = record { class = class; place = place } ∷ homes_at class (suc place) bs

-- the methods of classes from a number on
abbrev pub homes_from : ℕ → List Class → List Home
homes_from n [] = []
homes_from n (c ∷ cs) = homes_at (Some n) 0 c.methods ++ homes_from (suc n) cs

abbrev pub homes_of : List Body → List Class → List Home
homes_of functions classes = homes_at None 0 functions ++ homes_from first_class classes

-- a number that a declared class has
abbrev pub IsDeclared : Option ℕ → Type 0
IsDeclared None = Unit {0}
IsDeclared (Some c) = first_class ≤ c

-- the methods of a class, and the functions where there is none
abbrev pub methods_of : Option Class → List Body
methods_of None = []
methods_of (Some c) = c.methods

abbrev pub bodies_in : List Body → List Class → Option ℕ → List Body
bodies_in functions classes None = functions
bodies_in functions classes (Some c) = methods_of (slice_get classes (c - first_class))
