-- What is stated of results and properties and asserted of positions keeps to its ranges and to the numbers of its body and
-- repository, as a test.
use Rattle.std.specs.Prelude.{ℕ, zero, suc, ◌-◌, Bool, ◌&&◌, nat_lt, List, [], ◌∷◌, Option, length, if◌then◌else◌}
use Rattle.std.specs.List.{list_all}
use Rattle.type_lattice.specs.declared.types.HType.{HType}
use Rattle.type_lattice.specs.InRange.{where_there, is_proper}
use Rattle.hhbc_repo.specs.declared.body.Body.{Body}
use Rattle.hhbc_repo.specs.declared.body.Position.{Position}
use Rattle.hhbc_repo.specs.declared.body.Assert.{Assert}
use Rattle.hhbc_repo.specs.declared.repo.Class.{Class}
use Rattle.hhbc_repo.specs.declared.repo.Property.{Property}
use Rattle.hhbc_repo.specs.Bodies.{class_names}
use Rattle.hhbc_repo.specs.Linked.{Linked}
use Rattle.hhbc_repo.specs.Within.{Bounds, assert_within, bounds_of}

abbrev pub position_claims_within : Bounds → Position → Bool
position_claims_within b p = list_all (assert_within b) p.asserts

-- of a repository with so many classes
abbrev pub body_claims_within : ℕ → Body → Bool
body_claims_within classes b = where_there (is_proper classes) b.stated && list_all (position_claims_within (bounds_of classes b)) b.positions

abbrev pub property_claims_within : ℕ → Property → Bool
property_claims_within classes p = where_there (is_proper classes) p.stated

abbrev pub class_claims_within : ℕ → Class → Bool
class_claims_within classes c = list_all (property_claims_within classes) c.props && list_all (body_claims_within classes) c.methods

abbrev pub claims_within : Linked → Bool
claims_within r =
    list_all (body_claims_within (length (class_names r))) r.functions && list_all (class_claims_within (length (class_names r))) r.classes

-- ---- claims that are replaced

-- a list with a change of what stands at a place
abbrev pub changed : {A : Type 0} → (A → A) → ℕ → List A → List A
changed f n [] = []
changed f zero (x ∷ xs) = f x ∷ xs
changed f (suc n) (x ∷ xs) = x ∷ changed f n xs

-- classes with a change of one method, where the methods of all are numbered in order
abbrev pub changed_method : (Body → Body) → ℕ → List Class → List Class
changed_method f n [] = []
changed_method f n (c ∷ cs) =
    if nat_lt n (length c.methods) then record c { methods = changed f n c.methods } ∷ cs else c ∷ changed_method f (n - length c.methods) cs

-- and with one of a property
abbrev pub changed_property : (Property → Property) → ℕ → List Class → List Class
changed_property f n [] = []
changed_property f n (c ∷ cs) =
    if nat_lt n (length c.props) then record c { props = changed f n c.props } ∷ cs else c ∷ changed_property f (n - length c.props) cs

-- a repository with a change of the body of a number
abbrev pub changed_body : (Body → Body) → ℕ → Linked → Linked
changed_body f n r =
    if nat_lt n (length r.functions) then record r { functions = changed f n r.functions }
    else record r { classes = changed_method f (n - length r.functions) r.classes }

-- what a body states of what it returns, a property of what it holds, and a position asserts
abbrev pub returning : Option HType → Body → Body
returning t b = record b { stated = t }

abbrev pub holding : Option HType → Property → Property
holding t p = record p { stated = t }

abbrev pub claiming : List Assert → Position → Position
claiming cs p = record p { asserts = cs }

abbrev pub asserting : ℕ → List Assert → Body → Body
asserting p cs b = record b { positions = changed (claiming cs) p b.positions }

-- a repository in which the one type that is stated, or the one list of assertions, is another. The first property is that of
-- Exception, which states nothing
abbrev pub with_returns : ℕ → Option HType → Linked → Linked
with_returns n t r = changed_body (returning t) n r

abbrev pub with_asserts : ℕ → ℕ → List Assert → Linked → Linked
with_asserts n p cs r = changed_body (asserting p cs) n r

abbrev pub with_holds : ℕ → Option HType → Linked → Linked
with_holds n t r = record r { classes = changed_property (holding t) (n - 1) r.classes }
