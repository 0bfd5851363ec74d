-- The parts of a repository by their numbers: classes, bodies, codes and properties.
use Rattle.std.specs.Prelude.{ℕ, zero, suc, ◌+◌, List, [], ◌∷◌, ◌++◌, Option, Some, None, map, flat_map, slice_get, length, codes, reverse}
use Rattle.type_lattice.specs.Classes.{Tree, chain}
use Rattle.hhbc_repo.specs.declared.body.Body.{Body}
use Rattle.hhbc_repo.specs.declared.body.Position.{Position}
use Rattle.hhbc_repo.specs.declared.body.Assert.{Assert}
use Rattle.hhbc_repo.specs.declared.code.Code.{Code}
use Rattle.hhbc_repo.specs.declared.repo.Class.{Class}
use Rattle.hhbc_repo.specs.Linked.{Linked}

-- the classes that each repository has before its own
abbrev pub built_in_names : List (List ℕ)
built_in_names =
    codes "Exception"
    ∷ codes "OutOfBoundsException"
    ∷ codes "InvalidOperationException"
    ∷ codes "UndefinedVariableException"
    ∷ codes "DivisionByZeroException"
    ∷ codes "TypehintViolationException"
    ∷ []

-- their parents: all others descend from Exception
abbrev pub built_in_tree : Tree
built_in_tree = None ∷ Some 0 ∷ Some 0 ∷ Some 0 ∷ Some 0 ∷ Some 0 ∷ []

-- how many properties each of them declares: Exception has its message
abbrev pub built_in_counts : List ℕ
built_in_counts = 1 ∷ 0 ∷ 0 ∷ 0 ∷ 0 ∷ 0 ∷ []

-- the names of all classes, by number
abbrev pub class_names : Linked → List (List ℕ)
class_names r = built_in_names ++ map (λ (c : Class). c.name) r.classes

-- the parent of each class
abbrev pub tree_of : Linked → Tree
tree_of r = built_in_tree ++ map (λ (c : Class). c.parent) r.classes

-- the functions, and then the methods of each class
abbrev pub bodies : Linked → List Body
bodies r = r.functions ++ flat_map (λ (c : Class). c.methods) r.classes

abbrev pub body_at : Linked → ℕ → Option Body
body_at r n = slice_get (bodies r) n

abbrev pub code_of : Option Position → Option Code
code_of None = None
code_of (Some p) = Some p.code

abbrev pub code_at : Body → ℕ → Option Code
code_at b p = code_of (slice_get b.positions p)

abbrev pub asserts_of : Option Position → List Assert
asserts_of None = []
asserts_of (Some p) = p.asserts

abbrev pub asserts_at : Body → ℕ → List Assert
asserts_at b p = asserts_of (slice_get b.positions p)

-- how many properties each class declares
abbrev pub property_counts : Linked → List ℕ
property_counts r = built_in_counts ++ map (λ (c : Class). length c.props) r.classes

-- so many numbers from the first on
abbrev pub numbers : ℕ → ℕ → List ℕ
numbers first zero = []
numbers first (suc n) = first ∷ numbers (suc first) n

-- the numbers of the properties that a class declares itself, where numbers begin at the first class of the list
abbrev pub own_from : ℕ → List ℕ → ℕ → List ℕ
own_from first [] c = []
own_from first (n ∷ ns) zero = numbers first n
own_from first (n ∷ ns) (suc c) = own_from (first + n) ns c

-- the numbers of an object's properties, those of its oldest ancestor first
abbrev pub properties_of : Linked → ℕ → List ℕ
properties_of r c = flat_map (λ d. own_from 0 (property_counts r) d) (reverse (chain (tree_of r) c))
