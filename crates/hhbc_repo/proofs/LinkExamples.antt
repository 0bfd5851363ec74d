-- What the checks of linking say of small repositories.
use Rattle.std.proofs.Common.{◌≡◌, refl, List, [], ◌∷◌, Option, Some, None, slice_get, codes}
use Rattle.hhbc_ops.specs.declared.op.Op.{Op}
use Rattle.hhbc_ops.specs.declared.op.Op.TheVariants as ops
use Rattle.hhbc_repo.specs.declared.link_fault.LinkFault.{LinkFault}
use Rattle.hhbc_repo.specs.declared.link_fault.LinkKind.TheVariants as kinds
use Rattle.hhbc_repo.specs.declared.parts.BodyParts.{BodyParts}
use Rattle.hhbc_repo.specs.declared.parts.ClassParts.{ClassParts}
use Rattle.hhbc_repo.specs.declared.parts.ItemParts.{ItemParts}
use Rattle.hhbc_repo.specs.declared.parts.ItemParts.TheVariants as items
use Rattle.hhbc_repo.specs.declared.parts.CodeParts.TheVariants as forms
use Rattle.hhbc_repo.specs.declared.parts.ImmParts.{ImmParts}
use Rattle.hhbc_repo.specs.declared.parts.ImmParts.TheVariants as imms
use Rattle.hhbc_repo.specs.LinkFaults.{Name, Whole, faults, nesting_from}
use Rattle.hhbc_repo.specs.Resolved.{regions_from, label_from}

plain : Op → List ImmParts → ItemParts
plain op imms = items.Position (record { asserts = []; code = forms.Plain (record { op = op; imms = imms }) })

returns : ItemParts
returns = plain ops.RetC []

main : List Name → List ItemParts → BodyParts
main locals is = record { name = codes "main"; params = []; locals = locals; iters = 0; stated = None; items = is }

only : BodyParts → List ClassParts → Whole
only b cs = record { functions = b ∷ []; classes = cs }

class : Name → Option Name → ClassParts
class name parent = record { name = name; parent = parent; consts = []; props = []; methods = [] }

first : Whole → Option LinkFault
first w = slice_get (faults w) 0

-- two classes that descend from each other
cycle : first (record { functions = []; classes = class (codes "A") (Some (codes "B")) ∷ class (codes "B") (Some (codes "A")) ∷ [] })
    ≡ Some (record { kind = kinds.ClassCycle; owner = codes "A"; name = codes "A"; found = 0 })
unfolding first class
cycle = refl

-- a local that isn't declared
unknown-local : first (only (main [] (plain ops.CGetL (imms.Local (codes "x") ∷ []) ∷ returns ∷ [])) [])
    ≡ Some (record { kind = kinds.UnknownName; owner = codes "main"; name = codes "$x"; found = 0 })
unfolding first only main plain returns
unknown-local = refl

constant : List ItemParts
constant = plain ops.ClsCnsD (imms.Name (codes "K") ∷ imms.Class (codes "A") ∷ []) ∷ returns ∷ []

-- a constant of a class that isn't there, and one that isn't there of a class that is
unknown-class : first (only (main [] constant) []) ≡ Some (record { kind = kinds.UnknownName; owner = codes "main"; name = codes "A"; found = 0 })
unfolding first only main plain returns constant
unknown-class = refl

unknown-constant : first (only (main [] constant) (class (codes "A") None ∷ []))
    ≡ Some (record { kind = kinds.UnknownName; owner = codes "main"; name = codes "K"; found = 0 })
unfolding first only main plain returns constant class
unknown-constant = refl

-- a call with one argument of a function without parameters, and a label that isn't there
wrong-arity : faults (only (main [] (plain ops.FCallFuncD (imms.Count 1 ∷ imms.Name (codes "main") ∷ []) ∷ plain ops.Jmp (imms.Pos (codes "l") ∷ []) ∷ [])) [])
    ≡ record { kind = kinds.WrongArity; owner = codes "main"; name = codes "main"; found = 1 }
    ∷ record { kind = kinds.UnknownLabel; owner = codes "main"; name = codes "l"; found = 0 } ∷ []
unfolding only main plain
wrong-arity = refl

-- a try body in a catch body, with a code in each body
nested : List ItemParts
nested =
    items.Try ∷ returns ∷ items.Catch ∷ returns ∷ items.Try ∷ items.Label (codes "l") ∷ returns ∷ items.Catch ∷ returns ∷ items.End ∷ items.End
    ∷ items.Label (codes "m") ∷ []

two-open : nesting_from 0 nested ≡ 2
unfolding nested returns plain
two-open = refl

two-regions : regions_from 0 nested ≡ record { first = 0; mid = 1; last = 4 } ∷ record { first = 2; mid = 3; last = 4 } ∷ []
unfolding nested returns plain
two-regions = refl

-- a label names the code behind it, or the number of codes
label-within : label_from 0 nested (codes "l") ≡ 2
unfolding nested returns plain
label-within = refl

label-at-end : label_from 0 nested (codes "m") ≡ 4
unfolding nested returns plain
label-at-end = refl
