-- What bodies see of one another and of classes: names, parents and parameters.
use Rattle.std.specs.Prelude.{List, [], ◌++◌, map, None}
use Rattle.std.specs.List.{flat_map}
use Rattle.hack_values.specs.declared.cell.Cell.TheVariants as cells
use Rattle.hhbc_repo.specs.declared.link_fault.LinkFault.{LinkFault}
use Rattle.hhbc_repo.specs.declared.parts.BodyParts.{BodyParts}
use Rattle.hhbc_repo.specs.declared.parts.ClassParts.{ClassParts}
use Rattle.hhbc_repo.specs.declared.parts.PropertyParts.{PropertyParts}
use Rattle.hhbc_repo.specs.declared.repo.Const.{Const}
use Rattle.hhbc_repo.specs.LinkFaults.{Place, Whole, body_faults, class_checks, each_class, first_class, member_checks, method_places, repeated_functions}

abbrev pub body_outline : BodyParts → BodyParts
body_outline b = record { name = b.name; params = b.params; locals = []; iters = 0; stated = None; items = [] }

abbrev pub constant_outline : Const → Const
constant_outline k = record { name = k.name; value = cells.Null }

abbrev pub property_outline : PropertyParts → PropertyParts
property_outline p = record { name = p.name; initial = cells.Null; stated = None }

abbrev pub class_outline : ClassParts → ClassParts
class_outline c = record {
  name = c.name;
  parent = c.parent;
  consts = map constant_outline c.consts;
  props = map property_outline c.props;
  methods = map body_outline c.methods;
}

abbrev pub outline : Whole → Whole
outline w = record { functions = map body_outline w.functions; classes = map class_outline w.classes }

-- these bodies in their order, of which the whole is known
abbrev pub bodies_among : Whole → List BodyParts → List ClassParts → List Place
bodies_among w bs cs = map (λ (b : BodyParts). record { whole = w; body = b; owner = b.name }) bs ++ flat_map (method_places w) cs

-- all checks of these functions and classes but those of their number
abbrev pub declared_faults : Whole → List BodyParts → List ClassParts → List LinkFault
declared_faults w bs cs =
    repeated_functions [] bs
    ++ (each_class (class_checks w) first_class cs ++ (each_class (member_checks w) first_class cs ++ flat_map body_faults (bodies_among w bs cs)))
