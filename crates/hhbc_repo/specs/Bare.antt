-- A repository without assertions and stated types.
use Rattle.std.specs.Prelude.{[], None, map}
use Rattle.hhbc_repo.specs.declared.body.Body.{Body}
use Rattle.hhbc_repo.specs.declared.body.Position.{Position}
use Rattle.hhbc_repo.specs.declared.repo.Class.{Class}
use Rattle.hhbc_repo.specs.declared.repo.Property.{Property}
use Rattle.hhbc_repo.specs.Linked.{Linked}

abbrev pub bare_position : Position → Position
bare_position p = record p { asserts = [] }

abbrev pub bare_body : Body → Body
bare_body b = record b { stated = None; positions = map bare_position b.positions }

abbrev pub bare_property : Property → Property
bare_property p = record p { stated = None }

abbrev pub bare_class : Class → Class
bare_class c = record c { props = map bare_property c.props; methods = map bare_body c.methods }

abbrev pub bare : Linked → Linked
bare r = record { functions = map bare_body r.functions; classes = map bare_class r.classes }
