-- A whole whose bodies have the items of their canonical parts, and nothing else changed: it is alike.
use Rattle.std.proofs.Common.{List, map, refl}
use Rattle.hhbc_repo.specs.declared.parts.BodyParts.{BodyParts}
use Rattle.hhbc_repo.specs.declared.parts.ClassParts.{ClassParts}
use Rattle.hhbc_repo.specs.declared.parts.ItemParts.{ItemParts}
use Rattle.hhbc_repo.specs.Canonical.{items_from}
use Rattle.hhbc_repo.specs.LinkFaults.{Whole, class_names}
use Rattle.hhbc_repo.specs.Resolved.{resolved_body}
use Rattle.hhbc_repo.proofs.AlikeWholes.{Alike}
use Rattle.hhbc_repo.proofs.OtherBodies.{made_alike}
use Rattle.hhbc_repo.proofs.RelabelledPositions.{with_items}

-- the items of the canonical parts of what the body links to
abbrev pub relaid_items : Whole → BodyParts → List ItemParts
relaid_items w b = items_from (class_names w) (resolved_body w b) 0 (resolved_body w b).positions

abbrev pub relaid_body : Whole → BodyParts → BodyParts
relaid_body w b = with_items b (relaid_items w b)

abbrev pub relaid_class : Whole → ClassParts → ClassParts
relaid_class w c = record { name = c.name; parent = c.parent; consts = c.consts; props = c.props; methods = map (relaid_body w) c.methods }

abbrev pub relaid : Whole → Whole
relaid w = record { functions = map (relaid_body w) w.functions; classes = map (relaid_class w) w.classes }

pub relaid_alike : (w : Whole) → Alike w (relaid w)
relaid_alike w = made_alike (relaid_body w) (relaid_class w)
    (record {
      body_name = λ b. refl;
      body_params = λ b. refl;
      class_name = λ c. refl;
      class_parent = λ c. refl;
      class_consts = λ c. refl;
      class_props = λ c. refl;
      class_methods = λ c. refl;
    }) w
