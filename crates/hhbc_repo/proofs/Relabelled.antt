-- Parts of a body with other names for its labels.
use Rattle.std.specs.Prelude.{map}
use Rattle.hhbc_repo.specs.declared.parts.ArmParts.{ArmParts}
use Rattle.hhbc_repo.specs.declared.parts.BodyParts.{BodyParts}
use Rattle.hhbc_repo.specs.declared.parts.CodeParts.{CodeParts}
use Rattle.hhbc_repo.specs.declared.parts.CodeParts.TheVariants as forms
use Rattle.hhbc_repo.specs.declared.parts.ImmParts.{ImmParts}
use Rattle.hhbc_repo.specs.declared.parts.ImmParts.TheVariants as imms
use Rattle.hhbc_repo.specs.declared.parts.PositionParts.{PositionParts}
use Rattle.hhbc_repo.specs.Canonical.{label_name}
use Rattle.hhbc_repo.specs.LinkFaults.{Name, Whole}
use Rattle.hhbc_repo.specs.Resolved.{label_number, resolved_body}

abbrev pub relabelled_arm : (Name → Name) → ArmParts → ArmParts
relabelled_arm f a = record { text = a.text; target = f a.target }

abbrev pub relabelled_operand : (Name → Name) → ImmParts → ImmParts
relabelled_operand f (imms.Pos w) = imms.Pos (f w)
relabelled_operand f (imms.Arms arms) = imms.Arms (map (relabelled_arm f) arms)
relabelled_operand f m = m

abbrev pub relabelled_code : (Name → Name) → CodeParts → CodeParts
relabelled_code f (forms.Plain i) = forms.Plain (record { op = i.op; imms = map (relabelled_operand f) i.imms })
relabelled_code f (forms.Member m) = forms.Member m

abbrev pub relabelled_position : (Name → Name) → PositionParts → PositionParts
relabelled_position f p = record { asserts = p.asserts; code = relabelled_code f p.code }

-- what the canonical parts call the position that a label of the body names
abbrev pub new_label : Whole → BodyParts → Name → Name
new_label w b name = label_name (resolved_body w b).positions (label_number b name)
