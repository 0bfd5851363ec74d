-- Types and constraints, as what they stand for, stand apart from what follows them, and each has one value.
use Rattle.hhbc_repo.specs.TypeSyntax.{AConstraint, AType, AWrittenConstraint, AWrittenType, constraint_of, type_of}
use Rattle.hhas_read.specs.LeafSyntax.{written_of}
use Rattle.hhas_read.specs.WholeTypes.{written_type_of}
use Rattle.hhas_read.specs.Written.{ends_type}
use Rattle.hhas_read.proofs.ConstraintApart.{constraint_lawful}
use Rattle.hhas_read.proofs.Images.{image_lawful}
use Rattle.hhas_read.proofs.Joining.{Lawful}
use Rattle.hhas_read.proofs.Onto.{type_onto, written_onto}
use Rattle.hhas_read.proofs.TypeApart.{type_lawful}

pub type_law : Lawful ends_type AType
type_law = image_lawful ends_type AWrittenType written_type_of type_of type_onto type_lawful

pub constraint_law : Lawful ends_type AConstraint
constraint_law = image_lawful ends_type AWrittenConstraint written_of constraint_of written_onto constraint_lawful
