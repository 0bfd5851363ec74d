use Rattle.std.proofs.Common.{subst}
use Rattle.stack_verify.specs.declared.shape.VerifyFault.{VerifyFault}
use Rattle.stack_verify.specs.declared.shape.VerifyFault.TheVariants as faults
use Rattle.stack_verify.specs.Kept.{kind_of}
use Rattle.stack_verify.specs.Verified.{IsRefused}
use Rattle.hhbbc_top.proofs.Headline.{refused_as}
use Rattle.hhbbc_top.proofs.top.shape_told.Goals as goal

pub returns-in-Shape : goal.returns-in-Shape
returns-in-Shape c k r v h =
    let told : IsRefused r (faults.Shape c.in-Shape.shape c.in-Shape.repo) = rw c.in-Shape.is at h in
    refused_as k r c.in-Shape.repo c.in-Shape.shape.body c.in-Shape.shape.position (kind_of c.in-Shape.shape.kind)
    c.shape_fault_line.result c.told.result v told.0 told.1 c.shape_fault_line.ensures c.told.ensures
