use Rattle.std.proofs.Common.{[], subst, sym}
use Rattle.hhbc_repo.specs.BodySyntax.{APosition}
use Rattle.hhbc_repo.specs.CodeSyntax.{AnInstruction}
use Rattle.hhbc_repo.specs.declared.parts.CodeParts.TheVariants.{Plain}
use Rattle.hhas_read.specs.Reading.{Taken}
use Rattle.hhas_read.specs.Written.{ends_type}
use Rattle.hhas_read.proofs.PositionLaws.{instruction_next, of_run}
use Rattle.hhas_read.proofs.Resuming.{stop_lifts, taken_lifts}
use Rattle.hhas_read.proofs.reader.Reader.named_position.Goals as goal

pub returns-in-Ok : goal.returns-in-Ok
returns-in-Ok c =
    let old = c.args.self.now in let new = c.named_instruction.new.self in let i = c.in-Ok.instruction in let far = instruction_next c.args.op old c.requires in
    subst (λ xs. Taken ends_type APosition old new (of_run (xs, Plain i))) (sym c.new.ensures)
    (taken_lifts ends_type APosition AnInstruction old old new far.0 (λ i. of_run ([], Plain i)) i far.2 far.1 c.in-Ok.ensures)

pub returns-in-Err : goal.returns-in-Err
returns-in-Err c =
    let old = c.args.self.now in let far = instruction_next c.args.op old c.requires in
    stop_lifts ends_type APosition AnInstruction old old c.named_instruction.new.self far.0 (λ i. of_run ([], Plain i)) c.in-Err.stop far.2 far.1 c.in-Err.ensures
