use Rattle.std.proofs.Common.{[]}
use Rattle.hhbc_repo.specs.CodeSyntax.{ALabel, AnArm}
use Rattle.hhas_read.specs.Reading.{any}
use Rattle.hhas_read.proofs.Resuming.{past_none, stop_lifts}
use Rattle.hhas_read.proofs.ArmForms.{arm_resumes, plain_arm}
use Rattle.hhas_read.proofs.reader.Reader.arm.Goals as goal

pub returns-in-Err : goal.returns-in-Err
returns-in-Err c =
    stop_lifts any AnArm ALabel c.args.self.now c.args.self.now c.label.new.self [] plain_arm c.in-Err.stop (arm_resumes c.args.self.now.tokens) (past_none c.args.self.now) c.in-Err.ensures
