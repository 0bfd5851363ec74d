use Rattle.std.proofs.Common.{refl}
use Rattle.hhbc_ops.specs.declared.words.ImmKind.TheVariants as kinds
use Rattle.hhbc_repo.specs.CodeSyntax.{IterLocals}
use Rattle.hhas_read.proofs.OperandForms.{iter_operand, kind_stops, locals}
use Rattle.hhas_read.proofs.reader.Reader.iter_locals_operand.Goals as goal

pub returns-in-Err : goal.returns-in-Err
returns-in-Err c = kind_stops kinds.IterLocals kinds.IterLocals refl IterLocals iter_operand locals c.args.self.now c.iter_locals.new.self c.in-Err.stop c.in-Err.ensures
