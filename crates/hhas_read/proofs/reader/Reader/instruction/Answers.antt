use Rattle.std.proofs.Common.{◌∙◌, sym}
use Rattle.hhbc_ops.specs.Ops.{op_name}
use Rattle.hhas_read.specs.Reading.{next}
use Rattle.hhas_read.specs.Written.{ends_type}
use Rattle.hhas_read.proofs.CodeForms.{instruction_stuck}
use Rattle.hhas_read.proofs.Said.{not_word, same_word}
use Rattle.hhas_read.proofs.reader.Reader.instruction.Goals as goal

pub returns-in_default : goal.returns-in_default
returns-in_default c =
    instruction_stuck ends_type c.args.self.now (λ op e. not_word c.peek.result (next c.args.self.now) c.peek.ensures c.in_default.not-Word (op_name op) e)

pub returns-in-None : goal.returns-in-None
returns-in-None c =
    instruction_stuck ends_type c.args.self.now (λ op e. c.in-None.ensures.only op (same_word (op_name op) c.in-Word.name.now (sym e ∙ c.in-Word.ensures)))
