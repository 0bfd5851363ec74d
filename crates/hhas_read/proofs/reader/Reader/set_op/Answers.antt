use Rattle.std.proofs.Common.{◌∙◌, refl, sym}
use Rattle.hhas_lex.specs.Tokens.{Word}
use Rattle.hhbc_ops.specs.declared.words.SetOpOp.TheVariants.{PlusEqual}
use Rattle.hhbc_ops.specs.Words.{set_op_name}
use Rattle.hhas_read.specs.Reading.{any, next}
use Rattle.hhas_read.proofs.OneToken.{single_stuck}
use Rattle.hhas_read.proofs.Said.{not_word, same_word}
use Rattle.hhas_read.proofs.reader.Reader.set_op.Goals as goal

pub returns-in_default : goal.returns-in_default
returns-in_default c =
    single_stuck (λ op. Word (set_op_name op)) any PlusEqual refl c.args.self.now
    (λ op e. not_word c.peek.result (next c.args.self.now) c.peek.ensures c.in_default.not-Word (set_op_name op) e)

pub returns-in_default-set_op_named : goal.returns-in_default-set_op_named
returns-in_default-set_op_named c =
    single_stuck (λ op. Word (set_op_name op)) any PlusEqual refl c.args.self.now
    (λ op e. c.in_default-set_op_named.ensures.only op (same_word (set_op_name op) c.in-Word.name.now (sym e ∙ c.in-Word.ensures)))
