use Rattle.std.proofs.Common.{◌∙◌, refl, sym}
use Rattle.hhas_lex.specs.Tokens.{Word}
use Rattle.hhbc_ops.specs.declared.words.IsTypeOp.TheVariants.{Null}
use Rattle.hhbc_ops.specs.Words.{is_type_name}
use Rattle.hhas_read.specs.Reading.{any, next}
use Rattle.hhas_read.proofs.OneToken.{single_stuck}
use Rattle.hhas_read.proofs.Said.{not_word, same_word}
use Rattle.hhas_read.proofs.reader.Reader.is_type.Goals as goal

pub returns-in_default : goal.returns-in_default
returns-in_default c =
    single_stuck (λ op. Word (is_type_name op)) any Null refl c.args.self.now
    (λ op e. not_word c.peek.result (next c.args.self.now) c.peek.ensures c.in_default.not-Word (is_type_name op) e)

pub returns-in_default-is_type_named : goal.returns-in_default-is_type_named
returns-in_default-is_type_named c =
    single_stuck (λ op. Word (is_type_name op)) any Null refl c.args.self.now
    (λ op e. c.in_default-is_type_named.ensures.only op (same_word (is_type_name op) c.in-Word.name.now (sym e ∙ c.in-Word.ensures)))
