use Rattle.std.proofs.Common.{◌∙◌, refl, sym}
use Rattle.hhas_lex.specs.Tokens.{Word}
use Rattle.hhbc_ops.specs.declared.words.QueryMode.TheVariants.{CGet}
use Rattle.hhbc_ops.specs.Words.{query_mode_name}
use Rattle.hhas_read.specs.Reading.{any, next}
use Rattle.hhas_read.proofs.OneToken.{single_stuck}
use Rattle.hhas_read.proofs.Said.{not_word, same_word}
use Rattle.hhas_read.proofs.reader.Reader.query_mode.Goals as goal

pub returns-in_default : goal.returns-in_default
returns-in_default c =
    single_stuck (λ op. Word (query_mode_name op)) any CGet refl c.args.self.now
    (λ op e. not_word c.peek.result (next c.args.self.now) c.peek.ensures c.in_default.not-Word (query_mode_name op) e)

pub returns-in_default-query_mode_named : goal.returns-in_default-query_mode_named
returns-in_default-query_mode_named c =
    single_stuck (λ op. Word (query_mode_name op)) any CGet refl c.args.self.now
    (λ op e. c.in_default-query_mode_named.ensures.only op (same_word (query_mode_name op) c.in-Word.name.now (sym e ∙ c.in-Word.ensures)))
