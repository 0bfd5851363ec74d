use Rattle.std.proofs.Common.{◌≡◌, ◌≢◌, ◌∙◌, Option, MatchOption, sym, subst}
use Rattle.hhbc_ops.specs.declared.words.IncDecOp.{IncDecOp}
use Rattle.hhbc_ops.specs.Words.{inc_dec_name}
use Rattle.hhbc_ops.proofs.Names.{inc_dec_only, inc_dec_found}
use Rattle.hhbc_ops.proofs.word_names.inc_dec_named.Goals as goal

pub returns-clause-only : goal.returns-clause-only
returns-clause-only c =
    let name = c.args.name.now in
    let is = c.first_named.ensures in
    subst (λ (o : Option IncDecOp). MatchOption o ((op : IncDecOp) → inc_dec_name op ≢ name) (λ op. inc_dec_name op ≡ name)) (sym is) (inc_dec_only name)

pub returns-clause-each : goal.returns-clause-each
returns-clause-each c = λ op e. c.first_named.ensures ∙ inc_dec_found op c.args.name.now e
