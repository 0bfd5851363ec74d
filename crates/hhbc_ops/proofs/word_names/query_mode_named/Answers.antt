use Rattle.std.proofs.Common.{◌≡◌, ◌≢◌, ◌∙◌, Option, MatchOption, sym, subst}
use Rattle.hhbc_ops.specs.declared.words.QueryMode.{QueryMode}
use Rattle.hhbc_ops.specs.Words.{query_mode_name}
use Rattle.hhbc_ops.proofs.Names.{query_mode_only, query_mode_found}
use Rattle.hhbc_ops.proofs.word_names.query_mode_named.Goals as goal

pub returns-clause-only : goal.returns-clause-only
returns-clause-only c =
    let name = c.args.name.now in
    let is = c.first_named.ensures in
    subst (λ (o : Option QueryMode). MatchOption o ((op : QueryMode) → query_mode_name op ≢ name) (λ op. query_mode_name op ≡ name)) (sym is) (query_mode_only name)

pub returns-clause-each : goal.returns-clause-each
returns-clause-each c = λ op e. c.first_named.ensures ∙ query_mode_found op c.args.name.now e
