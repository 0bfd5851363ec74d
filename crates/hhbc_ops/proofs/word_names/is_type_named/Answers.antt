use Rattle.std.proofs.Common.{◌≡◌, ◌≢◌, ◌∙◌, Option, MatchOption, sym, subst}
use Rattle.hhbc_ops.specs.declared.words.IsTypeOp.{IsTypeOp}
use Rattle.hhbc_ops.specs.Words.{is_type_name}
use Rattle.hhbc_ops.proofs.Names.{is_type_only, is_type_found}
use Rattle.hhbc_ops.proofs.word_names.is_type_named.Goals as goal

pub returns-clause-only : goal.returns-clause-only
returns-clause-only c =
    let name = c.args.name.now in
    let is = c.first_named.ensures in
    subst (λ (o : Option IsTypeOp). MatchOption o ((op : IsTypeOp) → is_type_name op ≢ name) (λ op. is_type_name op ≡ name)) (sym is) (is_type_only name)

pub returns-clause-each : goal.returns-clause-each
returns-clause-each c = λ op e. c.first_named.ensures ∙ is_type_found op c.args.name.now e
