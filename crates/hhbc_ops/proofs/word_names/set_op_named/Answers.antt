use Rattle.std.proofs.Common.{◌≡◌, ◌≢◌, ◌∙◌, Option, MatchOption, sym, subst}
use Rattle.hhbc_ops.specs.declared.words.SetOpOp.{SetOpOp}
use Rattle.hhbc_ops.specs.Words.{set_op_name}
use Rattle.hhbc_ops.proofs.Names.{set_op_only, set_op_found}
use Rattle.hhbc_ops.proofs.word_names.set_op_named.Goals as goal

pub returns-clause-only : goal.returns-clause-only
returns-clause-only c =
    let name = c.args.name.now in
    let is = c.first_named.ensures in
    subst (λ (o : Option SetOpOp). MatchOption o ((op : SetOpOp) → set_op_name op ≢ name) (λ op. set_op_name op ≡ name)) (sym is) (set_op_only name)

pub returns-clause-each : goal.returns-clause-each
returns-clause-each c = λ op e. c.first_named.ensures ∙ set_op_found op c.args.name.now e
