use Rattle.std.proofs.Common.{◌≡◌, ◌≢◌, ◌∙◌, ap, List, Option, MatchOption, sym, subst}
use Rattle.hhbc_ops.specs.declared.op.Op.{Op}
use Rattle.hhbc_ops.specs.Ops.{op_name}
use Rattle.hhbc_ops.specs.Names.{first_named}
use Rattle.hhbc_ops.proofs.Names.{op_only, op_found}
use Rattle.hhbc_ops.proofs.op.op_named.Goals as goal

pub returns-clause-only : goal.returns-clause-only
returns-clause-only c =
    let name = c.args.name.now in
    let is = c.first_named.ensures ∙ ap (λ (ops : List Op). first_named op_name ops name) c.of_length.ensures in
    subst (λ (o : Option Op). MatchOption o ((op : Op) → op_name op ≢ name) (λ op. op_name op ≡ name)) (sym is) (op_only name)

pub returns-clause-each : goal.returns-clause-each
returns-clause-each c = λ op e. c.first_named.ensures ∙ ap (λ (ops : List Op). first_named op_name ops c.args.name.now) c.of_length.ensures ∙ op_found op c.args.name.now e
