use Rattle.std.proofs.Common.{◌≡◌, ◌+◌, drop, get_or, rules, Err, subst, sym}
use Rattle.std.proofs.lemmas.List.{drop_all, drop_more}
use Rattle.hhbc_ops.specs.declared.words.ImmKind.TheVariants as kinds
use Rattle.hhbc_repo.specs.CodeSyntax.{Operands}
use Rattle.hhas_read.specs.Reading.{Reads}
use Rattle.hhas_read.specs.Written.{ends_type}
use Rattle.hhas_read.proofs.OperandRuns.{OperandsTaken, no_operands, operand_taken, operand_wrong, operands_end, operands_unended}
use Rattle.hhas_read.proofs.reader.Reader.operands.Goals as goal

pub loop-kind-init : goal.loop-kind-init
loop-kind-init c = subst (OperandsTaken c.args.kinds.now c.args.kinds.now c.args.self.now c.args.self.now) (sym c.new-operands.ensures) (no_operands c.args.kinds.now c.args.self.now c.requires)

pub returns-in_err-operand : goal.returns-in_err-operand
returns-in_err-operand c =
    let ks = c.args.kinds.now in let i = c.loop-kind.kind-index in let k = get_or ks i kinds.Int in let e = c.in_err-operand.field-0.0 in
    let is : c.from_residual.result ≡ Err e = search rules in
    let inv = subst (λ l. OperandsTaken ks l c.args.self.now c.loop-kind.self c.loop-kind.operands) (drop_more ks i kinds.Int c.loop-kind-test.true) c.loop-kind.invariant in
    subst (λ r. Reads ends_type (Operands ks) c.args.self.now r c.operand.new.self) (sym is)
    (operand_wrong ks c.args.self.now k (drop (i + 1) ks) c.loop-kind.operands c.loop-kind.self c.operand.new.self e inv c.in_err-operand.ensures)

pub loop-kind-preserved : goal.loop-kind-preserved
loop-kind-preserved c =
    let ks = c.args.kinds.now in let i = c.loop-kind.kind-index in let k = get_or ks i kinds.Int in
    let inv = subst (λ l. OperandsTaken ks l c.args.self.now c.loop-kind.self c.loop-kind.operands) (drop_more ks i kinds.Int c.loop-kind-test.true) c.loop-kind.invariant in
    operand_taken ks c.args.self.now k (drop (i + 1) ks) c.loop-kind.operands c.loop-kind.self c.operand.new.self c.push.new.self c.in_ok-operand.operand inv c.in_ok-operand.ensures
    c.in_ok-push.ensures.ok

pub returns-then-not-ends_type : goal.returns-then-not-ends_type
returns-then-not-ends_type c =
    let ks = c.args.kinds.now in
    operands_unended ks c.args.self.now c.loop-kind.self c.loop-kind.operands
    (subst (λ l. OperandsTaken ks l c.args.self.now c.loop-kind.self c.loop-kind.operands) (drop_all c.loop-kind.kind-index ks c.loop-kind-test.false) c.loop-kind.invariant)
    (sym c.if-not-ends_type.ensures)

pub returns : goal.returns
returns c =
    let ks = c.args.kinds.now in
    operands_end ks c.args.self.now c.loop-kind.self c.loop-kind.operands
    (subst (λ l. OperandsTaken ks l c.args.self.now c.loop-kind.self c.loop-kind.operands) (drop_all c.loop-kind.kind-index ks c.loop-kind-test.false) c.loop-kind.invariant)
    (sym c.if-not-ends_type.ensures)
