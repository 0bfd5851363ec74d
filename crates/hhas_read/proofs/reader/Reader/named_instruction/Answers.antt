use Rattle.std.proofs.Common.{◌∙◌, [], ◌∷◌, ap, subst, Err}
use Rattle.hhas_lex.specs.Tokens.{Word}
use Rattle.hhbc_ops.specs.Ops.{kinds_of, op_name}
use Rattle.hhbc_repo.specs.CodeSyntax.{AnInstruction, Operands}
use Rattle.hhas_read.specs.Kinds.{constraint_last}
use Rattle.hhas_read.specs.Reading.{Past, Reads, Taken}
use Rattle.hhas_read.specs.Written.{ends_type}
use Rattle.hhas_read.proofs.CodeForms.{named_resumes, with_operands}
use Rattle.hhas_read.proofs.OperandRuns.{kinds_last}
use Rattle.hhas_read.proofs.Resuming.{stop_lifts, taken_lifts}
use Rattle.hhas_read.proofs.reader.Reader.named_instruction.Goals as goal

pub operands-requires : goal.operands-requires
operands-requires c = ap constraint_last c.immediates.ensures ∙ kinds_last c.args.op

pub returns-in-Ok : goal.returns-in-Ok
returns-in-Ok c =
    let old = c.args.self.now in let mid = c.skip.new.self in let op = c.args.op in
    taken_lifts ends_type AnInstruction (Operands (kinds_of op)) old mid c.operands.new.self (Word (op_name op) ∷ []) (with_operands op) c.in-Ok.imms
    (named_resumes ends_type op mid.tokens) (subst (λ t. Past (t ∷ []) old mid) c.requires c.skip.ensures)
    (subst (λ ks. Taken ends_type (Operands ks) mid c.operands.new.self c.in-Ok.imms) c.immediates.ensures c.in-Ok.ensures)

pub returns-in-Err : goal.returns-in-Err
returns-in-Err c =
    let old = c.args.self.now in let mid = c.skip.new.self in let op = c.args.op in
    stop_lifts ends_type AnInstruction (Operands (kinds_of op)) old mid c.operands.new.self (Word (op_name op) ∷ []) (with_operands op) c.in-Err.stop
    (named_resumes ends_type op mid.tokens) (subst (λ t. Past (t ∷ []) old mid) c.requires c.skip.ensures)
    (subst (λ ks. Reads ends_type (Operands ks) mid (Err c.in-Err.stop) c.operands.new.self) c.immediates.ensures c.in-Err.ensures)
