use Rattle.std.proofs.Common.{[]}
use Rattle.hhbc_repo.specs.CodeSyntax.{ACode, AnInstruction}
use Rattle.hhbc_repo.specs.declared.parts.BaseParts.TheVariants as bases
use Rattle.hhbc_repo.specs.declared.parts.CodeParts.TheVariants.{Plain}
use Rattle.hhas_read.specs.Reading.{next}
use Rattle.hhas_read.specs.Written.{ends_type}
use Rattle.hhas_read.proofs.CodeForms.{base_cases, base_next, plain_resumes}
use Rattle.hhas_read.proofs.Resuming.{past_none, stop_lifts, taken_lifts}
use Rattle.hhas_read.proofs.reader.Reader.code.Goals as goal

pub returns-then-is_word : goal.returns-then-is_word
returns-then-is_word c = base_next (bases.Local []) c.args.self.now c.member_code.new.self c.member_code.result c.if-is_word.ensures c.member_code.ensures

pub returns-then-is_word-2 : goal.returns-then-is_word-2
returns-then-is_word-2 c =
    base_next (bases.Stack 0) c.args.self.now c.member_code-then-is_word-2.new.self c.member_code-then-is_word-2.result c.if-is_word-2.ensures c.member_code-then-is_word-2.ensures

pub returns-then-is_word-3 : goal.returns-then-is_word-3
returns-then-is_word-3 c =
    base_next bases.This c.args.self.now c.member_code-then-is_word-3.new.self c.member_code-then-is_word-3.result c.if-is_word-3.ensures c.member_code-then-is_word-3.ensures

pub returns-in-Ok : goal.returns-in-Ok
returns-in-Ok c =
    let old = c.args.self.now in
    taken_lifts ends_type ACode AnInstruction old old c.instruction.new.self [] Plain c.in-Ok.instruction
    (plain_resumes old.tokens (base_cases (next old) c.if-is_word.ensures c.if-is_word-2.ensures c.if-is_word-3.ensures)) (past_none old) c.in-Ok.ensures

pub returns-in-Err : goal.returns-in-Err
returns-in-Err c =
    let old = c.args.self.now in
    stop_lifts ends_type ACode AnInstruction old old c.instruction.new.self [] Plain c.in-Err.stop
    (plain_resumes old.tokens (base_cases (next old) c.if-is_word.ensures c.if-is_word-2.ensures c.if-is_word-3.ensures)) (past_none old) c.in-Err.ensures
