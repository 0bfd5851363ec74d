use Rattle.std.proofs.Common.{[], ◌∷◌, subst, codes}
use Rattle.hhas_lex.specs.Tokens.{Word}
use Rattle.hhbc_repo.specs.declared.parts.BaseParts.TheVariants as bases
use Rattle.hhbc_repo.specs.CodeSyntax.{ABase, ALocal, AnIndex}
use Rattle.hhas_read.specs.Reading.{Past, any}
use Rattle.hhas_read.proofs.Resuming.{stop_lifts, taken_lifts}
use Rattle.hhas_read.proofs.Bases.{local_resumes, stack_resumes, base_stuck}
use Rattle.hhas_read.proofs.reader.Reader.base.Goals as goal

pub returns-in-Ok : goal.returns-in-Ok
returns-in-Ok c =
    let old = c.args.self.now in let mid = c.skip-then-is_word-2.new.self in
    taken_lifts any ABase ALocal old mid c.local.new.self (Word (codes "BaseL") ∷ []) bases.Local c.in-Ok.local (local_resumes mid.tokens)
    (subst (λ t. Past (t ∷ []) old mid) c.if-is_word-2.ensures c.skip-then-is_word-2.ensures) c.in-Ok.ensures

pub returns-in-Err : goal.returns-in-Err
returns-in-Err c =
    let old = c.args.self.now in let mid = c.skip-then-is_word-2.new.self in
    stop_lifts any ABase ALocal old mid c.local.new.self (Word (codes "BaseL") ∷ []) bases.Local c.in-Err.stop (local_resumes mid.tokens)
    (subst (λ t. Past (t ∷ []) old mid) c.if-is_word-2.ensures c.skip-then-is_word-2.ensures) c.in-Err.ensures

pub returns-in-Ok-index : goal.returns-in-Ok-index
returns-in-Ok-index c =
    let old = c.args.self.now in let mid = c.skip-then-is_word-3.new.self in
    taken_lifts any ABase AnIndex old mid c.index.new.self (Word (codes "BaseC") ∷ []) bases.Stack c.in-Ok-index.index (stack_resumes mid.tokens)
    (subst (λ t. Past (t ∷ []) old mid) c.if-is_word-3.ensures c.skip-then-is_word-3.ensures) c.in-Ok-index.ensures

pub returns-in-Err-index : goal.returns-in-Err-index
returns-in-Err-index c =
    let old = c.args.self.now in let mid = c.skip-then-is_word-3.new.self in
    stop_lifts any ABase AnIndex old mid c.index.new.self (Word (codes "BaseC") ∷ []) bases.Stack c.in-Err-index.stop (stack_resumes mid.tokens)
    (subst (λ t. Past (t ∷ []) old mid) c.if-is_word-3.ensures c.skip-then-is_word-3.ensures) c.in-Err-index.ensures

pub returns : goal.returns
returns c = base_stuck c.args.self.now c.if-is_word-2.ensures c.if-is_word-3.ensures c.if-is_word.ensures
