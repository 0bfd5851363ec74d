use Rattle.std.proofs.Common.{codes}
use Rattle.hhbc_repo.specs.Languages.{Both}
use Rattle.hhbc_repo.specs.BodySyntax.{AnAssert}
use Rattle.hhbc_repo.specs.CodeSyntax.{ALocal, AnIndex}
use Rattle.hhbc_repo.specs.TypeSyntax.{AType}
use Rattle.hhas_read.specs.Assertions.{of_local, of_stack}
use Rattle.hhas_read.specs.Written.{ends_type}
use Rattle.hhas_read.proofs.FirstWord.{form_behind}
use Rattle.hhas_read.proofs.AssertionForms.{assertion_begins, assertion_stuck, assertion_word, local_form, stack_form}
use Rattle.hhas_read.proofs.reader.Reader.assertion.Goals as goal

pub returns-then-is_word : goal.returns-then-is_word
returns-then-is_word c =
    form_behind AnAssert assertion_word (Both ALocal AType) of_local (codes "AssertRATL") assertion_begins local_form (λ w u m. m) (λ w u n. n)
    ends_type c.args.self.now c.skip.new.self c.local_assertion.new.self c.local_assertion.result c.if-is_word.ensures c.skip.ensures c.local_assertion.ensures

pub returns-then-is_word-2 : goal.returns-then-is_word-2
returns-then-is_word-2 c =
    form_behind AnAssert assertion_word (Both AnIndex AType) of_stack (codes "AssertRATStk") assertion_begins stack_form (λ w u m. m) (λ w u n. n)
    ends_type c.args.self.now c.skip-then-is_word-2.new.self c.stack_assertion.new.self c.stack_assertion.result c.if-is_word-2.ensures c.skip-then-is_word-2.ensures c.stack_assertion.ensures

pub returns : goal.returns
returns c = assertion_stuck ends_type c.args.self.now (c.if-is_word.ensures, c.if-is_word-2.ensures)
