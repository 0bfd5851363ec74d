use Rattle.std.proofs.Common.{◌∙◌, refl, sym, codes}
use Rattle.hhbc_repo.specs.Languages.{Both}
use Rattle.hhbc_repo.specs.CodeSyntax.{AChange, AMode, AnIndex, ASetOp, ChangeKey, QueryKey, SetKey}
use Rattle.hhas_read.specs.Reading.{any}
use Rattle.hhas_read.specs.Sequences.{FinalAfter, query, set, set_op, inc_dec, unset}
use Rattle.hhas_read.proofs.FirstWord.{form_behind}
use Rattle.hhas_read.proofs.Reserved.{never_both}
use Rattle.hhas_read.proofs.FinalForms.{final_word, after_begins, query_form, set_form, set_op_form, inc_dec_form, unset_form, final_stuck, nullsafe_stuck}
use Rattle.hhas_read.proofs.reader.Reader.last.Goals as goal

pub returns-then-is_word : goal.returns-then-is_word
returns-then-is_word c =
    form_behind (FinalAfter c.args.nullsafe) final_word (Both AnIndex (Both AMode QueryKey)) query (codes "QueryM") (after_begins c.args.nullsafe) query_form (λ w u m. (m, λ e. refl)) (λ w u n. n.0)
    any c.args.self.now c.skip.new.self c.query_operands.new.self c.query_operands.result c.if-is_word.ensures c.skip.ensures c.query_operands.ensures

pub returns-then-is_word-2 : goal.returns-then-is_word-2
returns-then-is_word-2 c =
    form_behind (FinalAfter c.args.nullsafe) final_word (Both AnIndex SetKey) set (codes "SetM") (after_begins c.args.nullsafe) set_form (λ w u m. (m, λ e. absurd (never_both (sym e ∙ c.if-nullsafe.false)))) (λ w u n. n.0)
    any c.args.self.now c.skip-then-is_word-2.new.self c.set_operands.new.self c.set_operands.result c.if-is_word-2.ensures c.skip-then-is_word-2.ensures c.set_operands.ensures

pub returns-then-is_word-3 : goal.returns-then-is_word-3
returns-then-is_word-3 c =
    form_behind (FinalAfter c.args.nullsafe) final_word (Both AnIndex (Both ASetOp ChangeKey)) set_op (codes "SetOpM") (after_begins c.args.nullsafe) set_op_form (λ w u m. (m, λ e. absurd (never_both (sym e ∙ c.if-nullsafe.false)))) (λ w u n. n.0)
    any c.args.self.now c.skip-then-is_word-3.new.self c.set_op_operands.new.self c.set_op_operands.result c.if-is_word-3.ensures c.skip-then-is_word-3.ensures c.set_op_operands.ensures

pub returns-then-is_word-4 : goal.returns-then-is_word-4
returns-then-is_word-4 c =
    form_behind (FinalAfter c.args.nullsafe) final_word (Both AnIndex (Both AChange ChangeKey)) inc_dec (codes "IncDecM") (after_begins c.args.nullsafe) inc_dec_form (λ w u m. (m, λ e. absurd (never_both (sym e ∙ c.if-nullsafe.false)))) (λ w u n. n.0)
    any c.args.self.now c.skip-then-is_word-4.new.self c.inc_dec_operands.new.self c.inc_dec_operands.result c.if-is_word-4.ensures c.skip-then-is_word-4.ensures c.inc_dec_operands.ensures

pub returns-then-is_word-5 : goal.returns-then-is_word-5
returns-then-is_word-5 c =
    form_behind (FinalAfter c.args.nullsafe) final_word (Both AnIndex ChangeKey) unset (codes "UnsetM") (after_begins c.args.nullsafe) unset_form (λ w u m. (m, λ e. absurd (never_both (sym e ∙ c.if-nullsafe.false)))) (λ w u n. n.0)
    any c.args.self.now c.skip-then-is_word-5.new.self c.unset_operands.new.self c.unset_operands.result c.if-is_word-5.ensures c.skip-then-is_word-5.ensures c.unset_operands.ensures

pub returns-then-nullsafe : goal.returns-then-nullsafe
returns-then-nullsafe c = nullsafe_stuck c.args.nullsafe c.args.self.now c.if-nullsafe.true c.if-is_word.ensures

pub returns : goal.returns
returns c = final_stuck c.args.nullsafe c.args.self.now c.if-is_word.ensures c.if-is_word-2.ensures c.if-is_word-3.ensures c.if-is_word-4.ensures c.if-is_word-5.ensures
