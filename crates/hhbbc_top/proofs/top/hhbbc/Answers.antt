use Rattle.hhbbc_top.proofs.Headline.{accepted-answer, accepted-delivered}
use Rattle.hhbbc_top.proofs.top.hhbbc.Goals as goal

pub returns-clause-accepts : goal.returns-clause-accepts
returns-clause-accepts g c =
    accepted-delivered c.args.words.now _ c.deliver.result _ c.deliver.ensures.status
    (accepted-answer c.text_spells_one_repository.ensures c.first_fault_is_one.ensures.spelled c.args.words.now _ _ _ _ _ _ _ c.answer_for-answer.ensures.answer)
