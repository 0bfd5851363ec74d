use Rattle.hhbbc_top.proofs.Headline.{judged-as}
use Rattle.hhbbc_top.proofs.top.answer_to.Goals as goal

pub returns-in-Ok : goal.returns-in-Ok
returns-in-Ok c =
    judged-as
    (record {
      one = c.text_spells_one_repository.ensures;
      annotates = c.bare_chain_annotates.ensures;
      faithful = c.second_is_faithful.ensures;
      unique = c.second_is_unique.ensures;
      spelled = c.canonical_texts_are_read_back.ensures.spelled;
      back = c.canonical_texts_are_read_back.ensures.reads;
      kept = c.annotated_has_spelling.ensures;
    })
    c.args.command c.args.text.now c.in-Ok.repo c.judged.result c.in-Ok.ensures.repository c.judged.ensures

pub returns-in-Err : goal.returns-in-Err
returns-in-Err c = c.fault_told.ensures c.args.command c.args.text.now c.in-Err.ensures.fault
