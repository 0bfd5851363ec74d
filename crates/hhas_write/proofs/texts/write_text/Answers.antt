use Rattle.hhas_write.proofs.Whole.{whole_written}
use Rattle.hhas_write.proofs.texts.write_text.Goals as goal

pub returns : goal.returns
returns c =
    whole_written c.args.repo.now c.class_names-names.result.now c.functions.result.now c.classes.result.now c.in_ok-out.out c.push_functions.new.out c.push_classes.new.out c.append.new.self
    c.class_names-names.ensures c.functions.ensures c.classes.ensures c.in_ok-out.ensures c.in_ok-push_functions.ensures c.in_ok-push_classes.ensures c.in_ok-append.ensures.ok
