use Rattle.hhas_read.proofs.Tags.{tag_on, tag_stop}
use Rattle.hhas_read.proofs.reader.Reader.tag.Goals as goal

pub returns-in-Ok : goal.returns-in-Ok
returns-in-Ok c = tag_on c.args.name.now c.args.self.now c.keyword.new.self c.mark.new.self c.mark.result c.in-Ok.ensures c.mark.ensures

pub returns-in-Err : goal.returns-in-Err
returns-in-Err c = tag_stop c.args.name.now c.args.self.now c.keyword.new.self c.in-Err.stop c.in-Err.ensures
