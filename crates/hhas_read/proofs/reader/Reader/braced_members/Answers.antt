use Rattle.hhas_lex.specs.Tokens.{Mark}
use Rattle.hhas_read.specs.Reading.{any}
use Rattle.hhas_read.specs.ClassMembers.{MembersToEnd}
use Rattle.hhas_read.proofs.ClassLaws.{members_law}
use Rattle.hhas_read.proofs.Firsts.{first_reads, first_stop}
use Rattle.hhas_read.proofs.reader.Reader.braced_members.Goals as goal

pub returns-in-Ok : goal.returns-in-Ok
returns-in-Ok c =
    first_reads any (Mark 123) MembersToEnd c.args.self.now c.mark.new.self c.members_to_end.new.self c.members_to_end.result c.in-Ok.ensures c.members_to_end.ensures

pub returns-in-Err : goal.returns-in-Err
returns-in-Err c = first_stop any (Mark 123) MembersToEnd c.args.self.now c.mark.new.self c.in-Err.stop members_law.some c.in-Err.ensures
