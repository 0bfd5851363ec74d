use Rattle.std.proofs.Common.{◌≡◌, sym, subst, rules, Err}
use Rattle.hhas_read.specs.ClassMembers.{MembersToEnd}
use Rattle.hhas_read.specs.Reading.{Reads, any}
use Rattle.hhas_read.proofs.ClassLaws.{MembersTaken, member_stops, member_taken, members_end, no_members}
use Rattle.hhas_read.proofs.reader.Reader.members_to_end.Goals as goal

pub loop-alloc-init : goal.loop-alloc-init
loop-alloc-init c = subst (MembersTaken c.args.self.now c.args.self.now) (sym c.new-members.ensures) (no_members c.args.self.now)

pub returns-in_err-member : goal.returns-in_err-member
returns-in_err-member c =
    let e = c.in_err-member.field-0.0 in let new = c.member.new.self in let is : c.from_residual.result ≡ Err e = search rules in
    subst (λ r. Reads any MembersToEnd c.args.self.now r new) (sym is)
    (member_stops c.args.self.now c.loop-alloc.self new c.loop-alloc.members e c.loop-alloc.invariant c.loop-alloc-test.ensures c.in_err-member.ensures)

pub loop-alloc-preserved : goal.loop-alloc-preserved
loop-alloc-preserved c =
    member_taken c.args.self.now c.loop-alloc.self c.member.new.self c.loop-alloc.members c.add.new.self c.in_ok-member.member c.loop-alloc.invariant c.loop-alloc-test.ensures
    c.in_ok-member.ensures c.in_ok-add.ensures

pub returns : goal.returns
returns c = members_end c.args.self.now c.loop-alloc.self c.skip.new.self c.loop-alloc.members c.loop-alloc.invariant c.loop-alloc-test.ensures c.skip.ensures
