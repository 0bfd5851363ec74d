use Rattle.std.proofs.Common.{◌≡◌, rules, Err}
use Rattle.hhbc_repo.specs.Languages.{Both}
use Rattle.hhbc_repo.specs.CodeSyntax.{AWord}
use Rattle.hhas_read.specs.ClassMembers.{ParentAndMembers, class_of}
use Rattle.hhas_read.proofs.ClassLaws.{parent_members_law}
use Rattle.hhas_read.proofs.OneAtom.{a_word}
use Rattle.hhas_read.proofs.Pairs.{both_taken, first_stops, means_stops, means_taken, second_stops}
use Rattle.hhas_read.proofs.reader.Reader.class_tail.Goals as goal

pub returns-in_err-name : goal.returns-in_err-name
returns-in_err-name c =
    let e = c.in_err-name.field-0.0 in let is : c.from_residual.result ≡ Err e = search rules in
    means_stops class_of (Both AWord ParentAndMembers) c.args.self.now c.word.new.self e c.from_residual.result is
    (first_stops AWord ParentAndMembers parent_members_law.some c.args.self.now c.word.new.self e c.in_err-name.ensures)

pub returns-in_err-parent : goal.returns-in_err-parent
returns-in_err-parent c =
    let e = c.in_err-parent.field-0.0 in let is : c.from_residual-in_err-parent.result ≡ Err e = search rules in
    means_stops class_of (Both AWord ParentAndMembers) c.args.self.now c.parent_and_members.new.self e c.from_residual-in_err-parent.result is
    (second_stops AWord ParentAndMembers a_word c.args.self.now c.word.new.self c.parent_and_members.new.self c.in_ok-name.name e c.in_ok-name.ensures c.in_err-parent.ensures)

pub returns : goal.returns
returns c =
    means_taken class_of (Both AWord ParentAndMembers) c.args.self.now c.parent_and_members.new.self (c.in_ok-name.name, (c.in_ok-parent.parent, c.in_ok-parent.members))
    (both_taken AWord ParentAndMembers c.args.self.now c.word.new.self c.parent_and_members.new.self c.in_ok-name.name (c.in_ok-parent.parent, c.in_ok-parent.members) c.in_ok-name.ensures c.in_ok-parent.ensures)
