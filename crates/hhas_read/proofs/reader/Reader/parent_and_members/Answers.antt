use Rattle.std.proofs.Common.{◌≡◌, [], sym, subst, codes, rules, Some, None, Err}
use Rattle.hhas_lex.specs.Tokens.{Word}
use Rattle.hhas_read.specs.ClassMembers.{AParent, Braced, ParentAndMembers}
use Rattle.hhas_read.specs.Reading.{Reads, any}
use Rattle.hhas_read.proofs.ClassLaws.{braced_law, braced_never, parent_begins}
use Rattle.hhas_read.proofs.ClassParts.{parent_law}
use Rattle.hhas_read.proofs.Maybe.{perhaps_none, perhaps_some, perhaps_stops}
use Rattle.hhas_read.proofs.Resuming.{past_none, stop_lifts, taken_lifts}
use Rattle.hhas_read.proofs.reader.Reader.parent_and_members.Goals as goal

pub returns-in_err-members : goal.returns-in_err-members
returns-in_err-members c =
    let old = c.args.self.now in let new = c.braced_members.new.self in let e = c.in_err-members.field-0.0 in let is : c.from_residual.result ≡ Err e = search rules in
    subst (λ r. Reads any ParentAndMembers old r new) (sym is)
    (stop_lifts any ParentAndMembers Braced old old new [] (λ m. (None, m)) e
    (perhaps_none AParent Braced (Word (codes "extends")) parent_begins braced_never old.tokens c.if-not-is_word.ensures) (past_none old) c.in_err-members.ensures)

pub returns-then-not-is_word : goal.returns-then-not-is_word
returns-then-not-is_word c =
    let old = c.args.self.now in
    taken_lifts any ParentAndMembers Braced old old c.braced_members.new.self [] (λ m. (None, m)) c.in_ok-members.members
    (perhaps_none AParent Braced (Word (codes "extends")) parent_begins braced_never old.tokens c.if-not-is_word.ensures) (past_none old) c.in_ok-members.ensures

pub returns-in_err-parent : goal.returns-in_err-parent
returns-in_err-parent c =
    let old = c.args.self.now in let new = c.parent.new.self in let e = c.in_err-parent.field-0.0 in let is : c.from_residual-in_err-parent.result ≡ Err e = search rules in
    subst (λ r. Reads any ParentAndMembers old r new) (sym is)
    (perhaps_stops AParent Braced (Word (codes "extends")) parent_begins braced_never braced_law.some old new e c.if-not-is_word.ensures c.in_err-parent.ensures)

pub returns-in_err-members-2 : goal.returns-in_err-members-2
returns-in_err-members-2 c =
    let old = c.args.self.now in let mid = c.parent.new.self in let new = c.braced_members-2.new.self in let p = c.in_ok-parent.parent in let t = c.in_ok-parent.ensures in
    let e = c.in_err-members-2.field-0.0 in let is : c.from_residual-in_err-members-2.result ≡ Err e = search rules in
    subst (λ r. Reads any ParentAndMembers old r new) (sym is)
    (stop_lifts any ParentAndMembers Braced old mid new t.used (λ m. (Some p, m)) e
    (perhaps_some AParent Braced (Word (codes "extends")) parent_begins braced_never parent_law old mid p t) t.past c.in_err-members-2.ensures)

pub returns : goal.returns
returns c =
    let old = c.args.self.now in let mid = c.parent.new.self in let p = c.in_ok-parent.parent in let t = c.in_ok-parent.ensures in
    taken_lifts any ParentAndMembers Braced old mid c.braced_members-2.new.self t.used (λ m. (Some p, m)) c.in_ok-members-2.members
    (perhaps_some AParent Braced (Word (codes "extends")) parent_begins braced_never parent_law old mid p t) t.past c.in_ok-members-2.ensures
