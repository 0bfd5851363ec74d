use Rattle.std.proofs.Common.{[], ◌∷◌, codes, subst}
use Rattle.hhas_lex.specs.Tokens.{Directive}
use Rattle.hhbc_repo.specs.BodySyntax.{ABody}
use Rattle.hhas_read.specs.declared.class_members.Member.TheVariants as members
use Rattle.hhas_read.specs.ClassMembers.{AMemberOf, ConstTail, PropertyTail}
use Rattle.hhas_read.specs.Reading.{Past, any}
use Rattle.hhas_read.proofs.ClassMemberForms.{const_resumes, member_stuck, method_resumes, property_resumes}
use Rattle.hhas_read.proofs.Resuming.{stop_lifts, taken_lifts}
use Rattle.hhas_read.proofs.reader.Reader.member.Goals as goal

pub returns-in-Ok : goal.returns-in-Ok
returns-in-Ok c =
    let old = c.args.self.now in let mid = c.skip.new.self in
    taken_lifts any AMemberOf ConstTail old mid c.constant.new.self (Directive (codes "const") ∷ []) members.Const c.in-Ok.constant (const_resumes mid.tokens)
    (subst (λ t. Past (t ∷ []) old mid) c.if-is_directive.ensures c.skip.ensures) c.in-Ok.ensures

pub returns-in-Err : goal.returns-in-Err
returns-in-Err c =
    let old = c.args.self.now in let mid = c.skip.new.self in
    stop_lifts any AMemberOf ConstTail old mid c.constant.new.self (Directive (codes "const") ∷ []) members.Const c.in-Err.stop (const_resumes mid.tokens)
    (subst (λ t. Past (t ∷ []) old mid) c.if-is_directive.ensures c.skip.ensures) c.in-Err.ensures

pub returns-in-Ok-property : goal.returns-in-Ok-property
returns-in-Ok-property c =
    let old = c.args.self.now in let mid = c.skip-then-is_directive-2.new.self in
    taken_lifts any AMemberOf PropertyTail old mid c.property.new.self (Directive (codes "property") ∷ []) members.Property c.in-Ok-property.property (property_resumes mid.tokens)
    (subst (λ t. Past (t ∷ []) old mid) c.if-is_directive-2.ensures c.skip-then-is_directive-2.ensures) c.in-Ok-property.ensures

pub returns-in-Err-property : goal.returns-in-Err-property
returns-in-Err-property c =
    let old = c.args.self.now in let mid = c.skip-then-is_directive-2.new.self in
    stop_lifts any AMemberOf PropertyTail old mid c.property.new.self (Directive (codes "property") ∷ []) members.Property c.in-Err-property.stop (property_resumes mid.tokens)
    (subst (λ t. Past (t ∷ []) old mid) c.if-is_directive-2.ensures c.skip-then-is_directive-2.ensures) c.in-Err-property.ensures

pub returns-in-Ok-body : goal.returns-in-Ok-body
returns-in-Ok-body c =
    let old = c.args.self.now in let mid = c.skip-then-is_directive-3.new.self in
    taken_lifts any AMemberOf ABody old mid c.body.new.self (Directive (codes "method") ∷ []) members.Method c.in-Ok-body.method (method_resumes mid.tokens)
    (subst (λ t. Past (t ∷ []) old mid) c.if-is_directive-3.ensures c.skip-then-is_directive-3.ensures) c.in-Ok-body.ensures

pub returns-in-Err-body : goal.returns-in-Err-body
returns-in-Err-body c =
    let old = c.args.self.now in let mid = c.skip-then-is_directive-3.new.self in
    stop_lifts any AMemberOf ABody old mid c.body.new.self (Directive (codes "method") ∷ []) members.Method c.in-Err-body.stop (method_resumes mid.tokens)
    (subst (λ t. Past (t ∷ []) old mid) c.if-is_directive-3.ensures c.skip-then-is_directive-3.ensures) c.in-Err-body.ensures

pub returns : goal.returns
returns c = member_stuck c.args.self.now c.if-is_directive.ensures c.if-is_directive-2.ensures c.if-is_directive-3.ensures
