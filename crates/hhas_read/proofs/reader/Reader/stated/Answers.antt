use Rattle.std.proofs.Common.{[], ◌∷◌, subst, codes, Some, None}
use Rattle.hhas_lex.specs.Tokens.{Directive, Mark}
use Rattle.hhas_read.specs.Reading.{Just, Past, any}
use Rattle.hhas_read.proofs.BodyForms.{StatedToBrace, TypeToBrace, stated_type, unstated}
use Rattle.hhas_read.proofs.Resuming.{past_none, stop_lifts, taken_lifts}
use Rattle.hhas_read.proofs.reader.Reader.stated.Goals as goal

pub returns-in-Err : goal.returns-in-Err
returns-in-Err c =
    let old = c.args.self.now in
    stop_lifts any StatedToBrace (Just (Mark 123)) old old c.mark.new.self [] (λ u. None) c.in-Err.stop (unstated old.tokens c.if-not-is_directive.ensures) (past_none old) c.in-Err.ensures

pub returns-in-Ok-type_to_brace : goal.returns-in-Ok-type_to_brace
returns-in-Ok-type_to_brace c =
    let old = c.args.self.now in let mid = c.skip.new.self in
    taken_lifts any StatedToBrace TypeToBrace old mid c.type_to_brace.new.self (Directive (codes "returns") ∷ []) Some c.in-Ok-type_to_brace.stated (stated_type mid.tokens)
    (subst (λ t. Past (t ∷ []) old mid) c.if-not-is_directive.ensures c.skip.ensures) c.in-Ok-type_to_brace.ensures

pub returns-in-Err-type_to_brace : goal.returns-in-Err-type_to_brace
returns-in-Err-type_to_brace c =
    let old = c.args.self.now in let mid = c.skip.new.self in
    stop_lifts any StatedToBrace TypeToBrace old mid c.type_to_brace.new.self (Directive (codes "returns") ∷ []) Some c.in-Err-type_to_brace.stop (stated_type mid.tokens)
    (subst (λ t. Past (t ∷ []) old mid) c.if-not-is_directive.ensures c.skip.ensures) c.in-Err-type_to_brace.ensures
