use Rattle.std.proofs.Common.{◌≡◌, ◌++◌, List, ℕ, [], ◌∷◌, refl, sym, subst, codes, rules, Err}
use Rattle.hhas_lex.specs.Tokens.{Token, Local, Mark}
use Rattle.hhbc_repo.specs.Languages.{Both}
use Rattle.hhbc_repo.specs.CodeSyntax.{ALocal}
use Rattle.hhas_read.specs.Reading.{LocalsTo, Past, Placed, Reads, Taken, any}
use Rattle.hhas_read.proofs.Resuming.{Resumes, past_none, stop_lifts, stuck_lifts, taken_lifts}
use Rattle.hhas_read.proofs.Joining.{both_resumes, both_stop}
use Rattle.hhas_read.proofs.OneToken.{single_lawful}
use Rattle.hhas_read.proofs.Said.{same_local, same_mark}
use Rattle.hhas_read.proofs.Listed.{Left, first_and_more, listed_resumes, left_some, left_stuck, left_ends, one_more, to_left}
use Rattle.hhas_read.proofs.reader.Reader.locals_to.Goals as goal

a_local : (end : ℕ) (old mid : Placed) (x : List ℕ) → Taken any ALocal old mid x
    → (b : List Token) × Past b old mid × Resumes any (Both ALocal (Left 44 ALocal (Mark end))) b (Left 44 ALocal (Mark end)) (λ b. (x, b)) mid.tokens
a_local end old mid x t =
    (t.used, t.past, both_resumes any any ALocal (Left 44 ALocal (Mark end)) (λ b v y m o. refl) old mid x (single_lawful Local any (codes "a") refl same_local) t)

pub returns-in_err-local : goal.returns-in_err-local
returns-in_err-local c =
    let end = c.args.end in let new = c.local.new.self in let inv = c.loop-out.invariant in
    let stop = c.in_err-local.field-0.0 in
    let first = both_stop any any ALocal (Left 44 ALocal (Mark end)) (λ b v y m o. refl) c.loop-out.self new stop
    (left_some 44 ALocal (Mark end) c.requires.proper) c.in_err-local.ensures in
    let listed = stop_lifts any (LocalsTo end) (Both ALocal (Left 44 ALocal (Mark end))) c.loop-out.self c.loop-out.self new [] (first_and_more 44 ALocal (Mark end)) stop
    (listed_resumes 44 ALocal (Mark end) any c.loop-out.self.tokens) (past_none c.loop-out.self) first in
    let whole : Reads any (LocalsTo end) c.args.self.now (Err stop) new =
    stop_lifts any (LocalsTo end) (LocalsTo end) c.args.self.now c.loop-out.self new inv.0 (λ ys. c.loop-out.out ++ ys) stop inv.2 inv.1 listed in
    let is : c.from_residual.result ≡ Err stop = search rules in
    subst (λ r. Reads any (LocalsTo end) c.args.self.now r new) (sym is) whole

pub returns-then-is_mark : goal.returns-then-is_mark
returns-then-is_mark c =
    let end = c.args.end in let mid = c.local.new.self in let x = c.in_ok-local.local in let out = c.loop-out.out in
    let far = to_left 44 ALocal (Mark end) any c.args.self.now c.loop-out.self mid out x c.loop-out.invariant (a_local end c.loop-out.self mid x c.in_ok-local.ensures) in
    subst (Taken any (LocalsTo end) c.args.self.now c.skip.new.self) (sym c.in_ok-push.ensures.ok)
    (taken_lifts any (LocalsTo end) (Left 44 ALocal (Mark end)) c.args.self.now mid c.skip.new.self far.0 (λ ys. out ++ (x ∷ ys)) [] far.2 far.1
    (left_ends 44 ALocal (Mark end) any mid c.skip.new.self c.if-is_mark.ensures c.skip.ensures refl))

pub returns-then-not-is_mark : goal.returns-then-not-is_mark
returns-then-not-is_mark c =
    let end = c.args.end in let mid = c.local.new.self in let x = c.in_ok-local.local in let out = c.loop-out.out in
    let far = to_left 44 ALocal (Mark end) any c.args.self.now c.loop-out.self mid out x c.loop-out.invariant (a_local end c.loop-out.self mid x c.in_ok-local.ensures) in
    stuck_lifts any (LocalsTo end) (Left 44 ALocal (Mark end)) c.args.self.now mid mid far.0 (λ ys. out ++ (x ∷ ys)) far.2 far.1
    (left_stuck 44 ALocal (Mark end) any c.requires.proper mid c.if-not-is_mark.ensures c.if-is_mark.ensures)

pub loop-out-preserved : goal.loop-out-preserved
loop-out-preserved c =
    let end = c.args.end in let mid = c.local.new.self in let x = c.in_ok-local.local in let out = c.loop-out.out in
    let far = to_left 44 ALocal (Mark end) any c.args.self.now c.loop-out.self mid out x c.loop-out.invariant (a_local end c.loop-out.self mid x c.in_ok-local.ensures) in
    one_more 44 ALocal (Mark end) any c.args.self.now mid c.skip-in-loop-out.new.self out c.push.new.self x (λ e. c.requires.no_comma (same_mark end 44 e)) far
    c.if-not-is_mark.ensures c.skip-in-loop-out.ensures c.in_ok-push.ensures.ok
