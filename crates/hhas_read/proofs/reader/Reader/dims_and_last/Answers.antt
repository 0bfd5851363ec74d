use Rattle.std.proofs.Common.{◌≡◌, false, ◌||◌, [], ◌++◌, sym, ap, ◌∙◌, subst, rules, Err}
use Rattle.hhbc_repo.specs.CodeSyntax.{is_nullsafe}
use Rattle.hhas_read.specs.Reading.{Reads, any}
use Rattle.hhas_read.specs.Sequences.{DimsAfter, FinalAfter}
use Rattle.hhas_read.proofs.Resuming.{Resumes, past_none, past_on, resumes_start, stop_lifts, taken_lifts}
use Rattle.hhas_read.proofs.DimForms.{KeysTaken, behind_keys, dim_stops, final_next, one_more_key}
use Rattle.hhas_read.proofs.reader.Reader.dims_and_last.Goals as goal
use Rattle.hhas_read.proofs.reader.Reader.dims_and_last.Goals.{then-nullsafe, else-nullsafe}

pub loop-self-init : goal.loop-self-init
loop-self-init c =
    let start = c.args.self.now in
    ([], past_none start, subst (λ ks. Resumes any (DimsAfter false) [] (DimsAfter false) (behind_keys ks) start.tokens) (sym c.new-dims.ensures) (resumes_start any (DimsAfter false) start.tokens))

pub returns-in_err-key : goal.returns-in_err-key
returns-in_err-key c =
    let old = c.loop-self.self in let new = c.dim.new.self in let inv = c.loop-self.invariant in let e = c.in_err-key.field-0.0 in
    let is : c.from_residual.result ≡ Err e = search rules in
    subst (λ r. Reads any (DimsAfter false) c.args.self.now r new) (sym is)
    (stop_lifts any (DimsAfter false) (DimsAfter c.loop-self.nullsafe) c.args.self.now old new inv.0 (behind_keys c.loop-self.dims) e inv.2 inv.1
    (dim_stops c.loop-self.nullsafe old new e c.loop-self-test.ensures c.in_err-key.ensures))

pub loop-self-preserved : goal.loop-self-preserved
loop-self-preserved c =
    let k = c.in_ok-key.key in
    let is : c.if-nullsafe.nullsafe ≡ (c.loop-self.nullsafe || is_nullsafe k) = elim c.if-nullsafe.branch [
      | then-nullsafe w ↦ w.nullsafe-is ∙ w.if-nullsafe.true ∙ sym (ap (λ b. b || is_nullsafe k) w.if-nullsafe.true)
      | else-nullsafe w ↦ w.nullsafe-is ∙ w.is_nullsafe-nullsafe.ensures ∙ sym (ap (λ b. b || is_nullsafe k) w.if-nullsafe.false)
    ] in
    subst (λ b. KeysTaken c.args.self.now c.dim.new.self b c.push.new.self) (sym is)
    (one_more_key c.args.self.now c.loop-self.self c.dim.new.self c.loop-self.nullsafe c.loop-self.dims c.push.new.self k c.loop-self.invariant c.in_ok-key.ensures c.in_ok-push.ensures.ok)

pub returns-in_err-last : goal.returns-in_err-last
returns-in_err-last c =
    let old = c.loop-self.self in let new = c.last.new.self in let inv = c.loop-self.invariant in let e = c.in_err-last.field-0.0 in let ks = c.loop-self.dims in
    let is : c.from_residual-in_err-last.result ≡ Err e = search rules in
    subst (λ r. Reads any (DimsAfter false) c.args.self.now r new) (sym is)
    (stop_lifts any (DimsAfter false) (FinalAfter c.loop-self.nullsafe) c.args.self.now old new (inv.0 ++ []) (λ f. (ks, f)) e
    (final_next c.args.self.now old c.loop-self.nullsafe ks c.loop-self-test.ensures inv) (past_on inv.1 (past_none old)) c.in_err-last.ensures)

pub returns : goal.returns
returns c =
    let old = c.loop-self.self in let new = c.last.new.self in let inv = c.loop-self.invariant in let ks = c.loop-self.dims in
    taken_lifts any (DimsAfter false) (FinalAfter c.loop-self.nullsafe) c.args.self.now old new (inv.0 ++ []) (λ f. (ks, f)) c.in_ok-last.last
    (final_next c.args.self.now old c.loop-self.nullsafe ks c.loop-self-test.ensures inv) (past_on inv.1 (past_none old)) c.in_ok-last.ensures
