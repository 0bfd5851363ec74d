use Rattle.std.proofs.Common.{◌≡◌, false, sym, subst, rules, Err}
use Rattle.hhbc_repo.specs.CodeSyntax.{AMemberSeq}
use Rattle.hhas_read.specs.Reading.{Reads, any}
use Rattle.hhas_read.specs.Sequences.{DimsAfter}
use Rattle.hhas_read.proofs.Resuming.{stop_lifts, taken_lifts}
use Rattle.hhas_read.proofs.MemberForms.{with_base, base_taken, base_stops}
use Rattle.hhas_read.proofs.reader.Reader.member_seq.Goals as goal

pub returns-in_err-base : goal.returns-in_err-base
returns-in_err-base c =
    let e = c.in_err-base.field-0.0 in let is : c.from_residual.result ≡ Err e = search rules in
    subst (λ r. Reads any AMemberSeq c.args.self.now r c.base.new.self) (sym is) (base_stops c.args.self.now c.base.new.self e c.in_err-base.ensures)

pub returns-in_err-dims : goal.returns-in_err-dims
returns-in_err-dims c =
    let old = c.args.self.now in let mid = c.base.new.self in let new = c.dims_and_last.new.self in let b = c.in_ok-base.base in
    let t = c.in_ok-base.ensures in let e = c.in_err-dims.field-0.0 in let is : c.from_residual-in_err-dims.result ≡ Err e = search rules in
    subst (λ r. Reads any AMemberSeq old r new) (sym is)
    (stop_lifts any AMemberSeq (DimsAfter false) old mid new t.used (with_base b) e (base_taken old mid b t) t.past c.in_err-dims.ensures)

pub returns : goal.returns
returns c =
    let old = c.args.self.now in let mid = c.base.new.self in let b = c.in_ok-base.base in let t = c.in_ok-base.ensures in
    taken_lifts any AMemberSeq (DimsAfter false) old mid c.dims_and_last.new.self t.used (with_base b) (c.in_ok-dims.dims, c.in_ok-dims.last) (base_taken old mid b t) t.past c.in_ok-dims.ensures
