use Rattle.std.proofs.Common.{◌≡◌, ◌≤◌, ◌<◌, ◌+◌, ◌++◌, suc, List, [], ◌∷◌, sym, subst, rules, arith, Err}
use Rattle.hhas_lex.specs.Tokens.{Token, Mark}
use Rattle.hhbc_repo.specs.TypeSyntax.{line}
use Rattle.hhas_read.specs.Constraints.{BroadsFrom}
use Rattle.hhas_read.specs.Reading.{Past, Reads, Taken, next}
use Rattle.hhas_read.specs.Written.{atom_of, ends_type}
use Rattle.hhas_read.proofs.Broad.{MoreBroads, to_more_broads, one_more_broad, broads_end, broads_stuck, broads_stop}
use Rattle.hhas_read.proofs.Resuming.{Resumes, stop_lifts, stuck_lifts, taken_lifts}
use Rattle.hhas_read.proofs.reader.Reader.broad_atoms.Goals as goal
use Rattle.hhas_read.proofs.reader.Reader.broad_atoms.Goals.{else-least-le8-via-then-least-le8+else-is_mark, else-least-le8-via-else-least-le8}

pub returns-in_err-atom : goal.returns-in_err-atom
returns-in_err-atom c =
    let old = c.args.self.now in let cur = c.loop-out.self in let new = c.broad_from.new.self in
    let stop = c.in_err-atom.field-0.0 in
    let whole : Reads ends_type (BroadsFrom 0) old (Err stop) new =
    stop_lifts ends_type (BroadsFrom 0) (BroadsFrom c.loop-out.least) old cur new c.loop-out.invariant.1 (λ ys. c.loop-out.out ++ ys) stop c.loop-out.invariant.3 c.loop-out.invariant.2
    (broads_stop c.loop-out.least cur new stop c.in_err-atom.ensures) in
    let is : c.from_residual.result ≡ Err stop = search rules in
    subst (λ r. Reads ends_type (BroadsFrom 0) old r new) (sym is) whole

pub loop-out-preserved : goal.loop-out-preserved
loop-out-preserved c =
    let old = c.args.self.now in let cur = c.loop-out.self in let mid = c.broad_from.new.self in
    let out = c.loop-out.out in let v = c.in_ok-atom.atom in let is = c.atom_line-least.ensures in
    let far = to_more_broads c.loop-out.least old cur mid out v (c.loop-out.invariant.1, c.loop-out.invariant.2, c.loop-out.invariant.3) c.in_ok-atom.ensures in
    let same : suc (line (atom_of v)) ≡ c.atom_line-least.result + 1 = omega (arith, is) in
    let least = c.atom_line-least.result + 1 in
    let low : least ≤ 8 = omega (arith, c.if-least-le8.true) in
    let on = one_more_broad least old mid c.skip.new.self out c.push.new.self v
    (subst (λ n. (used : List Token) × Past used old mid × Resumes ends_type (BroadsFrom 0) used (MoreBroads n) (λ us. out ++ (v ∷ us)) mid.tokens) same far)
    c.if-is_mark.ensures c.skip.ensures c.in_ok-push.ensures.ok in
    (low, on.0, on.1, on.2)

pub returns-then-ends_type : goal.returns-then-ends_type
returns-then-ends_type c =
    let old = c.args.self.now in let cur = c.loop-out.self in let mid = c.broad_from.new.self in
    let out = c.loop-out.out in let v = c.in_ok-atom.atom in let least = suc (line (atom_of v)) in
    let far = to_more_broads c.loop-out.least old cur mid out v (c.loop-out.invariant.1, c.loop-out.invariant.2, c.loop-out.invariant.3) c.in_ok-atom.ensures in
    subst (Taken ends_type (BroadsFrom 0) old mid) (sym c.in_ok-push.ensures.ok)
    (taken_lifts ends_type (BroadsFrom 0) (MoreBroads least) old mid mid far.0 (λ us. out ++ (v ∷ us)) [] far.2 far.1
    (broads_end least mid (sym c.if-ends_type.ensures)))

pub returns-else-ends_type : goal.returns-else-ends_type
returns-else-ends_type c =
    let old = c.args.self.now in let cur = c.loop-out.self in let mid = c.broad_from.new.self in
    let out = c.loop-out.out in let v = c.in_ok-atom.atom in let least = suc (line (atom_of v)) in
    let far = to_more_broads c.loop-out.least old cur mid out v (c.loop-out.invariant.1, c.loop-out.invariant.2, c.loop-out.invariant.3) c.in_ok-atom.ensures in
    let late : next mid ≡ Mark 124 → 8 < least = λ e. elim c.else-least-le8.branch [
      | else-least-le8-via-then-least-le8+else-is_mark w ↦ absurd (w.if-is_mark.ensures e)
      | else-least-le8-via-else-least-le8 w ↦ omega (arith, w.if-least-le8.false, c.atom_line-least.ensures)
    ] in
    stuck_lifts ends_type (BroadsFrom 0) (MoreBroads least) old mid mid far.0 (λ us. out ++ (v ∷ us)) far.2 far.1
    (broads_stuck least mid (sym c.if-ends_type.ensures) late)
