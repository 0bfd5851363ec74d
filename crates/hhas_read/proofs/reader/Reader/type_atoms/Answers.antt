use Rattle.std.proofs.Common.{◌≡◌, ◌≤◌, ◌<◌, ◌+◌, ◌++◌, suc, List, [], ◌∷◌, sym, subst, rules, arith, lit≤, Err}
use Rattle.hhas_lex.specs.Tokens.{Token, Mark}
use Rattle.hhbc_repo.specs.TypeSyntax.{type_line}
use Rattle.hhas_read.specs.Reading.{Past, Reads, Taken, next}
use Rattle.hhas_read.specs.TypeWords.{type_atom_of}
use Rattle.hhas_read.specs.WholeTypes.{TypeAtomsBehind, TypeAtomsFrom}
use Rattle.hhas_read.specs.Written.{ends_type}
use Rattle.hhas_read.proofs.TypeLines.{MoreTypes, to_more_types, one_more_type, types_end, types_stuck, types_stop}
use Rattle.hhas_read.proofs.Joining.{means_resumes}
use Rattle.hhas_read.proofs.Resuming.{Resumes, past_none, stop_lifts, stuck_lifts, taken_lifts}
use Rattle.hhas_read.proofs.reader.Reader.type_atoms.Goals as goal
use Rattle.hhas_read.proofs.reader.Reader.type_atoms.Goals.{else-least-le8-via-then-least-le8+else-is_mark, else-least-le8-via-else-least-le8}

pub returns-in_err-atom : goal.returns-in_err-atom
returns-in_err-atom c =
    let old = c.args.self.now in let cur = c.loop-out.self in let new = c.type_atom_from.new.self in
    let stop = c.in_err-atom.field-0.0 in
    let whole : Reads ends_type (TypeAtomsBehind c.args.first) old (Err stop) new =
    stop_lifts ends_type (TypeAtomsBehind c.args.first) (TypeAtomsFrom c.loop-out.least) old cur new c.loop-out.invariant.2 (λ ys. c.loop-out.out ++ ys) stop c.loop-out.invariant.4 c.loop-out.invariant.3
    (types_stop c.loop-out.least cur new stop c.in_err-atom.ensures) in
    let is : c.from_residual.result ≡ Err stop = search rules in
    subst (λ r. Reads ends_type (TypeAtomsBehind c.args.first) old r new) (sym is) whole

pub loop-out-preserved : goal.loop-out-preserved
loop-out-preserved c =
    let old = c.args.self.now in let cur = c.loop-out.self in let mid = c.type_atom_from.new.self in
    let out = c.loop-out.out in let v = c.in_ok-atom.atom in let is = c.type_line-least.ensures in
    let far = to_more_types c.args.first c.loop-out.least old cur mid out v (c.loop-out.invariant.2, c.loop-out.invariant.3, c.loop-out.invariant.4) c.in_ok-atom.ensures in
    let same : suc (type_line (type_atom_of v)) ≡ c.type_line-least.result + 1 = omega (arith, is) in
    let least = c.type_line-least.result + 1 in
    let some : 1 ≤ least = omega (arith) in
    let low : least ≤ 8 = omega (arith, c.if-least-le8.true) in
    let on = one_more_type c.args.first least old mid c.skip.new.self out c.push.new.self v
    (subst (λ n. (used : List Token) × Past used old mid × Resumes ends_type (TypeAtomsBehind c.args.first) used (MoreTypes n) (λ us. out ++ (v ∷ us)) mid.tokens) same far)
    c.if-is_mark.ensures c.skip.ensures c.in_ok-push.ensures.ok in
    (some, low, on.0, on.1, on.2)

pub returns-then-ends_type : goal.returns-then-ends_type
returns-then-ends_type c =
    let old = c.args.self.now in let cur = c.loop-out.self in let mid = c.type_atom_from.new.self in
    let out = c.loop-out.out in let v = c.in_ok-atom.atom in let least = suc (type_line (type_atom_of v)) in
    let far = to_more_types c.args.first c.loop-out.least old cur mid out v (c.loop-out.invariant.2, c.loop-out.invariant.3, c.loop-out.invariant.4) c.in_ok-atom.ensures in
    subst (Taken ends_type (TypeAtomsBehind c.args.first) old mid) (sym c.in_ok-push.ensures.ok)
    (taken_lifts ends_type (TypeAtomsBehind c.args.first) (MoreTypes least) old mid mid far.0 (λ us. out ++ (v ∷ us)) [] far.2 far.1
    (types_end least mid (sym c.if-ends_type.ensures)))

pub returns-else-ends_type : goal.returns-else-ends_type
returns-else-ends_type c =
    let old = c.args.self.now in let cur = c.loop-out.self in let mid = c.type_atom_from.new.self in
    let out = c.loop-out.out in let v = c.in_ok-atom.atom in let least = suc (type_line (type_atom_of v)) in
    let far = to_more_types c.args.first c.loop-out.least old cur mid out v (c.loop-out.invariant.2, c.loop-out.invariant.3, c.loop-out.invariant.4) c.in_ok-atom.ensures in
    let late : next mid ≡ Mark 124 → 8 < least = λ e. elim c.else-least-le8.branch [
      | else-least-le8-via-then-least-le8+else-is_mark w ↦ absurd (w.if-is_mark.ensures e)
      | else-least-le8-via-else-least-le8 w ↦ omega (arith, w.if-least-le8.false, c.type_line-least.ensures)
    ] in
    stuck_lifts ends_type (TypeAtomsBehind c.args.first) (MoreTypes least) old mid mid far.0 (λ us. out ++ (v ∷ us)) far.2 far.1
    (types_stuck least mid (sym c.if-ends_type.ensures) late)

pub loop-out-init : goal.loop-out-init
loop-out-init c = (lit≤ tt, lit≤ tt, [], past_none c.args.self.now, means_resumes ends_type (λ xs. c.args.first ++ xs) (TypeAtomsFrom 1) c.args.self.now.tokens)
