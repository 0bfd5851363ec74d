use Rattle.std.proofs.Common.{◌≡◌, ◌≤◌, ◌<◌, ◌+◌, ◌++◌, suc, List, [], ◌∷◌, sym, subst, rules, arith, Err}
use Rattle.hhas_lex.specs.Tokens.{Token, Mark}
use Rattle.hhbc_repo.specs.TypeSyntax.{line}
use Rattle.hhas_read.specs.LeafSyntax.{AtomsFrom, last_line}
use Rattle.hhas_read.specs.Reading.{Past, Reads, Taken, next}
use Rattle.hhas_read.specs.Written.{atom_of, ends_type}
use Rattle.hhas_read.proofs.Lines.{MoreAtoms, to_more_atoms, one_more_atom, atoms_end, atoms_stuck, atom_stop}
use Rattle.hhas_read.proofs.Resuming.{Resumes, stop_lifts, stuck_lifts, taken_lifts}
use Rattle.hhas_read.proofs.reader.Reader.atoms.Goals as goal
use Rattle.hhas_read.proofs.reader.Reader.atoms.Goals.{else-least-last_line-via-then-least-last_line+else-is_mark, else-least-last_line-via-else-least-last_line}

pub returns-in_err-atom : goal.returns-in_err-atom
returns-in_err-atom c =
    let keys = c.args.keys in let old = c.args.self.now in let cur = c.loop-out.self in let new = c.atom_from.new.self in
    let stop = c.in_err-atom.field-0.0 in
    let whole : Reads ends_type (AtomsFrom keys 0) old (Err stop) new =
    stop_lifts ends_type (AtomsFrom keys 0) (AtomsFrom keys c.loop-out.least) old cur new c.loop-out.invariant.1 (λ ys. c.loop-out.out ++ ys) stop c.loop-out.invariant.3 c.loop-out.invariant.2
    (atom_stop keys c.loop-out.least cur new stop c.in_err-atom.ensures) in
    let is : c.from_residual.result ≡ Err stop = search rules in
    subst (λ r. Reads ends_type (AtomsFrom keys 0) old r new) (sym is) whole

pub loop-out-preserved : goal.loop-out-preserved
loop-out-preserved c =
    let keys = c.args.keys in let old = c.args.self.now in let cur = c.loop-out.self in let mid = c.atom_from.new.self in
    let out = c.loop-out.out in let v = c.in_ok-atom.atom in let is = c.atom_line-least.ensures in
    let far = to_more_atoms keys c.loop-out.least old cur mid out v (c.loop-out.invariant.1, c.loop-out.invariant.2, c.loop-out.invariant.3) c.in_ok-atom.ensures in
    let same : suc (line (atom_of v)) ≡ c.atom_line-least.result + 1 = omega (arith, is) in
    let least = c.atom_line-least.result + 1 in
    let low : least ≤ last_line keys = omega (arith, c.if-least-last_line.true, c.last_line.ensures) in
    let on = one_more_atom keys least old mid c.skip.new.self out c.push.new.self v
    (subst (λ n. (used : List Token) × Past used old mid × Resumes ends_type (AtomsFrom keys 0) used (MoreAtoms keys n) (λ us. out ++ (v ∷ us)) mid.tokens) same far)
    c.if-is_mark.ensures c.skip.ensures c.in_ok-push.ensures.ok in
    (low, on.0, on.1, on.2)

pub returns-then-ends_type : goal.returns-then-ends_type
returns-then-ends_type c =
    let keys = c.args.keys in let old = c.args.self.now in let cur = c.loop-out.self in let mid = c.atom_from.new.self in
    let out = c.loop-out.out in let v = c.in_ok-atom.atom in let least = suc (line (atom_of v)) in
    let far = to_more_atoms keys c.loop-out.least old cur mid out v (c.loop-out.invariant.1, c.loop-out.invariant.2, c.loop-out.invariant.3) c.in_ok-atom.ensures in
    subst (Taken ends_type (AtomsFrom keys 0) old mid) (sym c.in_ok-push.ensures.ok)
    (taken_lifts ends_type (AtomsFrom keys 0) (MoreAtoms keys least) old mid mid far.0 (λ us. out ++ (v ∷ us)) [] far.2 far.1
    (atoms_end keys least mid (sym c.if-ends_type.ensures)))

pub returns-else-ends_type : goal.returns-else-ends_type
returns-else-ends_type c =
    let keys = c.args.keys in let old = c.args.self.now in let cur = c.loop-out.self in let mid = c.atom_from.new.self in
    let out = c.loop-out.out in let v = c.in_ok-atom.atom in let least = suc (line (atom_of v)) in
    let far = to_more_atoms keys c.loop-out.least old cur mid out v (c.loop-out.invariant.1, c.loop-out.invariant.2, c.loop-out.invariant.3) c.in_ok-atom.ensures in
    let late : next mid ≡ Mark 124 → last_line keys < least = λ e. elim c.else-least-last_line.branch [
      | else-least-last_line-via-then-least-last_line+else-is_mark w ↦ absurd (w.if-is_mark.ensures e)
      | else-least-last_line-via-else-least-last_line w ↦ omega (arith, w.if-least-last_line.false, c.last_line.ensures, c.atom_line-least.ensures)
    ] in
    stuck_lifts ends_type (AtomsFrom keys 0) (MoreAtoms keys least) old mid mid far.0 (λ us. out ++ (v ∷ us)) far.2 far.1
    (atoms_stuck keys least mid (sym c.if-ends_type.ensures) late)
