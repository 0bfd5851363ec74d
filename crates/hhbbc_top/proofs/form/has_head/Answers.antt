use Rattle.std.proofs.Common.{◌≡◌, ◌≤◌, ℕ, [], List, length, arith, ap, refl, sym, ◌∙◌, leb-true, le-leb}
use Rattle.std.proofs.lemmas.List.{nil_from_length}
use Rattle.std.proofs.lemmas.Bool.Decides.{Decides-eqb}
use Rattle.hhbc_repo.specs.declared.body.Position.{Position}
use Rattle.hhbbc_top.proofs.form.has_head.Goals as goal

pub returns-then-as_slice-le-MAX_LOCALS : goal.returns-then-as_slice-le-MAX_LOCALS
returns-then-as_slice-le-MAX_LOCALS c =
    let regions = c.as_slice.result.now in
    let all = c.as_slice-then-as_slice-le-MAX_LOCALS.result.now in
    let count : length all ≡ length c.args.body.now.positions = ap (λ (ps : List Position). length ps) c.as_slice-then-as_slice-le-MAX_LOCALS.ensures in
    let named = sym c.bytes.ensures ∙ c.if-not-is_main.ensures.0 refl in
    let none = sym c.as_slice.ensures ∙ nil_from_length regions ((Decides-eqb (length regions) 0).0 (sym c.if-not-is_empty.ensures)) in
    let locals = c.as_slice-2.result.now in
    let same : length locals ≡ length c.args.body.now.locals = ap (λ (ls : List (List ℕ)). length ls) c.as_slice-2.ensures in
    let small : length c.args.body.now.locals ≤ 255 = omega (arith, same, c.if-as_slice-le-MAX_LOCALS.true) in (
      (λ h.
          let bound : length all ≤ 200 = leb-true (length all) 200 h in
          record {
            name = named;
            params = omega (arith, c.if-body-gt0.false);
            iters = omega (arith, c.if-body-gt0-2.false);
            regions = none;
            stated = c.if-not-is_stated.ensures.0 refl;
            locals = small;
            few = omega (arith, count, bound);
          }),
      (λ k. let few : length c.args.body.now.positions ≤ 200 = k.few in le-leb (length all) 200 (omega (arith, count, few))),
    )
