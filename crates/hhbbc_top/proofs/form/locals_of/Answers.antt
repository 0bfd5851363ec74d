use Rattle.std.proofs.Common.{◌≡◌, ℕ, suc, ◌+◌, ◌<◌, ◌++◌, ◌∷◌, [], true, false, drop, take, get_or, is_some, length, add-one, drop-cons, ap, refl, subst, sym, ◌∙◌, List}
use Rattle.std.proofs.Math.Seq.{take-suc}
use Rattle.std.proofs.lemmas.List.{take-append-drop}
use Rattle.hhbc_semantics.specs.Form.{AllDiffer}
use Rattle.hhbc_repo.specs.LinkFaults.{place_in}
use Rattle.hhbbc_top.proofs.Fitting.{differ-push, fresh-there, not-new}
use Rattle.hhbbc_top.proofs.form.locals_of.Goals as goal

next : (xs : List (List ℕ)) (i : ℕ) (a : List ℕ) → i < length xs → a ≡ get_or xs i a → xs ≡ take i xs ++ a ∷ drop (suc i) xs
next xs i a l e =
    sym (take-append-drop i xs) ∙ ap (λ (ys : List (List ℕ)). take i xs ++ ys) (drop-cons xs i a l ∙ ap (λ (b : List ℕ). b ∷ drop (suc i) xs) (sym e))

one-more : (xs : List (List ℕ)) (i : ℕ) (a : List ℕ) → i < length xs → a ≡ get_or xs i a → take (i + 1) xs ≡ take i xs ++ a ∷ []
one-more xs i a l e = rw add-one (take-suc xs i a l ∙ ap (λ (b : List ℕ). take i xs ++ b ∷ []) (sym e))

pub returns-then-is_some-clause-other : goal.returns-then-is_some-clause-other
returns-then-is_some-clause-other c =
    let xs = c.args.names.now in
    let i = c.loop-name.name-index in
    let x = c.name-item.result in
    let place = c.place_of.ensures ∙ (λ j. place_in ((c.as_slice.ensures ∙ c.loop-name.invariant.same) j) (c.bytes.ensures j)) in
    λ e d. not-new xs (take i xs) (drop (suc i) xs) x (next xs i x c.loop-name-test.true c.name-item.is) (ap is_some (sym place) ∙ sym c.if-is_some.ensures) d

pub loop-name-preserved : goal.loop-name-preserved
loop-name-preserved c =
    let xs = c.args.names.now in
    let i = c.loop-name.name-index in
    let x = c.name-item.result in
    let pushed = c.in_ok-push.ensures.ok ∙ ap (λ (t : List ℕ). c.loop-name.locals ++ t ∷ []) c.in_ok-copy.ensures in
    let place = c.place_of.ensures ∙ (λ j. place_in (c.as_slice.ensures j) (c.bytes.ensures j)) in
    let fresh = ap is_some (sym place) ∙ sym c.if-is_some.ensures in
    record {
      same = pushed ∙ ap (λ (ys : List (List ℕ)). ys ++ x ∷ []) c.loop-name.invariant.same ∙ sym (one-more xs i x c.loop-name-test.true c.name-item.is);
      differ = subst AllDiffer (sym pushed) (differ-push c.loop-name.locals x c.loop-name.invariant.differ (fresh-there x c.loop-name.locals fresh));
    }
