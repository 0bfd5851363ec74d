-- A repository of the first form has one annotated repository.
use Rattle.std.proofs.Common.{◌≡◌, ℕ, zero, suc, ◌<◌, ◌≤◌, refl, sym, ◌∙◌, ap, subst, Option, Some, None, List, [], ◌∷◌, slice_get, length, arith}
use Rattle.type_lattice.specs.declared.types.HType.{HType}
use Rattle.type_lattice.specs.Proper.{IsJoin}
use Rattle.type_lattice.proofs.Antisymmetry.{Le-antisym}
use Rattle.hhbc_repo.specs.declared.body.Body.{Body}
use Rattle.hhbc_repo.specs.declared.body.Position.{Position}
use Rattle.hhbc_repo.specs.Linked.{Linked}
use Rattle.hhbc_repo.specs.Bodies.{built_in_tree}
use Rattle.hhbc_repo.specs.Bare.{bare_body}
use Rattle.hhbc_semantics.specs.Form.{IsFirstBody}
use Rattle.hhbc_semantics.specs.Truth.{Facts}
use Rattle.hhbc_semantics.proofs.FirstForm.{only, first_is, built_in_antisymmetric}
use Rattle.abstract_step.specs.State.{State, StateLe}
use Rattle.abstract_step.proofs.StateSame.{StateLe-antisym}
use Rattle.func_analyze.specs.Solution.{Table, IsLeast}
use Rattle.func_analyze.specs.Rounds.{IsReturned}
use Rattle.func_analyze.specs.Annotated.{annotated_body, or_empty, IsAnnotated}
use Rattle.func_analyze.specs.Chain.{annotated_by}
use Rattle.func_analyze.specs.Laws.{AreWords, AnnotatedIsUnique}
use Rattle.func_analyze.proofs.ChainLeast.{chain_least}
use Rattle.func_analyze.proofs.ChainRounds.{states_of, end_of, end_least, joined}
use Rattle.func_analyze.proofs.ChainAnnotated.{claims_bare}
use Rattle.func_analyze.proofs.ChainProper.{returned_is_proper}

lists_same : {A : Type 0} (xs ys : List A) → ((i : ℕ) → slice_get xs i ≡ slice_get ys i) → xs ≡ ys
lists_same [] [] h = refl
lists_same [] (y ∷ ys) h = let e = h 0 in absurd (cc)
lists_same (x ∷ xs) [] h = let e = h 0 in absurd (cc)
lists_same (x ∷ xs) (y ∷ ys) h =
    let e : x ≡ y = let f = h 0 in cc in
    λ i. e i ∷ lists_same xs ys (λ n. h (suc n)) i

beyond : {A : Type 0} (xs : List A) (n : ℕ) → slice_get xs n ≡ None → length xs ≤ n
beyond [] n e = omega arith
beyond (x ∷ xs) zero e = absurd (cc)
beyond (x ∷ xs) (suc n) e = let h = beyond xs n e in omega (arith, h)

inside : {A : Type 0} (xs : List A) (n : ℕ) (x : A) → slice_get xs n ≡ Some x → n < length xs
inside [] n x e = absurd (cc)
inside (y ∷ xs) zero x e = omega arith
inside (y ∷ xs) (suc n) x e = let h = inside xs n x e in omega (arith, h)

module _ (b : Body) (F : Facts) where
  abbrev Least : Table → Type 0
  Least T = IsLeast (only (bare_body b)) F 0 T

  count_of : (T : Table) → Least T → length T ≡ length (bare_body b).positions
  count_of T h =
      let e = h.solution.at in
      let k : bare_body b ≡ h.solution.body = cc in
      h.solution.solves.count ∙ ap (λ (c : Body). length c.positions) (sym k)

  at_place : (T U : Table) → Least T → Least U → (n : ℕ) (x y : Option (Option State)) → slice_get T n ≡ x → slice_get U n ≡ y → x ≡ y
  at_place T U h k n None None e f = refl
  at_place T U h k n None (Some y) e f =
      let l = beyond T n e in
      let m = inside U n y f in
      let c = count_of T h in
      let d = count_of U k in
      absurd (omega (arith, l, m, c, d))
  at_place T U h k n (Some x) None e f =
      let l = beyond U n f in
      let m = inside T n x e in
      let c = count_of T h in
      let d = count_of U k in
      absurd (omega (arith, l, m, c, d))
  at_place T U h k n (Some None) (Some None) e f = refl
  at_place T U h k n (Some None) (Some (Some u)) e f = let w = k.least T h.solution n u f in let g = w.1 in absurd (cc)
  at_place T U h k n (Some (Some s)) (Some None) e f = let w = h.least U k.solution n s e in let g = w.1 in absurd (cc)
  at_place T U h k n (Some (Some s)) (Some (Some u)) e f =
      let v = h.least U k.solution n s e in
      let w = k.least T h.solution n u f in
      let v_is : v.0 ≡ u = let g = v.1 in cc in
      let w_is : w.0 ≡ s = let g = w.1 in cc in
      let le = subst (λ (x : State). StateLe built_in_tree s x) v_is v.2 in
      let ge = subst (λ (x : State). StateLe built_in_tree u x) w_is w.2 in
      ap (λ (x : State). Some (Some x)) (StateLe-antisym built_in_tree built_in_antisymmetric s u le ge)

  -- a body has one least solution
  tables_same : (T U : Table) → Least T → Least U → T ≡ U
  tables_same T U h k = lists_same T U (λ n. at_place T U h k n (slice_get T n) (slice_get U n) refl refl)

first_of : {A : Type 0} (xs : List A) → length xs ≡ 1 → (x : A) × (slice_get xs 0 ≡ Some x)
first_of [] e = absurd (omega arith)
first_of (x ∷ xs) e = (x, refl)

module _ (b : Body) (form : IsFirstBody b) (words : AreWords b.positions) where
  chained : (F : Facts) → IsLeast (only (bare_body b)) F 0 (states_of b)
  chained F = chain_least _ b form.regions form.positions F

  returned_same : (F : Facts) (t : HType) → IsJoin built_in_tree (IsReturned (only (bare_body b)) F 0 (states_of b)) t → t ≡ end_of b
  returned_same F t join =
      Le-antisym built_in_tree built_in_antisymmetric t (end_of b)
      (join.least (end_of b) (returned_is_proper b words) (joined _ b form.positions words F).above)
      (end_least b F t join.above)

  one_annotated : (a : Linked) (n : ℕ) → IsAnnotated (suc n) (only b) a → a ≡ annotated_by (only b)
  one_annotated a n w =
      let round = w.after.2 in
      let T = first_of round.tables round.least.count in
      let U = first_of w.tables w.least.count in
      let t = first_of w.facts.returns round.bodies_told in
      let U_is = tables_same b w.facts U.0 (states_of b) (w.least.least 0 U.0 U.1) (chained w.facts) in
      let T_is = tables_same b w.after.0 T.0 (states_of b) (round.least.least 0 T.0 T.1) (chained w.after.0) in
      let join = subst (λ (T : Table). IsJoin built_in_tree (IsReturned (only (bare_body b)) w.after.0 0 T) t.0) T_is (round.returns 0 T.0 t.0 T.1 t.1) in
      let t_is = returned_same w.after.0 t.0 join in
      w.is
      ∙ ap (λ (o : Option Table). only (annotated_body (bare_body b) (slice_get w.facts.returns 0) (or_empty o))) (U.1 ∙ ap Some U_is)
      ∙ ap (λ (o : Option HType). only (annotated_body (bare_body b) o (states_of b))) (t.1 ∙ ap Some t_is)
      ∙ ap (λ (ps : List Position). only (record b { stated = Some (end_of b); positions = ps })) (claims_bare b.positions (states_of b))

pub annotated_is_unique : AnnotatedIsUnique
annotated_is_unique r a form words n w =
    let e = first_is r form in
    subst (λ (r : Linked). a ≡ annotated_by r) (sym e)
    (one_annotated form.body form.first words a n (subst (λ (r : Linked). IsAnnotated (suc n) r a) e w))
