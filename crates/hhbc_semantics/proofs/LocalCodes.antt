-- No run of a repository whose codes are those of constants and locals is stuck.
use Rattle.std.proofs.Common.{◌≡◌, ◌≢◌, ◌⊎◌, inl, inr, ℕ, zero, suc, ◌-◌, ◌<◌, ◌≤◌, refl, sym, ◌∙◌, ap, subst, Bool, true, false, nat_le, Option, Some, None, List, [], ◌∷◌, map, replicate, slice_get, length, arith, length-append, leb-true}
use Rattle.std.proofs.lemmas.Bool.{and_parts}
use Rattle.std.proofs.lemmas.List.{length-map, length-replicate}
use Rattle.hack_values.specs.declared.cell.Cell.{Cell}
use Rattle.hack_values.specs.declared.cell.Slot.{Slot}
use Rattle.hack_values.specs.declared.cell.Slot.TheVariants as slots
use Rattle.type_lattice.specs.declared.types.HType.{HType}
use Rattle.type_lattice.specs.Classes.{Tree}
use Rattle.type_lattice.specs.Member.{Heap, is_member}
use Rattle.hhbc_repo.specs.declared.code.Code.{Code}
use Rattle.hhbc_repo.specs.declared.body.Body.{Body}
use Rattle.hhbc_repo.specs.declared.body.Assert.{Assert}
use Rattle.hhbc_repo.specs.declared.body.Assert.TheVariants as asserts
use Rattle.hhbc_repo.specs.declared.body.Position.{Position}
use Rattle.hhbc_repo.specs.Bodies.{body_at, code_of, code_at, asserts_at, tree_of}
use Rattle.hhbc_repo.specs.Bodies.{asserts_of as asserts_in_position}
use Rattle.hhbc_repo.specs.Bare.{bare, bare_position}
use Rattle.hhbc_ops.specs.declared.words.Flavour.{Flavour}
use Rattle.hhbc_repo.specs.Codes.{pops, slots_read, iter_use}
use Rattle.hhbc_semantics.specs.Setting.{Setting, bare_setting}
use Rattle.hhbc_semantics.specs.Form.{FitsCode, FitAsserts, IsSecondBody}
use Rattle.hhbc_semantics.specs.Frames.{World, Frame}
use Rattle.hhbc_semantics.specs.Machine.{turn}
use Rattle.hhbc_semantics.specs.Outcome.{Outcome, Why, Underflow, Stuck, AssertFalse}
use Rattle.hhbc_semantics.specs.Steps.{Config, Running, Ended, place_of, steps_by}
use Rattle.hhbc_semantics.specs.Run.{slot_in, and_then, test, asserts_in, asserts_of, after, entered, start, result_of}
use Rattle.hhbc_repo.specs.Shapes.{Shape, AllPass, given, agree, reaches, pops_of, slots_read_of, iter_use_of, all_within, all_cells, iter_checks, Types}
use Rattle.hhbc_semantics.specs.Soundness.{Sound}
use Rattle.hhbc_semantics.specs.Soundness as soundness
use Rattle.hhbc_semantics.specs.Truth.{FirstFormNeverSticks, SecondFormNeverSticks}
use Rattle.hhbc_semantics.specs.Tested.{IsStopped}
use Rattle.hhbc_semantics.specs.ShapeAnalysis.{AreOfFlavours, AreLive, IsOfShape, HasSlots, entry_shape, by_shapes, AssertsWithin, HasLocalCodes, LocalCodesNeverStick}
use Rattle.hhbc_repo.proofs.Elements.{slice_inside}
use Rattle.hhbc_semantics.proofs.Walking.{there, code_is, claimed_at, first_is_second}
use Rattle.hhbc_semantics.proofs.FirstForm.{only, second_is}
use Rattle.hhbc_semantics.proofs.ShapeTables.{Passes, passes, passes_bare, body_bare, code_of_bare, given_bare}
use Rattle.hhbc_semantics.proofs.ShapeLaws.{Keeps, shape_laws, tables, Stands, stands, shapes_solve}
use Rattle.hhbc_semantics.proofs.StaysTrue.{rounds_stay_true}
use Rattle.hhbc_semantics.proofs.Starting.{starts}
use Rattle.hhbc_semantics.proofs.Stripped.{same_start}
use Rattle.hhbc_semantics.proofs.TestedRuns.{tests_only_stop, after_steps}

pub some_position : (ps : List Position) → ps ≢ [] → 0 < length ps
some_position [] h = absurd (h refl)
some_position (p ∷ ps) h = omega arith

pub same_depth : (ss : List Slot) (fs : List Flavour) → AreOfFlavours ss fs → length ss ≡ length fs
same_depth [] [] h = refl
same_depth [] (x ∷ fs) h = absurd h
same_depth (s ∷ ss) [] h = absurd h
same_depth (s ∷ ss) (x ∷ fs) h = ap suc (same_depth ss fs h.1)

none_live : (n : ℕ) → AreLive (replicate n None) (replicate n false)
none_live zero = tt
none_live (suc n) = none_live n

pub entered_locals : (n : ℕ) (b : Body) (args : List Cell) → b.params ≤ length b.locals → length args ≡ b.params → length (entered n b args).locals ≡ length b.locals
entered_locals n b args l e =
    let a = length-append (map (λ (c : Cell). slots.Cell c) args) (replicate (length b.locals - b.params) slots.Uninit) in
    let m = length-map args (λ (c : Cell). slots.Cell c) in
    let k = length-replicate (length b.locals - b.params) slots.Uninit in
    omega (arith, a, m, k, l, e)

one_found : (tree : Tree) (heap : Heap) (o : Option Slot) (s : Slot) (t : HType) (more : Option Bool) → o ≡ Some s
    → (more ≡ None → ⊥) → and_then (slot_in tree heap o t) more ≡ None → ⊥
one_found tree heap o s t more e rest none =
    by_member (is_member tree heap s t) (subst (λ o. and_then (slot_in tree heap o t) more ≡ None) e none)
  where
    by_member : (b : Bool) → and_then (Some b) more ≡ None → ⊥
    by_member true e = rest e
    by_member false e = cc

-- assertions within the locals and the stack of a frame find their slots
pub all_found : (tree : Tree) (heap : Heap) (f : Frame) (count : ℕ) (xs : List Assert) → length f.locals ≡ count → AssertsWithin count xs
    → reaches xs (length f.stack) ≡ true → test tree heap f xs ≡ None → ⊥
all_found tree heap f count [] e within r none = cc
all_found tree heap f count (asserts.Local l t ∷ more) e within r none =
    let s = slice_inside f.locals l (omega (arith, e, within.0)) in
    one_found tree heap (slice_get f.locals l) s.0 t (test tree heap f more) s.1
    (all_found tree heap f count more e within.1 (and_parts _ _ r).1) none
all_found tree heap f count (asserts.Stack i t ∷ more) e within r none =
    let k = and_parts (nat_le (suc i) (length f.stack)) _ r in
    let m : suc i ≤ length f.stack = leb-true _ _ k.0 in
    let s = slice_inside f.stack i (omega (arith, m)) in
    one_found tree heap (slice_get f.stack i) s.0 t (test tree heap f more) s.1 (all_found tree heap f count more e within k.1) none

module _ (S : Setting) (codes : HasLocalCodes S.repo) (types : Types S.repo) where
  keeps : Keeps (bare S.repo)
  keeps = record {
    codes = λ n b is p c at.
        let x = body_bare S.repo n b is in
        subst (λ (b : Body). FitsCode (length b.locals) c) x.2
        (codes.codes n x.0 x.1 p c (code_of_bare x.0 p c (subst (λ b. code_at b p ≡ Some c) (sym x.2) at)));
    starts = λ n b is.
        let x = body_bare S.repo n b is in
        subst (λ (b : Body). 0 < length b.positions) x.2
        (subst (λ m. 0 < m) (sym (length-map x.0.positions bare_position)) (some_position x.0.positions (types.has_positions n x.0 x.1)));
    passes = λ n b is p l.
        let x = body_bare S.repo n b is in
        let k = subst (λ m. p < m) (length-map x.0.positions bare_position) (subst (λ (b : Body). p < length b.positions) (sym x.2) l) in
        subst (λ b. Passes b p) x.2 (passes_bare x.0 p (passes x.0 p (types.passes n x.0 x.1 p k)));
  }

  enters : (n : ℕ) (b : Body) (args : List Cell) → body_at (bare S.repo) n ≡ Some b → length args ≡ b.params
      → IsOfShape (bare S.repo) (entered n b args) (entry_shape (body_at (bare S.repo) n))
  enters n b args is e =
      let x = body_bare S.repo n b is in
      subst (λ o. IsOfShape (bare S.repo) (entered n b args) (entry_shape o)) (sym is) (record {
        locals = λ c k.
            let same : b ≡ c = let j = sym is ∙ k in cc in
            subst (λ (c : Body). length (entered n b args).locals ≡ length c.locals) same
            (entered_locals n b args (subst (λ (b : Body). b.params ≤ length b.locals) x.2 (codes.params n x.0 x.1)) e);
        stack = tt;
        iters = none_live b.iters;
      })

  sound : (entry : List ℕ) (args : List Cell) (m : ℕ)
      → Sound (bare S.repo) (by_shapes (bare_setting S)) (tables (bare_setting S) keeps) (tt {0}) (after S false (start S entry args) m)
  sound entry args m =
      subst (λ c. Sound (bare S.repo) (by_shapes (bare_setting S)) (tables (bare_setting S) keeps) (tt {0}) c) (sym (after_steps S (start S entry args) m))
      (subst (λ c. Sound (bare S.repo) (by_shapes (bare_setting S)) (tables (bare_setting S) keeps) (tt {0}) (steps_by (λ f w. turn (bare_setting S) f w) (bare S.repo) c m)) (sym (same_start S entry args))
      ((rounds_stay_true by_shapes (bare_setting S) (shape_laws (bare_setting S) keeps) (tt {0}) everything (start (bare_setting S) entry args)
      (starts (bare_setting S) (by_shapes (bare_setting S)) (λ G b. tt) enters entry args) 0 (tt {0}) refl).1 (tables (bare_setting S) keeps) (tt {0}) (shapes_solve (bare_setting S) keeps) m))
    where
      everything : (c : Config) → soundness.TrueOf (bare S.repo) (by_shapes (bare_setting S)) (tt {0}) c
      everything (Running f fs w) = (tt, λ c v is. tt)
      everything (Ended o w) = tt

  -- the shape of a position has the slots that its code takes
  has_slots : (n p : ℕ) (s : Shape) → Stands (bare_setting S) keeps n p s → HasSlots (bare S.repo) n p s
  has_slots n p s here =
      let q = there here.body.positions p here.inside in
      let at = code_is here.body p q.0 q.1 in
      let pass = keeps.passes n here.body here.at p here.inside in
      record {
        body = here.body;
        at = here.at;
        code = q.0.code;
        there = at;
        enough =
            subst (λ (s : Shape). nat_le (length (pops q.0.code)) (length s.stack) ≡ true) (sym here.given)
            (subst (λ o. nat_le (length (pops_of o)) (length (given here.body p).stack) ≡ true) at pass.enough);
        agrees =
            subst (λ (s : Shape). agree (pops q.0.code) s.stack ≡ true) (sym here.given)
            (subst (λ o. agree (pops_of o) (given here.body p).stack ≡ true) at pass.agrees);
        places =
            subst (λ (s : Shape). all_within (slots_read q.0.code) (length s.stack) ≡ true) (sym here.given)
            (subst (λ o. all_within (slots_read_of o) (length (given here.body p).stack) ≡ true) at pass.places);
        are_cells =
            subst (λ (s : Shape). all_cells (slots_read q.0.code) s.stack ≡ true) (sym here.given)
            (subst (λ o. all_cells (slots_read_of o) (given here.body p).stack ≡ true) at pass.are_cells);
        iters =
            subst (λ (s : Shape). AllPass (iter_checks (iter_use q.0.code) s.live)) (sym here.given)
            (subst (λ o. AllPass (iter_checks (iter_use_of o) (given here.body p).live)) at pass.iters);
      }

  ended_well : (c : Config) (o : Outcome) (w : World) (why : Why) → Sound (bare S.repo) (by_shapes (bare_setting S)) (tables (bare_setting S) keeps) (tt {0}) c
      → c ≡ Ended o w → o ≡ Stuck why → ⊥
  ended_well c o w why h e is =
      let stuck = (subst (λ c. Sound (bare S.repo) (by_shapes (bare_setting S)) (tables (bare_setting S) keeps) (tt {0}) c) e h).1 why is in
      stuck.4 (has_slots stuck.0 stuck.1 stuck.2 (stands (bare_setting S) keeps stuck.0 stuck.1 stuck.2 stuck.3))

  -- the assertions of a position find their slots
  tests_found : (c : Config) (f : Frame) (fs : List Frame) (w : World) → Sound (bare S.repo) (by_shapes (bare_setting S)) (tables (bare_setting S) keeps) (tt {0}) c
      → c ≡ Running f fs w → test (tree_of S.repo) w.heap f (asserts_of S.repo f) ≡ None → ⊥
  tests_found c f fs w h e none =
      let lies = (subst (λ c. Sound (bare S.repo) (by_shapes (bare_setting S)) (tables (bare_setting S) keeps) (tt {0}) c) e h).1 in
      let here = stands (bare_setting S) keeps f.body f.position lies.0 lies.1 in
      let x = body_bare S.repo f.body here.body here.at in
      let l = subst (λ m. f.position < m) (length-map x.0.positions bare_position) (subst (λ (b : Body). f.position < length b.positions) (sym x.2) here.inside) in
      let shape : lies.0 ≡ given x.0 f.position = here.given ∙ ap (λ b. given b f.position) (sym x.2) ∙ given_bare x.0 f.position in
      let depth = same_depth f.stack lies.0.stack lies.2.stack in
      let locals : length f.locals ≡ length x.0.locals =
      lies.2.locals here.body here.at ∙ ap (λ (b : Body). length b.locals) (sym x.2) in
      all_found (tree_of S.repo) w.heap f (length x.0.locals) (asserts_at x.0 f.position) locals (codes.claims f.body x.0 x.1 f.position)
      (subst (λ m. reaches (asserts_at x.0 f.position) m ≡ true) (sym (depth ∙ ap (λ (s : Shape). length s.stack) shape))
      (passes x.0 f.position (types.passes f.body x.0 x.1 f.position l)).reach)
      (subst (λ o. test (tree_of S.repo) w.heap f (asserts_in o f.position) ≡ None) x.1 none)

  plain_result : (c : Config) (why : Why) → Sound (bare S.repo) (by_shapes (bare_setting S)) (tables (bare_setting S) keeps) (tt {0}) c → (result_of c).outcome ≡ Stuck why → ⊥
  plain_result (Running f fs w) why h e = cc
  plain_result (Ended o w) why h e = ended_well (Ended o w) o w why h refl e

  stopped_result : (start : Config) (n : ℕ) (c : Config) (why : Why)
      → ((m : ℕ) → Sound (bare S.repo) (by_shapes (bare_setting S)) (tables (bare_setting S) keeps) (tt {0}) (after S false start m))
      → (c ≡ after S false start n) ⊎ IsStopped S start n c → (result_of c).outcome ≡ Stuck why → ⊥
  stopped_result start n c why h (inl e) is = plain_result (after S false start n) why (h n) (subst (λ c. (result_of c).outcome ≡ Stuck why) e is)
  stopped_result start n c why h (inr s) is =
      by_stop s.stops (subst (λ c. (result_of c).outcome ≡ Stuck why) s.is is)
    where
      by_stop : (s.outcome ≡ AssertFalse (place_of s.frame)) ⊎ ((s.outcome ≡ Stuck Underflow) × (test (tree_of S.repo) s.world.heap s.frame (asserts_of S.repo s.frame) ≡ None))
          → s.outcome ≡ Stuck why → ⊥
      by_stop (inl e) is = cc
      by_stop (inr e) is = tests_found (after S false start s.turns) s.frame s.below s.world (h s.turns) s.at e.1

pub local_codes_never_stick : LocalCodesNeverStick
local_codes_never_stick S codes types entry args n true why legal is =
    stopped_result S codes types (start S entry args) n (after S true (start S entry args) n) why (sound S codes types entry args)
    (tests_only_stop S (start S entry args) n) is
local_codes_never_stick S codes types entry args n false why legal is =
    plain_result S codes types (after S false (start S entry args) n) why (sound S codes types entry args n) is

-- the forms that are read have such codes
claims_within : (count : ℕ) (xs : List Assert) → FitAsserts count xs → AssertsWithin count xs
claims_within count [] h = tt
claims_within count (asserts.Local l t ∷ more) h = (h.0.0, claims_within count more h.1)
claims_within count (asserts.Stack i t ∷ more) h = claims_within count more h.1

module _ (b : Body) (form : IsSecondBody b) where
  only_is : (n : ℕ) (c : Body) → body_at (only b) n ≡ Some c → b ≡ c
  only_is zero c e = cc
  only_is (suc n) c e = absurd (cc)

  code_fits : (p : ℕ) (c : Code) (o : Option Position) → slice_get b.positions p ≡ o → code_of o ≡ Some c → FitsCode (length b.locals) c
  code_fits p c None at e = absurd (cc)
  code_fits p c (Some q) at e =
      let k : q.code ≡ c = cc in
      subst (λ c. FitsCode (length b.locals) c) k (claimed_at (length b.locals) b.positions p q form.positions at).fits

  claims_fit : (p : ℕ) (o : Option Position) → slice_get b.positions p ≡ o → AssertsWithin (length b.locals) (asserts_in_position o)
  claims_fit p None at = tt
  claims_fit p (Some q) at = claims_within (length b.locals) q.asserts (claimed_at (length b.locals) b.positions p q form.positions at).claims

  second_codes : HasLocalCodes (only b)
  second_codes = record {
    params = λ n c is. subst (λ (c : Body). c.params ≤ length c.locals) (only_is n c is) (let e = form.params in omega arith);
    codes = λ n c is p x at. subst (λ (c : Body). FitsCode (length c.locals) x) (only_is n c is)
        (code_fits p x (slice_get b.positions p) refl (subst (λ c. code_at c p ≡ Some x) (sym (only_is n c is)) at));
    claims = λ n c is p. subst (λ (c : Body). AssertsWithin (length c.locals) (asserts_at c p)) (only_is n c is) (claims_fit p (slice_get b.positions p) refl);
  }

pub second_form_never_sticks : SecondFormNeverSticks
second_form_never_sticks S form types =
    local_codes_never_stick S (subst (λ r. HasLocalCodes r) (sym (second_is S.repo form)) (second_codes form.body form.second)) types

pub first_form_never_sticks : FirstFormNeverSticks
first_form_never_sticks S form types = second_form_never_sticks S (first_is_second S.repo form) types
