-- The annotated repository runs as the original does, and all its claims are true.
use Rattle.std.proofs.Common.{◌≡◌, ℕ, zero, suc, ◌+◌, refl, sym, ◌∙◌, ap, subst, Bool, true, false, Option, Some, None, List, slice_get, arith}
use Rattle.hack_values.specs.declared.cell.Cell.{Cell}
use Rattle.type_lattice.specs.Classes.{Tree}
use Rattle.type_lattice.specs.Member.{Heap, cell_in}
use Rattle.hhbc_repo.specs.declared.body.Body.{Body}
use Rattle.hhbc_repo.specs.Linked.{Linked}
use Rattle.hhbc_repo.specs.Bodies.{bodies, body_at, tree_of, properties_of}
use Rattle.hhbc_repo.specs.Bodies as parts
use Rattle.hhbc_repo.specs.Bare.{bare}
use Rattle.hhbc_semantics.specs.Setting.{Setting, with_repo, bare_setting}
use Rattle.hhbc_semantics.specs.LocalCodes.{OnlyLocalCodes}
use Rattle.hhbc_semantics.specs.Outcome.{Stuck}
use Rattle.hhbc_semantics.specs.Frames.{World, Frame, Returns}
use Rattle.hhbc_semantics.specs.Machine.{turn}
use Rattle.hhbc_semantics.specs.Steps.{Config, Running, Ended, next, steps_by}
use Rattle.hhbc_semantics.specs.Run.{test, asserts_in, asserts_of, tested, advance, after, start, state_after, result_of}
use Rattle.hhbc_semantics.specs.Truth.{Facts, HoldIn, ReturnsIn, TrueOf, ClaimsHold, IsNeverStuck, IsFaithful, stated_props, stated_returns, each}
use Rattle.hhbc_repo.proofs.Elements.{to_map}
use Rattle.hhbc_semantics.proofs.LocalCodes.{second_form_never_sticks}
use Rattle.hhbc_semantics.proofs.OnlyLocal.{second_is_local}
use Rattle.hhbc_semantics.proofs.Stripped.{bare_again, same_start}
use Rattle.hhbc_semantics.proofs.TestedRuns.{after_steps}
use Rattle.func_analyze.specs.Solution.{Table}
use Rattle.func_analyze.specs.Rounds.{IsFacts, AreLeast}
use Rattle.func_analyze.specs.Annotated.{with_claims, or_empty, annotated}
use Rattle.func_analyze.specs.Laws.{AnnotatedIsFaithful, SecondIsFaithful}
use Rattle.func_analyze.specs.TypeAnalysis.{LiesIn, FramesLieIn}
use Rattle.func_analyze.proofs.AnnotatedBodies.{bodies_are, annotated_at, stated_return, stated_prop, annotated_off}
use Rattle.func_analyze.proofs.ClaimsHold.{claims_at}
use Rattle.func_analyze.proofs.FactsTrue.{tree_same, props_same, plain_true, plain_lie}

module _ (S : Setting) (n : ℕ) (F : Facts) (local : OnlyLocalCodes S.repo) (is : IsFacts (bare S.repo) n F) (Ts : List Table) (l : AreLeast (bare S.repo) F Ts) where
  abbrev told : Linked
  told = annotated (bare S.repo) F Ts

  -- the same natives over it
  abbrev there : Setting
  there = with_repo S told

  off : bare told ≡ bare S.repo
  off = annotated_off (bare S.repo) F Ts ∙ bare_again S.repo

  off_there : bare_setting there ≡ bare_setting S
  off_there = ap (λ r. with_repo S r) off

  same_tree : tree_of told ≡ tree_of (bare S.repo)
  same_tree = sym (tree_same told) ∙ ap tree_of off

  same_begin : (entry : List ℕ) (args : List Cell) → start there entry args ≡ start S entry args
  same_begin entry args = same_start there entry args ∙ ap (λ x. start x entry args) off_there ∙ sym (same_start S entry args)

  same_plain : (c : Config) (m : ℕ) → after there false c m ≡ after S false c m
  same_plain c m = after_steps there c m ∙ ap (λ x. steps_by (λ f w. turn x f w) x.repo c m) off_there ∙ sym (after_steps S c m)

  -- the assertions of a frame that lies in its state hold
  hold_in : (f : Frame) (heap : Heap) → LiesIn (bare S.repo) Ts f heap → (o : Option Body) → body_at told f.body ≡ o
      → test (tree_of (bare S.repo)) heap f (asserts_in o f.position) ≡ Some true
  hold_in f heap lies None at = refl
  hold_in f heap lies (Some x) at =
      let w = annotated_at 0 (bodies (bare S.repo)) F.returns Ts f.body x (subst (λ bs. slice_get bs f.body ≡ Some x) (bodies_are (bare S.repo) F Ts) at) in
      let z : 0 + f.body ≡ f.body = omega arith in
      let table : or_empty (slice_get Ts (0 + f.body)) ≡ lies.table = ap (λ m. or_empty (slice_get Ts m)) z ∙ ap or_empty lies.at in
      let positions : x.positions ≡ with_claims w.0.positions lies.table = ap (λ (b : Body). b.positions) w.2 ∙ ap (λ T. with_claims w.0.positions T) table in
      ap (λ ps. test (tree_of (bare S.repo)) heap f (parts.asserts_of (slice_get ps f.position))) positions
      ∙ claims_at (tree_of (bare S.repo)) heap f w.0.positions lies.table f.position lies.state lies.reached lies.lies

  tests_hold : (f : Frame) (fs : List Frame) (w : World) → FramesLieIn (bare S.repo) Ts (Running f fs w)
      → test (tree_of told) w.heap f (asserts_of told f) ≡ Some true
  tests_hold f fs w h =
      ap (λ (tree : Tree). test tree w.heap f (asserts_of told f)) same_tree ∙ hold_in f w.heap h.0 (body_at told f.body) refl

  test_goes : (c : Config) → FramesLieIn (bare S.repo) Ts c → advance there true c ≡ advance there false c
  test_goes (Running f fs w) h = ap (λ o. tested o f w (next (bare_setting there) (Running f fs w))) (tests_hold f fs w h)
  test_goes (Ended o w) h = refl

  lie : (entry : List ℕ) (args : List Cell) (m : ℕ) → FramesLieIn (bare S.repo) Ts (after there false (start S entry args) m)
  lie entry args m = subst (λ c. FramesLieIn (bare S.repo) Ts c) (sym (same_plain (start S entry args) m)) (plain_lie S n F local is Ts l entry args m)

  same_tested : (entry : List ℕ) (args : List Cell) (m : ℕ) → after there true (start S entry args) m ≡ after there false (start S entry args) m
  same_tested entry args zero = refl
  same_tested entry args (suc m) =
      ap (λ c. advance there true c) (same_tested entry args m) ∙ test_goes (after there false (start S entry args) m) (lie entry args m)

  -- each run of the annotated repository goes through the states of the original
  same_state : (entry : List ℕ) (args : List Cell) (asserted : Bool) (m : ℕ) → state_after there entry args asserted m ≡ state_after S entry args false m
  same_state entry args true m =
      ap (λ c. after there true c m) (same_begin entry args) ∙ same_tested entry args m ∙ same_plain (start S entry args) m
  same_state entry args false m = ap (λ c. after there false c m) (same_begin entry args) ∙ same_plain (start S entry args) m

  same_props : (c : ℕ) → properties_of told c ≡ properties_of S.repo c
  same_props c = sym (props_same told c) ∙ ap (λ x. properties_of x c) off ∙ props_same S.repo c

  tree_told : tree_of told ≡ tree_of S.repo
  tree_told = same_tree ∙ tree_same S.repo

  held_told : (heap : Heap) → HoldIn S.repo (each F.props) heap → HoldIn told (stated_props told) heap
  held_told heap h k o e i c at q named t stated =
      subst (λ (tree : Tree). cell_in tree heap c t ≡ true) (sym tree_told)
      (h k o e i c at q (subst (λ qs. slice_get qs i ≡ Some q) (same_props o.class) named) t
      (to_map (λ t. Some t) F.props q t (stated_prop (bare S.repo) F Ts q t stated)))

  returns_told : (f : Frame) (w : World) → ReturnsIn S (each F.returns) f w → ReturnsIn there (stated_returns told) f w
  returns_told f w h c v goes t stated =
      subst (λ (tree : Tree). cell_in tree v.heap c t ≡ true) (sym tree_told)
      (h c v (subst (λ x. turn x f w ≡ Returns c v) off_there goes) t
      (to_map (λ t. Some t) F.returns f.body t (stated_return (bare S.repo) F Ts f.body t stated)))

  claims_told : (c : Config) → FramesLieIn (bare S.repo) Ts c → TrueOf S F c → ClaimsHold there c
  claims_told (Running f fs w) h k = (tests_hold f fs w h, held_told w.heap k.0, returns_told f w k.1)
  claims_told (Ended o w) h k = held_told w.heap k

  faithful : IsNeverStuck S → IsFaithful S told
  faithful never = record {
    runs = λ entry args m legal. ap (λ (c : Config). result_of c) (same_state entry args true m);
    claims = λ entry args asserted m legal.
        subst (λ c. ClaimsHold there c) (sym (same_state entry args asserted m))
        (claims_told (state_after S entry args false m) (plain_lie S n F local is Ts l entry args m) (plain_true S n F local is entry args m));
    never = (
      never,
      λ entry args m asserted why legal e.
          never entry args m false why legal (subst (λ (c : Config). (result_of c).outcome ≡ Stuck why) (same_state entry args asserted m) e),
    );
  }

pub annotated_is_faithful : AnnotatedIsFaithful
annotated_is_faithful S a n local w never =
    subst (λ a. IsFaithful S a) (sym w.is) (faithful S n w.facts local w.after w.tables w.least never)

pub second_is_faithful : SecondIsFaithful
second_is_faithful S a form types n w =
    annotated_is_faithful S a (suc n) (second_is_local S.repo form) w (second_form_never_sticks S form types)
