-- No run of a repository that has its operands and keeps to its shapes is stuck, and its frames keep their shapes.
use Rattle.std.proofs.Common.{◌≡◌, ◌⊎◌, inl, inr, ℕ, ◌<◌, ◌≤◌, refl, sym, ◌∙◌, ap, subst, true, false, Option, Some, None, List, [], ◌∷◌, length, ltb-true}
use Rattle.std.specs.List.{list_all}
use Rattle.std.proofs.lemmas.Bool.{and_parts}
use Rattle.std.proofs.lemmas.List.{length-map, length-replicate}
use Rattle.type_lattice.specs.InRange.{is_proper}
use Rattle.hack_values.specs.declared.cell.Cell.{Cell}
use Rattle.hhbc_repo.specs.declared.code.Code.{Code}
use Rattle.hhbc_repo.specs.declared.body.Body.{Body}
use Rattle.hhbc_repo.specs.declared.body.Assert.{Assert}
use Rattle.hhbc_repo.specs.declared.body.Assert.TheVariants as asserts
use Rattle.hhbc_repo.specs.Bodies.{body_at, code_at, asserts_at, tree_of, class_names}
use Rattle.hhbc_repo.specs.Bare.{bare_body, bare_position}
use Rattle.hhbc_repo.specs.LookUps.{method_of}
use Rattle.hhbc_repo.specs.Shapes.{Shape, given, reaches, Types}
use Rattle.hhbc_repo.specs.Within.{Bounds, bounds_of, code_within, local_within, assert_within}
use Rattle.hhbc_semantics.specs.Setting.{Setting, bare_setting}
use Rattle.hhbc_semantics.specs.Frames.{World, Frame}
use Rattle.hhbc_semantics.specs.Entering.{entered}
use Rattle.hhbc_semantics.specs.CallTurns.{numbered, body_of_method, method_in}
use Rattle.hhbc_semantics.specs.Machine.{turn}
use Rattle.hhbc_semantics.specs.Outcome.{Outcome, Why, Underflow, Stuck, AssertFalse}
use Rattle.hhbc_semantics.specs.Steps.{Config, Running, Ended, place_of, steps_by}
use Rattle.hhbc_semantics.specs.Run.{test, asserts_in, asserts_of, after, start, result_of}
use Rattle.hhbc_semantics.specs.Soundness.{Sound, TrueOf, Waiting}
use Rattle.hhbc_semantics.specs.Tested.{IsStopped}
use Rattle.hhbc_semantics.specs.ShapeAnalysis.{entry_shape, AssertsWithin}
use Rattle.hhbc_semantics.specs.Accepted.{HasOperands}
use Rattle.hhbc_semantics.specs.GivenShapes.{HasGiven, by_given, NeverSticks, AllGiven, FramesAreGiven, FramesKeepShapes}
use Rattle.hhbc_semantics.proofs.LocalCodes.{some_position, same_depth, all_found, entered_locals}
use Rattle.hhbc_semantics.proofs.ShapeTables.{Passes, passes, passes_bare, body_bare, code_of_bare, given_bare}
use Rattle.hhbc_semantics.proofs.ShapeCalls.{IsKnown}
use Rattle.hhbc_semantics.proofs.ShapeCodes.{FindsKnown}
use Rattle.hhbc_semantics.proofs.ShapeTurns.{code_keeps_shape}
use Rattle.hhbc_semantics.proofs.GivenLaws.{Keeps, none_live, given_laws, tables, given_solve}
use Rattle.hhbc_semantics.proofs.StaysTrue.{rounds_stay_true}
use Rattle.hhbc_semantics.proofs.Starting.{starts, function_at}
use Rattle.hhbc_semantics.proofs.Stripped.{same_start}
use Rattle.hhbc_semantics.proofs.TestedRuns.{tests_only_stop, after_steps}

-- assertions within the bounds of a body speak of its locals
asserts_bound : (b : Bounds) (xs : List Assert) → list_all (assert_within b) xs ≡ true → AssertsWithin b.locals xs
asserts_bound b [] h = tt
asserts_bound b (asserts.Local l t ∷ more) h =
    let x = and_parts (assert_within b (asserts.Local l t)) (list_all (assert_within b) more) h in
    (ltb-true _ _ (and_parts (local_within b l) (is_proper b.classes t) x.0).0, asserts_bound b more x.1)
asserts_bound b (asserts.Stack n t ∷ more) h =
    asserts_bound b more (and_parts (assert_within b (asserts.Stack n t)) (list_all (assert_within b) more) h).1

module _ (S : Setting) (has : HasOperands S.repo) (types : Types S.repo) where
  abbrev B : Setting
  B = bare_setting S

  abbrev classes : ℕ
  classes = length (class_names S.repo)

  params : (n : ℕ) (b : Body) → body_at B.repo n ≡ Some b → b.params ≤ length b.locals
  params n b is =
      let x = body_bare S.repo n b is in
      subst (λ (b : Body). b.params ≤ length b.locals) x.2 (has.params n x.0 x.1)

  numbered_known : (n : ℕ) (o : Option Body) (m : ℕ) (b : Body) → body_at B.repo n ≡ o → numbered n o ≡ Some (m, b) → IsKnown B.repo m b
  numbered_known n None m b at e = absurd (cc)
  numbered_known n (Some x) m b at e =
      let same : (n, x) ≡ (m, b) = cc in
      let is : body_at B.repo m ≡ Some b =
      subst (λ k. body_at B.repo k ≡ Some b) (ap (λ (e : ℕ × Body). e.0) same) (at ∙ ap (λ (e : ℕ × Body). Some e.1) same) in
      record { at = is; params = params m b is }

  method_known : (o : Option ℕ) (m : ℕ) (b : Body) → body_of_method B.repo o ≡ Some (m, b) → IsKnown B.repo m b
  method_known None m b e = absurd (cc)
  method_known (Some n) m b e = numbered_known n (body_at B.repo n) m b refl e

  found_known : (o : Option ℕ) (name : List ℕ) (m : ℕ) (b : Body) → method_in B.repo o name ≡ Some (m, b) → IsKnown B.repo m b
  found_known None name m b e = absurd (cc)
  found_known (Some c) name m b e = method_known (method_of B.repo c name) m b e

  known : FindsKnown B
  known = record {
    functions = λ name n b e. let is = function_at B.repo name (n, b) e in record { at = is; params = params n b is };
    methods = found_known;
  }

  within_bare : (x : Body) (c : Code) → code_within (bounds_of classes x) c ≡ true → code_within (bounds_of classes (bare_body x)) c ≡ true
  within_bare x c e =
      subst (λ n. code_within (record { locals = length x.locals; iters = x.iters; positions = n; classes = classes }) c ≡ true)
      (sym (length-map x.positions bare_position)) e

  keeps : Keeps B classes
  keeps = record {
    codes = λ n b is p c at.
        let x = body_bare S.repo n b is in
        subst (λ b. code_within (bounds_of classes b) c ≡ true) x.2
        (within_bare x.0 c (has.codes n x.0 x.1 p c (code_of_bare x.0 p c (subst (λ b. code_at b p ≡ Some c) (sym x.2) at))));
    shapes = code_keeps_shape B known classes;
    starts = λ n b is.
        let x = body_bare S.repo n b is in
        subst (λ (b : Body). 0 < length b.positions) x.2
        (subst (λ m. 0 < m) (sym (length-map x.0.positions bare_position)) (some_position x.0.positions (types.has_positions n x.0 x.1)));
    passes = λ n b is p l.
        let x = body_bare S.repo n b is in
        let k = subst (λ m. p < m) (length-map x.0.positions bare_position) (subst (λ (b : Body). p < length b.positions) (sym x.2) l) in
        subst (λ b. Passes b p) x.2 (passes_bare x.0 p (passes x.0 p (types.passes n x.0 x.1 p k)));
  }

  enters : (n : ℕ) (b : Body) (args : List Cell) → body_at B.repo n ≡ Some b → length args ≡ b.params
      → HasGiven B.repo (entered n b args) (entry_shape (body_at B.repo n))
  enters n b args is e =
      subst (λ o. HasGiven B.repo (entered n b args) (entry_shape o)) (sym is) (record {
        shape = record {
          locals = λ c k.
              let same : b ≡ c = let j = sym is ∙ k in cc in
              subst (λ (c : Body). length (entered n b args).locals ≡ length c.locals) same (entered_locals n b args (params n b is) e);
          stack = tt;
          iters = none_live b.iters;
        };
        iters = λ c k.
            let same : b ≡ c = let j = sym is ∙ k in cc in
            length-replicate b.iters None ∙ ap (λ (b : Body). b.iters) same;
        given = record { body = b; at = is; inside = keeps.starts n b is; given = refl };
      })

  abbrev SoundHere : Config → Type 0
  SoundHere c = Sound B.repo (by_given B) (tables B classes keeps) (tt {0}) c

  sound : (entry : List ℕ) (args : List Cell) (m : ℕ) → SoundHere (after S false (start S entry args) m)
  sound entry args m =
      subst (λ c. SoundHere c) (sym (after_steps S (start S entry args) m))
      (subst (λ c. SoundHere (steps_by (λ f w. turn B f w) B.repo c m)) (sym (same_start S entry args))
      ((rounds_stay_true by_given B (given_laws B classes keeps) (tt {0}) everything (start B entry args)
      (starts B (by_given B) (λ G b. tt) enters entry args) 0 (tt {0}) refl).1 (tables B classes keeps) (tt {0}) (given_solve B classes keeps) m))
    where
      everything : (c : Config) → TrueOf B.repo (by_given B) (tt {0}) c
      everything (Running f fs w) = (tt, λ c v is. tt)
      everything (Ended o w) = tt

  ended_well : (c : Config) (o : Outcome) (w : World) (why : Why) → SoundHere c → c ≡ Ended o w → o ≡ Stuck why → ⊥
  ended_well c o w why h e is = ((subst (λ c. SoundHere c) e h).1 why is).4

  -- the assertions of a position find their slots
  tests_found : (c : Config) (f : Frame) (fs : List Frame) (w : World) → SoundHere c → c ≡ Running f fs w
      → test (tree_of S.repo) w.heap f (asserts_of S.repo f) ≡ None → ⊥
  tests_found c f fs w h e none =
      let lies = (subst (λ c. SoundHere c) e h).1 in
      let here = lies.2.given in
      let x = body_bare S.repo f.body here.body here.at in
      let l = subst (λ m. f.position < m) (length-map x.0.positions bare_position) (subst (λ (b : Body). f.position < length b.positions) (sym x.2) here.inside) in
      let shape : lies.0 ≡ given x.0 f.position = here.given ∙ ap (λ b. given b f.position) (sym x.2) ∙ given_bare x.0 f.position in
      let depth = same_depth f.stack lies.0.stack lies.2.shape.stack in
      let locals : length f.locals ≡ length x.0.locals =
      lies.2.shape.locals here.body here.at ∙ ap (λ (b : Body). length b.locals) (sym x.2) in
      all_found (tree_of S.repo) w.heap f (length x.0.locals) (asserts_at x.0 f.position) locals
      (asserts_bound (bounds_of classes x.0) (asserts_at x.0 f.position) (has.claims f.body x.0 x.1 f.position))
      (subst (λ m. reaches (asserts_at x.0 f.position) m ≡ true) (sym (depth ∙ ap (λ (s : Shape). length s.stack) shape))
      (passes x.0 f.position (types.passes f.body x.0 x.1 f.position l)).reach)
      (subst (λ o. test (tree_of S.repo) w.heap f (asserts_in o f.position) ≡ None) x.1 none)

  plain_result : (c : Config) (why : Why) → SoundHere c → (result_of c).outcome ≡ Stuck why → ⊥
  plain_result (Running f fs w) why h e = cc
  plain_result (Ended o w) why h e = ended_well (Ended o w) o w why h refl e

  stopped_result : (start : Config) (n : ℕ) (c : Config) (why : Why) → ((m : ℕ) → SoundHere (after S false start m))
      → (c ≡ after S false start n) ⊎ IsStopped S start n c → (result_of c).outcome ≡ Stuck why → ⊥
  stopped_result start n c why h (inl e) is = plain_result (after S false start n) why (h n) (subst (λ c. (result_of c).outcome ≡ Stuck why) e is)
  stopped_result start n c why h (inr s) is = by_stop s.stops (subst (λ c. (result_of c).outcome ≡ Stuck why) s.is is)
    where
      by_stop : (s.outcome ≡ AssertFalse (place_of s.frame)) ⊎ ((s.outcome ≡ Stuck Underflow) × (test (tree_of S.repo) s.world.heap s.frame (asserts_of S.repo s.frame) ≡ None))
          → s.outcome ≡ Stuck why → ⊥
      by_stop (inl e) is = cc
      by_stop (inr e) is = tests_found (after S false start s.turns) s.frame s.below s.world (h s.turns) s.at e.1

  waiting_given : (n : ℕ) (fs : List Frame) (w : World) → Waiting B.repo (by_given B) (tables B classes keeps) n fs w → AllGiven B.repo fs
  waiting_given n [] w h = tt
  waiting_given n (f ∷ fs) w h = ((h.1.0, h.1.2), waiting_given f.body fs w h.2)

  frames_given : (c : Config) → SoundHere c → FramesAreGiven B.repo c
  frames_given (Running f fs w) h = ((h.1.0, h.1.2), waiting_given f.body fs w h.2)
  frames_given (Ended o w) h = tt

  stopped_given : (start : Config) (n : ℕ) (c : Config) → ((m : ℕ) → SoundHere (after S false start m))
      → (c ≡ after S false start n) ⊎ IsStopped S start n c → FramesAreGiven B.repo c
  stopped_given start n c h (inl e) = subst (λ c. FramesAreGiven B.repo c) (sym e) (frames_given (after S false start n) (h n))
  stopped_given start n c h (inr s) = subst (λ c. FramesAreGiven B.repo c) (sym s.is) tt

pub never_sticks : NeverSticks
never_sticks S has types entry args n true why legal is =
    stopped_result S has types (start S entry args) n (after S true (start S entry args) n) why (sound S has types entry args)
    (tests_only_stop S (start S entry args) n) is
never_sticks S has types entry args n false why legal is =
    plain_result S has types (after S false (start S entry args) n) why (sound S has types entry args n) is

pub frames_keep_shapes : FramesKeepShapes
frames_keep_shapes S has types entry args true n =
    stopped_given S has types (start S entry args) n (after S true (start S entry args) n) (sound S has types entry args)
    (tests_only_stop S (start S entry args) n)
frames_keep_shapes S has types entry args false n =
    frames_given S has types (after S false (start S entry args) n) (sound S has types entry args n)
