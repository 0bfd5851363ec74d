-- The facts after any number of rounds are true in every run, and each frame lies in the least solution under them.
use Rattle.std.proofs.Common.{◌≡◌, ◌⊎◌, inl, inr, ℕ, zero, suc, refl, sym, ◌∙◌, ap, subst, true, false, Some, List, [], ◌∷◌, ◌++◌, map, flat_map, reverse, replicate, slice_get, length, arith}
use Rattle.std.proofs.lemmas.Option.{slice_get_within}
use Rattle.std.proofs.lemmas.List.{length-map}
use Rattle.hack_values.specs.declared.cell.Cell.{Cell}
use Rattle.type_lattice.specs.declared.types.HType.{HType}
use Rattle.type_lattice.specs.Classes.{Tree, chain}
use Rattle.type_lattice.specs.Types.{cell}
use Rattle.type_lattice.specs.Member.{Heap, cell_in}
use Rattle.type_lattice.proofs.Members.{cell_in-cell, cell_in-le}
use Rattle.hhbc_repo.specs.declared.body.Body.{Body}
use Rattle.hhbc_repo.specs.declared.repo.Class.{Class}
use Rattle.hhbc_repo.specs.Linked.{Linked}
use Rattle.hhbc_repo.specs.Bodies.{built_in_tree, built_in_counts, own_from, bodies, body_at, tree_of, property_counts, properties_of}
use Rattle.hhbc_repo.specs.Bare.{bare, bare_class, bare_property}
use Rattle.hhbc_semantics.specs.Setting.{Setting, bare_setting}
use Rattle.hhbc_semantics.specs.LocalCodes.{OnlyLocalCodes}
use Rattle.hhbc_semantics.specs.Frames.{World, Frame}
use Rattle.hhbc_semantics.specs.Machine.{turn}
use Rattle.hhbc_semantics.specs.Steps.{Config, Running, Ended, steps_by}
use Rattle.hhbc_semantics.specs.Run.{after, entered, start}
use Rattle.hhbc_semantics.specs.Soundness.{At, Lies, Waiting, Sound, Solve, IsRoundBy, AreByRounds, Starts}
use Rattle.hhbc_semantics.specs.Soundness as soundness
use Rattle.hhbc_semantics.specs.Tested.{IsStopped}
use Rattle.hhbc_semantics.specs.Truth.{Facts, HoldIn, TrueOf, each}
use Rattle.hhbc_semantics.proofs.OnlyLocal.{bare_is_local}
use Rattle.hhbc_semantics.proofs.Starting.{starts}
use Rattle.hhbc_semantics.proofs.StaysTrue.{rounds_stay_true}
use Rattle.hhbc_semantics.proofs.Stripped.{same_start}
use Rattle.hhbc_semantics.proofs.TestedRuns.{tests_only_stop, after_steps}
use Rattle.abstract_step.specs.State.{StateLe}
use Rattle.abstract_step.specs.Laws.{Lies as Inhabits}
use Rattle.func_analyze.specs.Solution.{Table}
use Rattle.func_analyze.specs.Rounds.{initial_types, top, AreLeast, IsRound, IsFacts}
use Rattle.func_analyze.specs.Laws.{FactsAreTrue}
use Rattle.func_analyze.specs.TypeAnalysis.{entry_in, AreBegun, by_types, LiesIn, AllLieIn, FramesLieIn, FramesLie}
use Rattle.func_analyze.proofs.ClassChains.{classes_are_transitive}
use Rattle.func_analyze.proofs.RoundOrder.{found, same_cell}
use Rattle.func_analyze.proofs.TypeLaws.{each_at, type_laws, entered_lies}

all_cells : (k n : ℕ) (t : HType) → slice_get (each (replicate k cell)) n ≡ Some (Some t) → t ≡ cell
all_cells k n t e = same_cell k n t (each_at (replicate k cell) n t e)

module _ (S : Setting) where
  nothing_held : (G : Facts) → AreBegun S.repo G → HoldIn S.repo (each G.props) []
  nothing_held G begun n o e = absurd (cc)

  enters : (n : ℕ) (b : Body) (args : List Cell) → body_at S.repo n ≡ Some b → length args ≡ b.params
      → Inhabits (tree_of S.repo) (entered n b args) [] (entry_in (body_at S.repo n))
  enters n b args is e = subst (λ o. Inhabits (tree_of S.repo) (entered n b args) [] (entry_in o)) (sym is) (entered_lies (tree_of S.repo) n b args e)

  starts_here : (entry : List ℕ) (args : List Cell) → Starts S.repo (by_types S) (start S entry args)
  starts_here entry args = starts S (by_types S) nothing_held enters entry args

  -- the first facts are true of everything
  top_true : (c : Config) → soundness.TrueOf S.repo (by_types S) (top S.repo) c
  top_true (Running f fs w) = (
    λ n o e i c at q named t is. subst (λ t. cell_in (tree_of S.repo) w.heap c t ≡ true) (sym (all_cells (length (initial_types S.repo)) q t is)) (cell_in-cell (tree_of S.repo) w.heap c),
    λ c v is t k. subst (λ t. cell_in (tree_of S.repo) v.heap c t ≡ true) (sym (all_cells (length (bodies S.repo)) f.body t k)) (cell_in-cell (tree_of S.repo) v.heap c),
  )
  top_true (Ended x w) =
      λ n o e i c at q named t is. subst (λ t. cell_in (tree_of S.repo) w.heap c t ≡ true) (sym (all_cells (length (initial_types S.repo)) q t is)) (cell_in-cell (tree_of S.repo) w.heap c)

  -- least solutions solve
  least_solve : (F : Facts) (Ts : List Table) → AreLeast S.repo F Ts → Solve S.repo (by_types S) F Ts
  least_solve F Ts l = record {
    enters = λ b is.
        let n = slice_get_within (bodies S.repo) b is.0 is.1 in
        let T = found Ts b (let c = l.count in omega arith) in
        let w = (l.least b T.0 T.1).solution in
        (w.solves.enters.0, (T.0, T.1, w.solves.enters.1), subst (λ o. StateLe (tree_of S.repo) (entry_in o) w.solves.enters.0) (sym w.at) w.solves.enters.2);
    closed = λ b p s q t at to.
        let up = (l.least b at.0 at.1).solution.solves.closed p s at.2 q t to in
        (up.0, (at.0, at.1, up.1), up.2);
  }

  round_by : (F G : Facts) (w : IsRound S.repo F G) → IsRoundBy S.repo (by_types S) F w.tables G
  round_by F G w = record {
    begins = record { initial = λ q t u i k. (w.props q u k).above t (inl i) };
    solve = least_solve F w.tables w.least;
    gives = λ b p s at c v m t is.
        let le = (w.returns b at.0 t at.1 (each_at G.returns b t is)).above _ (record { position = p; state = s; reached = at.2; returned = refl }) in
        cell_in-le (tree_of S.repo) (classes_are_transitive (tree_of S.repo)) v.heap c _ t le m;
    takes = λ b p s at. record {
      written = λ q t u i k.
          (w.props q u k).above t (inr (record { body = b; table = at.0; at = at.1; position = p; state = s; reached = at.2; written = i }));
    };
  }

  by_rounds : (n : ℕ) (F : Facts) → IsFacts S.repo n F → AreByRounds S.repo (by_types S) (top S.repo) n F
  by_rounds zero F is = is
  by_rounds (suc n) G is = (is.0, by_rounds n is.0 is.1, is.2.tables, round_by is.0 G is.2)

  -- a round says nothing where no facts are asked for
  no_facts : Facts
  no_facts = record { returns = []; props = [] }

  round_for_none : (F : Facts) (Ts : List Table) → AreLeast S.repo F Ts → IsRoundBy S.repo (by_types S) F Ts no_facts
  unfolding no_facts
  round_for_none F Ts l = record {
    begins = record { initial = λ q t u i k. absurd (cc) };
    solve = least_solve F Ts l;
    gives = λ b p s at c v m t is. absurd (cc);
    takes = λ b p s at. record { written = λ q t u i k. absurd (cc) };
  }

  steps_true : OnlyLocalCodes S.repo → (n : ℕ) (F : Facts) → IsFacts S.repo n F → (entry : List ℕ) (args : List Cell) (m : ℕ)
      → soundness.TrueOf S.repo (by_types S) F (steps_by (λ f w. turn S f w) S.repo (start S entry args) m)
  steps_true local n F is entry args m =
      (rounds_stay_true by_types S (type_laws S local) (top S.repo) top_true (start S entry args) (starts_here entry args) n F (by_rounds n F is)).0 m

  steps_sound : OnlyLocalCodes S.repo → (n : ℕ) (F : Facts) → IsFacts S.repo n F → (Ts : List Table) → AreLeast S.repo F Ts → (entry : List ℕ) (args : List Cell) (m : ℕ)
      → Sound S.repo (by_types S) Ts no_facts (steps_by (λ f w. turn S f w) S.repo (start S entry args) m)
  steps_sound local n F is Ts l entry args m =
      (rounds_stay_true by_types S (type_laws S local) (top S.repo) top_true (start S entry args) (starts_here entry args) n F (by_rounds n F is)).1 Ts no_facts
      (round_for_none F Ts l) m

  lies_in : (Ts : List Table) (f : Frame) (w : World) → Lies S.repo (by_types S) Ts f w → LiesIn S.repo Ts f w.heap
  lies_in Ts f w h = record { table = h.1.0; at = h.1.1; state = h.0; reached = h.1.2; lies = h.2 }

  waiting_lie : (Ts : List Table) (b : ℕ) (fs : List Frame) (w : World) → Waiting S.repo (by_types S) Ts b fs w → AllLieIn S.repo Ts fs w.heap
  waiting_lie Ts b [] w h = tt
  waiting_lie Ts b (f ∷ fs) w h = (lies_in Ts f w h.1, waiting_lie Ts f.body fs w h.2)

  sound_lie : (Ts : List Table) (G : Facts) (c : Config) → Sound S.repo (by_types S) Ts G c → FramesLieIn S.repo Ts c
  sound_lie Ts G (Running f fs w) h = (lies_in Ts f w h.1, waiting_lie Ts f.body fs w h.2)
  sound_lie Ts G (Ended o w) h = tt

-- classes and properties are the same without assertions and stated types
same_parents : (cs : List Class) → map (λ (c : Class). c.parent) (map bare_class cs) ≡ map (λ (c : Class). c.parent) cs
same_parents [] = refl
same_parents (c ∷ cs) = ap (λ xs. c.parent ∷ xs) (same_parents cs)

same_counts : (cs : List Class) → map (λ (c : Class). length c.props) (map bare_class cs) ≡ map (λ (c : Class). length c.props) cs
same_counts [] = refl
same_counts (c ∷ cs) = λ i. length-map c.props bare_property i ∷ same_counts cs i

pub tree_same : (r : Linked) → tree_of (bare r) ≡ tree_of r
tree_same r = ap (λ ps. built_in_tree ++ ps) (same_parents r.classes)

pub props_same : (r : Linked) (c : ℕ) → properties_of (bare r) c ≡ properties_of r c
props_same r c =
    ap (λ (tree : Tree). flat_map (λ d. own_from 0 (property_counts (bare r)) d) (reverse (chain tree c))) (tree_same r)
    ∙ ap (λ counts. flat_map (λ d. own_from 0 (built_in_counts ++ counts) d) (reverse (chain (tree_of r) c))) (same_counts r.classes)

held_bare : (r : Linked) (F : Facts) (heap : Heap) → HoldIn (bare r) (each F.props) heap → HoldIn r (each F.props) heap
held_bare r F heap h n o e i c at q named t is =
    subst (λ (tree : Tree). cell_in tree heap c t ≡ true) (tree_same r)
    (h n o e i c at q (subst (λ qs. slice_get qs i ≡ Some q) (sym (props_same r o.class)) named) t is)

true_bare : (S : Setting) (F : Facts) (c : Config) → soundness.TrueOf (bare S.repo) (by_types (bare_setting S)) F c → TrueOf S F c
true_bare S F (Running f fs w) h = (
  held_bare S.repo F w.heap h.0,
  λ c v is t k. subst (λ (tree : Tree). cell_in tree v.heap c t ≡ true) (tree_same S.repo) (h.1 c v is t k),
)
true_bare S F (Ended o w) h = held_bare S.repo F w.heap h

-- the run without tests
pub plain_true : (S : Setting) (n : ℕ) (F : Facts) → OnlyLocalCodes S.repo → IsFacts (bare S.repo) n F → (entry : List ℕ) (args : List Cell) (m : ℕ)
    → TrueOf S F (after S false (start S entry args) m)
plain_true S n F local is entry args m =
    subst (λ c. TrueOf S F c) (sym (after_steps S (start S entry args) m))
    (true_bare S F (steps_by (λ f w. turn (bare_setting S) f w) (bare S.repo) (start S entry args) m)
    (subst (λ c. soundness.TrueOf (bare S.repo) (by_types (bare_setting S)) F (steps_by (λ f w. turn (bare_setting S) f w) (bare S.repo) c m)) (sym (same_start S entry args))
    (steps_true (bare_setting S) (bare_is_local S.repo local) n F is entry args m)))

shares : (S : Setting) (F : Facts) (c : Config) (f : Frame) (fs : List Frame) (w : World) → c ≡ Running f fs w → TrueOf S F c → HoldIn S.repo (each F.props) w.heap
shares S F c f fs w e h = (subst (λ c. TrueOf S F c) e h).0

tested_true : (S : Setting) (n : ℕ) (F : Facts) → OnlyLocalCodes S.repo → IsFacts (bare S.repo) n F → (entry : List ℕ) (args : List Cell) (m : ℕ) (c : Config)
    → (c ≡ after S false (start S entry args) m) ⊎ IsStopped S (start S entry args) m c → TrueOf S F c
tested_true S n F local is entry args m c (inl e) = subst (λ c. TrueOf S F c) (sym e) (plain_true S n F local is entry args m)
tested_true S n F local is entry args m c (inr s) =
    subst (λ c. TrueOf S F c) (sym s.is)
    (shares S F (after S false (start S entry args) s.turns) s.frame s.below s.world s.at (plain_true S n F local is entry args s.turns))

pub facts_are_true : FactsAreTrue
facts_are_true S n F local is entry args true m legal =
    tested_true S n F local is entry args m (after S true (start S entry args) m) (tests_only_stop S (start S entry args) m)
facts_are_true S n F local is entry args false m legal = plain_true S n F local is entry args m

pub plain_lie : (S : Setting) (n : ℕ) (F : Facts) → OnlyLocalCodes S.repo → IsFacts (bare S.repo) n F → (Ts : List Table) → AreLeast (bare S.repo) F Ts
    → (entry : List ℕ) (args : List Cell) (m : ℕ) → FramesLieIn (bare S.repo) Ts (after S false (start S entry args) m)
plain_lie S n F local is Ts l entry args m =
    subst (λ c. FramesLieIn (bare S.repo) Ts c) (sym (after_steps S (start S entry args) m))
    (subst (λ c. FramesLieIn (bare S.repo) Ts (steps_by (λ f w. turn (bare_setting S) f w) (bare S.repo) c m)) (sym (same_start S entry args))
    (sound_lie (bare_setting S) Ts (no_facts (bare_setting S)) (steps_by (λ f w. turn (bare_setting S) f w) (bare S.repo) (start (bare_setting S) entry args) m) (steps_sound (bare_setting S) (bare_is_local S.repo local) n F is Ts l entry args m)))

tested_lie : (S : Setting) (n : ℕ) (F : Facts) → OnlyLocalCodes S.repo → IsFacts (bare S.repo) n F → (Ts : List Table) → AreLeast (bare S.repo) F Ts
    → (entry : List ℕ) (args : List Cell) (m : ℕ) (c : Config)
    → (c ≡ after S false (start S entry args) m) ⊎ IsStopped S (start S entry args) m c → FramesLieIn (bare S.repo) Ts c
tested_lie S n F local is Ts l entry args m c (inl e) = subst (λ c. FramesLieIn (bare S.repo) Ts c) (sym e) (plain_lie S n F local is Ts l entry args m)
tested_lie S n F local is Ts l entry args m c (inr s) = subst (λ c. FramesLieIn (bare S.repo) Ts c) (sym s.is) tt

pub frames_lie : FramesLie
frames_lie S n F local is Ts l entry args true m legal =
    tested_lie S n F local is Ts l entry args m (after S true (start S entry args) m) (tests_only_stop S (start S entry args) m)
frames_lie S n F local is Ts l entry args false m legal = plain_lie S n F local is Ts l entry args m
