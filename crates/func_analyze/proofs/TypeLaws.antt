-- Types keep the laws of an analysis.
use Rattle.std.proofs.Common.{◌≡◌, ◌⊎◌, inl, inr, ℕ, zero, suc, ◌-◌, refl, sym, subst, true, Option, Some, None, option_map, List, [], ◌∷◌, ◌++◌, filter, replicate, map, slice_get, length, Contains, arith}
use Rattle.std.proofs.lemmas.List.Elements.{Contains-append_right, filter-append}
use Rattle.hack_values.specs.declared.cell.Cell.{Cell}
use Rattle.hack_values.specs.declared.cell.Cell.TheVariants as cells
use Rattle.hack_values.specs.declared.cell.Slot.TheVariants as slots
use Rattle.hack_values.specs.declared.heap.Object.{Object}
use Rattle.type_lattice.specs.declared.types.HType.{HType}
use Rattle.type_lattice.specs.Classes.{Tree}
use Rattle.type_lattice.specs.Order.{Le}
use Rattle.type_lattice.specs.Types.{cell, uninit}
use Rattle.type_lattice.specs.Member.{Heap, cell_in, AreMembers}
use Rattle.type_lattice.proofs.Members.{cell_in-cell, cell_in-le, AreMembers-alive}
use Rattle.hhbc_repo.specs.declared.code.Code.{Code}
use Rattle.hhbc_repo.specs.declared.body.Body.{Body}
use Rattle.hhbc_repo.specs.Bodies.{body_at, code_at, tree_of, properties_of}
use Rattle.hhbc_repo.specs.Codes.{throws}
use Rattle.hhbc_repo.specs.Edges.{handler_of}
use Rattle.hhbc_semantics.specs.Setting.{Setting}
use Rattle.hhbc_semantics.specs.LocalCodes.{IsLocalCode, OnlyLocalCodes}
use Rattle.hhbc_semantics.specs.Growth.{HeapGrows, WorldGrows}
use Rattle.hhbc_semantics.specs.Exceptions.{exception}
use Rattle.hhbc_semantics.specs.Frames.{World, Frame, Turn, Goes, Calls, Returns, Raises, Ends, Fails, Sticks}
use Rattle.hhbc_semantics.specs.Machine.{perform_code, turn_in}
use Rattle.hhbc_semantics.specs.Steps.{handler_in}
use Rattle.hhbc_semantics.specs.Run.{entered}
use Rattle.hhbc_semantics.specs.Soundness.{MayThrowAt, Led, GoesWith, Laws}
use Rattle.hhbc_semantics.specs.Truth.{Facts, HoldIn, each}
use Rattle.hhbc_semantics.proofs.Growing.{cell_in-grows, AreMembers-grows, append_grows, appended_class, appended_is}
use Rattle.abstract_step.specs.State.{State, StateLe, is_alive, entry_state}
use Rattle.abstract_step.specs.Flow.{Flows, flow, row, completed, to_behind, to_handler, lives, exception_type}
use Rattle.abstract_step.specs.Laws.{Lies, LiesBehind, Fits}
use Rattle.abstract_step.proofs.StateOrder.{AreMembers-le, together}
use Rattle.abstract_step.proofs.Rows.{fits_code}
use Rattle.func_analyze.specs.Rounds.{initial_types}
use Rattle.func_analyze.specs.TypeAnalysis.{by_types}
use Rattle.func_analyze.proofs.ClassChains.{classes_are_transitive}
use Rattle.func_analyze.proofs.Raising.{Does, does_code}

pub lies_alive : (tree : Tree) (f : Frame) (heap : Heap) (s : State) → Lies tree f heap s → is_alive s ≡ true
lies_alive tree f heap s h =
    together _ _ (AreMembers-alive tree heap f.locals s.locals h.locals) (AreMembers-alive tree heap f.stack s.stack h.stack)

pub lies_above : (tree : Tree) (f : Frame) (heap : Heap) (s t : State) → StateLe tree s t → Lies tree f heap s → Lies tree f heap t
lies_above tree f heap s t h l = record {
  locals = AreMembers-le tree (classes_are_transitive tree) heap f.locals s.locals t.locals h.locals l.locals;
  stack = AreMembers-le tree (classes_are_transitive tree) heap f.stack s.stack t.stack h.stack l.stack;
}

-- a frame that enters a body lies in its entry state
uninit_members : (tree : Tree) (heap : Heap) (n : ℕ) → AreMembers tree heap (replicate n slots.Uninit) (replicate n uninit)
uninit_members tree heap zero = tt
uninit_members tree heap (suc n) = (refl, uninit_members tree heap n)

entry_members : (tree : Tree) (heap : Heap) (args : List Cell) (n m : ℕ) → length args ≡ n
    → AreMembers tree heap (map (λ c. slots.Cell c) args ++ replicate m slots.Uninit) (replicate n cell ++ replicate m uninit)
entry_members tree heap [] zero m e = uninit_members tree heap m
entry_members tree heap [] (suc n) m e = absurd (omega arith)
entry_members tree heap (c ∷ args) zero m e = absurd (omega arith)
entry_members tree heap (c ∷ args) (suc n) m e = (cell_in-cell tree heap c, entry_members tree heap args n m (omega arith))

pub entered_lies : (tree : Tree) (n : ℕ) (b : Body) (args : List Cell) → length args ≡ b.params → Lies tree (entered n b args) [] (entry_state b)
entered_lies tree n b args e = record { locals = entry_members tree [] args b.params (length b.locals - b.params) e; stack = tt }

-- where a frame lies behind a code, there is a state that it lies in
behind_state : (tree : Tree) (f : Frame) (heap : Heap) (o : Option State) → LiesBehind tree f heap o → (s : State) × (o ≡ Some s) × Lies tree f heap s
behind_state tree f heap None h = absurd h
behind_state tree f heap (Some s) h = (s, refl, h)

flows_behind : (p : ℕ) (o : Option State) (s : State) (labels more : List (ℕ × State)) → o ≡ Some s → is_alive s ≡ true
    → Contains (filter lives (to_behind p o ++ labels ++ more)) (suc p, s)
flows_behind p None s labels more e a = absurd (cc)
flows_behind p (Some x) s labels more e a =
    let f : x ≡ s = cc in
    subst (λ x. Contains (filter lives (to_behind p (Some x) ++ labels ++ more)) (suc p, s)) (sym f) (rw a (0, omega arith, refl))

flows_last : (xs ys : List (ℕ × State)) (x : ℕ × State) → lives x ≡ true → Contains (filter lives (xs ++ ys ++ x ∷ [])) x
flows_last xs ys x a =
    rw (filter-append lives (xs ++ ys) (x ∷ [])) (Contains-append_right (filter lives (xs ++ ys)) (filter lives (x ∷ [])) x (rw a (0, omega arith, refl)))

pub each_at : (ts : List HType) (n : ℕ) (t : HType) → slice_get (each ts) n ≡ Some (Some t) → slice_get ts n ≡ Some t
each_at [] n t e = absurd (cc)
each_at (x ∷ ts) zero t e = cc
each_at (x ∷ ts) (suc n) t e = each_at ts n t e

only_message : (c : Cell) (i : ℕ) (s : List ℕ) → slice_get (cells.Str s ∷ []) i ≡ Some c → (i ≡ 0) × (c ≡ cells.Str s)
only_message c zero s e = (refl, cc)
only_message c (suc i) s e = absurd (cc)

module _ (S : Setting) where
  -- an exception that is made has a message of the type that its property has
  holds_made : (G : Facts) (heap : Heap) (message : List ℕ) → ((t u : HType) → slice_get (initial_types S.repo) 0 ≡ Some t → slice_get G.props 0 ≡ Some u → Le (tree_of S.repo) t u)
      → HoldIn S.repo (each G.props) heap → HoldIn S.repo (each G.props) (heap ++ exception 3 message ∷ [])
  holds_made G heap message above held n o e i c at q named t is = by_place (appended_is heap (exception 3 message) o n e)
    where
      by_place : (slice_get heap n ≡ Some o) ⊎ (exception 3 message ≡ o) → cell_in (tree_of S.repo) (heap ++ exception 3 message ∷ []) c t ≡ true
      by_place (inl old) =
          cell_in-grows (tree_of S.repo) heap (heap ++ exception 3 message ∷ []) (append_grows heap (exception 3 message ∷ [])) c t (held n o old i c at q named t is)
      by_place (inr new) =
          let m = only_message c i message (subst (λ (o : Object). slice_get o.props i ≡ Some c) (sym new) at) in
          let p : slice_get (properties_of S.repo 3) 0 ≡ Some q =
          subst (λ i. slice_get (properties_of S.repo 3) i ≡ Some q) m.0 (subst (λ (o : Object). slice_get (properties_of S.repo o.class) i ≡ Some q) (sym new) named) in
          let z : 0 ≡ q = cc in
          let u = each_at G.props 0 t (subst (λ q. slice_get (each G.props) q ≡ Some (Some t)) (sym z) is) in
          subst (λ c. cell_in (tree_of S.repo) (heap ++ exception 3 message ∷ []) c t ≡ true) (sym m.1)
          (cell_in-le (tree_of S.repo) (classes_are_transitive (tree_of S.repo)) (heap ++ exception 3 message ∷ []) (cells.Str message) _ t (above _ t refl u) refl)

  made_is_exception : (heap : Heap) (message : List ℕ) → cell_in (tree_of S.repo) (heap ++ exception 3 message ∷ []) (cells.Obj (length heap)) exception_type ≡ true
  made_is_exception heap message = rw (appended_class heap (exception 3 message)) refl

  -- the flows of a position, by its code
  flow_is : (F : Facts) (n p : ℕ) (s : State) (b : Body) (c : Code) → body_at S.repo n ≡ Some b → code_at b p ≡ Some c
      → flow S.repo F n p s ≡ completed (row S.repo F n c s) p (to_handler (throws c) (handler_of b p) s)
  flow_is F n p s b c is at = rw (is, at) refl

  module _ (F : Facts) (f : Frame) (s : State) (w : World) where
    abbrev goes_with : Turn → Type 0
    goes_with t = GoesWith S.repo (by_types S) F f s w t

    stays_put : (v : World) → v ≡ w → WorldGrows w v
    stays_put v e = subst (λ v. WorldGrows w v) (sym e) (λ n c h. h)

    by_turn : (b : Body) (c : Code) → body_at S.repo f.body ≡ Some b → code_at b f.position ≡ Some c → (t : Turn)
        → Fits (tree_of S.repo) f w (row S.repo F f.body c s) t → Does (throws c) w t → goes_with t
    by_turn b c is at (Goes g v) k d =
        let x = behind_state (tree_of S.repo) g w.heap (row S.repo F f.body c s).behind k.0 in
        let to : Contains (flow S.repo F f.body f.position s).to (suc f.position, x.0) =
        subst (λ (o : Flows). Contains o.to (suc f.position, x.0)) (sym (flow_is F f.body f.position s b c is at))
        (flows_behind f.position (row S.repo F f.body c s).behind x.0 (row S.repo F f.body c s).labels _ x.1 (lies_alive (tree_of S.repo) g w.heap x.0 x.2)) in
        record {
          fits = (
            x.0,
            subst (λ q. Contains (flow S.repo F f.body f.position s).to (q, x.0)) (sym k.1) to,
            subst (λ (u : World). Lies (tree_of S.repo) g u.heap x.0) (sym d) x.2,
            k.2,
          );
          grows = stays_put v d;
          takes = λ G b t h. subst (λ (u : World). HoldIn S.repo (each G.props) u.heap) (sym d) h;
        }
    by_turn b c is at (Calls g v) k d = absurd d
    by_turn b c is at (Returns x v) k d = record {
      fits =
          subst (λ (u : World). cell_in (tree_of S.repo) u.heap x (flow S.repo F f.body f.position s).returned ≡ true) (sym d)
          (subst (λ (o : Flows). cell_in (tree_of S.repo) w.heap x o.returned ≡ true) (sym (flow_is F f.body f.position s b c is at)) k.0);
      grows = stays_put v d;
      takes = λ G b t h. subst (λ (u : World). HoldIn S.repo (each G.props) u.heap) (sym d) h;
    }
    by_turn b c is at (Raises e v) k d = record {
      fits = (
        subst (λ e. cell_in (tree_of S.repo) v.heap e exception_type ≡ true) (sym d.1)
            (subst (λ (heap : Heap). cell_in (tree_of S.repo) heap (cells.Obj (length w.heap)) exception_type ≡ true) (sym d.3) (made_is_exception w.heap d.2)),
        record { body = b; at = is; code = c; there = at; may = d.0 },
      );
      grows = subst (λ (heap : Heap). HeapGrows w.heap heap) (sym d.3) (append_grows w.heap _);
      takes = λ G begun t h.
          subst (λ (heap : Heap). HoldIn S.repo (each G.props) heap) (sym d.3) (holds_made G w.heap d.2 (λ x u i j. begun.initial 0 x u i j) h);
    }
    by_turn b c is at (Ends (Fails name) v) k d = record {
      fits = tt;
      grows = stays_put v d;
      takes = λ G b t h. subst (λ (u : World). HoldIn S.repo (each G.props) u.heap) (sym d) h;
    }
    by_turn b c is at (Ends (Sticks why) v) k d = record {
      fits = tt;
      grows = stays_put v d;
      takes = λ G b t h. subst (λ (u : World). HoldIn S.repo (each G.props) u.heap) (sym d) h;
    }

    at_code : (b : Body) → ((c : Code) → code_at b f.position ≡ Some c → IsLocalCode c) → body_at S.repo f.body ≡ Some b → (o : Option Code) → code_at b f.position ≡ o → Lies (tree_of S.repo) f w.heap s → goes_with (perform_code S o b f w)
    at_code b local is None at h = record { fits = tt; grows = λ n c e. e; takes = λ G b t k. k }
    at_code b local is (Some c) at h =
        by_turn b c is at (perform_code S (Some c) b f w) (fits_code (tree_of S.repo) f w S F f.body c b s (local c at) h) (does_code S c b f w (local c at))

    at_body : OnlyLocalCodes S.repo → (o : Option Body) → body_at S.repo f.body ≡ o → Lies (tree_of S.repo) f w.heap s → goes_with (turn_in S o f w)
    at_body local None is h = record { fits = tt; grows = λ n c e. e; takes = λ G b t k. k }
    at_body local (Some b) is h = at_code b (local f.body b is f.position) is (code_at b f.position) refl h

    caught_led : (e : Cell) (g : Frame) (may : MayThrowAt S.repo f.body f.position) (o : Option ℕ) → handler_of may.body f.position ≡ o
        → Lies (tree_of S.repo) f w.heap s → cell_in (tree_of S.repo) w.heap e exception_type ≡ true
        → option_map (λ q. record f { position = q; stack = slots.Cell e ∷ [] }) o ≡ Some g → Led S.repo (by_types S) F f s g w
    caught_led e g may None at h x is = absurd (cc)
    caught_led e g may (Some q) at h x is =
        let here : record f { position = q; stack = slots.Cell e ∷ [] } ≡ g = cc in
        let lies : Lies (tree_of S.repo) (record f { position = q; stack = slots.Cell e ∷ [] }) w.heap (record s { stack = exception_type ∷ [] }) =
        record { locals = h.locals; stack = (x, tt) } in
        let a = lies_alive (tree_of S.repo) (record f { position = q; stack = slots.Cell e ∷ [] }) w.heap (record s { stack = exception_type ∷ [] }) lies in
        let last = flows_last (to_behind f.position (row S.repo F f.body may.code s).behind) (row S.repo F f.body may.code s).labels
        (q, record s { stack = exception_type ∷ [] }) a in
        let to : Contains (flow S.repo F f.body f.position s).to (q, record s { stack = exception_type ∷ [] }) =
        subst (λ (o : Flows). Contains o.to (q, record s { stack = exception_type ∷ [] })) (sym (flow_is F f.body f.position s may.body may.code may.at may.there))
        (rw (may.may, at) last) in
        subst (λ g. Led S.repo (by_types S) F f s g w) here (record s { stack = exception_type ∷ [] }, to, lies, refl)

  pub type_laws : OnlyLocalCodes S.repo → Laws S.repo (by_types S)
  type_laws local = record {
    grows_itself = λ w n c e. e;
    holds_grows = λ f s v w g h. record {
      locals = AreMembers-grows (tree_of S.repo) v.heap w.heap g f.locals s.locals h.locals;
      stack = AreMembers-grows (tree_of S.repo) v.heap w.heap g f.stack s.stack h.stack;
    };
    holds_below = λ f s t w le h. lies_above (tree_of S.repo) f w.heap s t le h;
    turns = λ F f s w shares h. at_body F f s w local (body_at S.repo f.body) refl h;
    catches = λ F f s w e g h raised may is.
        caught_led F f s w e g may (handler_of may.body f.position) refl h raised
        (subst (λ o. option_map (λ q. record f { position = q; stack = slots.Cell e ∷ [] }) (handler_in o f.position) ≡ Some g) may.at is);
  }
