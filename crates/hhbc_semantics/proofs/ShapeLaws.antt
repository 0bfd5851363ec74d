-- Shapes keep the laws of an analysis, where all codes are those of constants and locals.
use Rattle.std.proofs.Common.{◌≡◌, ℕ, zero, suc, ◌<◌, refl, sym, ◌∙◌, ap, subst, Bool, true, false, nat_le, Option, Some, None, option_map, List, [], ◌∷◌, ◌++◌, map, drop, slice_get, slice_set, length, arith}
use Rattle.hack_values.specs.declared.cell.Cell.{Cell}
use Rattle.hack_values.specs.declared.cell.Slot.{Slot}
use Rattle.hack_values.specs.declared.cell.Slot.TheVariants as slots
use Rattle.hhbc_ops.specs.declared.op.Op.{Op}
use Rattle.hhbc_ops.specs.declared.op.Op.TheVariants as ops
use Rattle.hhbc_repo.specs.declared.code.Code.{Code}
use Rattle.hhbc_repo.specs.declared.code.Code.TheVariants as kinds
use Rattle.hhbc_repo.specs.declared.code.Imm.{Imm}
use Rattle.hhbc_repo.specs.declared.code.Imm.TheVariants as imms
use Rattle.hhbc_repo.specs.declared.body.Body.{Body}
use Rattle.hhbc_repo.specs.Linked.{Linked}
use Rattle.hhbc_repo.specs.Bodies.{bodies, body_at, code_at}
use Rattle.hhbc_ops.specs.Ops.{op_goes_on, op_throws}
use Rattle.hhbc_ops.specs.declared.words.Flavour.{Flavour}
use Rattle.hhbc_ops.specs.declared.words.Flavour.TheVariants.{C, U}
use Rattle.hhbc_repo.specs.Codes.{local_of, op_pops, op_pushes, pops, pushes, iter_use, throws, goes_on, labels}
use Rattle.hhbc_repo.specs.Edges.{Edge, Next, To, Handler, target, edges, next_edges, handler_of}
use Rattle.hhbc_semantics.specs.Setting.{Setting}
use Rattle.hhbc_semantics.specs.Form.{FitsOperands, FitsCode}
use Rattle.hhbc_semantics.specs.Frames.{World, Frame, Turn, Goes, Calls, Returns, Raises, Ends, Fails, Sticks}
use Rattle.hhbc_semantics.specs.Machine.{perform_code, turn_in}
use Rattle.hhbc_semantics.specs.Operands.{with_cell, read_slot, name_or_none}
use Rattle.hhbc_semantics.specs.Rows.{perform}
use Rattle.hhbc_semantics.specs.Steps.{handler_in}
use Rattle.hhbc_repo.specs.Shapes.{Shape, agree, after, behind, live_next, hands_on, caught_shape, given, shapes}
use Rattle.hhbc_semantics.specs.Soundness.{MayThrowAt, Led, GoesWith, Laws, IsRoundBy, At}
use Rattle.hhbc_semantics.specs.ShapeAnalysis.{AreOfFlavours, AreLive, IsOfShape, HandsOn, entry_shape, by_shapes}
use Rattle.hhbc_semantics.proofs.Walking.{no_iter}
use Rattle.hhbc_repo.proofs.Elements.{slice_last}
use Rattle.hhbc_repo.proofs.Elements.{from_map, to_map}
use Rattle.hhbc_semantics.proofs.ShapeTables.{shape_at, shape_there, Passes}

-- what a code that takes and puts these slots may do to a frame with these flavours on its stack
abbrev Does : List Flavour → List Flavour → Bool → Bool → List Flavour → Frame → Turn → Type 0
Does takes puts on may fs f (Goes g v) =
    (g.body ≡ f.body) × (g.position ≡ suc f.position) × AreOfFlavours g.stack (puts ++ drop (length takes) fs)
    × (g.iters ≡ f.iters) × (length g.locals ≡ length f.locals) × (on ≡ true)
Does takes puts on may fs f (Calls g v) = ⊥
Does takes puts on may fs f (Returns c v) = Unit {0}
Does takes puts on may fs f (Raises e v) = may ≡ true
Does takes puts on may fs f (Ends (Fails name) v) = Unit {0}
Does takes puts on may fs f (Ends (Sticks why) v) = nat_le (length takes) (length fs) ≡ true → agree takes fs ≡ true → ⊥

does_cell : (puts : List Flavour) (on may : Bool) (f : Frame) (w : World) (ss : List Slot) (fs : List Flavour) (go : Cell → List Slot → Turn)
    → AreOfFlavours ss fs
    → ((x : Cell) (rest : List Slot) (more : List Flavour) → AreOfFlavours rest more → AreOfFlavours ss (C ∷ more) → Does (C ∷ []) puts on may (C ∷ more) f (go x rest))
    → Does (C ∷ []) puts on may fs f (with_cell ss w go)
does_cell puts on may f w [] [] go h k = λ enough agrees. absurd (cc)
does_cell puts on may f w [] (x ∷ fs) go h k = absurd h
does_cell puts on may f w (s ∷ rest) [] go h k = absurd h
does_cell puts on may f w (slots.Uninit ∷ rest) (C ∷ fs) go h k = absurd h.0
does_cell puts on may f w (slots.Uninit ∷ rest) (U ∷ fs) go h k = λ enough agrees. absurd (cc)
does_cell puts on may f w (slots.Cell x ∷ rest) (C ∷ fs) go h k = k x rest fs h.1 h
does_cell puts on may f w (slots.Cell x ∷ rest) (U ∷ fs) go h k = absurd h.0

does_local : (puts : List Flavour) (on : Bool) (fs : List Flavour) (f : Frame) (w : World) (ss : List Slot) (l : ℕ) (name : List ℕ) (go : Cell → Turn)
    → l < length ss → ((x : Cell) → Does [] puts on true fs f (go x)) → Does [] puts on true fs f (read_slot (slice_get ss l) name w go)
does_local puts on fs f w [] l name go h k = absurd (omega arith)
does_local puts on fs f w (slots.Uninit ∷ ss) zero name go h k = refl
does_local puts on fs f w (slots.Cell x ∷ ss) zero name go h k = k x
does_local puts on fs f w (s ∷ ss) (suc l) name go h k = does_local puts on fs f w ss l name go (omega arith) k

length_set : (ss : List Slot) (i : ℕ) (s : Slot) → length (slice_set ss i s) ≡ length ss
length_set [] i s = refl
length_set (a ∷ ss) zero s = refl
length_set (a ∷ ss) (suc i) s = ap suc (length_set ss i s)

does_op : (S : Setting) (count : ℕ) (op : Op) (is : List Imm) (b : Body) (fs : List Flavour) (f : Frame) (w : World) → FitsOperands count op is
    → length f.locals ≡ count → AreOfFlavours f.stack fs → Does (op_pops op is) (op_pushes op is) (op_goes_on op) (op_throws op) fs f (perform S op is b f w)
does_op S count ops.Null is b fs f w i l h = (refl, refl, (tt, h), refl, refl, refl)
does_op S count ops.True is b fs f w i l h = (refl, refl, (tt, h), refl, refl, refl)
does_op S count ops.False is b fs f w i l h = (refl, refl, (tt, h), refl, refl, refl)
does_op S count ops.Int is b fs f w i l h = (refl, refl, (tt, h), refl, refl, refl)
does_op S count ops.PopC is b fs f w i l h = does_cell [] true false f w f.stack fs _ h (λ x rest more k all. (refl, refl, k, refl, refl, refl))
does_op S count ops.SetL is b fs f w i l h =
    does_cell (C ∷ []) true false f w f.stack fs _ h
    (λ x rest more k all. (refl, refl, all, refl, length_set f.locals (local_of is) (slots.Cell x), refl))
does_op S count ops.CGetL (imms.Local n ∷ []) b fs f w i l h =
    does_local (C ∷ []) true fs f w f.locals n (name_or_none (slice_get b.locals n)) _ (omega (arith, i, l))
    (λ x. (refl, refl, (tt, h), refl, refl, refl))
does_op S count ops.RetC is b fs f w i l h = does_cell [] false false f w f.stack fs _ h (λ x rest more k all. tt)
does_op S count _ is b fs f w i l h = absurd i

does_code : (S : Setting) (count : ℕ) (c : Code) (b : Body) (fs : List Flavour) (f : Frame) (w : World) → FitsCode count c → length f.locals ≡ count
    → AreOfFlavours f.stack fs → Does (pops c) (pushes c) (goes_on c) (throws c) fs f (perform_code S (Some c) b f w)
does_code S count (kinds.Plain i) b fs f w fits l h = does_op S count i.op i.imms b fs f w fits l h
does_code S count (kinds.Member m) b fs f w fits l h = absurd fits

-- each code fits, and each position passes
pub record Keeps (r : Linked) : Type 0 where
  pub codes : (n : ℕ) (b : Body) → body_at r n ≡ Some b → (p : ℕ) (c : Code) → code_at b p ≡ Some c → FitsCode (length b.locals) c
  pub starts : (n : ℕ) (b : Body) → body_at r n ≡ Some b → 0 < length b.positions
  pub passes : (n : ℕ) (b : Body) → body_at r n ≡ Some b → (p : ℕ) → p < length b.positions → Passes b p

module _ (S : Setting) (keeps : Keeps S.repo) where
  abbrev goes_with : Frame → Shape → World → Turn → Type 0
  goes_with f s w t = GoesWith S.repo (by_shapes S) (tt {0}) f s w t

  next_edge : (b : Body) (p : ℕ) (c : Code) → code_at b p ≡ Some c → goes_on c ≡ true → slice_get (edges b p) 0 ≡ Some (Next (suc p))
  next_edge b p c at on = rw (at, on) refl

  handler_edge : (b : Body) (p : ℕ) (c : Code) (q : ℕ) → code_at b p ≡ Some c → throws c ≡ true → handler_of b p ≡ Some q
      → (i : ℕ) × (slice_get (edges b p) i ≡ Some (Handler q))
  handler_edge b p c q at may is =
      let front : List Edge = next_edges (goes_on c) p ++ map (λ q. To q) (labels c) in
      (length front, rw (at, may, is) (slice_last front (Handler q)))

  by_turn : (f : Frame) (s : Shape) (w : World) (b : Body) (c : Code) → body_at S.repo f.body ≡ Some b → code_at b f.position ≡ Some c
      → iter_use c ≡ None → IsOfShape S.repo f s → (t : Turn) → Does (pops c) (pushes c) (goes_on c) (throws c) s.stack f t → goes_with f s w t
  by_turn f s w b c is at none h (Goes g v) k = record {
    fits = (
      behind c s,
      record {
        body = b;
        at = is;
        place = 0;
        edge = Next (suc f.position);
        there = next_edge b f.position c at k.5;
        leads = k.1;
        shape = ap (λ o. hands_on o s (Next (suc f.position))) (sym at);
      },
      record {
        locals = λ x e. k.4 ∙ h.locals x (subst (λ n. body_at S.repo n ≡ Some x) k.0 e);
        stack = k.2;
        iters =
            subst (λ is. AreLive is (live_next (iter_use c) s.live)) (sym k.3)
            (subst (λ u. AreLive f.iters (live_next u s.live)) (sym none) h.iters);
      },
      k.0,
    );
    grows = tt;
    takes = λ G b t u. tt;
  }
  by_turn f s w b c is at none h (Calls g v) k = absurd k
  by_turn f s w b c is at none h (Returns x v) k = record { fits = tt; grows = tt; takes = λ G b t u. tt }
  by_turn f s w b c is at none h (Raises e v) k = record {
    fits = (tt, record { body = b; at = is; code = c; there = at; may = k });
    grows = tt;
    takes = λ G b t u. tt;
  }
  by_turn f s w b c is at none h (Ends (Fails name) v) k = record { fits = tt; grows = tt; takes = λ G b t u. tt }
  by_turn f s w b c is at none h (Ends (Sticks why) v) k = record {
    fits = λ has.
        let x : b ≡ has.body = let e = sym is ∙ has.at in cc in
        let y : has.code ≡ c = let e = sym has.there ∙ subst (λ b. code_at b f.position ≡ Some c) x at in cc in
        k (subst (λ c. nat_le (length (pops c)) (length s.stack) ≡ true) y has.enough) (subst (λ c. agree (pops c) s.stack ≡ true) y has.agrees);
    grows = tt;
    takes = λ G b t u. tt;
  }

  at_code : (f : Frame) (s : Shape) (w : World) (b : Body) → body_at S.repo f.body ≡ Some b → (o : Option Code) → code_at b f.position ≡ o
      → IsOfShape S.repo f s → goes_with f s w (perform_code S o b f w)
  at_code f s w b is None at h = record {
    fits = λ has.
        let x : b ≡ has.body = let e = sym is ∙ has.at in cc in
        let e = sym (subst (λ b. code_at b f.position ≡ None) x at) ∙ has.there in absurd (cc);
    grows = tt;
    takes = λ G b t u. tt;
  }
  at_code f s w b is (Some c) at h =
      let fits = keeps.codes f.body b is f.position c at in
      by_turn f s w b c is at (no_iter (length b.locals) c fits) h (perform_code S (Some c) b f w)
      (does_code S (length b.locals) c b s.stack f w fits (h.locals b is) h.stack)

  at_body : (f : Frame) (s : Shape) (w : World) (o : Option Body) → body_at S.repo f.body ≡ o → IsOfShape S.repo f s → goes_with f s w (turn_in S o f w)
  at_body f s w None is h = record { fits = λ has. let e = sym is ∙ has.at in absurd (cc); grows = tt; takes = λ G b t u. tt }
  at_body f s w (Some b) is h = at_code f s w b is (code_at b f.position) refl h

  caught_led : (f : Frame) (s : Shape) (w : World) (e : Cell) (g : Frame) (may : MayThrowAt S.repo f.body f.position) (o : Option ℕ)
      → handler_of may.body f.position ≡ o → IsOfShape S.repo f s
      → option_map (λ q. record f { position = q; stack = slots.Cell e ∷ [] }) o ≡ Some g → Led S.repo (by_shapes S) (tt {0}) f s g w
  caught_led f s w e g may None at h is = absurd (cc)
  caught_led f s w e g may (Some q) at h is =
      let here : record f { position = q; stack = slots.Cell e ∷ [] } ≡ g = cc in
      let edge = handler_edge may.body f.position may.code q may.there may.may at in
      subst (λ g. Led S.repo (by_shapes S) (tt {0}) f s g w) here (
        caught_shape s,
        record {
          body = may.body;
          at = may.at;
          place = edge.0;
          edge = Handler q;
          there = edge.1;
          leads = refl;
          shape = ap (λ o. hands_on o s (Handler q)) (sym may.there);
        },
        record { locals = h.locals; stack = (tt, tt); iters = h.iters },
        refl,
      )

  pub shape_laws : Laws S.repo (by_shapes S)
  shape_laws = record {
    grows_itself = λ w. tt;
    holds_grows = λ f s v w g h. h;
    holds_below = λ f s t w e h. subst (λ s. IsOfShape S.repo f s) e h;
    turns = λ F f s w shares h. at_body f s w (body_at S.repo f.body) refl h;
    catches = λ F f s w e g h raised may is.
        caught_led f s w e g may (handler_of may.body f.position) refl h
        (subst (λ o. option_map (λ q. record f { position = q; stack = slots.Cell e ∷ [] }) (handler_in o f.position) ≡ Some g) may.at is);
  }

  -- the shapes of all positions of all bodies
  abbrev pub tables : List (List (Option Shape))
  tables = map (λ (b : Body). map (λ s. Some s) (shapes b (length b.positions))) (bodies S.repo)

  -- what a table has is the shape that is given
  pub record Stands (n p : ℕ) (s : Shape) : Type 0 where
    pub body : Body
    pub at : body_at S.repo n ≡ Some body
    pub inside : p < length body.positions
    pub given : s ≡ given body p

  pub stands : (n p : ℕ) (s : Shape) → At S.repo (by_shapes S) tables n p s → Stands n p s
  stands n p s at =
      let b = from_map (λ (b : Body). map (λ s. Some s) (shapes b (length b.positions))) (bodies S.repo) n at.0 at.1 in
      let x = from_map (λ s. Some s) (shapes b.0 (length b.0.positions)) p (Some s) (subst (λ T. slice_get T p ≡ Some (Some s)) (sym b.2) at.2) in
      let y : x.0 ≡ s = let e = x.2 in cc in
      let w = shape_at b.0 (length b.0.positions) p x.0 x.1 in
      record { body = b.0; at = b.1; inside = w.0; given = sym y ∙ w.1 }

  at_given : (n p : ℕ) (b : Body) → body_at S.repo n ≡ Some b → p < length b.positions → At S.repo (by_shapes S) tables n p (given b p)
  at_given n p b is l = (
    map (λ s. Some s) (shapes b (length b.positions)),
    to_map (λ (b : Body). map (λ s. Some s) (shapes b (length b.positions))) (bodies S.repo) n b is,
    to_map (λ s. Some s) (shapes b (length b.positions)) p (given b p) (shape_there b (length b.positions) p l),
  )

  handed_on : (n p : ℕ) (s : Shape) (q : ℕ) (t : Shape) → Stands n p s → HandsOn S.repo n p s q t
      → (u : Shape) × At S.repo (by_shapes S) tables n q u × (t ≡ u)
  handed_on n p s q t here to =
      let same : to.body ≡ here.body = let e = sym to.at ∙ here.at in cc in
      let there = subst (λ b. slice_get (edges b p) to.place ≡ Some to.edge) same to.there in
      let pass = (keeps.passes n here.body here.at p here.inside).edge to.place to.edge there in (
        given here.body (target to.edge),
        subst (λ q. At S.repo (by_shapes S) tables n q (given here.body (target to.edge))) (sym to.leads) (at_given n (target to.edge) here.body here.at pass.inside),
        to.shape ∙ ap (λ b. after b p s to.edge) same ∙ ap (λ s. after here.body p s to.edge) here.given ∙ pass.same,
      )

  pub shapes_solve : IsRoundBy S.repo (by_shapes S) (tt {0}) tables (tt {0})
  shapes_solve = record {
    begins = tt;
    solve = record {
      enters = λ n is. (
        given is.0 0,
        at_given n 0 is.0 is.1 (keeps.starts n is.0 is.1),
        ap entry_shape is.1,
      );
      closed = λ n p s q t at to. handed_on n p s q t (stands n p s at) to;
    };
    gives = λ n p s at c w m. tt;
    takes = λ n p s at. tt;
  }
