-- Given shapes keep the laws of an analysis.
use Rattle.std.proofs.Common.{◌≡◌, ℕ, zero, suc, ◌⊎◌, inl, inr, ◌<◌, refl, sym, ◌∙◌, ap, subst, Bool, true, false, nat_le, Option, Some, None, option_map, List, [], ◌∷◌, ◌++◌, map, drop, replicate, slice_get, slice_set, length}
use Rattle.std.proofs.lemmas.List.{length-replicate}
use Rattle.hack_values.specs.declared.cell.Cell.{Cell}
use Rattle.hack_values.specs.declared.cell.Slot.{Slot}
use Rattle.hack_values.specs.declared.cell.Slot.TheVariants as slots
use Rattle.hhbc_ops.specs.declared.words.Flavour.{Flavour}
use Rattle.hhbc_ops.specs.declared.words.Flavour.TheVariants.{C}
use Rattle.hhbc_repo.specs.declared.code.Code.{Code}
use Rattle.hhbc_repo.specs.declared.body.Body.{Body}
use Rattle.hhbc_repo.specs.Bodies.{bodies, body_at, code_at}
use Rattle.hhbc_repo.specs.Codes.{IterUse, Begin, Advance, Free, pops, pushes, slots_read, iter_use, throws, goes_on, labels}
use Rattle.hhbc_repo.specs.Edges.{Edge, Next, To, Handler, target, edges, next_edges, handler_edges, handler_of}
use Rattle.hhbc_repo.specs.Shapes.{Shape, AllPass, agree, after, behind, at_label, hands_on, caught_shape, given, shapes, stack_left, pops_of, slots_read_of, iter_use_of, all_within, all_cells, iter_checks, live_next, live_to}
use Rattle.hhbc_repo.specs.Within.{bounds_of, code_within}
use Rattle.hhbc_repo.proofs.Elements.{slice_last, before_last, from_map, to_map}
use Rattle.hhbc_semantics.specs.Setting.{Setting}
use Rattle.hhbc_semantics.specs.Frames.{World, Frame, Turn, Goes, Calls, Returns, Raises, Ends, Fails, Sticks}
use Rattle.hhbc_semantics.specs.Machine.{turn, turn_in, perform_code}
use Rattle.hhbc_semantics.specs.Steps.{after_call, call_pops, pop_count, handler_in}
use Rattle.hhbc_semantics.specs.Soundness.{MayThrowAt, Led, GoesWith, Laws, IsRoundBy, At}
use Rattle.hhbc_semantics.specs.ShapeAnalysis.{AreOfFlavours, AreLive, HandsOn, entry_shape}
use Rattle.hhbc_semantics.specs.ShapeRows.{Does, Fits, IsReady, KeepsShape, IsNext, IsAtLabel, IsEntered}
use Rattle.hhbc_semantics.specs.GivenShapes.{IsGiven, HasGiven, by_given}
use Rattle.hhbc_semantics.proofs.Walking.{there, code_is}
use Rattle.hhbc_semantics.proofs.ShapeTables.{shape_at, shape_there, Passes}

-- each code has its operands and keeps shapes, and each position passes
pub record Keeps (S : Setting) (classes : ℕ) : Type 0 where
  pub codes : (n : ℕ) (b : Body) → body_at S.repo n ≡ Some b → (p : ℕ) (c : Code) → code_at b p ≡ Some c → code_within (bounds_of classes b) c ≡ true
  pub shapes : (c : Code) → KeepsShape S.repo classes c (λ b f w. perform_code S (Some c) b f w)
  pub starts : (n : ℕ) (b : Body) → body_at S.repo n ≡ Some b → 0 < length b.positions
  pub passes : (n : ℕ) (b : Body) → body_at S.repo n ≡ Some b → (p : ℕ) → p < length b.positions → Passes b p

set_length : (xs : List Bool) (i : ℕ) (x : Bool) → length (slice_set xs i x) ≡ length xs
set_length [] i x = refl
set_length (y ∷ xs) zero x = refl
set_length (y ∷ xs) (suc i) x = ap suc (set_length xs i x)

next_length : (u : Option IterUse) (live : List Bool) → length (live_next u live) ≡ length live
next_length None live = refl
next_length (Some (Begin i)) live = set_length live i true
next_length (Some (Advance i)) live = set_length live i false
next_length (Some (Free i)) live = set_length live i false

to_length : (u : Option IterUse) (live : List Bool) → length (live_to u live) ≡ length live
to_length None live = refl
to_length (Some (Begin i)) live = set_length live i false
to_length (Some (Advance i)) live = set_length live i true
to_length (Some (Free i)) live = set_length live i false

live_length : (is : List (Option (List (Cell × Cell)))) (live : List Bool) → AreLive is live → length is ≡ length live
live_length [] [] h = refl
live_length [] (b ∷ live) h = absurd h
live_length (None ∷ is) [] h = absurd h
live_length (Some x ∷ is) [] h = absurd h
live_length (None ∷ is) (true ∷ live) h = absurd h
live_length (None ∷ is) (false ∷ live) h = ap suc (live_length is live h)
live_length (Some x ∷ is) (true ∷ live) h = ap suc (live_length is live h)
live_length (Some x ∷ is) (false ∷ live) h = absurd h

pub none_live : (n : ℕ) → AreLive (replicate n None) (replicate n false)
none_live zero = tt
none_live (suc n) = none_live n

drop_flavours : (n : ℕ) (ss : List Slot) (fs : List Flavour) → AreOfFlavours ss fs → AreOfFlavours (drop n ss) (drop n fs)
drop_flavours zero ss fs h = h
drop_flavours (suc n) [] [] h = h
drop_flavours (suc n) [] (x ∷ fs) h = absurd h
drop_flavours (suc n) (s ∷ ss) [] h = absurd h
drop_flavours (suc n) (s ∷ ss) (x ∷ fs) h = drop_flavours n ss fs h.1

behind_front : {A : Type 0} (xs ys : List A) (p : ℕ) (y : A) → slice_get ys p ≡ Some y → (i : ℕ) × (slice_get (xs ++ ys) i ≡ Some y)
behind_front [] ys p y e = (p, e)
behind_front (x ∷ xs) ys p y e = let w = behind_front xs ys p y e in (suc w.0, w.1)

module _ (S : Setting) (classes : ℕ) (keeps : Keeps S classes) where
  abbrev goes_with : Frame → Shape → World → Turn → Type 0
  goes_with f s w t = GoesWith S.repo (by_given S) (tt {0}) f s w t

  abbrev led : Frame → Shape → Frame → World → Type 0
  led f s g v = Led S.repo (by_given S) (tt {0}) f s g v

  next_edge : (b : Body) (p : ℕ) (c : Code) → code_at b p ≡ Some c → goes_on c ≡ true → slice_get (edges b p) 0 ≡ Some (Next (suc p))
  next_edge b p c at on = rw (at, on) refl

  label_edge : (b : Body) (p : ℕ) (c : Code) (i q : ℕ) → code_at b p ≡ Some c → slice_get (labels c) i ≡ Some q
      → (j : ℕ) × (slice_get (edges b p) j ≡ Some (To q))
  label_edge b p c i q at is =
      let front = next_edges (goes_on c) p in
      let w = behind_front front (map (λ q. To q) (labels c)) i (To q) (to_map (λ q. To q) (labels c) i q is) in
      (w.0, rw at (before_last (front ++ map (λ q. To q) (labels c)) (handler_edges (throws c) (handler_of b p)) w.0 (To q) w.1))

  handler_edge : (b : Body) (p : ℕ) (c : Code) (q : ℕ) → code_at b p ≡ Some c → throws c ≡ true → handler_of b p ≡ Some q
      → (i : ℕ) × (slice_get (edges b p) i ≡ Some (Handler q))
  handler_edge b p c q at may is =
      let front : List Edge = next_edges (goes_on c) p ++ map (λ q. To q) (labels c) in
      (length front, rw (at, may, is) (slice_last front (Handler q)))

  -- along an edge a frame of a given shape is led to a frame of the shape that is given there
  led_along : (f : Frame) (s : Shape) (g : Frame) (v : World) (h : HasGiven S.repo f s) (i : ℕ) (e : Edge) (t : Shape)
      → slice_get (edges h.given.body f.position) i ≡ Some e → g.position ≡ target e → g.body ≡ f.body → t ≡ after h.given.body f.position s e
      → length g.locals ≡ length f.locals → AreOfFlavours g.stack t.stack → AreLive g.iters t.live → length g.iters ≡ length f.iters → led f s g v
  led_along f s g v h i e t there leads same is locals stack iters count =
      let b = h.given.body in
      let pass = (keeps.passes f.body b h.given.at f.position h.given.inside).edge i e there in (
        t,
        record { body = b; at = h.given.at; place = i; edge = e; there = there; leads = leads; shape = is },
        record {
          shape = record {
            locals = λ x k. locals ∙ h.shape.locals x (subst (λ n. body_at S.repo n ≡ Some x) same k);
            stack = stack;
            iters = iters;
          };
          iters = λ x k. count ∙ h.iters x (subst (λ n. body_at S.repo n ≡ Some x) same k);
          given = record {
            body = b;
            at = subst (λ n. body_at S.repo n ≡ Some b) (sym same) h.given.at;
            inside = subst (λ q. q < length b.positions) (sym leads) pass.inside;
            given = is ∙ ap (λ s. after b f.position s e) h.given.given ∙ pass.same ∙ ap (given b) (sym leads);
          };
        },
        same,
      )

  -- what a turn that fits its code does
  module _ (f : Frame) (s : Shape) (h : HasGiven S.repo f s) (c : Code) (at : code_at h.given.body f.position ≡ Some c) where
    iters_kept : (g : Frame) (live : List Bool) → AreLive g.iters live → length live ≡ length s.live → length g.iters ≡ length f.iters
    iters_kept g live l e = live_length g.iters live l ∙ e ∙ sym (live_length f.iters s.live h.shape.iters)

    led_next : (g : Frame) (v : World) → goes_on c ≡ true → g.position ≡ suc f.position → g.body ≡ f.body → length g.locals ≡ length f.locals
        → AreOfFlavours g.stack (stack_left c s.stack) → AreLive g.iters (live_next (iter_use c) s.live) → led f s g v
    led_next g v on position body locals stack iters =
        led_along f s g v h 0 (Next (suc f.position)) (behind c s) (next_edge h.given.body f.position c at on) position body
        (ap (λ o. hands_on o s (Next (suc f.position))) (sym at)) locals stack iters
        (iters_kept g (live_next (iter_use c) s.live) iters (next_length (iter_use c) s.live))

    led_label : (g : Frame) (v : World) (i : ℕ) → slice_get (labels c) i ≡ Some g.position → g.body ≡ f.body → length g.locals ≡ length f.locals
        → AreOfFlavours g.stack (stack_left c s.stack) → AreLive g.iters (live_to (iter_use c) s.live) → led f s g v
    led_label g v i is body locals stack iters =
        let e = label_edge h.given.body f.position c i g.position at is in
        led_along f s g v h e.0 (To g.position) (at_label c s) e.1 refl body
        (ap (λ o. hands_on o s (To g.position)) (sym at)) locals stack iters
        (iters_kept g (live_to (iter_use c) s.live) iters (to_length (iter_use c) s.live))

    led_on : (g : Frame) (v : World) → g.body ≡ f.body → length g.locals ≡ length f.locals → AreOfFlavours g.stack (stack_left c s.stack)
        → IsNext c s.live f g ⊎ IsAtLabel c s.live g → led f s g v
    led_on g v body locals stack (inl n) = led_next g v n.on n.position body locals stack n.iters
    led_on g v body locals stack (inr n) = led_label g v n.place n.labelled body locals stack n.iters

    may_throw : throws c ≡ true → MayThrowAt S.repo f.body f.position
    may_throw e = record { body = h.given.body; at = h.given.at; code = c; there = at; may = e }

    -- a frame behind its call
    popped : call_pops (body_at S.repo f.body) f.position ≡ length (pops c)
    popped = ap (λ o. call_pops o f.position) h.given.at ∙ ap pop_count at

    led_back : (x : Cell) (u : World) → goes_on c ≡ true → pushes c ≡ C ∷ [] → iter_use c ≡ None → led f s (after_call S.repo f x) u
    led_back x u on gives idle =
        led_next (after_call S.repo f x) u on refl refl refl
        (subst (λ puts. AreOfFlavours (slots.Cell x ∷ drop (call_pops (body_at S.repo f.body) f.position) f.stack) (puts ++ drop (length (pops c)) s.stack)) (sym gives)
        (tt, subst (λ n. AreOfFlavours (drop n f.stack) (drop (length (pops c)) s.stack)) (sym popped) (drop_flavours (length (pops c)) f.stack s.stack h.shape.stack)))
        (subst (λ u. AreLive f.iters (live_next u s.live)) (sym idle) h.shape.iters)

    entered_given : (g : Frame) → (e : IsEntered S.repo g) → HasGiven S.repo g (entry_shape (body_at S.repo g.body))
    entered_given g e =
        subst (λ o. HasGiven S.repo g (entry_shape o)) (sym e.at) (record {
          shape = record {
            locals = λ x k. let same : e.body ≡ x = let j = sym e.at ∙ k in cc in e.locals ∙ ap (λ (b : Body). length b.locals) same;
            stack = subst (λ ss. AreOfFlavours ss []) (sym e.stack) tt;
            iters = subst (λ is. AreLive is (replicate e.body.iters false)) (sym e.iters) (none_live e.body.iters);
          };
          iters = λ x k.
              let same : e.body ≡ x = let j = sym e.at ∙ k in cc in
              ap length e.iters ∙ length-replicate e.body.iters None ∙ ap (λ (b : Body). b.iters) same;
          given = record {
            body = e.body;
            at = e.at;
            inside = subst (λ q. q < length e.body.positions) (sym e.position) (keeps.starts g.body e.body e.at);
            given = ap (given e.body) (sym e.position);
          };
        })

    by_turn : (w : World) (t : Turn) → Does S.repo c s.live (stack_left c s.stack) f (λ w. turn S f w) w t → goes_with f s w t
    by_turn w (Goes g v) d = record {
      fits = led_on g v d.0.body d.0.locals d.0.stack d.0.leads;
      grows = d.1;
      takes = λ G b t k. tt;
    }
    by_turn w (Calls g v) d = record {
      fits = (
        (d.0.enters.body, d.0.enters.at),
        d.0.enters.position,
        entered_given g d.0.enters,
        may_throw d.0.may,
        tt,
        (λ u grows k. d.0.again u grows),
        λ x u grows k. led_back x u d.0.on d.0.gives d.0.idle,
      );
      grows = d.1;
      takes = λ G b t k. tt;
    }
    by_turn w (Returns x v) d = record { fits = tt; grows = d; takes = λ G b t k. tt }
    by_turn w (Raises e v) d = record { fits = (tt, may_throw d.0); grows = d.1; takes = λ G b t k. tt }
    by_turn w (Ends (Fails name) v) d = record { fits = tt; grows = d; takes = λ G b t k. tt }
    by_turn w (Ends (Sticks why) v) d = absurd d

    ready : IsReady classes h.given.body c s f
    ready =
        let b = h.given.body in
        let pass = keeps.passes f.body b h.given.at f.position h.given.inside in
        record {
          within = keeps.codes f.body b h.given.at f.position c at;
          locals = h.shape.locals b h.given.at;
          stack = h.shape.stack;
          live = h.shape.iters;
          count = h.iters b h.given.at;
          enough = subst (λ (s : Shape). nat_le (length (pops c)) (length s.stack) ≡ true) (sym h.given.given)
              (subst (λ o. nat_le (length (pops_of o)) (length (given b f.position).stack) ≡ true) at pass.enough);
          agrees = subst (λ (s : Shape). agree (pops c) s.stack ≡ true) (sym h.given.given)
              (subst (λ o. agree (pops_of o) (given b f.position).stack ≡ true) at pass.agrees);
          places = subst (λ (s : Shape). all_within (slots_read c) (length s.stack) ≡ true) (sym h.given.given)
              (subst (λ o. all_within (slots_read_of o) (length (given b f.position).stack) ≡ true) at pass.places);
          are_cells = subst (λ (s : Shape). all_cells (slots_read c) s.stack ≡ true) (sym h.given.given)
              (subst (λ o. all_cells (slots_read_of o) (given b f.position).stack ≡ true) at pass.are_cells);
          iters = subst (λ (s : Shape). AllPass (iter_checks (iter_use c) s.live)) (sym h.given.given)
              (subst (λ o. AllPass (iter_checks (iter_use_of o) (given b f.position).live)) at pass.iters);
        }

    turn_fits : Fits S.repo c s.live (stack_left c s.stack) f (λ w. turn S f w)
    turn_fits =
        subst (λ o. Fits S.repo c s.live (stack_left c s.stack) f (λ w. turn_in S o f w)) (sym h.given.at)
        (subst (λ o. Fits S.repo c s.live (stack_left c s.stack) f (λ w. perform_code S o h.given.body f w)) (sym at)
        (keeps.shapes c h.given.body f s ready))

    pub goes : (w : World) → goes_with f s w (turn S f w)
    goes w = by_turn w (turn S f w) (turn_fits.does w)

  goes_given : (f : Frame) (s : Shape) (w : World) → HasGiven S.repo f s → goes_with f s w (turn S f w)
  goes_given f s w h =
      let q = there h.given.body.positions f.position h.given.inside in
      goes f s h q.0.code (code_is h.given.body f.position q.0 q.1) w

  caught_led : (f : Frame) (s : Shape) (w : World) (e : Cell) (g : Frame) (may : MayThrowAt S.repo f.body f.position) (o : Option ℕ)
      → handler_of may.body f.position ≡ o → HasGiven S.repo f s
      → option_map (λ q. record f { position = q; stack = slots.Cell e ∷ [] }) o ≡ Some g → led f s g w
  caught_led f s w e g may None at h is = absurd (cc)
  caught_led f s w e g may (Some q) at h is =
      let here : record f { position = q; stack = slots.Cell e ∷ [] } ≡ g = cc in
      let same : may.body ≡ h.given.body = let j = sym may.at ∙ h.given.at in cc in
      let edge = handler_edge may.body f.position may.code q may.there may.may at in
      subst (λ g. led f s g w) here
      (led_along f s (record f { position = q; stack = slots.Cell e ∷ [] }) w h edge.0 (Handler q) (caught_shape s)
      (subst (λ b. slice_get (edges b f.position) edge.0 ≡ Some (Handler q)) same edge.1) refl refl
      (ap (λ o. hands_on o s (Handler q)) (sym (subst (λ b. code_at b f.position ≡ Some may.code) same may.there)))
      refl (tt, tt) h.shape.iters refl)

  pub given_laws : Laws S.repo (by_given S)
  given_laws = record {
    grows_itself = λ w n c h. h;
    holds_grows = λ f s v w g h. h;
    holds_below = λ f s t w e h. subst (λ s. HasGiven S.repo f s) e h;
    turns = λ F f s w shares h. goes_given f s w h;
    catches = λ F f s w e g h raised may is.
        caught_led f s w e g may (handler_of may.body f.position) refl h
        (subst (λ o. option_map (λ q. record f { position = q; stack = slots.Cell e ∷ [] }) (handler_in o f.position) ≡ Some g) may.at is);
  }

  -- the shapes of all positions of all bodies
  abbrev pub tables : List (List (Option Shape))
  tables = map (λ (b : Body). map (λ s. Some s) (shapes b (length b.positions))) (bodies S.repo)

  pub stands : (n p : ℕ) (s : Shape) → At S.repo (by_given S) tables n p s → IsGiven S.repo n p s
  stands n p s at =
      let b = from_map (λ (b : Body). map (λ s. Some s) (shapes b (length b.positions))) (bodies S.repo) n at.0 at.1 in
      let x = from_map (λ s. Some s) (shapes b.0 (length b.0.positions)) p (Some s) (subst (λ T. slice_get T p ≡ Some (Some s)) (sym b.2) at.2) in
      let y : x.0 ≡ s = let e = x.2 in cc in
      let w = shape_at b.0 (length b.0.positions) p x.0 x.1 in
      record { body = b.0; at = b.1; inside = w.0; given = sym y ∙ w.1 }

  at_given : (n p : ℕ) (b : Body) → body_at S.repo n ≡ Some b → p < length b.positions → At S.repo (by_given S) tables n p (given b p)
  at_given n p b is l = (
    map (λ s. Some s) (shapes b (length b.positions)),
    to_map (λ (b : Body). map (λ s. Some s) (shapes b (length b.positions))) (bodies S.repo) n b is,
    to_map (λ s. Some s) (shapes b (length b.positions)) p (given b p) (shape_there b (length b.positions) p l),
  )

  handed_on : (n p : ℕ) (s : Shape) (q : ℕ) (t : Shape) → IsGiven S.repo n p s → HandsOn S.repo n p s q t
      → (u : Shape) × At S.repo (by_given S) tables n q u × (t ≡ u)
  handed_on n p s q t here to =
      let same : to.body ≡ here.body = let e = sym to.at ∙ here.at in cc in
      let there = subst (λ b. slice_get (edges b p) to.place ≡ Some to.edge) same to.there in
      let pass = (keeps.passes n here.body here.at p here.inside).edge to.place to.edge there in (
        given here.body (target to.edge),
        subst (λ q. At S.repo (by_given S) tables n q (given here.body (target to.edge))) (sym to.leads) (at_given n (target to.edge) here.body here.at pass.inside),
        to.shape ∙ ap (λ b. after b p s to.edge) same ∙ ap (λ s. after here.body p s to.edge) here.given ∙ pass.same,
      )

  pub given_solve : IsRoundBy S.repo (by_given S) (tt {0}) tables (tt {0})
  given_solve = record {
    begins = tt;
    solve = record {
      enters = λ n is. (given is.0 0, at_given n 0 is.0 is.1 (keeps.starts n is.0 is.1), ap entry_shape is.1);
      closed = λ n p s q t at to. handed_on n p s q t (stands n p s at) to;
    };
    gives = λ n p s at c w m. tt;
    takes = λ n p s at. tt;
  }
