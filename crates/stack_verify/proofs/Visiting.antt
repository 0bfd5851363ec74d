-- A walk that visits a position: the shape that the position has, its checks, and what the table knows then.
use Rattle.std.proofs.Common.{◌≡◌, ◌⊎◌, inl, inr, ℕ, suc, ◌<◌, ◌≤◌, refl, sym, ◌∙◌, ap, subst, Bool, true, false, ◌&&◌, nat_le, Option, Some, None, Result, Ok, Err, List, [], ◌∷◌, ◌++◌, slice_get, slice_set, length, arith, append_assoc, leb-true}
use Rattle.hhbc_repo.specs.declared.body.Body.{Body}
use Rattle.hhbc_repo.specs.declared.body.Position.{Position}
use Rattle.hhbc_repo.specs.declared.code.Code.{Code}
use Rattle.hhbc_repo.specs.Bodies.{code_of, code_at, asserts_of}
use Rattle.hhbc_repo.specs.Codes.{pops, iter_use, slots_read}
use Rattle.hhbc_repo.specs.Edges.{Edge, target, edges, edges_of, handler_of}
use Rattle.flow_regions.specs.EdgeLists.{edges_from}
use Rattle.hhbc_repo.specs.Shapes.{Shape, ShapeKind, Check, given, unled, edge_to, after, hands_on, first_fault, edge_checks, all_edge_checks, iter_checks, iter_use_of, reaches, all_within, all_cells, agree, pops_of, slots_read_of, Underflow, WrongFlavour}
use Rattle.stack_verify.specs.declared.shape.Stop.{Stop}
use Rattle.stack_verify.specs.declared.shape.Stop.TheVariants.{Fails, NoMemory}
use Rattle.stack_verify.specs.Effects.{checks_on}
use Rattle.stack_verify.specs.Kept.{StopsBy, kind_of}
use Rattle.stack_verify.specs.Walk.{Table, known, and_then, led, led_all, settled, settles, IsUnled, Ready, own_fault, StopsAs}
use Rattle.stack_verify.proofs.LayoutRule.{unled_given, none_gives}
use Rattle.stack_verify.proofs.Following.{IsOpen, Follows, led_ok, led_err, first_then, first_fails, set_here, set_elsewhere, set_length, same_or_not}
use Rattle.stack_verify.proofs.Stopping.{front_stops, as_same}

code_here : (b : Body) (p : ℕ) (x : Position) → slice_get b.positions p ≡ Some x → code_at b p ≡ Some x.code
code_here b p x e = ap code_of e

along_edges : (b : Body) (p : ℕ) (x : Position) (s : Shape) (o : Option ℕ) (T : Table) → slice_get b.positions p ≡ Some x → o ≡ handler_of b p
    → led_all (hands_on (Some x.code) s) (edges_from x.code p o) T ≡ led_all (hands_on (code_at b p) s) (edges b p) T
along_edges b p x s o T e h =
    ap (λ o. led_all (hands_on (Some x.code) s) (edges_from x.code p o) T) h
    ∙ ap (λ (o : Option Code). led_all (hands_on o s) (edges_of o b p) T) (sym (code_here b p x e))

append_none : {A : Type 0} (xs : List A) → xs ++ [] ≡ xs
append_none [] = refl
append_none (x ∷ xs) = ap (λ ys. x ∷ ys) (append_none xs)

-- all edges were followed
follows_all : (b : Body) (n : ℕ) (done : List Edge) (T : Table) → Follows b n done [] T → Ready b (suc n) T
follows_all b n done T h = record { count = h.count; row = λ q l. by_case q (h.row q l) }
  where
    by_case : (q : ℕ) → (slice_get T q ≡ Some (Some (given b q))) ⊎ ((slice_get T q ≡ Some None) × IsOpen b n done q)
        → (slice_get T q ≡ Some (Some (given b q))) ⊎ ((slice_get T q ≡ Some None) × IsUnled b (suc n) q)
    by_case q (inl w) = inl w
    by_case q (inr w) =
        let l = w.1.later in
        inr (
          w.0,
          record {
            later = omega (arith, l);
            behind_first = omega (arith, l);
            unled = none_gives b n q w.1.unled (ap (edge_to q) (h.split ∙ append_none done) ∙ w.1.no_edge);
          },
        )

pub record Passed (b : Body) (n : ℕ) (es : List Edge) (V : Table) : Type 0 where
  pub passes : first_fault (all_edge_checks b n (given b n) es) ≡ None
  pub ready : Ready b (suc n) V

edges_ok : (b : Body) (n : ℕ) (done es : List Edge) (T V : Table) → Follows b n done es T → led_all (after b n (given b n)) es T ≡ Ok V → Passed b n es V
edges_ok b n done [] T V h f = let e : T ≡ V = cc in record { passes = refl; ready = subst (λ T. Ready b (suc n) T) e (follows_all b n done T h) }
edges_ok b n done (e ∷ es) T V h f = by_case (led T (after b n (given b n) e) (target e)) refl f (λ U. edges_ok b n (done ++ e ∷ []) es U V)
  where
    by_case : (w : Result Table ShapeKind) → led T (after b n (given b n) e) (target e) ≡ w → and_then w (led_all (after b n (given b n)) es) ≡ Ok V
        → ((U : Table) → Follows b n (done ++ e ∷ []) es U → led_all (after b n (given b n)) es U ≡ Ok V → Passed b n es V)
        → Passed b n (e ∷ es) V
    by_case (Err k) i f ih = absurd (cc)
    by_case (Ok U) i f ih =
        let m = led_ok b n done es e T U h i in
        let w = ih U m.follows f in
        record {
          passes = first_then (edge_checks b (after b n (given b n) e) (target e)) (all_edge_checks b n (given b n) es) m.passes ∙ w.passes;
          ready = w.ready;
        }

edges_err : (b : Body) (n : ℕ) (done es : List Edge) (T : Table) (k : ShapeKind) → Follows b n done es T → led_all (after b n (given b n)) es T ≡ Err k
    → first_fault (all_edge_checks b n (given b n) es) ≡ Some k
edges_err b n done [] T k h f = absurd (cc)
edges_err b n done (e ∷ es) T k h f = by_case (led T (after b n (given b n) e) (target e)) refl f (λ U. edges_err b n (done ++ e ∷ []) es U k)
  where
    by_case : (w : Result Table ShapeKind) → led T (after b n (given b n) e) (target e) ≡ w → and_then w (led_all (after b n (given b n)) es) ≡ Err k
        → ((U : Table) → Follows b n (done ++ e ∷ []) es U → led_all (after b n (given b n)) es U ≡ Err k → first_fault (all_edge_checks b n (given b n) es) ≡ Some k)
        → first_fault (edge_checks b (after b n (given b n) e) (target e) ++ all_edge_checks b n (given b n) es) ≡ Some k
    by_case (Err j) i f ih =
        let g : j ≡ k = cc in
        first_fails (edge_checks b (after b n (given b n) e) (target e)) (all_edge_checks b n (given b n) es) k
        (subst (λ k. first_fault (edge_checks b (after b n (given b n) e) (target e)) ≡ Some k) g (led_err b n done es e T j h i))
    by_case (Ok U) i f ih =
        let m = led_ok b n done es e T U h i in
        first_then (edge_checks b (after b n (given b n) e) (target e)) (all_edge_checks b n (given b n) es) m.passes ∙ ih U m.follows f

-- a position that is visited when the walk has passed all before it
pub record Visit (b : Body) (p : ℕ) (x : Position) (T : Table) : Type 0 where
  pub ready : Ready b p T
  pub place : p < length b.positions
  pub here : slice_get b.positions p ≡ Some x

pub is_given : (b : Body) (p : ℕ) (x : Position) (T : Table) → Visit b p x T → settled b p (known (slice_get T p)) ≡ given b p
is_given b p x T v = by_case (v.ready.row p v.place)
  where
    by_case : (slice_get T p ≡ Some (Some (given b p))) ⊎ ((slice_get T p ≡ Some None) × IsUnled b p p) → settled b p (known (slice_get T p)) ≡ given b p
    by_case (inl w) = ap (λ o. settled b p (known o)) w
    by_case (inr w) = ap (λ o. settled b p (known o)) w.0 ∙ sym (unled_given b p w.1.behind_first w.1.unled)

follows_none : (b : Body) (p : ℕ) (x : Position) (T : Table) → Visit b p x T → Follows b p [] (edges b p) (settles b p (known (slice_get T p)) T)
follows_none b p x T v = by_case (v.ready.row p v.place)
  where
    others : (q : ℕ) → (p ≡ q → ⊥) → (slice_get T q ≡ Some (Some (given b q))) ⊎ ((slice_get T q ≡ Some None) × IsUnled b p q)
        → (slice_get T q ≡ Some (Some (given b q))) ⊎ ((slice_get T q ≡ Some None) × IsOpen b p [] q)
    others q d (inl w) = inl w
    others q d (inr w) = let l = w.1.later in inr (w.0, record { later = behind l; unled = w.1.unled; no_edge = refl })
      where
        behind : p ≤ q → p < q
        behind l = grind arith

    row_same : slice_get T p ≡ Some (Some (given b p)) → (q : ℕ) → q < length b.positions → (p ≡ q) ⊎ (p ≡ q → ⊥)
        → (slice_get T q ≡ Some (Some (given b q))) ⊎ ((slice_get T q ≡ Some None) × IsOpen b p [] q)
    row_same w q l (inl d) = inl (subst (λ q. slice_get T q ≡ Some (Some (given b q))) d w)
    row_same w q l (inr d) = others q d (v.ready.row q l)

    row_set : unled b p ≡ given b p → (q : ℕ) → q < length b.positions → (p ≡ q) ⊎ (p ≡ q → ⊥)
        → (slice_get (slice_set T p (Some (unled b p))) q ≡ Some (Some (given b q))) ⊎ ((slice_get (slice_set T p (Some (unled b p))) q ≡ Some None) × IsOpen b p [] q)
    row_set g q l (inl d) =
        let c = v.ready.count in
        let m = v.place in
        inl (subst (λ q. slice_get (slice_set T p (Some (unled b p))) q ≡ Some (Some (given b q))) d (set_here T p (Some (unled b p)) (omega (arith, c, m)) ∙ ap (λ s. Some (Some s)) g))
    row_set g q l (inr d) =
        subst (λ (o : Option (Option Shape)). (o ≡ Some (Some (given b q))) ⊎ ((o ≡ Some None) × IsOpen b p [] q))
        (sym (set_elsewhere T p q (Some (unled b p)) d)) (others q d (v.ready.row q l))

    by_case : (slice_get T p ≡ Some (Some (given b p))) ⊎ ((slice_get T p ≡ Some None) × IsUnled b p p)
        → Follows b p [] (edges b p) (settles b p (known (slice_get T p)) T)
    by_case (inl w) =
        subst (λ o. Follows b p [] (edges b p) (settles b p (known o) T)) (sym w)
        (record { split = refl; count = v.ready.count; row = λ q l. row_same w q l (same_or_not p q) })
    by_case (inr w) =
        subst (λ o. Follows b p [] (edges b p) (settles b p (known o) T)) (sym w.0)
        (record {
          split = refl;
          count = set_length T p (Some (unled b p)) ∙ v.ready.count;
          row = λ q l. row_set (sym (unled_given b p w.1.behind_first w.1.unled)) q l (same_or_not p q);
        })

-- the checks of the position, those of its edges last
own_is : (b : Body) (p : ℕ) (x : Position) → slice_get b.positions p ≡ Some x
    → own_fault b p ≡ first_fault ((checks_on x (given b p).stack ++ iter_checks (iter_use x.code) (given b p).live) ++ all_edge_checks b p (given b p) (edges b p))
own_is b p x e =
    ap (λ (o : Option Position). first_fault (at_position o ++ (iter_checks (iter_use_of (code_of o)) (given b p).live ++ all_edge_checks b p (given b p) (edges b p)))) e
    ∙ ap first_fault (sym (append_assoc (checks_on x (given b p).stack) (iter_checks (iter_use x.code) (given b p).live) (all_edge_checks b p (given b p) (edges b p))))
  where
    at_position : Option Position → List Check
    at_position o = (
      Underflow,
      reaches (asserts_of o) (length (given b p).stack)
          && (nat_le (length (pops_of (code_of o))) (length (given b p).stack) && all_within (slots_read_of (code_of o)) (length (given b p).stack)),
    )
        ∷ (WrongFlavour, agree (pops_of (code_of o)) (given b p).stack && all_cells (slots_read_of (code_of o)) (given b p).stack)
        ∷ []

-- enough slots, where these checks pass
both : (a c : Bool) → (a && c) ≡ true → (a ≡ true) × (c ≡ true)
both true c h = (refl, h)
both false c h = absurd (cc)

pub enough : (x : Position) (s : Shape) (more : List Check) → first_fault (checks_on x s.stack ++ more) ≡ None → length (pops x.code) ≤ length s.stack
enough x s more h =
    let t = passes Underflow _ ((WrongFlavour, agree (pops x.code) s.stack && all_cells (slots_read x.code) s.stack) ∷ more) h in
    leb-true _ _ (both _ _ (both _ _ t).1).0
  where
    passes : (k : ShapeKind) (t : Bool) (cs : List Check) → first_fault ((k, t) ∷ cs) ≡ None → t ≡ true
    passes k true cs h = refl
    passes k false cs h = absurd (cc)

-- the position was visited: its checks pass
pub record Visited (b : Body) (p : ℕ) (V : Table) : Type 0 where
  pub passes : own_fault b p ≡ None
  pub ready : Ready b (suc p) V

pub visit_ok : (b : Body) (p : ℕ) (x : Position) (T U V : Table) (s : Shape) (o : Option ℕ) → Visit b p x T → s ≡ given b p → o ≡ handler_of b p
    → U ≡ settles b p (known (slice_get T p)) T
    → first_fault (checks_on x s.stack ++ iter_checks (iter_use x.code) s.live) ≡ None
    → led_all (hands_on (Some x.code) s) (edges_from x.code p o) U ≡ Ok V → Visited b p V
visit_ok b p x T U V s o v g h u c f =
    let f' = subst (λ (s : Shape). led_all (hands_on (Some x.code) s) (edges_from x.code p o) U ≡ Ok V) g f in
    let c' = subst (λ (s : Shape). first_fault (checks_on x s.stack ++ iter_checks (iter_use x.code) s.live) ≡ None) g c in
    let n = subst (λ U. Follows b p [] (edges b p) U) (sym u) (follows_none b p x T v) in
    let w = edges_ok b p [] (edges b p) U V n (sym (along_edges b p x (given b p) o U v.here h) ∙ f') in
    record {
      passes =
          own_is b p x v.here
          ∙ first_then (checks_on x (given b p).stack ++ iter_checks (iter_use x.code) (given b p).live) (all_edge_checks b p (given b p) (edges b p)) c'
          ∙ w.passes;
      ready = w.ready;
    }

pub check_stops : (b : Body) (p : ℕ) (x : Position) (s : Shape) (stop : Stop) → slice_get b.positions p ≡ Some x → s ≡ given b p
    → StopsAs (first_fault (checks_on x s.stack ++ iter_checks (iter_use x.code) s.live)) stop → StopsAs (own_fault b p) stop
check_stops b p x s stop e g h =
    let h' = subst (λ (s : Shape). StopsAs (first_fault (checks_on x s.stack ++ iter_checks (iter_use x.code) s.live)) stop) g h in
    as_same _ _ stop (own_is b p x e)
    (front_stops (checks_on x (given b p).stack ++ iter_checks (iter_use x.code) (given b p).live) (all_edge_checks b p (given b p) (edges b p)) stop h')

pub edge_stops : (b : Body) (p : ℕ) (x : Position) (T U : Table) (s : Shape) (o : Option ℕ) (stop : Stop) → Visit b p x T → s ≡ given b p → o ≡ handler_of b p
    → U ≡ settles b p (known (slice_get T p)) T
    → first_fault (checks_on x s.stack ++ iter_checks (iter_use x.code) s.live) ≡ None
    → StopsBy (led_all (hands_on (Some x.code) s) (edges_from x.code p o) U) stop → StopsAs (own_fault b p) stop
edge_stops b p x T U s o NoMemory v g h u c f = tt
edge_stops b p x T U s o (Fails k) v g h u c f =
    let f' = subst (λ (s : Shape). led_all (hands_on (Some x.code) s) (edges_from x.code p o) U ≡ Err (kind_of k)) g f in
    let c' = subst (λ (s : Shape). first_fault (checks_on x s.stack ++ iter_checks (iter_use x.code) s.live) ≡ None) g c in
    let n = subst (λ U. Follows b p [] (edges b p) U) (sym u) (follows_none b p x T v) in
    own_is b p x v.here
    ∙ first_then (checks_on x (given b p).stack ++ iter_checks (iter_use x.code) (given b p).live) (all_edge_checks b p (given b p) (edges b p)) c'
    ∙ edges_err b p [] (edges b p) U (kind_of k) n (sym (along_edges b p x (given b p) o U v.here h) ∙ f')
