-- A walk over all positions of a body: its first position, one after another, and what it tells at the end.
use Rattle.std.proofs.Common.{◌≡◌, ◌⊎◌, inl, inr, ℕ, zero, suc, ◌+◌, ◌*◌, ◌<◌, ◌≤◌, refl, sym, ◌∙◌, ap, subst, max, Bool, true, false, cond, not, ◌==◌, nat_le, Option, Some, None, List, [], ◌∷◌, ◌++◌, map, replicate, slice_get, slice_set, length, arith, append_assoc, eq-eqb}
use Rattle.std.proofs.lemmas.Bool.{ne_eqb}
use Rattle.std.proofs.lemmas.List.{length-replicate, map-append}
use Rattle.hhbc_repo.specs.declared.body.Body.{Body}
use Rattle.hhbc_repo.specs.Bodies.{code_at}
use Rattle.hhbc_repo.specs.Bodies.{numbers}
use Rattle.hhbc_repo.specs.Edges.{edges, handler_of}
use Rattle.flow_regions.specs.EdgeLists.{all_handlers}
use Rattle.hhbc_repo.specs.Shapes.{Shape, ShapeKind, Check, TooManyCells, empty_shape, given, shapes, deepest, cells, first_fault, fault_at, FailsAt, checks, last_checks, stack_checks, iter_checks, iter_use_of, all_edge_checks}
use Rattle.stack_verify.specs.declared.shape.Shape.{Shape as KeptShape}
use Rattle.stack_verify.specs.declared.shape.Stop.{Stop}
use Rattle.stack_verify.specs.declared.shape.Stop.TheVariants as stops
use Rattle.stack_verify.specs.declared.walk.Walk.{Walk}
use Rattle.stack_verify.specs.Kept.{kept, kind_of}
use Rattle.stack_verify.specs.Walk.{Table, IsUnled, Ready, own_checks, own_fault, StopsAs, StopsBody, BodyTypes, Walks, stopped}
use Rattle.stack_verify.proofs.Following.{first_then, first_fails, set_here, set_elsewhere, set_length, same_or_not}

abbrev pub no_shape : Option Shape
no_shape = None

none_at : (n q : ℕ) → q < n → slice_get (replicate n no_shape) q ≡ Some no_shape
none_at zero q l = absurd (omega arith)
none_at (suc n) zero l = refl
none_at (suc n) (suc q) l = none_at n q (omega arith)

-- the table that a walk begins with
pub ready_first : (b : Body) (T : Table) → T ≡ replicate (length b.positions) None → 0 < length b.positions → Ready b 0 (slice_set T 0 (Some (empty_shape b)))
ready_first b T e l = record { count = set_length T 0 (Some (empty_shape b)) ∙ long; row = λ q m. by_case q m (same_or_not 0 q) }
  where
    long : length T ≡ length b.positions
    long = ap length e ∙ length-replicate (length b.positions) None

    by_case : (q : ℕ) → q < length b.positions → (0 ≡ q) ⊎ (0 ≡ q → ⊥)
        → (slice_get (slice_set T 0 (Some (empty_shape b))) q ≡ Some (Some (given b q)))
        ⊎ ((slice_get (slice_set T 0 (Some (empty_shape b))) q ≡ Some None) × IsUnled b 0 q)
    by_case q m (inl d) =
        let k = long in
        inl (subst (λ q. slice_get (slice_set T 0 (Some (empty_shape b))) q ≡ Some (Some (given b q))) d (set_here T 0 (Some (empty_shape b)) (omega (arith, k))))
    by_case q m (inr d) =
        inr (
          set_elsewhere T 0 q (Some (empty_shape b)) d ∙ ap (λ T. slice_get T q) e ∙ none_at (length b.positions) q m,
          record { later = omega arith; behind_first = positive q d; unled = refl },
        )
      where
        positive : (q : ℕ) → (0 ≡ q → ⊥) → 0 < q
        positive zero d = absurd (d refl)
        positive (suc q) d = omega arith

pub deepest_push : (ss : List Shape) (s : Shape) → deepest (ss ++ s ∷ []) ≡ max (deepest ss) (length s.stack)
deepest_push [] s = omega arith
deepest_push (x ∷ ss) s = let i = deepest_push ss s in omega (arith, i)

-- the checks of a position, that of the last one behind the others
checks_are : (b : Body) (p : ℕ) → checks b p ≡ own_checks b p ++ last_checks b p
checks_are b p =
    let A = stack_checks b p (given b p) in
    let B = iter_checks (iter_use_of (code_at b p)) (given b p).live in
    let D = all_edge_checks b p (given b p) (edges b p) in
    sym (append_assoc A (B ++ D) (last_checks b p) ∙ ap (λ xs. A ++ xs) (append_assoc B D (last_checks b p)))

no_last : (b : Body) (p : ℕ) → (suc p ≡ length b.positions → ⊥) → last_checks b p ≡ []
no_last b p d = by_case (suc p == length b.positions) (ne_eqb (suc p) (length b.positions) d)
  where
    by_case : (t : Bool) → t ≡ false → cond {A = List Check} t ((TooManyCells, nat_le (cells b) 1000000) ∷ []) [] ≡ []
    by_case true e = absurd (cc)
    by_case false e = refl

is_last : (b : Body) (p : ℕ) → suc p ≡ length b.positions → last_checks b p ≡ (TooManyCells, nat_le (cells b) 1000000) ∷ []
is_last b p d = by_case (suc p == length b.positions) (eq-eqb (suc p) (length b.positions) d)
  where
    by_case : (t : Bool) → t ≡ true → cond {A = List Check} t ((TooManyCells, nat_le (cells b) 1000000) ∷ []) [] ≡ (TooManyCells, nat_le (cells b) 1000000) ∷ []
    by_case true e = refl
    by_case false e = absurd (cc)

pub passes_before : (b : Body) (p : ℕ) → own_fault b p ≡ None → (suc p ≡ length b.positions → ⊥) → fault_at b p ≡ None
passes_before b p h d =
    ap first_fault (checks_are b p) ∙ first_then (own_checks b p) (last_checks b p) h ∙ ap first_fault (no_last b p d)

pub fault_last : (b : Body) (p : ℕ) → own_fault b p ≡ None → suc p ≡ length b.positions
    → fault_at b p ≡ first_fault ((TooManyCells, nat_le (cells b) 1000000) ∷ [])
fault_last b p h d =
    ap first_fault (checks_are b p) ∙ first_then (own_checks b p) (last_checks b p) h ∙ ap first_fault (is_last b p d)

pub fails : (b : Body) (p : ℕ) (k : ShapeKind) → own_fault b p ≡ Some k → fault_at b p ≡ Some k
fails b p k h = ap first_fault (checks_are b p) ∙ first_fails (own_checks b p) (last_checks b p) k h

pub kept_push : (b : Body) (p : ℕ) (xs : List KeptShape) (x : KeptShape) (s : Shape) → xs ≡ map kept (shapes b p) → x ≡ kept s → s ≡ given b p
    → xs ++ x ∷ [] ≡ map kept (shapes b (suc p))
kept_push b p xs x s e f g =
    ap (λ xs. xs ++ x ∷ []) e
    ∙ ap (λ x. map kept (shapes b p) ++ x ∷ []) (f ∙ ap kept g)
    ∙ sym (map-append kept (shapes b p) (given b p ∷ []))

pub depth_push : (b : Body) (p d m : ℕ) (s : Shape) → d ≡ deepest (shapes b p) → s ≡ given b p → m ≡ max d (length s.stack) → m ≡ deepest (shapes b (suc p))
depth_push b p d m s e g f =
    f ∙ ap (λ d. max d (length s.stack)) e
    ∙ ap (λ (s : Shape). max (deepest (shapes b p)) (length s.stack)) g
    ∙ sym (deepest_push (shapes b p) (given b p))

pub pass_next : (b : Body) (p : ℕ) → ((q : ℕ) → q < p → own_fault b q ≡ None) → own_fault b p ≡ None → (q : ℕ) → q < suc p → own_fault b q ≡ None
pass_next b p h e q l = by_case (same_or_not p q)
  where
    by_case : (p ≡ q) ⊎ (p ≡ q → ⊥) → own_fault b q ≡ None
    by_case (inl d) = subst (λ q. own_fault b q ≡ None) d e
    by_case (inr d) = h q (below l d)
      where
        below : q < suc p → (p ≡ q → ⊥) → q < p
        below l d = grind arith

earlier : (b : Body) (n p : ℕ) → p < length b.positions → p ≤ n → ((q : ℕ) → q < n → own_fault b q ≡ None) → (q : ℕ) → q < p → fault_at b q ≡ None
earlier b n p l i h q m = passes_before b q (h q (omega (arith, i, m))) (λ e. absurd (omega (arith, e, l, m)))

pub stops_here : (b : Body) (p : ℕ) (w : Walk) (stop : Stop) → Walks b p w → p < length b.positions → StopsAs (own_fault b p) stop → StopsBody b (stopped p stop)
stops_here b p w (stops.Fails k) h l f = (inr (l, fails b p (kind_of k) f), earlier b p p l (omega arith) h.pass)
stops_here b p w stops.NoMemory h l f = tt

cells_are : (b : Body) (n : ℕ) (w : Walk) → Walks b n w → n ≡ length b.positions → length b.positions * (length b.locals + w.deepest + b.iters) ≡ cells b
cells_are b n w h e =
    ap (λ (d : ℕ). length b.positions * (length b.locals + d + b.iters)) (h.depth ∙ ap (λ n. deepest (shapes b n)) e)

one_fails : (k : ShapeKind) (t : Bool) → true ≡ not t → first_fault ((k, t) ∷ []) ≡ Some k
one_fails k true e = absurd (cc)
one_fails k false e = refl

one_passes : (k : ShapeKind) (t : Bool) → false ≡ not t → first_fault ((k, t) ∷ []) ≡ None
one_passes k true e = refl
one_passes k false e = absurd (cc)

pub ends_badly : (b : Body) (n p : ℕ) (w : Walk) → Walks b n w → n ≡ length b.positions → suc p ≡ length b.positions
    → true ≡ not (nat_le (length b.positions * (length b.locals + w.deepest + b.iters)) 1000000)
    → FailsAt b p TooManyCells × ((q : ℕ) → q < p → fault_at b q ≡ None)
ends_badly b n p w h e f t =
    let t' = subst (λ (m : ℕ). true ≡ not (nat_le m 1000000)) (cells_are b n w h e) t in (
      inr (omega (arith, f), fault_last b p (h.pass p (omega (arith, e, f))) f ∙ one_fails TooManyCells (nat_le (cells b) 1000000) t'),
      earlier b n p (omega (arith, f)) (omega (arith, e, f)) h.pass,
    )

pub ends_well : (b : Body) (n : ℕ) (w : Walk) → Walks b n w → n ≡ length b.positions → 0 < length b.positions
    → false ≡ not (nat_le (length b.positions * (length b.locals + w.deepest + b.iters)) 1000000) → BodyTypes b
ends_well b n w h e l t = record {
  has_positions = λ f. let g = ap length f in absurd (omega (arith, g, l));
  passes = λ p m. by_case p m (same_or_not (suc p) (length b.positions));
}
  where
    by_case : (p : ℕ) → p < length b.positions → (suc p ≡ length b.positions) ⊎ (suc p ≡ length b.positions → ⊥) → fault_at b p ≡ None
    by_case p m (inl d) =
        let t' = subst (λ (m : ℕ). false ≡ not (nat_le m 1000000)) (cells_are b n w h e) t in
        fault_last b p (h.pass p (omega (arith, e, m))) d ∙ one_passes TooManyCells (nat_le (cells b) 1000000) t'
    by_case p m (inr d) = passes_before b p (h.pass p (omega (arith, e, m))) d

-- the handler that is listed for a position
numbers_at : {A : Type 0} (f : ℕ → A) (first n p : ℕ) → p < n → slice_get (map f (numbers first n)) p ≡ Some (f (first + p))
numbers_at f first zero p l = absurd (omega arith)
numbers_at f first (suc n) zero l = let e : first ≡ first + 0 = omega arith in ap (λ m. Some (f m)) e
numbers_at f first (suc n) (suc p) l =
    let e : suc first + p ≡ first + suc p = omega arith in
    numbers_at f (suc first) n p (omega arith) ∙ ap (λ m. Some (f m)) e

pub handled : (b : Body) (p : ℕ) (all : List (Option ℕ)) → all ≡ all_handlers b → p < length b.positions → slice_get all p ≡ Some (handler_of b p)
handled b p all e l =
    let f : 0 + p ≡ p = omega arith in
    ap (λ all. slice_get all p) e ∙ numbers_at (handler_of b) 0 (length b.positions) p l ∙ ap (λ p. Some (handler_of b p)) f

within : (xs : List (Option ℕ)) (p : ℕ) (o : Option ℕ) → slice_get xs p ≡ Some o → p < length xs
within [] p o e = absurd (cc)
within (x ∷ xs) zero o e = omega arith
within (x ∷ xs) (suc p) o e = let i = within xs p o e in omega (arith, i)

pub handled_there : (b : Body) (p : ℕ) (all : List (Option ℕ)) → all ≡ all_handlers b → p < length b.positions → p < length all
handled_there b p all e l = within all p (handler_of b p) (handled b p all e l)
