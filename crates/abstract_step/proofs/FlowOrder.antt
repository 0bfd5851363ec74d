-- Lower states have lower flows.
use Rattle.std.proofs.Common.{◌≡◌, ◌⊎◌, inl, inr, ℕ, zero, suc, refl, sym, ap, subst, Bool, true, false, Option, Some, None, List, [], ◌∷◌, ◌++◌, filter, cond, Contains, arith}
use Rattle.type_lattice.specs.Classes.{Tree}
use Rattle.type_lattice.specs.Order.{PartLe}
use Rattle.type_lattice.specs.Types.{never}
use Rattle.type_lattice.proofs.OrderLaws.{Le-refl}
use Rattle.hhbc_repo.specs.declared.code.Code.{Code}
use Rattle.hhbc_repo.specs.declared.body.Body.{Body}
use Rattle.hhbc_repo.specs.Linked.{Linked}
use Rattle.hhbc_repo.specs.Bodies.{body_at, code_at, tree_of}
use Rattle.hhbc_repo.specs.Codes.{throws}
use Rattle.hhbc_repo.specs.Edges.{handler_of}
use Rattle.hhbc_semantics.specs.Truth.{Facts}
use Rattle.abstract_step.specs.State.{State, StateLe}
use Rattle.abstract_step.specs.Flow.{Row, Effect, row, to_behind, to_handler, exception_type, lives, has_type, completed, no_flows, code_flow, body_flow}
use Rattle.abstract_step.specs.Laws.{FlowsLe, FlowIsMonotone, CodeFitsRow}
use Rattle.abstract_step.proofs.StateOrder.{alive-le}
use Rattle.abstract_step.proofs.Rows.{same_row, IsStraight, row-straight, RowLe, row-le, fits_code}

abbrev In : {A : Type 0} → List A → A → Type 0
In [] y = ⊥
In (x ∷ xs) y = (x ≡ y) ⊎ In xs y

contains_in : {A : Type 0} (xs : List A) (y : A) → Contains xs y → In xs y
contains_in [] y (k, l, e) = absurd (omega arith)
contains_in (x ∷ xs) y (zero, l, e) = inl e
contains_in (x ∷ xs) y (suc k, l, e) = inr (contains_in xs y (k, omega arith, e))

in_contains : {A : Type 0} (xs : List A) (y : A) → In xs y → Contains xs y
in_contains [] y h = absurd h
in_contains (x ∷ xs) y (inl e) = (0, omega arith, e)
in_contains (x ∷ xs) y (inr h) = let w = in_contains xs y h in (suc w.0, omega (arith, w.1), w.2)

in_either : {A : Type 0} (xs ys : List A) (y : A) → In (xs ++ ys) y → In xs y ⊎ In ys y
in_either [] ys y h = inr h
in_either (x ∷ xs) ys y (inl e) = inl (inl e)
in_either (x ∷ xs) ys y (inr h) = later (in_either xs ys y h)
  where
    later : In xs y ⊎ In ys y → In (x ∷ xs) y ⊎ In ys y
    later (inl h) = inl (inr h)
    later (inr h) = inr h

in_front : {A : Type 0} (xs ys : List A) (y : A) → In xs y → In (xs ++ ys) y
in_front [] ys y h = absurd h
in_front (x ∷ xs) ys y (inl e) = inl e
in_front (x ∷ xs) ys y (inr h) = inr (in_front xs ys y h)

in_back : {A : Type 0} (xs ys : List A) (y : A) → In ys y → In (xs ++ ys) y
in_back [] ys y h = h
in_back (x ∷ xs) ys y h = inr (in_back xs ys y h)

taken : {A : Type 0} (test : A → Bool) (t : Bool) (x : A) (xs : List A) (y : A) → test x ≡ t → In (cond t (x ∷ xs) xs) y
    → ((x ≡ y) × (test x ≡ true)) ⊎ In xs y
taken test true x xs y e (inl f) = inl (f, e)
taken test true x xs y e (inr h) = inr h
taken test false x xs y e h = inr h

from_filter : {A : Type 0} (test : A → Bool) (xs : List A) (y : A) → In (filter test xs) y → In xs y × (test y ≡ true)
from_filter test [] y h = absurd h
from_filter test (x ∷ xs) y h = by_case (taken test (test x) x (filter test xs) y refl h) (λ k. from_filter test xs y k)
  where
    by_case : ((x ≡ y) × (test x ≡ true)) ⊎ In (filter test xs) y → (In (filter test xs) y → In xs y × (test y ≡ true)) → In (x ∷ xs) y × (test y ≡ true)
    by_case (inl e) f = (inl e.0, subst (λ z. test z ≡ true) e.0 e.1)
    by_case (inr k) f = let w = f k in (inr w.0, w.1)

kept : {A : Type 0} (t : Bool) (x : A) (xs : List A) (y : A) → In xs y → In (cond t (x ∷ xs) xs) y
kept true x xs y h = inr h
kept false x xs y h = h

to_filter : {A : Type 0} (test : A → Bool) (xs : List A) (y : A) → In xs y → test y ≡ true → In (filter test xs) y
to_filter test [] y h e = absurd h
to_filter test (x ∷ xs) y (inl f) e = rw (subst (λ z. test z ≡ true) (sym f) e) (inl f)
to_filter test (x ∷ xs) y (inr h) e = kept (test x) x (filter test xs) y (to_filter test xs y h e)

module _ (tree : Tree) where
  abbrev Above : List (ℕ × State) → ℕ → State → Type 0
  Above ys q s = (t : State) × In ys (q, t) × StateLe tree s t

  behind_above : (p : ℕ) (o u : Option State) → PartLe (StateLe tree) o u → (q : ℕ) (s : State) → In (to_behind p o) (q, s) → Above (to_behind p u) q s
  behind_above p None u h q s k = absurd k
  behind_above p (Some a) None h q s k = absurd h
  behind_above p (Some a) (Some b) h q s (inl e) =
      (b, inl (ap (λ (x : ℕ × State). (x.0, b)) e), subst (λ (x : ℕ × State). StateLe tree x.1 b) e h)
  behind_above p (Some a) (Some b) h q s (inr k) = absurd k

  handler_above : (t : Bool) (o : Option ℕ) (a b : State) → StateLe tree a b → (q : ℕ) (s : State) → In (to_handler t o a) (q, s) → Above (to_handler t o b) q s
  handler_above false o a b h q s k = absurd k
  handler_above true None a b h q s k = absurd k
  handler_above true (Some p) a b h q s (inl e) = (
    record b { stack = exception_type ∷ [] },
    inl (ap (λ (x : ℕ × State). (x.0, record b { stack = exception_type ∷ [] })) e),
    subst (λ (x : ℕ × State). StateLe tree x.1 (record b { stack = exception_type ∷ [] })) e
        (record { locals = h.locals; stack = (Le-refl tree exception_type, tt); iters = h.iters }),
  )
  handler_above true (Some p) a b h q s (inr k) = absurd k

  above_front : (xs ys : List (ℕ × State)) (q : ℕ) (s : State) → Above xs q s → Above (xs ++ ys) q s
  above_front xs ys q s w = (w.0, in_front xs ys (q, w.0) w.1, w.2)

  above_back : (xs ys : List (ℕ × State)) (q : ℕ) (s : State) → Above ys q s → Above (xs ++ ys) q s
  above_back xs ys q s w = (w.0, in_back xs ys (q, w.0) w.1, w.2)

  no_effect : (es : List Effect) (e : Effect) → es ≡ [] → Contains (filter has_type es) e → ⊥
  no_effect es e z h = contains_in [] e (subst (λ (xs : List Effect). Contains (filter has_type xs) e) z h)

  completed_le : (v w : Row) (p : ℕ) (g h : List (ℕ × State)) → RowLe tree v w → IsStraight v
      → ((q : ℕ) (s : State) → In g (q, s) → Above h q s) → FlowsLe tree (completed v p g) (completed w p h)
  completed_le v w p g h le straight more = record {
    to = λ q s c.
        let k = from_filter lives (to_behind p v.behind ++ v.labels ++ g) (q, s) (contains_in _ (q, s) c) in
        let m = reach q s (in_either (to_behind p v.behind ++ v.labels) g (q, s) k.0) in
        let alive = alive-le tree s m.0 m.2 k.1 in
        (m.0, in_contains _ (q, m.0) (to_filter lives (to_behind p w.behind ++ w.labels ++ h) (q, m.0) m.1 alive), m.2);
    returned = le.returned;
    effects = λ q t c. absurd (no_effect v.effects _ straight.effects c);
  }
    where
      at_label : (q : ℕ) (s : State) → In (to_behind p v.behind) (q, s) ⊎ In v.labels (q, s) → Above (to_behind p w.behind ++ w.labels ++ h) q s
      at_label q s (inl k) =
          above_front (to_behind p w.behind ++ w.labels) h q s
          (above_front (to_behind p w.behind) w.labels q s (behind_above p v.behind w.behind le.behind q s k))
      at_label q s (inr k) = absurd (subst (λ (xs : List (ℕ × State)). In xs (q, s)) straight.labels k)

      reach : (q : ℕ) (s : State) → In (to_behind p v.behind ++ v.labels) (q, s) ⊎ In g (q, s) → Above (to_behind p w.behind ++ w.labels ++ h) q s
      reach q s (inl k) = at_label q s (in_either (to_behind p v.behind) v.labels (q, s) k)
      reach q s (inr k) = above_back (to_behind p w.behind ++ w.labels) h q s (more q s k)

  none_le : FlowsLe tree no_flows no_flows
  none_le = record {
    to = λ q s c. absurd (contains_in [] (q, s) c);
    returned = Le-refl tree never;
    effects = λ q t c. absurd (contains_in [] (record { property = q; type = t }) c);
  }

  code_le : (r : Linked) (F G : Facts) (n : ℕ) (b : Body) (p : ℕ) (o : Option Code) (s t : State) → StateLe tree s t
      → FlowsLe tree (code_flow r F n b p o s) (code_flow r G n b p o t)
  code_le r F G n b p None s t h = none_le
  code_le r F G n b p (Some c) s t h =
      completed_le (row r F n c s) (row r G n c t) p (to_handler (throws c) (handler_of b p) s) (to_handler (throws c) (handler_of b p) t)
      (subst (λ (w : Row). RowLe tree (row r F n c s) w) (same_row r r F G n n c t) (row-le tree r F n c s t h))
      (row-straight r F n c s)
      (handler_above (throws c) (handler_of b p) s t h)

  body_le : (r : Linked) (F G : Facts) (n : ℕ) (o : Option Body) (p : ℕ) (s t : State) → StateLe tree s t
      → FlowsLe tree (body_flow r F n o p s) (body_flow r G n o p t)
  body_le r F G n None p s t h = none_le
  body_le r F G n (Some b) p s t h = code_le r F G n b p (code_at b p) s t h

pub flow_is_monotone : FlowIsMonotone
flow_is_monotone r F G n p s t facts alive h = body_le (tree_of r) r F G n (body_at r n) p s t h

pub code_fits_row : CodeFitsRow
code_fits_row S F n c b f w s local h = fits_code (tree_of S.repo) f w S F n c b s local h
