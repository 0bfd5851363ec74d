-- Least solutions under other facts, and without states that have a type without members.
use Rattle.std.proofs.Common.{◌≡◌, ℕ, zero, suc, ◌-◌, refl, sym, ◌∙◌, ap, subst, Bool, true, false, not, ◌&&◌, cond, Option, Some, None, List, [], ◌∷◌, ◌++◌, filter, replicate, length, Contains, arith}
use Rattle.type_lattice.specs.declared.types.HType.{HType}
use Rattle.type_lattice.specs.Types.{cell, uninit}
use Rattle.type_lattice.specs.Never.{is_never, all_alive}
use Rattle.hhbc_repo.specs.declared.body.Body.{Body}
use Rattle.hhbc_repo.specs.declared.code.Code.{Code}
use Rattle.hhbc_repo.specs.Linked.{Linked}
use Rattle.hhbc_repo.specs.Bodies.{body_at, code_at, tree_of}
use Rattle.hhbc_repo.specs.Codes.{throws}
use Rattle.hhbc_repo.specs.Edges.{handler_of}
use Rattle.hhbc_semantics.specs.Truth.{Facts}
use Rattle.abstract_step.specs.State.{State, StateLe, is_alive, entry_state}
use Rattle.abstract_step.specs.Flow.{flow, row, body_flow, code_flow, to_behind, to_handler, lives}
use Rattle.abstract_step.specs.Laws.{FactsLe}
use Rattle.abstract_step.proofs.StateOrder.{StateLe-refl, StateLe-trans, alive-le, together}
use Rattle.abstract_step.proofs.FlowOrder.{flow_is_monotone}
use Rattle.func_analyze.specs.Solution.{Table, HasState, HasAbove, IsSolution, IsLeast}
use Rattle.func_analyze.specs.Chain.{if_alive}
use Rattle.func_analyze.specs.Problem.{IsSolutionOf}
use Rattle.func_analyze.proofs.ClassChains.{classes_are_transitive}
use Rattle.func_analyze.specs.SolutionLaws.{LeastIsByFlows, LowerFactsLowerLeast, LeastIsAlive, LeastOfFlows}

-- a solution under facts is one under facts with the same flows
alike : (r : Linked) (F G : Facts) (n : ℕ) (T : Table)
    → ((p : ℕ) (s : State) (q : ℕ) (t : State) → Contains (flow r G n p s).to (q, t) → Contains (flow r F n p s).to (q, t))
    → IsSolution r F n T → IsSolution r G n T
alike r F G n T from w = record {
  body = w.body;
  at = w.at;
  solves = record {
    count = w.solves.count;
    enters = w.solves.enters;
    closed = λ p s e q t m. w.solves.closed p s e q t (from p s q t m);
  };
}

least_alike : (r : Linked) (F G : Facts) (n : ℕ) (T : Table)
    → ((p : ℕ) (s : State) (q : ℕ) (t : State) → Contains (flow r F n p s).to (q, t) → Contains (flow r G n p s).to (q, t))
    → ((p : ℕ) (s : State) (q : ℕ) (t : State) → Contains (flow r G n p s).to (q, t) → Contains (flow r F n p s).to (q, t))
    → IsLeast r F n T → IsLeast r G n T
least_alike r F G n T to from w = record {
  solution = alike r F G n T from w.solution;
  least = λ U v. w.least U (alike r G F n U to v);
}

pub least_is_by_flows : LeastIsByFlows
least_is_by_flows r F G n same T = (
  λ w. least_alike r F G n T (λ p s q t. (same p s q t).0) (λ p s q t. (same p s q t).1) w,
  λ w. least_alike r G F n T (λ p s q t. (same p s q t).1) (λ p s q t. (same p s q t).0) w,
)

-- what enters, and what flows, has members
with_head : (b a c : Bool) → (a ≡ true → c ≡ true) → (b && a) ≡ true → (b && c) ≡ true
with_head true a c f h = f h
with_head false a c f h = absurd (cc)

all_alive_append : (ts us : List HType) → all_alive ts ≡ true → all_alive us ≡ true → all_alive (ts ++ us) ≡ true
all_alive_append [] us h k = k
all_alive_append (t ∷ ts) us h k = with_head (not (is_never t)) (all_alive ts) (all_alive (ts ++ us)) (λ h. all_alive_append ts us h k) h

all_alive_replicate : (n : ℕ) (t : HType) → is_never t ≡ false → all_alive (replicate n t) ≡ true
all_alive_replicate zero t h = refl
all_alive_replicate (suc n) t h = rw h (all_alive_replicate n t h)

entry_is_alive : (b : Body) → is_alive (entry_state b) ≡ true
entry_is_alive b =
    together (all_alive (entry_state b).locals) true
    (all_alive_append (replicate b.params cell) (replicate (length b.locals - b.params) uninit)
    (all_alive_replicate b.params cell refl) (all_alive_replicate (length b.locals - b.params) uninit refl))
    refl

nothing_in : {A : Type 0} (x : A) → Contains [] x → ⊥
nothing_in x (k, l, e) = absurd (omega arith)

passes_first : {A : Type 0} (test : A → Bool) (x : A) (ys : List A) (y : A) (b : Bool) → test x ≡ b → (Contains ys y → test y ≡ true)
    → Contains (cond b (x ∷ ys) ys) y → test y ≡ true
passes_first test x ys y false e more m = more m
passes_first test x ys y true e more (zero, l, f) = subst (λ z. test z ≡ true) f e
passes_first test x ys y true e more (suc k, l, f) = more (k, omega arith, f)

passes : {A : Type 0} (test : A → Bool) (xs : List A) (y : A) → Contains (filter test xs) y → test y ≡ true
passes test [] y m = absurd (nothing_in y m)
passes test (x ∷ xs) y m = passes_first test x (filter test xs) y (test x) refl (λ m. passes test xs y m) m

code_flow_is_alive : (r : Linked) (F : Facts) (n : ℕ) (b : Body) (p : ℕ) (o : Option Code) (s : State) (q : ℕ) (t : State)
    → Contains (code_flow r F n b p o s).to (q, t) → is_alive t ≡ true
code_flow_is_alive r F n b p None s q t m = absurd (nothing_in (q, t) m)
code_flow_is_alive r F n b p (Some c) s q t m =
    let w = row r F n c s in
    passes lives (to_behind p w.behind ++ w.labels ++ to_handler (throws c) (handler_of b p) s) (q, t) m

body_flow_is_alive : (r : Linked) (F : Facts) (n : ℕ) (o : Option Body) (p : ℕ) (s : State) (q : ℕ) (t : State)
    → Contains (body_flow r F n o p s).to (q, t) → is_alive t ≡ true
body_flow_is_alive r F n None p s q t m = absurd (nothing_in (q, t) m)
body_flow_is_alive r F n (Some b) p s q t m = code_flow_is_alive r F n b p (code_at b p) s q t m

flow_is_alive : (r : Linked) (F : Facts) (n p : ℕ) (s : State) (q : ℕ) (t : State) → Contains (flow r F n p s).to (q, t) → is_alive t ≡ true
flow_is_alive r F n p s q t m = body_flow_is_alive r F n (body_at r n) p s q t m

-- the table without the states that have a type without members
trimmed : Table → Table
trimmed [] = []
trimmed (o ∷ T) = if_alive o ∷ trimmed T

trimmed_length : (T : Table) → length (trimmed T) ≡ length T
unfolding trimmed
trimmed_length [] = refl
trimmed_length (o ∷ T) = ap suc (trimmed_length T)

stands : (o : Option State) (s : State) → o ≡ Some s → is_alive s ≡ true → if_alive o ≡ Some s
stands None s e a = absurd (cc)
stands (Some x) s e a = let f : x ≡ s = cc in rw (f, a) refl

kept : (x s : State) (b : Bool) → is_alive x ≡ b → cond b (Some x) None ≡ Some s → (Some x ≡ Some s) × (is_alive s ≡ true)
kept x s true a e = let f : x ≡ s = cc in (e, subst (λ y. is_alive y ≡ true) f a)
kept x s false a e = absurd (cc)

stood : (o : Option State) (s : State) → if_alive o ≡ Some s → (o ≡ Some s) × (is_alive s ≡ true)
stood None s e = absurd (cc)
stood (Some x) s e = kept x s (is_alive x) refl e

in_trimmed : (T : Table) (p : ℕ) (s : State) → HasState T p s → is_alive s ≡ true → HasState (trimmed T) p s
unfolding trimmed
in_trimmed [] p s e a = absurd (cc)
in_trimmed (o ∷ T) zero s e a = let f : o ≡ Some s = cc in ap Some (stands o s f a)
in_trimmed (o ∷ T) (suc p) s e a = in_trimmed T p s e a

was_there : (T : Table) (p : ℕ) (s : State) → HasState (trimmed T) p s → HasState T p s × (is_alive s ≡ true)
unfolding trimmed
was_there [] p s e = absurd (cc)
was_there (o ∷ T) zero s e =
    let f : if_alive o ≡ Some s = cc in
    let w = stood o s f in
    (ap Some w.0, w.1)
was_there (o ∷ T) (suc p) s e = was_there T p s e

above_trimmed : (r : Linked) (T : Table) (p : ℕ) (s : State) → is_alive s ≡ true → HasAbove r T p s → HasAbove r (trimmed T) p s
above_trimmed r T p s a w = (w.0, in_trimmed T p w.0 w.1 (alive-le (tree_of r) s w.0 w.2 a), w.2)

-- a solution, trimmed, is one
trimmed_solves : (r : Linked) (F : Facts) (n : ℕ) (T : Table) → IsSolution r F n T → IsSolution r F n (trimmed T)
trimmed_solves r F n T w = record {
  body = w.body;
  at = w.at;
  solves = record {
    count = trimmed_length T ∙ w.solves.count;
    enters = above_trimmed r T 0 (entry_state w.body) (entry_is_alive w.body) w.solves.enters;
    closed = λ p s e q t m. above_trimmed r T q t (flow_is_alive r F n p s q t m) (w.solves.closed p s (was_there T p s e).0 q t m);
  };
}

pub least_is_alive : LeastIsAlive
least_is_alive r F n T w p s e =
    let x = w.least (trimmed T) (trimmed_solves r F n T w.solution) p s e in
    let y = was_there T p x.0 x.1 in
    let f : Some (Some x.0) ≡ Some (Some s) = sym y.0 ∙ e in
    let g : x.0 ≡ s = cc in
    subst (λ u. is_alive u ≡ true) g y.1

-- a solution under higher facts, trimmed, is one under the lower
solves_lower : (r : Linked) (F G : Facts) (n : ℕ) (U : Table) → FactsLe (tree_of r) F G → IsSolution r G n U
    → IsSolution r F n (trimmed U)
solves_lower r F G n U le w = record {
  body = w.body;
  at = w.at;
  solves = record {
    count = trimmed_length U ∙ w.solves.count;
    enters = above_trimmed r U 0 (entry_state w.body) (entry_is_alive w.body) w.solves.enters;
    closed = λ p s e q t m.
        let x = was_there U p s e in
        let y = (flow_is_monotone r F G n p s s le x.1 (StateLe-refl (tree_of r) s)).to q t m in
        let z = w.solves.closed p s x.0 q y.0 y.1 in
        above_trimmed r U q t (flow_is_alive r F n p s q t m) (z.0, z.1, StateLe-trans (tree_of r) (classes_are_transitive (tree_of r)) t y.0 z.0 y.2 z.2);
  };
}

pub lower_facts_lower_least : LowerFactsLowerLeast
lower_facts_lower_least r F G n le T U l w p s e =
    let x = l.least (trimmed U) (solves_lower r F G n U le w) p s e in
    (x.0, (was_there U p x.0 x.1).0, x.2)

-- a solution of a body is one of its flows, and the other way round
as_problem : (r : Linked) (F : Facts) (n : ℕ) (b : Body) → body_at r n ≡ Some b → (T : Table) → IsSolution r F n T
    → IsSolutionOf (StateLe (tree_of r)) (length b.positions) (entry_state b) (λ p s. (flow r F n p s).to) T
as_problem r F n b e T w =
    let f : Some w.body ≡ Some b = sym w.at ∙ e in
    let g : w.body ≡ b = cc in
    subst (λ (c : Body). IsSolutionOf (StateLe (tree_of r)) (length c.positions) (entry_state c) (λ p s. (flow r F n p s).to) T) g w.solves

pub least_of_flows : LeastOfFlows
least_of_flows r F n b e T = (
  λ w. record { solution = as_problem r F n b e T w.solution; least = λ U v. w.least U (record { body = b; at = e; solves = v }) },
  λ w. record { solution = record { body = b; at = e; solves = w.solution }; least = λ U v. w.least U (as_problem r F n b e U v) },
)
