-- Laws of the small graph on which the worklist is run.
use Rattle.std.proofs.Common.{◌≡◌, ℕ, zero, suc, ◌<◌, ◌≤◌, max, ap, List, [], ◌∷◌, Contains, arith}
use Rattle.func_analyze.specs.Problem.{FlowsBelow}
use Rattle.analysis_tests.specs.Climb.{targets, all_to, climbs, IsLevel}

none_in : {A : Type 0} (x : A) → Contains [] x → ⊥
none_in x (k, l, e) = absurd (omega arith)

flow_in : (qs : List ℕ) (a q t : ℕ) → Contains (all_to qs a) (q, t) → Contains qs q × (a ≡ t)
flow_in [] a q t m = absurd (none_in (q, t) m)
flow_in (x ∷ qs) a q t (zero, l, e) = ((0, omega arith, ap (λ (y : ℕ × ℕ). y.0) e), ap (λ (y : ℕ × ℕ). y.1) e)
flow_in (x ∷ qs) a q t (suc k, l, e) = let w = flow_in qs a q t (k, omega arith, e) in ((suc w.0.0, omega arith, w.0.2), w.1)

in_flow : (qs : List ℕ) (a q : ℕ) → Contains qs q → Contains (all_to qs a) (q, a)
in_flow [] a q m = absurd (none_in q m)
in_flow (x ∷ qs) a q (zero, l, e) = (0, omega arith, ap (λ y. (y, a)) e)
in_flow (x ∷ qs) a q (suc k, l, e) = let w = in_flow qs a q (k, omega arith, e) in (suc w.0, omega arith, w.2)

one_small : (x q : ℕ) → x < 5 → Contains (x ∷ []) q → q < 5
one_small x q h (zero, l, e) = omega arith
one_small x q h (suc k, l, e) = absurd (omega arith)

two_small : (x y q : ℕ) → x < 5 → y < 5 → Contains (x ∷ y ∷ []) q → q < 5
two_small x y q h i (zero, l, e) = omega arith
two_small x y q h i (suc zero, l, e) = omega arith
two_small x y q h i (suc (suc k), l, e) = absurd (omega arith)

target_small : (p q : ℕ) → Contains (targets p) q → q < 5
target_small zero q m = one_small 1 q (omega arith) m
target_small (suc zero) q m = one_small 2 q (omega arith) m
target_small (suc (suc zero)) q m = two_small 1 3 q (omega arith) (omega arith) m
target_small (suc (suc (suc zero))) q m = absurd (none_in q m)
target_small (suc (suc (suc (suc n)))) q m = one_small 3 q (omega arith) m

pub climb_monotone : (p s u : ℕ) → s ≤ u → FlowsBelow (λ (a b : ℕ). a ≤ b) (climbs p s) (climbs p u)
climb_monotone p s u h q t m =
    let w = flow_in (targets p) (max s p) q t m in
    let e = w.1 in
    (max u p, in_flow (targets p) (max u p) q w.0, omega arith)

pub climb_leads : (p s : ℕ) → IsLevel p s → (q t : ℕ) → Contains (climbs p s) (q, t) → IsLevel q t
climb_leads p s h q t m =
    let w = flow_in (targets p) (max s p) q t m in
    let e = w.1 in
    (target_small p q w.0, omega arith)

pub level_reflexive : (s : ℕ) → s ≤ s
level_reflexive s = omega arith

pub level_transitive : (s t u : ℕ) → s ≤ t → t ≤ u → s ≤ u
level_transitive s t u h k = omega arith

pub level_enters : IsLevel 0 0
level_enters = (omega arith, omega arith)

pub level_bounded : (p s : ℕ) → IsLevel p s → s ≤ 4
level_bounded p s h = omega arith

pub level_higher : (s t : ℕ) → s ≤ t → (t ≤ s → ⊥) → s < t
level_higher s t h k = omega arith
