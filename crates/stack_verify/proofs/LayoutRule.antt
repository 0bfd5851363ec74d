-- The layout rule: which edge gives a position its shape, and what a walk over the positions knows of it.
use Rattle.std.proofs.Common.{◌≡◌, ◌⊎◌, inl, inr, ℕ, zero, suc, ◌+◌, ◌<◌, refl, sym, ◌∙◌, ap, Bool, true, false, cond, ◌==◌, Option, Some, None, List, [], ◌∷◌, ◌++◌, length, arith, append_assoc, length-append, eq-eqb}
use Rattle.std.proofs.lemmas.Bool.{ne_eqb}
use Rattle.hhbc_repo.specs.declared.body.Body.{Body}
use Rattle.hhbc_repo.specs.Edges.{Edge, target, edges}
use Rattle.hhbc_repo.specs.Shapes.{Shape, given, given_after, given_by, handed, or_unled, unled, shapes, edge_to, after}

pub shapes_length : (b : Body) (n : ℕ) → length (shapes b n) ≡ n
shapes_length b zero = refl
shapes_length b (suc n) =
    let e = length-append (shapes b n) (given_after b n (shapes b n) ∷ []) in
    let f = shapes_length b n in
    omega (arith, e, f)

-- more positions behind them lead to a position only where none of the first ones does
later_case : (b : Body) (p : ℕ) (x : Shape) (o : Option Edge) (u v w : Option Shape) → handed b p x o u ≡ None → (u ≡ None → v ≡ w) → handed b p x o v ≡ w
later_case b p x None u v w h k = k h
later_case b p x (Some e) u v w h k = absurd (cc)

by_later : (b : Body) (p n : ℕ) (xs ys : List Shape) (q : ℕ) → n ≡ p + length xs → given_by b p xs q ≡ None
    → given_by b p (xs ++ ys) q ≡ given_by b n ys q
by_later b p n [] ys q i h = let e : p ≡ n = omega arith in ap (λ m. given_by b m ys q) e
by_later b p n (x ∷ xs) ys q i h =
    later_case b p x (edge_to q (edges b p)) (given_by b (suc p) xs q) (given_by b (suc p) (xs ++ ys) q) (given_by b n ys q) h
    (λ h. by_later b (suc p) n xs ys q (omega arith) h)

shapes_more : (b : Body) (n m : ℕ) → n < m → (rest : List Shape) × (shapes b m ≡ shapes b n ++ given b n ∷ rest)
shapes_more b n zero l = absurd (omega arith)
shapes_more b n (suc m) l = by_case (within l) (λ l. shapes_more b n m l)
  where
    within : n < suc m → (n < m) ⊎ (n ≡ m)
    within l = grind arith

    by_case : (n < m) ⊎ (n ≡ m) → (n < m → (rest : List Shape) × (shapes b m ≡ shapes b n ++ given b n ∷ rest))
        → (rest : List Shape) × (shapes b m ++ given b m ∷ [] ≡ shapes b n ++ given b n ∷ rest)
    by_case (inl l) ih =
        let w = ih l in
        (w.0 ++ given b m ∷ [], ap (λ xs. xs ++ given b m ∷ []) w.1 ∙ append_assoc (shapes b n) (given b n ∷ w.0) (given b m ∷ []))
    by_case (inr e) ih = ([], ap (λ k. shapes b k ++ given b k ∷ []) (sym e))

-- the first edge of the first position that leads to a later one gives it its shape
pub first_gives : (b : Body) (n q : ℕ) (e : Edge) → n < q → given_by b 0 (shapes b n) q ≡ None → edge_to q (edges b n) ≡ Some e
    → given b q ≡ after b n (given b n) e
first_gives b n zero e l h f = absurd (omega arith)
first_gives b n (suc q) e l h f =
    let w = shapes_more b n (suc q) l in
    let g = by_later b 0 n (shapes b n) (given b n ∷ w.0) (suc q) (omega (arith, shapes_length b n)) h in
    let i : handed b n (given b n) (edge_to (suc q) (edges b n)) (given_by b (suc n) w.0 (suc q)) ≡ Some (after b n (given b n) e) =
    ap (λ o. handed b n (given b n) o (given_by b (suc n) w.0 (suc q))) f in
    ap (λ o. or_unled b (suc q) o) (ap (λ xs. given_by b 0 xs (suc q)) w.1 ∙ g ∙ i)

-- a position that the first ones don't lead to, and the next one neither
pub none_gives : (b : Body) (n q : ℕ) → given_by b 0 (shapes b n) q ≡ None → edge_to q (edges b n) ≡ None → given_by b 0 (shapes b (suc n)) q ≡ None
none_gives b n q h f =
    by_later b 0 n (shapes b n) (given b n ∷ []) q (omega (arith, shapes_length b n)) h
    ∙ ap (λ o. handed b n (given b n) o None) f

-- a position that no earlier one leads to
pub unled_given : (b : Body) (n : ℕ) → 0 < n → given_by b 0 (shapes b n) n ≡ None → given b n ≡ unled b n
unled_given b zero l h = absurd (omega arith)
unled_given b (suc n) l h = ap (λ o. or_unled b (suc n) o) h

-- the first edge to a position, among the first edges and those behind them
pub next_to : (q : ℕ) (done rest : List Edge) (e : Edge) → edge_to q done ≡ None → target e ≡ q → edge_to q (done ++ e ∷ rest) ≡ Some e
next_to q [] rest e h i = here (target e == q) (eq-eqb (target e) q i)
  where
    here : (t : Bool) → t ≡ true → cond t (Some e) (edge_to q rest) ≡ Some e
    here true i = refl
    here false i = absurd (cc)
next_to q (x ∷ done) rest e h i = there (target x == q) h (λ h. next_to q done rest e h i)
  where
    there : (t : Bool) → cond t (Some x) (edge_to q done) ≡ None → (edge_to q done ≡ None → edge_to q (done ++ e ∷ rest) ≡ Some e)
        → cond t (Some x) (edge_to q (done ++ e ∷ rest)) ≡ Some e
    there true h k = absurd (cc)
    there false h k = k h

pub none_to : (q : ℕ) (done : List Edge) (e : Edge) → edge_to q done ≡ None → (target e ≡ q → ⊥) → edge_to q (done ++ e ∷ []) ≡ None
none_to q [] e h i = here (target e == q) (ne_eqb (target e) q i)
  where
    here : (t : Bool) → t ≡ false → cond t (Some e) None ≡ None
    here true i = absurd (cc)
    here false i = refl
none_to q (x ∷ done) e h i = there (target x == q) h (λ h. none_to q done e h i)
  where
    there : (t : Bool) → cond t (Some x) (edge_to q done) ≡ None → (edge_to q done ≡ None → edge_to q (done ++ e ∷ []) ≡ None)
        → cond t (Some x) (edge_to q (done ++ e ∷ [])) ≡ None
    there true h k = absurd (cc)
    there false h k = k h
