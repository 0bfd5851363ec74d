-- A walk that follows the edges of a position: what its table knows, and which checks have passed.
use Rattle.std.proofs.Common.{◌≡◌, ◌⊎◌, inl, inr, ℕ, zero, suc, ◌<◌, refl, sym, ◌∙◌, ap, subst, Bool, true, false, cond, ◌==◌, nat_le, nat_lt, Option, Some, None, Ok, Err, List, [], ◌∷◌, ◌++◌, slice_get, slice_set, length, arith, append_assoc, eq-eqb, ltb-true}
use Rattle.std.proofs.lemmas.Bool.Decides.{eqb_tells}
use Rattle.hhbc_repo.specs.declared.body.Body.{Body}
use Rattle.hhbc_ops.specs.declared.words.Flavour.{Flavour}
use Rattle.hhbc_ops.specs.declared.words.Flavour.TheVariants.{C, U}
use Rattle.hhbc_repo.specs.Edges.{Edge, target, edges}
use Rattle.hhbc_repo.specs.Shapes.{Shape, ShapeKind, Check, FallsOff, StackTooDeep, given, given_by, shapes, edge_to, after, agree, same_live, first_fault, edge_checks}
use Rattle.stack_verify.specs.Walk.{Table, known, mismatches, unless, meets, led}
use Rattle.stack_verify.proofs.LayoutRule.{first_gives, next_to, none_to}

-- checks one after the other
pub first_then : (xs ys : List Check) → first_fault xs ≡ None → first_fault (xs ++ ys) ≡ first_fault ys
first_then [] ys h = refl
first_then (x ∷ xs) ys h = by_case x.1 h (λ h. first_then xs ys h)
  where
    by_case : (t : Bool) → cond t (first_fault xs) (Some x.0) ≡ None → (first_fault xs ≡ None → first_fault (xs ++ ys) ≡ first_fault ys)
        → cond t (first_fault (xs ++ ys)) (Some x.0) ≡ first_fault ys
    by_case true h k = k h
    by_case false h k = absurd (cc)

pub first_fails : (xs ys : List Check) (k : ShapeKind) → first_fault xs ≡ Some k → first_fault (xs ++ ys) ≡ Some k
first_fails [] ys k h = absurd (cc)
first_fails (x ∷ xs) ys k h = by_case x.1 h (λ h. first_fails xs ys k h)
  where
    by_case : (t : Bool) → cond t (first_fault xs) (Some x.0) ≡ Some k → (first_fault xs ≡ Some k → first_fault (xs ++ ys) ≡ Some k)
        → cond t (first_fault (xs ++ ys)) (Some x.0) ≡ Some k
    by_case true h f = f h
    by_case false h f = h

-- a shape doesn't differ from itself
agree_itself : (xs : List Flavour) → agree xs xs ≡ true
agree_itself [] = refl
agree_itself (C ∷ xs) = agree_itself xs
agree_itself (U ∷ xs) = agree_itself xs

live_itself : (xs : List Bool) → same_live xs xs ≡ true
live_itself [] = refl
live_itself (true ∷ xs) = live_itself xs
live_itself (false ∷ xs) = live_itself xs

pass_three : (k l m : ShapeKind) (a c d : Bool) → a ≡ true → c ≡ true → d ≡ true → first_fault ((k, a) ∷ (l, c) ∷ (m, d) ∷ []) ≡ None
pass_three k l m a c d e f g = rw (e, f, g) refl

same_as_itself : (s : Shape) → first_fault (mismatches s s) ≡ None
same_as_itself s = pass_three _ _ _ _ _ _ (eq-eqb (length s.stack) (length s.stack) refl) (agree_itself s.stack) (live_itself s.live)

-- what comes of a shape that comes to a position, of which the table knows the shape g or nothing
meets_err : (T : Table) (s g : Shape) (q : ℕ) (o : Option Shape) (there fits : Bool) (k : ShapeKind) → ((t : Shape) → o ≡ Some t → t ≡ g)
    → meets T s q o there fits ≡ Err k → first_fault ((FallsOff, there) ∷ (StackTooDeep, fits) ∷ mismatches s g) ≡ Some k
meets_err T s g q o false fits k w h = cc
meets_err T s g q o true false k w h = cc
meets_err T s g q None true true k w h = absurd (cc)
meets_err T s g q (Some t) true true k w h = subst (λ t. first_fault (mismatches s t) ≡ Some k) (w t refl) (by_case (first_fault (mismatches s t)) h)
  where
    by_case : (o : Option ShapeKind) → unless o T ≡ Err k → o ≡ Some k
    by_case None h = absurd (cc)
    by_case (Some l) h = cc

-- of a table that is left: the position is there, the shape isn't too deep, and it is that of the table, or goes there
pub record Met (T : Table) (s : Shape) (q : ℕ) (o : Option Shape) (there fits : Bool) (V : Table) : Type 0 where
  pub inside : there ≡ true
  pub shallow : fits ≡ true
  pub left : ((o ≡ None) × (V ≡ slice_set T q (Some s))) ⊎ ((t : Shape) × (o ≡ Some t) × (first_fault (mismatches s t) ≡ None) × (V ≡ T))

met : (T : Table) (s : Shape) (q : ℕ) (o : Option Shape) (there fits : Bool) (V : Table) → meets T s q o there fits ≡ Ok V → Met T s q o there fits V
met T s q o false fits V h = absurd (cc)
met T s q o true false V h = absurd (cc)
met T s q None true true V h = record { inside = refl; shallow = refl; left = inl (refl, cc) }
met T s q (Some t) true true V h = record { inside = refl; shallow = refl; left = let w = by_case (first_fault (mismatches s t)) h in inr (t, refl, w.0, w.1) }
  where
    by_case : (o : Option ShapeKind) → unless o T ≡ Ok V → (o ≡ None) × (V ≡ T)
    by_case None h = (refl, cc)
    by_case (Some l) h = absurd (cc)

-- a position behind this one, to which neither an earlier position nor one of these edges leads
pub record IsOpen (b : Body) (n : ℕ) (done : List Edge) (q : ℕ) : Type 0 where
  pub later : n < q
  pub unled : given_by b 0 (shapes b n) q ≡ None
  pub no_edge : edge_to q done ≡ None

-- the table knows the shapes of the positions through n, and those that earlier positions and the first edges of n have given
pub record Follows (b : Body) (n : ℕ) (done rest : List Edge) (T : Table) : Type 0 where
  pub split : edges b n ≡ done ++ rest
  pub count : length T ≡ length b.positions
  pub row : (q : ℕ) → q < length b.positions → (slice_get T q ≡ Some (Some (given b q))) ⊎ ((slice_get T q ≡ Some None) × IsOpen b n done q)

-- what the table knows of a position is its shape
knows : (b : Body) (n : ℕ) (done rest : List Edge) (T : Table) → Follows b n done rest T → (q : ℕ) → q < length b.positions → (t : Shape)
    → known (slice_get T q) ≡ Some t → t ≡ given b q
knows b n done rest T h q l t e = by_case (h.row q l)
  where
    by_case : (slice_get T q ≡ Some (Some (given b q))) ⊎ ((slice_get T q ≡ Some None) × IsOpen b n done q) → t ≡ given b q
    by_case (inl f) = let g = ap known f in cc
    by_case (inr f) = let g = ap known f.0 in absurd (cc)

-- a position of which it knows nothing is open
opens : (b : Body) (n : ℕ) (done rest : List Edge) (T : Table) → Follows b n done rest T → (q : ℕ) → q < length b.positions
    → known (slice_get T q) ≡ None → IsOpen b n done q
opens b n done rest T h q l e = by_case (h.row q l)
  where
    by_case : (slice_get T q ≡ Some (Some (given b q))) ⊎ ((slice_get T q ≡ Some None) × IsOpen b n done q) → IsOpen b n done q
    by_case (inl f) = let g = ap known f in absurd (cc)
    by_case (inr f) = f.1

outside : (T : Table) (q : ℕ) (t : Shape) → known (slice_get T q) ≡ Some t → q < length T
outside [] q t e = absurd (cc)
outside (x ∷ T) zero t e = omega arith
outside (x ∷ T) (suc q) t e = let i = outside T q t e in omega arith

pub led_err : (b : Body) (n : ℕ) (done rest : List Edge) (e : Edge) (T : Table) (k : ShapeKind) → Follows b n done (e ∷ rest) T
    → led T (after b n (given b n) e) (target e) ≡ Err k → first_fault (edge_checks b (after b n (given b n) e) (target e)) ≡ Some k
led_err b n done rest e T k h f =
    let s = after b n (given b n) e in
    let q = target e in
    subst (λ (m : ℕ). first_fault ((FallsOff, nat_lt q m) ∷ (StackTooDeep, nat_le (length s.stack) 255) ∷ mismatches s (given b q)) ≡ Some k) h.count
    (meets_err T s (given b q) q (known (slice_get T q)) (nat_lt q (length T)) (nat_le (length s.stack) 255) k
    (λ t g. knows b n done (e ∷ rest) T h q (let i = outside T q t g in let c = h.count in omega (arith, i, c)) t g) f)

-- the edge is the first one to its target, and gives it its shape
gives : (b : Body) (n : ℕ) (done rest : List Edge) (e : Edge) (T : Table) → Follows b n done (e ∷ rest) T → IsOpen b n done (target e)
    → given b (target e) ≡ after b n (given b n) e
gives b n done rest e T h o =
    first_gives b n (target e) e o.later o.unled (ap (edge_to (target e)) h.split ∙ next_to (target e) done rest e o.no_edge refl)

pub set_here : (T : Table) (q : ℕ) (o : Option Shape) → q < length T → slice_get (slice_set T q o) q ≡ Some o
set_here [] q o l = absurd (omega arith)
set_here (x ∷ T) zero o l = refl
set_here (x ∷ T) (suc q) o l = set_here T q o (omega arith)

pub set_elsewhere : (T : Table) (q r : ℕ) (o : Option Shape) → (q ≡ r → ⊥) → slice_get (slice_set T q o) r ≡ slice_get T r
set_elsewhere [] q r o d = refl
set_elsewhere (x ∷ T) zero zero o d = absurd (d refl)
set_elsewhere (x ∷ T) zero (suc r) o d = refl
set_elsewhere (x ∷ T) (suc q) zero o d = refl
set_elsewhere (x ∷ T) (suc q) (suc r) o d = set_elsewhere T q r o (λ e. d (ap suc e))

pub set_length : (T : Table) (q : ℕ) (o : Option Shape) → length (slice_set T q o) ≡ length T
set_length [] q o = refl
set_length (x ∷ T) zero o = refl
set_length (x ∷ T) (suc q) o = ap suc (set_length T q o)

pub same_or_not : (q r : ℕ) → (q ≡ r) ⊎ (q ≡ r → ⊥)
same_or_not q r = tells (eqb_tells q r)
  where
    tells : (((q == r) ≡ true) × (q ≡ r)) ⊎ (((q == r) ≡ false) × (q ≡ r → ⊥)) → (q ≡ r) ⊎ (q ≡ r → ⊥)
    tells (inl w) = inl w.1
    tells (inr w) = inr w.1

-- the edge was followed
pub record Followed (b : Body) (n : ℕ) (done rest : List Edge) (e : Edge) (V : Table) : Type 0 where
  pub passes : first_fault (edge_checks b (after b n (given b n) e) (target e)) ≡ None
  pub follows : Follows b n (done ++ e ∷ []) rest V

pass_two : (k l : ShapeKind) (a c : Bool) (more : List Check) → a ≡ true → c ≡ true → first_fault more ≡ None → first_fault ((k, a) ∷ (l, c) ∷ more) ≡ None
pass_two k l a c more e f g = rw (e, f) g

pub led_ok : (b : Body) (n : ℕ) (done rest : List Edge) (e : Edge) (T V : Table) → Follows b n done (e ∷ rest) T
    → led T (after b n (given b n) e) (target e) ≡ Ok V → Followed b n done rest e V
led_ok b n done rest e T V h f = by_case m.left
  where
    s : Shape
    s = after b n (given b n) e

    q : ℕ
    q = target e

    m : Met T s q (known (slice_get T q)) (nat_lt q (length T)) (nat_le (length s.stack) 255) V
    m = met T s q (known (slice_get T q)) (nat_lt q (length T)) (nat_le (length s.stack) 255) V f

    l : q < length T
    l = ltb-true q (length T) m.inside

    i : q < length b.positions
    i = let c = h.count in let j = l in omega (arith, j, c)

    there : nat_lt q (length b.positions) ≡ true
    there = subst (λ (m : ℕ). nat_lt q m ≡ true) h.count m.inside

    all : edges b n ≡ (done ++ e ∷ []) ++ rest
    all = h.split ∙ sym (append_assoc done (e ∷ []) rest)

    stays : (r : ℕ) → r < length b.positions → (q ≡ r → ⊥) → (slice_get T r ≡ Some (Some (given b r))) ⊎ ((slice_get T r ≡ Some None) × IsOpen b n done r)
        → (slice_get T r ≡ Some (Some (given b r))) ⊎ ((slice_get T r ≡ Some None) × IsOpen b n (done ++ e ∷ []) r)
    stays r j d (inl w) = inl w
    stays r j d (inr w) = inr (w.0, record { later = w.1.later; unled = w.1.unled; no_edge = none_to r done e w.1.no_edge d })

    row_set : (r : ℕ) → r < length b.positions → given b q ≡ s → ((q ≡ r) ⊎ (q ≡ r → ⊥))
        → (slice_get (slice_set T q (Some s)) r ≡ Some (Some (given b r))) ⊎ ((slice_get (slice_set T q (Some s)) r ≡ Some None) × IsOpen b n (done ++ e ∷ []) r)
    row_set r j g (inl d) = inl (subst (λ r. slice_get (slice_set T q (Some s)) r ≡ Some (Some (given b r))) d (set_here T q (Some s) l ∙ ap (λ t. Some (Some t)) (sym g)))
    row_set r j g (inr d) =
        subst (λ (o : Option (Option Shape)). (o ≡ Some (Some (given b r))) ⊎ ((o ≡ Some None) × IsOpen b n (done ++ e ∷ []) r))
        (sym (set_elsewhere T q r (Some s) d)) (stays r j d (h.row r j))

    row_same : (t : Shape) → known (slice_get T q) ≡ Some t → (r : ℕ) → r < length b.positions → ((q ≡ r) ⊎ (q ≡ r → ⊥))
        → (slice_get T r ≡ Some (Some (given b r))) ⊎ ((slice_get T r ≡ Some None) × IsOpen b n (done ++ e ∷ []) r)
    row_same t k r j (inr d) = stays r j d (h.row r j)
    row_same t k r j (inl d) = by_row (h.row r j)
      where
        by_row : (slice_get T r ≡ Some (Some (given b r))) ⊎ ((slice_get T r ≡ Some None) × IsOpen b n done r)
            → (slice_get T r ≡ Some (Some (given b r))) ⊎ ((slice_get T r ≡ Some None) × IsOpen b n (done ++ e ∷ []) r)
        by_row (inl w) = inl w
        by_row (inr w) = let x = ap (λ r. known (slice_get T r)) d in let y = ap known w.0 in absurd (cc)

    by_case : ((known (slice_get T q) ≡ None) × (V ≡ slice_set T q (Some s)))
        ⊎ ((t : Shape) × (known (slice_get T q) ≡ Some t) × (first_fault (mismatches s t) ≡ None) × (V ≡ T))
        → Followed b n done rest e V
    by_case (inl w) =
        let g = gives b n done rest e T h (opens b n done (e ∷ rest) T h q i w.0) in
        record {
          passes = pass_two _ _ _ _ (mismatches s (given b q)) there m.shallow (subst (λ t. first_fault (mismatches s t) ≡ None) (sym g) (same_as_itself s));
          follows = subst (λ V. Follows b n (done ++ e ∷ []) rest V) (sym w.1)
              (record { split = all; count = set_length T q (Some s) ∙ h.count; row = λ r j. row_set r j g (same_or_not q r) });
        }
    by_case (inr w) =
        record {
          passes = pass_two _ _ _ _ (mismatches s (given b q)) there m.shallow
              (subst (λ t. first_fault (mismatches s t) ≡ None) (knows b n done (e ∷ rest) T h q i w.0 w.1) w.2);
          follows = subst (λ V. Follows b n (done ++ e ∷ []) rest V) (sym w.3)
              (record { split = all; count = h.count; row = λ r j. row_same w.0 w.1 r j (same_or_not q r) });
        }
