-- Handlers that are put one after the other.
use Rattle.std.proofs.Common.{◌≡◌, ℕ, zero, suc, ◌+◌, ◌-◌, ◌<◌, ◌≤◌, Bool, true, false, ◌&&◌, ◌==◌, nat_le, nat_lt, List, [], ◌∷◌, map, length, replicate, drop, get_or, Option, Some, None, slice_get, slice_set, refl, sym, ap, ◌∙◌, subst, cond, arith, leb-true, le-leb, ltb-true, ltb-false}
use Rattle.std.proofs.lemmas.Bool.Decides.{Decides-eqb}
use Rattle.hhbc_repo.specs.declared.body.Region.{Region}
use Rattle.hhbc_repo.specs.Bodies.{numbers}
use Rattle.hhbc_repo.specs.Edges.{inner, innermost, catch_of}
use Rattle.flow_regions.specs.Guarded.{flat, handled, lowered, lowered_from}
use Rattle.flow_regions.proofs.Handled.{of_each}

split : (t : Bool) (goal : Type 0) → (t ≡ true → goal) → (t ≡ false → goal) → goal
split true goal h k = h refl
split false goal h k = k refl

-- a place that is set
set_past : {A : Type 0} (f : ℕ → A) (v : A) (p first n : ℕ) → p < first → map f (numbers first n) ≡ map (λ q. cond (p == q) v (f q)) (numbers first n)
set_past f v p first zero l = refl
set_past f v p first (suc n) l =
    let e : (p == first) ≡ false = split (p == first) ((p == first) ≡ false) (λ t. let k : p ≡ first = (Decides-eqb p first).0 t in absurd (omega arith)) (λ t. t) in
    (λ i. cond (sym e i) v (f first) ∷ set_past f v p (suc first) n (omega arith) i)

set_from : {A : Type 0} (f : ℕ → A) (v : A) (first n k : ℕ) → slice_set (map f (numbers first n)) k v ≡ map (λ q. cond ((first + k) == q) v (f q)) (numbers first n)
set_from f v first zero k = refl
set_from f v first (suc n) zero =
    let z : first + 0 ≡ first = omega arith in
    let e : ((first + 0) == first) ≡ true = (Decides-eqb (first + 0) first).1 z in
    let r = subst (λ m. map f (numbers (suc first) n) ≡ map (λ q. cond (m == q) v (f q)) (numbers (suc first) n)) (sym z) (set_past f v first (suc first) n (omega arith)) in
    (λ i. cond (sym e i) v (f first) ∷ r i)
set_from f v first (suc n) (suc k) =
    let e : ((first + suc k) == first) ≡ false =
    split ((first + suc k) == first) (((first + suc k) == first) ≡ false)
    (λ t. let m : first + suc k ≡ first = (Decides-eqb (first + suc k) first).0 t in absurd (omega arith)) (λ t. t) in
    let s : suc first + k ≡ first + suc k = omega arith in
    let r = subst (λ m. slice_set (map f (numbers (suc first) n)) k v ≡ map (λ q. cond (m == q) v (f q)) (numbers (suc first) n)) s (set_from f v (suc first) n k) in
    (λ i. cond (sym e i) v (f first) ∷ r i)

set_one : {A : Type 0} (f : ℕ → A) (v : A) (n p : ℕ) → slice_set (map f (numbers 0 n)) p v ≡ map (λ q. cond (p == q) v (f q)) (numbers 0 n)
set_one f v n p =
    let z : 0 + p ≡ p = omega arith in
    subst (λ m. slice_set (map f (numbers 0 n)) p v ≡ map (λ q. cond (m == q) v (f q)) (numbers 0 n)) z (set_from f v 0 n p)

alike_from : {A : Type 0} (f g : ℕ → A) (first n : ℕ) → ((k : ℕ) → k < n → f (first + k) ≡ g (first + k)) → map f (numbers first n) ≡ map g (numbers first n)
alike_from f g first zero h = refl
alike_from f g first (suc n) h =
    let z : first + 0 ≡ first = omega arith in
    let e : f first ≡ g first = subst (λ m. f m ≡ g m) z (h 0 (omega arith)) in
    let r = alike_from f g (suc first) n (λ k l.
    let s : first + suc k ≡ suc first + k = omega arith in
    subst (λ m. f m ≡ g m) s (h (suc k) (omega arith))) in
    (λ i. e i ∷ r i)

-- tests that agree on the positions
alike : (f g : ℕ → Option ℕ) (n : ℕ) → ((q : ℕ) → q < n → f q ≡ g q) → handled f n ≡ handled g n
alike f g n h = alike_from f g 0 n (λ k l. let z : 0 + k ≡ k = omega arith in subst (λ m. f m ≡ g m) (sym z) (h k l))

is_false : (t : Bool) → (t ≡ true → ⊥) → t ≡ false
is_false true h = absurd (h refl)
is_false false h = refl

both_true : (a b : Bool) → (a && b) ≡ true → (a ≡ true) × (b ≡ true)
both_true true b h = (refl, h)
both_true false b h = absurd (cc)

-- a position isn't from the first below the first
outside : (first q : ℕ) → (nat_le first q && nat_lt q first) ≡ false
outside first q = is_false _ (λ h.
    let b = both_true (nat_le first q) (nat_lt q first) h in
    let l : first ≤ q = leb-true first q b.0 in
    let m : q < first = ltb-true q first b.1 in
    absurd (omega (arith, l, m)))

pub none_lowered : (first m : ℕ) (f : ℕ → Option ℕ) (n : ℕ) → handled f n ≡ handled (lowered_from first first m f) n
none_lowered first m f n = alike f (lowered_from first first m f) n (λ q l. rw (outside first q) refl)

join : (a b : Bool) → a ≡ true → b ≡ true → (a && b) ≡ true
join a b h k = rw (h, k) refl

lt-true : (a b : ℕ) → a < b → nat_lt a b ≡ true
lt-true a b l = split (nat_lt a b) (nat_lt a b ≡ true) (λ t. t) (λ t. let m : b ≤ a = ltb-false a b t in absurd (omega (arith, l, m)))

one_more : (first p m : ℕ) (f : ℕ → Option ℕ) (q : ℕ) → first ≤ p
    → cond (p == q) (Some (lowered m (f p))) (lowered_from first p m f q) ≡ lowered_from first (p + 1) m f q
one_more first p m f q l = split (p == q) _ here there
  where
    here : (p == q) ≡ true → cond (p == q) (Some (lowered m (f p))) (lowered_from first p m f q) ≡ lowered_from first (p + 1) m f q
    here t =
        let k : p ≡ q = (Decides-eqb p q).0 t in
        let e : (nat_le first q && nat_lt q (p + 1)) ≡ true = join _ _ (le-leb first q (omega (arith, k, l))) (lt-true q (p + 1) (omega (arith, k))) in
        rw (t, e) (ap (λ x. Some (lowered m (f x))) k)

    there : (p == q) ≡ false → cond (p == q) (Some (lowered m (f p))) (lowered_from first p m f q) ≡ lowered_from first (p + 1) m f q
    there t =
        let apart : (p ≡ q) → ⊥ = λ k. let u = (Decides-eqb p q).1 k in let v = sym u ∙ t in cc in
        let e : nat_lt q p ≡ nat_lt q (p + 1) =
        split (nat_lt q p) (nat_lt q p ≡ nat_lt q (p + 1))
        (λ u. let x : q < p = ltb-true q p u in u ∙ sym (lt-true q (p + 1) (omega (arith, x))))
        (λ u.
        let x : p ≤ q = ltb-false q p u in
        u ∙ sym (is_false (nat_lt q (p + 1)) (λ v.
        let y : q < p + 1 = ltb-true q (p + 1) v in
        apart (omega (arith, x, y))))) in
        rw t (ap (λ b. cond (nat_le first q && b) (Some (lowered m (f q))) (f q)) e)

-- one more position of the try body
pub one_lowered : (first p m : ℕ) (f : ℕ → Option ℕ) (n : ℕ) (old new : List (Option ℕ)) → old ≡ handled (lowered_from first p m f) n → first ≤ p
    → new ≡ slice_set old p (Some (lowered m (flat (slice_get old p)))) → new ≡ handled (lowered_from first (p + 1) m f) n
one_lowered first p m f n old new e l h =
    h ∙ ap (λ x. slice_set x p (Some (lowered m (flat (slice_get x p))))) e
    ∙ set_one (lowered_from first p m f) (Some (lowered m (flat (slice_get (handled (lowered_from first p m f) n) p)))) n p
    ∙ alike _ _ n (λ q k. by_place q k)
  where
    -- what stands there is what was there before
    stood : p < n → flat (slice_get (handled (lowered_from first p m f) n) p) ≡ f p
    stood k =
        let e : (nat_le first p && nat_lt p p) ≡ false = is_false _ (λ t.
        let b = both_true (nat_le first p) (nat_lt p p) t in
        let y : p < p = ltb-true p p b.1 in
        absurd (omega (arith, y))) in
        ap flat (of_each (lowered_from first p m f) n p k) ∙ ap (λ t. cond t (Some (lowered m (f p))) (f p)) e

    by_place : (q : ℕ) → q < n
        → cond (p == q) (Some (lowered m (flat (slice_get (handled (lowered_from first p m f) n) p)))) (lowered_from first p m f q) ≡ lowered_from first (p + 1) m f q
    by_place q k = split (p == q) _
        (λ t.
        let s : p ≡ q = (Decides-eqb p q).0 t in
        ap (λ x. cond (p == q) (Some (lowered m x)) (lowered_from first p m f q)) (stood (omega (arith, s, k))) ∙ one_more first p m f q l)
        (λ t.
        ap (λ b. cond b (Some (lowered m (flat (slice_get (handled (lowered_from first p m f) n) p)))) (lowered_from first p m f q)) t
        ∙ ap (λ b. cond b (Some (lowered m (f p))) (lowered_from first p m f q)) (sym t)
        ∙ one_more first p m f q l)

pub no_handlers_are : (n : ℕ) → replicate n None ≡ handled (λ p. None) n
no_handlers_are n = from 0 n
  where
    from : (first n : ℕ) → replicate n None ≡ map {A = ℕ} {B = Option ℕ} (λ p. None) (numbers first n)
    from first zero = refl
    from first (suc n) = ap (λ l. None ∷ l) (from (suc first) n)

-- one more region
with_region : (g : Region) (gs : List Region) (q : ℕ) → lowered_from g.first g.mid g.mid (λ p. catch_of (innermost gs p)) q ≡ catch_of (innermost (g ∷ gs) q)
with_region g gs q = by_case (nat_le g.first q && nat_lt q g.mid) (innermost gs q)
  where
    by_case : (t : Bool) (o : Option Region) → cond t (Some (lowered g.mid (catch_of o))) (catch_of o) ≡ catch_of (cond t (Some (inner g o)) o)
    by_case false o = refl
    by_case true None = refl
    by_case true (Some h) = which (nat_le g.mid h.mid)
      where
        which : (t : Bool) → Some (cond t g.mid h.mid) ≡ catch_of (Some (cond t g h))
        which true = refl
        which false = refl

region_got : (gs : List Region) (at : ℕ) (d : Region) → at < length gs → drop at gs ≡ get_or gs at d ∷ drop (at + 1) gs
region_got [] at d l = absurd (omega arith)
region_got (g ∷ gs) zero d l = refl
region_got (g ∷ gs) (suc at) d l =
    let e : suc (at + 1) ≡ suc at + 1 = omega arith in
    region_got gs at d (omega arith) ∙ ap (λ m. get_or gs at d ∷ drop m (g ∷ gs)) e

none_left : (gs : List Region) (at : ℕ) → length gs ≤ at → drop at gs ≡ []
none_left [] zero l = refl
none_left [] (suc at) l = refl
none_left (g ∷ gs) zero l = absurd (omega arith)
none_left (g ∷ gs) (suc at) l = none_left gs at (omega arith)

pub no_region : (gs : List Region) (at n count : ℕ) (found : List (Option ℕ)) → found ≡ replicate count None → count ≡ n → length gs ≤ at
    → found ≡ handled (λ p. catch_of (innermost (drop at gs) p)) n
no_region gs at n count found e c l =
    e ∙ ap (λ m. replicate m None) c ∙ no_handlers_are n ∙ ap (λ rs. handled (λ p. catch_of (innermost rs p)) n) (sym (none_left gs at l))

next_region : (gs : List Region) (at n : ℕ) (d : Region) (old new : List (Option ℕ)) → at < length gs
    → old ≡ handled (λ p. catch_of (innermost (drop (at + 1) gs) p)) n
    → ((f : ℕ → Option ℕ) (n : ℕ) → old ≡ handled f n → new ≡ handled (lowered_from (get_or gs at d).first (get_or gs at d).mid (get_or gs at d).mid f) n)
    → new ≡ handled (λ p. catch_of (innermost (drop at gs) p)) n
next_region gs at n d old new l e h =
    h (λ p. catch_of (innermost (drop (at + 1) gs) p)) n e
    ∙ alike _ _ n (λ q k. with_region (get_or gs at d) (drop (at + 1) gs) q ∙ ap (λ rs. catch_of (innermost rs q)) (sym (region_got gs at d l)))

-- the region before those that are done
pub region_before : (gs : List Region) (k n : ℕ) (d : Region) (old new : List (Option ℕ)) → 0 < k → k ≤ length gs
    → old ≡ handled (λ p. catch_of (innermost (drop k gs) p)) n
    → ((f : ℕ → Option ℕ) (n : ℕ) → old ≡ handled f n → new ≡ handled (lowered_from (get_or gs (k - 1) d).first (get_or gs (k - 1) d).mid (get_or gs (k - 1) d).mid f) n)
    → new ≡ handled (λ p. catch_of (innermost (drop (k - 1) gs) p)) n
region_before gs k n d old new some few e h =
    let s : k ≡ (k - 1) + 1 = omega (arith, some) in
    next_region gs (k - 1) n d old new (omega (arith, some, few)) (subst (λ m. old ≡ handled (λ p. catch_of (innermost (drop m gs) p)) n) s e) h
