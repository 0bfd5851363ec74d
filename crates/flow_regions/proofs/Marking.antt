-- Marks that are set.
use Rattle.std.proofs.Common.{◌≡◌, ℕ, zero, suc, ◌+◌, ◌<◌, Bool, true, false, ◌||◌, ◌&&◌, ◌==◌, List, [], ◌∷◌, ◌++◌, map, replicate, slice_set, refl, sym, ap, ◌∙◌, subst, cond, arith}
use Rattle.std.specs.List.{filter, list_any}
use Rattle.std.proofs.lemmas.Bool.Decides.{Decides-eqb}
use Rattle.std.proofs.lemmas.List.Elements.{filter-append}
use Rattle.std.proofs.lemmas.List.Folds.{list_any-append}
use Rattle.hhbc_repo.specs.declared.body.Body.{Body}
use Rattle.hhbc_repo.specs.Bodies.{numbers}
use Rattle.hhbc_repo.specs.Edges.{Edge, Next, To, Handler, edges}
use Rattle.flow_regions.specs.BlockStarts.{jumps_to, ends_block, lets_begin, one_lets}
use Rattle.flow_regions.specs.Marks.{marked_by, is_set, has_mark, jumped, begun}
use Rattle.flow_regions.proofs.Handled.{numbers_last, of_each}

or_false : (a : Bool) → (a || false) ≡ a
or_false true = refl
or_false false = refl

or_assoc : (a b c : Bool) → ((a || b) || c) ≡ (a || (b || c))
or_assoc true b c = refl
or_assoc false b c = refl

-- two tests that agree mark the same
pub same_marks : (f g : ℕ → Bool) (n : ℕ) → ((q : ℕ) → f q ≡ g q) → marked_by f n ≡ marked_by g n
same_marks f g n h = λ i. marked_by (λ q. h q i) n

past : (p first : ℕ) → p < first → (p == first) ≡ false
past p first l = by_case (p == first) refl
  where
    by_case : (t : Bool) → (p == first) ≡ t → t ≡ false
    by_case true e = let k : p ≡ first = (Decides-eqb p first).0 e in absurd (omega arith)
    by_case false e = refl

-- numbers past a place aren't that place
set_past : (f : ℕ → Bool) (p first n : ℕ) → p < first → map f (numbers first n) ≡ map (λ q. f q || (p == q)) (numbers first n)
set_past f p first zero l = refl
set_past f p first (suc n) l =
    let e : (f first || (p == first)) ≡ f first = ap (λ b. f first || b) (past p first l) ∙ or_false (f first) in
    (λ i. sym e i ∷ set_past f p (suc first) n (omega arith) i)

itself : (n : ℕ) → (n == n) ≡ true
itself n = (Decides-eqb n n).1 refl

or_true : (a : Bool) → (a || true) ≡ true
or_true true = refl
or_true false = refl

further : (k first : ℕ) → ((first + suc k) == first) ≡ false
further k first = by_case ((first + suc k) == first) refl
  where
    by_case : (t : Bool) → ((first + suc k) == first) ≡ t → t ≡ false
    by_case true e = let m : first + suc k ≡ first = (Decides-eqb (first + suc k) first).0 e in absurd (omega arith)
    by_case false e = refl

set_from : (f : ℕ → Bool) (first n k : ℕ) → slice_set (map f (numbers first n)) k true ≡ map (λ q. f q || ((first + k) == q)) (numbers first n)
set_from f first zero k = refl
set_from f first (suc n) zero =
    let z : first + 0 ≡ first = omega arith in
    let e : (f first || ((first + 0) == first)) ≡ true = ap (λ m. f first || (m == first)) z ∙ ap (λ b. f first || b) (itself first) ∙ or_true (f first) in
    let r = subst (λ m. map f (numbers (suc first) n) ≡ map (λ q. f q || (m == q)) (numbers (suc first) n)) (sym z) (set_past f first (suc first) n (omega arith)) in
    (λ i. sym e i ∷ r i)
set_from f first (suc n) (suc k) =
    let e : (f first || ((first + suc k) == first)) ≡ f first = ap (λ b. f first || b) (further k first) ∙ or_false (f first) in
    let s : suc first + k ≡ first + suc k = omega arith in
    let r = subst (λ m. slice_set (map f (numbers (suc first) n)) k true ≡ map (λ q. f q || (m == q)) (numbers (suc first) n)) s (set_from f (suc first) n k) in
    (λ i. sym e i ∷ r i)

-- one more mark
pub set_mark : (f : ℕ → Bool) (n p : ℕ) → slice_set (marked_by f n) p true ≡ marked_by (λ q. f q || (p == q)) n
set_mark f n p =
    let z : 0 + p ≡ p = omega arith in
    subst (λ m. slice_set (marked_by f n) p true ≡ marked_by (λ q. f q || (m == q)) n) z (set_from f 0 n p)

pub no_marks_are : (first n : ℕ) → replicate n false ≡ map (λ q. false) (numbers first n)
no_marks_are first zero = refl
no_marks_are first (suc n) = ap (λ l. false ∷ l) (no_marks_are (suc first) n)

-- the first position is marked
pub first_mark : (b : Body) (n : ℕ) → slice_set (replicate n false) 0 true ≡ marked_by (λ q. (0 == q) || one_lets b (numbers 0 0) q) n
first_mark b n =
    ap (λ l. slice_set l 0 true) (no_marks_are 0 n) ∙ set_mark (λ q. false) n 0
    ∙ same_marks (λ q. 0 == q) (λ q. (0 == q) || false) n (λ q. sym (or_false (0 == q)))

-- one more position
pub next_marks : (b : Body) (n p : ℕ)
    → marked_by (λ q. ((0 == q) || one_lets b (numbers 0 p) q) || lets_begin (edges b p) p q) n ≡ marked_by (λ q. (0 == q) || one_lets b (numbers 0 (suc p)) q) n
next_marks b n p = same_marks _ _ n (λ q.
    let z : 0 + p ≡ p = omega arith in
    let l : numbers 0 (suc p) ≡ numbers 0 p ++ p ∷ [] = numbers_last 0 p ∙ ap (λ m. numbers 0 p ++ m ∷ []) z in
    let here : one_lets b (p ∷ []) q ≡ lets_begin (edges b p) p q = or_false (lets_begin (edges b p) p q) in
    or_assoc (0 == q) (one_lets b (numbers 0 p) q) (lets_begin (edges b p) p q)
    ∙ ap (λ t. (0 == q) || t)
    (ap (λ t. one_lets b (numbers 0 p) q || t) (sym here)
    ∙ sym (list_any-append (λ p. lets_begin (edges b p) p q) (numbers 0 p) (p ∷ []))
    ∙ ap (λ ps. one_lets b ps q) (sym l)))

-- the targets of edges
jumped_marks : (f : ℕ → Bool) (n : ℕ) (es : List Edge) → jumped (marked_by f n) es ≡ marked_by (λ q. f q || list_any (jumps_to q) es) n
jumped_marks f n [] = same_marks _ _ n (λ q. sym (or_false (f q)))
jumped_marks f n (Next p ∷ es) = jumped_marks f n es
jumped_marks f n (To p ∷ es) =
    ap (λ m. jumped m es) (set_mark f n p) ∙ jumped_marks (λ q. f q || (p == q)) n es
    ∙ same_marks _ _ n (λ q. or_assoc (f q) (p == q) (list_any (jumps_to q) es))
jumped_marks f n (Handler p ∷ es) =
    ap (λ m. jumped m es) (set_mark f n p) ∙ jumped_marks (λ q. f q || (p == q)) n es
    ∙ same_marks _ _ n (λ q. or_assoc (f q) (p == q) (list_any (jumps_to q) es))

-- where a position with these edges lets blocks begin
begun_marks : (f : ℕ → Bool) (n p : ℕ) (es : List Edge) → begun (marked_by f n) es p ≡ marked_by (λ q. f q || lets_begin es p q) n
begun_marks f n p es = by_case (ends_block es) refl
  where
    by_case : (t : Bool) → ends_block es ≡ t
        → cond t (slice_set (jumped (marked_by f n) es) (suc p) true) (jumped (marked_by f n) es)
        ≡ marked_by (λ q. f q || (list_any (jumps_to q) es || (t && (suc p == q)))) n
    by_case true e =
        ap (λ m. slice_set m (suc p) true) (jumped_marks f n es) ∙ set_mark (λ q. f q || list_any (jumps_to q) es) n (suc p)
        ∙ same_marks _ _ n (λ q. or_assoc (f q) (list_any (jumps_to q) es) (suc p == q))
    by_case false e = jumped_marks f n es ∙ same_marks _ _ n (λ q. ap (λ t. f q || t) (sym (or_false (list_any (jumps_to q) es))))

-- the marks of one more position
pub marks_after : (b : Body) (n p : ℕ) (old new : List Bool)
    → old ≡ marked_by (λ q. (0 == q) || one_lets b (numbers 0 p) q) n → new ≡ begun old (edges b p) p
    → new ≡ marked_by (λ q. (0 == q) || one_lets b (numbers 0 (p + 1)) q) n
marks_after b n p old new e h =
    let s : suc p ≡ p + 1 = omega arith in
    subst (λ m. new ≡ marked_by (λ q. (0 == q) || one_lets b (numbers 0 m) q) n) s
    (h ∙ ap (λ m. begun m (edges b p) p) e ∙ begun_marks (λ q. (0 == q) || one_lets b (numbers 0 p) q) n p (edges b p) ∙ next_marks b n p)

-- two tests that agree on numbers let the same ones pass
filter_alike : (f g : ℕ → Bool) (first n : ℕ) → ((k : ℕ) → k < n → f (first + k) ≡ g (first + k)) → filter f (numbers first n) ≡ filter g (numbers first n)
filter_alike f g first zero h = refl
filter_alike f g first (suc n) h =
    let z : first + 0 ≡ first = omega arith in
    let e : f first ≡ g first = subst (λ m. f m ≡ g m) z (h 0 (omega arith)) in
    let r = filter_alike f g (suc first) n (λ k l.
    let s : first + suc k ≡ suc first + k = omega arith in
    subst (λ m. f m ≡ g m) s (h (suc k) (omega arith))) in
    (λ i. cond (e i) (first ∷ r i) (r i))

-- the marked ones are those that pass the test
pub marked_pass : (f : ℕ → Bool) (n : ℕ) → filter (has_mark (marked_by f n)) (numbers 0 n) ≡ filter f (numbers 0 n)
marked_pass f n = filter_alike (has_mark (marked_by f n)) f 0 n (λ k l.
    let z : 0 + k ≡ k = omega arith in
    subst (λ m. has_mark (marked_by f n) m ≡ f m) (sym z) (ap is_set (of_each f n k l)))

-- one more of those that pass
pub filter_next : (f : ℕ → Bool) (p : ℕ) → filter f (numbers 0 (p + 1)) ≡ filter f (numbers 0 p) ++ cond (f p) (p ∷ []) []
filter_next f p =
    let z : 0 + p ≡ p = omega arith in
    let s : p + 1 ≡ suc p = omega arith in
    ap (filter f) (ap (numbers 0) s ∙ numbers_last 0 p ∙ ap (λ m. numbers 0 p ++ m ∷ []) z) ∙ filter-append f (numbers 0 p) (p ∷ [])
