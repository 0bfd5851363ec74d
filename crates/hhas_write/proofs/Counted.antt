-- How often numbers stand in lists, and the numbers of labels.
use Rattle.std.proofs.Common.{◌≡◌, ℕ, zero, suc, ◌+◌, ◌<◌, ◌≤◌, Bool, true, false, ◌&&◌, ◌||◌, ◌==◌, ◌⊎◌, inl, inr, List, [], ◌∷◌, ◌++◌, length, Option, Some, None, slice_get, refl, sym, ap, ◌∙◌, arith, nat_eq, nat_le, nat_lt, if◌then◌else◌, add-one, set, get_or, slice_index, subst₂, take}
use Rattle.std.specs.List.{list_any}
use Rattle.std.proofs.lemmas.Bool.{eq-eqb, ne_eqb, cases_eq, lt-leb}
use Rattle.std.proofs.lemmas.Bool.Decides.{leb_tells}
use Rattle.std.proofs.lemmas.List.{get_or-set_same, get_or-set_other, length-set, length-append, length-take-le, take_more}
use Rattle.std.proofs.lemmas.Grind.{get_or_default_zero}
use Rattle.std.proofs.lemmas.Option.{slice_get_past}
use Rattle.hhbc_repo.specs.declared.body.Position.{Position}
use Rattle.hhbc_repo.specs.Canonical.{how_many, is_named, named_before, label_at, targets}
use Rattle.hhas_write.specs.Tables.{Tallied, Labels, entry}

abbrev one_if : Bool → ℕ
one_if b = if b then 1 else 0

most_one : (b : Bool) → one_if b ≤ 1
most_one true = omega arith
most_one false = omega arith

last_step : (a h e : ℕ) → (a + (h + e)) ≡ (a + h) + e
last_step a h e = omega arith

pub how_many_last : (p q : ℕ) (xs : List ℕ) → how_many p (xs ++ q ∷ []) ≡ how_many p xs + one_if (p == q)
how_many_last p q [] = omega arith
how_many_last p q (x ∷ xs) = ap (λ n. one_if (p == x) + n) (how_many_last p q xs) ∙ last_step (one_if (p == x)) (how_many p xs) (one_if (p == q))

how_many_same : (q : ℕ) (xs : List ℕ) → how_many q (xs ++ q ∷ []) ≡ how_many q xs + 1
how_many_same q xs = how_many_last q q xs ∙ ap (λ b. how_many q xs + one_if b) (eq-eqb q q refl)

plus_none : (n : ℕ) → n + 0 ≡ n
plus_none n = omega arith

how_many_other : (p q : ℕ) (xs : List ℕ) → (p ≡ q → ⊥) → how_many p (xs ++ q ∷ []) ≡ how_many p xs
how_many_other p q xs n = how_many_last p q xs ∙ (ap (λ b. how_many p xs + one_if b) (ne_eqb p q n) ∙ plus_none (how_many p xs))

pub how_many_most : (p : ℕ) (xs : List ℕ) → how_many p xs ≤ length xs
how_many_most p [] = omega arith
how_many_most p (x ∷ xs) =
    let h = how_many_most p xs in let k = most_one (p == x) in omega arith

-- ---- a table with one number more

counted_at : (p q v : ℕ) (xs counts : List ℕ) → (p ≡ q) ⊎ (p ≡ q → ⊥) → q < length counts → slice_index counts p ≡ how_many p xs
    → v ≡ slice_index counts q + 1 → slice_index (set counts q v) p ≡ how_many p (xs ++ q ∷ [])
counted_at p q v xs counts (inl e) h t w =
    let a = get_or-set_same counts q v 0 h in let b = how_many_same q xs in cc
counted_at p q v xs counts (inr n) h t w = get_or-set_other counts q p v 0 n ∙ (t ∙ sym (how_many_other p q xs n))

pub tallied_more : (size q v : ℕ) (xs counts : List ℕ) → Tallied size xs counts → q < length counts → v ≡ slice_index counts q + 1
    → Tallied size (xs ++ q ∷ []) (set counts q v)
tallied_more size q v xs counts t h w = record {
  long = length-set counts q v ∙ t.long;
  at = λ p k. let l = length-set counts q v in counted_at p q v xs counts (cases_eq p q) h (t.at p (omega arith)) w;
}

-- a number past the end changes nothing
pub tallied_past : (size q : ℕ) (xs counts : List ℕ) → Tallied size xs counts → length counts ≤ q → Tallied size (xs ++ q ∷ []) counts
tallied_past size q xs counts t h = record {
  long = t.long;
  at = λ p k. t.at p k ∙ sym (how_many_other p q xs (λ e. absurd (omega arith)));
}

-- ---- a step of the loop that counts

read_any : (counts : List ℕ) (q v : ℕ) → q < length counts → v ≡ get_or counts q v → v ≡ slice_index counts q
read_any counts q v h e = e ∙ get_or_default_zero counts q v h

pub tallied_few : (size q i v : ℕ) (xs counts : List ℕ) → Tallied size (take i xs) counts → i < length xs → q < size → v ≡ get_or counts q v → v ≤ i
tallied_few size q i v xs counts t h k e =
    let long = t.long in
    let is = read_any counts q v (omega arith) e ∙ t.at q (omega arith) in
    let most = how_many_most q (take i xs) in
    let front = length-take-le i xs (omega arith) in omega arith

pub tallied_here : (size q i v : ℕ) (xs counts new : List ℕ) → Tallied size (take i xs) counts → i < length xs → q < size → v ≡ get_or counts q v
    → q ≡ get_or xs i 0 → new ≡ set counts q (v + 1) → Tallied size (take (i + 1) xs) new
tallied_here size q i v xs counts new t h k e is made =
    let long = t.long in
    let more = tallied_more size q (v + 1) (take i xs) counts t (omega arith) (ap (λ n. n + 1) (read_any counts q v (omega arith) e)) in
    subst₂ (λ (ns cs : List ℕ). Tallied size ns cs) (sym (take_more xs i 0 h ∙ ap (λ n. take i xs ++ n ∷ []) (sym is))) (sym made) more

pub tallied_not_here : (size q i : ℕ) (xs counts new : List ℕ) → Tallied size (take i xs) counts → i < length xs → size ≤ q
    → q ≡ get_or xs i 0 → new ≡ counts → Tallied size (take (i + 1) xs) new
tallied_not_here size q i xs counts new t h k is made =
    let long = t.long in
    let more = tallied_past size q (take i xs) counts t (omega arith) in
    subst₂ (λ (ns cs : List ℕ). Tallied size ns cs) (sym (take_more xs i 0 h ∙ ap (λ n. take i xs ++ n ∷ []) (sym is))) (sym made) more

-- ---- labels

positive : (n : ℕ) → (n ≡ 0 → ⊥) → nat_lt 0 n ≡ true
positive n h = elim (leb_tells 1 n) [ inl t ↦ t.0 | inr f ↦ absurd (h (omega arith)) ]

zero_plus : (n : ℕ) → n ≡ 0 + n
zero_plus n = omega arith

any_case : (b : Bool) (n : ℕ) → (b || nat_lt 0 n) ≡ nat_lt 0 (one_if b + n)
any_case true n = sym (positive (1 + n) (λ e. absurd (omega arith)))
any_case false n = ap (λ k. nat_lt 0 k) (zero_plus n)

pub any_how_many : (p : ℕ) (xs : List ℕ) → list_any (nat_eq p) xs ≡ nat_lt 0 (how_many p xs)
any_how_many p [] = refl
any_how_many p (x ∷ xs) = ap (λ b. nat_eq p x || b) (any_how_many p xs) ∙ any_case (nat_eq p x) (how_many p xs)

pub before_most : (all : List Position) (p : ℕ) → named_before all p ≤ p
before_most all zero = omega arith
before_most all (suc p) =
    let h = before_most all p in let k = most_one (is_named all p) in omega arith

within : (p n : ℕ) → p ≤ n → nat_le p n ≡ true
within p n h = elim (leb_tells p n) [ inl t ↦ t.0 | inr f ↦ absurd (omega arith) ]

never_there : (b : Bool) (n : ℕ) → (if b && false then Some n else None) ≡ None
never_there true n = refl
never_there false n = refl

slice_get_last : {A : Type 0} (xs : List A) (x : A) → slice_get (xs ++ x ∷ []) (length xs) ≡ Some x
slice_get_last [] x = refl
slice_get_last (y ∷ xs) x = slice_get_last xs x

slice_get_front : {A : Type 0} (xs : List A) (x : A) (p : ℕ) → p < length xs → slice_get (xs ++ x ∷ []) p ≡ slice_get xs p
slice_get_front [] x p h = absurd (omega arith)
slice_get_front (y ∷ xs) x zero h = refl
slice_get_front (y ∷ xs) x (suc p) h = slice_get_front xs x p (omega arith)

more_at : {A : Type 0} (xs : List A) (x : A) (p : ℕ) (f : ℕ → A) → (p < length xs → slice_get xs p ≡ Some (f p)) → x ≡ f (length xs) → p < length xs + 1
    → (p ≡ length xs) ⊎ (p ≡ length xs → ⊥) → slice_get (xs ++ x ∷ []) p ≡ Some (f p)
more_at xs x p f h e k (inl q) = ap (slice_get (xs ++ x ∷ [])) q ∙ (slice_get_last xs x ∙ ap Some (e ∙ ap f (sym q)))
more_at xs x p f h e k (inr n) = slice_get_front xs x p (omega arith) ∙ h (omega arith)

past_all : (all : List Position) (p : ℕ) → length all < p → label_at all p ≡ None
past_all all p h = ap (λ b. if b && is_named all p then Some (named_before all p) else None) (lt-leb p (length all) h)

told_at : (all : List Position) (labels : List (Option ℕ)) (p : ℕ) → length labels ≡ suc (length all)
    → ((p : ℕ) → p < length labels → slice_get labels p ≡ Some (label_at all p)) → (p < length labels) ⊎ (length labels ≤ p) → entry (slice_get labels p) ≡ label_at all p
told_at all labels p e h (inl k) = ap entry (h p k)
told_at all labels p e h (inr k) = ap entry (slice_get_past labels p k) ∙ sym (past_all all p (omega arith))

inside_or_past : (p n : ℕ) → (p < n) ⊎ (n ≤ p)
inside_or_past p n = elim (leb_tells (suc p) n) [ inl t ↦ inl t.1 | inr f ↦ inr (omega arith) ]

named_next : (all : List Position) (p : ℕ) → named_before all (p + 1) ≡ named_before all p + one_if (is_named all p)
named_next all p = rw add-one refl

-- a position that no code names has no label, and the count stays
pub unnamed : (all : List Position) (p n : ℕ) → n ≡ how_many p (targets all) → n ≡ 0
    → (None ≡ label_at all p) × (named_before all (p + 1) ≡ named_before all p)
unnamed all p n e z =
    let no : is_named all p ≡ false = any_how_many p (targets all) ∙ ap (λ k. nat_lt 0 k) (sym e ∙ z) in (
      sym (ap (λ b. if nat_le p (length all) && b then Some (named_before all p) else None) no ∙ never_there (nat_le p (length all)) (named_before all p)),
      named_next all p ∙ (ap (λ b. named_before all p + one_if b) no ∙ plus_none (named_before all p)),
    )

-- one that some code names has the count as its number, and the count goes up
pub numbered : (all : List Position) (p n : ℕ) → p ≤ length all → n ≡ how_many p (targets all) → (n ≡ 0 → ⊥)
    → (Some (named_before all p) ≡ label_at all p) × (named_before all (p + 1) ≡ named_before all p + 1)
numbered all p n h e z =
    let yes : is_named all p ≡ true = any_how_many p (targets all) ∙ positive (how_many p (targets all)) (λ k. z (e ∙ k)) in (
      sym (ap (λ b. if nat_le p (length all) && b then Some (named_before all p) else None) yes ∙ ap (λ b. if b && true then Some (named_before all p) else None) (within p (length all) h)),
      named_next all p ∙ ap (λ b. named_before all p + one_if b) yes,
    )

-- labels with one more
pub one_label_more : (all : List Position) (labels : List (Option ℕ)) (label : Option ℕ) → ((p : ℕ) → p < length labels → slice_get labels p ≡ Some (label_at all p))
    → label ≡ label_at all (length labels) → (p : ℕ) → p < length labels + 1 → slice_get (labels ++ label ∷ []) p ≡ Some (label_at all p)
one_label_more all labels label h e p k = more_at labels label p (label_at all) (h p) e k (cases_eq p (length labels))

-- the same of what a push has left
pub label_pushed : (all : List Position) (labels new : List (Option ℕ)) (label : Option ℕ) (i : ℕ) → new ≡ labels ++ label ∷ [] → length labels ≡ i → label ≡ label_at all i
    → ((p : ℕ) → p < i → slice_get labels p ≡ Some (label_at all p)) → (length new ≡ i + 1) × ((p : ℕ) → p < i + 1 → slice_get new p ≡ Some (label_at all p))
label_pushed all labels new label i e l t h = (
  ap length e ∙ (length-append labels (label ∷ []) ∙ ap (λ n. n + 1) l),
  λ p k. ap (λ ls. slice_get ls p) e ∙ one_label_more all labels label (λ q m. h q (omega arith)) (t ∙ ap (label_at all) (sym l)) p (omega arith),
)

-- the whole table
pub labels_told : (all : List Position) (labels : List (Option ℕ)) → length labels ≡ suc (length all)
    → ((p : ℕ) → p < length labels → slice_get labels p ≡ Some (label_at all p)) → Labels all labels
labels_told all labels e h = record { at = λ p. told_at all labels p e h (inside_or_past p (length labels)) }
