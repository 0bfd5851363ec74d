-- Numbers that are put to the names that bear them.
use Rattle.std.proofs.Common.{◌≡◌, ◌<◌, ◌≤◌, ◌+◌, ◌^◌, ℕ, zero, suc, Bool, true, false, cond, Option, Some, None, Result, Ok, Err, IfOk, List, [], ◌∷◌, ◌++◌, length, map, take, drop, slice_get, get_or, refl, sym, ap, ap₂, ◌∙◌, subst, arith, append_assoc, if◌then◌else◌}
use Rattle.std.proofs.Math.Seq.{drop-cons}
use Rattle.std.specs.Prelude.{slice_set}
use Rattle.std.specs.List.{flat_map}
use Rattle.std.proofs.lemmas.Bool.{eq-eqb}
use Rattle.std.proofs.lemmas.List.{append-nil}
use Rattle.std.proofs.lemmas.List.Quantifiers.{position-Some}
use Rattle.hhbc_repo.specs.declared.members.Row.{Row}
use Rattle.hhbc_repo.specs.Bearers.{Bearers, borne, numbers_at}
use Rattle.hhbc_repo.specs.LinkFaults.{Name, at_class, is_name, place_in}
use Rattle.hhbc_repo.specs.LookUps.{total}
use Rattle.hhbc_repo.specs.Members.{names_of, starts}
use Rattle.hhbc_repo.specs.Places.{bearers, together}
use Rattle.hhbc_repo.proofs.Elements.{before_last, slice_inside, slice_last}
use Rattle.hhbc_repo.proofs.NumbersPut.{place_append, place_else, place_inside, same_name}

-- the number, where the names are the same
abbrev pub perhaps : Bool → ℕ → List ℕ
perhaps b n = if b then n ∷ [] else []

is_self : (q : Name) → is_name q q ≡ true
is_self [] = refl
is_self (x ∷ xs) = let e = eq-eqb x x refl in let k = is_self xs in grind (arith, e, k)

pub if_ok : {T E : Type 0} (r : Result T E) (P Q : T → Type 0) → ((t : T) → P t → Q t) → IfOk r P → IfOk r Q
if_ok (Ok t) P Q f h = f t h
if_ok (Err e) P Q f h = tt

pub set_count : (xs : List (List ℕ)) (i : ℕ) (y : List ℕ) → length (slice_set xs i y) ≡ length xs
set_count [] i y = refl
set_count (x ∷ xs) zero y = refl
set_count (x ∷ xs) (suc i) y = ap suc (set_count xs i y)

-- ---- a new name

module _ (names : List Name) (numbers : List (List ℕ)) (paired : length names ≡ length numbers) (name : Name) (n : ℕ) where
  pub grown : place_in names name ≡ None → (q : Name)
      → borne (record { names = names ++ name ∷ []; numbers = numbers ++ (n ∷ []) ∷ [] }) q ≡ borne (record { names = names; numbers = numbers }) q ++ perhaps (is_name q name) n
  grown absent q = ap (numbers_at (numbers ++ (n ∷ []) ∷ [])) (place_append names name q) ∙ go (place_in names q) (is_name q name) refl refl
    where
      go : (o : Option ℕ) (b : Bool) → place_in names q ≡ o → is_name q name ≡ b → numbers_at (numbers ++ (n ∷ []) ∷ []) (place_else b (length names) o) ≡ numbers_at numbers o ++ perhaps b n
      go None true h e = ap (λ k. at_class (slice_get (numbers ++ (n ∷ []) ∷ []) k)) paired ∙ ap (λ (o : Option (List ℕ)). at_class o) (slice_last numbers (n ∷ []))
      go None false h e = refl
      go (Some i) true h e =
          let same = same_name q name e in
          let k : Some i ≡ None = sym h ∙ ap (place_in names) same ∙ absent in absurd (cc)
      go (Some i) false h e =
          let v = slice_inside numbers i (subst (λ (m : ℕ). i < m) paired (place_inside names q i h)) in
          ap (λ (o : Option (List ℕ)). at_class o) (before_last numbers ((n ∷ []) ∷ []) i v.0 v.1 ∙ sym v.1) ∙ sym (append-nil (at_class (slice_get numbers i)))

  -- ---- a further number of a name

  set_here : (xs : List (List ℕ)) (i : ℕ) (x y : List ℕ) → slice_get xs i ≡ Some x → slice_get (slice_set xs i y) i ≡ Some y
  set_here [] i x y e = absurd (cc)
  set_here (z ∷ xs) zero x y e = refl
  set_here (z ∷ xs) (suc i) x y e = set_here xs i x y e

  set_there : (xs : List (List ℕ)) (i j : ℕ) (y : List ℕ) → (i ≡ j → ⊥) → slice_get (slice_set xs i y) j ≡ slice_get xs j
  set_there [] i j y h = refl
  set_there (z ∷ xs) zero zero y h = absurd (h refl)
  set_there (z ∷ xs) zero (suc j) y h = refl
  set_there (z ∷ xs) (suc i) zero y h = refl
  set_there (z ∷ xs) (suc i) (suc j) y h = set_there xs i j y (λ e. h (ap suc e))

  found_same : (q : Name) (i : ℕ) → place_in names q ≡ Some i → place_in names name ≡ Some i → is_name q name ≡ true
  found_same q i h k =
      let a = position-Some (is_name q) names i [] h in
      let b = position-Some (is_name name) names i [] k in
      let same = same_name q (get_or names i []) a.1 ∙ sym (same_name name (get_or names i []) b.1) in
      subst (λ (m : Name). is_name q m ≡ true) same (is_self q)

  pub longer : (at : ℕ) (list : List ℕ) → place_in names name ≡ Some at → slice_get numbers at ≡ Some list → (q : Name)
      → borne (record { names = names; numbers = slice_set numbers at (list ++ n ∷ []) }) q ≡ borne (record { names = names; numbers = numbers }) q ++ perhaps (is_name q name) n
  longer at list there is q = go (place_in names q) (is_name q name) refl refl
    where
      apart : (i : ℕ) → place_in names q ≡ Some i → is_name q name ≡ false → at ≡ i → ⊥
      apart i h e k = let f = found_same q i h (there ∙ ap (λ m. Some m) k) in let g : true ≡ false = sym f ∙ e in absurd (cc)

      here : (i : ℕ) → place_in names q ≡ Some i → is_name q name ≡ true → at ≡ i
      here i h e = let k : Some at ≡ Some i = sym there ∙ ap (place_in names) (sym (same_name q name e)) ∙ h in cc

      go : (o : Option ℕ) (b : Bool) → place_in names q ≡ o → is_name q name ≡ b → numbers_at (slice_set numbers at (list ++ n ∷ [])) o ≡ numbers_at numbers o ++ perhaps b n
      go None true h e = let k : None ≡ Some at = sym h ∙ ap (place_in names) (same_name q name e) ∙ there in absurd (cc)
      go None false h e = refl
      go (Some i) true h e =
          let k = here i h e in
          ap (λ (m : ℕ). at_class (slice_get (slice_set numbers at (list ++ n ∷ [])) m)) (sym k)
          ∙ ap (λ (o : Option (List ℕ)). at_class o) (set_here numbers at list (list ++ n ∷ []) is)
          ∙ ap (λ (l : List ℕ). l ++ n ∷ []) (sym (ap (λ (o : Option (List ℕ)). at_class o) (ap (slice_get numbers) (sym k) ∙ is)))
      go (Some i) false h e =
          ap (λ (o : Option (List ℕ)). at_class o) (set_there numbers at i (list ++ n ∷ []) (apart i h e)) ∙ sym (append-nil (at_class (slice_get numbers i)))

-- ---- several names in a row

pub one_more : (old new : Name → List ℕ) (first : Name → List ℕ) (all : Name → List ℕ) (n : ℕ) (name : Name) (names rest : List Name) → names ≡ name ∷ rest
    → ((q : Name) → new q ≡ old q ++ perhaps (is_name q name) n) → ((q : Name) → old q ++ bearers n names q ≡ first q ++ all q)
    → (q : Name) → new q ++ bearers (n + 1) rest q ≡ first q ++ all q
one_more old new first all n name names rest e h k q =
    let s : n + 1 ≡ suc n = omega arith in
    ap₂ (λ (l : List ℕ) (m : ℕ). l ++ bearers m rest q) (h q) s
    ∙ append_assoc (old q) (perhaps (is_name q name) n) (bearers (suc n) rest q)
    ∙ ap (λ (l : List Name). old q ++ bearers n l q) (sym e)
    ∙ k q

bearers_both : (n : ℕ) (xs ys : List Name) (q : Name) → bearers n (xs ++ ys) q ≡ bearers n xs q ++ bearers (n + length xs) ys q
bearers_both n [] ys q = let e : n ≡ n + 0 = omega arith in ap (λ (m : ℕ). bearers m ys q) e
bearers_both n (x ∷ xs) ys q =
    let e : suc n + length xs ≡ n + suc (length xs) = omega arith in
    ap (λ (l : List ℕ). perhaps (is_name q x) n ++ l) (bearers_both (suc n) xs ys q ∙ ap (λ (m : ℕ). bearers (suc n) xs q ++ bearers m ys q) e)
    ∙ sym (append_assoc (perhaps (is_name q x) n) (bearers (suc n) xs q) (bearers (n + suc (length xs)) ys q))

-- the names of a class's row, behind those of the rows before it
pub row_more : (old new : Name → List ℕ) (all : Name → List ℕ) (n : ℕ) (row : Row) (rows rest : List Row) → rows ≡ row ∷ rest
    → ((q : Name) → new q ≡ old q ++ bearers n row.names q) → ((q : Name) → old q ++ bearers n (together (names_of rows)) q ≡ all q)
    → (q : Name) → new q ++ bearers (n + length row.names) (together (names_of rest)) q ≡ all q
row_more old new all n row rows rest e h k q =
    ap (λ (l : List ℕ). l ++ bearers (n + length row.names) (together (names_of rest)) q) (h q)
    ∙ append_assoc (old q) (bearers n row.names q) (bearers (n + length row.names) (together (names_of rest)) q)
    ∙ ap (λ (l : List ℕ). old q ++ l) (sym (bearers_both n row.names (together (names_of rest)) q))
    ∙ ap (λ (l : List Row). old q ++ bearers n (together (names_of l)) q) (sym e)
    ∙ k q

-- where the names of a row begin
pub row_first : (s : ℕ) (rows : List Row) (i : ℕ) (row : Row) → map (λ (r : Row). r.first) rows ≡ starts s (names_of rows) → slice_get rows i ≡ Some row → row.first ≡ s + total (names_of (take i rows))
row_first s [] i row e h = absurd (cc)
row_first s (r ∷ rows) zero row e h = let same : r ≡ row = cc in let f : r.first ≡ s = cc in ap (λ (q : Row). q.first) (sym same) ∙ f ∙ omega arith
row_first s (r ∷ rows) (suc i) row e h = row_first (s + length r.names) rows i row (cc) h ∙ omega arith

pub none_left : {A : Type 0} (i : ℕ) (xs : List A) → length xs ≤ i → drop i xs ≡ []
none_left zero [] h = refl
none_left (suc i) [] h = refl
none_left zero (x ∷ xs) h = absurd (omega (arith, h))
none_left (suc i) (x ∷ xs) h = none_left i xs (omega (arith, h))

pub one_left : {A : Type 0} (xs : List A) (i : ℕ) (x : A) → i < length xs → x ≡ get_or xs i x → drop i xs ≡ x ∷ drop (i + 1) xs
one_left {A} xs i x h e = let s : suc i ≡ i + 1 = omega arith in drop-cons xs i x h ∙ ap₂ (λ (y : A) (k : ℕ). y ∷ drop k xs) (sym e) s
