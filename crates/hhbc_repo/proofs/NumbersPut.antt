-- Names that are added keep the number that they have.
use Rattle.std.proofs.Common.{◌≡◌, ℕ, zero, suc, Bool, true, false, if◌then◌else◌, List, [], ◌∷◌, ◌++◌, refl, sym, ap, ◌∙◌, subst, Option, Some, None, option_map, is_some, length, slice_get, get_or, arith, cond, take, ◌<◌, ◌+◌}
use Rattle.std.proofs.lemmas.List.{length_push, length-take-le, take_more}
use Rattle.std.proofs.lemmas.List.Quantifiers.{position-Some}
use Rattle.hhbc_repo.specs.LinkFaults.{Name, is_name, names, place_in}
use Rattle.hhbc_repo.specs.LookUps.{number_at, or_else}
use Rattle.hhbc_repo.specs.FirstNumbers.{Numbers, number_of, put, Finds}
use Rattle.hhbc_repo.proofs.Elements.{slice_inside, slice_last}

-- a name that is found is the other
pub same_name : (q name : Name) → is_name q name ≡ true → q ≡ name
same_name [] [] e = refl
same_name [] (n ∷ ns) e = absurd (cc)
same_name (q ∷ qs) [] e = absurd (cc)
same_name (q ∷ qs) (n ∷ ns) e = grind (arith, same_name qs ns)

pub found_names : (all : List Name) (name : Name) → is_some (place_in all name) ≡ names all name
found_names [] name = refl
found_names (n ∷ ns) name = grind (arith, found_names ns name)

pub absent_names : (all : List Name) (name : Name) → place_in all name ≡ None → names all name ≡ false
absent_names all name e = sym (found_names all name) ∙ ap is_some e

pub there_names : (all : List Name) (name : Name) (i : ℕ) → place_in all name ≡ Some i → names all name ≡ true
there_names all name i e = sym (found_names all name) ∙ ap is_some e

put_when : (b : Bool) (t : Numbers) (name : Name) (n : ℕ) → names t.known name ≡ b
    → put t name n ≡ (if b then t else record { known = t.known ++ name ∷ []; firsts = t.firsts ++ n ∷ [] })
put_when b t name n e = ap (λ (c : Bool). if c then t else record { known = t.known ++ name ∷ []; firsts = t.firsts ++ n ∷ [] }) e

put_there : (t : Numbers) (name : Name) (n i : ℕ) → place_in t.known name ≡ Some i → put t name n ≡ t
put_there t name n i e = put_when true t name n (there_names t.known name i e)

put_absent : (t : Numbers) (name : Name) (n : ℕ) → place_in t.known name ≡ None → put t name n ≡ record { known = t.known ++ name ∷ []; firsts = t.firsts ++ n ∷ [] }
put_absent t name n e = put_when false t name n (absent_names t.known name e)

-- ---- places

pub place_step : (n : Name) (ns : List Name) (q : Name) → place_in (n ∷ ns) q ≡ cond (is_name q n) (Some 0) (option_map (λ k. suc k) (place_in ns q))
place_step n ns q = grind arith

abbrev pub place_else : Bool → ℕ → Option ℕ → Option ℕ
place_else b n found = or_else found (cond b (Some n) None)

pub place_append : (all : List Name) (name q : Name) → place_in (all ++ name ∷ []) q ≡ place_else (is_name q name) (length all) (place_in all q)
place_append [] name q = place_step name [] q
place_append (n ∷ ns) name q =
    place_step n (ns ++ name ∷ []) q
    ∙ ap (λ o. cond (is_name q n) (Some 0) (option_map (λ k. suc k) o)) (place_append ns name q)
    ∙ moved (is_name q n) (is_name q name) (length ns) (place_in ns q)
    ∙ ap (λ o. place_else (is_name q name) (suc (length ns)) o) (sym (place_step n ns q))
  where
    moved : (first last : Bool) (k : ℕ) (o : Option ℕ)
        → cond first (Some 0) (option_map (λ k. suc k) (place_else last k o)) ≡ place_else last (suc k) (cond first (Some 0) (option_map (λ k. suc k) o))
    moved true last k o = refl
    moved false last k (Some i) = refl
    moved false true k None = refl
    moved false false k None = refl

-- ---- numbers found

slice_append : (xs : List ℕ) (n i : ℕ) → i < length xs → slice_get (xs ++ n ∷ []) i ≡ slice_get xs i
slice_append [] n i h = absurd (omega arith)
slice_append (x ∷ xs) n zero h = refl
slice_append (x ∷ xs) n (suc i) h = slice_append xs n i (omega arith)

pub place_inside : (all : List Name) (q : Name) (i : ℕ) → place_in all q ≡ Some i → i < length all
place_inside all q i e = (position-Some (is_name q) all i [] e).0

number_append : (known : List Name) (firsts : List ℕ) (name q : Name) (n : ℕ) → length known ≡ length firsts
    → number_at (firsts ++ n ∷ []) (place_in (known ++ name ∷ []) q) ≡ or_else (number_at firsts (place_in known q)) (cond (is_name q name) (Some n) None)
number_append known firsts name q n e =
    ap (λ o. number_at (firsts ++ n ∷ []) o) (place_append known name q) ∙ go (place_in known q) (is_name q name) refl
  where
    go : (o : Option ℕ) (b : Bool) → place_in known q ≡ o → number_at (firsts ++ n ∷ []) (place_else b (length known) o) ≡ or_else (number_at firsts o) (cond b (Some n) None)
    go None true h = ap (λ k. slice_get (firsts ++ n ∷ []) k) e ∙ slice_last firsts n
    go None false h = refl
    go (Some i) b h =
        let inside : i < length firsts = subst (λ k. i < k) e (place_inside known q i h) in
        let v = slice_inside firsts i inside in
        slice_append firsts n i inside ∙ v.1 ∙ ap (λ o. or_else o (cond b (Some n) None)) (sym v.1)

kept : (all : List Name) (b : Bool) (o : Option ℕ) → (b ≡ true → (k : ℕ) × (o ≡ Some k)) → o ≡ place_else b (length all) o
kept all b (Some k) h = refl
kept all false None h = refl
kept all true None h = absurd (cc (h refl).1)

found : (all : List Name) (name q : Name) → is_name q name ≡ true → (k : ℕ) → place_in all name ≡ Some k → (k : ℕ) × (place_in all q ≡ Some k)
found all name q b k e = (k, ap (λ n. place_in all n) (same_name q name b) ∙ e)

-- names with their first places, and one name more
pub put_finds : (t : Numbers) (all : List Name) (name : Name) → Finds t all → Finds (put t name (length all)) (all ++ name ∷ [])
put_finds t all name f = go (place_in t.known name) refl
  where
    go : (o : Option ℕ) → place_in t.known name ≡ o → Finds (put t name (length all)) (all ++ name ∷ [])
    go None h =
        subst (λ p. Finds p (all ++ name ∷ [])) (sym (put_absent t name (length all) h)) (
          length_push t.known name ∙ ap (λ k. k + 1) f.0 ∙ sym (length_push t.firsts (length all)),
          λ q. number_append t.known t.firsts name q (length all) f.0 ∙ ap (λ o. or_else o (cond (is_name q name) (Some (length all)) None)) (f.1 q) ∙ sym (place_append all name q),
        )
    go (Some i) h =
        let v = slice_inside t.firsts i (subst (λ k. i < k) f.0 (place_inside t.known name i h)) in
        let there : place_in all name ≡ Some v.0 = sym (f.1 name) ∙ ap (λ o. number_at t.firsts o) h ∙ v.1 in
        subst (λ p. Finds p (all ++ name ∷ [])) (sym (put_there t name (length all) i h)) (
          f.0,
          λ q. f.1 q ∙ kept all (is_name q name) (place_in all q) (λ b. found all name q b v.0 there) ∙ sym (place_append all name q),
        )

-- the next name is put with its place
pub next_finds : (t new : Numbers) (all : List Name) (n i : ℕ) (other name : Name) → n ≡ i → i < length all → get_or all i other ≡ name → Finds t (take i all) → new ≡ put t name n → Finds new (take (i + 1) all)
next_finds t new all n i other name e inside at f is =
    let longer : take i all ++ name ∷ [] ≡ take (i + 1) all = ap (λ (q : Name). take i all ++ q ∷ []) (sym at) ∙ sym (take_more all i other inside) in
    let number : length (take i all) ≡ n = length-take-le i all (omega arith) ∙ sym e in
    subst (λ l. Finds new l) longer (subst (λ p. Finds p (take i all ++ name ∷ [])) (ap (λ k. put t name k) number ∙ sym is) (put_finds t (take i all) name f))

-- ---- a name that is put

-- a name that is put is found, where it wasn't
pub put_number : (t : Numbers) (name q : Name) (n : ℕ) → length t.known ≡ length t.firsts
    → number_of (put t name n) q ≡ or_else (number_of t q) (cond (is_name q name) (Some n) None)
put_number t name q n e = go (place_in t.known name) refl
  where
    stays : (b : Bool) (o : Option ℕ) → (b ≡ true → (k : ℕ) × (o ≡ Some k)) → o ≡ or_else o (cond b (Some n) None)
    stays b (Some k) h = refl
    stays false None h = refl
    stays true None h = absurd (cc (h refl).1)

    go : (o : Option ℕ) → place_in t.known name ≡ o → number_of (put t name n) q ≡ or_else (number_of t q) (cond (is_name q name) (Some n) None)
    go None h = ap (λ p. number_of p q) (put_absent t name n h) ∙ number_append t.known t.firsts name q n e
    go (Some i) h =
        let v = slice_inside t.firsts i (subst (λ k. i < k) e (place_inside t.known name i h)) in
        let there : number_of t name ≡ Some v.0 = ap (λ o. number_at t.firsts o) h ∙ v.1 in
        ap (λ p. number_of p q) (put_there t name n i h)
        ∙ stays (is_name q name) (number_of t q) (λ b. (v.0, ap (λ k. number_of t k) (same_name q name b) ∙ there))

pub put_paired : (t : Numbers) (name : Name) (n : ℕ) → length t.known ≡ length t.firsts → length (put t name n).known ≡ length (put t name n).firsts
put_paired t name n e = go (place_in t.known name) refl
  where
    go : (o : Option ℕ) → place_in t.known name ≡ o → length (put t name n).known ≡ length (put t name n).firsts
    go None h =
        subst (λ p. length p.known ≡ length p.firsts) (sym (put_absent t name n h))
        (length_push t.known name ∙ ap (λ k. k + 1) e ∙ sym (length_push t.firsts n))
    go (Some i) h = subst (λ p. length p.known ≡ length p.firsts) (sym (put_there t name n i h)) e
