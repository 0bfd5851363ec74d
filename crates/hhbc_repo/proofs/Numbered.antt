-- The numbers of what classes declare, by the number of each class's first.
use Rattle.std.proofs.Common.{◌≡◌, ◌<◌, ◌≤◌, ◌^◌, ℕ, zero, suc, ◌+◌, List, [], ◌∷◌, ◌++◌, refl, ap, sym, ◌∙◌, Option, Some, slice_get, map, length, arith, subst, option_map, true, append_assoc}
use Rattle.std.proofs.lemmas.Bool.{and_parts}
use Rattle.std.proofs.lemmas.Option.{slice_get-map}
use Rattle.std.proofs.lemmas.List.{map-append}
use Rattle.std.specs.List.{list_all}
use Rattle.hhbc_repo.specs.declared.members.Row.{Row}
use Rattle.hhbc_repo.specs.declared.repo.Class.{Class}
use Rattle.hhbc_repo.specs.Names.{distinct}
use Rattle.hhbc_repo.specs.Bodies.{numbers, own_from}
use Rattle.hhbc_repo.specs.LinkFaults.{place_in, at_class}
use Rattle.hhbc_repo.specs.LookUps.{total, own_number, number_at}
use Rattle.hhbc_repo.proofs.NumbersPut.{place_inside}
use Rattle.hhbc_repo.specs.Members.{starts, names_of, Counted}

pub numbers-get : (s n p : ℕ) → p < n → slice_get (numbers s n) p ≡ Some (s + p)
numbers-get s zero p h = absurd (omega arith)
numbers-get s (suc n) zero h = let e : s ≡ s + 0 = omega arith in ap (λ k. Some k) e
numbers-get s (suc n) (suc p) h = let e : suc s + p ≡ s + suc p = omega arith in numbers-get (suc s) n p (omega arith) ∙ ap (λ k. Some k) e

-- where a list begins
pub own-get : (s : ℕ) (rows : List Row) (d p : ℕ) (row : Row) → map (λ (r : Row). r.first) rows ≡ starts s (names_of rows) → slice_get rows d ≡ Some row → p < length row.names
    → slice_get (own_from s (map length (names_of rows)) d) p ≡ Some (row.first + p)
own-get s [] d p row e h k = absurd (cc)
own-get s (r ∷ rows) zero p row e h k =
    let same : r ≡ row = cc in let first : r.first ≡ s = cc in
    subst (λ (q : Row). p < length q.names → slice_get (numbers s (length r.names)) p ≡ Some (q.first + p)) same
    (λ b. numbers-get s (length r.names) p b ∙ ap (λ n. Some (n + p)) (sym first)) k
own-get s (r ∷ rows) (suc d) p row e h k = own-get (s + length r.names) rows d p row (cc) h k

pub row-bound : (s : ℕ) (rows : List Row) (d : ℕ) (row : Row) → map (λ (r : Row). r.first) rows ≡ starts s (names_of rows) → slice_get rows d ≡ Some row
    → row.first + length row.names ≤ s + total (names_of rows)
row-bound s [] d row e h = absurd (cc)
row-bound s (r ∷ rows) zero row e h =
    let same : r ≡ row = cc in let first : r.first ≡ s = cc in
    subst (λ (q : Row). q.first + length q.names ≤ s + (length r.names + total (names_of rows))) same (omega (arith, first))
row-bound s (r ∷ rows) (suc d) row e h = let b = row-bound (s + length r.names) rows d row (cc) h in omega (arith, b)

pub row-names : (rows : List Row) (d : ℕ) (row : Row) → slice_get rows d ≡ Some row → slice_get (names_of rows) d ≡ Some row.names
row-names rows d row h = slice_get-map (λ (r : Row). r.names) rows d ∙ ap (option_map (λ (r : Row). r.names)) h

pub total_append : (xs : List (List (List ℕ))) (y : List (List ℕ)) → total (xs ++ y ∷ []) ≡ total xs + length y
total_append [] y = omega arith
total_append (x ∷ xs) y = let e = total_append xs y in omega (arith, e)

starts-append : (s : ℕ) (xs : List (List (List ℕ))) (y : List (List ℕ)) → starts s (xs ++ y ∷ []) ≡ starts s xs ++ (s + total xs) ∷ []
starts-append s [] y = let e : s ≡ s + 0 = omega arith in ap (λ n. n ∷ []) e
starts-append s (x ∷ xs) y = let e : (s + length x) + total xs ≡ s + (length x + total xs) = omega arith in
    ap (λ l. s ∷ l) (starts-append (s + length x) xs y ∙ ap (λ n. starts (s + length x) xs ++ n ∷ []) e)

firsts-append : (rows : List Row) (r : Row) → map (λ (q : Row). q.first) (rows ++ r ∷ []) ≡ map (λ (q : Row). q.first) rows ++ r.first ∷ []
firsts-append rows r = map-append (λ (q : Row). q.first) rows (r ∷ [])

pub names_of-append : (rows : List Row) (r : Row) → names_of (rows ++ r ∷ []) ≡ names_of rows ++ r.names ∷ []
names_of-append rows r = map-append (λ (q : Row). q.names) rows (r ∷ [])

pub counted-more : (first next : ℕ) (rows : List Row) (r : Row) → Counted first next rows → r.first ≡ next → next + length r.names < 2 ^ 32 → Counted first (next + length r.names) (rows ++ r ∷ [])
counted-more first next rows r c e h = record {
  firsts =
      firsts-append rows r
      ∙ ap (λ l. l ++ r.first ∷ []) c.firsts
      ∙ ap (λ n. starts first (names_of rows) ++ n ∷ []) (e ∙ c.last)
      ∙ sym (starts-append first (names_of rows) r.names)
      ∙ ap (starts first) (sym (names_of-append rows r));
  last =
      let t : total (names_of (rows ++ r ∷ [])) ≡ total (names_of rows) + length r.names = ap total (names_of-append rows r) ∙ total_append (names_of rows) r.names in
      let l = c.last in
      omega (arith, t, l);
  fits = h;
}

-- a place within a class is below the number of all
pub number-fits : (s next : ℕ) (rows : List Row) (d p : ℕ) (row : Row) → Counted s next rows → slice_get rows d ≡ Some row → p < length row.names → row.first + p < 2 ^ 32
number-fits s next rows d p row c h k =
    let b = row-bound s rows d row c.firsts h in
    let l = c.last in
    let f = c.fits in
    omega (arith, b, l, f, k)

found : (first : ℕ) (table : List (List (List ℕ))) (d p : ℕ) (here : List (List ℕ)) (name : List ℕ) → slice_get table d ≡ Some here → place_in here name ≡ Some p
    → own_number first table name d ≡ slice_get (own_from first (map length table) d) p
found first table d p here name h k = ap (λ (o : Option (List (List ℕ))). number_at (own_from first (map length table) d) (place_in (at_class o) name)) h ∙ ap (number_at (own_from first (map length table) d)) k

-- what the class of a row declares by a name
pub own-found : (s next : ℕ) (rows : List Row) (d p : ℕ) (row : Row) (name : List ℕ) → Counted s next rows → slice_get rows d ≡ Some row → place_in row.names name ≡ Some p
    → own_number s (names_of rows) name d ≡ Some (row.first + p)
own-found s next rows d p row name c h k = found s (names_of rows) d p row.names name (row-names rows d row h) k ∙ own-get s rows d p row c.firsts h (place_inside row.names name p k)

-- a further class's names, where names are listed by class and those of the classes left are behind them
pub record Listed (f : Class → List (List ℕ)) (first : ℕ) (all here : List (List (List ℕ))) (left : List Class) : Type 0 where
  pub joined : here ++ map f left ≡ all
  pub differ : list_all distinct (map f left) ≡ true
  pub fits : first + (total here + total (map f left)) < 2 ^ 32

listed-cons : (f : Class → List (List ℕ)) (first : ℕ) (all here : List (List (List ℕ))) (c : Class) (rest : List Class) → Listed f first all here (c ∷ rest) → Listed f first all (here ++ f c ∷ []) rest
listed-cons f first all here c rest l = record {
  joined = append_assoc here (f c ∷ []) (map f rest) ∙ l.joined;
  differ = (and_parts (distinct (f c)) (list_all distinct (map f rest)) l.differ).1;
  fits = let t = total_append here (f c) in let h = l.fits in omega (arith, t, h);
}

pub listed-more : (f : Class → List (List ℕ)) (first : ℕ) (all here new : List (List (List ℕ))) (c : Class) (left rest : List Class) → left ≡ c ∷ rest → new ≡ here ++ f c ∷ [] → Listed f first all here left → Listed f first all new rest
listed-more f first all here new c left rest e n l = subst (λ (m : List (List (List ℕ))). Listed f first all m rest) (sym n) (listed-cons f first all here c rest (subst (Listed f first all here) e l))
