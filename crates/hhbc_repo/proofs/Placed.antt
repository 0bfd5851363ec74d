-- Where objects keep their properties.
use Rattle.std.proofs.Common.{◌≡◌, ◌≤◌, ◌<◌, ◌+◌, ◌-◌, ◌^◌, ◌⊎◌, inl, inr, ℕ, zero, suc, Bool, true, false, ◌||◌, ◌==◌, cond, Option, Some, None, option_map, IfSome, List, [], ◌∷◌, ◌++◌, map, length, replicate, reverse, slice_get, refl, sym, ap, ap₂, ◌∙◌, subst, arith, length-append}
use Rattle.std.specs.Prelude.{nat_eq}
use Rattle.std.specs.List.{flat_map, position}
use Rattle.std.proofs.lemmas.Bool.{eqb-true, eq-eqb}
use Rattle.std.proofs.lemmas.List.{append-nil, length-map, length-replicate, reverse-append}
use Rattle.std.proofs.lemmas.Grind.{flat_map-append}
use Rattle.type_lattice.specs.Classes.{Tree, Forest, below, chain, has, parent_of}
use Rattle.type_lattice.proofs.Chains.{below_antisym, below_up_one, below_here, chain_root, chain_shorter, chain_step, chain_up}
use Rattle.hhbc_repo.specs.declared.repo.Class.{Class}
use Rattle.hhbc_repo.specs.declared.repo.Property.{Property}
use Rattle.hhbc_repo.specs.Bodies.{built_in_counts, class_names, numbers, own_from, properties_of, property_counts, tree_of}
use Rattle.hhbc_repo.specs.Members.{starts}
use Rattle.hhbc_repo.specs.Linked.{Linked}
use Rattle.hhbc_repo.specs.LinkFaults.{Name, at_class, place_in}
use Rattle.hhbc_repo.specs.LookUps.{all_properties, first_some, number_at, or_else, own_number, property_names, property_of, property_owners_from, total}
use Rattle.hhbc_repo.specs.Places.{place_among, place_here, place_of, place_up}
use Rattle.hhbc_repo.proofs.ChangedParts.{copies_end}
use Rattle.hhbc_repo.proofs.MethodsFound.{given}
use Rattle.hhbc_repo.proofs.Numbered.{numbers-get}
use Rattle.hhbc_repo.proofs.NumbersPut.{place_inside}

-- ---- numbers in lists

position_step : (n x : ℕ) (xs : List ℕ) → position (nat_eq n) (x ∷ xs) ≡ cond (n == x) (Some 0) (option_map (λ k. suc k) (position (nat_eq n) xs))
position_step n x xs = grind arith

there : (n : ℕ) (xs : List ℕ) → has n xs ≡ true → (i : ℕ) × (position (nat_eq n) xs ≡ Some i)
there n [] h = absurd (cc)
there n (x ∷ xs) h = go (n == x) refl (λ k. there n xs k)
  where
    go : (b : Bool) → (n == x) ≡ b → (has n xs ≡ true → (i : ℕ) × (position (nat_eq n) xs ≡ Some i)) → (i : ℕ) × (position (nat_eq n) (x ∷ xs) ≡ Some i)
    go true e more = (0, position_step n x xs ∙ ap (λ c. cond c (Some 0) (option_map (λ k. suc k) (position (nat_eq n) xs))) e)
    go false e more =
        let w = more (sym (ap (λ (c : Bool). c || has n xs) e) ∙ h) in
        (suc w.0, position_step n x xs ∙ ap₂ (λ (c : Bool) (o : Option ℕ). cond c (Some 0) (option_map (λ k. suc k) o)) e w.1)

position_front : (n i : ℕ) (xs ys : List ℕ) → position (nat_eq n) xs ≡ Some i → position (nat_eq n) (xs ++ ys) ≡ Some i
position_front n i [] ys h = absurd (cc)
position_front n i (x ∷ xs) ys h =
    position_step n x (xs ++ ys) ∙ go (n == x) (position (nat_eq n) xs) refl (λ j e. position_front n j xs ys e) (sym (position_step n x xs) ∙ h)
  where
    go : (b : Bool) (o : Option ℕ) → position (nat_eq n) xs ≡ o → ((j : ℕ) → position (nat_eq n) xs ≡ Some j → position (nat_eq n) (xs ++ ys) ≡ Some j)
        → cond b (Some 0) (option_map (λ k. suc k) o) ≡ Some i → cond b (Some 0) (option_map (λ k. suc k) (position (nat_eq n) (xs ++ ys))) ≡ Some i
    go true o e more k = k
    go false None e more k = absurd (cc)
    go false (Some j) e more k = ap (λ (p : Option ℕ). option_map (λ k. suc k) p) (more j e) ∙ k

position_behind : (n i : ℕ) (xs ys : List ℕ) → has n xs ≡ false → position (nat_eq n) ys ≡ Some i → position (nat_eq n) (xs ++ ys) ≡ Some (length xs + i)
position_behind n i [] ys h k = k ∙ ap (λ m. Some m) (omega arith)
position_behind n i (x ∷ xs) ys h k = position_step n x (xs ++ ys) ∙ go (n == x) h (λ e. position_behind n i xs ys e k)
  where
    go : (b : Bool) → (b || has n xs) ≡ false → (has n xs ≡ false → position (nat_eq n) (xs ++ ys) ≡ Some (length xs + i))
        → cond b (Some 0) (option_map (λ k. suc k) (position (nat_eq n) (xs ++ ys))) ≡ Some (suc (length xs) + i)
    go true e more = absurd (cc)
    go false e more = ap (λ (p : Option ℕ). option_map (λ k. suc k) p) (more e) ∙ ap (λ m. Some m) (omega arith)

has_both : (n : ℕ) (xs ys : List ℕ) → has n (xs ++ ys) ≡ (has n xs || has n ys)
has_both n [] ys = refl
has_both n (x ∷ xs) ys = go (n == x) (has_both n xs ys)
  where
    go : (b : Bool) → has n (xs ++ ys) ≡ (has n xs || has n ys) → (b || has n (xs ++ ys)) ≡ ((b || has n xs) || has n ys)
    go true more = refl
    go false more = more

-- ---- runs of numbers

numbers_low : (n s k : ℕ) → has n (numbers s k) ≡ true → (s ≤ n) × (n < s + k)
numbers_low n s zero h = absurd (cc)
numbers_low n s (suc k) h = go (n == s) refl (λ e. numbers_low n (suc s) k e)
  where
    go : (b : Bool) → (n == s) ≡ b → (has n (numbers (suc s) k) ≡ true → (suc s ≤ n) × (n < suc s + k)) → (s ≤ n) × (n < s + suc k)
    go true e more = let q = eqb-true n s e in (omega (arith, q), omega (arith, q))
    go false e more = let w = more (sym (ap (λ (c : Bool). c || has n (numbers (suc s) k)) e) ∙ h) in let a = w.0 in let b = w.1 in (omega (arith, a), omega (arith, b))

numbers_there : (s k p : ℕ) → p < k → (has (s + p) (numbers s k) ≡ true) × (position (nat_eq (s + p)) (numbers s k) ≡ Some p)
numbers_there s zero p h = absurd (omega (arith, h))
numbers_there s (suc k) zero h =
    let e : (s + 0 == s) ≡ true = eq-eqb (s + 0) s (omega arith) in (
      ap (λ (c : Bool). c || has (s + 0) (numbers (suc s) k)) e,
      position_step (s + 0) s (numbers (suc s) k) ∙ ap (λ (c : Bool). cond c (Some 0) (option_map (λ k. suc k) (position (nat_eq (s + 0)) (numbers (suc s) k)))) e,
    )
numbers_there s (suc k) (suc p) h =
    let w = numbers_there (suc s) k p (omega (arith, h)) in
    let z : suc s + p ≡ s + suc p = omega arith in
    let a : has (s + suc p) (numbers (suc s) k) ≡ true = subst (λ (n : ℕ). has n (numbers (suc s) k) ≡ true) z w.0 in
    let b : position (nat_eq (s + suc p)) (numbers (suc s) k) ≡ Some p = subst (λ (n : ℕ). position (nat_eq n) (numbers (suc s) k) ≡ Some p) z w.1 in
    go (s + suc p == s) refl a b
  where
    go : (c : Bool) → (s + suc p == s) ≡ c → has (s + suc p) (numbers (suc s) k) ≡ true → position (nat_eq (s + suc p)) (numbers (suc s) k) ≡ Some p
        → (has (s + suc p) (numbers s (suc k)) ≡ true) × (position (nat_eq (s + suc p)) (numbers s (suc k)) ≡ Some (suc p))
    go true e a b = let q = eqb-true (s + suc p) s e in absurd (omega (arith, q))
    go false e a b = (
      ap₂ (λ (x y : Bool). x || y) e a,
      position_step (s + suc p) s (numbers (suc s) k) ∙ ap₂ (λ (x : Bool) (o : Option ℕ). cond x (Some 0) (option_map (λ k. suc k) o)) e b,
    )

numbers_count : (s k : ℕ) → length (numbers s k) ≡ k
numbers_count s zero = refl
numbers_count s (suc k) = ap suc (numbers_count (suc s) k)

-- ---- what classes declare

abbrev counts : List (List Name) → List ℕ
counts table = map (λ (names : List Name). length names) table

abbrev count : List (List Name) → ℕ → ℕ
count table c = length (at_class (slice_get table c))

own_run : (s : ℕ) (table : List (List Name)) (c : ℕ) → (first : ℕ) × (own_from s (counts table) c ≡ numbers first (count table c))
own_run s [] c = (0, refl)
own_run s (names ∷ table) zero = (s, refl)
own_run s (names ∷ table) (suc c) = own_run (s + length names) table c

own_low : (n s : ℕ) (table : List (List Name)) (c : ℕ) → has n (own_from s (counts table) c) ≡ true → s ≤ n
own_low n s [] c h = absurd (cc)
own_low n s (names ∷ table) zero h = (numbers_low n s (length names) h).0
own_low n s (names ∷ table) (suc c) h = let w = own_low n (s + length names) table c h in omega (arith, w)

apart : (n s : ℕ) (table : List (List Name)) (c d : ℕ) → has n (own_from s (counts table) c) ≡ true → has n (own_from s (counts table) d) ≡ true → c ≡ d
apart n s [] c d h k = absurd (cc)
apart n s (names ∷ table) zero zero h k = refl
apart n s (names ∷ table) zero (suc d) h k = let a = (numbers_low n s (length names) h).1 in let b = own_low n (s + length names) table d k in absurd (omega (arith, a, b))
apart n s (names ∷ table) (suc c) zero h k = let a = (numbers_low n s (length names) k).1 in let b = own_low n (s + length names) table c h in absurd (omega (arith, a, b))
apart n s (names ∷ table) (suc c) (suc d) h k = ap suc (apart n (s + length names) table c d h k)

-- none of the classes stands in the list again
abbrev pub Apart : List ℕ → Type 0
Apart [] = Unit {0}
Apart (c ∷ cs) = (has c cs ≡ false) × Apart cs

-- how many these classes declare
abbrev pub sums : List (List Name) → List ℕ → ℕ
sums table [] = 0
sums table (c ∷ cs) = count table c + sums table cs

-- ---- no more than all

blank : List (List Name) → ℕ → List (List Name)
blank [] c = []
blank (names ∷ table) zero = [] ∷ table
blank (names ∷ table) (suc c) = names ∷ blank table c

blank_total : (table : List (List Name)) (c : ℕ) → count table c + total (blank table c) ≡ total table
unfolding blank
blank_total [] c = omega arith
blank_total (names ∷ table) zero = omega arith
blank_total (names ∷ table) (suc c) = let e = blank_total table c in omega (arith, e)

blank_other : (table : List (List Name)) (c d : ℕ) → (c == d) ≡ false → count (blank table c) d ≡ count table d
unfolding blank
blank_other [] c d h = refl
blank_other (names ∷ table) zero zero h = absurd (cc)
blank_other (names ∷ table) zero (suc d) h = refl
blank_other (names ∷ table) (suc c) zero h = refl
blank_other (names ∷ table) (suc c) (suc d) h = blank_other table c d (differ c d h)
  where
    differ : (c d : ℕ) → (suc c == suc d) ≡ false → (c == d) ≡ false
    differ c d h = go (c == d) refl
      where
        go : (b : Bool) → (c == d) ≡ b → (c == d) ≡ false
        go true e = let q = eqb-true c d e in let r = eq-eqb (suc c) (suc d) (ap suc q) in absurd (cc)
        go false e = e

blank_sums : (table : List (List Name)) (c : ℕ) (cs : List ℕ) → has c cs ≡ false → sums (blank table c) cs ≡ sums table cs
blank_sums table c [] h = refl
blank_sums table c (d ∷ ds) h = go (c == d) refl h (λ k. blank_sums table c ds k)
  where
    go : (b : Bool) → (c == d) ≡ b → (b || has c ds) ≡ false → (has c ds ≡ false → sums (blank table c) ds ≡ sums table ds) → sums (blank table c) (d ∷ ds) ≡ sums table (d ∷ ds)
    go true e k more = absurd (cc)
    go false e k more = ap₂ (λ (x y : ℕ). x + y) (blank_other table c d e) (more k)

pub sums_bound : (table : List (List Name)) (cs : List ℕ) → Apart cs → sums table cs ≤ total table
sums_bound table [] h = omega arith
sums_bound table (c ∷ cs) h =
    let a = sums_bound (blank table c) cs h.1 in let b = blank_sums table c cs h.0 in let e = blank_total table c in omega (arith, a, b, e)

-- ---- places

module _ (table : List (List Name)) (name : Name) where
  abbrev own : ℕ → List ℕ
  own c = own_from 0 (counts table) c

  abbrev all : List ℕ → List ℕ
  all cs = flat_map own (reverse cs)

  all_step : (c : ℕ) (cs : List ℕ) → all (c ∷ cs) ≡ all cs ++ own c
  all_step c cs =
      ap (flat_map own) (reverse-append (c ∷ []) cs) ∙ flat_map-append own (reverse cs) (c ∷ [])
      ∙ ap (λ (l : List ℕ). all cs ++ l) (append_nil_own c)
    where
      append_nil_own : (c : ℕ) → flat_map own (c ∷ []) ≡ own c
      append_nil_own c = append-nil (own c)

  own_count : (c : ℕ) → length (own c) ≡ count table c
  own_count c = let w = own_run 0 table c in ap (λ (l : List ℕ). length l) w.1 ∙ numbers_count w.0 (count table c)

  all_count : (cs : List ℕ) → length (all cs) ≡ sums table cs
  all_count [] = refl
  all_count (c ∷ cs) =
      let e = ap (λ (l : List ℕ). length l) (all_step c cs) in let a = length-append (all cs) (own c) in let o = own_count c in let i = all_count cs in omega (arith, e, a, o, i)

  not_in : (n c : ℕ) (cs : List ℕ) → has n (own c) ≡ true → has c cs ≡ false → has n (all cs) ≡ false
  not_in n c [] h k = refl
  not_in n c (d ∷ ds) h k = go (c == d) refl k (λ f. not_in n c ds h f)
    where
      go : (b : Bool) → (c == d) ≡ b → (b || has c ds) ≡ false → (has c ds ≡ false → has n (all ds) ≡ false) → has n (all (d ∷ ds)) ≡ false
      go true e f more = absurd (cc)
      go false e f more = ap (has n) (all_step d ds) ∙ has_both n (all ds) (own d) ∙ ap₂ (λ (x y : Bool). x || y) (more f) (own_other (has n (own d)) refl)
        where
          own_other : (x : Bool) → has n (own d) ≡ x → has n (own d) ≡ false
          own_other true g = let q = apart n 0 table c d h g in let r = eq-eqb c d q in absurd (cc)
          own_other false g = g

  is_in : (n d : ℕ) (cs : List ℕ) → has d cs ≡ true → has n (own d) ≡ true → has n (all cs) ≡ true
  is_in n d [] h k = absurd (cc)
  is_in n d (c ∷ cs) h k = go (d == c) refl h (λ f. is_in n d cs f k)
    where
      either_true : (x : Bool) → (x || true) ≡ true
      either_true true = refl
      either_true false = refl

      go : (b : Bool) → (d == c) ≡ b → (b || has d cs) ≡ true → (has d cs ≡ true → has n (all cs) ≡ true) → has n (all (c ∷ cs)) ≡ true
      go true e f more =
          let q = eqb-true d c e in
          ap (has n) (all_step c cs) ∙ has_both n (all cs) (own c) ∙ ap (λ (x : Bool). has n (all cs) || x) (subst (λ (m : ℕ). has n (own m) ≡ true) q k) ∙ either_true (has n (all cs))
      go false e f more = ap (has n) (all_step c cs) ∙ has_both n (all cs) (own c) ∙ ap (λ (x : Bool). x || has n (own c)) (more f)

  -- a place in a class is one of its numbers
  own_at : (c p : ℕ) → place_in (at_class (slice_get table c)) name ≡ Some p → (n : ℕ) × (own_number 0 table name c ≡ Some n) × (has n (own c) ≡ true) × (position (nat_eq n) (own c) ≡ Some p)
  own_at c p h =
      let w = own_run 0 table c in
      let inside = place_inside (at_class (slice_get table c)) name p h in
      let v = numbers_there w.0 (count table c) p inside in (
        w.0 + p,
        ap (number_at (own c)) h ∙ ap (λ (l : List ℕ). slice_get l p) w.1 ∙ numbers-get w.0 (count table c) p inside,
        ap (has (w.0 + p)) w.1 ∙ v.0,
        ap (position (nat_eq (w.0 + p))) w.1 ∙ v.1,
      )

  own_none : (c : ℕ) → place_in (at_class (slice_get table c)) name ≡ None → own_number 0 table name c ≡ None
  own_none c h = ap (number_at (own c)) h

  own_has : (c n : ℕ) → own_number 0 table name c ≡ Some n → has n (own c) ≡ true
  own_has c n h = go (place_in (at_class (slice_get table c)) name) refl
    where
      go : (o : Option ℕ) → place_in (at_class (slice_get table c)) name ≡ o → has n (own c) ≡ true
      go None e = let k = sym h ∙ own_none c e in absurd (cc)
      go (Some p) e = let w = own_at c p e in let k : Some w.0 ≡ Some n = sym w.1 ∙ h in let q : w.0 ≡ n = cc in subst (λ (m : ℕ). has m (own c) ≡ true) q w.2

  further : (p : ℕ) (cs : List ℕ) → place_up table name (Some p) cs ≡ Some (p + sums table cs)
  further p [] = ap (λ n. Some n) (omega arith)
  further p (c ∷ cs) = further (p + count table c) cs ∙ ap (λ n. Some n) (omega arith)

  pub placed : (cs : List ℕ) → Apart cs → place_up table name None cs ≡ place_among (all cs) (first_some (own_number 0 table name) cs)
  placed [] h = refl
  placed (c ∷ cs) h = go (place_in (at_class (slice_get table c)) name) refl (placed cs h.1)
    where
      later : (o : Option ℕ) → first_some (own_number 0 table name) cs ≡ o → place_among (all cs) o ≡ place_among (all (c ∷ cs)) o
      later None e = refl
      later (Some n) e =
          let d = given (own_number 0 table name) cs n e in
          let t = there n (all cs) (is_in n d.0 cs d.1 (own_has d.0 n d.2)) in
          t.1 ∙ sym (ap (position (nat_eq n)) (all_step c cs) ∙ position_front n t.0 (all cs) (own c) t.1)

      go : (o : Option ℕ) → place_in (at_class (slice_get table c)) name ≡ o → place_up table name None cs ≡ place_among (all cs) (first_some (own_number 0 table name) cs)
          → place_up table name None (c ∷ cs) ≡ place_among (all (c ∷ cs)) (first_some (own_number 0 table name) (c ∷ cs))
      go None e more =
          ap (λ (o : Option ℕ). place_up table name o cs) e ∙ more
          ∙ later (first_some (own_number 0 table name) cs) refl
          ∙ ap (λ (o : Option ℕ). place_among (all (c ∷ cs)) (or_else o (first_some (own_number 0 table name) cs))) (sym (own_none c e))
      go (Some p) e more =
          let w = own_at c p e in
          let k = all_count cs in
          let sum : p + sums table cs ≡ length (all cs) + p = omega (arith, k) in
          ap (λ (o : Option ℕ). place_up table name o cs) e ∙ further p cs ∙ ap (λ n. Some n) sum
          ∙ sym (ap (position (nat_eq w.0)) (all_step c cs) ∙ position_behind w.0 p (all cs) (own c) (not_in w.0 c cs w.2 h.0) w.3)
          ∙ ap (λ (o : Option ℕ). place_among (all (c ∷ cs)) (or_else o (first_some (own_number 0 table name) cs))) (sym w.1)

-- ---- bounds on the way up

pub if_some : (o : Option ℕ) (P Q : ℕ → Type 0) → ((p : ℕ) → P p → Q p) → IfSome o P → IfSome o Q
if_some None P Q f h = tt
if_some (Some p) P Q f h = f p h

pub place_bound : (table : List (List Name)) (name : Name) (o : Option ℕ) (c : ℕ) (cs : List ℕ) → IfSome o (λ p. p + sums table (c ∷ cs) ≤ total table) → sums table (c ∷ cs) ≤ total table
    → IfSome (place_here table name o c) (λ p. p + sums table cs ≤ total table)
place_bound table name (Some p) c cs h k = omega (arith, h)
place_bound table name None c cs h k = go (place_in (at_class (slice_get table c)) name) refl
  where
    go : (o : Option ℕ) → place_in (at_class (slice_get table c)) name ≡ o → IfSome o (λ p. p + sums table cs ≤ total table)
    go None e = tt
    go (Some p) e = let i = place_inside (at_class (slice_get table c)) name p e in omega (arith, i, k)

-- ---- chains

module _ (t : Tree) (forest : Forest t) where
  above_apart : (c p : ℕ) → parent_of t c ≡ Some p → has c (chain t p) ≡ false
  above_apart c p e = go (has c (chain t p)) refl
    where
      go : (b : Bool) → has c (chain t p) ≡ b → has c (chain t p) ≡ false
      go true h =
          let up = below_up_one t forest c p p e (below_here t forest p p refl) in
          let same = below_antisym t forest p c h up in
          let less = chain_shorter t forest c p e in
          let same_length = ap (λ (n : ℕ). length (chain t n)) same in
          absurd (omega (arith, less, same_length))
      go false h = h

  chains_apart : (k c : ℕ) → length (chain t c) ≤ k → Apart (chain t c)
  chains_apart zero c h = go (parent_of t c) refl
    where
      go : (o : Option ℕ) → parent_of t c ≡ o → Apart (chain t c)
      go None e = subst Apart (sym (chain_root t forest c e)) (refl, tt)
      go (Some p) e = let s = chain_shorter t forest c p e in absurd (omega (arith, s, h))
  chains_apart (suc k) c h = go (parent_of t c) refl (λ p. chains_apart k p)
    where
      go : (o : Option ℕ) → parent_of t c ≡ o → ((p : ℕ) → length (chain t p) ≤ k → Apart (chain t p)) → Apart (chain t c)
      go None e more = subst Apart (sym (chain_root t forest c e)) (refl, tt)
      go (Some p) e more = let s = chain_shorter t forest c p e in subst Apart (sym (chain_up t forest c p e)) (above_apart c p e, more p (omega (arith, s, h)))

  pub chain_sums : (table : List (List Name)) (c : ℕ) → sums table (chain t c) ≤ total table
  chain_sums table c = sums_bound table (chain t c) (chains_apart (length (chain t c)) c (omega arith))

  pub chain_first : (table : List (List Name)) (c p : ℕ) → p + sums table (chain t c) ≤ total table → total table < 2 ^ 32 → p + count table c < 2 ^ 32
  chain_first table c p h k = let e = ap (sums table) (chain_step t forest c) in omega (arith, h, k, e)

  pub chain_apart : (c : ℕ) → Apart (chain t c)
  chain_apart c = chains_apart (length (chain t c)) c (omega arith)

-- ---- repositories

counts_of : (cs : List Class) → map (λ (names : List Name). length names) (property_names cs) ≡ map (λ (c : Class). length c.props) cs
counts_of [] = refl
counts_of (c ∷ cs) = ap₂ (λ (n : ℕ) (ns : List ℕ). n ∷ ns) (length-map c.props (λ (p : Property). p.name)) (counts_of cs)

pub counts_are : (r : Linked) → map (λ (names : List Name). length names) (all_properties r) ≡ property_counts r
counts_are r = ap (λ (ns : List ℕ). built_in_counts ++ ns) (counts_of r.classes)

pub place_found : (r : Linked) → Forest (tree_of r) → (c : ℕ) (name : Name) → place_up (all_properties r) name None (chain (tree_of r) c) ≡ place_of r c name
place_found r forest c name =
    placed (all_properties r) name (chain (tree_of r) c) (chain_apart (tree_of r) forest c)
    ∙ ap (λ (ns : List ℕ). place_among (flat_map (λ d. own_from 0 ns d) (reverse (chain (tree_of r) c))) (property_of r c name)) (counts_are r)

-- ---- what each class declares, by number

pub own_begins : (s : ℕ) (table : List (List Name)) (c f : ℕ) → slice_get (starts s table) c ≡ Some f → own_from s (counts table) c ≡ numbers f (count table c)
own_begins s [] c f e = absurd (cc)
own_begins s (names ∷ table) zero f e = let same : s ≡ f = cc in ap (λ (n : ℕ). numbers n (length names)) same
own_begins s (names ∷ table) (suc c) f e = own_begins (s + length names) table c f e

pub tables_count : (r : Linked) → length (all_properties r) ≡ length (class_names r)
tables_count r =
    let a = length-map r.classes (λ (c : Class). map (λ (p : Property). p.name) c.props) in
    let b = length-map r.classes (λ (c : Class). c.name) in
    omega (arith, a, b)

pub owners_count : (n : ℕ) (table : List (List Name)) → length (property_owners_from n table) ≡ total table
owners_count n [] = refl
owners_count n (names ∷ table) =
    let a = length-append (replicate (length names) n) (property_owners_from (suc n) table) in
    let b = length-replicate (length names) n in
    let i = owners_count (suc n) table in
    omega (arith, a, b, i)

-- the class of a property is one of those that are listed
pub owner_inside : (n : ℕ) (table : List (List Name)) (i c : ℕ) → slice_get (property_owners_from n table) i ≡ Some c → (n ≤ c) × (c < n + length table)
owner_inside n [] i c e = absurd (cc)
owner_inside n (names ∷ table) i c e = go (copies_end (length names) n i (property_owners_from (suc n) table) c e) (λ k. owner_inside (suc n) table (i - length names) c k)
  where
    go : ((i < length names) × (c ≡ n)) ⊎ ((length names ≤ i) × (slice_get (property_owners_from (suc n) table) (i - length names) ≡ Some c))
        → (slice_get (property_owners_from (suc n) table) (i - length names) ≡ Some c → (suc n ≤ c) × (c < suc n + length table)) → (n ≤ c) × (c < n + suc (length table))
    go (inl w) more = let e = w.1 in (omega (arith, e), omega (arith, e))
    go (inr w) more = let m = more w.1 in let a = m.0 in let b = m.1 in (omega (arith, a), omega (arith, b))
