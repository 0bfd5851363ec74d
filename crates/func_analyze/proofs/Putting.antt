-- What it does to a table and its list to put flows there.
use Rattle.std.proofs.Common.{◌≡◌, ◌⊎◌, inl, inr, ℕ, zero, suc, ◌+◌, ◌<◌, ◌≤◌, refl, sym, ◌∙◌, ap, subst, List, [], ◌∷◌, ◌++◌, Option, Some, None, length, length-append, slice_get, slice_set, replicate, Contains, Result, Ok, Err, IfOk, arith}
use Rattle.std.proofs.lemmas.List.Elements.{Contains-append_left, Contains-append_right, Contains-push, Contains-push_cases, Contains-append_cases}
use Rattle.std.proofs.lemmas.List.{length-replicate}
use Rattle.func_analyze.specs.Problem.{HasStateOf, HasAboveOf, Covers, FlowsBelow, TableBelow, IsSolutionOf, IsLeastOf}
use Rattle.func_analyze.specs.Worklist.{room, AllFit, Lifts, Puts}

-- the laws of a problem
pub record Laws {State : Type 0} (below : State → State → Type 0) (fits : ℕ → State → Type 0) (positions : ℕ) (start : State)
    (flows : ℕ → State → List (ℕ × State)) (rank : State → ℕ) (top : ℕ) : Type 0 where
  pub reflexive : (s : State) → below s s
  pub transitive : (s t u : State) → below s t → below t u → below s u
  pub monotone : (p : ℕ) (s u : State) → fits p s → below s u → FlowsBelow below (flows p s) (flows p u)
  pub starts : fits 0 start
  pub inside : (p : ℕ) (s : State) → fits p s → p < positions
  pub leads : (p : ℕ) (s : State) → fits p s → (q : ℕ) (t : State) → Contains (flows p s) (q, t) → fits q t
  pub higher : (p : ℕ) (s t : State) → fits p s → fits p t → below s t → (below t s → ⊥) → rank s < rank t
  pub bounded : (p : ℕ) (s : State) → fits p s → rank s ≤ top

-- what the worklist keeps: each state whose flows aren't covered stands on the list, and all states are below those of every solution
pub record Keeps {State : Type 0} (below : State → State → Type 0) (fits : ℕ → State → Type 0) (positions : ℕ) (start : State)
    (flows : ℕ → State → List (ℕ × State)) (T : List (Option State)) (W : List ℕ) : Type 0 where
  pub count : length T ≡ positions
  pub fit : AllFit fits T
  pub enters : HasAboveOf below T 0 start
  pub closed : (p : ℕ) (s : State) → HasStateOf T p s → Contains W p ⊎ Covers below T (flows p s)
  pub least : (U : List (Option State)) → IsSolutionOf below positions start flows U → TableBelow below T U

nothing_in : {A : Type 0} (x : A) → Contains [] x → ⊥
nothing_in x (k, l, e) = absurd (omega arith)

one_in : {A : Type 0} (x y : A) → Contains (x ∷ []) y → x ≡ y
one_in x y (zero, l, e) = e
one_in x y (suc k, l, e) = absurd (omega arith)

one : {A : Type 0} (x : A) → Contains (x ∷ []) x
one x = (0, omega arith, refl)

pub last_in : {A : Type 0} (xs zs : List A) (x : A) → zs ≡ xs ++ x ∷ [] → Contains zs x
last_in xs zs x e = rw e (Contains-push xs x)

pub others_in : {A : Type 0} (xs zs : List A) (x : A) → zs ≡ xs ++ x ∷ [] → (y : A) → Contains xs y → Contains zs y
others_in xs zs x e y m = rw e (Contains-append_left xs (x ∷ []) y m)

pub if_ok : {T E : Type 0} (P Q : T → Type 0) (r : Result T E) → ((x : T) → P x → Q x) → IfOk r P → IfOk r Q
if_ok P Q (Ok x) f h = f x h
if_ok P Q (Err e) f h = tt

-- what a table has at a place where it was set, and elsewhere
set_at : {A : Type 0} (T : List A) (q : ℕ) (n : A) (p : ℕ) → q < length T
    → ((p ≡ q) × (slice_get (slice_set T q n) p ≡ Some n)) ⊎ (slice_get (slice_set T q n) p ≡ slice_get T p)
set_at [] q n p h = absurd (omega arith)
set_at (o ∷ T) zero n zero h = inl (refl, refl)
set_at (o ∷ T) zero n (suc p) h = inr refl
set_at (o ∷ T) (suc q) n zero h = inr refl
set_at (o ∷ T) (suc q) n (suc p) h = go (set_at T q n p (omega arith))
  where
    go : ((p ≡ q) × (slice_get (slice_set T q n) p ≡ Some n)) ⊎ (slice_get (slice_set T q n) p ≡ slice_get T p)
        → ((suc p ≡ suc q) × (slice_get (slice_set T q n) p ≡ Some n)) ⊎ (slice_get (slice_set T q n) p ≡ slice_get T p)
    go (inl w) = inl (ap suc w.0, w.1)
    go (inr w) = inr w

set_here : {A : Type 0} (T : List A) (q : ℕ) (n : A) → q < length T → slice_get (slice_set T q n) q ≡ Some n
set_here [] q n h = absurd (omega arith)
set_here (o ∷ T) zero n h = refl
set_here (o ∷ T) (suc q) n h = set_here T q n (omega arith)

set_length : {A : Type 0} (T : List A) (q : ℕ) (n : A) → length (slice_set T q n) ≡ length T
set_length [] q n = refl
set_length (o ∷ T) zero n = refl
set_length (o ∷ T) (suc q) n = ap suc (set_length T q n)

same_state : {State : Type 0} (o : Option (Option State)) (a b : State) → o ≡ Some (Some a) → o ≡ Some (Some b) → a ≡ b
same_state o a b e f = cc

none_there : {State : Type 0} (n p : ℕ) (s : State) → HasStateOf (replicate n None) p s → ⊥
none_there zero p s e = absurd (cc)
none_there (suc n) zero s e = absurd (cc)
none_there (suc n) (suc p) s e = none_there n p s e

-- a state that may rise by one in a table leaves less room
room_falls : {State : Type 0} (rank : State → ℕ) (top : ℕ) (T : List (Option State)) (q : ℕ) (n : State) → q < length T → rank n ≤ top
    → ((t : State) → HasStateOf T q t → rank t < rank n) → room rank top (slice_set T q (Some n)) + 1 ≤ room rank top T
room_falls rank top [] q n h b l = absurd (omega arith)
room_falls rank top (None ∷ T) zero n h b l = omega arith
room_falls rank top (Some t ∷ T) zero n h b l = let x = l t refl in omega arith
room_falls rank top (o ∷ T) (suc q) n h b l = let i = room_falls rank top T q n (omega arith) b l in omega arith

module _ {State : Type 0} (below : State → State → Type 0) (fits : ℕ → State → Type 0) (positions : ℕ) (start : State)
    (flows : ℕ → State → List (ℕ × State)) (rank : State → ℕ) (top : ℕ) (law : Laws below fits positions start flows rank top) where
  table_reflexive : (T : List (Option State)) → TableBelow below T T
  table_reflexive T p s e = (s, e, law.reflexive s)

  table_transitive : (T U X : List (Option State)) → TableBelow below T U → TableBelow below U X → TableBelow below T X
  table_transitive T U X a b p s e = let x = a p s e in let y = b p x.0 x.1 in (y.0, y.1, law.transitive s x.0 y.0 x.2 y.2)

  covers_rises : (T U : List (Option State)) (v : List (ℕ × State)) → TableBelow below T U → Covers below T v → Covers below U v
  covers_rises T U v r c q t m = let x = c q t m in let y = r q x.0 x.1 in (y.0, y.1, law.transitive t x.0 y.0 x.2 y.2)

  covers_lower : (T : List (Option State)) (v w : List (ℕ × State)) → FlowsBelow below v w → Covers below T w → Covers below T v
  covers_lower T v w f c q s m = let x = f q s m in let y = c q x.0 x.1 in (y.0, y.1, law.transitive s x.0 y.0 x.2 y.2)

  above_one : (T : List (Option State)) (q : ℕ) (s : State) → HasAboveOf below T q s → Covers below T ((q, s) ∷ [])
  above_one T q s a p t m =
      let e = one_in (q, s) (p, t) m in
      subst (λ (x : ℕ × State). HasAboveOf below T x.0 x.1) e a

  pub lifts_puts : (T : List (Option State)) (V : List ℕ) (q : ℕ) (s n : State) → length T ≡ positions → AllFit fits T → fits q n → Lifts below (slice_get T q) s n
      → Puts below fits rank top T V ((q, s) ∷ []) (slice_set T q (Some n)) (V ++ q ∷ [])
  lifts_puts T V q s n count fit fits_n l = record {
    count = set_length T q (Some n);
    fit = λ p t e. fit_at p t e (set_at T q (Some n) p h);
    rises = λ p t e. up p t e (set_at T q (Some n) p h);
    covers = above_one U q s (n, set_here T q (Some n) h, l.above);
    changed = λ p. moved p (set_at T q (Some n) p h);
    listed = λ p v. Contains-append_left V (q ∷ []) p v;
    least = λ X c r p t e. under X (c q s (one (q, s))) r p t e (set_at T q (Some n) p h);
    measure =
        let f = room_falls rank top T q n h (law.bounded q n fits_n) (λ t e. let o = l.old t e in law.higher q t n (fit q t e) fits_n o.0 o.1) in
        let g = length-append V (q ∷ []) in
        omega arith;
  }
    where
      U : List (Option State)
      U = slice_set T q (Some n)

      h : q < length T
      h = let i = law.inside q n fits_n in rw count i

      fit_at : (p : ℕ) (t : State) → HasStateOf U p t → ((p ≡ q) × (slice_get U p ≡ Some (Some n))) ⊎ (slice_get U p ≡ slice_get T p) → fits p t
      fit_at p t e (inl w) = let f = same_state (slice_get U p) n t w.1 e in subst (λ p. fits p t) (sym w.0) (subst (λ n. fits q n) f fits_n)
      fit_at p t e (inr w) = fit p t (sym w ∙ e)

      up : (p : ℕ) (t : State) → HasStateOf T p t → ((p ≡ q) × (slice_get U p ≡ Some (Some n))) ⊎ (slice_get U p ≡ slice_get T p) → HasAboveOf below U p t
      up p t e (inl w) = (n, w.1, (l.old t (subst (λ p. HasStateOf T p t) w.0 e)).0)
      up p t e (inr w) = (t, w ∙ e, law.reflexive t)

      moved : (p : ℕ) → ((p ≡ q) × (slice_get U p ≡ Some (Some n))) ⊎ (slice_get U p ≡ slice_get T p) → (slice_get U p ≡ slice_get T p) ⊎ Contains (V ++ q ∷ []) p
      moved p (inl w) = inr (subst (λ p. Contains (V ++ q ∷ []) p) (sym w.0) (Contains-push V q))
      moved p (inr w) = inl w

      under : (X : List (Option State)) → HasAboveOf below X q s → TableBelow below T X → (p : ℕ) (t : State) → HasStateOf U p t
          → ((p ≡ q) × (slice_get U p ≡ Some (Some n))) ⊎ (slice_get U p ≡ slice_get T p) → HasAboveOf below X p t
      under X c r p t e (inr w) = r p t (sym w ∙ e)
      under X c r p t e (inl w) =
          let f = same_state (slice_get U p) n t w.1 e in
          subst (λ p. HasAboveOf below X p t) (sym w.0) (
            c.0,
            c.1,
            subst (λ n. below n c.0) f
                (l.least c.0 c.2 (λ u g. let y = r q u g in subst (λ v. below u v) (same_state (slice_get X q) y.0 c.0 y.1 c.1) y.2)),
          )

  nothing_puts : (T : List (Option State)) (V : List ℕ) → AllFit fits T → Puts below fits rank top T V [] T V
  nothing_puts T V fit = record {
    count = refl;
    fit = fit;
    rises = table_reflexive T;
    covers = λ q t m. absurd (nothing_in (q, t) m);
    changed = λ p. inl refl;
    listed = λ p v. v;
    least = λ X c r. r;
    measure = omega arith;
  }

  last_and_others : (T U X : List (Option State)) (V W Y : List ℕ) (x : ℕ × State) (xs : List (ℕ × State)) → Puts below fits rank top T V (x ∷ []) U W
      → Puts below fits rank top U W xs X Y → Puts below fits rank top T V (xs ++ x ∷ []) X Y
  last_and_others T U X V W Y x xs a b = record {
    count = b.count ∙ a.count;
    fit = b.fit;
    rises = table_transitive T U X a.rises b.rises;
    covers = λ q t m. covered q t (Contains-append_cases xs (x ∷ []) (q, t) m);
    changed = λ p. both p (b.changed p) (a.changed p);
    listed = λ p v. b.listed p (a.listed p v);
    least = λ Z c r. b.least Z (λ q t m. c q t (Contains-append_left xs (x ∷ []) (q, t) m)) (a.least Z (λ q t m. c q t (Contains-append_right xs (x ∷ []) (q, t) m)) r);
    measure = let f = a.measure in let g = b.measure in omega arith;
  }
    where
      covered : (q : ℕ) (t : State) → Contains xs (q, t) ⊎ Contains (x ∷ []) (q, t) → HasAboveOf below X q t
      covered q t (inl m) = b.covers q t m
      covered q t (inr m) = covers_rises U X (x ∷ []) b.rises a.covers q t m

      both : (p : ℕ) → (slice_get X p ≡ slice_get U p) ⊎ Contains Y p → (slice_get U p ≡ slice_get T p) ⊎ Contains W p → (slice_get X p ≡ slice_get T p) ⊎ Contains Y p
      both p (inr y) w = inr y
      both p (inl e) (inl f) = inl (e ∙ f)
      both p (inl e) (inr w) = inr (b.listed p w)

  -- the last flow, and then the others
  pub puts_last : (T U X : List (Option State)) (V W Y : List ℕ) (x : ℕ × State) (xs zs : List (ℕ × State)) → zs ≡ xs ++ x ∷ []
      → Puts below fits rank top T V (x ∷ []) U W → Puts below fits rank top U W xs X Y → Puts below fits rank top T V zs X Y
  puts_last T U X V W Y x xs zs e a b = rw e (last_and_others T U X V W Y x xs a b)

  pub is_nothing : (T : List (Option State)) (V : List ℕ) (v : List (ℕ × State)) → length v ≡ 0 → AllFit fits T → Puts below fits rank top T V v T V
  is_nothing T V [] e fit = nothing_puts T V fit
  is_nothing T V (x ∷ v) e fit = absurd (omega arith)

  -- the state that enters, put into the empty table
  pub keeps_first : (n : ℕ) (U : List (Option State)) (W : List ℕ) → n ≡ positions → Puts below fits rank top (replicate n None) [] ((0, start) ∷ []) U W
      → Keeps below fits positions start flows U W
  keeps_first n U W e p = record {
    count = p.count ∙ length-replicate n None ∙ e;
    fit = p.fit;
    enters = p.covers 0 start (one (0, start));
    closed = λ q s f. inl (go q s f (p.changed q));
    least = λ X w. p.least X (above_one X 0 start w.enters) (λ q s f. absurd (none_there n q s f));
  }
    where
      go : (q : ℕ) (s : State) → HasStateOf U q s → (slice_get U q ≡ slice_get (replicate n None) q) ⊎ Contains W q → Contains W q
      go q s f (inl g) = absurd (none_there n q s (sym g ∙ f))
      go q s f (inr w) = w

  -- a position is taken from the list, and its flows are put into the table
  pub keeps_next : (T U : List (Option State)) (V₀ V W : List ℕ) (q : ℕ) (v : List (ℕ × State)) → Keeps below fits positions start flows T V₀ → V₀ ≡ V ++ q ∷ []
      → ((s : State) → HasStateOf T q s → v ≡ flows q s) → ((v ≡ []) ⊎ ((s : State) × HasStateOf T q s)) → Puts below fits rank top T V v U W
      → Keeps below fits positions start flows U W
  keeps_next T U V₀ V W q v k e is known p = record {
    count = p.count ∙ k.count;
    fit = p.fit;
    enters = let x = p.rises 0 k.enters.0 k.enters.1 in (x.0, x.1, law.transitive start k.enters.0 x.0 k.enters.2 x.2);
    closed = λ r s f. by_change r s f (p.changed r);
    least = λ X w. p.least X (above X w known) (k.least X w);
  }
    where
      above : (X : List (Option State)) → IsSolutionOf below positions start flows X → (v ≡ []) ⊎ ((s : State) × HasStateOf T q s) → Covers below X v
      above X w (inl f) = λ r t m. absurd (nothing_in (r, t) (subst (λ v. Contains v (r, t)) f m))
      above X w (inr s) =
          let x = k.least X w q s.0 s.1 in
          subst (λ v. Covers below X v) (sym (is s.0 s.1))
          (covers_lower X (flows q s.0) (flows q x.0) (law.monotone q s.0 x.0 (k.fit q s.0 s.1) x.2) (w.closed q x.0 x.1))

      at_q : (s : State) → HasStateOf T q s → Covers below U (flows q s)
      at_q s f = subst (λ v. Covers below U v) (is s f) p.covers

      by_list : (r : ℕ) (s : State) → HasStateOf T r s → Contains V r ⊎ (q ≡ r) → Contains W r ⊎ Covers below U (flows r s)
      by_list r s f (inl w) = inl (p.listed r w)
      by_list r s f (inr g) = inr (subst (λ r. Covers below U (flows r s)) g (at_q s (subst (λ r. HasStateOf T r s) (sym g) f)))

      by_old : (r : ℕ) (s : State) → HasStateOf T r s → Contains V₀ r ⊎ Covers below T (flows r s) → Contains W r ⊎ Covers below U (flows r s)
      by_old r s f (inr c) = inr (covers_rises T U (flows r s) p.rises c)
      by_old r s f (inl w) = by_list r s f (Contains-push_cases V q r (subst (λ V. Contains V r) e w))

      by_change : (r : ℕ) (s : State) → HasStateOf U r s → (slice_get U r ≡ slice_get T r) ⊎ Contains W r → Contains W r ⊎ Covers below U (flows r s)
      by_change r s f (inr w) = inl w
      by_change r s f (inl g) = by_old r s (sym g ∙ f) (k.closed r s (sym g ∙ f))

  pub keeps_done : (T : List (Option State)) (W : List ℕ) → length W ≡ 0 → Keeps below fits positions start flows T W → IsLeastOf below positions start flows T
  keeps_done T [] e k = record { solution = record { count = k.count; enters = k.enters; closed = λ p s f. go p s (k.closed p s f) }; least = k.least }
    where
      go : (p : ℕ) (s : State) → Contains [] p ⊎ Covers below T (flows p s) → Covers below T (flows p s)
      go p s (inl w) = absurd (nothing_in p w)
      go p s (inr c) = c
  keeps_done T (x ∷ W) e k = absurd (omega arith)
