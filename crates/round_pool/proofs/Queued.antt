-- A round over the queue gives what a full round gives.
use Rattle.std.proofs.Common.{◌≡◌, ◌⊎◌, inl, inr, ℕ, zero, suc, ◌<◌, refl, sym, ◌∙◌, subst, Bool, true, false, ◌||◌, cond, List, [], ◌∷◌, filter, Contains, arith}
use Rattle.std.specs.List.{list_any}
use Rattle.round_pool.specs.Pieces.{AllGiven}
use Rattle.round_pool.specs.Queue.{Bodies, all_bodies, changed, DependsAlone, IsRoundOf, AreFactsAfter, AreKept, first_or, behind_first, renewed, QueueGivesRound, EmptyQueueStays, RoundsGiveOne}

-- a test that no element passes is false at each
none_passes : {X : Type 0} (test : X → Bool) (xs : List X) (x : X) → list_any test xs ≡ false → Contains xs x → test x ≡ false
none_passes test [] x e (k, l, f) = absurd (omega arith)
none_passes test (y ∷ ys) x e (zero, l, f) = subst (λ z. test z ≡ false) f (left (test y) (list_any test ys) e)
  where
    left : (a b : Bool) → (a || b) ≡ false → a ≡ false
    left false b e = refl
    left true b e = absurd (cc)
none_passes test (y ∷ ys) x e (suc k, l, f) = none_passes test ys x (right (test y) (list_any test ys) e) (k, omega arith, f)
  where
    right : (a b : Bool) → (a || b) ≡ false → b ≡ false
    right false b e = e
    right true b e = absurd (cc)

module _ {R : Type 0} (old_gives new_gives : ℕ → R → Type 0) (test : ℕ → Bool)
    (same : (b : ℕ) (x : R) → test b ≡ false → old_gives b x → new_gives b x) where
  one_more : (b : ℕ) (bs jobs : List ℕ) (x : R) (new : List R) (rest : List R → List R) (t : Bool) → test b ≡ t → old_gives b x
      → ((new : List R) → AllGiven new_gives jobs new → AllGiven new_gives bs (rest new))
      → AllGiven new_gives (cond t (b ∷ jobs) jobs) new
      → AllGiven new_gives (b ∷ bs) (cond t (first_or x new ∷ rest (behind_first new)) (x ∷ rest new))
  one_more b bs jobs x [] rest true e g ih w = absurd w
  one_more b bs jobs x (y ∷ new) rest true e g ih w = (w.0, ih new w.1)
  one_more b bs jobs x new rest false e g ih w = (same b x e g, ih new w)

  given_renewed : (bs : List ℕ) (old new : List R) → AllGiven old_gives bs old → AllGiven new_gives (filter test bs) new
      → AllGiven new_gives bs (renewed test bs old new)
  given_renewed [] [] new v w = tt
  given_renewed [] (x ∷ old) new v w = absurd v
  given_renewed (b ∷ bs) [] new v w = absurd v
  given_renewed (b ∷ bs) (x ∷ old) new v w =
      one_more b bs (filter test bs) x new (renewed test bs old) (test b) refl v.0 (λ new w. given_renewed bs old new v.1 w) w

  -- where none is tested true, what was given is given still
  given_still : (bs : List ℕ) (old : List R) → AllGiven old_gives bs old → filter test bs ≡ [] → AllGiven new_gives bs old
  given_still [] [] v e = tt
  given_still [] (x ∷ old) v e = absurd v
  given_still (b ∷ bs) [] v e = absurd v
  given_still (b ∷ bs) (x ∷ old) v e = by_test (test b) refl e (λ f. given_still bs old v.1 f)
    where
      by_test : (t : Bool) → test b ≡ t → cond t (b ∷ filter test bs) (filter test bs) ≡ []
          → (filter test bs ≡ [] → AllGiven new_gives bs old) → AllGiven new_gives (b ∷ bs) (x ∷ old)
      by_test true i f ih = absurd (cc)
      by_test false i f ih = (same b x i v.0, ih f)

one_list : {R : Type 0} (gives : ℕ → R → Type 0) (bs : List ℕ) (xs ys : List R) → ((b : ℕ) (x y : R) → gives b x → gives b y → x ≡ y)
    → AllGiven gives bs xs → AllGiven gives bs ys → xs ≡ ys
one_list gives [] [] [] one v w = refl
one_list gives [] [] (y ∷ ys) one v w = absurd w
one_list gives [] (x ∷ xs) ys one v w = absurd v
one_list gives (b ∷ bs) [] ys one v w = absurd v
one_list gives (b ∷ bs) (x ∷ xs) [] one v w = absurd w
one_list gives (b ∷ bs) (x ∷ xs) (y ∷ ys) one v w =
    let here = one b x y v.0 w.0 in
    let there = one_list gives bs xs ys one v.1 w.1 in cc

module _ (A : Bodies) where
  -- a body whose facts didn't change gives what it gave
  unchanged : DependsAlone A → (F G : A.Facts) (b : ℕ) (x : A.Result) → changed A F G b ≡ false → A.Gives F b x → A.Gives G b x
  unchanged alone F G b x e g = alone F G b x (λ name m. none_passes (A.differs F G) (A.depends b) name e m) g

  kept_after : (n : ℕ) (F G : A.Facts) (results : List A.Result) → AreKept A n F G results → AreFactsAfter A (suc n) G
  kept_after n F G results kept = (F, kept.after, record { results = results; given = kept.given; joined = kept.joined })

  pub queue_gives_round : QueueGivesRound A
  queue_gives_round alone n F G old new kept given H joined =
      let all = given_renewed (A.Gives F) (A.Gives G) (changed A F G) (unchanged alone F G) (all_bodies A) old new kept.given given in (
        record { after = kept_after n F G old kept; given = all; joined = joined },
        record { results = renewed (changed A F G) (all_bodies A) old new; given = all; joined = joined },
      )

  within : (n m : ℕ) → n < suc m → (n ≡ m) ⊎ (n < m)
  within n m l = grind arith

  once_more : (n m : ℕ) (G : A.Facts) → AreFactsAfter A (suc n) G → IsRoundOf A G G → (n < m → AreFactsAfter A m G)
      → (n ≡ m) ⊎ (n < m) → AreFactsAfter A (suc m) G
  once_more n m G after round before (inl e) = subst (λ n. AreFactsAfter A (suc n) G) e after
  once_more n m G after round before (inr l) = (G, before l, round)

  stays : (n : ℕ) (G : A.Facts) → AreFactsAfter A (suc n) G → IsRoundOf A G G → (m : ℕ) → n < m → AreFactsAfter A m G
  stays n G after round zero l = absurd (omega arith)
  stays n G after round (suc m) l = once_more n m G after round (λ k. stays n G after round m k) (within n m l)

  pub empty_queue_stays : EmptyQueueStays A
  empty_queue_stays alone n F G old kept e m l =
      stays n G (kept_after n F G old kept) (record {
        results = old;
        given = given_still (A.Gives F) (A.Gives G) (changed A F G) (unchanged alone F G) (all_bodies A) old kept.given e;
        joined = kept.joined;
      }) m l

  pub rounds_give_one : RoundsGiveOne A
  rounds_give_one one joins zero F G v w = v ∙ sym w
  rounds_give_one one joins (suc n) F G v w =
      let before = rounds_give_one one joins n v.0 w.0 v.1 w.1 in
      let results = one_list (A.Gives w.0) (all_bodies A) v.2.results w.2.results (one w.0)
      (subst (λ F. AllGiven (A.Gives F) (all_bodies A) v.2.results) before v.2.given) w.2.given in
      joins w.2.results F G (subst (λ xs. A.Joined xs F) results v.2.joined) w.2.joined
