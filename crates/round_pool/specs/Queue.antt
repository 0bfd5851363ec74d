-- Rounds over the bodies with a dependency that changed.
use Rattle.std.specs.Prelude.{◌≡◌, ◌<◌, ℕ, zero, suc, Bool, false, List, [], ◌∷◌, filter, if◌then◌else◌, Contains}
use Rattle.std.specs.List.{list_any}
use Rattle.hhbc_repo.specs.Bodies.{numbers}
use Rattle.round_pool.specs.Pieces.{AllGiven}

-- what bodies give under facts, and on which facts that depends
pub record Bodies : Type 1 where
  pub Facts : Type 0
  pub Result : Type 0
  -- what a dependency names: the facts of functions, of methods or of properties of a name
  pub Name : Type 0
  pub count : ℕ
  pub depends : ℕ → List Name
  -- a fact of the name differs
  pub differs : Facts → Facts → Name → Bool
  -- under the facts this is what the body gives: by its least solution, the join of what it returns, and what it writes
  pub Gives : Facts → ℕ → Result → Type 0
  -- the facts are joined from the results of all bodies
  pub Joined : List Result → Facts → Type 0
  -- the facts before the first round
  pub first : Facts

module _ (A : Bodies) where
  abbrev pub all_bodies : List ℕ
  all_bodies = numbers 0 A.count

  -- the facts of a name on which the body depends differ
  abbrev pub changed : A.Facts → A.Facts → ℕ → Bool
  changed F G b = list_any (A.differs F G) (A.depends b)

  -- the bodies with a dependency that changed, in ascending order
  abbrev pub queue : A.Facts → A.Facts → List ℕ
  queue F G = filter (changed F G) all_bodies

  -- what a body gives depends on the facts of its dependencies alone
  abbrev pub DependsAlone : Type 0
  DependsAlone =
      (F G : A.Facts) (b : ℕ) (x : A.Result) → ((name : A.Name) → Contains (A.depends b) name → A.differs F G name ≡ false)
      → A.Gives F b x → A.Gives G b x

  -- a round over all bodies
  pub record IsRoundOf (F G : A.Facts) : Type 0 where
    pub results : List A.Result
    pub given : AllGiven (A.Gives F) all_bodies results
    pub joined : A.Joined results G

  -- facts after so many rounds over all bodies
  abbrev pub AreFactsAfter : ℕ → A.Facts → Type 0
  AreFactsAfter zero G = G ≡ A.first
  AreFactsAfter (suc n) G = (F : A.Facts) × AreFactsAfter n F × IsRoundOf F G

  -- results that are kept from round to round: those of the round from the facts after n rounds, which gave the facts behind it
  pub record AreKept (n : ℕ) (F G : A.Facts) (results : List A.Result) : Type 0 where
    pub after : AreFactsAfter n F
    pub given : AllGiven (A.Gives F) all_bodies results
    pub joined : A.Joined results G

-- the first of the new results, or the old one where there is none
abbrev pub first_or : {R : Type 0} → R → List R → R
first_or x [] = x
first_or x (y ∷ ys) = y

abbrev pub behind_first : {R : Type 0} → List R → List R
behind_first [] = []
behind_first (y ∷ ys) = ys

-- the old results of these bodies, but for each that changed the next of the new ones
abbrev pub renewed : {R : Type 0} → (ℕ → Bool) → List ℕ → List R → List R → List R
renewed changed [] old new = []
renewed changed (b ∷ bs) [] new = []
renewed changed (b ∷ bs) (x ∷ old) new =
    if changed b then first_or x new ∷ renewed changed bs old (behind_first new) else x ∷ renewed changed bs old new

-- one round over the queue gives what a round over all bodies gives
abbrev pub QueueGivesRound : Bodies → Type 0
QueueGivesRound A =
    DependsAlone A → (n : ℕ) (F G : A.Facts) (old new : List A.Result) → AreKept A n F G old
    → AllGiven (A.Gives G) (queue A F G) new
    → (H : A.Facts) → A.Joined (renewed (changed A F G) (all_bodies A) old new) H
    → AreKept A (suc n) G H (renewed (changed A F G) (all_bodies A) old new) × IsRoundOf A G H

-- where the queue is empty, the facts are those after every later number of rounds
abbrev pub EmptyQueueStays : Bodies → Type 0
EmptyQueueStays A =
    DependsAlone A → (n : ℕ) (F G : A.Facts) (old : List A.Result) → AreKept A n F G old → queue A F G ≡ []
    → (m : ℕ) → n < m → AreFactsAfter A m G

-- where each body gives one result, and results are joined to one list of facts, there is one after each number of rounds
abbrev pub RoundsGiveOne : Bodies → Type 0
RoundsGiveOne A =
    ((F : A.Facts) (b : ℕ) (x y : A.Result) → A.Gives F b x → A.Gives F b y → x ≡ y)
    → ((results : List A.Result) (F G : A.Facts) → A.Joined results F → A.Joined results G → F ≡ G)
    → (n : ℕ) (F G : A.Facts) → AreFactsAfter A n F → AreFactsAfter A n G → F ≡ G
