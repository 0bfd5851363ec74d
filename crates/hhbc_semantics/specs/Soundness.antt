-- What may be known of the frames of a machine, and when that stays true of its runs.
use Rattle.std.specs.Prelude.{◌≡◌, ℕ, zero, suc, true, List, [], ◌∷◌, Option, Some, slice_get}
use Rattle.hack_values.specs.declared.cell.Cell.{Cell}
use Rattle.hhbc_repo.specs.declared.code.Code.{Code}
use Rattle.hhbc_repo.specs.declared.body.Body.{Body}
use Rattle.hhbc_repo.specs.Linked.{Linked}
use Rattle.hhbc_repo.specs.Bodies.{body_at, code_at}
use Rattle.hhbc_repo.specs.Codes.{throws}
use Rattle.hhbc_semantics.specs.Setting.{Setting}
use Rattle.hhbc_semantics.specs.Outcome.{Outcome, Stuck, Why}
use Rattle.hhbc_semantics.specs.Frames.{World, Frame, Turn, Goes, Calls, Returns, Raises, Ends, Fails, Sticks}
use Rattle.hhbc_semantics.specs.Steps.{Config, Running, Ended, after_call, caught, steps_by}

-- what the codes of a machine do, and what an analysis may say of its frames
pub record Analysis : Type 1 where
  -- what a turn of a frame does
  pub turn : Frame → World → Turn
  -- what may be known of a frame at a position: types of its slots, or its shape
  pub State : Type 0
  -- what may be known of all bodies and of what frames share: what bodies return and properties hold
  pub Facts : Type 0
  pub StateLe : State → State → Type 0
  -- a round of facts begins: the facts say of what frames share what its initial values are
  pub Begins : Facts → Type 0
  -- what was there before is there still: the objects of the first world, with their classes, are in the second
  pub Grows : World → World → Type 0
  -- the frame is as the state says
  pub Holds : Frame → State → World → Type 0
  -- what frames share is as the facts say
  pub Shares : Facts → World → Type 0
  -- the body may return the cell, as the facts say
  pub MayReturn : Facts → ℕ → Cell → World → Type 0
  -- the cell may be raised
  pub IsRaised : Cell → World → Type 0
  -- an exception may come from this position of the body
  pub MayThrow : ℕ → ℕ → Type 0
  -- a turn at this position of the body, with the state, may get stuck so
  pub MayStick : ℕ → ℕ → State → Why → Type 0
  -- the state of the body that a frame enters with
  pub entry : ℕ → State
  -- under the facts the state at a position of a body flows to another position, as another state
  pub Flows : Facts → ℕ → ℕ → State → ℕ → State → Type 0
  -- under the facts the state at a position of a body may call that body
  pub MayCall : Facts → ℕ → ℕ → State → ℕ → Type 0
  -- under the facts the state at a position of a body may return the cell
  pub Gives : Facts → ℕ → ℕ → State → Cell → World → Type 0
  -- the second facts say of what frames share what the effects of the state, under the first facts, make of it
  pub Takes : Facts → ℕ → ℕ → State → Facts → Type 0

-- the world that a turn leaves
abbrev pub world_of : Turn → World
world_of (Goes g v) = v
world_of (Calls g v) = v
world_of (Returns c v) = v
world_of (Raises e v) = v
world_of (Ends e v) = v

abbrev pub IsBody : Linked → ℕ → Type 0
IsBody r n = (b : Body) × (body_at r n ≡ Some b)

-- the code at the position of the body may throw
pub record MayThrowAt (r : Linked) (n p : ℕ) : Type 0 where
  pub body : Body
  pub at : body_at r n ≡ Some body
  pub code : Code
  pub there : code_at body p ≡ Some code
  pub may : throws code ≡ true

-- the turn calls this body
abbrev pub CallsBody : ℕ → Turn → Type 0
CallsBody b (Goes g v) = ⊥
CallsBody b (Calls g v) = g.body ≡ b
CallsBody b (Returns c v) = ⊥
CallsBody b (Raises e v) = ⊥
CallsBody b (Ends e v) = ⊥

module _ (r : Linked) (A : Analysis) where
  -- a state or none for each position of each body
  abbrev pub Tables : Type 0
  Tables = List (List (Option A.State))

  -- the tables have this state at the position of the body
  abbrev pub At : List (List (Option A.State)) → ℕ → ℕ → A.State → Type 0
  At Ts b p s = (T : List (Option A.State)) × (slice_get Ts b ≡ Some T) × (slice_get T p ≡ Some (Some s))

  -- the second frame is one of the same body, and is as a flow from the state of the first says
  abbrev pub Led : A.Facts → Frame → A.State → Frame → World → Type 0
  Led F f s g w = (t : A.State) × A.Flows F f.body f.position s g.position t × A.Holds g t w × (g.body ≡ f.body)

  -- by kinds of step: where the frame goes on it is led there; where it calls, the callee is one that it may call and begins as its entry
  -- says, the frame calls the same body as long as it waits, and is led behind the call by what that body returns; a cell that it returns
  -- or raises is one that it may
  abbrev pub Fits : A.Facts → Frame → A.State → World → Turn → Type 0
  Fits F f s w (Goes g v) = Led F f s g v
  Fits F f s w (Calls g v) =
      IsBody r g.body × (g.position ≡ 0) × A.Holds g (A.entry g.body) v × A.MayThrow f.body f.position
      × A.MayCall F f.body f.position s g.body
      × ((u : World) → A.Grows w u → A.Shares F u → CallsBody g.body (A.turn f u))
      × ((c : Cell) (u : World) → A.Grows w u → A.MayReturn F g.body c u → Led F f s (after_call r f c) u)
  Fits F f s w (Returns c v) = A.Gives F f.body f.position s c v
  Fits F f s w (Raises e v) = A.IsRaised e v × A.MayThrow f.body f.position
  Fits F f s w (Ends (Fails name) v) = Unit {0}
  Fits F f s w (Ends (Sticks why) v) = A.MayStick f.body f.position s why

  -- a turn of a frame goes with the state of the frame
  pub record GoesWith (F : A.Facts) (f : Frame) (s : A.State) (w : World) (t : Turn) : Type 0 where
    pub fits : Fits F f s w t
    pub grows : A.Grows w (world_of t)
    pub takes : (G : A.Facts) → A.Begins G → A.Takes F f.body f.position s G → A.Shares G w → A.Shares G (world_of t)

  -- what an analysis owes
  pub record Laws : Type 0 where
    pub grows_itself : (w : World) → A.Grows w w
    pub holds_grows : (f : Frame) (s : A.State) (v w : World) → A.Grows v w → A.Holds f s v → A.Holds f s w
    pub holds_below : (f : Frame) (s t : A.State) (w : World) → A.StateLe s t → A.Holds f s w → A.Holds f t w
    -- the step law: under true facts the turn of a frame goes with its state
    pub turns : (F : A.Facts) (f : Frame) (s : A.State) (w : World) → A.Shares F w → A.Holds f s w → GoesWith F f s w (A.turn f w)
    -- an exception leads to the handler
    pub catches : (F : A.Facts) (f : Frame) (s : A.State) (w : World) (e : Cell) (g : Frame) → A.Holds f s w → A.IsRaised e w
        → A.MayThrow f.body f.position → caught r f e ≡ Some g → Led F f s g w

  -- the tables have a state above the entry of each body, and above each flow
  pub record Solve (F : A.Facts) (Ts : List (List (Option A.State))) : Type 0 where
    pub enters : (b : ℕ) → IsBody r b → (s : A.State) × At Ts b 0 s × A.StateLe (A.entry b) s
    pub closed : (b p : ℕ) (s : A.State) (q : ℕ) (t : A.State) → At Ts b p s → A.Flows F b p s q t → (u : A.State) × At Ts b q u × A.StateLe t u

  -- the second facts begin, and say all that the states of a solution under the first return and write
  pub record IsRoundBy (F : A.Facts) (Ts : List (List (Option A.State))) (G : A.Facts) : Type 0 where
    pub begins : A.Begins G
    pub solve : Solve F Ts
    pub gives : (b p : ℕ) (s : A.State) → At Ts b p s → (c : Cell) (w : World) → A.Gives F b p s c w → A.MayReturn G b c w
    pub takes : (b p : ℕ) (s : A.State) → At Ts b p s → A.Takes F b p s G

  -- facts by rounds, from these on
  abbrev pub AreByRounds : A.Facts → ℕ → A.Facts → Type 0
  AreByRounds first zero G = G ≡ first
  AreByRounds first (suc n) G = (F : A.Facts) × AreByRounds first n F × (Ts : List (List (Option A.State))) × IsRoundBy F Ts G

  -- the facts are true of a configuration: of what its frames share, and of the cell that its next step returns
  abbrev pub TrueOf : A.Facts → Config → Type 0
  TrueOf F (Running f fs w) = A.Shares F w × ((c : Cell) (v : World) → A.turn f w ≡ Returns c v → A.MayReturn F f.body c v)
  TrueOf F (Ended o w) = A.Shares F w

  -- the frame is as the state of its position says
  abbrev pub Lies : List (List (Option A.State)) → Frame → World → Type 0
  Lies Ts f w = (s : A.State) × At Ts f.body f.position s × A.Holds f s w

  -- each frame is as the state of its position says, and a step from it, as the world is, calls the body of the frame above it
  abbrev pub Waiting : List (List (Option A.State)) → ℕ → List Frame → World → Type 0
  Waiting Ts b [] w = Unit {0}
  Waiting Ts b (f ∷ fs) w = CallsBody b (A.turn f w) × Lies Ts f w × Waiting Ts f.body fs w

  -- where a run got stuck, a position with its state may get stuck so
  abbrev pub EndsWell : List (List (Option A.State)) → Outcome → Type 0
  EndsWell Ts o = (why : Why) → o ≡ Stuck why → (b : ℕ) × (p : ℕ) × (s : A.State) × At Ts b p s × A.MayStick b p s why

  -- what frames share is as the facts say, the topmost frame lies in its state, and the frames below it wait
  abbrev pub Sound : List (List (Option A.State)) → A.Facts → Config → Type 0
  Sound Ts G (Running f fs w) = A.Shares G w × Lies Ts f w × Waiting Ts f.body fs w
  Sound Ts G (Ended o w) = A.Shares G w × EndsWell Ts o

  -- one frame that enters a body, in a world where all facts that begin are true; or an end in such a world, which isn't stuck
  abbrev pub Starts : Config → Type 0
  Starts (Running f fs w) =
      (fs ≡ []) × IsBody r f.body × (f.position ≡ 0) × A.Holds f (A.entry f.body) w × ((G : A.Facts) → A.Begins G → A.Shares G w)
  Starts (Ended o w) = ((why : Why) → o ≡ Stuck why → ⊥) × ((G : A.Facts) → A.Begins G → A.Shares G w)

-- from a sound configuration, facts that are true in a run stay true after a round, and each configuration is sound
abbrev pub FactsStayTrue : (Setting → Analysis) → Type 0
FactsStayTrue A =
    (S : Setting) → Laws S.repo (A S) → (F G : (A S).Facts) (Ts : Tables S.repo (A S)) → IsRoundBy S.repo (A S) F Ts G
    → (c : Config) → Sound S.repo (A S) Ts G c → ((n : ℕ) → TrueOf S.repo (A S) F (steps_by (A S).turn S.repo c n))
    → (n : ℕ) → Sound S.repo (A S) Ts G (steps_by (A S).turn S.repo c n) × TrueOf S.repo (A S) G (steps_by (A S).turn S.repo c n)

-- from facts that are true of every configuration, the facts after any number of rounds are true in every run,
-- and each configuration is sound by each round from them
abbrev pub RoundsStayTrue : (Setting → Analysis) → Type 0
RoundsStayTrue A =
    (S : Setting) → Laws S.repo (A S) → (first : (A S).Facts) → ((c : Config) → TrueOf S.repo (A S) first c) → (c : Config) → Starts S.repo (A S) c
    → (n : ℕ) (F : (A S).Facts) → AreByRounds S.repo (A S) first n F
    → ((m : ℕ) → TrueOf S.repo (A S) F (steps_by (A S).turn S.repo c m))
    × ((Ts : Tables S.repo (A S)) (G : (A S).Facts) → IsRoundBy S.repo (A S) F Ts G → (m : ℕ) → Sound S.repo (A S) Ts G (steps_by (A S).turn S.repo c m))

-- a run starts soundly by each round
abbrev pub StartsAreSound : (Setting → Analysis) → Type 0
StartsAreSound A =
    (S : Setting) → Laws S.repo (A S) → (F G : (A S).Facts) (Ts : Tables S.repo (A S)) → IsRoundBy S.repo (A S) F Ts G
    → (c : Config) → Starts S.repo (A S) c → Sound S.repo (A S) Ts G c

-- facts that are a round under themselves are true in each run from a sound configuration, and each configuration is sound, with nothing known of
-- the run before
abbrev pub ClosedFactsAreTrue : (Setting → Analysis) → Type 0
ClosedFactsAreTrue A =
    (S : Setting) → Laws S.repo (A S) → (F : (A S).Facts) (Ts : Tables S.repo (A S)) → IsRoundBy S.repo (A S) F Ts F
    → (c : Config) → Sound S.repo (A S) Ts F c
    → (n : ℕ) → Sound S.repo (A S) Ts F (steps_by (A S).turn S.repo c n) × TrueOf S.repo (A S) F (steps_by (A S).turn S.repo c n)

-- a call that the topmost frame makes is one that some state at its position may make, under facts that are true of it
abbrev pub CallsAreTold : (Setting → Analysis) → Type 0
CallsAreTold A =
    (S : Setting) → Laws S.repo (A S) → (F G : (A S).Facts) (Ts : Tables S.repo (A S)) (f : Frame) (fs : List Frame) (w : World)
    → TrueOf S.repo (A S) F (Running f fs w) → Sound S.repo (A S) Ts G (Running f fs w)
    → (g : Frame) (v : World) → (A S).turn f w ≡ Calls g v
    → (s : (A S).State) × At S.repo (A S) Ts f.body f.position s × (A S).MayCall F f.body f.position s g.body
