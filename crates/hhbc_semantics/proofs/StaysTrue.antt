-- Facts that are true in a run stay true after a round.
use Rattle.std.proofs.Common.{◌≡◌, ℕ, zero, suc, refl, sym, subst, Bool, true, false, nat_le, Option, Some, None, List, [], ◌∷◌, slice_get, length, cond}
use Rattle.hack_values.specs.declared.cell.Cell.{Cell}
use Rattle.hack_values.specs.declared.cell.Cell.TheVariants as cells
use Rattle.hack_values.specs.declared.heap.Object.{Object}
use Rattle.type_lattice.specs.Member.{Heap}
use Rattle.hhbc_repo.specs.Linked.{Linked}
use Rattle.hhbc_semantics.specs.Setting.{Setting}
use Rattle.hhbc_semantics.specs.Outcome.{Place, Why, Stuck, Fatal, Frames}
use Rattle.hhbc_semantics.specs.Frames.{World, Frame, Turn, Goes, Calls, Returns, Raises, Ends, Fails, Sticks}
use Rattle.hhbc_semantics.specs.Steps.{Config, Running, Ended, place_of, after_call, caught, uncaught, uncaught_cell, resume, unwind, give, frame_limit, finish, next_by, steps_by}
use Rattle.hhbc_semantics.specs.Soundness.{Analysis, world_of, CallsBody, At, Led, GoesWith, Laws, IsRoundBy, AreByRounds, TrueOf, Lies, Waiting, Sound, Starts, FactsStayTrue, RoundsStayTrue, StartsAreSound, ClosedFactsAreTrue, CallsAreTold}

-- a turn that calls a body, as a turn
called_by : (b : ℕ) (t : Turn) → CallsBody b t → (g : Frame) × (v : World) × (t ≡ Calls g v) × (g.body ≡ b)
called_by b (Goes g v) h = absurd h
called_by b (Calls g v) h = (g, v, refl, h)
called_by b (Returns c v) h = absurd h
called_by b (Raises e v) h = absurd h
called_by b (Ends e v) h = absurd h

not_stuck : (o : Option Object) (p : Place) (why : Why) → uncaught o p ≡ Stuck why → ⊥
not_stuck None p why e = cc
not_stuck (Some o) p why e = cc

never_stuck : (heap : Heap) (e : Cell) (p : Place) (why : Why) → uncaught_cell heap e p ≡ Stuck why → ⊥
never_stuck heap cells.Null p why e = cc
never_stuck heap (cells.Bool b) p why e = cc
never_stuck heap (cells.Int i) p why e = cc
never_stuck heap (cells.Str s) p why e = cc
never_stuck heap (cells.Vec vs) p why e = cc
never_stuck heap (cells.Dict es) p why e = cc
never_stuck heap (cells.Keyset ks) p why e = cc
never_stuck heap (cells.Obj n) p why e = not_stuck (slice_get heap n) p why e

module _ (r : Linked) (A : Analysis) where
  -- what a running or an ended configuration shares
  shared_by : (F : A.Facts) (o : Option Frame) (fs : List Frame) (w : World) (other : Config)
      → (TrueOf r A F other → A.Shares F w) → TrueOf r A F (resume o fs w other) → A.Shares F w
  shared_by F None fs w other f t = f t
  shared_by F (Some g) fs w other f t = t.0

  shared_unwound : (F : A.Facts) (p : Place) (fs : List Frame) (e : Cell) (w : World) → TrueOf r A F (unwind r p fs e w) → A.Shares F w
  shared_unwound F p [] e w t = t
  shared_unwound F p (f ∷ fs) e w t = shared_by F (caught r f e) fs w (unwind r p fs e w) (shared_unwound F p fs e w) t

  shared_given : (F : A.Facts) (fs : List Frame) (c : Cell) (w : World) → TrueOf r A F (give r fs c w) → A.Shares F w
  shared_given F [] c w t = t
  shared_given F (f ∷ fs) c w t = t.0

  shared_entered : (F : A.Facts) (full : Bool) (g f : Frame) (fs : List Frame) (w : World)
      → TrueOf r A F (cond full (Ended (Fatal Frames (place_of f)) w) (Running g (f ∷ fs) w)) → A.Shares F w
  shared_entered F true g f fs w t = t
  shared_entered F false g f fs w t = t.0

  -- what frames share behind a turn is what the world that it leaves says
  left_by : (F : A.Facts) (f : Frame) (fs : List Frame) (t : Turn) → TrueOf r A F (finish r f fs t) → A.Shares F (world_of t)
  left_by F f fs (Goes g v) next = next.0
  left_by F f fs (Calls g v) next = shared_entered F (nat_le frame_limit (suc (length fs))) g f fs v next
  left_by F f fs (Returns c v) next = shared_given F fs c v next
  left_by F f fs (Raises e v) next = shared_unwound F (place_of f) (f ∷ fs) e v next
  left_by F f fs (Ends (Fails name) v) next = next
  left_by F f fs (Ends (Sticks why) v) next = next

  module _ (L : Laws r A) (F G : A.Facts) (Ts : List (List (Option A.State))) (round : IsRoundBy r A F Ts G) where
    lies_grows : (f : Frame) (v w : World) → A.Grows v w → Lies r A Ts f v → Lies r A Ts f w
    lies_grows f v w g h = (h.0, h.1, L.holds_grows f h.0 v w g h.2)

    -- a frame that waits makes a turn that fits
    waiting_fits : (f : Frame) (s : A.State) (w : World) (g : Frame) (v : World) → A.Shares F w → A.Holds f s w → A.turn f w ≡ Calls g v
        → GoesWith r A F f s w (Calls g v)
    waiting_fits f s w g v shares holds is = subst (GoesWith r A F f s w) is (L.turns F f s w shares holds)

    waiting_grows : (b : ℕ) (fs : List Frame) (v w : World) → A.Shares F v → A.Shares F w → A.Grows v w → Waiting r A Ts b fs v → Waiting r A Ts b fs w
    waiting_grows b [] v w t u g h = tt
    waiting_grows b (f ∷ fs) v w t u g h =
        let calls = called_by b (A.turn f v) h.0 in
        let fit = waiting_fits f h.1.0 v calls.0 calls.1 t h.1.2 calls.2 in
        (subst (λ b. CallsBody b (A.turn f w)) calls.3 (fit.fits.5 w g u), lies_grows f v w g h.1, waiting_grows f.body fs v w t u g h.2)

    -- a frame that is led lies in its state
    led_lies : (f : Frame) (s : A.State) (g : Frame) (w : World) → At r A Ts f.body f.position s → Led r A F f s g w → Lies r A Ts g w
    led_lies f s g w at led =
        let up = round.solve.closed f.body f.position s g.position led.0 at led.1 in
        (up.0, subst (λ b. At r A Ts b g.position up.0) (sym led.3) up.1, L.holds_below g led.0 up.0 w up.2 led.2)

    -- an exception that comes to a frame that may throw
    resumed : (o : Option Frame) (f : Frame) (s : A.State) (fs : List Frame) (e : Cell) (w : World) (other : Config)
        → A.Shares G w → At r A Ts f.body f.position s → A.Holds f s w → A.IsRaised e w → A.MayThrow f.body f.position
        → Waiting r A Ts f.body fs w → caught r f e ≡ o → Sound r A Ts G other → Sound r A Ts G (resume o fs w other)
    resumed None f s fs e w other shares at holds raised may waits is rest = rest
    resumed (Some g) f s fs e w other shares at holds raised may waits is rest =
        let led = L.catches F f s w e g holds raised may is in
        (shares, led_lies f s g w at led, subst (λ b. Waiting r A Ts b fs w) (sym led.3) waits)

    unwound : (p : Place) (b : ℕ) (fs : List Frame) (e : Cell) (w : World) → A.Shares F w → A.Shares G w → A.IsRaised e w
        → Waiting r A Ts b fs w → Sound r A Ts G (unwind r p fs e w)
    unwound p b [] e w t shares raised waits = (shares, λ why is. absurd (never_stuck w.heap e p why is))
    unwound p b (f ∷ fs) e w t shares raised waits =
        let calls = called_by b (A.turn f w) waits.0 in
        let fit = waiting_fits f waits.1.0 w calls.0 calls.1 t waits.1.2 calls.2 in
        resumed (caught r f e) f waits.1.0 fs e w (unwind r p fs e w) shares waits.1.1 waits.1.2 raised fit.fits.3 waits.2 refl
        (unwound p f.body fs e w t shares raised waits.2)

    given : (b : ℕ) (fs : List Frame) (c : Cell) (w : World) → A.Shares F w → A.Shares G w → A.MayReturn F b c w
        → Waiting r A Ts b fs w → Sound r A Ts G (give r fs c w)
    given b [] c w t shares may waits = (shares, λ why is. absurd (cc))
    given b (f ∷ fs) c w t shares may waits =
        let calls = called_by b (A.turn f w) waits.0 in
        let fit = waiting_fits f waits.1.0 w calls.0 calls.1 t waits.1.2 calls.2 in
        let led = fit.fits.6 c w (L.grows_itself w) (subst (λ b. A.MayReturn F b c w) (sym calls.3) may) in
        (shares, led_lies f waits.1.0 (after_call r f c) w waits.1.1 led, subst (λ b. Waiting r A Ts b fs w) (sym led.3) waits.2)

    entered : (full : Bool) (g f : Frame) (fs : List Frame) (w : World) → Sound r A Ts G (Running g (f ∷ fs) w)
        → Sound r A Ts G (cond full (Ended (Fatal Frames (place_of f)) w) (Running g (f ∷ fs) w))
    entered true g f fs w sound = (sound.0, λ why is. absurd (cc))
    entered false g f fs w sound = sound

    -- by kinds of step
    by_turn : (f : Frame) (fs : List Frame) (w : World) (t : Turn) → TrueOf r A F (Running f fs w) → A.Shares F (world_of t)
        → (sound : Sound r A Ts G (Running f fs w)) → A.turn f w ≡ t → GoesWith r A F f sound.1.0 w t → A.Shares G (world_of t) → Sound r A Ts G (finish r f fs t)
    by_turn f fs w (Goes g v) now next sound is fit shares = (
      shares,
      led_lies f sound.1.0 g v sound.1.1 fit.fits,
      subst (λ b. Waiting r A Ts b fs v) (sym fit.fits.3) (waiting_grows f.body fs w v now.0 next fit.grows sound.2),
    )
    by_turn f fs w (Calls g v) now next sound is fit shares =
        let up = round.solve.enters g.body fit.fits.0 in
        entered (nat_le frame_limit (suc (length fs))) g f fs v (
          shares,
          (up.0, subst (λ q. At r A Ts g.body q up.0) (sym fit.fits.1) up.1, L.holds_below g _ _ v up.2 fit.fits.2),
          (fit.fits.5 v fit.grows next, lies_grows f w v fit.grows sound.1, waiting_grows f.body fs w v now.0 next fit.grows sound.2),
        )
    by_turn f fs w (Returns c v) now next sound is fit shares =
        given f.body fs c v next shares (now.1 c v is) (waiting_grows f.body fs w v now.0 next fit.grows sound.2)
    by_turn f fs w (Raises e v) now next sound is fit shares =
        let waits = waiting_grows f.body fs w v now.0 next fit.grows sound.2 in
        resumed (caught r f e) f sound.1.0 fs e v (unwind r (place_of f) fs e v) shares sound.1.1 (L.holds_grows f _ w v fit.grows sound.1.2)
        fit.fits.0 fit.fits.1 waits refl (unwound (place_of f) f.body fs e v next shares fit.fits.0 waits)
    by_turn f fs w (Ends (Fails name) v) now next sound is fit shares = (shares, λ why e. absurd (cc))
    by_turn f fs w (Ends (Sticks why) v) now next sound is fit shares =
        (shares, λ other e. let same : why ≡ other = cc in (f.body, f.position, sound.1.0, sound.1.1, subst (A.MayStick f.body f.position sound.1.0) same fit.fits))

    -- a step keeps it
    kept : (c : Config) → TrueOf r A F c → TrueOf r A F (next_by A.turn r c) → Sound r A Ts G c → Sound r A Ts G (next_by A.turn r c)
    kept (Running f fs w) now next sound =
        let fit = L.turns F f sound.1.0 w now.0 sound.1.2 in
        by_turn f fs w (A.turn f w) now (left_by F f fs (A.turn f w) next) sound refl fit (fit.takes G round.begins (round.takes _ _ _ sound.1.1) sound.0)
    kept (Ended o w) now next sound = sound

    -- what is sound says that the facts after the round are true
    told : (c : Config) → TrueOf r A F c → Sound r A Ts G c → TrueOf r A G c
    told (Running f fs w) now sound = (
      sound.0,
      λ c v is. let fit = subst (GoesWith r A F f sound.1.0 w) is (L.turns F f sound.1.0 w now.0 sound.1.2) in
          round.gives _ _ _ sound.1.1 c v fit.fits,
    )
    told (Ended o w) now sound = sound.0

    pub sound_run : (c : Config) → Sound r A Ts G c → ((n : ℕ) → TrueOf r A F (steps_by A.turn r c n)) → (n : ℕ) → Sound r A Ts G (steps_by A.turn r c n)
    sound_run c sound is_true zero = sound
    sound_run c sound is_true (suc n) = kept (steps_by A.turn r c n) (is_true n) (is_true (suc n)) (sound_run c sound is_true n)

    pub stay_true : (c : Config) → Sound r A Ts G c → ((n : ℕ) → TrueOf r A F (steps_by A.turn r c n)) → (n : ℕ)
        → Sound r A Ts G (steps_by A.turn r c n) × TrueOf r A G (steps_by A.turn r c n)
    stay_true c sound is_true n = let here = sound_run c sound is_true n in (here, told (steps_by A.turn r c n) (is_true n) here)

    -- a run starts soundly
    pub starts_sound : (c : Config) → Starts r A c → Sound r A Ts G c
    starts_sound (Running f fs w) start =
        let up = round.solve.enters f.body start.1 in (
          start.4 G round.begins,
          (up.0, subst (λ q. At r A Ts f.body q up.0) (sym start.2) up.1, L.holds_below f _ _ w up.2 start.3),
          subst (λ fs. Waiting r A Ts f.body fs w) (sym start.0) tt,
        )
    starts_sound (Ended o w) start = (start.1 G round.begins, λ why is. absurd (start.0 why is))

  by_rounds : (L : Laws r A) (first : A.Facts) → ((c : Config) → TrueOf r A first c) → (c : Config) → Starts r A c
      → (n : ℕ) (F : A.Facts) → AreByRounds r A first n F → (m : ℕ) → TrueOf r A F (steps_by A.turn r c m)
  by_rounds L first top c start zero F is m = subst (λ F. TrueOf r A F (steps_by A.turn r c m)) (sym is) (top (steps_by A.turn r c m))
  by_rounds L first top c start (suc n) G is m =
      (stay_true L is.0 G is.2 is.3 c (starts_sound L is.0 G is.2 is.3 c start) (by_rounds L first top c start n is.0 is.1) m).1

-- facts that are a round under themselves
module _ (r : Linked) (A : Analysis) (L : Laws r A) (F : A.Facts) (Ts : List (List (Option A.State))) (round : IsRoundBy r A F Ts F) where
  closed_told : (c : Config) → Sound r A Ts F c → TrueOf r A F c
  closed_told (Running f fs w) sound = (
    sound.0,
    λ c v is. let fit = subst (GoesWith r A F f sound.1.0 w) is (L.turns F f sound.1.0 w sound.0 sound.1.2) in
        round.gives _ _ _ sound.1.1 c v fit.fits,
  )
  closed_told (Ended o w) sound = sound.0

  closed_kept : (c : Config) → Sound r A Ts F c → Sound r A Ts F (next_by A.turn r c)
  closed_kept (Running f fs w) sound =
      let fit = L.turns F f sound.1.0 w sound.0 sound.1.2 in
      let left = fit.takes F round.begins (round.takes _ _ _ sound.1.1) sound.0 in
      by_turn r A L F F Ts round f fs w (A.turn f w) (closed_told (Running f fs w) sound) left sound refl fit left
  closed_kept (Ended o w) sound = sound

  closed_run : (c : Config) → Sound r A Ts F c → (n : ℕ) → Sound r A Ts F (steps_by A.turn r c n)
  closed_run c sound zero = sound
  closed_run c sound (suc n) = closed_kept (steps_by A.turn r c n) (closed_run c sound n)

  pub closed_true : (c : Config) → Sound r A Ts F c → (n : ℕ) → Sound r A Ts F (steps_by A.turn r c n) × TrueOf r A F (steps_by A.turn r c n)
  closed_true c sound n = let here = closed_run c sound n in (here, closed_told (steps_by A.turn r c n) here)

pub facts_stay_true : (A : Setting → Analysis) → FactsStayTrue A
facts_stay_true A S L F G Ts round c sound is_true n = stay_true S.repo (A S) L F G Ts round c sound is_true n

pub rounds_stay_true : (A : Setting → Analysis) → RoundsStayTrue A
rounds_stay_true A S L first top c start n F is = (
  by_rounds S.repo (A S) L first top c start n F is,
  λ Ts G round m.
      sound_run S.repo (A S) L F G Ts round c (starts_sound S.repo (A S) L F G Ts round c start) (by_rounds S.repo (A S) L first top c start n F is) m,
)

pub starts_are_sound : (A : Setting → Analysis) → StartsAreSound A
starts_are_sound A S L F G Ts round c start = starts_sound S.repo (A S) L F G Ts round c start

pub closed_facts_are_true : (A : Setting → Analysis) → ClosedFactsAreTrue A
closed_facts_are_true A S L F Ts round c sound n = closed_true S.repo (A S) L F Ts round c sound n

pub calls_are_told : (A : Setting → Analysis) → CallsAreTold A
calls_are_told A S L F G Ts f fs w now sound g v is =
    let fit = subst (GoesWith S.repo (A S) F f sound.1.0 w) is (L.turns F f sound.1.0 w now.0 sound.1.2) in
    (sound.1.0, sound.1.1, fit.fits.4)
