-- Tests of assertions only stop a run, and a run without tests is one of steps.
use Rattle.std.proofs.Common.{◌≡◌, ◌⊎◌, inl, inr, ℕ, zero, suc, refl, sym, ◌∙◌, ap, subst, Bool, true, false, Option, Some, None, List, arith}
use Rattle.hhbc_repo.specs.Bodies.{tree_of}
use Rattle.hhbc_repo.specs.Bare.{bare}
use Rattle.hhbc_semantics.specs.Setting.{Setting, bare_setting}
use Rattle.hhbc_semantics.specs.Frames.{World, Frame}
use Rattle.hhbc_semantics.specs.Machine.{turn}
use Rattle.hhbc_semantics.specs.Steps.{Config, Running, Ended, next, next_by, steps_by}
use Rattle.hhbc_semantics.specs.Run.{test, asserts_of, tested, advance, after}
use Rattle.hhbc_semantics.specs.Tested.{IsStopped, TestsOnlyStop}

-- one turn more, by the result of the test
by_test : (S : Setting) (start : Config) (n : ℕ) (f : Frame) (fs : List Frame) (w : World) → after S false start n ≡ Running f fs w
    → (o : Option Bool) → test (tree_of S.repo) w.heap f (asserts_of S.repo f) ≡ o
    → (tested o f w (next (bare_setting S) (Running f fs w)) ≡ next (bare_setting S) (Running f fs w))
    ⊎ IsStopped S start (suc n) (tested o f w (next (bare_setting S) (Running f fs w)))
by_test S start n f fs w at None e =
    inr (record { turns = n; earlier = omega arith; frame = f; below = fs; world = w; at = at; outcome = _; stops = inr (refl, e); is = refl })
by_test S start n f fs w at (Some false) e =
    inr (record { turns = n; earlier = omega arith; frame = f; below = fs; world = w; at = at; outcome = _; stops = inl refl; is = refl })
by_test S start n f fs w at (Some true) e = inl refl

one_turn : (S : Setting) (start : Config) (n : ℕ) (c : Config) → after S false start n ≡ c
    → (advance S true c ≡ advance S false c) ⊎ IsStopped S start (suc n) (advance S true c)
one_turn S start n (Running f fs w) at = by_test S start n f fs w at (test (tree_of S.repo) w.heap f (asserts_of S.repo f)) refl
one_turn S start n (Ended o w) at = inl refl

once_more : (S : Setting) (start : Config) (n : ℕ) (d : Config) → (d ≡ after S false start n) ⊎ IsStopped S start n d
    → (advance S true d ≡ after S false start (suc n)) ⊎ IsStopped S start (suc n) (advance S true d)
once_more S start n d (inl e) =
    subst (λ d. (advance S true d ≡ after S false start (suc n)) ⊎ IsStopped S start (suc n) (advance S true d)) (sym e)
    (one_turn S start n (after S false start n) refl)
once_more S start n d (inr s) = inr (record {
  turns = s.turns;
  earlier = let l = s.earlier in omega arith;
  frame = s.frame;
  below = s.below;
  world = s.world;
  at = s.at;
  outcome = s.outcome;
  stops = s.stops;
  is = ap (λ c. advance S true c) s.is;
})

pub tests_only_stop : TestsOnlyStop
tests_only_stop S start zero = inl refl
tests_only_stop S start (suc n) = once_more S start n (after S true start n) (tests_only_stop S start n)

one_step : (S : Setting) (c : Config) → advance S false c ≡ next_by (turn (bare_setting S)) (bare S.repo) c
one_step S (Running f fs w) = refl
one_step S (Ended o w) = refl

-- a run without tests is one of steps
pub after_steps : (S : Setting) (start : Config) (n : ℕ) → after S false start n ≡ steps_by (turn (bare_setting S)) (bare S.repo) start n
after_steps S start zero = refl
after_steps S start (suc n) = ap (λ c. advance S false c) (after_steps S start n) ∙ one_step S (steps_by (turn (bare_setting S)) (bare S.repo) start n)
