-- Shapes behind the codes that go to labels, that move iterators, and that end a frame.
use Rattle.std.proofs.Common.{◌≡◌, inl, inr, ℕ, zero, suc, ◌<◌, refl, sym, ◌∙◌, ap, subst, Bool, true, false, not, Option, Some, None, List, [], ◌∷◌, map, drop, slice_get, slice_set, length, pos, negsuc, ℤ, ◌-ℤ◌, if◌then◌else◌, arith}
use Rattle.hack_values.specs.declared.cell.Cell.{Cell}
use Rattle.hack_values.specs.declared.cell.Cell.TheVariants as cells
use Rattle.hack_values.specs.declared.cell.Slot.{Slot}
use Rattle.hack_values.specs.declared.cell.Slot.TheVariants as slots
use Rattle.hack_values.specs.Casts.{truth}
use Rattle.hhbc_ops.specs.declared.words.Flavour.{Flavour}
use Rattle.hhbc_ops.specs.declared.words.Flavour.TheVariants.{C}
use Rattle.hhbc_repo.specs.declared.code.Code.{Code}
use Rattle.hhbc_repo.specs.declared.code.Arm.{Arm}
use Rattle.hhbc_repo.specs.Linked.{Linked}
use Rattle.hhbc_repo.specs.Codes.{Begin, Advance, Free, throws, goes_on, iter_use, labels}
use Rattle.hhbc_repo.specs.Shapes.{is_live, live_next, live_to}
use Rattle.hhbc_semantics.specs.Setting.{Setting}
use Rattle.hhbc_semantics.specs.Outcome.{FatalName}
use Rattle.hhbc_semantics.specs.Frames.{World, Frame, Turn, Goes, Returns, Ends, Fails, ahead, set_local}
use Rattle.hhbc_semantics.specs.Operands.{with_cell}
use Rattle.hhbc_semantics.specs.Branches.{jump, branch, jump_where, last_arm, arm_or_last, arm_at, int_arm, has_text, arm_of_text, text_arm, jump_to, switch, switch_text}
use Rattle.hhbc_semantics.specs.Objects.{is_instance, throw}
use Rattle.hhbc_semantics.specs.Exceptions.{any_exception}
use Rattle.hhbc_semantics.specs.Iterators.{elements_of, set_iter, set_key, at_element, with_dead, with_live, begin, iter_init, advance, iter_next, iter_free}
use Rattle.hhbc_semantics.specs.ShapeAnalysis.{AreOfFlavours, AreLive}
use Rattle.hhbc_semantics.specs.ShapeRows.{Fits}
use Rattle.hhbc_semantics.proofs.ShapeOperands.{HasOnTop, length_set, Quiet, fit_quiet, quiet_raises, quiet_fails, quiet_if, fit_cell}

-- the target of an arm
pub record IsTarget (targets : List ℕ) (q : ℕ) : Type 0 where
  pub place : ℕ
  pub there : slice_get targets place ≡ Some q

abbrev pub OneOf : List ℕ → Option ℕ → Type 0
OneOf targets None = ⊥
OneOf targets (Some q) = IsTarget targets q

abbrev pub targets_of : List Arm → List ℕ
targets_of arms = map (λ (a : Arm). a.target) arms

later : (t : ℕ) (targets : List ℕ) (o : Option ℕ) → OneOf targets o → OneOf (t ∷ targets) o
later t targets None h = h
later t targets (Some q) h = record { place = suc h.place; there = h.there }

last_one : (a : Arm) (arms : List Arm) → OneOf (targets_of (a ∷ arms)) (last_arm (a ∷ arms))
last_one a [] = record { place = 0; there = refl }
last_one a (b ∷ more) = later a.target (targets_of (b ∷ more)) (last_arm (b ∷ more)) (last_one b more)

found_one : (arms : List Arm) (n : ℕ) (a : Arm) → slice_get arms n ≡ Some a → IsTarget (targets_of arms) a.target
found_one [] n a e = absurd (cc)
found_one (b ∷ more) zero a e = let x : b ≡ a = cc in record { place = 0; there = ap (λ (a : Arm). Some a.target) x }
found_one (b ∷ more) (suc n) a e = let x = found_one more n a e in record { place = suc x.place; there = x.there }

one_or_last : (a : Arm) (arms : List Arm) (n : ℕ) (o : Option Arm) → slice_get (a ∷ arms) n ≡ o → OneOf (targets_of (a ∷ arms)) (arm_or_last o (a ∷ arms))
one_or_last a arms n None e = last_one a arms
one_or_last a arms n (Some b) e = found_one (a ∷ arms) n b e

one_at : (a : Arm) (arms : List Arm) (n : ℤ) → OneOf (targets_of (a ∷ arms)) (arm_at n (a ∷ arms))
one_at a arms (pos n) = one_or_last a arms n (slice_get (a ∷ arms) n) refl
one_at a arms (negsuc n) = last_one a arms

one_of_int : (first : ℤ) (a : Arm) (arms : List Arm) (x : Cell) → OneOf (targets_of (a ∷ arms)) (int_arm first (a ∷ arms) x)
one_of_int first a arms (cells.Int n) = one_at a arms (n -ℤ first)
one_of_int first a arms _ = last_one a arms

one_of_text : (s : List ℕ) (a : Arm) (arms : List Arm) → OneOf (targets_of (a ∷ arms)) (arm_of_text s (a ∷ arms))
one_of_text s a [] = record { place = 0; there = refl }
one_of_text s a (b ∷ more) = by_case (has_text a.text s) (one_of_text s b more)
  where
    by_case : (t : Bool) → OneOf (targets_of (b ∷ more)) (arm_of_text s (b ∷ more))
        → OneOf (targets_of (a ∷ b ∷ more)) (if t then Some a.target else arm_of_text s (b ∷ more))
    by_case true h = record { place = 0; there = refl }
    by_case false h = later a.target (targets_of (b ∷ more)) (arm_of_text s (b ∷ more)) h

one_of_texts : (a : Arm) (arms : List Arm) (x : Cell) → OneOf (targets_of (a ∷ arms)) (text_arm (a ∷ arms) x)
one_of_texts a arms (cells.Str s) = one_of_text s a arms
one_of_texts a arms _ = last_one a arms

-- iterators
dead_at : (is : List (Option (List (Cell × Cell)))) (live : List Bool) (i : ℕ) → AreLive is live → i < length is → not (is_live (slice_get live i)) ≡ true
    → slice_get is i ≡ Some None
dead_at [] live i h l e = absurd (omega arith)
dead_at (None ∷ is) [] i h l e = absurd h
dead_at (Some es ∷ is) [] i h l e = absurd h
dead_at (None ∷ is) (b ∷ live) zero h l e = refl
dead_at (Some es ∷ is) (true ∷ live) zero h l e = absurd (cc)
dead_at (Some es ∷ is) (false ∷ live) zero h l e = absurd h
dead_at (None ∷ is) (true ∷ live) (suc i) h l e = absurd h
dead_at (None ∷ is) (false ∷ live) (suc i) h l e = dead_at is live i h (omega arith) e
dead_at (Some es ∷ is) (true ∷ live) (suc i) h l e = dead_at is live i h (omega arith) e
dead_at (Some es ∷ is) (false ∷ live) (suc i) h l e = absurd h

live_at : (is : List (Option (List (Cell × Cell)))) (live : List Bool) (i : ℕ) → AreLive is live → is_live (slice_get live i) ≡ true
    → (es : List (Cell × Cell)) × (slice_get is i ≡ Some (Some es))
live_at [] [] i h e = absurd (cc)
live_at [] (b ∷ live) i h e = absurd h
live_at (None ∷ is) [] i h e = absurd h
live_at (Some es ∷ is) [] i h e = absurd h
live_at (None ∷ is) (true ∷ live) i h e = absurd h
live_at (None ∷ is) (false ∷ live) zero h e = absurd (cc)
live_at (None ∷ is) (false ∷ live) (suc i) h e = live_at is live i h e
live_at (Some es ∷ is) (true ∷ live) zero h e = (es, refl)
live_at (Some es ∷ is) (true ∷ live) (suc i) h e = live_at is live i h e
live_at (Some es ∷ is) (false ∷ live) i h e = absurd h

set_live : (is : List (Option (List (Cell × Cell)))) (live : List Bool) (i : ℕ) (es : List (Cell × Cell)) → AreLive is live
    → AreLive (slice_set is i (Some es)) (slice_set live i true)
set_live [] [] i es h = h
set_live [] (b ∷ live) i es h = absurd h
set_live (None ∷ is) [] i es h = absurd h
set_live (Some x ∷ is) [] i es h = absurd h
set_live (None ∷ is) (true ∷ live) i es h = absurd h
set_live (Some x ∷ is) (false ∷ live) i es h = absurd h
set_live (None ∷ is) (false ∷ live) zero es h = h
set_live (None ∷ is) (false ∷ live) (suc i) es h = set_live is live i es h
set_live (Some x ∷ is) (true ∷ live) zero es h = h
set_live (Some x ∷ is) (true ∷ live) (suc i) es h = set_live is live i es h

set_dead : (is : List (Option (List (Cell × Cell)))) (live : List Bool) (i : ℕ) → AreLive is live → AreLive (slice_set is i None) (slice_set live i false)
set_dead [] [] i h = h
set_dead [] (b ∷ live) i h = absurd h
set_dead (None ∷ is) [] i h = absurd h
set_dead (Some x ∷ is) [] i h = absurd h
set_dead (None ∷ is) (true ∷ live) i h = absurd h
set_dead (Some x ∷ is) (false ∷ live) i h = absurd h
set_dead (None ∷ is) (false ∷ live) zero h = h
set_dead (None ∷ is) (false ∷ live) (suc i) h = set_dead is live i h
set_dead (Some x ∷ is) (true ∷ live) zero h = h
set_dead (Some x ∷ is) (true ∷ live) (suc i) h = set_dead is live i h

-- one that is dead may be said to be so
still_dead : (is : List (Option (List (Cell × Cell)))) (live : List Bool) (i : ℕ) → AreLive is live → not (is_live (slice_get live i)) ≡ true
    → AreLive is (slice_set live i false)
still_dead [] [] i h e = h
still_dead [] (b ∷ live) i h e = absurd h
still_dead (None ∷ is) [] i h e = absurd h
still_dead (Some x ∷ is) [] i h e = absurd h
still_dead (None ∷ is) (true ∷ live) i h e = absurd h
still_dead (Some x ∷ is) (false ∷ live) i h e = absurd h
still_dead (None ∷ is) (false ∷ live) zero h e = h
still_dead (None ∷ is) (false ∷ live) (suc i) h e = still_dead is live i h e
still_dead (Some x ∷ is) (true ∷ live) zero h e = absurd (cc)
still_dead (Some x ∷ is) (true ∷ live) (suc i) h e = still_dead is live i h e

key_locals : (g : Frame) (k : Option ℕ) (x : Cell) → length (set_key g k x).locals ≡ length g.locals
key_locals g None x = refl
key_locals g (Some k) x = length_set g.locals k (slots.Cell x)

element_locals : (f : Frame) (i : ℕ) (ls : Option ℕ × ℕ) (e : Cell × Cell) (more : List (Cell × Cell)) → length (at_element f i ls e more).locals ≡ length f.locals
element_locals f i ls e more =
    key_locals (set_local (set_iter f i (Some more)) ls.1 (slots.Cell e.1)) ls.0 e.0 ∙ length_set f.locals ls.1 (slots.Cell e.1)

key_iters : (g : Frame) (k : Option ℕ) (x : Cell) → (set_key g k x).iters ≡ g.iters
key_iters g None x = refl
key_iters g (Some k) x = refl

key_body : (g : Frame) (k : Option ℕ) (x : Cell) → (set_key g k x).body ≡ g.body
key_body g None x = refl
key_body g (Some k) x = refl

key_position : (g : Frame) (k : Option ℕ) (x : Cell) → (set_key g k x).position ≡ g.position
key_position g None x = refl
key_position g (Some k) x = refl

module _ (r : Linked) (c : Code) (live : List Bool) (f : Frame) (fs : List Flavour) (s : AreOfFlavours f.stack fs) (lives : AreLive f.iters live) where
  abbrev fits : List Flavour → (World → Turn) → Type 0
  fits left act = Fits r c live left f act

  abbrev quiet : List Flavour → World → Turn → Type 0
  quiet left w t = Quiet r c live f left w t

  -- a frame with other locals and iterators at a label, or at the next position
  quiet_to : (left : List Flavour) (g : Frame) (q : ℕ) (stack : List Slot) (w : World) → IsTarget (labels c) q → g.body ≡ f.body
      → length g.locals ≡ length f.locals → AreLive g.iters (live_to (iter_use c) live) → AreOfFlavours stack left → quiet left w (Goes (jump g q stack) w)
  quiet_to left g q stack w to body locals iters t = record {
    plain = (
      record { body = body; locals = locals; stack = t; leads = inr (record { place = to.place; labelled = to.there; iters = iters }) },
      λ n k h. h,
    );
  }

  quiet_behind : (left : List Flavour) (g : Frame) (stack : List Slot) (w : World) → goes_on c ≡ true → g.body ≡ f.body
      → length g.locals ≡ length f.locals → g.position ≡ f.position → AreLive g.iters (live_next (iter_use c) live) → AreOfFlavours stack left
      → quiet left w (Goes (ahead g stack) w)
  quiet_behind left g stack w on body locals position iters t = record {
    plain = (
      record { body = body; locals = locals; stack = t; leads = inl (record { on = on; position = ap suc position; iters = iters }) },
      λ n k h. h,
    );
  }

  idle_to : iter_use c ≡ None → AreLive f.iters (live_to (iter_use c) live)
  idle_to e = subst (λ u. AreLive f.iters (live_to u live)) (sym e) lives

  idle_next : iter_use c ≡ None → AreLive f.iters (live_next (iter_use c) live)
  idle_next e = subst (λ u. AreLive f.iters (live_next u live)) (sym e) lives

  -- branches
  pub fit_jump : (q : ℕ) → IsTarget (labels c) q → iter_use c ≡ None → fits fs (λ w. Goes (jump f q f.stack) w)
  fit_jump q to idle = fit_quiet r c live f fs _ (λ w. quiet_to fs f q f.stack w to refl refl (idle_to idle) s)

  quiet_branch : (t : Bool) (q : ℕ) (left : List Flavour) (stack : List Slot) (w : World) → goes_on c ≡ true → IsTarget (labels c) q → iter_use c ≡ None
      → AreOfFlavours stack left → quiet left w (Goes (branch t f q stack) w)
  quiet_branch true q left stack w on to idle t = quiet_to left f q stack w to refl refl (idle_to idle) t
  quiet_branch false q left stack w on to idle t = quiet_behind left f stack w on refl refl refl (idle_next idle) t

  pub fit_jump_where : (b : Bool) (q : ℕ) → goes_on c ≡ true → IsTarget (labels c) q → iter_use c ≡ None → HasOnTop (C ∷ []) fs
      → fits (drop 1 fs) (λ w. jump_where b q f w)
  fit_jump_where true q on to idle h =
      fit_cell r c live f [] [] fs f.stack _ s h
      (λ x rest more t m all. fit_quiet r c live f more _ (λ w. quiet_branch (truth x) q more rest w on to idle t))
  fit_jump_where false q on to idle h =
      fit_cell r c live f [] [] fs f.stack _ s h
      (λ x rest more t m all. fit_quiet r c live f more _
      (λ w. quiet_branch (if truth x then false else true) q more rest w on to idle t))

  quiet_jump_to : (o : Option ℕ) (targets : List ℕ) (left : List Flavour) (stack : List Slot) (w : World)
      → ((q : ℕ) → IsTarget targets q → IsTarget (labels c) q) → OneOf targets o → iter_use c ≡ None → AreOfFlavours stack left
      → quiet left w (jump_to o f stack w)
  quiet_jump_to None targets left stack w among one idle t = absurd one
  quiet_jump_to (Some q) targets left stack w among one idle t = quiet_to left f q stack w (among q one) refl refl (idle_to idle) t

  pub fit_switch : (first : ℤ) (a : Arm) (arms : List Arm) → ((q : ℕ) → IsTarget (targets_of (a ∷ arms)) q → IsTarget (labels c) q) → iter_use c ≡ None
      → HasOnTop (C ∷ []) fs → fits (drop 1 fs) (λ w. switch first (a ∷ arms) f w)
  fit_switch first a arms among idle h =
      fit_cell r c live f [] [] fs f.stack _ s h
      (λ x rest more t m all. fit_quiet r c live f more _
      (λ w. quiet_jump_to (int_arm first (a ∷ arms) x) (targets_of (a ∷ arms)) more rest w among (one_of_int first a arms x) idle t))

  pub fit_switch_text : (a : Arm) (arms : List Arm) → ((q : ℕ) → IsTarget (targets_of (a ∷ arms)) q → IsTarget (labels c) q) → iter_use c ≡ None
      → HasOnTop (C ∷ []) fs → fits (drop 1 fs) (λ w. switch_text (a ∷ arms) f w)
  fit_switch_text a arms among idle h =
      fit_cell r c live f [] [] fs f.stack _ s h
      (λ x rest more t m all. fit_quiet r c live f more _
      (λ w. quiet_jump_to (text_arm (a ∷ arms) x) (targets_of (a ∷ arms)) more rest w among (one_of_texts a arms x) idle t))

  -- ends of a frame
  pub fit_return : HasOnTop (C ∷ []) fs → fits (drop 1 fs) (λ w. with_cell f.stack w (λ x rest. Returns x w))
  fit_return h =
      fit_cell r c live f [] [] fs f.stack _ s h
      (λ x rest more t m all. fit_quiet r c live f more _ (λ w. record { plain = λ n k g. g }))

  pub fit_fatal : (name : FatalName) → HasOnTop (C ∷ []) fs → fits (drop 1 fs) (λ w. with_cell f.stack w (λ x rest. Ends (Fails name) w))
  fit_fatal name h =
      fit_cell r c live f [] [] fs f.stack _ s h
      (λ x rest more t m all. fit_quiet r c live f more _ (λ w. quiet_fails r c live f more name w))

  pub fit_throw : (S : Setting) → throws c ≡ true → HasOnTop (C ∷ []) fs → fits (drop 1 fs) (λ w. throw S f w)
  fit_throw S may h =
      fit_cell r c live f [] [] fs f.stack _ s h
      (λ x rest more t m all. fit_quiet r c live f more _
      (λ w. quiet_if r c live f more w (is_instance S w any_exception x) _ _ (record { plain = (may, λ n k g. g) })
      (quiet_raises r c live f more _ _ w may)))

  -- iterators
  element_next : (i : ℕ) (ls : Option ℕ × ℕ) (e : Cell × Cell) (es : List (Cell × Cell)) → iter_use c ≡ Some (Begin i)
      → AreLive (at_element f i ls e es).iters (live_next (iter_use c) live)
  element_next i ls e es u =
      subst (λ is. AreLive is (live_next (iter_use c) live)) (sym (key_iters (set_local (set_iter f i (Some es)) ls.1 (slots.Cell e.1)) ls.0 e.0))
      (subst (λ u. AreLive (slice_set f.iters i (Some es)) (live_next u live)) (sym u) (set_live f.iters live i es lives))

  element_to : (i : ℕ) (ls : Option ℕ × ℕ) (e : Cell × Cell) (es : List (Cell × Cell)) → iter_use c ≡ Some (Advance i)
      → AreLive (at_element f i ls e es).iters (live_to (iter_use c) live)
  element_to i ls e es u =
      subst (λ is. AreLive is (live_to (iter_use c) live)) (sym (key_iters (set_local (set_iter f i (Some es)) ls.1 (slots.Cell e.1)) ls.0 e.0))
      (subst (λ u. AreLive (slice_set f.iters i (Some es)) (live_to u live)) (sym u) (set_live f.iters live i es lives))

  element_body : (i : ℕ) (ls : Option ℕ × ℕ) (e : Cell × Cell) (es : List (Cell × Cell)) → (at_element f i ls e es).body ≡ f.body
  element_body i ls e es = key_body (set_local (set_iter f i (Some es)) ls.1 (slots.Cell e.1)) ls.0 e.0

  element_position : (i : ℕ) (ls : Option ℕ × ℕ) (e : Cell × Cell) (es : List (Cell × Cell)) → (at_element f i ls e es).position ≡ f.position
  element_position i ls e es = key_position (set_local (set_iter f i (Some es)) ls.1 (slots.Cell e.1)) ls.0 e.0

  quiet_begin : (o : Option (List (Cell × Cell))) (i : ℕ) (ls : Option ℕ × ℕ) (q : ℕ) (left : List Flavour) (rest : List Slot) (w : World)
      → goes_on c ≡ true → throws c ≡ true → IsTarget (labels c) q → iter_use c ≡ Some (Begin i) → not (is_live (slice_get live i)) ≡ true
      → AreOfFlavours rest left → quiet left w (begin o i ls q f rest w)
  quiet_begin None i ls q left rest w on may to u dead t = quiet_raises r c live f left _ _ w may
  quiet_begin (Some []) i ls q left rest w on may to u dead t =
      quiet_to left f q rest w to refl refl (subst (λ u. AreLive f.iters (live_to u live)) (sym u) (still_dead f.iters live i lives dead)) t
  quiet_begin (Some (e ∷ es)) i ls q left rest w on may to u dead t =
      quiet_behind left (at_element f i ls e es) rest w on (element_body i ls e es) (element_locals f i ls e es) (element_position i ls e es)
      (element_next i ls e es u) t

  quiet_dead : (o : Option (Option (List (Cell × Cell)))) (left : List Flavour) (w : World) (t : Turn) → o ≡ Some None → quiet left w t
      → quiet left w (with_dead o w t)
  quiet_dead None left w t e h = absurd (cc)
  quiet_dead (Some None) left w t e h = h
  quiet_dead (Some (Some es)) left w t e h = absurd (cc)

  quiet_live : (o : Option (Option (List (Cell × Cell)))) (es : List (Cell × Cell)) (left : List Flavour) (w : World) (go : List (Cell × Cell) → Turn)
      → o ≡ Some (Some es) → ((es : List (Cell × Cell)) → quiet left w (go es)) → quiet left w (with_live o w go)
  quiet_live None es left w go e h = absurd (cc)
  quiet_live (Some None) es left w go e h = absurd (cc)
  quiet_live (Some (Some xs)) es left w go e h = h xs

  pub fit_iter_init : (i : ℕ) (ls : Option ℕ × ℕ) (q : ℕ) → i < length f.iters → goes_on c ≡ true → throws c ≡ true → IsTarget (labels c) q
      → iter_use c ≡ Some (Begin i) → not (is_live (slice_get live i)) ≡ true → HasOnTop (C ∷ []) fs → fits (drop 1 fs) (λ w. iter_init i ls q f w)
  fit_iter_init i ls q inside on may to u dead h =
      fit_cell r c live f [] [] fs f.stack _ s h
      (λ x rest more t m all. fit_quiet r c live f more _
      (λ w. quiet_dead (slice_get f.iters i) more w _ (dead_at f.iters live i lives inside dead)
      (quiet_begin (elements_of x) i ls q more rest w on may to u dead t)))

  quiet_advance : (es : List (Cell × Cell)) (i : ℕ) (ls : Option ℕ × ℕ) (q : ℕ) (w : World) → goes_on c ≡ true → IsTarget (labels c) q
      → iter_use c ≡ Some (Advance i) → quiet fs w (advance es i ls q f w)
  quiet_advance [] i ls q w on to u =
      quiet_behind fs (set_iter f i None) f.stack w on refl refl refl
      (subst (λ u. AreLive (slice_set f.iters i None) (live_next u live)) (sym u) (set_dead f.iters live i lives)) s
  quiet_advance (e ∷ es) i ls q w on to u =
      quiet_to fs (at_element f i ls e es) q f.stack w to (element_body i ls e es) (element_locals f i ls e es) (element_to i ls e es u) s

  pub fit_iter_next : (i : ℕ) (ls : Option ℕ × ℕ) (q : ℕ) → goes_on c ≡ true → IsTarget (labels c) q → iter_use c ≡ Some (Advance i)
      → is_live (slice_get live i) ≡ true → fits fs (λ w. iter_next i ls q f w)
  fit_iter_next i ls q on to u on_now =
      let x = live_at f.iters live i lives on_now in
      fit_quiet r c live f fs _ (λ w. quiet_live (slice_get f.iters i) x.0 fs w _ x.1 (λ es. quiet_advance es i ls q w on to u))

  pub fit_iter_free : (i : ℕ) → goes_on c ≡ true → iter_use c ≡ Some (Free i) → is_live (slice_get live i) ≡ true → fits fs (λ w. iter_free i f w)
  fit_iter_free i on u on_now =
      let x = live_at f.iters live i lives on_now in
      fit_quiet r c live f fs _
      (λ w. quiet_live (slice_get f.iters i) x.0 fs w _ x.1
      (λ es. quiet_behind fs (set_iter f i None) f.stack w on refl refl refl
      (subst (λ u. AreLive (slice_set f.iters i None) (live_next u live)) (sym u) (set_dead f.iters live i lives)) s))
