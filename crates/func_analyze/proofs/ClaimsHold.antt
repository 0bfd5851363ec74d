-- The assertions that a state gives hold of a frame that lies in it, and change no code.
use Rattle.std.proofs.Common.{◌≡◌, ℕ, zero, suc, refl, sym, ◌∙◌, ap, subst, Bool, true, false, Option, Some, None, List, [], ◌∷◌, ◌++◌, slice_get, cond}
use Rattle.hack_values.specs.declared.cell.Slot.{Slot}
use Rattle.type_lattice.specs.declared.types.HType.{HType}
use Rattle.type_lattice.specs.Classes.{Tree}
use Rattle.type_lattice.specs.Member.{Heap, is_member, AreMembers}
use Rattle.type_lattice.specs.Whole.{is_whole}
use Rattle.hhbc_repo.specs.declared.code.Code.{Code}
use Rattle.hhbc_repo.specs.declared.body.Assert.{Assert}
use Rattle.hhbc_repo.specs.declared.body.Assert.TheVariants as asserts
use Rattle.hhbc_repo.specs.declared.body.Position.{Position}
use Rattle.hhbc_repo.specs.Bodies.{asserts_of}
use Rattle.hhbc_repo.specs.Codes.{Flavour, reads_locals, pops}
use Rattle.hhbc_semantics.specs.Frames.{Frame}
use Rattle.hhbc_semantics.specs.Run.{slot_in, holds, and_then, test}
use Rattle.abstract_step.specs.State.{State}
use Rattle.abstract_step.proofs.StateOrder.{BothAt, AreMembers-get}
use Rattle.abstract_step.proofs.Rows.{Lies}
use Rattle.func_analyze.specs.Solution.{Table, HasState}
use Rattle.func_analyze.specs.Annotated.{claim, local_claims, stack_claims, claims, with_claims}

module _ (tree : Tree) (heap : Heap) (f : Frame) where
  chosen_holds : (make : HType → Assert) (t : HType) (b : Bool) → holds tree heap f (make t) ≡ Some true
      → test tree heap f (cond b [] (make t ∷ [])) ≡ Some true
  chosen_holds make t true h = refl
  chosen_holds make t false h = rw h refl

  claim_holds : (make : HType → Assert) (s : Option Slot) (t : Option HType) → BothAt (λ s t. is_member tree heap s t ≡ true) s t
      → ((t : HType) → holds tree heap f (make t) ≡ slot_in tree heap s t) → test tree heap f (claim make t) ≡ Some true
  claim_holds make s None h e = refl
  claim_holds make None (Some t) h e = absurd h
  claim_holds make (Some s) (Some t) h e = chosen_holds make t (is_whole t) (e t ∙ ap (λ b. Some b) h)

  and_on : (x y z : Option Bool) → and_then x y ≡ Some true → (y ≡ Some true → z ≡ Some true) → and_then x z ≡ Some true
  and_on None y z h k = absurd (cc)
  and_on (Some true) y z h k = k h
  and_on (Some false) y z h k = absurd (cc)

  test_append : (xs ys : List Assert) → test tree heap f xs ≡ Some true → test tree heap f ys ≡ Some true → test tree heap f (xs ++ ys) ≡ Some true
  test_append [] ys h k = k
  test_append (x ∷ xs) ys h k = and_on (holds tree heap f x) _ _ h (λ e. test_append xs ys e k)

  locals_hold : (ls : List ℕ) (ts : List HType) → AreMembers tree heap f.locals ts → test tree heap f (local_claims ls ts) ≡ Some true
  locals_hold [] ts h = refl
  locals_hold (l ∷ ls) ts h =
      test_append (claim (λ t. asserts.Local l t) (slice_get ts l)) (local_claims ls ts)
      (claim_holds (λ t. asserts.Local l t) (slice_get f.locals l) (slice_get ts l) (AreMembers-get tree heap f.locals ts l h) (λ t. refl))
      (locals_hold ls ts h)

  stack_holds : (fs : List Flavour) (ts : List HType) → AreMembers tree heap f.stack ts → test tree heap f (stack_claims fs ts) ≡ Some true
  stack_holds [] ts h = refl
  stack_holds (x ∷ fs) ts h =
      claim_holds (λ t. asserts.Stack 0 t) (slice_get f.stack 0) (slice_get ts 0) (AreMembers-get tree heap f.stack ts 0 h) (λ t. refl)

  claims_hold : (c : Code) (s : State) → Lies tree f heap s → test tree heap f (claims c (Some s)) ≡ Some true
  claims_hold c s h =
      test_append (local_claims (reads_locals c) s.locals) (stack_claims (pops c) s.stack)
      (locals_hold (reads_locals c) s.locals h.locals) (stack_holds (pops c) s.stack h.stack)

  -- the assertions before a position hold of a frame that lies in its state
  pub claims_at : (ps : List Position) (T : Table) (p : ℕ) (s : State) → HasState T p s → Lies tree f heap s
      → test tree heap f (asserts_of (slice_get (with_claims ps T) p)) ≡ Some true
  claims_at [] T p s e h = refl
  claims_at (q ∷ ps) [] p s e h = absurd (cc)
  claims_at (q ∷ ps) (o ∷ T) zero s e h =
      let k : o ≡ Some s = cc in
      subst (λ (o : Option State). test tree heap f (claims q.code o) ≡ Some true) (sym k) (claims_hold q.code s h)
  claims_at (q ∷ ps) (o ∷ T) (suc p) s e h = claims_at ps T p s e h
