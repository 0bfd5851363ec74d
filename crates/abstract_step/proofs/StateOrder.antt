-- The order of states, and what it keeps.
use Rattle.std.proofs.Common.{◌≡◌, ℕ, zero, suc, refl, Bool, true, false, not, ◌&&◌, Option, Some, None, List, [], ◌∷◌, slice_get, slice_set}
use Rattle.hack_values.specs.declared.cell.Slot.{Slot}
use Rattle.type_lattice.specs.declared.types.HType.{HType}
use Rattle.type_lattice.specs.Classes.{Tree}
use Rattle.type_lattice.specs.Order.{Le}
use Rattle.type_lattice.specs.Types.{initialised}
use Rattle.type_lattice.specs.Never.{is_never, all_alive}
use Rattle.type_lattice.specs.Member.{Heap, is_member, AreMembers}
use Rattle.type_lattice.proofs.OrderLaws.{Transitive, Le-refl, Le-trans, LeafLe-refl, LeafLe-trans}
use Rattle.type_lattice.proofs.Members.{is_member-le, is_alive-le}
use Rattle.abstract_step.specs.State.{State, IterType, Dead, Live, AllLe, IterLe, ItersLe, StateLe, is_alive}

-- what stands at a place of both lists
abbrev pub BothAt : {A B : Type 0} → (A → B → Type 0) → Option A → Option B → Type 0
BothAt R None None = Unit {0}
BothAt R None (Some b) = ⊥
BothAt R (Some a) None = ⊥
BothAt R (Some a) (Some b) = R a b

split : (a b : Bool) → (a && b) ≡ true → (a ≡ true) × (b ≡ true)
split true b h = (refl, h)
split false b h = absurd (cc)

pub together : (a b : Bool) → a ≡ true → b ≡ true → (a && b) ≡ true
together a b h k = rw (h, k) refl

module _ (tree : Tree) where
  pub AllLe-refl : (ts : List HType) → AllLe tree ts ts
  AllLe-refl [] = tt
  AllLe-refl (t ∷ ts) = (Le-refl tree t, AllLe-refl ts)

  IterLe-refl : (t : IterType) → IterLe tree t t
  IterLe-refl Dead = tt
  IterLe-refl (Live k v) = (LeafLe-refl tree k, LeafLe-refl tree v)

  ItersLe-refl : (ts : List IterType) → ItersLe tree ts ts
  ItersLe-refl [] = tt
  ItersLe-refl (t ∷ ts) = (IterLe-refl t, ItersLe-refl ts)

  pub StateLe-refl : (s : State) → StateLe tree s s
  StateLe-refl s = record { locals = AllLe-refl s.locals; stack = AllLe-refl s.stack; iters = ItersLe-refl s.iters }

  pub AllLe-get : (ts us : List HType) (i : ℕ) → AllLe tree ts us → BothAt (Le tree) (slice_get ts i) (slice_get us i)
  AllLe-get [] [] i h = tt
  AllLe-get [] (u ∷ us) i h = absurd h
  AllLe-get (t ∷ ts) [] i h = absurd h
  AllLe-get (t ∷ ts) (u ∷ us) zero h = h.0
  AllLe-get (t ∷ ts) (u ∷ us) (suc i) h = AllLe-get ts us i h.1

  pub AllLe-set : (ts us : List HType) (i : ℕ) (t u : HType) → AllLe tree ts us → Le tree t u → AllLe tree (slice_set ts i t) (slice_set us i u)
  AllLe-set [] [] i t u h k = tt
  AllLe-set [] (y ∷ us) i t u h k = absurd h
  AllLe-set (x ∷ ts) [] i t u h k = absurd h
  AllLe-set (x ∷ ts) (y ∷ us) zero t u h k = (k, h.1)
  AllLe-set (x ∷ ts) (y ∷ us) (suc i) t u h k = (h.0, AllLe-set ts us i t u h.1 k)

  all_alive-le : (ts us : List HType) → AllLe tree ts us → all_alive ts ≡ true → all_alive us ≡ true
  all_alive-le [] [] h k = refl
  all_alive-le [] (u ∷ us) h k = absurd h
  all_alive-le (t ∷ ts) [] h k = absurd h
  all_alive-le (t ∷ ts) (u ∷ us) h k =
      let w = split (not (is_never t)) (all_alive ts) k in
      together (not (is_never u)) (all_alive us) (is_alive-le tree t u h.0 w.0) (all_alive-le ts us h.1 w.1)

  -- what is above a state without a type that has no members is one too
  pub alive-le : (s t : State) → StateLe tree s t → is_alive s ≡ true → is_alive t ≡ true
  alive-le s t h k =
      let w = split (all_alive s.locals) (all_alive s.stack) k in
      together (all_alive t.locals) (all_alive t.stack) (all_alive-le _ _ h.locals w.0) (all_alive-le _ _ h.stack w.1)

  pub initialised-le : (t u : HType) → Le tree t u → Le tree (initialised t) (initialised u)
  initialised-le t u h = record {
    uninit = tt;
    null = h.null;
    no = h.no;
    yes = h.yes;
    int = h.int;
    str = h.str;
    obj = h.obj;
    vec = h.vec;
    dict = h.dict;
    keyset = h.keyset;
  }

  module _ (higher : Transitive tree) where
    AllLe-trans : (ts us vs : List HType) → AllLe tree ts us → AllLe tree us vs → AllLe tree ts vs
    AllLe-trans [] [] vs h k = k
    AllLe-trans [] (u ∷ us) vs h k = absurd h
    AllLe-trans (t ∷ ts) [] vs h k = absurd h
    AllLe-trans (t ∷ ts) (u ∷ us) [] h k = absurd k
    AllLe-trans (t ∷ ts) (u ∷ us) (v ∷ vs) h k = (Le-trans tree higher t u v h.0 k.0, AllLe-trans ts us vs h.1 k.1)

    IterLe-trans : (t u v : IterType) → IterLe tree t u → IterLe tree u v → IterLe tree t v
    IterLe-trans Dead Dead v h k = k
    IterLe-trans Dead (Live a b) v h k = absurd h
    IterLe-trans (Live a b) Dead v h k = absurd h
    IterLe-trans (Live a b) (Live c d) Dead h k = absurd k
    IterLe-trans (Live a b) (Live c d) (Live e f) h k = (LeafLe-trans tree higher a c e h.0 k.0, LeafLe-trans tree higher b d f h.1 k.1)

    ItersLe-trans : (ts us vs : List IterType) → ItersLe tree ts us → ItersLe tree us vs → ItersLe tree ts vs
    ItersLe-trans [] [] vs h k = k
    ItersLe-trans [] (u ∷ us) vs h k = absurd h
    ItersLe-trans (t ∷ ts) [] vs h k = absurd h
    ItersLe-trans (t ∷ ts) (u ∷ us) [] h k = absurd k
    ItersLe-trans (t ∷ ts) (u ∷ us) (v ∷ vs) h k = (IterLe-trans t u v h.0 k.0, ItersLe-trans ts us vs h.1 k.1)

    pub StateLe-trans : (s t u : State) → StateLe tree s t → StateLe tree t u → StateLe tree s u
    StateLe-trans s t u h k = record {
      locals = AllLe-trans _ _ _ h.locals k.locals;
      stack = AllLe-trans _ _ _ h.stack k.stack;
      iters = ItersLe-trans _ _ _ h.iters k.iters;
    }

    pub AreMembers-le : (heap : Heap) (ss : List Slot) (ts us : List HType) → AllLe tree ts us → AreMembers tree heap ss ts → AreMembers tree heap ss us
    AreMembers-le heap [] [] [] h m = tt
    AreMembers-le heap [] [] (u ∷ us) h m = absurd h
    AreMembers-le heap [] (t ∷ ts) us h m = absurd m
    AreMembers-le heap (s ∷ ss) [] us h m = absurd m
    AreMembers-le heap (s ∷ ss) (t ∷ ts) [] h m = absurd h
    AreMembers-le heap (s ∷ ss) (t ∷ ts) (u ∷ us) h m = (is_member-le tree higher heap s t u h.0 m.0, AreMembers-le heap ss ts us h.1 m.1)

pub AreMembers-get : (tree : Tree) (heap : Heap) (ss : List Slot) (ts : List HType) (i : ℕ) → AreMembers tree heap ss ts
    → BothAt (λ s t. is_member tree heap s t ≡ true) (slice_get ss i) (slice_get ts i)
AreMembers-get tree heap [] [] i h = tt
AreMembers-get tree heap [] (t ∷ ts) i h = absurd h
AreMembers-get tree heap (s ∷ ss) [] i h = absurd h
AreMembers-get tree heap (s ∷ ss) (t ∷ ts) zero h = h.0
AreMembers-get tree heap (s ∷ ss) (t ∷ ts) (suc i) h = AreMembers-get tree heap ss ts i h.1

pub AreMembers-set : (tree : Tree) (heap : Heap) (ss : List Slot) (ts : List HType) (i : ℕ) (s : Slot) (t : HType) → AreMembers tree heap ss ts
    → is_member tree heap s t ≡ true → AreMembers tree heap (slice_set ss i s) (slice_set ts i t)
AreMembers-set tree heap [] [] i s t h m = tt
AreMembers-set tree heap [] (b ∷ ts) i s t h m = absurd h
AreMembers-set tree heap (a ∷ ss) [] i s t h m = absurd h
AreMembers-set tree heap (a ∷ ss) (b ∷ ts) zero s t h m = (m, h.1)
AreMembers-set tree heap (a ∷ ss) (b ∷ ts) (suc i) s t h m = (h.0, AreMembers-set tree heap ss ts i s t h.1 m)
