-- Two states below each other are equal, where two classes below each other are.
use Rattle.std.proofs.Common.{◌≡◌, refl, List, [], ◌∷◌}
use Rattle.type_lattice.specs.declared.types.HType.{HType}
use Rattle.type_lattice.specs.Classes.{Tree}
use Rattle.type_lattice.proofs.Antisymmetry.{Antisymmetric, Le-antisym, LeafLe-antisym}
use Rattle.abstract_step.specs.State.{State, IterType, Dead, Live, AllLe, IterLe, ItersLe, StateLe}

module _ (tree : Tree) (same : Antisymmetric tree) where
  types_same : (ts us : List HType) → AllLe tree ts us → AllLe tree us ts → ts ≡ us
  types_same [] [] h k = refl
  types_same [] (u ∷ us) h k = absurd h
  types_same (t ∷ ts) [] h k = absurd h
  types_same (t ∷ ts) (u ∷ us) h k = λ i. Le-antisym tree same t u h.0 k.0 i ∷ types_same ts us h.1 k.1 i

  iter_same : (t u : IterType) → IterLe tree t u → IterLe tree u t → t ≡ u
  iter_same Dead Dead h k = refl
  iter_same Dead (Live l v) h k = absurd h
  iter_same (Live l v) Dead h k = absurd h
  iter_same (Live l v) (Live m w) h k = λ i. Live (LeafLe-antisym tree same l m h.0 k.0 i) (LeafLe-antisym tree same v w h.1 k.1 i)

  iters_same : (ts us : List IterType) → ItersLe tree ts us → ItersLe tree us ts → ts ≡ us
  iters_same [] [] h k = refl
  iters_same [] (u ∷ us) h k = absurd h
  iters_same (t ∷ ts) [] h k = absurd h
  iters_same (t ∷ ts) (u ∷ us) h k = λ i. iter_same t u h.0 k.0 i ∷ iters_same ts us h.1 k.1 i

  pub StateLe-antisym : (s t : State) → StateLe tree s t → StateLe tree t s → s ≡ t
  StateLe-antisym s t h k = λ i. record {
    locals = types_same s.locals t.locals h.locals k.locals i;
    stack = types_same s.stack t.stack h.stack k.stack i;
    iters = iters_same s.iters t.iters h.iters k.iters i;
  }
