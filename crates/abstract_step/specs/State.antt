-- What is known at a position: a type for each local and each slot of the stack, and what each live iterator gives.
use Rattle.std.specs.Prelude.{◌-◌, Bool, List, [], ◌∷◌, ◌++◌, ◌&&◌, length, replicate}
use Rattle.type_lattice.specs.declared.types.Leaf.{Leaf}
use Rattle.type_lattice.specs.declared.types.HType.{HType}
use Rattle.type_lattice.specs.Classes.{Tree}
use Rattle.type_lattice.specs.Order.{Le, LeafLe}
use Rattle.type_lattice.specs.Types.{cell, uninit}
use Rattle.type_lattice.specs.Never.{all_alive}
use Rattle.hhbc_repo.specs.declared.body.Body.{Body}

-- an iterator, with the types of the keys and values that it may still give
pub data IterType : Type 0 where
  Dead : IterType
  Live : (key value : Leaf) → IterType

-- the topmost slot of the stack comes first
pub record State : Type 0 where
  pub locals : List HType
  pub stack : List HType
  pub iters : List IterType

abbrev pub AllLe : Tree → List HType → List HType → Type 0
AllLe tree [] [] = Unit {0}
AllLe tree [] (u ∷ us) = ⊥
AllLe tree (t ∷ ts) [] = ⊥
AllLe tree (t ∷ ts) (u ∷ us) = Le tree t u × AllLe tree ts us

abbrev pub IterLe : Tree → IterType → IterType → Type 0
IterLe tree Dead Dead = Unit {0}
IterLe tree Dead (Live k v) = ⊥
IterLe tree (Live k v) Dead = ⊥
IterLe tree (Live k v) (Live l u) = LeafLe tree k l × LeafLe tree v u

abbrev pub ItersLe : Tree → List IterType → List IterType → Type 0
ItersLe tree [] [] = Unit {0}
ItersLe tree [] (u ∷ us) = ⊥
ItersLe tree (t ∷ ts) [] = ⊥
ItersLe tree (t ∷ ts) (u ∷ us) = IterLe tree t u × ItersLe tree ts us

-- type by type, with as many of each
pub record StateLe (tree : Tree) (s t : State) : Type 0 where
  pub locals : AllLe tree s.locals t.locals
  pub stack : AllLe tree s.stack t.stack
  pub iters : ItersLe tree s.iters t.iters

-- no local and no slot is without members
abbrev pub is_alive : State → Bool
is_alive s = all_alive s.locals && all_alive s.stack

-- the state that enters a body: parameters of any type, other locals Uninit, no iterator live
abbrev pub entry_state : Body → State
entry_state b = record {
  locals = replicate b.params cell ++ replicate (length b.locals - b.params) uninit;
  stack = [];
  iters = replicate b.iters Dead;
}
