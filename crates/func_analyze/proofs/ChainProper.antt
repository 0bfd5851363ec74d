-- The types along a body without jumps are proper.
use Rattle.std.proofs.Common.{ℕ, zero, suc, ◌-◌, Bool, true, false, Option, Some, None, List, [], ◌∷◌, ◌++◌, replicate, slice_get, slice_set, length, cond, w64, FitsSigned}
use Rattle.hhbc_ops.specs.declared.op.Op.{Op}
use Rattle.hhbc_ops.specs.declared.op.Op.TheVariants as ops
use Rattle.type_lattice.specs.declared.types.HType.{HType}
use Rattle.type_lattice.specs.Types.{uninit, cell, initialised}
use Rattle.type_lattice.specs.Proper.{IsProper}
use Rattle.type_lattice.proofs.Singles.{never_proper, uninit_proper, cell_proper}
use Rattle.hhbc_repo.specs.declared.code.Code.{Code}
use Rattle.hhbc_repo.specs.declared.code.Code.TheVariants as kinds
use Rattle.hhbc_repo.specs.declared.code.Imm.{Imm}
use Rattle.hhbc_repo.specs.declared.body.Body.{Body}
use Rattle.hhbc_repo.specs.declared.body.Position.{Position}
use Rattle.hhbc_repo.specs.Bodies.{built_in_tree}
use Rattle.hhbc_repo.specs.Codes.{local_of, int_of}
use Rattle.abstract_step.specs.State.{State, entry_state, is_alive}
use Rattle.abstract_step.specs.Flow.{Row, with_type, with_local_type, op_row}
use Rattle.func_analyze.specs.Chain.{no_repo, no_facts, row_of, if_alive, state_behind, returned_by, returned_at_end}
use Rattle.func_analyze.specs.Laws.{IsWord, AreWords}

abbrev pub Proper : HType → Type 0
Proper t = IsProper built_in_tree t

abbrev pub AllProper : List HType → Type 0
AllProper [] = Unit {0}
AllProper (t ∷ ts) = Proper t × AllProper ts

all_same : (n : ℕ) (t : HType) (ts : List HType) → Proper t → AllProper ts → AllProper (replicate n t ++ ts)
all_same zero t ts h k = k
all_same (suc n) t ts h k = (h, all_same n t ts h k)

replicated : (n : ℕ) (t : HType) → Proper t → AllProper (replicate n t)
replicated zero t h = tt
replicated (suc n) t h = (h, replicated n t h)

put : (ts : List HType) (i : ℕ) (t : HType) → AllProper ts → Proper t → AllProper (slice_set ts i t)
put [] i t h k = tt
put (x ∷ ts) zero t h k = (k, h.1)
put (x ∷ ts) (suc i) t h k = (h.0, put ts i t h.1 k)

abbrev pub ProperIf : Option HType → Type 0
ProperIf None = Unit {0}
ProperIf (Some t) = Proper t

pub got : (ts : List HType) (i : ℕ) → AllProper ts → ProperIf (slice_get ts i)
got [] i h = tt
got (x ∷ ts) zero h = h.0
got (x ∷ ts) (suc i) h = got ts i h.1

pub record ProperState (s : State) : Type 0 where
  pub locals : AllProper s.locals
  pub stack : AllProper s.stack

abbrev pub ProperStateIf : Option State → Type 0
ProperStateIf None = Unit {0}
ProperStateIf (Some s) = ProperState s

record ProperRow (w : Row) : Type 0 where
  pub behind : ProperStateIf w.behind
  pub returned : Proper w.returned

with_type_proper : (ts : List HType) (go : HType → List HType → Row) → AllProper ts
    → ((t : HType) (more : List HType) → Proper t → AllProper more → ProperRow (go t more)) → ProperRow (with_type ts go)
with_type_proper [] go h k = record { behind = tt; returned = never_proper built_in_tree }
with_type_proper (t ∷ ts) go h k = k t ts h.0 h.1

initialised_proper : (t : HType) → Proper t → Proper (initialised t)
initialised_proper t h = record { int = h.int; str = h.str; obj = h.obj; vec = h.vec; dict = h.dict; keyset = h.keyset }

with_local_proper : (t : Option HType) (go : HType → Row) → ProperIf t → ((t : HType) → Proper t → ProperRow (go t)) → ProperRow (with_local_type t go)
with_local_proper None go h k = record { behind = tt; returned = never_proper built_in_tree }
with_local_proper (Some t) go h k = k (initialised t) (initialised_proper t h)

op_proper : (op : Op) (is : List Imm) (s : State) → FitsSigned w64 (int_of is) → ProperState s → ProperRow (op_row no_repo no_facts 0 op is s)
op_proper ops.Null is s h k = record { behind = record { locals = k.locals; stack = (record { int = tt; str = tt; obj = tt; vec = tt; dict = tt; keyset = tt }, k.stack) }; returned = never_proper built_in_tree }
op_proper ops.True is s h k = record { behind = record { locals = k.locals; stack = (record { int = tt; str = tt; obj = tt; vec = tt; dict = tt; keyset = tt }, k.stack) }; returned = never_proper built_in_tree }
op_proper ops.False is s h k = record { behind = record { locals = k.locals; stack = (record { int = tt; str = tt; obj = tt; vec = tt; dict = tt; keyset = tt }, k.stack) }; returned = never_proper built_in_tree }
op_proper ops.Int is s h k = record { behind = record { locals = k.locals; stack = (record { int = h; str = tt; obj = tt; vec = tt; dict = tt; keyset = tt }, k.stack) }; returned = never_proper built_in_tree }
op_proper ops.PopC is s h k =
    with_type_proper s.stack _ k.stack (λ t more x y. record { behind = record { locals = k.locals; stack = y }; returned = never_proper built_in_tree })
op_proper ops.SetL is s h k =
    with_type_proper s.stack _ k.stack (λ t more x y. record { behind = record { locals = put s.locals (local_of is) t k.locals x; stack = k.stack }; returned = never_proper built_in_tree })
op_proper ops.CGetL is s h k =
    with_local_proper (slice_get s.locals (local_of is)) _ (got s.locals (local_of is) k.locals)
    (λ t x. record { behind = record { locals = k.locals; stack = (x, k.stack) }; returned = never_proper built_in_tree })
op_proper ops.RetC is s h k = with_type_proper s.stack _ k.stack (λ t more x y. record { behind = tt; returned = x })
op_proper _ is s h k = record { behind = tt; returned = never_proper built_in_tree }

row_proper : (c : Code) (s : State) → IsWord c → ProperState s → ProperRow (row_of c s)
row_proper (kinds.Plain i) s h k = op_proper i.op i.imms s h k
row_proper (kinds.Member m) s h k = record { behind = tt; returned = never_proper built_in_tree }

alive_proper : (o : Option State) → ProperStateIf o → ProperStateIf (if_alive o)
alive_proper None h = tt
alive_proper (Some s) h = by_life (is_alive s)
  where
    by_life : (t : Bool) → ProperStateIf (cond t (Some s) None)
    by_life true = h
    by_life false = tt

pub behind_proper : (c : Code) (o : Option State) → IsWord c → ProperStateIf o → ProperStateIf (state_behind c o)
behind_proper c None h k = tt
behind_proper c (Some s) h k = alive_proper (row_of c s).behind (row_proper c s h k).behind

returned_proper : (c : Code) (o : Option State) → IsWord c → ProperStateIf o → Proper (returned_by c o)
returned_proper c None h k = never_proper built_in_tree
returned_proper c (Some s) h k = (row_proper c s h k).returned

end_proper : (ps : List Position) (o : Option State) → AreWords ps → ProperStateIf o → Proper (returned_at_end ps o)
end_proper [] o h k = never_proper built_in_tree
end_proper (p ∷ []) o h k = returned_proper p.code o h.0 k
end_proper (p ∷ q ∷ ps) o h k = end_proper (q ∷ ps) (state_behind p.code o) h.1 (behind_proper p.code o h.0 k)

-- what enters a body has proper types
pub entry_proper : (b : Body) → ProperState (entry_state b)
entry_proper b = record {
  locals = all_same b.params cell (replicate (length b.locals - b.params) uninit) (cell_proper built_in_tree) (replicated _ uninit (uninit_proper built_in_tree));
  stack = tt;
}

-- what the body returns is a proper type
pub returned_is_proper : (b : Body) → AreWords b.positions → IsProper built_in_tree (returned_at_end b.positions (Some (entry_state b)))
returned_is_proper b h = end_proper b.positions (Some (entry_state b)) h (entry_proper b)
