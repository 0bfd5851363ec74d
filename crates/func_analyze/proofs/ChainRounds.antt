-- What the states along a body without jumps return and annotate.
use Rattle.std.proofs.Common.{◌≡◌, ◌⊎◌, inl, inr, ℕ, zero, suc, refl, sym, ◌∙◌, ap, subst, Option, Some, None, List, [], ◌∷◌, filter, slice_get}
use Rattle.hhbc_ops.specs.declared.op.Op.{Op}
use Rattle.hhbc_ops.specs.declared.op.Op.TheVariants as ops
use Rattle.type_lattice.specs.declared.types.HType.{HType}
use Rattle.type_lattice.specs.Order.{Le}
use Rattle.type_lattice.specs.Types.{never}
use Rattle.type_lattice.specs.Proper.{IsJoin}
use Rattle.type_lattice.proofs.OrderLaws.{Le-refl}
use Rattle.type_lattice.proofs.Singles.{never-le}
use Rattle.hhbc_repo.specs.declared.code.Code.{Code}
use Rattle.hhbc_repo.specs.declared.code.Code.TheVariants as kinds
use Rattle.hhbc_repo.specs.declared.code.Imm.{Imm}
use Rattle.hhbc_repo.specs.declared.body.Body.{Body}
use Rattle.hhbc_repo.specs.declared.body.Position.{Position}
use Rattle.hhbc_repo.specs.Linked.{Linked}
use Rattle.hhbc_repo.specs.Bodies.{built_in_tree, code_at}
use Rattle.hhbc_repo.specs.Bare.{bare_body}
use Rattle.hhbc_semantics.specs.Form.{FitPositions, IsReturn}
use Rattle.hhbc_semantics.specs.Truth.{Facts}
use Rattle.hhbc_semantics.proofs.FirstForm.{only}
use Rattle.abstract_step.specs.State.{State, entry_state}
use Rattle.abstract_step.specs.Flow.{Row, Effect, Flows, with_type, with_local_type, goes, code_flow, flow, has_type}
use Rattle.abstract_step.proofs.Rows.{same_row, row-straight}
use Rattle.func_analyze.specs.Solution.{Table, HasState}
use Rattle.func_analyze.specs.Rounds.{IsReturned}
use Rattle.func_analyze.specs.Chain.{no_repo, no_facts, row_of, state_behind, chain, returned_at_end}
use Rattle.func_analyze.specs.Laws.{AreWords}
use Rattle.func_analyze.proofs.ChainLeast.{code_there, within}
use Rattle.func_analyze.proofs.ChainProper.{returned_is_proper}

-- what a position of the only body returns and writes
pub record Gives (o : Flows) (t : HType) : Type 0 where
  pub returned : o.returned ≡ t
  pub effects : o.effects ≡ []

code_gives : (r : Linked) (F : Facts) (n : ℕ) (b : Body) (p : ℕ) (o : Option Code) (c : Code) (s : State) → o ≡ Some c
    → Gives (code_flow r F n b p o s) (row_of c s).returned
code_gives r F n b p None c s e = absurd (cc)
code_gives r F n b p (Some d) c s e =
    let k : d ≡ c = cc in
    subst (λ (c : Code). Gives (code_flow r F n b p (Some d) s) (row_of c s).returned) k
    (record {
      returned = ap (λ (w : Row). w.returned) (same_row r no_repo F no_facts n 0 d s);
      effects = ap (λ (es : List Effect). filter has_type es) (row-straight r F n d s).effects;
    })

pub flow_gives : (b : Body) (F : Facts) (p : ℕ) (q : Position) (s : State) → slice_get b.positions p ≡ Some q
    → Gives (flow (only (bare_body b)) F 0 p s) (row_of q.code s).returned
flow_gives b F p q s e = code_gives (only (bare_body b)) F 0 (bare_body b) p (code_at (bare_body b) p) q.code s (code_there b p q e)

-- only the last code returns
with_type-never : (ts : List HType) (go : HType → List HType → State) → (with_type ts (λ t more. goes (go t more))).returned ≡ never
with_type-never [] go = refl
with_type-never (t ∷ ts) go = refl

with_local_type-never : (t : Option HType) (go : HType → State) → (with_local_type t (λ t. goes (go t))).returned ≡ never
with_local_type-never None go = refl
with_local_type-never (Some t) go = refl

op_returns_not : (op : Op) (imms : List Imm) (s : State) → (op ≡ ops.RetC → ⊥) → (row_of (kinds.Plain (record { op = op; imms = imms })) s).returned ≡ never
op_returns_not ops.Null imms s h = refl
op_returns_not ops.True imms s h = refl
op_returns_not ops.False imms s h = refl
op_returns_not ops.Int imms s h = refl
op_returns_not ops.PopC imms s h = with_type-never s.stack _
op_returns_not ops.SetL imms s h = with_type-never s.stack _
op_returns_not ops.CGetL imms s h = with_local_type-never _ _
op_returns_not ops.RetC imms s h = absurd (h refl)
op_returns_not _ imms s h = refl

returns_not : (c : Code) (s : State) → (IsReturn c → ⊥) → (row_of c s).returned ≡ never
returns_not (kinds.Plain i) s h = op_returns_not i.op i.imms s h
returns_not (kinds.Member m) s h = refl

-- what a position returns is below what the last one does
below_end : (count : ℕ) (ps : List Position) (o : Option State) (p : ℕ) (s : State) (q : Position) → FitPositions count ps
    → HasState (chain ps o) p s → slice_get ps p ≡ Some q → Le built_in_tree (row_of q.code s).returned (returned_at_end ps o)
below_end count [] o p s q w e f = absurd w
below_end count (x ∷ []) o zero s q w e f =
    let k : x ≡ q = cc in
    let l : o ≡ Some s = cc in
    rw (k, l) (Le-refl built_in_tree (row_of q.code s).returned)
below_end count (x ∷ []) o (suc p) s q w e f = absurd (cc)
below_end count (x ∷ y ∷ ps) o zero s q w e f =
    let k : x ≡ q = cc in
    let n : (row_of q.code s).returned ≡ never = returns_not q.code s (subst (λ (z : Position). IsReturn z.code → ⊥) k w.1) in
    subst (λ (t : HType). Le built_in_tree t (returned_at_end (x ∷ y ∷ ps) o)) (sym n) (never-le built_in_tree _)
below_end count (x ∷ y ∷ ps) o (suc p) s q w e f = below_end count (y ∷ ps) (state_behind x.code o) p s q w.2 e f

-- which is nothing, or what it returns from a state in the chain
record ComesLast (ps : List Position) (o : Option State) : Type 0 where
  pub place : ℕ
  pub position : Position
  pub state : State
  pub there : slice_get ps place ≡ Some position
  pub at : HasState (chain ps o) place state
  pub is : (row_of position.code state).returned ≡ returned_at_end ps o

end_is : (ps : List Position) (o : Option State) → (returned_at_end ps o ≡ never) ⊎ ComesLast ps o
end_is [] o = inl refl
end_is (x ∷ []) None = inl refl
end_is (x ∷ []) (Some s) = inr (record { place = 0; position = x; state = s; there = refl; at = refl; is = refl })
end_is (x ∷ y ∷ ps) o = later (end_is (y ∷ ps) (state_behind x.code o))
  where
    later : (returned_at_end (y ∷ ps) (state_behind x.code o) ≡ never) ⊎ ComesLast (y ∷ ps) (state_behind x.code o)
        → (returned_at_end (x ∷ y ∷ ps) o ≡ never) ⊎ ComesLast (x ∷ y ∷ ps) o
    later (inl e) = inl e
    later (inr w) = inr (record { place = suc w.place; position = w.position; state = w.state; there = w.there; at = w.at; is = w.is })

abbrev pub states_of : Body → Table
states_of b = chain b.positions (Some (entry_state b))

abbrev pub end_of : Body → HType
end_of b = returned_at_end b.positions (Some (entry_state b))

-- it is below each type that is above what the positions return
pub end_least : (b : Body) (F : Facts) (u : HType)
    → ((t : HType) → IsReturned (only (bare_body b)) F 0 (states_of b) t → Le built_in_tree t u) → Le built_in_tree (end_of b) u
end_least b F u h = from (end_is b.positions (Some (entry_state b)))
  where
    from : (end_of b ≡ never) ⊎ ComesLast b.positions (Some (entry_state b)) → Le built_in_tree (end_of b) u
    from (inl e) = subst (λ (t : HType). Le built_in_tree t u) (sym e) (never-le built_in_tree u)
    from (inr l) =
        h _ (record {
          position = l.place;
          state = l.state;
          reached = l.at;
          returned = (flow_gives b F l.place l.position l.state l.there).returned ∙ l.is;
        })

pub joined : (count : ℕ) (b : Body) → FitPositions count b.positions → AreWords b.positions → (F : Facts)
    → IsJoin built_in_tree (IsReturned (only (bare_body b)) F 0 (states_of b)) (end_of b)
joined count b w words F = record {
  proper = returned_is_proper b words;
  above = λ t i.
      let x = within b.positions (Some (entry_state b)) i.position i.state i.reached in
      let g = flow_gives b F i.position x.0 i.state x.1 in
      subst (λ (t : HType). Le built_in_tree t (end_of b)) (sym g.returned ∙ i.returned)
      (below_end count b.positions (Some (entry_state b)) i.position i.state x.0 w i.reached x.1);
  least = λ u proper h. end_least b F u h;
}
