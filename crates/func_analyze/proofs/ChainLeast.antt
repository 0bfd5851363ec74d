-- The states along a body without jumps are its least solution.
use Rattle.std.proofs.Common.{◌≡◌, ℕ, zero, suc, refl, sym, ◌∙◌, ap, subst, Bool, true, false, Option, Some, None, List, [], ◌∷◌, ◌++◌, filter, slice_get, length, cond, Contains, arith}
use Rattle.std.proofs.lemmas.Option.{slice_get-map}
use Rattle.std.proofs.lemmas.List.{length-map}
use Rattle.hhbc_ops.specs.declared.op.Op.{Op}
use Rattle.hhbc_ops.specs.declared.op.Op.TheVariants as ops
use Rattle.type_lattice.specs.declared.types.HType.{HType}
use Rattle.type_lattice.specs.Order.{PartLe}
use Rattle.hhbc_repo.specs.declared.code.Code.{Code}
use Rattle.hhbc_repo.specs.declared.code.Code.TheVariants as kinds
use Rattle.hhbc_repo.specs.declared.code.Imm.{Imm}
use Rattle.hhbc_repo.specs.declared.body.Body.{Body}
use Rattle.hhbc_repo.specs.declared.body.Position.{Position}
use Rattle.hhbc_repo.specs.Linked.{Linked}
use Rattle.hhbc_repo.specs.Bodies.{built_in_tree, code_at}
use Rattle.hhbc_repo.specs.Bare.{bare_body, bare_position}
use Rattle.hhbc_repo.specs.Codes.{throws}
use Rattle.hhbc_repo.specs.Edges.{handler_of}
use Rattle.hhbc_semantics.specs.Form.{FitPositions, IsReturn}
use Rattle.hhbc_semantics.specs.Truth.{Facts}
use Rattle.hhbc_semantics.proofs.FirstForm.{only, built_in_transitive}
use Rattle.abstract_step.specs.State.{State, StateLe, entry_state, is_alive}
use Rattle.abstract_step.specs.Flow.{Row, row, with_type, returns, to_behind, to_handler, lives, completed, code_flow, flow}
use Rattle.abstract_step.proofs.StateOrder.{StateLe-refl, StateLe-trans, alive-le}
use Rattle.abstract_step.proofs.Rows.{same_row, IsStraight, row-straight, row-le}
use Rattle.func_analyze.specs.Solution.{Table, HasState, HasAbove, IsSolution, IsLeast}
use Rattle.func_analyze.specs.Chain.{no_repo, no_facts, if_alive, state_behind, chain}

-- what is left of the flows of a straight row
kept : (p : ℕ) (o : Option State) → filter lives (to_behind p o ++ [] ++ []) ≡ to_behind p (if_alive o)
kept p None = refl
kept p (Some s) = by_life (is_alive s)
  where
    by_life : (t : Bool) → cond t ((suc p, s) ∷ []) [] ≡ to_behind p (cond t (Some s) None)
    by_life true = refl
    by_life false = refl

gathered : (w : Row) (p : ℕ) (h : List (ℕ × State)) → IsStraight w → h ≡ [] → (completed w p h).to ≡ to_behind p (if_alive w.behind)
gathered w p h i e = rw (i.labels, e) (kept p w.behind)

no_handler : (t : Bool) (b : Body) (p : ℕ) (s : State) → b.regions ≡ [] → to_handler t (handler_of b p) s ≡ []
no_handler true b p s e = rw e refl
no_handler false b p s e = refl

code_flow_to : (r : Linked) (F : Facts) (n : ℕ) (b : Body) (p : ℕ) (o : Option Code) (c : Code) (s : State) → b.regions ≡ [] → o ≡ Some c
    → (code_flow r F n b p o s).to ≡ to_behind p (state_behind c (Some s))
code_flow_to r F n b p None c s g e = absurd (cc)
code_flow_to r F n b p (Some d) c s g e =
    let k : d ≡ c = cc in
    subst (λ (c : Code). (code_flow r F n b p (Some d) s).to ≡ to_behind p (state_behind c (Some s))) k
    (gathered (row r F n d s) p _ (row-straight r F n d s) (no_handler (throws d) b p s g)
    ∙ ap (λ (w : Row). to_behind p (if_alive w.behind)) (same_row r no_repo F no_facts n 0 d s))

pub code_there : (b : Body) (p : ℕ) (q : Position) → slice_get b.positions p ≡ Some q → code_at (bare_body b) p ≡ Some q.code
code_there b p q e = rw (slice_get-map bare_position b.positions p, e) refl

-- the flows of a position of the only body
pub flow_to : (b : Body) → b.regions ≡ [] → (F : Facts) (p : ℕ) (q : Position) (s : State) → slice_get b.positions p ≡ Some q
    → (flow (only (bare_body b)) F 0 p s).to ≡ to_behind p (state_behind q.code (Some s))
flow_to b g F p q s e = code_flow_to (only (bare_body b)) F 0 (bare_body b) p (code_at (bare_body b) p) q.code s g (code_there b p q e)

nothing_in : (y : ℕ × State) → Contains [] y → ⊥
nothing_in y (k, l, e) = absurd (omega arith)

one_in : (x y : ℕ × State) → Contains (x ∷ []) y → x ≡ y
one_in x y (zero, l, e) = e
one_in x y (suc k, l, e) = absurd (omega arith)

pub in_behind : (p : ℕ) (o : Option State) (q : ℕ) (t : State) → Contains (to_behind p o) (q, t) → (q ≡ suc p) × (o ≡ Some t)
in_behind p None q t h = absurd (nothing_in (q, t) h)
in_behind p (Some s) q t h =
    let e = one_in (suc p, s) (q, t) h in
    (ap (λ (x : ℕ × State). x.0) (sym e), ap (λ (x : ℕ × State). Some x.1) e)

pub behind_in : (p : ℕ) (o : Option State) (t : State) → o ≡ Some t → Contains (to_behind p o) (suc p, t)
behind_in p None t h = absurd (cc)
behind_in p (Some s) t h = let e : s ≡ t = cc in (0, omega arith, ap (λ (x : State). (suc p, x)) e)

-- nothing follows the end
ret_none : (ts : List HType) → if_alive (with_type ts (λ t more. returns t)).behind ≡ None
ret_none [] = refl
ret_none (t ∷ ts) = refl

op_return_none : (op : Op) (imms : List Imm) (s : State) → op ≡ ops.RetC → state_behind (kinds.Plain (record { op = op; imms = imms })) (Some s) ≡ None
op_return_none op imms s e =
    subst (λ (o : Op). state_behind (kinds.Plain (record { op = o; imms = imms })) (Some s) ≡ None) (sym e) (ret_none s.stack)

return_none : (c : Code) (o : Option State) → IsReturn c → state_behind c o ≡ None
return_none c None h = refl
return_none (kinds.Plain i) (Some s) h = op_return_none i.op i.imms s h
return_none (kinds.Member m) (Some s) h = absurd h

pub chain_length : (ps : List Position) (o : Option State) → length (chain ps o) ≡ length ps
chain_length [] o = refl
chain_length (p ∷ ps) o = ap suc (chain_length ps (state_behind p.code o))

-- a state in the chain stands at a position
pub within : (ps : List Position) (o : Option State) (p : ℕ) (s : State) → HasState (chain ps o) p s → (q : Position) × (slice_get ps p ≡ Some q)
within [] o p s e = absurd (cc)
within (q ∷ ps) o zero s e = (q, refl)
within (q ∷ ps) o (suc p) s e = within ps (state_behind q.code o) p s e

-- what it leads to comes next
chain_on : (count : ℕ) (ps : List Position) (o : Option State) (p : ℕ) (s t : State) (q : Position) → FitPositions count ps
    → HasState (chain ps o) p s → slice_get ps p ≡ Some q → state_behind q.code (Some s) ≡ Some t → HasState (chain ps o) (suc p) t
chain_on count [] o p s t q w e f g = absurd w
chain_on count (x ∷ []) o zero s t q w e f g =
    let k : x ≡ q = cc in
    let n : state_behind q.code (Some s) ≡ None = return_none q.code (Some s) (subst (λ (y : Position). IsReturn y.code) k w.1) in
    absurd (cc)
chain_on count (x ∷ []) o (suc p) s t q w e f g = absurd (cc)
chain_on count (x ∷ y ∷ ps) o zero s t q w e f g =
    let k : x ≡ q = cc in
    let l : o ≡ Some s = cc in
    rw (k, l, g) refl
chain_on count (x ∷ y ∷ ps) o (suc p) s t q w e f g = chain_on count (y ∷ ps) (state_behind x.code o) p s t q w.2 e f g

-- a state in the chain comes from the one before
record ComesFrom (ps : List Position) (o : Option State) (p : ℕ) (t : State) : Type 0 where
  pub position : Position
  pub state : State
  pub there : slice_get ps p ≡ Some position
  pub at : HasState (chain ps o) p state
  pub leads : state_behind position.code (Some state) ≡ Some t

chain_back : (ps : List Position) (o : Option State) (p : ℕ) (t : State) → HasState (chain ps o) (suc p) t → ComesFrom ps o p t
chain_back [] o p t e = absurd (cc)
chain_back (x ∷ []) o zero t e = absurd (cc)
chain_back (x ∷ y ∷ ps) None zero t e = absurd (cc)
chain_back (x ∷ y ∷ ps) (Some s) zero t e = record { position = x; state = s; there = refl; at = refl; leads = cc }
chain_back (x ∷ ps) o (suc p) t e =
    let w = chain_back ps (state_behind x.code o) p t e in
    record { position = w.position; state = w.state; there = w.there; at = w.at; leads = w.leads }

begins : (count : ℕ) (ps : List Position) (s : State) → FitPositions count ps → HasState (chain ps (Some s)) 0 s
begins count [] s w = absurd w
begins count (p ∷ ps) s w = refl

chosen : (t : Bool) (a s : State) → cond t (Some a) None ≡ Some s → (t ≡ true) × (a ≡ s)
chosen true a s h = (refl, cc)
chosen false a s h = absurd (cc)

-- a higher state leads on too, to a higher state
leads_on : (x y : Option State) (t : State) → PartLe (StateLe built_in_tree) x y → if_alive x ≡ Some t
    → (u : State) × (if_alive y ≡ Some u) × StateLe built_in_tree t u
leads_on None y t h e = absurd (cc)
leads_on (Some a) None t h e = absurd h
leads_on (Some a) (Some b) t h e =
    let w = chosen (is_alive a) a t e in
    let k = alive-le built_in_tree a b h w.0 in
    (b, rw k refl, subst (λ (s : State). StateLe built_in_tree s b) w.1 h)

solves : (count : ℕ) (b : Body) → b.regions ≡ [] → FitPositions count b.positions → (F : Facts)
    → IsSolution (only (bare_body b)) F 0 (chain b.positions (Some (entry_state b)))
solves count b g w F = record {
  body = bare_body b;
  at = refl;
  solves = record {
    count = chain_length b.positions (Some (entry_state b)) ∙ sym (length-map b.positions bare_position);
    enters = (entry_state b, begins count b.positions (entry_state b) w, StateLe-refl built_in_tree (entry_state b));
    closed = λ p s e q t m.
        let x = within b.positions (Some (entry_state b)) p s e in
        let f = in_behind p (state_behind x.0.code (Some s)) q t (subst (λ (to : List (ℕ × State)). Contains to (q, t)) (flow_to b g F p x.0 s x.1) m) in
        let n = chain_on count b.positions (Some (entry_state b)) p s t x.0 w e x.1 f.1 in
        (t, subst (λ k. HasState (chain b.positions (Some (entry_state b))) k t) (sym f.0) n, StateLe-refl built_in_tree t);
  };
}

below_all : (count : ℕ) (b : Body) → b.regions ≡ [] → FitPositions count b.positions → (F : Facts) (U : Table) → IsSolution (only (bare_body b)) F 0 U
    → (p : ℕ) (s : State) → HasState (chain b.positions (Some (entry_state b))) p s → HasAbove (only (bare_body b)) U p s
below_all count b g w F U h zero s e =
    let k = begins count b.positions (entry_state b) w in
    let x : entry_state b ≡ s = cc in
    let y : bare_body b ≡ h.body = cc in
    subst (λ (s : State). HasAbove (only (bare_body b)) U 0 s) x (subst (λ (c : Body). HasAbove (only (bare_body b)) U 0 (entry_state c)) (sym y) h.solves.enters)
below_all count b g w F U h (suc p) s e =
    let y = chain_back b.positions (Some (entry_state b)) p s e in
    let ih = below_all count b g w F U h p y.state y.at in
    let le = row-le built_in_tree no_repo no_facts 0 y.position.code y.state ih.0 ih.2 in
    let n = leads_on _ _ s le.behind y.leads in
    let m = behind_in p (state_behind y.position.code (Some ih.0)) n.0 n.1 in
    let c = subst (λ (to : List (ℕ × State)). Contains to (suc p, n.0)) (sym (flow_to b g F p y.position ih.0 y.there)) m in
    let z = h.solves.closed p ih.0 ih.1 (suc p) n.0 c in
    (z.0, z.1, StateLe-trans built_in_tree built_in_transitive s n.0 z.0 n.2 z.2)

pub chain_least : (count : ℕ) (b : Body) → b.regions ≡ [] → FitPositions count b.positions → (F : Facts)
    → IsLeast (only (bare_body b)) F 0 (chain b.positions (Some (entry_state b)))
chain_least count b g w F = record { solution = solves count b g w F; least = below_all count b g w F }
