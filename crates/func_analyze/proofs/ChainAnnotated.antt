-- The states along a body without jumps annotate its repository.
use Rattle.std.proofs.Common.{◌≡◌, inl, inr, ℕ, zero, suc, refl, sym, ap, ap₂, subst, Some, List, [], ◌∷◌, map, slice_get, Contains, arith}
use Rattle.type_lattice.specs.declared.types.HType.{HType}
use Rattle.type_lattice.specs.declared.types.StrPart.TheVariants as strs
use Rattle.type_lattice.specs.Order.{Le}
use Rattle.type_lattice.specs.Types.{never}
use Rattle.type_lattice.specs.Proper.{IsProper, IsJoin}
use Rattle.type_lattice.proofs.OrderLaws.{Le-refl}
use Rattle.hhbc_repo.specs.declared.body.Body.{Body}
use Rattle.hhbc_repo.specs.declared.body.Position.{Position}
use Rattle.hhbc_repo.specs.Linked.{Linked}
use Rattle.hhbc_repo.specs.Bodies.{built_in_tree}
use Rattle.hhbc_repo.specs.Bare.{bare_body, bare_position, bare}
use Rattle.hhbc_semantics.specs.Form.{FitPositions}
use Rattle.hhbc_semantics.specs.Truth.{Facts}
use Rattle.hhbc_semantics.proofs.FirstForm.{only, first_is}
use Rattle.abstract_step.specs.State.{entry_state}
use Rattle.abstract_step.specs.Flow.{Effect, flow}
use Rattle.func_analyze.specs.Solution.{Table, HasState, IsLeast}
use Rattle.func_analyze.specs.Rounds.{top, IsReturned, IsWritten, IsHeld, AreLeast, IsRound, IsFacts}
use Rattle.func_analyze.specs.Annotated.{with_claims, IsAnnotated}
use Rattle.func_analyze.specs.Chain.{chain, annotated_by}
use Rattle.func_analyze.specs.Laws.{AreWords, ChainIsLeast, ChainAnnotates}
use Rattle.func_analyze.proofs.ChainLeast.{within, chain_least}
use Rattle.func_analyze.proofs.ChainRounds.{flow_gives, states_of, end_of, joined}

-- what a message holds
abbrev any_string : HType
any_string = record never { str = strs.Any }

-- the facts after each round
abbrev facts_of : Body → Facts
facts_of b = record { returns = end_of b ∷ []; props = any_string ∷ [] }

nothing_in : (e : Effect) → Contains [] e → ⊥
nothing_in e (k, l, w) = absurd (omega arith)

one_table : (b : Body) (n : ℕ) (T : Table) → slice_get (states_of b ∷ []) n ≡ Some T → (n ≡ 0) × (T ≡ states_of b)
one_table b zero T e = (refl, cc)
one_table b (suc n) T e = absurd (cc)

are_least : (count : ℕ) (b : Body) → b.regions ≡ [] → FitPositions count b.positions → (F : Facts) → AreLeast (only (bare_body b)) F (states_of b ∷ [])
are_least count b g w F = record {
  count = refl;
  least = λ n T e.
      let x = one_table b n T e in
      subst (λ n. IsLeast (only (bare_body b)) F n T) (sym x.0)
      (subst (λ (T : Table). IsLeast (only (bare_body b)) F 0 T) (sym x.1) (chain_least count b g w F));
}

returned_join : (count : ℕ) (b : Body) → FitPositions count b.positions → AreWords b.positions → (F : Facts) (n : ℕ) (T : Table) (t : HType)
    → slice_get (states_of b ∷ []) n ≡ Some T → slice_get (end_of b ∷ []) n ≡ Some t → IsJoin built_in_tree (IsReturned (only (bare_body b)) F n T) t
returned_join count b w words F zero T t e f =
    let x : states_of b ≡ T = cc in
    let y : end_of b ≡ t = cc in
    subst (λ (T : Table). IsJoin built_in_tree (IsReturned (only (bare_body b)) F 0 T) t) x
    (subst (λ (t : HType). IsJoin built_in_tree (IsReturned (only (bare_body b)) F 0 (states_of b)) t) y (joined count b w words F))
returned_join count b w words F (suc n) T t e f = absurd (cc)

-- the only body writes nothing
not_written : (b : Body) (F : Facts) (q : ℕ) (t : HType) → IsWritten (only (bare_body b)) F (states_of b ∷ []) q t → ⊥
not_written b F q t i =
    let x = one_table b i.body i.table i.at in
    let h : HasState (chain b.positions (Some (entry_state b))) i.position i.state =
    subst (λ (T : Table). HasState T i.position i.state) x.1 i.reached in
    let y = within b.positions (Some (entry_state b)) i.position i.state h in
    let g = flow_gives b F i.position y.0 i.state y.1 in
    let c : Contains (flow (only (bare_body b)) F 0 i.position i.state).effects (record { property = q; type = t }) =
    subst (λ n. Contains (flow (only (bare_body b)) F n i.position i.state).effects (record { property = q; type = t })) x.0 i.written in
    nothing_in _ (subst (λ (es : List Effect). Contains es (record { property = q; type = t })) g.effects c)

string_proper : (q : ℕ) (t : HType) → slice_get (any_string ∷ []) q ≡ Some t → IsProper built_in_tree t
string_proper zero t e =
    let x : any_string ≡ t = cc in
    subst (λ (s : HType). IsProper built_in_tree s) x (record { int = tt; str = tt; obj = tt; vec = tt; dict = tt; keyset = tt })
string_proper (suc q) t e = absurd (cc)

held : (b : Body) (F : Facts) (q : ℕ) (t : HType) → slice_get (any_string ∷ []) q ≡ Some t
    → IsJoin built_in_tree (IsHeld (only (bare_body b)) F (states_of b ∷ []) q) t
held b F q t e = record {
  proper = string_proper q t e;
  above = λ s i. above s i;
  least = λ u proper h. h t (inl e);
}
  where
    above : (s : HType) → IsHeld (only (bare_body b)) F (states_of b ∷ []) q s → Le built_in_tree s t
    above s (inl f) = let x : s ≡ t = cc in subst (λ (s : HType). Le built_in_tree s t) (sym x) (Le-refl built_in_tree t)
    above s (inr i) = absurd (not_written b F q s i)

a_round : (count : ℕ) (b : Body) → b.regions ≡ [] → FitPositions count b.positions → AreWords b.positions → (F : Facts) → IsRound (only (bare_body b)) F (facts_of b)
a_round count b g w words F = record {
  tables = states_of b ∷ [];
  least = are_least count b g w F;
  bodies_told = refl;
  returns = λ n T t e f. returned_join count b w words F n T t e f;
  props_told = refl;
  props = λ q t e. held b F q t e;
}

after_rounds : (count : ℕ) (b : Body) → b.regions ≡ [] → FitPositions count b.positions → AreWords b.positions → (n : ℕ) → IsFacts (only (bare_body b)) (suc n) (facts_of b)
after_rounds count b g w words zero = (top (only (bare_body b)), refl, a_round count b g w words _)
after_rounds count b g w words (suc n) = (facts_of b, after_rounds count b g w words n, a_round count b g w words _)

pub claims_bare : (ps : List Position) (T : Table) → with_claims (map bare_position ps) T ≡ with_claims ps T
claims_bare [] T = refl
claims_bare (p ∷ ps) [] = ap (λ (qs : List Position). bare_position p ∷ qs) (claims_bare ps [])
claims_bare (p ∷ ps) (s ∷ T) = ap₂ (λ (q : Position) (qs : List Position). q ∷ qs) refl (claims_bare ps T)

annotates : (count : ℕ) (b : Body) → b.regions ≡ [] → FitPositions count b.positions → AreWords b.positions → (n : ℕ) → IsAnnotated (suc n) (only b) (annotated_by (only b))
annotates count b g w words n = record {
  facts = facts_of b;
  after = after_rounds count b g w words n;
  tables = states_of b ∷ [];
  least = are_least count b g w (facts_of b);
  is =
      ap (λ (ps : List Position). only (record b { stated = Some (end_of b); positions = ps }))
      (sym (claims_bare b.positions (states_of b)));
}

pub chain_annotates : ChainAnnotates
chain_annotates r form words n =
    subst (λ (r : Linked). IsAnnotated (suc n) r (annotated_by r)) (sym (first_is r form))
    (annotates _ form.body form.first.regions form.first.positions words n)

pub chain_is_least : ChainIsLeast
chain_is_least r form F =
    subst (λ (r : Linked). IsLeast (bare r) F 0 (chain form.body.positions (Some (entry_state form.body)))) (sym (first_is r form))
    (chain_least _ form.body form.first.regions form.first.positions F)
