-- The results of all bodies make a round.
use Rattle.std.proofs.Common.{◌≡◌, ◌⊎◌, inl, inr, ℕ, zero, suc, ◌<◌, refl, sym, ◌∙◌, ap, subst, Option, Some, None, List, [], ◌∷◌, slice_get, length, Contains, arith}
use Rattle.std.proofs.lemmas.Option.{slice_get_within}
use Rattle.std.proofs.lemmas.List.{length-map}
use Rattle.type_lattice.specs.declared.types.HType.{HType}
use Rattle.type_lattice.specs.Order.{Le}
use Rattle.type_lattice.specs.Proper.{IsProper, IsJoin}
use Rattle.type_lattice.proofs.OrderLaws.{Le-trans}
use Rattle.hhbc_repo.specs.declared.code.Code.{Code}
use Rattle.hhbc_repo.specs.declared.body.Body.{Body}
use Rattle.hhbc_repo.specs.Linked.{Linked}
use Rattle.hhbc_repo.specs.Bodies.{bodies, body_at, code_at, tree_of}
use Rattle.hhbc_repo.specs.Codes.{throws}
use Rattle.hhbc_repo.specs.Edges.{handler_of}
use Rattle.hhbc_semantics.specs.Truth.{Facts}
use Rattle.hhbc_repo.proofs.Elements.{from_map}
use Rattle.abstract_step.specs.State.{State}
use Rattle.abstract_step.specs.Flow.{Row, Flows, flow, code_flow, body_flow, completed, to_handler}
use Rattle.abstract_step.proofs.Rows.{same_row}
use Rattle.func_analyze.specs.Solution.{Table, HasState, IsLeast}
use Rattle.func_analyze.specs.Rounds.{initial_types, IsReturned, IsHeld, IsRound}
use Rattle.func_analyze.specs.Results.{BodyResult, WritesTo, IsResult, IsAmong, AreJoinedTo, ResultsMakeRound}
use Rattle.func_analyze.specs.Dependencies.{ResultsDependOnNames}
use Rattle.func_analyze.proofs.ClassChains.{classes_are_transitive}
use Rattle.func_analyze.proofs.RoundOrder.{found}
use Rattle.func_analyze.proofs.Trimmed.{least_is_by_flows}

placed : {A : Type 0} (P : ℕ → A → Type 0) (x : A) → P 0 x → (xs : List A) → ((n : ℕ) (a : A) → slice_get xs n ≡ Some a → P (suc n) a)
    → (n : ℕ) (a : A) → slice_get (x ∷ xs) n ≡ Some a → P n a
placed P x p xs more zero a e = let k : x ≡ a = cc in subst (λ a. P 0 a) k p
placed P x p xs more (suc n) a e = more n a e

-- a list of what there is for each of so many numbers
collected : {A : Type 0} (P : ℕ → A → Type 0) (count : ℕ) → ((n : ℕ) → n < count → (a : A) × P n a)
    → (xs : List A) × (length xs ≡ count) × ((n : ℕ) (a : A) → slice_get xs n ≡ Some a → P n a)
collected P zero f = ([], refl, λ n a e. absurd (cc))
collected P (suc count) f =
    let here = f 0 (omega arith) in
    let rest = collected (λ n a. P (suc n) a) count (λ n l. f (suc n) (omega arith)) in
    (here.0 ∷ rest.0, ap suc rest.1, λ n a e. placed P here.0 here.1 rest.0 rest.2 n a e)

-- the table of a body's result
record IsTable (r : Linked) (F : Facts) (results : List BodyResult) (n : ℕ) (T : Table) : Type 0 where
  pub result : BodyResult
  pub at : slice_get results n ≡ Some result
  pub given : IsResult r F n result
  pub table : given.table ≡ T

module _ (r : Linked) (F G : Facts) (results : List BodyResult) (told : length results ≡ length (bodies r))
    (gives : (n : ℕ) (x : BodyResult) → slice_get results n ≡ Some x → IsResult r F n x) (joined : AreJoinedTo r results G) where
  tables : (Ts : List Table) × (length Ts ≡ length (bodies r)) × ((n : ℕ) (T : Table) → slice_get Ts n ≡ Some T → IsTable r F results n T)
  tables =
      collected (λ n T. IsTable r F results n T) (length (bodies r)) (λ n l.
      let x = found results n (omega (arith, told, l)) in
      ((gives n x.0 x.1).table, record { result = x.0; at = x.1; given = gives n x.0 x.1; table = refl }))

  returns : (n : ℕ) (T : Table) (t : HType) → IsTable r F results n T → slice_get G.returns n ≡ Some t → IsJoin (tree_of r) (IsReturned r F n T) t
  returns n T t is at =
      let x = from_map (λ (x : BodyResult). x.returned) results n t (subst (λ ts. slice_get ts n ≡ Some t) joined.returns at) in
      let same : is.result ≡ x.0 = let e = sym is.at ∙ x.1 in cc in
      let type : is.result.returned ≡ t = ap (λ (x : BodyResult). x.returned) same ∙ x.2 in
      subst (λ t. IsJoin (tree_of r) (IsReturned r F n T) t) type
      (subst (λ T. IsJoin (tree_of r) (IsReturned r F n T) is.result.returned) is.table is.given.returned)

  -- what a body writes is below an effect of its result
  held_below : (q : ℕ) (t s : HType) → slice_get G.props q ≡ Some t → IsHeld r F tables.0 q s → Le (tree_of r) s t
  held_below q t s at (inl initial) = (joined.props q t at).above s (inl initial)
  held_below q t s at (inr w) =
      let is = tables.2 w.body w.table w.at in
      let writes : WritesTo r F w.body is.given.table q s =
      record { position = w.position; state = w.state; reached = subst (λ T. HasState T w.position w.state) (sym is.table) w.reached; written = w.written } in
      let up = is.given.all q s writes in
      Le-trans (tree_of r) (classes_are_transitive (tree_of r)) s up.0 t ((is.given.effects q up.0 up.1).above s writes)
      ((joined.props q t at).above up.0 (inr (record { body = w.body; result = is.result; at = is.at; written = up.1 })))

  among_below : (q : ℕ) (u v : HType) → IsProper (tree_of r) v → ((s : HType) → IsHeld r F tables.0 q s → Le (tree_of r) s v)
      → (slice_get (initial_types r) q ≡ Some u) ⊎ IsAmong results q u → Le (tree_of r) u v
  among_below q u v proper below (inl initial) = below u (inl initial)
  among_below q u v proper below (inr a) =
      let T = found tables.0 a.body (let l = slice_get_within results a.body a.result a.at in let c = tables.1 in omega (arith, told)) in
      let is = tables.2 a.body T.0 T.1 in
      let same : a.result ≡ is.result = let e = sym a.at ∙ is.at in cc in
      (is.given.effects q u (subst (λ (x : BodyResult). Contains x.effects (record { property = q; type = u })) same a.written)).least v proper (λ s w.
      below s (inr (record {
        body = a.body;
        table = T.0;
        at = T.1;
        position = w.position;
        state = w.state;
        reached = subst (λ T. HasState T w.position w.state) is.table w.reached;
        written = w.written;
      })))

  round : IsRound r F G
  round = record {
    tables = tables.0;
    least = record {
      count = tables.1;
      least = λ n T at. let is = tables.2 n T at in subst (λ T. IsLeast r F n T) is.table is.given.least;
    };
    bodies_told = ap length joined.returns ∙ length-map results (λ (x : BodyResult). x.returned) ∙ told;
    returns = λ n T t at is. returns n T t (tables.2 n T at) is;
    props_told = joined.props_told;
    props = λ q t at. record {
      proper = (joined.props q t at).proper;
      above = λ s is. held_below q t s at is;
      least = λ v proper below. (joined.props q t at).least v proper (λ u is. among_below q u v proper below is);
    };
  }

pub results_make_round : ResultsMakeRound
results_make_round r F G results told gives joined = round r F G results told gives joined

-- the flows of these codes are the same under all facts
code_same : (r : Linked) (F G : Facts) (n : ℕ) (b : Body) (p : ℕ) (o : Option Code) (s : State) → code_flow r F n b p o s ≡ code_flow r G n b p o s
code_same r F G n b p None s = refl
code_same r F G n b p (Some c) s = ap (λ (w : Row). completed w p (to_handler (throws c) (handler_of b p) s)) (same_row r r F G n n c s)

flow_same : (r : Linked) (F G : Facts) (n : ℕ) (o : Option Body) (p : ℕ) (s : State) → body_flow r F n o p s ≡ body_flow r G n o p s
flow_same r F G n None p s = refl
flow_same r F G n (Some b) p s = code_same r F G n b p (code_at b p) s

results_stay : (r : Linked) (F G : Facts) (n : ℕ) (x : BodyResult) → IsResult r F n x → IsResult r G n x
results_stay r F G n x is =
    let same = λ (p : ℕ) (s : State). flow_same r F G n (body_at r n) p s in
    record {
      table = is.table;
      least = (least_is_by_flows r F G n (λ p s q t. (
        λ m. subst (λ (o : Flows). Contains o.to (q, t)) (same p s) m,
        λ m. subst (λ (o : Flows). Contains o.to (q, t)) (sym (same p s)) m,
      )) is.table).0 is.least;
      returned = record {
        proper = is.returned.proper;
        above = λ t w. is.returned.above t (record {
          position = w.position;
          state = w.state;
          reached = w.reached;
          returned = ap (λ (o : Flows). o.returned) (same w.position w.state) ∙ w.returned;
        });
        least = λ u proper below. is.returned.least u proper (λ t w. below t (record {
          position = w.position;
          state = w.state;
          reached = w.reached;
          returned = sym (ap (λ (o : Flows). o.returned) (same w.position w.state)) ∙ w.returned;
        }));
      };
      order = is.order;
      effects = λ q t m. record {
        proper = (is.effects q t m).proper;
        above = λ u w. (is.effects q t m).above u (writes_still G F (λ p s. sym (same p s)) q u w);
        least = λ v proper below. (is.effects q t m).least v proper (λ u w. below u (writes_still F G same q u w));
      };
      all = λ q t w. is.all q t (writes_still G F (λ p s. sym (same p s)) q t w);
    }
  where
    writes_still : (E H : Facts) → ((p : ℕ) (s : State) → flow r E n p s ≡ flow r H n p s) → (q : ℕ) (t : HType) → WritesTo r E n is.table q t → WritesTo r H n is.table q t
    writes_still E H same q t w = record {
      position = w.position;
      state = w.state;
      reached = w.reached;
      written = subst (λ (o : Flows). Contains o.effects (record { property = q; type = t })) (same w.position w.state) w.written;
    }

pub results_depend_on_names : ResultsDependOnNames
results_depend_on_names r F G n x same is = results_stay r F G n x is
