-- Lower facts have a lower round, and facts never rise.
use Rattle.std.proofs.Common.{◌≡◌, inl, inr, ℕ, zero, suc, ◌<◌, refl, sym, ◌∙◌, subst, true, false, Some, List, [], ◌∷◌, ◌++◌, map, flat_map, replicate, slice_get, length, arith}
use Rattle.std.proofs.lemmas.Option.{slice_get_within}
use Rattle.std.proofs.lemmas.List.{length-replicate}
use Rattle.hack_values.specs.declared.cell.Cell.{Cell}
use Rattle.hack_values.specs.declared.cell.Cell.TheVariants as cells
use Rattle.type_lattice.specs.declared.types.HType.{HType}
use Rattle.type_lattice.specs.declared.types.StrPart.TheVariants as strs
use Rattle.type_lattice.specs.Classes.{Tree}
use Rattle.type_lattice.specs.Order.{Le}
use Rattle.type_lattice.specs.Types.{never, cell_leaf, key_leaf, cell, literal, str_part}
use Rattle.type_lattice.specs.Proper.{IsJoin}
use Rattle.type_lattice.proofs.OrderLaws.{StrLe-top, Le-trans}
use Rattle.type_lattice.proofs.Singles.{never_leaf-le, cell_proper}
use Rattle.hhbc_repo.specs.declared.repo.Class.{Class}
use Rattle.hhbc_repo.specs.declared.repo.Property.{Property}
use Rattle.hhbc_repo.specs.Linked.{Linked}
use Rattle.hhbc_repo.specs.Bodies.{bodies, tree_of}
use Rattle.hhbc_semantics.specs.Truth.{Facts}
use Rattle.abstract_step.specs.State.{AllLe}
use Rattle.abstract_step.specs.Laws.{FactsLe}
use Rattle.abstract_step.proofs.FlowOrder.{flow_is_monotone}
use Rattle.func_analyze.specs.Solution.{Table, IsLeast}
use Rattle.func_analyze.specs.Rounds.{initial_types, top, IsReturned, IsHeld, AreLeast, IsRound}
use Rattle.func_analyze.specs.RoundLaws.{GivesCells, LowerFactsLowerRound, FactsNeverRise}
use Rattle.func_analyze.proofs.ClassChains.{classes_are_transitive}
use Rattle.func_analyze.proofs.Trimmed.{lower_facts_lower_least, least_is_alive}

all_le : (tree : Tree) (xs ys : List HType) → length xs ≡ length ys
    → ((n : ℕ) (s t : HType) → slice_get xs n ≡ Some s → slice_get ys n ≡ Some t → Le tree s t) → AllLe tree xs ys
all_le tree [] [] e h = tt
all_le tree [] (y ∷ ys) e h = absurd (omega arith)
all_le tree (x ∷ xs) [] e h = absurd (omega arith)
all_le tree (x ∷ xs) (y ∷ ys) e h = (h 0 x y refl refl, all_le tree xs ys (omega arith) (λ n s t i k. h (suc n) s t i k))

pub found : {A : Type 0} (xs : List A) (n : ℕ) → n < length xs → (x : A) × (slice_get xs n ≡ Some x)
found [] n h = absurd (omega arith)
found (x ∷ xs) zero h = (x, refl)
found (x ∷ xs) (suc n) h = found xs n (omega arith)

pub same_cell : (k n : ℕ) (t : HType) → slice_get (replicate k cell) n ≡ Some t → t ≡ cell
same_cell zero n t e = absurd (cc)
same_cell (suc k) zero t e = cc
same_cell (suc k) (suc n) t e = same_cell k n t e

-- the type of a literal is one of cells
literal_below : (tree : Tree) (c : Cell) → Le tree (literal c) cell
literal_below tree cells.Null = record { uninit = tt; null = refl; no = tt; yes = tt; int = tt; str = tt; obj = tt; vec = tt; dict = tt; keyset = tt }
literal_below tree (cells.Bool true) = record { uninit = tt; null = tt; no = tt; yes = refl; int = tt; str = tt; obj = tt; vec = tt; dict = tt; keyset = tt }
literal_below tree (cells.Bool false) = record { uninit = tt; null = tt; no = refl; yes = tt; int = tt; str = tt; obj = tt; vec = tt; dict = tt; keyset = tt }
literal_below tree (cells.Int i) = record { uninit = tt; null = tt; no = tt; yes = tt; int = tt; str = tt; obj = tt; vec = tt; dict = tt; keyset = tt }
literal_below tree (cells.Str s) = record { uninit = tt; null = tt; no = tt; yes = tt; int = tt; str = StrLe-top (str_part s); obj = tt; vec = tt; dict = tt; keyset = tt }
literal_below tree (cells.Vec vs) = record { uninit = tt; null = tt; no = tt; yes = tt; int = tt; str = tt; obj = tt; vec = never_leaf-le tree cell_leaf; dict = tt; keyset = tt }
literal_below tree (cells.Dict es) = record { uninit = tt; null = tt; no = tt; yes = tt; int = tt; str = tt; obj = tt; vec = tt; dict = (never_leaf-le tree key_leaf, never_leaf-le tree cell_leaf); keyset = tt }
literal_below tree (cells.Keyset ks) = record { uninit = tt; null = tt; no = tt; yes = tt; int = tt; str = tt; obj = tt; vec = tt; dict = tt; keyset = never_leaf-le tree key_leaf }
literal_below tree (cells.Obj n) = record { uninit = tt; null = tt; no = tt; yes = tt; int = tt; str = tt; obj = tt; vec = tt; dict = tt; keyset = tt }

module _ (tree : Tree) where
  abbrev Below : List HType → Type 0
  Below xs = (n : ℕ) (t : HType) → slice_get xs n ≡ Some t → Le tree t cell

  below_append : (xs ys : List HType) → Below xs → Below ys → Below (xs ++ ys)
  below_append [] ys h k n t e = k n t e
  below_append (x ∷ xs) ys h k zero t e = h 0 t e
  below_append (x ∷ xs) ys h k (suc n) t e = below_append xs ys (λ n t e. h (suc n) t e) k n t e

  props_below : (ps : List Property) → Below (map (λ (p : Property). literal p.initial) ps)
  props_below [] n t e = absurd (cc)
  props_below (p ∷ ps) zero t e = let f : literal p.initial ≡ t = cc in subst (λ t. Le tree t cell) f (literal_below tree p.initial)
  props_below (p ∷ ps) (suc n) t e = props_below ps n t e

  classes_below : (cs : List Class) → Below (flat_map (λ (c : Class). map (λ (p : Property). literal p.initial) c.props) cs)
  classes_below [] n t e = absurd (cc)
  classes_below (c ∷ cs) n t e = below_append (map (λ (p : Property). literal p.initial) c.props) _ (props_below c.props) (classes_below cs) n t e

module _ (r : Linked) (E F : Facts) (le : FactsLe (tree_of r) F E) where
  -- a reached position of the lower round, in the higher one
  returned_le : (n : ℕ) (T U : Table) → IsLeast r E n T → IsLeast r F n U → (g t : HType) → IsJoin (tree_of r) (IsReturned r E n T) g
      → IsReturned r F n U t → Le (tree_of r) t g
  returned_le n T U l m g t join is =
      let up = lower_facts_lower_least r F E n le U T m l.solution is.position is.state is.reached in
      let flows = flow_is_monotone r F E n is.position is.state up.0 le (least_is_alive r F n U m is.position is.state is.reached) up.2 in
      subst (λ t. Le (tree_of r) t g) is.returned
      (Le-trans (tree_of r) (classes_are_transitive (tree_of r)) _ _ g flows.returned
      (join.above _ (record { position = is.position; state = up.0; reached = up.1; returned = refl })))

  held_le : (Ts Us : List Table) → AreLeast r E Ts → AreLeast r F Us → (q : ℕ) (g t : HType) → IsJoin (tree_of r) (IsHeld r E Ts q) g
      → IsHeld r F Us q t → Le (tree_of r) t g
  held_le Ts Us l m q g t join (inl initial) = join.above t (inl initial)
  held_le Ts Us l m q g t join (inr is) =
      let n : is.body < length Ts = let a = slice_get_within Us is.body is.table is.at in let b = l.count in let c = m.count in omega arith in
      let T = found Ts is.body n in
      let least = m.least is.body is.table is.at in
      let up = lower_facts_lower_least r F E is.body le is.table T.0 least (l.least is.body T.0 T.1).solution is.position is.state is.reached in
      let flows = flow_is_monotone r F E is.body is.position is.state up.0 le (least_is_alive r F is.body is.table least is.position is.state is.reached) up.2 in
      let above = flows.effects q t is.written in
      Le-trans (tree_of r) (classes_are_transitive (tree_of r)) t above.0 g above.2
      (join.above above.0 (inr (record { body = is.body; table = T.0; at = T.1; position = is.position; state = up.0; reached = up.1; written = above.1 })))

  lower : (G H : Facts) → IsRound r E G → IsRound r F H → FactsLe (tree_of r) H G
  lower G H w v = record {
    returns = all_le (tree_of r) H.returns G.returns (v.bodies_told ∙ sym w.bodies_told) (λ n h g i k.
        let a : n < length H.returns = slice_get_within H.returns n h i in
        let T = found w.tables n (let b = v.bodies_told in let c = w.least.count in omega arith) in
        let U = found v.tables n (let b = v.bodies_told in let c = v.least.count in omega arith) in
        (v.returns n U.0 h U.1 i).least g (w.returns n T.0 g T.1 k).proper
        (λ t is. returned_le n T.0 U.0 (w.least.least n T.0 T.1) (v.least.least n U.0 U.1) g t (w.returns n T.0 g T.1 k) is));
    props = all_le (tree_of r) H.props G.props (v.props_told ∙ sym w.props_told) (λ q h g i k.
        (v.props q h i).least g (w.props q g k).proper (λ t is. held_le w.tables v.tables w.least v.least q g t (w.props q g k) is));
  }

pub lower_facts_lower_round : LowerFactsLowerRound
lower_facts_lower_round r E F G H le w v = lower r E F le G H w v

-- the first round is below the first facts
first_falls : (r : Linked) → GivesCells r → (G : Facts) → IsRound r (top r) G → FactsLe (tree_of r) G (top r)
first_falls r gives G w = record {
  returns = all_le (tree_of r) G.returns (top r).returns (w.bodies_told ∙ sym (length-replicate (length (bodies r)) cell)) (λ n h g i k.
      let a : n < length G.returns = slice_get_within G.returns n h i in
      let T = found w.tables n (let b = w.bodies_told in let c = w.least.count in omega arith) in
      subst (λ g. Le (tree_of r) h g) (sym (same_cell (length (bodies r)) n g k))
      ((w.returns n T.0 h T.1 i).least cell (cell_proper (tree_of r))
      (λ t is. subst (λ t. Le (tree_of r) t cell) is.returned (gives.returned n T.0 (w.least.least n T.0 T.1) is.position is.state is.reached))));
  props = all_le (tree_of r) G.props (top r).props (w.props_told ∙ sym (length-replicate (length (initial_types r)) cell)) (λ q h g i k.
      subst (λ g. Le (tree_of r) h g) (sym (same_cell (length (initial_types r)) q g k))
      ((w.props q h i).least cell (cell_proper (tree_of r)) (λ t is. held q t is)));
}
  where
    message_below : Le (tree_of r) (record never { str = strs.Any }) cell
    message_below = record { uninit = tt; null = tt; no = tt; yes = tt; int = tt; str = tt; obj = tt; vec = tt; dict = tt; keyset = tt }

    initial_below : (q : ℕ) (t : HType) → slice_get (initial_types r) q ≡ Some t → Le (tree_of r) t cell
    initial_below zero t e = let f : record never { str = strs.Any } ≡ t = cc in subst (λ t. Le (tree_of r) t cell) f message_below
    initial_below (suc q) t e = classes_below (tree_of r) r.classes q t e

    held : (q : ℕ) (t : HType) → IsHeld r (top r) w.tables q t → Le (tree_of r) t cell
    held q t (inl e) = initial_below q t e
    held q t (inr is) = gives.effects is.body is.table (w.least.least is.body is.table is.at) is.position is.state is.reached q t is.written

pub facts_never_rise : FactsNeverRise
facts_never_rise r gives zero F G is w =
    subst (λ F. FactsLe (tree_of r) G F) (sym is) (first_falls r gives G (subst (λ F. IsRound r F G) is w))
facts_never_rise r gives (suc n) F G is w =
    lower r is.0 F (facts_never_rise r gives n is.0 F is.1 is.2) F G is.2 w
