-- A repository of the second form keeps to its shapes exactly where no code and no assertion reaches below the stack.
use Rattle.std.proofs.Common.{◌≡◌, ◌≢◌, ◌↔◌, ℕ, zero, suc, ◌+◌, ◌-◌, ◌*◌, ◌<◌, ◌≤◌, refl, sym, ◌∙◌, ap, subst, Bool, true, false, ◌&&◌, ◌==◌, nat_le, nat_lt, Option, Some, None, List, [], ◌∷◌, ◌++◌, flat_map, slice_get, length, drop, cond, arith, length-append, length-drop, mul-le-mul, le-leb, ltb-true, ltb-false}
use Rattle.std.proofs.lemmas.Bool.{and_from, and_parts, false_from_ne_true}
use Rattle.std.proofs.lemmas.Bool.Decides.{Decides-eqb}
use Rattle.std.proofs.lemmas.List.{append-nil}
use Rattle.hhbc_ops.specs.declared.op.Op.{Op}
use Rattle.hhbc_ops.specs.declared.op.Op.TheVariants as ops
use Rattle.hhbc_repo.specs.declared.code.Code.{Code}
use Rattle.hhbc_repo.specs.declared.code.Code.TheVariants as kinds
use Rattle.hhbc_repo.specs.declared.code.Imm.{Imm}
use Rattle.hhbc_repo.specs.declared.code.Imm.TheVariants as imms
use Rattle.type_lattice.specs.declared.types.HType.{HType}
use Rattle.hhbc_repo.specs.declared.body.Assert.{Assert}
use Rattle.hhbc_repo.specs.declared.body.Body.{Body}
use Rattle.hhbc_repo.specs.declared.body.Position.{Position}
use Rattle.hhbc_repo.specs.Linked.{Linked}
use Rattle.hhbc_repo.specs.Bodies.{code_at, asserts_at}
use Rattle.hhbc_repo.specs.Codes.{Flavour, C, U, labels_in, labels, op_pops, op_pushes, pops, pushes, slots_read, op_iter, iter_use, throws, goes_on, op_goes_on}
use Rattle.hhbc_repo.specs.Edges.{Edge, Next, handler_of, handler_edges, next_edges, edges_of, edges}
use Rattle.hhbc_semantics.specs.Form.{FitsOperands, FitsCode, FitsPosition, FitPositions, IsReturn, IsFirstBody, IsFirstForm, FitAsserts, FitsStated, FitsClaimed, FitClaimed, IsSecondBody, IsSecondForm}
use Rattle.hhbc_repo.specs.Shapes.{Shape, Check, AllPass, ShapeKind, Underflow, WrongFlavour, TooManyCells, given, given_after, given_by, shapes, edge_to, after, behind, agree, same_live, edge_checks, all_edge_checks, last_checks, first_fault, fault_at, deepest, cells, reaches, pops_of, slots_read_of, iter_use_of, all_within, all_cells, iter_checks, Types}
use Rattle.hhbc_semantics.specs.Walks.{walks, walks_asserted, TypesWhereItWalks, TypesWhereAssertedWalks}
use Rattle.hhbc_semantics.proofs.FirstForm.{only, second_is}

-- codes of the first form name no label
op_labels : (count : ℕ) (op : Op) (is : List Imm) → FitsOperands count op is → flat_map labels_in is ≡ []
op_labels count ops.Null [] h = refl
op_labels count ops.True [] h = refl
op_labels count ops.False [] h = refl
op_labels count ops.Int (imms.Int i ∷ []) h = refl
op_labels count ops.PopC [] h = refl
op_labels count ops.SetL (imms.Local l ∷ []) h = refl
op_labels count ops.CGetL (imms.Local l ∷ []) h = refl
op_labels count ops.RetC [] h = refl
op_labels count _ _ h = absurd h

no_labels : (count : ℕ) (c : Code) → FitsCode count c → labels c ≡ []
no_labels count (kinds.Plain i) h = op_labels count i.op i.imms h
no_labels count (kinds.Member m) h = absurd h

-- nor do they read a slot by its place, or use an iterator
pub no_reads : (count : ℕ) (c : Code) → FitsCode count c → slots_read c ≡ []
no_reads count (kinds.Plain i) h = refl
no_reads count (kinds.Member m) h = absurd h

op_no_iter : (count : ℕ) (op : Op) (is : List Imm) → FitsOperands count op is → op_iter op is ≡ None
op_no_iter count ops.Null is h = refl
op_no_iter count ops.True is h = refl
op_no_iter count ops.False is h = refl
op_no_iter count ops.Int is h = refl
op_no_iter count ops.PopC is h = refl
op_no_iter count ops.SetL is h = refl
op_no_iter count ops.CGetL is h = refl
op_no_iter count ops.RetC is h = refl
op_no_iter count _ is h = absurd h

pub no_iter : (count : ℕ) (c : Code) → FitsCode count c → iter_use c ≡ None
no_iter count (kinds.Plain i) h = op_no_iter count i.op i.imms h
no_iter count (kinds.Member m) h = absurd h

drop_true : (a b : Bool) → (a && (b && true)) ≡ (a && b)
drop_true true true = refl
drop_true true false = refl
drop_true false b = refl

no_handler : (t : Bool) (b : Body) (p : ℕ) → b.regions ≡ [] → handler_edges t (handler_of b p) ≡ []
no_handler true b p e = rw e refl
no_handler false b p e = refl

pub code_is : (b : Body) (p : ℕ) (q : Position) → slice_get b.positions p ≡ Some q → code_at b p ≡ Some q.code
code_is b p q e = rw e refl

edges_are : (count : ℕ) (b : Body) (p : ℕ) (o : Option Code) (c : Code) → b.regions ≡ [] → o ≡ Some c → FitsCode count c
    → edges_of o b p ≡ next_edges (goes_on c) p
edges_are count b p None c g e h = absurd (cc)
edges_are count b p (Some d) c g e h =
    let k : c ≡ d = cc in
    subst (λ (c : Code). edges_of (Some d) b p ≡ next_edges (goes_on c) p) (sym k)
    (rw (no_labels count d (subst (λ (c : Code). FitsCode count c) k h), no_handler (throws d) b p g) (append-nil (next_edges (goes_on d) p ++ []) ∙ append-nil (next_edges (goes_on d) p)))

-- the positions of the second form
pub claimed_at : (count : ℕ) (ps : List Position) (p : ℕ) (q : Position) → FitClaimed count ps → slice_get ps p ≡ Some q → FitsClaimed count q
claimed_at count [] p q w e = absurd w
claimed_at count (x ∷ []) zero q w e = let k : x ≡ q = cc in subst (λ (y : Position). FitsClaimed count y) k w.0
claimed_at count (x ∷ []) (suc p) q w e = absurd (cc)
claimed_at count (x ∷ y ∷ ps) zero q w e = let k : x ≡ q = cc in subst (λ (y : Position). FitsClaimed count y) k w.0
claimed_at count (x ∷ y ∷ ps) (suc p) q w e = claimed_at count (y ∷ ps) p q w.2 e

not_last : (count : ℕ) (ps : List Position) (p : ℕ) (q : Position) → FitClaimed count ps → slice_get ps p ≡ Some q → suc p < length ps → IsReturn q.code → ⊥
not_last count [] p q w e l = absurd w
not_last count (x ∷ []) p q w e l = absurd (omega arith)
not_last count (x ∷ y ∷ ps) zero q w e l = let k : x ≡ q = cc in subst (λ (y : Position). IsReturn y.code → ⊥) k w.1
not_last count (x ∷ y ∷ ps) (suc p) q w e l = not_last count (y ∷ ps) p q w.2 e (omega arith)

is_last : (count : ℕ) (ps : List Position) (p : ℕ) (q : Position) → FitClaimed count ps → slice_get ps p ≡ Some q → suc p ≡ length ps → IsReturn q.code
is_last count [] p q w e l = absurd w
is_last count (x ∷ []) zero q w e l = let k : x ≡ q = cc in subst (λ (y : Position). IsReturn y.code) k w.1
is_last count (x ∷ []) (suc p) q w e l = absurd (cc)
is_last count (x ∷ y ∷ ps) zero q w e l = absurd (omega arith)
is_last count (x ∷ y ∷ ps) (suc p) q w e l = is_last count (y ∷ ps) p q w.2 e (omega arith)

pub there : (ps : List Position) (p : ℕ) → p < length ps → (q : Position) × (slice_get ps p ≡ Some q)
there [] p l = absurd (omega arith)
there (x ∷ ps) zero l = (x, refl)
there (x ∷ ps) (suc p) l = there ps p (omega arith)

op_on : (count : ℕ) (op : Op) (is : List Imm) → FitsOperands count op is → (op ≡ ops.RetC → ⊥) → op_goes_on op ≡ true
op_on count ops.Null is w h = refl
op_on count ops.True is w h = refl
op_on count ops.False is w h = refl
op_on count ops.Int is w h = refl
op_on count ops.PopC is w h = refl
op_on count ops.SetL is w h = refl
op_on count ops.CGetL is w h = refl
op_on count ops.RetC is w h = absurd (h refl)
op_on count _ is w h = absurd w

on : (count : ℕ) (c : Code) → FitsCode count c → (IsReturn c → ⊥) → goes_on c ≡ true
on count (kinds.Plain i) w h = op_on count i.op i.imms w h
on count (kinds.Member m) w h = refl

not_on : (c : Code) → IsReturn c → goes_on c ≡ false
not_on (kinds.Plain i) h = rw h refl
not_on (kinds.Member m) h = absurd h

-- a list of shapes whose last alone leads to a position
given_by_last : (b : Body) (k : ℕ) (xs : List Shape) (y : Shape) (q n : ℕ) (e : Edge) → n ≡ k + length xs
    → ((j : ℕ) → j < length xs → edge_to q (edges b (k + j)) ≡ None) → edge_to q (edges b n) ≡ Some e
    → given_by b k (xs ++ y ∷ []) q ≡ Some (after b n y e)
given_by_last b k [] y q n e i none f =
    let h : n ≡ k = omega arith in
    let g : edge_to q (edges b k) ≡ Some e = subst (λ m. edge_to q (edges b m) ≡ Some e) h f in
    subst (λ m. given_by b k (y ∷ []) q ≡ Some (after b m y e)) (sym h) (rw g refl)
given_by_last b k (x ∷ xs) y q n e i none f =
    let z : k + 0 ≡ k = omega arith in
    let g : edge_to q (edges b k) ≡ None = subst (λ m. edge_to q (edges b m) ≡ None) z (none 0 (omega arith)) in
    rw g
    (given_by_last b (suc k) xs y q n e (omega arith)
    (λ j l. let m : k + suc j ≡ suc k + j = omega arith in subst (λ m. edge_to q (edges b m) ≡ None) m (none (suc j) (omega arith))) f)

pub shapes_length : (b : Body) (n : ℕ) → length (shapes b n) ≡ n
shapes_length b zero = refl
shapes_length b (suc n) =
    let e = length-append (shapes b n) (given_after b n (shapes b n) ∷ []) in
    let f = shapes_length b n in
    omega (arith, e, f)

edge_elsewhere : (t : Bool) (j q : ℕ) → j < q → edge_to (suc q) (next_edges t j) ≡ None
edge_elsewhere true j q l = rw (false_from_ne_true (suc j == suc q) (λ e. let f = (Decides-eqb (suc j) (suc q)).0 e in absurd (omega arith))) refl
edge_elsewhere false j q l = refl

edge_here : (q : ℕ) → edge_to (suc q) (next_edges true q) ≡ Some (Next (suc q))
edge_here q = rw ((Decides-eqb (suc q) (suc q)).1 refl) refl

module _ (count : ℕ) (b : Body) (g : b.regions ≡ []) (w : FitClaimed count b.positions) where
  edges_at : (p : ℕ) (q : Position) → slice_get b.positions p ≡ Some q → edges b p ≡ next_edges (goes_on q.code) p
  edges_at p q e = edges_are count b p (code_at b p) q.code g (code_is b p q e) (claimed_at count b.positions p q w e).fits

  -- a position has the shape that the one before it leaves
  pub given_next : (p : ℕ) (q : Position) → slice_get b.positions p ≡ Some q → suc p < length b.positions → given b (suc p) ≡ behind q.code (given b p)
  given_next p q e l =
      let h = edges_at p q e in
      let o = on count q.code (claimed_at count b.positions p q w e).fits (not_last count b.positions p q w e l) in
      let k : edge_to (suc p) (edges b p) ≡ Some (Next (suc p)) = rw (h, o) (edge_here p) in
      let len = shapes_length b p in
      let m = given_by_last b 0 (shapes b p) (given b p) (suc p) p (Next (suc p)) (omega (arith, len))
      (λ j i.
      let x = there b.positions j (omega (arith, len)) in
      let z : 0 + j ≡ j = omega arith in
      subst (λ n. edge_to (suc p) (edges b n) ≡ None) (sym z)
      (rw (edges_at j x.0 x.1) (edge_elsewhere (goes_on x.0.code) j p (omega (arith, len))))) k in
      rw (m, code_is b p q e) refl

-- all flavours of the first form are cells
abbrev AllCells : List Flavour → Type 0
AllCells [] = Unit {0}
AllCells (C ∷ fs) = AllCells fs
AllCells (U ∷ fs) = ⊥

cells_drop : (n : ℕ) (fs : List Flavour) → AllCells fs → AllCells (drop n fs)
cells_drop zero fs h = h
cells_drop (suc n) [] h = tt
cells_drop (suc n) (C ∷ fs) h = cells_drop n fs h
cells_drop (suc n) (U ∷ fs) h = absurd h

cells_append : (fs gs : List Flavour) → AllCells fs → AllCells gs → AllCells (fs ++ gs)
cells_append [] gs h k = k
cells_append (C ∷ fs) gs h k = cells_append fs gs h k
cells_append (U ∷ fs) gs h k = absurd h

op_pushes_cells : (count : ℕ) (op : Op) (is : List Imm) → FitsOperands count op is → AllCells (op_pushes op is) × (length (op_pushes op is) ≤ 1)
op_pushes_cells count ops.Null is w = (tt, omega arith)
op_pushes_cells count ops.True is w = (tt, omega arith)
op_pushes_cells count ops.False is w = (tt, omega arith)
op_pushes_cells count ops.Int is w = (tt, omega arith)
op_pushes_cells count ops.PopC is w = (tt, omega arith)
op_pushes_cells count ops.SetL is w = (tt, omega arith)
op_pushes_cells count ops.CGetL is w = (tt, omega arith)
op_pushes_cells count ops.RetC is w = (tt, omega arith)
op_pushes_cells count _ is w = absurd w

pushes_cells : (count : ℕ) (c : Code) → FitsCode count c → AllCells (pushes c) × (length (pushes c) ≤ 1)
pushes_cells count (kinds.Plain i) w = op_pushes_cells count i.op i.imms w
pushes_cells count (kinds.Member m) w = absurd w

op_pops_cells : (count : ℕ) (op : Op) (is : List Imm) → FitsOperands count op is → AllCells (op_pops op is)
op_pops_cells count ops.Null is w = tt
op_pops_cells count ops.True is w = tt
op_pops_cells count ops.False is w = tt
op_pops_cells count ops.Int is w = tt
op_pops_cells count ops.PopC is w = tt
op_pops_cells count ops.SetL is w = tt
op_pops_cells count ops.CGetL is w = tt
op_pops_cells count ops.RetC is w = tt
op_pops_cells count _ is w = absurd w

pops_cells : (count : ℕ) (c : Code) → FitsCode count c → AllCells (pops c)
pops_cells count (kinds.Plain i) w = op_pops_cells count i.op i.imms w
pops_cells count (kinds.Member m) w = absurd w

agree_cells : (fs gs : List Flavour) → AllCells fs → AllCells gs → agree fs gs ≡ true
agree_cells [] gs h k = refl
agree_cells (C ∷ fs) [] h k = refl
agree_cells (C ∷ fs) (C ∷ gs) h k = agree_cells fs gs h k
agree_cells (C ∷ fs) (U ∷ gs) h k = absurd k
agree_cells (U ∷ fs) gs h k = absurd h

agree_itself : (fs : List Flavour) → agree fs fs ≡ true
agree_itself [] = refl
agree_itself (C ∷ fs) = agree_itself fs
agree_itself (U ∷ fs) = agree_itself fs

same_itself : (bs : List Bool) → same_live bs bs ≡ true
same_itself [] = refl
same_itself (true ∷ bs) = same_itself bs
same_itself (false ∷ bs) = same_itself bs

-- the shape of a position: cells alone, and no more than the positions before it
record IsLow (p : ℕ) (s : Shape) : Type 0 where
  pub cells : AllCells s.stack
  pub depth : length s.stack ≤ p

low_behind : (count : ℕ) (c : Code) (p : ℕ) (s : Shape) → FitsCode count c → IsLow p s → IsLow (suc p) (behind c s)
low_behind count c p s w h =
    let x = pushes_cells count c w in
    let a = length-append (pushes c) (drop (length (pops c)) s.stack) in
    let d = length-drop (length (pops c)) s.stack in
    record {
      cells = cells_append (pushes c) _ x.0 (cells_drop (length (pops c)) s.stack h.cells);
      depth = omega (arith, a, d, x.1, h.depth);
    }

-- checks that all pass have no fault
pass_append : (xs ys : List Check) → AllPass xs → AllPass ys → AllPass (xs ++ ys)
pass_append [] ys h k = k
pass_append (x ∷ xs) ys h k = (h.0, pass_append xs ys h.1 k)

no_fault : (xs : List Check) → AllPass xs → first_fault xs ≡ None
no_fault [] h = refl
no_fault (x ∷ xs) h = rw h.0 (no_fault xs h.1)

first_decides : (t : Bool) (kind : ShapeKind) (xs : List Check) → AllPass xs → (t ≡ true) ↔ (first_fault ((kind, t) ∷ xs) ≡ None)
first_decides true kind xs h = ((λ e. no_fault xs h), λ e. refl)
first_decides false kind xs h = ((λ e. absurd (cc)), λ e. absurd (cc))

deepest_last : (xs : List Shape) (y : Shape) (m : ℕ) → deepest xs ≤ m → length y.stack ≤ m → deepest (xs ++ y ∷ []) ≤ m
deepest_last [] y m h k = omega arith
deepest_last (x ∷ xs) y m h k =
    let ih = deepest_last xs y m (omega arith) k in
    omega (arith, ih, h)

pub asserts_are : (b : Body) (p : ℕ) (q : Position) → slice_get b.positions p ≡ Some q → asserts_at b p ≡ q.asserts
asserts_are b p q e = rw e refl

few_cells : (n l d i : ℕ) → n ≤ 200 → l ≤ 255 → d ≤ 200 → i ≡ 0 → n * (l + d + i) ≤ 1000000
few_cells n l d i h k m z =
    let x : l + d + i ≤ 455 = omega arith in
    let y : n * (l + d + i) ≤ 200 * 455 = mul-le-mul h x in
    omega (arith, y)

module _ (b : Body) (form : IsSecondBody b) where
  low : (p : ℕ) → p < length b.positions → IsLow p (given b p)
  low zero l = record { cells = tt; depth = omega arith }
  low (suc p) l =
      let x = there b.positions p (omega arith) in
      subst (λ (s : Shape). IsLow (suc p) s) (sym (given_next _ b form.regions form.positions p x.0 x.1 l)) (low_behind _ x.0.code p (given b p) (claimed_at _ b.positions p x.0 form.positions x.1).fits (low p (omega arith)))

  all_low : (n : ℕ) → n ≤ length b.positions → deepest (shapes b n) ≤ n
  all_low zero l = omega arith
  all_low (suc n) l =
      let ih = all_low n (omega arith) in
      let x = (low n (omega arith)).depth in
      deepest_last (shapes b n) (given b n) (suc n) (omega (arith, ih)) (omega (arith, x))

  next_pass : (p : ℕ) (s : Shape) → suc p < length b.positions → given b (suc p) ≡ s → length s.stack ≤ 255 → AllPass (edge_checks b s (suc p))
  next_pass p s l e d =
      rw e
      (le-leb _ _ l, (le-leb _ _ d, ((Decides-eqb (length s.stack) (length s.stack)).1 refl, (agree_itself s.stack, (same_itself s.live, tt)))))

  few : cells b ≤ 1000000
  few =
      let d = all_low (length b.positions) (omega arith) in
      few_cells (length b.positions) (length b.locals) (deepest (shapes b (length b.positions))) b.iters form.few form.locals
      (omega (arith, d, form.few)) form.iters

  last_pass : (t : Bool) → AllPass (cond t ((TooManyCells, nat_le (cells b) 1000000) ∷ []) [])
  last_pass true = (le-leb _ _ few, tt)
  last_pass false = tt

  on_edges : (p : ℕ) (q : Position) → slice_get b.positions p ≡ Some q → (t : Bool) → (t ≡ true → suc p < length b.positions)
      → AllPass (all_edge_checks b p (given b p) (next_edges t p))
  on_edges p q e true l =
      let h = given_next _ b form.regions form.positions p q e (l refl) in
      let k = low (suc p) (l refl) in
      let a : after b p (given b p) (Next (suc p)) ≡ behind q.code (given b p) = rw (code_is b p q e) refl in
      let d : length (behind q.code (given b p)).stack ≤ 255 =
      subst (λ (s : Shape). length s.stack ≤ 255) h (omega (arith, k.depth, l refl, form.few)) in
      rw a (pass_append (edge_checks b (behind q.code (given b p)) (suc p)) [] (next_pass p (behind q.code (given b p)) (l refl) h d) tt)
  on_edges p q e false l = tt

  pub goes_within : (p : ℕ) (q : Position) → slice_get b.positions p ≡ Some q → p < length b.positions → goes_on q.code ≡ true → suc p < length b.positions
  goes_within p q e l o = within (nat_lt (suc p) (length b.positions)) refl
    where
      within : (t : Bool) → nat_lt (suc p) (length b.positions) ≡ t → suc p < length b.positions
      within true h = ltb-true (suc p) (length b.positions) h
      within false h =
          let m : length b.positions ≤ suc p = ltb-false (suc p) (length b.positions) h in
          let k : suc p ≡ length b.positions = omega (arith, m, l) in
          let n = not_on q.code (is_last _ b.positions p q form.positions e k) in
          absurd (cc)

  -- the checks behind that of an underflow
  abbrev rest_checks : ℕ → List Check
  rest_checks p =
      (WrongFlavour, agree (pops_of (code_at b p)) (given b p).stack && all_cells (slots_read_of (code_at b p)) (given b p).stack)
      ∷ (iter_checks (iter_use_of (code_at b p)) (given b p).live ++ (all_edge_checks b p (given b p) (edges b p) ++ last_checks b p))

  rest_pass : (p : ℕ) (q : Position) → slice_get b.positions p ≡ Some q → p < length b.positions
      → AllPass (rest_checks p)
  rest_pass p q e l =
      let fits = (claimed_at _ b.positions p q form.positions e).fits in
      let a : (agree (pops_of (code_at b p)) (given b p).stack && all_cells (slots_read_of (code_at b p)) (given b p).stack) ≡ true =
      rw (code_is b p q e, no_reads _ q.code fits, agree_cells (pops q.code) (given b p).stack (pops_cells _ q.code fits) (low p l).cells) refl in
      let none : iter_use_of (code_at b p) ≡ None = rw (code_is b p q e) (no_iter _ q.code fits) in (
        a,
        pass_append (iter_checks (iter_use_of (code_at b p)) (given b p).live) (all_edge_checks b p (given b p) (edges b p) ++ last_checks b p)
            (subst (λ u. AllPass (iter_checks u (given b p).live)) (sym none) tt)
            (pass_append (all_edge_checks b p (given b p) (edges b p)) (last_checks b p)
            (subst (λ (es : List Edge). AllPass (all_edge_checks b p (given b p) es)) (sym (edges_at _ b form.regions form.positions p q e))
            (on_edges p q e (goes_on q.code) (goes_within p q e l)))
            (last_pass (suc p == length b.positions))),
      )

  -- a position passes where it finds what it takes
  pub decides : (p : ℕ) (q : Position) → slice_get b.positions p ≡ Some q → p < length b.positions
      → ((reaches q.asserts (length (given b p).stack) && nat_le (length (pops q.code)) (length (given b p).stack)) ≡ true) ↔ (fault_at b p ≡ None)
  decides p q e l =
      let h : (reaches (asserts_at b p) (length (given b p).stack)
      && (nat_le (length (pops_of (code_at b p))) (length (given b p).stack) && all_within (slots_read_of (code_at b p)) (length (given b p).stack)))
      ≡ (reaches q.asserts (length (given b p).stack) && nat_le (length (pops q.code)) (length (given b p).stack)) =
      rw (asserts_are b p q e, code_is b p q e, no_reads _ q.code (claimed_at _ b.positions p q form.positions e).fits)
      (drop_true (reaches q.asserts (length (given b p).stack)) (nat_le (length (pops q.code)) (length (given b p).stack))) in
      subst (λ t. (t ≡ true) ↔ (fault_at b p ≡ None)) h
      (first_decides _ Underflow (rest_checks p) (rest_pass p q e l))

  -- the stack behind a code
  pub stack_behind : (c : Code) (s : Shape) → length (behind c s).stack ≡ length (pushes c) + (length s.stack - length (pops c))
  stack_behind c s =
      let a = length-append (pushes c) (drop (length (pops c)) s.stack) in
      let d = length-drop (length (pops c)) s.stack in
      omega (arith, a, d)

  -- the positions from one on
  record From (p : ℕ) (ps : List Position) : Type 0 where
    pub same : (i : ℕ) → slice_get b.positions (p + i) ≡ slice_get ps i
    pub count : length b.positions ≡ p + length ps

  first_of : (p : ℕ) (x : Position) (ps : List Position) → From p (x ∷ ps) → slice_get b.positions p ≡ Some x
  first_of p x ps h = let e : p + 0 ≡ p = omega arith in subst (λ n. slice_get b.positions n ≡ Some x) e (h.same 0)

  tail_of : (p : ℕ) (x : Position) (ps : List Position) → From p (x ∷ ps) → From (suc p) ps
  tail_of p x ps h = record {
    same = λ i. let e : p + suc i ≡ suc p + i = omega arith in subst (λ n. slice_get b.positions n ≡ slice_get ps i) e (h.same (suc i));
    count = let c = h.count in omega (arith, c);
  }

  depth_next : (p : ℕ) (x y : Position) (ps : List Position) → From p (x ∷ y ∷ ps)
      → length (given b (suc p)).stack ≡ length (pushes x.code) + (length (given b p).stack - length (pops x.code))
  depth_next p x y ps h =
      let c = h.count in
      let e = first_of p x (y ∷ ps) h in
      let g = given_next _ b form.regions form.positions p x e (omega (arith, c)) in
      subst (λ (s : Shape). length s.stack ≡ length (pushes x.code) + (length (given b p).stack - length (pops x.code))) (sym g)
      (stack_behind x.code (given b p))

  from_walks : (p : ℕ) (ps : List Position) → From p ps → walks_asserted (length (given b p).stack) ps ≡ true
      → (i : ℕ) → i < length ps → fault_at b (p + i) ≡ None
  from_walks p [] h w i l = absurd (omega arith)
  from_walks p (x ∷ ps) h w zero l =
      let c = h.count in
      let e : p + 0 ≡ p = omega arith in
      subst (λ n. fault_at b n ≡ None) (sym e) ((decides p x (first_of p x ps h) (omega (arith, c))).0 (and_parts _ _ w).0)
  from_walks p (x ∷ []) h w (suc i) l = absurd (omega arith)
  from_walks p (x ∷ y ∷ ps) h w (suc i) l =
      let e : suc p + i ≡ p + suc i = omega arith in
      let k : walks_asserted (length (given b (suc p)).stack) (y ∷ ps) ≡ true =
      subst (λ d. walks_asserted d (y ∷ ps) ≡ true) (sym (depth_next p x y ps h)) (and_parts (reaches x.asserts (length (given b p).stack) && nat_le (length (pops x.code)) (length (given b p).stack)) _ w).1 in
      subst (λ n. fault_at b n ≡ None) e (from_walks (suc p) (y ∷ ps) (tail_of p x (y ∷ ps) h) k i (omega arith))

  found : (p : ℕ) (x : Position) (ps : List Position) → From p (x ∷ ps) → ((i : ℕ) → i < length (x ∷ ps) → fault_at b (p + i) ≡ None)
      → (reaches x.asserts (length (given b p).stack) && nat_le (length (pops x.code)) (length (given b p).stack)) ≡ true
  found p x ps h w =
      let c = h.count in
      let e : p + 0 ≡ p = omega arith in
      (decides p x (first_of p x ps h) (omega (arith, c))).1 (subst (λ n. fault_at b n ≡ None) e (w 0 (omega arith)))

  to_walks : (p : ℕ) (ps : List Position) → From p ps → ((i : ℕ) → i < length ps → fault_at b (p + i) ≡ None)
      → walks_asserted (length (given b p).stack) ps ≡ true
  to_walks p [] h w = refl
  to_walks p (x ∷ []) h w = and_from _ _ (found p x [] h w) refl
  to_walks p (x ∷ y ∷ ps) h w =
      let t = to_walks (suc p) (y ∷ ps) (tail_of p x (y ∷ ps) h)
      (λ i l. let e : p + suc i ≡ suc p + i = omega arith in subst (λ n. fault_at b n ≡ None) e (w (suc i) (omega arith))) in
      and_from _ _ (found p x (y ∷ ps) h w) (subst (λ d. walks_asserted d (y ∷ ps) ≡ true) (depth_next p x y ps h) t)

  whole : From 0 b.positions
  whole = record {
    same = λ i. let e : 0 + i ≡ i = omega arith in ap (λ n. slice_get b.positions n) e;
    count = omega arith;
  }

  some_positions : (ps : List Position) (count : ℕ) → FitClaimed count ps → ps ≢ []
  some_positions [] count h = absurd h
  some_positions (x ∷ ps) count h = λ e. cc

  is_it : (n : ℕ) (c : Body) → slice_get (b ∷ []) n ≡ Some c → b ≡ c
  is_it zero c e = cc
  is_it (suc n) c e = absurd (cc)

  types : walks_asserted 0 b.positions ≡ true → Types (only b)
  types w = record {
    has_positions = λ n c e. let k = is_it n c e in subst (λ (c : Body). c.positions ≢ []) k (some_positions b.positions _ form.positions);
    passes = λ n c e p l.
        let k = is_it n c e in
        let m : p < length b.positions = subst (λ (c : Body). p < length c.positions) (sym k) l in
        let z : 0 + p ≡ p = omega arith in
        subst (λ (c : Body). fault_at c p ≡ None) k (subst (λ n. fault_at b n ≡ None) z (from_walks 0 b.positions whole w p m));
  }

  typed : Types (only b) → walks_asserted 0 b.positions ≡ true
  typed t = to_walks 0 b.positions whole (λ i l. let z : i ≡ 0 + i = omega arith in subst (λ n. fault_at b n ≡ None) z (t.passes 0 b refl i l))

pub types_where_asserted_walks : TypesWhereAssertedWalks
types_where_asserted_walks r form =
    subst (λ (r : Linked). (walks_asserted 0 form.body.positions ≡ true) ↔ Types r) (sym (second_is r form))
    (types form.body form.second, typed form.body form.second)

-- the first form is the second one without claims
no_claims : (count : ℕ) (xs : List Assert) → xs ≡ [] → FitAsserts count xs
no_claims count xs e = subst (λ (ys : List Assert). FitAsserts count ys) (sym e) tt

claimed_one : (count : ℕ) (p : Position) → FitsPosition count p → FitsClaimed count p
claimed_one count p h = record { claims = no_claims count p.asserts h.bare; fits = h.fits }

claimed_from : (count : ℕ) (ps : List Position) → FitPositions count ps → FitClaimed count ps
claimed_from count [] h = absurd h
claimed_from count (p ∷ []) h = (claimed_one count p h.0, h.1)
claimed_from count (p ∷ q ∷ ps) h = (claimed_one count p h.0, h.1, claimed_from count (q ∷ ps) h.2)

none_stated : (o : Option HType) → o ≡ None → FitsStated o
none_stated o e = subst (λ (o : Option HType). FitsStated o) (sym e) tt

second_from : (b : Body) → IsFirstBody b → IsSecondBody b
second_from b h = record {
  name = h.name;
  params = h.params;
  iters = h.iters;
  stated = none_stated b.stated h.stated;
  regions = h.regions;
  differ = h.differ;
  locals = h.locals;
  few = h.few;
  positions = claimed_from (length b.locals) b.positions h.positions;
}

pub first_is_second : (r : Linked) → IsFirstForm r → IsSecondForm r
first_is_second r w = record { body = w.body; functions = w.functions; classes = w.classes; second = second_from w.body w.first }

same_walk : (count depth : ℕ) (ps : List Position) → FitPositions count ps → walks_asserted depth ps ≡ walks depth ps
same_walk count depth [] h = absurd h
same_walk count depth (p ∷ []) h = rw h.0.bare refl
same_walk count depth (p ∷ q ∷ ps) h =
    let here : (reaches p.asserts depth && nat_le (length (pops p.code)) depth) ≡ nat_le (length (pops p.code)) depth = rw h.0.bare refl in
    (λ i. here i && same_walk count (length (pushes p.code) + (depth - length (pops p.code))) (q ∷ ps) h.2 i)

pub types_where_it_walks : TypesWhereItWalks
types_where_it_walks r form =
    subst (λ (t : Bool). (t ≡ true) ↔ Types r) (same_walk _ 0 form.body.positions form.first.positions)
    (types_where_asserted_walks r (record { body = form.body; functions = form.functions; classes = form.classes; second = second_from form.body form.first }))
