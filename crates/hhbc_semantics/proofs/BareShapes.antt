-- A repository that the program takes is one without its claims too.
use Rattle.std.proofs.Common.{◌≡◌, ◌≢◌, ◌<◌, ℕ, suc, ◌+◌, ◌*◌, refl, sym, ◌∙◌, ap, subst, Bool, true, false, ◌&&◌, ◌==◌, nat_le, nat_lt, cond, Option, Some, None, List, [], ◌∷◌, ◌++◌, map, length}
use Rattle.std.proofs.lemmas.Bool.{and_from, and_parts}
use Rattle.std.proofs.lemmas.List.{length-map}
use Rattle.hhbc_repo.specs.declared.code.Code.{Code}
use Rattle.hhbc_repo.specs.declared.body.Body.{Body}
use Rattle.hhbc_repo.specs.declared.body.Position.{Position}
use Rattle.hhbc_repo.specs.Shapes as faults
use Rattle.hhbc_repo.specs.Linked.{Linked}
use Rattle.hhbc_repo.specs.Bodies.{code_at, asserts_at}
use Rattle.hhbc_repo.specs.Bare.{bare, bare_body, bare_position}
use Rattle.hhbc_repo.specs.Edges.{Edge, target, edges}
use Rattle.hhbc_repo.specs.Shapes.{Shape, ShapeKind, Check, Types, given, shapes, deepest, cells, after, agree, same_live, reaches, pops_of, slots_read_of, iter_use_of, all_within, all_cells, iter_checks, edge_checks, all_edge_checks, last_checks, checks, first_fault, fault_at}
use Rattle.hhbc_repo.proofs.ClaimsKept.{bare_spelled}
use Rattle.hhbc_semantics.specs.Accepted.{BareIsAccepted}
use Rattle.hhbc_semantics.proofs.ShapeTables.{code_bare, edges_bare, after_bare, shapes_bare, given_bare, asserts_bare, body_bare}

-- the checks of an edge, by how many positions there are and by the shape of its target
abbrev edge_list : ℕ → Shape → ℕ → Shape → List Check
edge_list n s q t =
    (faults.FallsOff, nat_lt q n)
    ∷ (faults.StackTooDeep, nat_le (length s.stack) 255)
    ∷ (faults.DepthMismatch, length s.stack == length t.stack)
    ∷ (faults.WrongFlavour, agree s.stack t.stack)
    ∷ (faults.IteratorMismatch, same_live s.live t.live)
    ∷ []

module _ (b : Body) where
  same_count : length (map bare_position b.positions) ≡ length b.positions
  same_count = length-map b.positions bare_position

  edge_same : (s : Shape) (q : ℕ) → edge_checks (bare_body b) s q ≡ edge_checks b s q
  edge_same s q = ap (λ n. edge_list n s q (given (bare_body b) q)) same_count ∙ ap (λ t. edge_list (length b.positions) s q t) (given_bare b q)

  edges_same : (p : ℕ) (s : Shape) (es : List Edge) → all_edge_checks (bare_body b) p s es ≡ all_edge_checks b p s es
  edges_same p s [] = refl
  edges_same p s (e ∷ es) =
      ap (λ t. edge_checks (bare_body b) t (target e) ++ all_edge_checks (bare_body b) p s es) (after_bare b p s e)
      ∙ ap (λ cs. cs ++ all_edge_checks (bare_body b) p s es) (edge_same (after b p s e) (target e))
      ∙ ap (λ cs. edge_checks b (after b p s e) (target e) ++ cs) (edges_same p s es)

  abbrev cells_by : ℕ → List Shape → ℕ
  cells_by n ss = n * (length b.locals + deepest ss + b.iters)

  cells_same : cells (bare_body b) ≡ cells b
  cells_same =
      ap (λ n. cells_by n (shapes (bare_body b) n)) same_count
      ∙ ap (λ ss. cells_by (length b.positions) ss) (shapes_bare b (length b.positions))

  last_same : (p : ℕ) → last_checks (bare_body b) p ≡ last_checks b p
  last_same p =
      ap (λ n. cond (suc p == n) ((faults.TooManyCells, nat_le (cells (bare_body b)) 1000000) ∷ []) []) same_count
      ∙ ap (λ n. cond (suc p == length b.positions) ((faults.TooManyCells, nat_le n 1000000) ∷ []) []) cells_same

  -- the code finds its slots
  abbrev finds : Option Code → Shape → Bool
  finds o s = nat_le (length (pops_of o)) (length s.stack) && all_within (slots_read_of o) (length s.stack)

  -- the checks behind the first
  abbrev rest : Option Code → Shape → List Check → List Check → List Check
  rest o s on last =
      (faults.WrongFlavour, agree (pops_of o) s.stack && all_cells (slots_read_of o) s.stack) ∷ (iter_checks (iter_use_of o) s.live ++ (on ++ last))

  abbrev rest_at : ℕ → List Check
  rest_at p = rest (code_at b p) (given b p) (all_edge_checks b p (given b p) (edges b p)) (last_checks b p)

  finds_same : (p : ℕ) → finds (code_at (bare_body b) p) (given (bare_body b) p) ≡ finds (code_at b p) (given b p)
  finds_same p = ap (λ o. finds o (given (bare_body b) p)) (code_bare b p) ∙ ap (λ s. finds (code_at b p) s) (given_bare b p)

  rest_same : (p : ℕ)
      → rest (code_at (bare_body b) p) (given (bare_body b) p) (all_edge_checks (bare_body b) p (given (bare_body b) p) (edges (bare_body b) p)) (last_checks (bare_body b) p)
      ≡ rest_at p
  rest_same p =
      ap (λ o. rest o (given (bare_body b) p) (all_edge_checks (bare_body b) p (given (bare_body b) p) (edges (bare_body b) p)) (last_checks (bare_body b) p)) (code_bare b p)
      ∙ ap (λ s. rest (code_at b p) s (all_edge_checks (bare_body b) p s (edges (bare_body b) p)) (last_checks (bare_body b) p)) (given_bare b p)
      ∙ ap (λ es. rest (code_at b p) (given b p) (all_edge_checks (bare_body b) p (given b p) es) (last_checks (bare_body b) p)) (edges_bare b p)
      ∙ ap (λ on. rest (code_at b p) (given b p) on (last_checks (bare_body b) p)) (edges_same p (given b p) (edges b p))
      ∙ ap (λ last. rest (code_at b p) (given b p) (all_edge_checks b p (given b p) (edges b p)) last) (last_same p)

  first_passes : (t : Bool) (o : Option ShapeKind) → cond t o (Some faults.Underflow) ≡ None → (t ≡ true) × (o ≡ None)
  first_passes true o e = (refl, e)
  first_passes false o e = absurd (cc)

  no_fault_bare : (p : ℕ) → fault_at b p ≡ None → fault_at (bare_body b) p ≡ None
  no_fault_bare p e =
      let x = first_passes (reaches (asserts_at b p) (length (given b p).stack) && finds (code_at b p) (given b p)) (first_fault (rest_at p)) e in
      let found = finds_same p ∙ (and_parts (reaches (asserts_at b p) (length (given b p).stack)) (finds (code_at b p) (given b p)) x.0).1 in
      let first = and_from (reaches (asserts_at (bare_body b) p) (length (given (bare_body b) p).stack)) (finds (code_at (bare_body b) p) (given (bare_body b) p)) (asserts_bare b p) found in
      ap (λ t. cond t (first_fault (rest (code_at (bare_body b) p) (given (bare_body b) p) (all_edge_checks (bare_body b) p (given (bare_body b) p) (edges (bare_body b) p)) (last_checks (bare_body b) p))) (Some faults.Underflow)) first
      ∙ ap (λ cs. first_fault cs) (rest_same p) ∙ x.1

some_left : (ps : List Position) → ps ≢ [] → map bare_position ps ≢ []
some_left [] h e = h refl
some_left (p ∷ ps) h e = cc

pub bare_types : (r : Linked) → Types r → Types (bare r)
bare_types r h = record {
  has_positions = λ n b is.
      let x = body_bare r n b is in
      subst (λ (b : Body). b.positions ≢ []) x.2 (some_left x.0.positions (h.has_positions n x.0 x.1));
  passes = λ n b is p l.
      let x = body_bare r n b is in
      let k : p < length x.0.positions = subst (λ m. p < m) (same_count x.0) (subst (λ (b : Body). p < length b.positions) (sym x.2) l) in
      subst (λ b. fault_at b p ≡ None) x.2 (no_fault_bare x.0 p (h.passes n x.0 x.1 p k));
}

pub bare_is_accepted : BareIsAccepted
bare_is_accepted r h = record { spelling = bare_spelled r h.spelling; types = bare_types r h.types }
