-- The edges of positions, and the handler of each.
use Rattle.std.specs.Prelude.{ℕ, List, [], ◌++◌, map, length, Option, Some, None}
use Rattle.hhbc_repo.specs.declared.code.Code.{Code}
use Rattle.hhbc_repo.specs.declared.body.Body.{Body}
use Rattle.hhbc_repo.specs.Linked.{Linked}
use Rattle.hhbc_repo.specs.Bodies.{body_at, numbers}
use Rattle.hhbc_repo.specs.Codes.{throws, goes_on, labels}
use Rattle.hhbc_repo.specs.Edges.{Edge, Next, To, Handler, next_edges, handler_edges, handler_of, edges}
use Rattle.flow_regions.specs.declared.edge.Edge.{Edge as Kept}
use Rattle.flow_regions.specs.declared.edge.Edge.TheVariants as kept

-- the edge that the program keeps
abbrev pub edge_of : Kept → Edge
edge_of (kept.Next q) = Next q
edge_of (kept.To q) = To q
edge_of (kept.Handler q) = Handler q

abbrev pub told : List Kept → List Edge
told es = map edge_of es

-- the edges of a code at a position, of which the handler is known
abbrev pub edges_from : Code → ℕ → Option ℕ → List Edge
edges_from c p handler = next_edges (goes_on c) p ++ map (λ q. To q) (labels c) ++ handler_edges (throws c) handler

abbrev pub edges_in : Option Body → ℕ → List Edge
edges_in None p = []
edges_in (Some b) p = edges b p

-- the edges of a position of a body, by their numbers
abbrev pub edges_at : Linked → ℕ → ℕ → List Edge
edges_at r n p = edges_in (body_at r n) p

abbrev pub count_in : Option Body → ℕ
count_in None = 0
count_in (Some b) = length b.positions

-- how many positions the body of this number has
abbrev pub position_count : Linked → ℕ → ℕ
position_count r n = count_in (body_at r n)

-- the handler of each position, in order
abbrev pub all_handlers : Body → List (Option ℕ)
all_handlers b = map (handler_of b) (numbers 0 (length b.positions))
