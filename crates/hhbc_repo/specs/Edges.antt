-- Where a position leads.
use Rattle.std.specs.Prelude.{ℕ, suc, Bool, true, false, ◌&&◌, nat_le, nat_lt, List, [], ◌∷◌, ◌++◌, map, Option, Some, None, if◌then◌else◌}
use Rattle.hhbc_repo.specs.declared.code.Code.{Code}
use Rattle.hhbc_repo.specs.declared.body.Body.{Body}
use Rattle.hhbc_repo.specs.declared.body.Region.{Region}
use Rattle.hhbc_repo.specs.Bodies.{code_at}
use Rattle.hhbc_repo.specs.Codes.{throws, goes_on, labels}

-- to the position behind, to a label, to a catch body
pub data Edge : Type 0 where
  Next : ℕ → Edge
  To : ℕ → Edge
  Handler : ℕ → Edge

abbrev pub target : Edge → ℕ
target (Next q) = q
target (To q) = q
target (Handler q) = q

-- the try body of the region holds the position
abbrev pub guards : Region → ℕ → Bool
guards g p = nat_le g.first p && nat_lt p g.mid

-- the inner one of two regions that hold a position, which ends its try body first
abbrev pub inner : Region → Option Region → Region
inner g None = g
inner g (Some h) = if nat_le g.mid h.mid then g else h

-- the innermost region whose try body holds the position
abbrev pub innermost : List Region → ℕ → Option Region
innermost [] p = None
innermost (g ∷ gs) p = if guards g p then Some (inner g (innermost gs p)) else innermost gs p

abbrev pub catch_of : Option Region → Option ℕ
catch_of None = None
catch_of (Some g) = Some g.mid

-- the catch body that an exception raised at the position goes to
abbrev pub handler_of : Body → ℕ → Option ℕ
handler_of b p = catch_of (innermost b.regions p)

abbrev pub next_edges : Bool → ℕ → List Edge
next_edges true p = Next (suc p) ∷ []
next_edges false p = []

abbrev pub handler_edges : Bool → Option ℕ → List Edge
handler_edges false o = []
handler_edges true None = []
handler_edges true (Some q) = Handler q ∷ []

abbrev pub edges_of : Option Code → Body → ℕ → List Edge
edges_of None b p = []
edges_of (Some c) b p = next_edges (goes_on c) p ++ map (λ q. To q) (labels c) ++ handler_edges (throws c) (handler_of b p)

-- the edges of a position, in order
abbrev pub edges : Body → ℕ → List Edge
edges b p = edges_of (code_at b p) b p
