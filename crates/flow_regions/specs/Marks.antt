-- Positions that are marked.
use Rattle.std.specs.Prelude.{ℕ, suc, Bool, true, false, List, [], ◌∷◌, map, Option, Some, None, slice_get, slice_set, if◌then◌else◌}
use Rattle.hhbc_repo.specs.Bodies.{numbers}
use Rattle.hhbc_repo.specs.Edges.{Edge, Next, To, Handler}
use Rattle.flow_regions.specs.BlockStarts.{ends_block}

-- of so many positions those are marked that pass a test
abbrev pub marked_by : (ℕ → Bool) → ℕ → List Bool
marked_by f n = map f (numbers 0 n)

abbrev pub is_set : Option Bool → Bool
is_set None = false
is_set (Some b) = b

abbrev pub has_mark : List Bool → ℕ → Bool
has_mark marks q = is_set (slice_get marks q)

-- with the targets of edges to labels and handlers
abbrev pub jumped : List Bool → List Edge → List Bool
jumped marks [] = marks
jumped marks (Next q ∷ es) = jumped marks es
jumped marks (To q ∷ es) = jumped (slice_set marks q true) es
jumped marks (Handler q ∷ es) = jumped (slice_set marks q true) es

-- with what a position with these edges lets begin
abbrev pub begun : List Bool → List Edge → ℕ → List Bool
begun marks es p = if ends_block es then slice_set (jumped marks es) (suc p) true else jumped marks es
