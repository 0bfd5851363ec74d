-- Where the blocks of a body begin.
use Rattle.std.specs.Prelude.{ℕ, suc, Bool, true, false, ◌&&◌, ◌||◌, not, ◌==◌, List, [], length, Option, Some, None}
use Rattle.std.specs.List.{list_any, filter}
use Rattle.hhbc_repo.specs.declared.body.Body.{Body}
use Rattle.hhbc_repo.specs.Linked.{Linked}
use Rattle.hhbc_repo.specs.Bodies.{body_at, numbers}
use Rattle.hhbc_repo.specs.Edges.{Edge, Next, To, Handler, edges}

-- an edge to a label or a handler
abbrev pub is_jump : Edge → Bool
is_jump (Next q) = false
is_jump (To q) = true
is_jump (Handler q) = true

abbrev pub jumps_to : ℕ → Edge → Bool
jumps_to q (Next p) = false
jumps_to q (To p) = p == q
jumps_to q (Handler p) = p == q

abbrev pub is_next : Edge → Bool
is_next (Next q) = true
is_next (To q) = false
is_next (Handler q) = false

-- a block ends at a position with these edges: one of them is no next, or there is no next
abbrev pub ends_block : List Edge → Bool
ends_block es = list_any is_jump es || not (list_any is_next es)

-- a position p with these edges lets a block begin at q: it jumps there, or q is behind it and it ends a block
abbrev pub lets_begin : List Edge → ℕ → ℕ → Bool
lets_begin es p q = list_any (jumps_to q) es || (ends_block es && (suc p == q))

-- one of the positions lets a block begin at q
abbrev pub one_lets : Body → List ℕ → ℕ → Bool
one_lets b ps q = list_any (λ p. lets_begin (edges b p) p q) ps

-- a block begins at position 0 and where some position lets one begin
abbrev pub begins_block : Body → ℕ → Bool
begins_block b q = (0 == q) || one_lets b (numbers 0 (length b.positions)) q

-- the positions at which blocks begin, ascending, each once
abbrev pub starts : Body → List ℕ
starts b = filter (begins_block b) (numbers 0 (length b.positions))

abbrev pub starts_in : Option Body → List ℕ
starts_in None = []
starts_in (Some b) = starts b

abbrev pub starts_at : Linked → ℕ → List ℕ
starts_at r n = starts_in (body_at r n)
