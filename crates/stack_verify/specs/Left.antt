-- What a position leaves behind its code, as the program keeps it, and what it hands on from that.
use Rattle.std.specs.Prelude.{◌≡◌, [], ◌∷◌}
use Rattle.hhbc_repo.specs.declared.code.Code.{Code}
use Rattle.hhbc_repo.specs.Codes.{C, iter_use}
use Rattle.hhbc_repo.specs.Edges.{Edge, Next, To, Handler}
use Rattle.hhbc_repo.specs.Shapes.{Shape, stack_left, live_next, live_to}
use Rattle.stack_verify.specs.declared.edges.Left.{Left}

-- this is what a position with this code and shape leaves
pub record IsLeft (c : Code) (s : Shape) (l : Left) : Type 0 where
  pub stack : l.stack.items ≡ stack_left c s.stack
  pub next : l.next.items ≡ live_next (iter_use c) s.live
  pub label : l.label.items ≡ live_to (iter_use c) s.live

-- what is handed on along an edge
abbrev pub left_along : Left → Shape → Edge → Shape
left_along l s (Next q) = record { stack = l.stack.items; live = l.next.items }
left_along l s (To q) = record { stack = l.stack.items; live = l.label.items }
left_along l s (Handler q) = record { stack = C ∷ []; live = s.live }
