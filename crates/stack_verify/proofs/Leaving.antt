-- What a position leaves is what it hands on along its edges.
use Rattle.std.proofs.Common.{◌≡◌, refl, sym, ◌∙◌, ap, Some, List, [], ◌∷◌}
use Rattle.hhbc_repo.specs.declared.code.Code.{Code}
use Rattle.hhbc_repo.specs.Edges.{Edge, Next, To, Handler, target}
use Rattle.hhbc_repo.specs.Shapes.{Shape, hands_on}
use Rattle.stack_verify.specs.declared.edges.Left.{Left}
use Rattle.stack_verify.specs.Left.{IsLeft, left_along}
use Rattle.stack_verify.specs.Walk.{Table, led, led_all, and_then}
use Rattle.stack_verify.proofs.Stopping.{then_same}

shape_same : (s t : Shape) → s.stack ≡ t.stack → s.live ≡ t.live → s ≡ t
shape_same s t e f = λ i. record { stack = e i; live = f i }

pub left_is : (c : Code) (s : Shape) (l : Left) → IsLeft c s l → (e : Edge) → hands_on (Some c) s e ≡ left_along l s e
left_is c s l h (Next q) = shape_same _ _ (sym h.stack) (sym h.next)
left_is c s l h (To q) = shape_same _ _ (sym h.stack) (sym h.label)
left_is c s l h (Handler q) = refl

pub led_alike : (f g : Edge → Shape) (es : List Edge) (T : Table) → ((e : Edge) → f e ≡ g e) → led_all f es T ≡ led_all g es T
led_alike f g [] T h = refl
led_alike f g (e ∷ es) T h =
    ap (λ s. and_then (led T s (target e)) (led_all f es)) (h e)
    ∙ then_same (led T (g e) (target e)) (led_all f es) (led_all g es) (λ U. led_alike f g es U h)
