-- Steps one after the other, which stop at the first that fails.
use Rattle.std.proofs.Common.{◌≡◌, refl, ◌∙◌, Option, Result, Ok, Err, List, ◌++◌}
use Rattle.hhbc_repo.specs.Shapes.{ShapeKind, Check, first_fault}
use Rattle.stack_verify.specs.declared.shape.Stop.{Stop}
use Rattle.stack_verify.specs.declared.shape.Stop.TheVariants.{Fails, NoMemory}
use Rattle.stack_verify.specs.Kept.{kind_of}
use Rattle.stack_verify.specs.Walk.{and_then, StopsAs}
use Rattle.stack_verify.proofs.Following.{first_fails}

pub then_same : {V W : Type 0} (w : Result V ShapeKind) (f g : V → Result W ShapeKind) → ((v : V) → f v ≡ g v) → and_then w f ≡ and_then w g
then_same (Ok v) f g h = h v
then_same (Err k) f g h = refl

-- checks of which the first ones fail
pub front_stops : (xs ys : List Check) (stop : Stop) → StopsAs (first_fault xs) stop → StopsAs (first_fault (xs ++ ys)) stop
front_stops xs ys (Fails k) h = first_fails xs ys (kind_of k) h
front_stops xs ys NoMemory h = tt

pub as_same : (o p : Option ShapeKind) (stop : Stop) → o ≡ p → StopsAs p stop → StopsAs o stop
as_same o p (Fails k) e h = e ∙ h
as_same o p NoMemory e h = tt
