-- Repositories that the program takes: some text spells them, and they keep to their shapes.
use Rattle.std.specs.Prelude.{◌≡◌, ◌≤◌, ℕ, true, Some, length}
use Rattle.std.specs.List.{list_all}
use Rattle.hhbc_repo.specs.declared.code.Code.{Code}
use Rattle.hhbc_repo.specs.declared.body.Body.{Body}
use Rattle.hhbc_repo.specs.Linked.{Linked}
use Rattle.hhbc_repo.specs.Bare.{bare}
use Rattle.hhbc_repo.specs.Bodies.{class_names, body_at, code_at, asserts_at}
use Rattle.hhbc_repo.specs.Shapes.{Types}
use Rattle.hhbc_repo.specs.Spelled.{HasSpelling}
use Rattle.hhbc_repo.specs.Within.{bounds_of, code_within, assert_within}

pub record Accepted (r : Linked) : Type 0 where
  pub spelling : HasSpelling r
  pub types : Types r

-- it is so without its claims
abbrev pub BareIsAccepted : Type 0
BareIsAccepted = (r : Linked) → Accepted r → Accepted (bare r)

-- each body has its parameters among its locals, each code the operands that it takes, within what the body and the repository have, and each
-- assertion its local and a proper type
pub record HasOperands (r : Linked) : Type 0 where
  pub params : (n : ℕ) (b : Body) → body_at r n ≡ Some b → b.params ≤ length b.locals
  pub codes : (n : ℕ) (b : Body) → body_at r n ≡ Some b → (p : ℕ) (c : Code) → code_at b p ≡ Some c
      → code_within (bounds_of (length (class_names r)) b) c ≡ true
  pub claims : (n : ℕ) (b : Body) → body_at r n ≡ Some b → (p : ℕ)
      → list_all (assert_within (bounds_of (length (class_names r)) b)) (asserts_at b p) ≡ true

abbrev pub AcceptedHasOperands : Type 0
AcceptedHasOperands = (r : Linked) → Accepted r → HasOperands r
