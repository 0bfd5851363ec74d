-- What it means that a repository is verified, or is not.
use Rattle.std.specs.Prelude.{◌≡◌, ◌<◌, ℕ, List, map, Some}
use Rattle.hhbc_repo.specs.declared.body.Body.{Body}
use Rattle.hhbc_repo.specs.Linked.{Linked}
use Rattle.hhbc_repo.specs.Bodies.{bodies, body_at}
use Rattle.hhbc_repo.specs.Shapes.{Types, IsFirstFault}
use Rattle.stack_verify.specs.declared.shape.Shape.{Shape as KeptShape}
use Rattle.stack_verify.specs.declared.shape.VerifyFault.{VerifyFault}
use Rattle.stack_verify.specs.declared.shape.VerifyFault.TheVariants as faults
use Rattle.stack_verify.specs.declared.shape.RepoStop.{RepoStop}
use Rattle.stack_verify.specs.declared.shape.RepoStop.TheVariants as stops
use Rattle.stack_verify.specs.declared.walk.BodyStop.{BodyStop}
use Rattle.stack_verify.specs.declared.walk.BodyStop.TheVariants as body_stops
use Rattle.stack_verify.specs.Kept.{kind_of}
use Rattle.stack_verify.specs.Walk.{BodyTypes, kept_of}

-- the repository types, and these are the shapes of the positions of each body
pub record IsTyped (r : Linked) (shapes : List (List KeptShape)) : Type 0 where
  pub types : Types r
  pub given : shapes ≡ map kept_of (bodies r)

-- the first n bodies type
abbrev pub FirstType : Linked → ℕ → Type 0
FirstType r n = (m : ℕ) (b : Body) → m < n → body_at r m ≡ Some b → BodyTypes b

-- the first fault of the repository is told, or there was no memory
abbrev pub StopsRepo : Linked → RepoStop → Type 0
StopsRepo r (stops.Fails f) = IsFirstFault r f.body f.position (kind_of f.kind)
StopsRepo r stops.NoMemory = Unit {0}

-- where a walk over a repository stops that stops in this body
abbrev pub stopped_in : ℕ → BodyStop → RepoStop
stopped_in n (body_stops.Fails p kind) = stops.Fails (record { body = n; position = p; kind = kind })
stopped_in n body_stops.NoMemory = stops.NoMemory

-- the repository is handed back with its first fault, or there was no memory
abbrev pub IsRefused : Linked → VerifyFault → Type 0
IsRefused r (faults.Shape f back) = (back ≡ r) × IsFirstFault r f.body f.position (kind_of f.kind)
IsRefused r faults.NoMemory = Unit {0}
