-- A body within its repository.
use Rattle.std.specs.Prelude.{List}
use Rattle.hhbc_repo.specs.declared.body.Body.{Body}
use Rattle.hhbc_repo.specs.LinkFaults.{Name}

-- a body, and the names of all classes
pub record Within : Type 0 where
  pub classes : List Name
  pub body : Body
