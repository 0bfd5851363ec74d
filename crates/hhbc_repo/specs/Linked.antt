-- A repository as data.
use Rattle.std.specs.Prelude.{List}
use Rattle.hhbc_repo.specs.declared.body.Body.{Body}
use Rattle.hhbc_repo.specs.declared.repo.Class.{Class}

-- functions and classes, each in the order of their declarations
pub record Linked : Type 0 where
  pub functions : List Body
  pub classes : List Class
