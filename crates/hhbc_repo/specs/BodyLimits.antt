-- Bodies that are no larger than they may be.
use Rattle.std.specs.Prelude.{◌≤◌, length}
use Rattle.hhbc_repo.specs.declared.parts.BodyParts.{BodyParts}
use Rattle.hhbc_repo.specs.LinkFaults.{locals_of, positions_of}

pub record InLimits (b : BodyParts) : Type 0 where
  pub locals : length (locals_of b) ≤ 255
  pub iters : b.iters ≤ 32
  pub positions : length (positions_of b) ≤ 65535
