-- The names of what each class declares, numbered from a first number on.
use Rattle.std.specs.Prelude.{ℕ, List}

pub record MemberNames : Type 0 where
  pub first : ℕ
  pub names : List (List (List ℕ))
