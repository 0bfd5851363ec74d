-- What may follow operands, by their kinds.
use Rattle.std.specs.Prelude.{Bool, true, false, List, [], ◌∷◌}
use Rattle.hhbc_ops.specs.declared.words.ImmKind.{ImmKind}
use Rattle.hhbc_ops.specs.declared.words.ImmKind.TheVariants as kinds
use Rattle.hhas_read.specs.Reading.{Follow, any}
use Rattle.hhas_read.specs.Written.{ends_type}

-- what may follow an operand
abbrev pub after : ImmKind → Follow
after kinds.Constraint = ends_type
after _ = any

-- a constraint is no operand but the last
abbrev pub constraint_last : List ImmKind → Bool
constraint_last [] = true
constraint_last (k ∷ []) = true
constraint_last (kinds.Constraint ∷ k ∷ ks) = false
constraint_last (_ ∷ k ∷ ks) = constraint_last (k ∷ ks)
