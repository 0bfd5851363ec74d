-- What the arms of switches are made of.
use Rattle.std.specs.Prelude.{ℕ, List, [], ◌∷◌}
use Rattle.hhas_lex.specs.Tokens.{Mark}
use Rattle.hhbc_repo.specs.declared.parts.ArmParts.{ArmParts}
use Rattle.hhbc_repo.specs.Languages.{Lang, Behind, Ended}
use Rattle.hhbc_repo.specs.CodeSyntax.{ALabel, Arms, StringArms}

-- arms without strings, and the mark at their end
abbrev pub ArmsToEnd : Lang (List ArmParts)
ArmsToEnd = Ended Arms (Mark 62 ∷ [])

-- arms with strings, and the mark at their end
abbrev pub StringArmsToEnd : Lang (List ArmParts)
StringArmsToEnd = Ended StringArms (Mark 62 ∷ [])

-- a colon, a label and the mark behind it
abbrev pub TargetTo : ℕ → Lang (List ℕ)
TargetTo end = Behind (Mark 58 ∷ []) (Ended ALabel (Mark end ∷ []))
