-- What opens the bodies within a body.
use Rattle.std.specs.Prelude.{ℕ, List, [], ◌∷◌, codes}
use Rattle.hhas_lex.specs.Tokens.{Directive, Mark}
use Rattle.hhbc_repo.specs.Languages.{Lang, Says}

-- a directive, and a brace
abbrev pub Opening : List ℕ → Lang (Unit {0})
Opening name = Says (Directive name ∷ Mark 123 ∷ []) tt

-- the end of a try body, and the opening of its catch body
abbrev pub CatchOpening : Lang (Unit {0})
CatchOpening = Says (Mark 125 ∷ Directive (codes "catch") ∷ Mark 123 ∷ []) tt
