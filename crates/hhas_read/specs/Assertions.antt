-- What assertions are made of, and whether one is next.
use Rattle.std.specs.Prelude.{◌≡◌, ◌⊎◌, ℕ, Bool, true, false, List, codes}
use Rattle.hhas_lex.specs.Tokens.{Word}
use Rattle.hhbc_repo.specs.declared.parts.AssertParts.{AssertParts}
use Rattle.hhbc_repo.specs.declared.parts.AssertParts.TheVariants as claims
use Rattle.hhbc_repo.specs.declared.parts.TypeParts.{TypeParts}
use Rattle.hhbc_repo.specs.Languages.{Lang, Both, Means}
use Rattle.hhbc_repo.specs.CodeSyntax.{ALocal, AnIndex}
use Rattle.hhbc_repo.specs.TypeSyntax.{AType}
use Rattle.hhas_read.specs.Reading.{Placed, next}

abbrev pub of_local : List ℕ × TypeParts → AssertParts
of_local p = claims.Local p.0 p.1

abbrev pub of_stack : ℕ × TypeParts → AssertParts
of_stack p = claims.Stack p.0 p.1

-- what stands behind the word of each
abbrev pub LocalAssertion : Lang AssertParts
LocalAssertion = Means of_local (Both ALocal AType)

abbrev pub StackAssertion : Lang AssertParts
StackAssertion = Means of_stack (Both AnIndex AType)

-- whether the next token is the word of an assertion
abbrev pub IsAssertionNext : Placed → Bool → Type 0
IsAssertionNext p true = (next p ≡ Word (codes "AssertRATL")) ⊎ (next p ≡ Word (codes "AssertRATStk"))
IsAssertionNext p false = (next p ≡ Word (codes "AssertRATL") → ⊥) × (next p ≡ Word (codes "AssertRATStk") → ⊥)
