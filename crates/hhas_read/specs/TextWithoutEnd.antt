-- A text without its end, and what follows it.
use Rattle.std.specs.Prelude.{◌≡◌, true, false, List, [], ◌∷◌, codes, pos}
use Rattle.hhas_lex.specs.Tokens.{Token, Directive, Integer, Mark, End}
use Rattle.hhbc_repo.specs.Languages.{Behind, Many}
use Rattle.hhbc_repo.specs.LinkFaults.{Whole}
use Rattle.hhbc_repo.specs.TextSyntax.{Declaration, ADeclaration, functions_of, classes_of}
use Rattle.hhas_read.specs.Reading.{Follow}

-- a text without its end
pub record DeclaredText (ts : List Token) (w : Whole) : Type 0 where
  pub declared : List Declaration
  pub word : Behind (Directive (codes "profile") ∷ Integer (pos 1) ∷ Mark 59 ∷ []) (Many ADeclaration) ts declared
  pub functions : w.functions ≡ functions_of declared
  pub classes : w.classes ≡ classes_of declared

-- the end of the text follows
abbrev pub is_end : Follow
is_end End = true
is_end t = false
