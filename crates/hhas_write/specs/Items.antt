-- Items that are written one after the other.
use Rattle.std.specs.Prelude.{◌≡◌, ℕ, List, [], ◌∷◌, ◌++◌, codes}
use Rattle.hhas_lex.specs.Spaced.{text_of}
use Rattle.hhas_lex.specs.Tokens.{Directive, Mark}
use Rattle.hhbc_repo.specs.declared.parts.ItemParts.{ItemParts}
use Rattle.hhbc_repo.specs.CanonicalText.{line, spaced, item_pieces}

abbrev pub catch_text : ℕ → List ℕ
catch_text depth = text_of (line depth (Mark 125) ∷ spaced (Directive (codes "catch")) ∷ spaced (Mark 123) ∷ [])

abbrev pub try_text : ℕ → List ℕ
try_text depth = text_of (line depth (Directive (codes "try")) ∷ spaced (Mark 123) ∷ [])

-- the items, whatever follows them, lead from a text within so many braces to another
pub record Writes (done : List ItemParts) (old : List ℕ) (depth : ℕ) (new : List ℕ) (inner : ℕ) : Type 0 where
  pub leads : (more : List ItemParts) → old ++ text_of (item_pieces depth (done ++ more)) ≡ new ++ text_of (item_pieces inner more)
