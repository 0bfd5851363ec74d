-- The word of a kind of cells.
use Rattle.std.specs.Prelude.{◌≡◌, [], ◌∷◌}
use Rattle.hhas_lex.specs.Tokens.{Word}
use Rattle.hhbc_ops.specs.declared.words.IsTypeOp.{IsTypeOp}
use Rattle.hhbc_ops.specs.Words.{is_type_name}
use Rattle.hhbc_repo.specs.Languages.{Lang}

abbrev pub AnIsType : Lang IsTypeOp
AnIsType ts op = ts ≡ Word (is_type_name op) ∷ []
