-- What a text spells fits.
use Rattle.std.proofs.Common.{◌≡◌, ℕ, ap, ap₂, ◌∙◌, true, List, [], ◌∷◌, ◌++◌}
use Rattle.std.specs.List.{list_all}
use Rattle.hhas_lex.specs.Spelling.{is_proper}
use Rattle.hhas_lex.specs.Tokens.{Token, End, tokens}
use Rattle.hhbc_repo.specs.Fits.{parts_fit}
use Rattle.hhbc_repo.specs.Languages.{Many}
use Rattle.hhbc_repo.specs.LinkFaults.{Whole}
use Rattle.hhbc_repo.specs.TextSyntax.{ADeclaration, Declaration, Spells, classes_of, functions_of}
use Rattle.hhas_read.proofs.DeclaredLaws.{profile_tokens}
use Rattle.hhas_read.proofs.Endings.{parted}

pub spelled_fits : ((ts : List Token) (ds : List Declaration) → list_all is_proper ts ≡ true → Many ADeclaration ts ds → parts_fit (functions_of ds) (classes_of ds) ≡ true)
    → (bytes : List ℕ) (w : Whole) → Spells bytes w → parts_fit w.functions w.classes ≡ true
spelled_fits law bytes w k =
    let e = k.word.word in
    let are : tokens bytes ≡ (profile_tokens ++ e.first) ++ End ∷ [] = k.word.tokens ∙ ap (λ l. profile_tokens ++ l) e.tokens in
    let proper : list_all is_proper e.first ≡ true = (parted bytes (profile_tokens ++ e.first) [] End are).proper in
    ap₂ parts_fit k.functions k.classes ∙ law e.first k.declared proper e.word
