-- The tokens of a type that fits stand in the canonical text with the white space that tells them apart.
use Rattle.std.proofs.Common.{◌≡◌, true, List, [], ◌∷◌, map, refl, ap, subst}
use Rattle.std.proofs.lemmas.Bool.{and_from, and_parts}
use Rattle.std.proofs.lemmas.List.{append-nil}
use Rattle.hhas_lex.specs.Spaced.{Spaced}
use Rattle.hhas_lex.specs.Spelling.{is_proper}
use Rattle.hhas_lex.specs.Tokens.{Token, Mark}
use Rattle.hhbc_repo.specs.CanonicalText.{tight, behind_space, type_tokens, type_pieces}
use Rattle.hhbc_repo.specs.TypeFits.{type_fits}
use Rattle.hhbc_repo.specs.WrittenTypes.{written_type}
use Rattle.hhbc_repo.specs.declared.parts.TypeParts.{TypeParts}
use Rattle.hhbc_repo.proofs.Clearing.{Clear}
use Rattle.hhbc_repo.proofs.InnerTokens.{touching, Inner, closing_none}
use Rattle.hhbc_repo.proofs.TypesWritten.{type_written}

tight_tokens : (ts : List Token) → map (λ (s : Spaced). s.token) (map tight ts) ≡ ts
tight_tokens [] = refl
tight_tokens (t ∷ ts) = ap (λ (l : List Token). t ∷ l) (tight_tokens ts)

pub spaced_tokens : (ts : List Token) → map (λ (s : Spaced). s.token) (behind_space ts) ≡ ts
spaced_tokens [] = refl
spaced_tokens (t ∷ ts) = ap (λ (l : List Token). t ∷ l) (tight_tokens ts)

pub type_pieces_tokens : (t : TypeParts) → map (λ (s : Spaced). s.token) (type_pieces t) ≡ type_tokens (written_type t.classes t.t)
type_pieces_tokens t = spaced_tokens (type_tokens (written_type t.classes t.t))

-- tokens that stand between marks, behind a space
pub inner_clear : (ts : List Token) → Inner ts → Clear (behind_space ts)
inner_clear [] h u = refl
inner_clear (t ∷ ts) h u =
    let all : touching (Mark 124) (t ∷ ts) ≡ true =
    subst (λ (l : List Token). touching (Mark 124) l ≡ true) (append-nil (t ∷ ts)) (h.clear (Mark 124) [] (λ w. refl) closing_none) in
    let p = and_parts (is_proper t) _ all in
    and_from (is_proper t) (touching t ts) p.0 p.1

pub type_clear : (t : TypeParts) → type_fits t ≡ true → Clear (type_pieces t)
type_clear t h = inner_clear (type_tokens (written_type t.classes t.t)) (type_written t h).inner
