-- Languages spell the tokens of pieces that stand behind each other, where they spell those of each.
use Rattle.std.proofs.Common.{◌≡◌, ℕ, Bool, true, List, [], ◌∷◌, ◌++◌, pos, refl}
use Rattle.std.specs.List.{list_all, flat_map}
use Rattle.std.proofs.lemmas.Bool.{and_parts, leb-true}
use Rattle.std.proofs.lemmas.List.{map-append}
use Rattle.hhas_lex.specs.Spaced.{Spaced}
use Rattle.hhas_lex.specs.Tokens.{Token, Integer}
use Rattle.hhbc_repo.specs.Languages.{Lang, Behind, Ended, Both, Many}
use Rattle.hhbc_repo.specs.CodeSyntax.{AnIndex}
use Rattle.hhbc_repo.specs.Fits.{is_index}
use Rattle.hhbc_repo.proofs.Clearing.{tokens_in}

pub tokens_both : (a b : List Spaced) → tokens_in (a ++ b) ≡ tokens_in a ++ tokens_in b
tokens_both a b = map-append (λ (s : Spaced). s.token) a b

pub spelled_behind : {V : Type 0} (words rest : List Token) (A : Lang V) (v : V) → A rest v → Behind words A (words ++ rest) v
spelled_behind words rest A v w = record { rest = rest; word = w; tokens = refl }

pub spelled_both : {V W : Type 0} (A : Lang V) (B : Lang W) (a b : List Token) (p : V × W) → A a p.0 → B b p.1 → Both A B (a ++ b) p
spelled_both A B a b p v w = record { first = a; second = b; left = v; right = w; tokens = refl }

pub pieces_ended : {V : Type 0} (A : Lang V) (a b : List Spaced) (v : V) → A (tokens_in a) v → Ended A (tokens_in b) (tokens_in (a ++ b)) v
pieces_ended A a b v w = record { first = tokens_in a; word = w; tokens = tokens_both a b }

pub pieces_both : {V W : Type 0} (A : Lang V) (B : Lang W) (a b : List Spaced) (p : V × W) → A (tokens_in a) p.0 → B (tokens_in b) p.1 → Both A B (tokens_in (a ++ b)) p
pieces_both A B a b p v w = record { first = tokens_in a; second = tokens_in b; left = v; right = w; tokens = tokens_both a b }

-- of each value that passes a test
pub pieces_many : {V : Type 0} (A : Lang V) (f : V → List Spaced) (test : V → Bool) → ((v : V) → test v ≡ true → A (tokens_in (f v)) v)
    → (vs : List V) → list_all test vs ≡ true → Many A (tokens_in (flat_map f vs)) vs
pieces_many A f test each [] h = refl
pieces_many A f test each (v ∷ vs) h =
    let x = and_parts (test v) (list_all test vs) h in
    (tokens_in (f v), tokens_in (flat_map f vs), each v x.0, pieces_many A f test each vs x.1, tokens_both (f v) (flat_map f vs))

pub index_spelled : (n : ℕ) → is_index n ≡ true → AnIndex (Integer (pos n) ∷ []) n
index_spelled n h = (refl, leb-true n 254 h)
