-- The tokens of a text of tokens with white space before each.
use Rattle.std.proofs.Common.{◌≡◌, ℕ, refl, sym, ap, subst, ◌∙◌, Bool, true, ◌&&◌, List, [], ◌∷◌, ◌++◌, map, append_assoc}
use Rattle.std.specs.List.{list_all}
use Rattle.hhas_lex.specs.Bytes.{is_white}
use Rattle.hhas_lex.specs.Spaced.{Spaced, spaced_text, text_of, keeps_apart, is_clear, last_of}
use Rattle.hhas_lex.specs.Spelling.{is_proper, spelling, Apart, touches}
use Rattle.hhas_lex.specs.Tokens.{Token, tokens}
use Rattle.hhas_lex.proofs.ByteTests.{both}
use Rattle.hhas_lex.proofs.Spelled.{spelled-read, white-skipped}
use Rattle.hhas_lex.proofs.Touching.{white-apart, touching-apart}

space-skipped : (space bytes : List ℕ) → list_all is_white space ≡ true → tokens (space ++ bytes) ≡ tokens bytes
space-skipped [] bytes h = refl
space-skipped (b ∷ space) bytes h =
    let e = both (is_white b) (list_all is_white space) h in
    white-skipped b (space ++ bytes) e.0 ∙ space-skipped space bytes e.1

apart-white : (space : List ℕ) (touching : Bool) → keeps_apart space touching ≡ true → list_all is_white space ≡ true
apart-white [] touching h = refl
apart-white (b ∷ space) touching h = h

kept-apart : (t u : Token) (space rest : List ℕ) → is_proper u ≡ true → keeps_apart space (touches t u) ≡ true → Apart t (space ++ (spelling u ++ rest))
kept-apart t u [] rest h k = touching-apart t u rest h k
kept-apart t u (b ∷ space) rest h k = white-apart t b (space ++ (spelling u ++ rest)) (both (is_white b) (list_all is_white space) k).0

text-on : (s : Spaced) (ss : List Spaced) (rest : List ℕ) → text_of (s ∷ ss) ++ rest ≡ s.space ++ (spelling s.token ++ (text_of ss ++ rest))
text-on s ss rest =
    append_assoc (spaced_text s) (text_of ss) rest ∙ append_assoc s.space (spelling s.token) (text_of ss ++ rest)

pub text-read : (t : Token) (ss : List Spaced) (rest : List ℕ) → is_proper t ≡ true → is_clear t ss ≡ true → Apart (last_of t ss) rest
    → tokens (spelling t ++ (text_of ss ++ rest)) ≡ t ∷ (map (λ (s : Spaced). s.token) ss ++ tokens rest)
text-read t [] rest h c a = spelled-read t rest h a
text-read t (s ∷ ss) rest h c a =
    let x = both (is_proper s.token) (keeps_apart s.space (touches t s.token) && is_clear s.token ss) c in
    let y = both (keeps_apart s.space (touches t s.token)) (is_clear s.token ss) x.1 in
    let g = text-on s ss rest in
    spelled-read t (text_of (s ∷ ss) ++ rest) h (subst (Apart t) (sym g) (kept-apart t s.token s.space (text_of ss ++ rest) x.0 y.0))
    ∙ ap (λ l. t ∷ l)
    (ap tokens g ∙ space-skipped s.space (spelling s.token ++ (text_of ss ++ rest)) (apart-white s.space (touches t s.token) y.0) ∙ text-read s.token ss rest x.0 y.1 a)
