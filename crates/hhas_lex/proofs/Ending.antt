-- Tokens end once, and each has its place.
use Rattle.std.proofs.Common.{◌≡◌, ◌≢◌, ℕ, zero, suc, ◌+◌, refl, sym, ap, ◌∙◌, true, false, List, [], ◌∷◌, length, drop}
use Rattle.hhas_lex.specs.Tokens.{Token, Directive, Word, Local, Integer, Str, Mark, LessEqual, End, Bad, gap, first, past_first, followed, tokens, tokens_within, places, places_within, front, behind}
use Rattle.hhas_lex.proofs.Following.{is_last, tokens-last, tokens-on, tokens-front, tokens-behind-on}

inner : (t : Token) → t ≢ End → t ≢ Bad → is_last t ≡ false
inner End n m = absurd (n refl)
inner Bad n m = absurd (m refl)
inner (Directive s) n m = refl
inner (Word s) n m = refl
inner (Local s) n m = refl
inner (Integer i) n m = refl
inner (Str s) n m = refl
inner (Mark b) n m = refl
inner LessEqual n m = refl

only : (bytes : List ℕ) (t : Token) → is_last t ≡ true → front (tokens bytes) ≡ t → tokens bytes ≡ t ∷ []
only bytes t l e =
    let f : first bytes ≡ t = sym (tokens-front bytes) ∙ e in
    tokens-last bytes (ap is_last f ∙ l) ∙ ap (λ (z : Token). z ∷ []) f

pub end-alone : (bytes : List ℕ) → front (tokens bytes) ≡ End → tokens bytes ≡ End ∷ []
end-alone bytes e = only bytes End refl e

pub bad-alone : (bytes : List ℕ) → front (tokens bytes) ≡ Bad → tokens bytes ≡ Bad ∷ []
bad-alone bytes e = only bytes Bad refl e

pub more-follow : (bytes : List ℕ) → front (tokens bytes) ≢ End → front (tokens bytes) ≢ Bad → tokens bytes ≡ front (tokens bytes) ∷ behind (tokens bytes)
more-follow bytes n m =
    let f = tokens-front bytes in
    let l : is_last (first bytes) ≡ false = ap is_last (sym f) ∙ inner (front (tokens bytes)) n m in
    tokens-on bytes l ∙ ap (λ (z : Token). z ∷ tokens (drop (past_first bytes) bytes)) (sym f) ∙ ap (λ (ts : List Token). front (tokens bytes) ∷ ts) (sym (tokens-behind-on bytes l))

same-length : {A B : Type 0} (t : Token) (x : A) (xs : List A) (y : B) (ys : List B) → length xs ≡ length ys → length (followed t x xs) ≡ length (followed t y ys)
same-length End x xs y ys e = refl
same-length Bad x xs y ys e = refl
same-length (Directive s) x xs y ys e = ap suc e
same-length (Word s) x xs y ys e = ap suc e
same-length (Local s) x xs y ys e = ap suc e
same-length (Integer i) x xs y ys e = ap suc e
same-length (Str s) x xs y ys e = ap suc e
same-length (Mark m) x xs y ys e = ap suc e
same-length LessEqual x xs y ys e = ap suc e

places-within : (n at : ℕ) (bytes : List ℕ) → length (places_within n at bytes) ≡ length (tokens_within n bytes)
places-within zero at bytes = refl
places-within (suc n) at bytes =
    same-length (first bytes) (at + gap bytes) (places_within n (at + past_first bytes) (drop (past_first bytes) bytes)) (first bytes) (tokens_within n (drop (past_first bytes) bytes))
    (places-within n (at + past_first bytes) (drop (past_first bytes) bytes))

pub places-each : (at : ℕ) (bytes : List ℕ) → length (places at bytes) ≡ length (tokens bytes)
unfolding places tokens
places-each at bytes = places-within (suc (length bytes)) at bytes
