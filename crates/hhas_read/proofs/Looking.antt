-- The first token of a text and its place, and those behind it.
use Rattle.std.proofs.Common.{◌≡◌, ◌≢◌, ℕ, refl, sym, ap, ◌∙◌, List, [], ◌∷◌, length}
use Rattle.hhas_lex.specs.Tokens.{Token, Directive, Word, Local, Integer, Str, Mark, LessEqual, End, Bad, tokens, places, front, front_place, behind, followed}
use Rattle.hhas_lex.proofs.Ending.{end-alone, bad-alone, more-follow, places-each}

inner : (bytes : List ℕ) (t : Token) (ts : List Token) → t ≢ End → t ≢ Bad → front (tokens bytes) ≡ t → ts ≡ behind (tokens bytes) → tokens bytes ≡ t ∷ ts
inner bytes t ts n m f b = more-follow bytes (λ e. n (sym f ∙ e)) (λ e. m (sym f ∙ e)) ∙ (λ i. f i ∷ sym b i)

pub seen-tokens : (bytes : List ℕ) (t : Token) (ts : List Token) → front (tokens bytes) ≡ t → ts ≡ behind (tokens bytes) → tokens bytes ≡ followed t t ts
seen-tokens bytes (Directive w) ts f b = inner bytes (Directive w) ts (λ e. absurd (cc e)) (λ e. absurd (cc e)) f b
seen-tokens bytes (Word w) ts f b = inner bytes (Word w) ts (λ e. absurd (cc e)) (λ e. absurd (cc e)) f b
seen-tokens bytes (Local w) ts f b = inner bytes (Local w) ts (λ e. absurd (cc e)) (λ e. absurd (cc e)) f b
seen-tokens bytes (Integer i) ts f b = inner bytes (Integer i) ts (λ e. absurd (cc e)) (λ e. absurd (cc e)) f b
seen-tokens bytes (Str s) ts f b = inner bytes (Str s) ts (λ e. absurd (cc e)) (λ e. absurd (cc e)) f b
seen-tokens bytes (Mark m) ts f b = inner bytes (Mark m) ts (λ e. absurd (cc e)) (λ e. absurd (cc e)) f b
seen-tokens bytes LessEqual ts f b = inner bytes LessEqual ts (λ e. absurd (cc e)) (λ e. absurd (cc e)) f b
seen-tokens bytes End ts f b = end-alone bytes f
seen-tokens bytes Bad ts f b = bad-alone bytes f

alone : (ps : List ℕ) (p : ℕ) → length ps ≡ 1 → front_place ps ≡ p → ps ≡ p ∷ []
alone [] p e f = absurd (cc e)
alone (q ∷ []) p e f = ap (λ z. z ∷ []) f
alone (q ∷ r ∷ ps) p e f = absurd (cc e)

several : (l : List Token) (ps : List ℕ) → length ps ≡ length l → l ≡ front l ∷ behind l → ps ≡ front_place ps ∷ behind ps
several [] ps e n = absurd (cc n)
several (t ∷ []) ps e n = absurd (cc n)
several (t ∷ u ∷ l) [] e n = absurd (cc e)
several (t ∷ u ∷ l) (p ∷ []) e n = absurd (cc e)
several (t ∷ u ∷ l) (p ∷ q ∷ ps) e n = refl

inner-places : (at : ℕ) (bytes : List ℕ) (t : Token) (p : ℕ) (ps : List ℕ) → t ≢ End → t ≢ Bad → front (tokens bytes) ≡ t
    → front_place (places at bytes) ≡ p → ps ≡ behind (places at bytes) → places at bytes ≡ p ∷ ps
inner-places at bytes t p ps n m f g b =
    several (tokens bytes) (places at bytes) (places-each at bytes) (more-follow bytes (λ e. n (sym f ∙ e)) (λ e. m (sym f ∙ e))) ∙ (λ i. g i ∷ sym b i)

pub seen-places : (at : ℕ) (bytes : List ℕ) (t : Token) (p : ℕ) (ps : List ℕ) → front (tokens bytes) ≡ t
    → front_place (places at bytes) ≡ p → ps ≡ behind (places at bytes) → places at bytes ≡ followed t p ps
seen-places at bytes (Directive w) p ps f g b = inner-places at bytes (Directive w) p ps (λ e. absurd (cc e)) (λ e. absurd (cc e)) f g b
seen-places at bytes (Word w) p ps f g b = inner-places at bytes (Word w) p ps (λ e. absurd (cc e)) (λ e. absurd (cc e)) f g b
seen-places at bytes (Local w) p ps f g b = inner-places at bytes (Local w) p ps (λ e. absurd (cc e)) (λ e. absurd (cc e)) f g b
seen-places at bytes (Integer i) p ps f g b = inner-places at bytes (Integer i) p ps (λ e. absurd (cc e)) (λ e. absurd (cc e)) f g b
seen-places at bytes (Str s) p ps f g b = inner-places at bytes (Str s) p ps (λ e. absurd (cc e)) (λ e. absurd (cc e)) f g b
seen-places at bytes (Mark m) p ps f g b = inner-places at bytes (Mark m) p ps (λ e. absurd (cc e)) (λ e. absurd (cc e)) f g b
seen-places at bytes LessEqual p ps f g b = inner-places at bytes LessEqual p ps (λ e. absurd (cc e)) (λ e. absurd (cc e)) f g b
seen-places at bytes End p ps f g b = alone (places at bytes) p (places-each at bytes ∙ ap length (end-alone bytes f)) g
seen-places at bytes Bad p ps f g b = alone (places at bytes) p (places-each at bytes ∙ ap length (bad-alone bytes f)) g
