-- The tokens of a text: all before the last are proper, and proper tokens are those of some text.
use Rattle.std.proofs.Common.{◌≡◌, ◌≢◌, ℕ, refl, sym, ap, subst, ◌∙◌, true, false, ◌&&◌, List, [], ◌∷◌, ◌++◌, drop, take, Some, None}
use Rattle.std.specs.List.{list_all}
use Rattle.hhas_lex.specs.declared.token.TokenKind.{TokenKind}
use Rattle.hhas_lex.specs.declared.token.TokenKind.TheVariants as kinds
use Rattle.hhas_lex.specs.Shape.{Scanned, scan}
use Rattle.hhas_lex.specs.Spelling.{is_proper, spelling}
use Rattle.hhas_lex.specs.Tokens.{Token, Directive, Word, Local, Integer, Str, Mark, LessEqual, End, Bad, token_of, token_in, gap, first, past_first, tokens}
use Rattle.hhas_lex.proofs.ByteTests.{both}
use Rattle.hhas_lex.proofs.Exact.{scan-some}
use Rattle.hhas_lex.proofs.Following.{is_last, tokens-last, tokens-on, tokens-nil}
use Rattle.hhas_lex.proofs.Fronts.{split}
use Rattle.hhas_lex.proofs.Proper.{token-proper}
use Rattle.hhas_lex.proofs.Spelled.{spelled-read, white-skipped}
use Rattle.hhas_lex.proofs.Touching.{white-apart}

-- ---- the last token alone isn't proper

kind-inner : (k : TokenKind) (bytes : List ℕ) → is_last (token_of k bytes) ≡ false → k ≢ kinds.End
kind-inner k bytes e is =
    let last : is_last (token_of k bytes) ≡ true = subst (λ (z : TokenKind). is_last (token_of z bytes) ≡ true) (sym is) refl in
    absurd (cc)

scanned-proper : (r : List ℕ) (s : Scanned) → scan r ≡ s → is_last (token_in s r) ≡ false → is_proper (token_in s r) ≡ true
scanned-proper r None e f = absurd (cc)
scanned-proper r (Some (k, n)) e f = token-proper r k n (scan-some r k n e) (kind-inner k (take n r) f)

first-proper : (bytes : List ℕ) → is_last (first bytes) ≡ false → is_proper (first bytes) ≡ true
first-proper bytes e = let r = drop (gap bytes) bytes in scanned-proper r (scan r) refl e

last-improper : (t : Token) → is_last t ≡ true → is_proper t ≡ false
last-improper End e = refl
last-improper Bad e = refl
last-improper (Directive w) e = absurd (cc)
last-improper (Word w) e = absurd (cc)
last-improper (Local w) e = absurd (cc)
last-improper (Integer i) e = absurd (cc)
last-improper (Str s) e = absurd (cc)
last-improper (Mark m) e = absurd (cc)
last-improper LessEqual e = absurd (cc)

-- proper tokens, and one behind them that isn't
record EndsOnce (ts : List Token) : Type 0 where
  pub before : List Token
  pub last : Token
  pub are : ts ≡ before ++ last ∷ []
  pub proper : list_all is_proper before ≡ true
  pub improper : is_proper last ≡ false

ends-now : (t : Token) → is_last t ≡ true → EndsOnce (t ∷ [])
ends-now t e = record { before = []; last = t; are = refl; proper = refl; improper = last-improper t e }

ends-later : (t : Token) (ts : List Token) → is_proper t ≡ true → EndsOnce ts → EndsOnce (t ∷ ts)
ends-later t ts h k = record {
  before = t ∷ k.before;
  last = k.last;
  are = ap (λ l. t ∷ l) k.are;
  proper = ap (λ c. c && list_all is_proper k.before) h ∙ k.proper;
  improper = k.improper;
}

some-token : (bytes : List ℕ) → tokens bytes ≡ [] → ⊥
some-token bytes e =
    split (is_last (first bytes))
    (λ l. let d = sym (tokens-last bytes l) ∙ e in absurd (cc d))
    (λ l. let d = sym (tokens-on bytes l) ∙ e in absurd (cc d))

ends-once : (ts : List Token) (bytes : List ℕ) → tokens bytes ≡ ts → EndsOnce ts
ends-once [] bytes e = absurd (some-token bytes e)
ends-once (t ∷ ts) bytes e =
    split (is_last (first bytes))
    (λ l. subst EndsOnce (sym (tokens-last bytes l) ∙ e) (ends-now (first bytes) l))
    (λ l.
    let rest = drop (past_first bytes) bytes in
    let d : first bytes ∷ tokens rest ≡ t ∷ ts = sym (tokens-on bytes l) ∙ e in
    let f : first bytes ≡ t = cc in
    ends-later t ts (ap is_proper (sym f) ∙ first-proper bytes l) (ends-once ts rest (cc)))

-- ---- what stands before a token of a text is proper, and behind the last stands nothing

pub record Parted (a : List Token) (t : Token) (b : List Token) : Type 0 where
  pub proper : list_all is_proper a ≡ true
  pub alone : is_proper t ≡ false → b ≡ []

behind-last : (a : List Token) (last x t : Token) (b : List Token) → last ∷ [] ≡ x ∷ (a ++ t ∷ b) → ⊥
behind-last [] last x t b e = absurd (cc)
behind-last (y ∷ a) last x t b e = absurd (cc)

parted-at : (before a b : List Token) (last t : Token) → list_all is_proper before ≡ true → before ++ last ∷ [] ≡ a ++ t ∷ b → Parted a t b
parted-at [] [] b last t h e = record { proper = refl; alone = λ i. sym (cc) }
parted-at [] (x ∷ a) b last t h e = absurd (behind-last a last x t b e)
parted-at (y ∷ before) [] b last t h e =
    let p = both (is_proper y) (list_all is_proper before) h in
    let s : y ≡ t = cc in
    record { proper = refl; alone = λ i. absurd (let q : is_proper t ≡ true = ap is_proper (sym s) ∙ p.0 in (cc)) }
parted-at (y ∷ before) (x ∷ a) b last t h e =
    let p = both (is_proper y) (list_all is_proper before) h in
    let s : y ≡ x = cc in
    let k = parted-at before a b last t p.1 (cc) in
    record { proper = ap (λ c. c && list_all is_proper a) (ap is_proper (sym s) ∙ p.0) ∙ k.proper; alone = k.alone }

pub parted : (bytes : List ℕ) (a b : List Token) (t : Token) → tokens bytes ≡ a ++ t ∷ b → Parted a t b
parted bytes a b t e =
    let k = ends-once (tokens bytes) bytes refl in
    parted-at k.before a b k.last t k.proper (sym k.are ∙ e)

-- ---- a text of proper tokens

-- a space behind the spelling of each
abbrev pub spaced : List Token → List ℕ
spaced [] = []
spaced (t ∷ ts) = spelling t ++ (32 ∷ spaced ts)

pub spaced-tokens : (ts : List Token) → list_all is_proper ts ≡ true → tokens (spaced ts) ≡ ts ++ End ∷ []
spaced-tokens [] h = tokens-nil
spaced-tokens (t ∷ ts) h =
    let p = both (is_proper t) (list_all is_proper ts) h in
    spelled-read t (32 ∷ spaced ts) p.0 (white-apart t 32 (spaced ts) refl) ∙ ap (λ l. t ∷ l) (white-skipped 32 (spaced ts) refl ∙ spaced-tokens ts p.1)
