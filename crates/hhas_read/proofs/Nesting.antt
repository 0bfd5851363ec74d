-- What is left of the items of a body, where some try and catch bodies are open.
use Rattle.std.proofs.Common.{◌≡◌, ℕ, Bool, true, false, List, [], ◌∷◌, ◌++◌, sym, ap, ◌∙◌, codes, subst}
use Rattle.hhas_lex.specs.Tokens.{Token, Directive, Word, Mark, front}
use Rattle.hhbc_repo.specs.declared.parts.ItemParts.{ItemParts}
use Rattle.hhbc_repo.specs.declared.parts.ItemParts.TheVariants as parts
use Rattle.hhbc_repo.specs.BodySyntax as body
use Rattle.hhbc_repo.specs.BodySyntax.{Items, ItemsOf, has_code, parts_of}
use Rattle.hhbc_repo.specs.CodeSyntax.{is_reserved}
use Rattle.hhbc_repo.specs.Languages.{Lang, Both, Means}
use Rattle.hhas_read.specs.declared.open_bodies.OpenBody.{OpenBody}
use Rattle.hhas_read.specs.declared.open_bodies.OpenBody.TheVariants as bodies
use Rattle.hhas_read.specs.Nesting.{CatchOpening}
use Rattle.hhas_read.specs.Reading.{Just}
use Rattle.hhas_read.specs.Written.{ends_type}
use Rattle.hhas_read.proofs.Reserved.{never_both}
use Rattle.hhas_read.proofs.Said.{same_word}
use Rattle.hhas_read.proofs.PositionLaws.{position_word}

-- ---- the first token of items

abbrev pub brace : Token
brace = Mark 125

-- the token that items begin with, where another is next behind them
abbrev pub Begins : Items → Token → Token → Type 0
Begins body.Done after t = t ≡ after
Begins (body.Label w r) after t = (t ≡ Word w) × (is_reserved w ≡ false)
Begins (body.Position p r) after t = (name : List ℕ) × (t ≡ Word name) × (is_reserved name ≡ true)
Begins (body.Try a b r) after t = t ≡ Directive (codes "try")

pub begins : (i : Items) (s x : List Token) → ItemsOf s i → Begins i (front x) (front (s ++ x))
begins body.Done s x n = ap (λ l. front (l ++ x)) n
begins (body.Label w r) s x n = (ap (λ l. front (l ++ x)) n.1.2, n.0)
begins (body.Position p r) s x n =
    let one = position_word n.0 p n.2 in
    (one.0, ap (λ l. front (l ++ x)) n.4 ∙ ap (λ l. front ((l ++ n.1) ++ x)) one.2, one.3)
begins (body.Try a b r) s x n = ap (λ l. front (l ++ x)) n.2.6

-- the same before a closing brace
pub at_brace : (i : Items) (s x : List Token) → ItemsOf s i → front x ≡ brace → Begins i brace (front (s ++ x))
at_brace i s x n e = subst (λ t. Begins i t (front (s ++ x))) e (begins i s x n)

-- a type may end before each of them
pub type_ends : (i : Items) (t : Token) → Begins i brace t → ends_type t ≡ true
type_ends body.Done t h = ap ends_type h
type_ends (body.Label w r) t h = ap ends_type h.0
type_ends (body.Position p r) t h = ap ends_type h.1
type_ends (body.Try a b r) t h = ap ends_type h

pub no_word : (b : ℕ) (w : List ℕ) → Mark b ≡ Word w → ⊥
no_word b w e = absurd (cc e)

pub no_directive : (d w : List ℕ) → Directive d ≡ Word w → ⊥
no_directive d w e = absurd (cc e)

pub no_mark : (d : List ℕ) (b : ℕ) → Directive d ≡ Mark b → ⊥
no_mark d b e = absurd (cc e)

pub other_word : (v w : List ℕ) → is_reserved v ≡ true → is_reserved w ≡ false → Word v ≡ Word w → ⊥
other_word v w r f e = never_both (sym r ∙ ap is_reserved (same_word v w e) ∙ f)

-- ---- a block, and what ends it

-- items, with a position or a try among them where that is needed, and then a word of K
pub record Block (needed : Bool) (K : Lang (List ItemParts)) (ts : List Token) (xs : List ItemParts) : Type 0 where
  pub nested : Items
  pub first : List Token
  pub rest : List Token
  pub more : List ItemParts
  pub word : ItemsOf first nested
  pub code : needed ≡ true → has_code nested ≡ true
  pub behind : K rest more
  pub tokens : ts ≡ first ++ rest
  pub told : xs ≡ parts_of nested ++ more

-- one part, as A spells it, and then a word of M
abbrev pub Onward : {V : Type 0} → Lang V → (V → ItemParts) → Lang (List ItemParts) → Lang (List ItemParts)
Onward A item M = Means (λ p. item p.0 ∷ p.1) (Both A M)

-- the end of a catch body, and then a word of M
abbrev pub AfterCatch : Lang (List ItemParts) → Lang (List ItemParts)
AfterCatch M = Onward (Just brace) (λ u. parts.End) M

-- the end of a try body, its catch body, and then a word of M
abbrev pub AfterTry : Lang (List ItemParts) → Lang (List ItemParts)
AfterTry M = Onward CatchOpening (λ u. parts.Catch) (Block true (AfterCatch M))

-- what ends the innermost of the open bodies, and those around it
abbrev pub Closes : List OpenBody → Lang (List ItemParts)
Closes [] = Means (λ u. []) (Just brace)
Closes (bodies.Try ∷ opened) = AfterTry (Block false (Closes opened))
Closes (bodies.Catch ∷ opened) = AfterCatch (Block false (Closes opened))

-- its words begin with a closing brace
abbrev pub Braced : Lang (List ItemParts) → Type 0
Braced K = (ts : List Token) (xs : List ItemParts) (x : List Token) → K ts xs → front (ts ++ x) ≡ brace

pub after_try_braced : (M : Lang (List ItemParts)) → Braced (AfterTry M)
after_try_braced M ts xs x n = ap (λ l. front (l ++ x)) n.word.tokens ∙ ap (λ l. front ((l ++ n.word.second) ++ x)) n.word.left.0

pub after_catch_braced : (M : Lang (List ItemParts)) → Braced (AfterCatch M)
after_catch_braced M ts xs x n = ap (λ l. front (l ++ x)) n.word.tokens ∙ ap (λ l. front ((l ++ n.word.second) ++ x)) n.word.left

pub closes_braced : (opened : List OpenBody) → Braced (Closes opened)
closes_braced [] ts xs x n = ap (λ l. front (l ++ x)) n.word
closes_braced (bodies.Try ∷ opened) ts xs x n = after_try_braced (Block false (Closes opened)) ts xs x n
closes_braced (bodies.Catch ∷ opened) ts xs x n = after_catch_braced (Block false (Closes opened)) ts xs x n
