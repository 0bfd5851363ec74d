-- How bodies are spelled: assertions, labels, positions and nested try bodies.
use Rattle.std.specs.Prelude.{◌≡◌, ℕ, Bool, true, false, List, [], ◌∷◌, ◌++◌, Option, codes}
use Rattle.hhas_lex.specs.Tokens.{Token, Directive, Word, Mark}
use Rattle.hhbc_repo.specs.declared.parts.BodyParts.{BodyParts}
use Rattle.hhbc_repo.specs.declared.parts.ItemParts.{ItemParts}
use Rattle.hhbc_repo.specs.declared.parts.ItemParts.TheVariants as items
use Rattle.hhbc_repo.specs.declared.parts.PositionParts.{PositionParts}
use Rattle.hhbc_repo.specs.declared.parts.AssertParts.{AssertParts}
use Rattle.hhbc_repo.specs.declared.parts.AssertParts.TheVariants as claims
use Rattle.hhbc_repo.specs.declared.parts.TypeParts.{TypeParts}
use Rattle.hhbc_repo.specs.Languages.{Lang, Behind, Both, Either, Ended, Many, Perhaps, Says, Separated}
use Rattle.hhbc_repo.specs.TypeSyntax.{AType}
use Rattle.hhbc_repo.specs.CodeSyntax.{ALocal, AnIndex, AWord, UpTo, ACode, is_reserved}

abbrev pub AnAssert : Lang AssertParts
AnAssert ts (claims.Local name t) = Behind (Word (codes "AssertRATL") ∷ []) (Both ALocal AType) ts (name, t)
AnAssert ts (claims.Stack n t) = Behind (Word (codes "AssertRATStk") ∷ []) (Both AnIndex AType) ts (n, t)

-- assertions, and the code that they stand before
abbrev pub APosition : Lang PositionParts
APosition ts p = Both (Many AnAssert) ACode ts (p.asserts, p.code)

-- ---- items

-- items as they are nested: a try has its body and its catch body, and then further items follow
pub data Items : Type 0 where
  Done : Items
  Label : List ℕ → Items → Items
  Position : PositionParts → Items → Items
  Try : Items → Items → Items → Items

-- a position or a try stands among them
abbrev pub has_code : Items → Bool
has_code Done = false
has_code (Label w r) = has_code r
has_code (Position p r) = true
has_code (Try a b r) = true

abbrev pub ItemsOf : Lang Items
ItemsOf ts Done = ts ≡ []
ItemsOf ts (Label w r) = (is_reserved w ≡ false) × ((rest : List Token) × ItemsOf rest r × (ts ≡ Word w ∷ Mark 58 ∷ rest))
ItemsOf ts (Position p r) = (a b : List Token) × APosition a p × ItemsOf b r × (ts ≡ a ++ b)
ItemsOf ts (Try a b r) =
    (has_code a ≡ true) × (has_code b ≡ true) × ((x y z : List Token) × ItemsOf x a × ItemsOf y b × ItemsOf z r
    × (ts ≡ Directive (codes "try") ∷ Mark 123 ∷ (x ++ (Mark 125 ∷ Directive (codes "catch") ∷ Mark 123 ∷ (y ++ (Mark 125 ∷ z))))))

-- in one list
abbrev pub parts_of : Items → List ItemParts
parts_of Done = []
parts_of (Label w r) = items.Label w ∷ parts_of r
parts_of (Position p r) = items.Position p ∷ parts_of r
parts_of (Try a b r) = items.Try ∷ (parts_of a ++ (items.Catch ∷ (parts_of b ++ (items.End ∷ parts_of r))))

pub record AnItemList (ts : List Token) (is : List ItemParts) : Type 0 where
  pub nested : Items
  pub word : ItemsOf ts nested
  pub parts : is ≡ parts_of nested

-- ---- bodies

-- locals in parentheses
abbrev pub Params : Lang (List (List ℕ))
Params ts [] = ts ≡ Mark 40 ∷ Mark 41 ∷ []
Params ts (x ∷ xs) = Behind (Mark 40 ∷ []) (Ended (Separated 44 ALocal) (Mark 41 ∷ [])) ts (x ∷ xs)

abbrev pub Returns : Lang (Option TypeParts)
Returns = Perhaps (Behind (Directive (codes "returns") ∷ []) AType)

-- ".declvars", locals and ";", where there is a local to declare
abbrev pub Declared : Lang (List (List ℕ))
Declared ts [] = ts ≡ []
Declared ts (x ∷ xs) = Behind (Directive (codes "declvars") ∷ []) (Ended (Separated 44 ALocal) (Mark 59 ∷ [])) ts (x ∷ xs)

-- ".numiters", a number and ";", or nothing for none
abbrev pub Iterators : Lang ℕ
Iterators = Either (Behind (Directive (codes "numiters") ∷ []) (Ended (UpTo 65535) (Mark 59 ∷ []))) (Says [] 0)

-- what stands between the braces of a body, and the closing one
abbrev pub Inner : Lang (List (List ℕ) × (ℕ × List ItemParts))
Inner = Both Declared (Both Iterators (Ended AnItemList (Mark 125 ∷ [])))

-- a name, parameters, what is stated of the result, and in braces declared locals, the number of iterators and items
abbrev pub ABody : Lang BodyParts
ABody ts b =
    Both AWord (Both Params (Both Returns (Behind (Mark 123 ∷ []) Inner))) ts (b.name, (b.params, (b.stated, (b.locals, (b.iters, b.items)))))
