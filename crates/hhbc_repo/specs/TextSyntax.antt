-- How texts are spelled: functions and classes with their members; and the first fault of a text that isn't of the
-- grammar.
use Rattle.std.specs.Prelude.{◌≡◌, ℕ, true, false, List, [], ◌∷◌, ◌++◌, Some, length, slice_get, codes, pos}
use Rattle.hhas_lex.specs.Tokens.{Token, Directive, Word, Integer, Mark, End, tokens, places}
use Rattle.hhas_lex.specs.Tokens as words
use Rattle.hack_values.specs.declared.cell.Cell.{Cell}
use Rattle.hack_values.specs.declared.cell.Cell.TheVariants as cells
use Rattle.hhbc_repo.specs.declared.repo.Const.{Const}
use Rattle.hhbc_repo.specs.declared.parts.BodyParts.{BodyParts}
use Rattle.hhbc_repo.specs.declared.parts.ClassParts.{ClassParts}
use Rattle.hhbc_repo.specs.declared.parts.PropertyParts.{PropertyParts}
use Rattle.hhbc_repo.specs.Languages.{Lang, Behind, Both, Ended, Many, Perhaps}
use Rattle.hhbc_repo.specs.TypeSyntax.{AType}
use Rattle.hhbc_repo.specs.CodeSyntax.{AWord}
use Rattle.hhbc_repo.specs.BodySyntax.{ABody}
use Rattle.hhbc_repo.specs.LinkFaults.{Whole}

-- ---- values

abbrev pub AScalar : Lang Cell
AScalar ts cells.Null = ts ≡ Word (codes "Null") ∷ []
AScalar ts (cells.Bool true) = ts ≡ Word (codes "True") ∷ []
AScalar ts (cells.Bool false) = ts ≡ Word (codes "False") ∷ []
AScalar ts (cells.Int i) = ts ≡ Integer i ∷ []
AScalar ts (cells.Str s) = ts ≡ words.Str s ∷ []
AScalar ts _ = ⊥

-- a scalar, or an empty container
abbrev pub AnInitial : Lang Cell
AnInitial ts (cells.Vec []) = ts ≡ Word (codes "Vec") ∷ []
AnInitial ts (cells.Dict []) = ts ≡ Word (codes "Dict") ∷ []
AnInitial ts (cells.Keyset []) = ts ≡ Word (codes "Keyset") ∷ []
AnInitial ts c = AScalar ts c

-- ---- members of classes

abbrev pub AConst : Lang Const
AConst ts c = Behind (Directive (codes "const") ∷ []) (Both AWord (Behind (Mark 61 ∷ []) (Ended AScalar (Mark 59 ∷ [])))) ts (c.name, c.value)

abbrev pub AProperty : Lang PropertyParts
AProperty ts p =
    Behind (Directive (codes "property") ∷ [])
    (Both AWord (Behind (Mark 61 ∷ []) (Both AnInitial (Ended (Perhaps (Behind (Directive (codes "holds") ∷ []) AType)) (Mark 59 ∷ [])))))
    ts (p.name, (p.initial, p.stated))

abbrev pub AMethod : Lang BodyParts
AMethod = Behind (Directive (codes "method") ∷ []) ABody

pub data Member : Type 0 where
  AsConst : Const → Member
  AsProperty : PropertyParts → Member
  AsMethod : BodyParts → Member

abbrev pub AMember : Lang Member
AMember ts (AsConst c) = AConst ts c
AMember ts (AsProperty p) = AProperty ts p
AMember ts (AsMethod b) = AMethod ts b

-- of each kind those of the class, in their order
abbrev pub consts_of : List Member → List Const
consts_of [] = []
consts_of (AsConst c ∷ ms) = c ∷ consts_of ms
consts_of (_ ∷ ms) = consts_of ms

abbrev pub props_of : List Member → List PropertyParts
props_of [] = []
props_of (AsProperty p ∷ ms) = p ∷ props_of ms
props_of (_ ∷ ms) = props_of ms

abbrev pub methods_of : List Member → List BodyParts
methods_of [] = []
methods_of (AsMethod b ∷ ms) = b ∷ methods_of ms
methods_of (_ ∷ ms) = methods_of ms

-- ---- functions and classes

abbrev pub AFunction : Lang BodyParts
AFunction = Behind (Directive (codes "function") ∷ []) ABody

-- a name, perhaps a parent, and members in braces
pub record AClass (ts : List Token) (c : ClassParts) : Type 0 where
  pub members : List Member
  pub word : Behind (Directive (codes "class") ∷ [])
      (Both AWord (Both (Perhaps (Behind (Word (codes "extends") ∷ []) AWord)) (Behind (Mark 123 ∷ []) (Ended (Many AMember) (Mark 125 ∷ [])))))
      ts (c.name, (c.parent, members))
  pub consts : c.consts ≡ consts_of members
  pub props : c.props ≡ props_of members
  pub methods : c.methods ≡ methods_of members

pub data Declaration : Type 0 where
  AsFunction : BodyParts → Declaration
  AsClass : ClassParts → Declaration

abbrev pub ADeclaration : Lang Declaration
ADeclaration ts (AsFunction b) = AFunction ts b
ADeclaration ts (AsClass c) = AClass ts c

abbrev pub functions_of : List Declaration → List BodyParts
functions_of [] = []
functions_of (AsFunction b ∷ ds) = b ∷ functions_of ds
functions_of (AsClass c ∷ ds) = functions_of ds

abbrev pub classes_of : List Declaration → List ClassParts
classes_of [] = []
classes_of (AsFunction b ∷ ds) = classes_of ds
classes_of (AsClass c ∷ ds) = c ∷ classes_of ds

-- ".profile 1;", functions and classes, and the end
pub record AText (ts : List Token) (w : Whole) : Type 0 where
  pub declared : List Declaration
  pub word : Behind (Directive (codes "profile") ∷ Integer (pos 1) ∷ Mark 59 ∷ []) (Ended (Many ADeclaration) (End ∷ [])) ts declared
  pub functions : w.functions ≡ functions_of declared
  pub classes : w.classes ≡ classes_of declared

-- ---- texts

-- the parts that the bytes spell
abbrev pub Spells : List ℕ → Whole → Type 0
Spells bytes w = AText (tokens bytes) w

-- some text of the grammar has these tokens at its front
pub record IsFront (ts : List Token) : Type 0 where
  pub bytes : List ℕ
  pub parts : Whole
  pub more : List Token
  pub spells : Spells bytes parts
  pub begins : tokens bytes ≡ ts ++ more

-- the start of the first token such that the tokens through it are the front of no text. A place where no token
-- begins is a last token that no text has
pub record FirstFault (bytes : List ℕ) (at : ℕ) : Type 0 where
  pub read : List Token
  pub token : Token
  pub more : List Token
  pub tokens : tokens bytes ≡ read ++ token ∷ more
  pub place : slice_get (places 0 bytes) (length read) ≡ Some at
  pub front : IsFront read
  pub none : IsFront (read ++ token ∷ []) → ⊥
