-- Types that are written by one word, or by one int.
use Rattle.std.specs.Prelude.{◌≡◌, ℕ, ℤ, true, List, [], ◌∷◌, codes}
use Rattle.hhas_lex.specs.Tokens.{Token, Word, Integer, Mark}
use Rattle.type_lattice.specs.declared.types.IntPart.TheVariants as ints
use Rattle.type_lattice.specs.declared.types.StrPart.TheVariants as strs
use Rattle.type_lattice.specs.declared.types.HType.{HType}
use Rattle.type_lattice.specs.Types.{never, uninit, cell}

pub data TypeName : Type 0 where
  Never : TypeName
  Cell : TypeName
  Uninit : TypeName
  Null : TypeName
  False : TypeName
  True : TypeName
  Bool : TypeName
  Int : TypeName
  Str : TypeName

-- the word of a type
abbrev pub type_word : TypeName → List ℕ
type_word Never = codes "Never"
type_word Cell = codes "Cell"
type_word Uninit = codes "Uninit"
type_word Null = codes "Null"
type_word False = codes "False"
type_word True = codes "True"
type_word Bool = codes "Bool"
type_word Int = codes "Int"
type_word Str = codes "Str"

-- the type of a word
abbrev pub type_named : TypeName → HType
type_named Never = never
type_named Cell = cell
type_named Uninit = uninit
type_named Null = record never { null = true }
type_named False = record never { no = true }
type_named True = record never { yes = true }
type_named Bool = record never { no = true; yes = true }
type_named Int = record never { int = ints.Any }
type_named Str = record never { str = strs.Any }

-- the type of one int
abbrev pub one_int : ℤ → HType
one_int i = record never { int = ints.One i }

pub data PlainType : Type 0 where
  Named : TypeName → PlainType
  OneInt : ℤ → PlainType

abbrev pub type_of : PlainType → HType
type_of (Named n) = type_named n
type_of (OneInt i) = one_int i

-- its word, or "Int", "=" and the int
abbrev pub type_tokens : PlainType → List Token
type_tokens (Named n) = Word (type_word n) ∷ []
type_tokens (OneInt i) = Word (codes "Int") ∷ Mark 61 ∷ Integer i ∷ []

abbrev pub IsPlainType : HType → Type 0
IsPlainType t = (k : PlainType) × (t ≡ type_of k)
