-- How types, leaves, keys and constraints are spelled. What is written stands for a type; its classes are numbered in
-- the order of the text.
use Rattle.std.specs.Prelude.{◌≡◌, ◌≤◌, ℕ, suc, ◌+◌, ℤ, Bool, true, false, List, [], ◌∷◌, ◌++◌, Some, length, map, codes}
use Rattle.std.specs.List.{flat_map, list_all}
use Rattle.hhas_lex.specs.Tokens.{Token, Word, Integer, Mark, LessEqual}
use Rattle.hhas_lex.specs.Tokens as tokens
use Rattle.type_lattice.specs.declared.types.IntPart.TheVariants as ints
use Rattle.type_lattice.specs.declared.types.StrPart.TheVariants as strs
use Rattle.type_lattice.specs.declared.types.ObjPart.TheVariants as objs
use Rattle.type_lattice.specs.declared.types.Leaf.{Leaf}
use Rattle.type_lattice.specs.declared.types.HType.{HType}
use Rattle.type_lattice.specs.Types.{never, cell, never_leaf, cell_leaf, key_leaf, str_part}
use Rattle.hhbc_repo.specs.declared.parts.TypeParts.{TypeParts}
use Rattle.hhbc_repo.specs.Languages.{Lang, Behind, Ended, Both, Means, Separated}

-- ---- atoms of leaves

pub data Atom : Type 0 where
  Null : Atom
  False : Atom
  True : Atom
  Bools : Atom
  Int : Atom
  OneInt : ℤ → Atom
  Str : Atom
  OneStr : List ℕ → Atom
  Obj : Atom
  Exact : List ℕ → Atom
  Sub : List ℕ → Atom
  Vec : Atom
  Dict : Atom
  Keyset : Atom

abbrev pub atom_tokens : Atom → List Token
atom_tokens Null = Word (codes "Null") ∷ []
atom_tokens False = Word (codes "False") ∷ []
atom_tokens True = Word (codes "True") ∷ []
atom_tokens Bools = Word (codes "Bool") ∷ []
atom_tokens Int = Word (codes "Int") ∷ []
atom_tokens (OneInt i) = Word (codes "Int") ∷ Mark 61 ∷ Integer i ∷ []
atom_tokens Str = Word (codes "Str") ∷ []
atom_tokens (OneStr s) = Word (codes "Str") ∷ Mark 61 ∷ tokens.Str s ∷ []
atom_tokens Obj = Word (codes "Obj") ∷ []
atom_tokens (Exact c) = Word (codes "Obj") ∷ Mark 61 ∷ Word c ∷ []
atom_tokens (Sub c) = Word (codes "Obj") ∷ LessEqual ∷ Word c ∷ []
atom_tokens Vec = Word (codes "Vec") ∷ []
atom_tokens Dict = Word (codes "Dict") ∷ []
atom_tokens Keyset = Word (codes "Keyset") ∷ []

-- a string in a type has at most 32 bytes
abbrev pub FitsAtom : Atom → Type 0
FitsAtom (OneStr s) = length s ≤ 32
FitsAtom _ = Unit {0}

abbrev pub AnAtom : Lang Atom
AnAtom ts a = (ts ≡ atom_tokens a) × FitsAtom a

-- the line of an atom: of each line at most one stands in a type, and the lines ascend. Uninit has line 0
abbrev pub line : Atom → ℕ
line Null = 1
line False = 2
line True = 2
line Bools = 2
line Int = 3
line (OneInt i) = 3
line Str = 4
line (OneStr s) = 4
line Obj = 5
line (Exact c) = 5
line (Sub c) = 5
line Vec = 6
line Dict = 7
line Keyset = 8

-- each is at least the number, and above the one before it
abbrev pub Ascend : ℕ → List ℕ → Type 0
Ascend least [] = Unit {0}
Ascend least (n ∷ ns) = (least ≤ n) × Ascend (suc n) ns

-- atoms with bars between them, at most one of each line, in their order
abbrev pub Atoms : Lang (List Atom)
Atoms ts xs = Separated 124 AnAtom ts xs × Ascend 0 (map line xs)

-- an atom of a key
abbrev pub is_key_atom : Atom → Bool
is_key_atom Int = true
is_key_atom (OneInt i) = true
is_key_atom Str = true
is_key_atom (OneStr s) = true
is_key_atom _ = false

-- an atom of a constraint
abbrev pub is_broad : Atom → Bool
is_broad Null = true
is_broad Bools = true
is_broad Int = true
is_broad Str = true
is_broad Obj = true
is_broad (Sub c) = true
is_broad Vec = true
is_broad Dict = true
is_broad Keyset = true
is_broad _ = false

-- ---- leaves and keys

pub data Written : Type 0 where
  Never : Written
  Cell : Written
  Of : List Atom → Written

abbrev pub ALeaf : Lang Written
ALeaf ts Never = ts ≡ Word (codes "Never") ∷ []
ALeaf ts Cell = ts ≡ Word (codes "Cell") ∷ []
ALeaf ts (Of xs) = Atoms ts xs

abbrev pub AKeyType : Lang Written
AKeyType ts Never = ts ≡ Word (codes "Never") ∷ []
AKeyType ts Cell = ⊥
AKeyType ts (Of xs) = Atoms ts xs × (list_all is_key_atom xs ≡ true)

-- ---- types

pub data TypeAtom : Type 0 where
  Uninit : TypeAtom
  -- a container without brackets is whole
  Plain : Atom → TypeAtom
  VecOf : Written → TypeAtom
  DictOf : Written → Written → TypeAtom
  KeysetOf : Written → TypeAtom

abbrev pub ATypeAtom : Lang TypeAtom
ATypeAtom ts Uninit = ts ≡ Word (codes "Uninit") ∷ []
ATypeAtom ts (Plain a) = AnAtom ts a
ATypeAtom ts (VecOf leaf) = Behind (Word (codes "Vec") ∷ Mark 60 ∷ []) (Ended ALeaf (Mark 62 ∷ [])) ts leaf
ATypeAtom ts (DictOf key leaf) =
    Behind (Word (codes "Dict") ∷ Mark 60 ∷ []) (Both (Ended AKeyType (Mark 44 ∷ [])) (Ended ALeaf (Mark 62 ∷ []))) ts (key, leaf)
ATypeAtom ts (KeysetOf key) = Behind (Word (codes "Keyset") ∷ Mark 60 ∷ []) (Ended AKeyType (Mark 62 ∷ [])) ts key

abbrev pub type_line : TypeAtom → ℕ
type_line Uninit = 0
type_line (Plain a) = line a
type_line (VecOf leaf) = 6
type_line (DictOf key leaf) = 7
type_line (KeysetOf key) = 8

pub data WrittenType : Type 0 where
  NeverType : WrittenType
  CellType : WrittenType
  UninitCell : WrittenType
  AtomsType : List TypeAtom → WrittenType

abbrev pub AWrittenType : Lang WrittenType
AWrittenType ts NeverType = ts ≡ Word (codes "Never") ∷ []
AWrittenType ts CellType = ts ≡ Word (codes "Cell") ∷ []
AWrittenType ts UninitCell = ts ≡ Word (codes "Uninit") ∷ Mark 124 ∷ Word (codes "Cell") ∷ []
AWrittenType ts (AtomsType xs) = Separated 124 ATypeAtom ts xs × Ascend 0 (map type_line xs)

-- Cell, or atoms of a constraint
abbrev pub AWrittenConstraint : Lang Written
AWrittenConstraint ts Never = ⊥
AWrittenConstraint ts Cell = ts ≡ Word (codes "Cell") ∷ []
AWrittenConstraint ts (Of xs) = Atoms ts xs × (list_all is_broad xs ≡ true)

-- ---- what is written stands for a type

-- the class that an atom names
abbrev pub atom_classes : Atom → List (List ℕ)
atom_classes (Exact c) = c ∷ []
atom_classes (Sub c) = c ∷ []
atom_classes _ = []

abbrev pub classes_in : Written → List (List ℕ)
classes_in Never = []
classes_in Cell = []
classes_in (Of xs) = flat_map atom_classes xs

abbrev pub type_classes : TypeAtom → List (List ℕ)
type_classes Uninit = []
type_classes (Plain a) = atom_classes a
type_classes (VecOf leaf) = classes_in leaf
type_classes (DictOf key leaf) = classes_in key ++ classes_in leaf
type_classes (KeysetOf key) = classes_in key

-- a leaf with an atom more, whose class has the number
abbrev pub leaf_with : ℕ → Atom → Leaf → Leaf
leaf_with n Null l = record l { null = true }
leaf_with n False l = record l { no = true }
leaf_with n True l = record l { yes = true }
leaf_with n Bools l = record l { no = true; yes = true }
leaf_with n Int l = record l { int = ints.Any }
leaf_with n (OneInt i) l = record l { int = ints.One i }
leaf_with n Str l = record l { str = strs.Any }
leaf_with n (OneStr s) l = record l { str = str_part s }
leaf_with n Obj l = record l { obj = objs.Any }
leaf_with n (Exact c) l = record l { obj = objs.Exact n }
leaf_with n (Sub c) l = record l { obj = objs.Sub n }
leaf_with n Vec l = record l { vec = true }
leaf_with n Dict l = record l { dict = true }
leaf_with n Keyset l = record l { keyset = true }

-- a leaf with further atoms, of which the first class has the number
abbrev pub leaf_from : ℕ → List Atom → Leaf → Leaf
leaf_from n [] l = l
leaf_from n (a ∷ more) l = leaf_from (n + length (atom_classes a)) more (leaf_with n a l)

abbrev pub leaf_of : ℕ → Written → Leaf
leaf_of n Never = never_leaf
leaf_of n Cell = cell_leaf
leaf_of n (Of xs) = leaf_from n xs never_leaf

-- a type with an atom more
abbrev pub type_plain : ℕ → Atom → HType → HType
type_plain n Null t = record t { null = true }
type_plain n False t = record t { no = true }
type_plain n True t = record t { yes = true }
type_plain n Bools t = record t { no = true; yes = true }
type_plain n Int t = record t { int = ints.Any }
type_plain n (OneInt i) t = record t { int = ints.One i }
type_plain n Str t = record t { str = strs.Any }
type_plain n (OneStr s) t = record t { str = str_part s }
type_plain n Obj t = record t { obj = objs.Any }
type_plain n (Exact c) t = record t { obj = objs.Exact n }
type_plain n (Sub c) t = record t { obj = objs.Sub n }
type_plain n Vec t = record t { vec = Some cell_leaf }
type_plain n Dict t = record t { dict = Some (key_leaf, cell_leaf) }
type_plain n Keyset t = record t { keyset = Some key_leaf }

abbrev pub type_with : ℕ → TypeAtom → HType → HType
type_with n Uninit t = record t { uninit = true }
type_with n (Plain a) t = type_plain n a t
type_with n (VecOf leaf) t = record t { vec = Some (leaf_of n leaf) }
type_with n (DictOf key leaf) t = record t { dict = Some (leaf_of n key, leaf_of n leaf) }
type_with n (KeysetOf key) t = record t { keyset = Some (leaf_of n key) }

abbrev pub type_from : ℕ → List TypeAtom → HType → HType
type_from n [] t = t
type_from n (a ∷ more) t = type_from (n + length (type_classes a)) more (type_with n a t)

abbrev pub of_atoms : List TypeAtom → TypeParts
of_atoms xs = record { t = type_from 0 xs never; classes = flat_map type_classes xs }

abbrev pub of_type : HType → TypeParts
of_type t = record { t = t; classes = [] }

abbrev pub type_of : WrittenType → TypeParts
type_of NeverType = of_type never
type_of CellType = of_type cell
type_of UninitCell = of_type (record cell { uninit = true })
type_of (AtomsType xs) = of_atoms xs

abbrev pub constraint_of : Written → TypeParts
constraint_of Never = of_type never
constraint_of Cell = of_type cell
constraint_of (Of xs) = of_atoms (map Plain xs)

abbrev pub AType : Lang TypeParts
AType = Means type_of AWrittenType

abbrev pub AConstraint : Lang TypeParts
AConstraint = Means constraint_of AWrittenConstraint
