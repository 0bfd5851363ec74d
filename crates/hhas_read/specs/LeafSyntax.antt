-- How the reader's leaves and keys stand for those of the grammar.
use Rattle.std.specs.Prelude.{ℕ, Bool, true, false, List, [], ◌∷◌, map}
use Rattle.hhas_lex.specs.Tokens.{Mark}
use Rattle.hhbc_repo.specs.Languages.{Lang, Both, Ended}
use Rattle.hhbc_repo.specs.TypeSyntax as grammar
use Rattle.hhbc_repo.specs.TypeSyntax.{AnAtom, ALeaf, AKeyType, line, is_key_atom}
use Rattle.hhas_read.specs.declared.atoms.Atom.{Atom}
use Rattle.hhas_read.specs.declared.atoms.Head.{Head}
use Rattle.hhas_read.specs.declared.atoms.Head.TheVariants as heads
use Rattle.hhas_read.specs.declared.leaves.Written.{Written}
use Rattle.hhas_read.specs.declared.leaves.Written.TheVariants as written
use Rattle.hhas_read.specs.Lists.{Elem, Rising}
use Rattle.hhas_read.specs.Written.{atom_of}

abbrev pub written_of : Written → grammar.Written
written_of written.Never = grammar.Never
written_of written.Cell = grammar.Cell
written_of (written.Of xs) = grammar.Of (map atom_of xs)

abbrev pub ALeafOf : Lang Written
ALeafOf ts w = ALeaf ts (written_of w)

abbrev pub AKeyOf : Lang Written
AKeyOf ts w = AKeyType ts (written_of w)

-- the atoms of keys, or all
abbrev pub among : Bool → grammar.Atom → Bool
among true = is_key_atom
among false = λ a. true

-- the last line that one of them has
abbrev pub last_line : Bool → ℕ
last_line true = 4
last_line false = 8

abbrev pub head_line : Head → ℕ
head_line heads.Null = 1
head_line heads.False = 2
head_line heads.True = 2
head_line heads.Bools = 2
head_line heads.Int = 3
head_line heads.Str = 4
head_line heads.Obj = 5
head_line heads.Vec = 6
head_line heads.Dict = 7
head_line heads.Keyset = 8

abbrev pub head_among : Bool → Head → Bool
head_among true heads.Int = true
head_among true heads.Str = true
head_among true h = false
head_among false h = true

abbrev pub AtomFrom : Bool → ℕ → Lang Atom
AtomFrom keys least = Elem atom_of AnAtom line (among keys) least

abbrev pub AtomsFrom : Bool → ℕ → Lang (List Atom)
AtomsFrom keys least = Rising atom_of AnAtom line (among keys) least

-- ---- in brackets

abbrev pub LeafTo : Lang Written
LeafTo = Ended ALeafOf (Mark 62 ∷ [])

abbrev pub KeyTo : ℕ → Lang Written
KeyTo end = Ended AKeyOf (Mark end ∷ [])

abbrev pub KeyAndLeaf : Lang (Written × Written)
KeyAndLeaf = Both (KeyTo 44) LeafTo
