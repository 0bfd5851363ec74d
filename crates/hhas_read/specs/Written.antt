-- How the reader's atoms stand for those of the grammar, and what may follow them.
use Rattle.std.specs.Prelude.{ℕ, true, false, List, ◌&&◌, not, nat_eq, codes}
use Rattle.hhas_lex.specs.Tokens.{Mark, LessEqual}
use Rattle.hhbc_repo.specs.Languages.{Lang}
use Rattle.hhbc_repo.specs.TypeSyntax as grammar
use Rattle.hhbc_repo.specs.TypeSyntax.{AnAtom}
use Rattle.hhas_read.specs.declared.atoms.Atom.{Atom}
use Rattle.hhas_read.specs.declared.atoms.Atom.TheVariants as atoms
use Rattle.hhas_read.specs.declared.atoms.Head.{Head}
use Rattle.hhas_read.specs.declared.atoms.Head.TheVariants as heads
use Rattle.hhas_read.specs.Reading.{Follow}

abbrev pub atom_of : Atom → grammar.Atom
atom_of atoms.Null = grammar.Null
atom_of atoms.False = grammar.False
atom_of atoms.True = grammar.True
atom_of atoms.Bools = grammar.Bools
atom_of atoms.Int = grammar.Int
atom_of (atoms.OneInt i) = grammar.OneInt i
atom_of atoms.Str = grammar.Str
atom_of (atoms.OneStr s) = grammar.OneStr s
atom_of atoms.Obj = grammar.Obj
atom_of (atoms.Exact c) = grammar.Exact c
atom_of (atoms.Sub c) = grammar.Sub c
atom_of atoms.Vec = grammar.Vec
atom_of atoms.Dict = grammar.Dict
atom_of atoms.Keyset = grammar.Keyset

abbrev pub AnAtomOf : Lang Atom
AnAtomOf ts a = AnAtom ts (atom_of a)

-- the word of a head
abbrev pub head_name : Head → List ℕ
head_name heads.Null = codes "Null"
head_name heads.False = codes "False"
head_name heads.True = codes "True"
head_name heads.Bools = codes "Bool"
head_name heads.Int = codes "Int"
head_name heads.Str = codes "Str"
head_name heads.Obj = codes "Obj"
head_name heads.Vec = codes "Vec"
head_name heads.Dict = codes "Dict"
head_name heads.Keyset = codes "Keyset"

-- no atom goes on with the token
abbrev pub ends_atom : Follow
ends_atom LessEqual = false
ends_atom (Mark b) = not (nat_eq b 61) && not (nat_eq b 60)
ends_atom t = true

-- and no type does
abbrev pub ends_type : Follow
ends_type LessEqual = false
ends_type (Mark b) = not (nat_eq b 61) && not (nat_eq b 60) && not (nat_eq b 124)
ends_type t = true
