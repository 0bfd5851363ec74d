-- How the reader's atoms of types stand for those of the grammar, and what stands behind their first words.
use Rattle.std.specs.Prelude.{[], ◌∷◌}
use Rattle.hhas_lex.specs.Tokens.{Mark}
use Rattle.hhbc_repo.specs.Languages.{Lang, Says, Behind, Either, Means}
use Rattle.hhbc_repo.specs.TypeSyntax as grammar
use Rattle.hhbc_repo.specs.TypeSyntax.{ATypeAtom}
use Rattle.hhas_read.specs.declared.atoms.Atom.TheVariants as atoms
use Rattle.hhas_read.specs.declared.atoms.Head.{Head}
use Rattle.hhas_read.specs.declared.atoms.Head.TheVariants as heads
use Rattle.hhas_read.specs.declared.leaves.Written.{Written}
use Rattle.hhas_read.specs.declared.types.TypeAtom.{TypeAtom}
use Rattle.hhas_read.specs.declared.types.TypeAtom.TheVariants as types
use Rattle.hhas_read.specs.Atoms.{Tail}
use Rattle.hhas_read.specs.LeafSyntax.{LeafTo, KeyTo, KeyAndLeaf, written_of}
use Rattle.hhas_read.specs.Written.{atom_of}

abbrev pub type_atom_of : TypeAtom → grammar.TypeAtom
type_atom_of types.Uninit = grammar.Uninit
type_atom_of (types.Plain a) = grammar.Plain (atom_of a)
type_atom_of (types.VecOf leaf) = grammar.VecOf (written_of leaf)
type_atom_of (types.DictOf key leaf) = grammar.DictOf (written_of key) (written_of leaf)
type_atom_of (types.KeysetOf key) = grammar.KeysetOf (written_of key)

abbrev pub ATypeAtomOf : Lang TypeAtom
ATypeAtomOf ts a = ATypeAtom ts (type_atom_of a)

abbrev pub dict_of : Written × Written → TypeAtom
dict_of p = types.DictOf p.0 p.1

abbrev pub TypeTail : Head → Lang TypeAtom
TypeTail heads.Vec = Either (Says [] (types.Plain atoms.Vec)) (Behind (Mark 60 ∷ []) (Means types.VecOf LeafTo))
TypeTail heads.Dict = Either (Says [] (types.Plain atoms.Dict)) (Behind (Mark 60 ∷ []) (Means dict_of KeyAndLeaf))
TypeTail heads.Keyset = Either (Says [] (types.Plain atoms.Keyset)) (Behind (Mark 60 ∷ []) (Means types.KeysetOf (KeyTo 62)))
TypeTail h = Means types.Plain (Tail h)
