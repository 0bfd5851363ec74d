-- What stands behind the first word of an atom.
use Rattle.std.specs.Prelude.{◌≡◌, ◌≤◌, ℕ, List, [], ◌∷◌, length}
use Rattle.hhas_lex.specs.Tokens.{Mark, LessEqual, Str}
use Rattle.hhbc_repo.specs.Languages.{Lang, Says, Behind, Either, Means}
use Rattle.hhbc_repo.specs.CodeSyntax.{AnInteger, AWord}
use Rattle.hhas_read.specs.declared.atoms.Atom.{Atom}
use Rattle.hhas_read.specs.declared.atoms.Atom.TheVariants as atoms
use Rattle.hhas_read.specs.declared.atoms.Head.{Head}
use Rattle.hhas_read.specs.declared.atoms.Head.TheVariants as heads

-- a string that a type may have
abbrev pub ShortString : Lang (List ℕ)
ShortString ts s = (ts ≡ Str s ∷ []) × (length s ≤ 32)

abbrev pub Tail : Head → Lang Atom
Tail heads.Null = Says [] atoms.Null
Tail heads.False = Says [] atoms.False
Tail heads.True = Says [] atoms.True
Tail heads.Bools = Says [] atoms.Bools
Tail heads.Int = Either (Says [] atoms.Int) (Behind (Mark 61 ∷ []) (Means atoms.OneInt AnInteger))
Tail heads.Str = Either (Says [] atoms.Str) (Behind (Mark 61 ∷ []) (Means atoms.OneStr ShortString))
Tail heads.Obj = Either (Either (Says [] atoms.Obj) (Behind (Mark 61 ∷ []) (Means atoms.Exact AWord))) (Behind (LessEqual ∷ []) (Means atoms.Sub AWord))
Tail heads.Vec = Says [] atoms.Vec
Tail heads.Dict = Says [] atoms.Dict
Tail heads.Keyset = Says [] atoms.Keyset
