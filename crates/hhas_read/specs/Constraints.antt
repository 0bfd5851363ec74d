-- How the reader's constraints stand for those of the grammar, and what stands behind the first words of their atoms.
use Rattle.std.specs.Prelude.{ℕ, Bool, true, false, List, [], ◌∷◌}
use Rattle.hhas_lex.specs.Tokens.{LessEqual}
use Rattle.hhbc_repo.specs.CodeSyntax.{AWord}
use Rattle.hhbc_repo.specs.Languages.{Lang, Says, Behind, Either, Means}
use Rattle.hhbc_repo.specs.TypeSyntax.{AnAtom, AWrittenConstraint, is_broad, line}
use Rattle.hhas_read.specs.declared.atoms.Atom.{Atom}
use Rattle.hhas_read.specs.declared.atoms.Atom.TheVariants as atoms
use Rattle.hhas_read.specs.declared.atoms.Head.{Head}
use Rattle.hhas_read.specs.declared.atoms.Head.TheVariants as heads
use Rattle.hhas_read.specs.declared.leaves.Written.{Written}
use Rattle.hhas_read.specs.Atoms.{Tail}
use Rattle.hhas_read.specs.LeafSyntax.{written_of}
use Rattle.hhas_read.specs.Lists.{Elem, Rising}
use Rattle.hhas_read.specs.Written.{atom_of}

abbrev pub AConstraintOf : Lang Written
AConstraintOf ts w = AWrittenConstraint ts (written_of w)

-- an atom of a constraint begins so
abbrev pub broad_head : Head → Bool
broad_head heads.False = false
broad_head heads.True = false
broad_head h = true

-- and goes on with no value
abbrev pub BroadTail : Head → Lang Atom
BroadTail heads.Int = Says [] atoms.Int
BroadTail heads.Str = Says [] atoms.Str
BroadTail heads.Obj = Either (Says [] atoms.Obj) (Behind (LessEqual ∷ []) (Means atoms.Sub AWord))
BroadTail h = Tail h

abbrev pub BroadFrom : ℕ → Lang Atom
BroadFrom least = Elem atom_of AnAtom line is_broad least

abbrev pub BroadsFrom : ℕ → Lang (List Atom)
BroadsFrom least = Rising atom_of AnAtom line is_broad least
