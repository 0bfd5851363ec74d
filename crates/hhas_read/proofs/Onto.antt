-- Each type, leaf and atom of the grammar is what one of the reader's stands for.
use Rattle.std.proofs.Common.{◌≡◌, [], ◌∷◌, map, refl, ap, ap₂}
use Rattle.hhbc_repo.specs.TypeSyntax as grammar
use Rattle.hhas_read.specs.declared.atoms.Atom.TheVariants as atoms
use Rattle.hhas_read.specs.declared.leaves.Written.TheVariants as written
use Rattle.hhas_read.specs.declared.types.TypeAtom.TheVariants as types
use Rattle.hhas_read.specs.declared.whole_types.WrittenType.TheVariants as whole
use Rattle.hhas_read.specs.LeafSyntax.{written_of}
use Rattle.hhas_read.specs.TypeWords.{type_atom_of}
use Rattle.hhas_read.specs.WholeTypes.{written_type_of}
use Rattle.hhas_read.specs.Written.{atom_of}

-- the function has each value
abbrev pub Onto : {U V : Type 0} → (U → V) → Type 0
Onto {U} {V} g = (v : V) → (u : U) × (g u ≡ v)

each_onto : {U V : Type 0} (g : U → V) → Onto g → Onto (map g)
each_onto g onto [] = ([], refl)
each_onto g onto (v ∷ vs) = let rest = each_onto g onto vs in ((onto v).0 ∷ rest.0, ap₂ (λ a l. a ∷ l) (onto v).1 rest.1)

pub atom_onto : Onto atom_of
atom_onto grammar.Null = (atoms.Null, refl)
atom_onto grammar.False = (atoms.False, refl)
atom_onto grammar.True = (atoms.True, refl)
atom_onto grammar.Bools = (atoms.Bools, refl)
atom_onto grammar.Int = (atoms.Int, refl)
atom_onto (grammar.OneInt i) = (atoms.OneInt i, refl)
atom_onto grammar.Str = (atoms.Str, refl)
atom_onto (grammar.OneStr s) = (atoms.OneStr s, refl)
atom_onto grammar.Obj = (atoms.Obj, refl)
atom_onto (grammar.Exact c) = (atoms.Exact c, refl)
atom_onto (grammar.Sub c) = (atoms.Sub c, refl)
atom_onto grammar.Vec = (atoms.Vec, refl)
atom_onto grammar.Dict = (atoms.Dict, refl)
atom_onto grammar.Keyset = (atoms.Keyset, refl)

pub written_onto : Onto written_of
written_onto grammar.Never = (written.Never, refl)
written_onto grammar.Cell = (written.Cell, refl)
written_onto (grammar.Of xs) = let all = each_onto atom_of atom_onto xs in (written.Of all.0, ap grammar.Of all.1)

pub type_atom_onto : Onto type_atom_of
type_atom_onto grammar.Uninit = (types.Uninit, refl)
type_atom_onto (grammar.Plain a) = let one = atom_onto a in (types.Plain one.0, ap grammar.Plain one.1)
type_atom_onto (grammar.VecOf leaf) = let one = written_onto leaf in (types.VecOf one.0, ap grammar.VecOf one.1)
type_atom_onto (grammar.DictOf key leaf) =
    let one = written_onto key in let two = written_onto leaf in (types.DictOf one.0 two.0, ap₂ grammar.DictOf one.1 two.1)
type_atom_onto (grammar.KeysetOf key) = let one = written_onto key in (types.KeysetOf one.0, ap grammar.KeysetOf one.1)

pub type_onto : Onto written_type_of
type_onto grammar.NeverType = (whole.Never, refl)
type_onto grammar.CellType = (whole.Cell, refl)
type_onto grammar.UninitCell = (whole.UninitCell, refl)
type_onto (grammar.AtomsType xs) = let all = each_onto type_atom_of type_atom_onto xs in (whole.Atoms all.0, ap grammar.AtomsType all.1)
