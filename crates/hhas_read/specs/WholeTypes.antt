-- How the reader's types stand for those of the grammar.
use Rattle.std.specs.Prelude.{ℕ, true, List, [], ◌∷◌, ◌++◌, map, codes}
use Rattle.hhas_lex.specs.Tokens.{Mark, Word}
use Rattle.hhbc_repo.specs.Languages.{Lang, Says, Behind, Either, Means}
use Rattle.hhbc_repo.specs.TypeSyntax as grammar
use Rattle.hhbc_repo.specs.TypeSyntax.{ATypeAtom, AWrittenType, type_line}
use Rattle.hhas_read.specs.declared.types.TypeAtom.{TypeAtom}
use Rattle.hhas_read.specs.declared.types.TypeAtom.TheVariants.{Uninit}
use Rattle.hhas_read.specs.declared.whole_types.WrittenType.{WrittenType}
use Rattle.hhas_read.specs.declared.whole_types.WrittenType.TheVariants as whole
use Rattle.hhas_read.specs.Lists.{Elem, Rising}
use Rattle.hhas_read.specs.TypeWords.{type_atom_of}

abbrev pub written_type_of : WrittenType → grammar.WrittenType
written_type_of whole.Never = grammar.NeverType
written_type_of whole.Cell = grammar.CellType
written_type_of whole.UninitCell = grammar.UninitCell
written_type_of (whole.Atoms xs) = grammar.AtomsType (map type_atom_of xs)

abbrev pub AWrittenTypeOf : Lang WrittenType
AWrittenTypeOf ts t = AWrittenType ts (written_type_of t)

-- an atom of a type that may stand from a line on
abbrev pub TypeAtomFrom : ℕ → Lang TypeAtom
TypeAtomFrom least = Elem type_atom_of ATypeAtom type_line (λ a. true) least

abbrev pub TypeAtomsFrom : ℕ → Lang (List TypeAtom)
TypeAtomsFrom least = Rising type_atom_of ATypeAtom type_line (λ a. true) least

-- the atoms of a type behind the first ones
abbrev pub TypeAtomsBehind : List TypeAtom → Lang (List TypeAtom)
TypeAtomsBehind first = Means (λ xs. first ++ xs) (TypeAtomsFrom 1)

-- what stands behind `Uninit` and a bar
abbrev pub UninitMore : Lang WrittenType
UninitMore = Either (Means whole.Atoms (TypeAtomsBehind (Uninit ∷ []))) (Says (Word (codes "Cell") ∷ []) whole.UninitCell)

-- and behind `Uninit`
abbrev pub UninitTail : Lang WrittenType
UninitTail = Either (Says [] (whole.Atoms (Uninit ∷ []))) (Behind (Mark 124 ∷ []) UninitMore)
