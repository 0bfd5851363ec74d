-- The checks of a position by themselves.
use Rattle.std.specs.Prelude.{Bool, true, false, ◌&&◌, nat_le, List, [], ◌∷◌, length}
use Rattle.hhbc_ops.specs.declared.words.Flavour.{Flavour}
use Rattle.hhbc_ops.specs.declared.words.Flavour.TheVariants.{C, U}
use Rattle.hhbc_repo.specs.declared.body.Position.{Position}
use Rattle.hhbc_repo.specs.Codes.{pops, slots_read}
use Rattle.hhbc_repo.specs.Shapes.{Check, Underflow, WrongFlavour, reaches, all_within, agree, all_cells}

-- the checks of a position's assertions and code on a stack
abbrev pub checks_on : Position → List Flavour → List Check
checks_on p stack = (
  Underflow,
  reaches p.asserts (length stack) && (nat_le (length (pops p.code)) (length stack) && all_within (slots_read p.code) (length stack)),
)
    ∷ (WrongFlavour, agree (pops p.code) stack && all_cells (slots_read p.code) stack)
    ∷ []

abbrev pub only_cells : List Flavour → Bool
only_cells [] = true
only_cells (C ∷ more) = only_cells more
only_cells (U ∷ more) = false
