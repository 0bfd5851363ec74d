-- What codes do to the stack and to iterators, as the program tells it.
use Rattle.std.specs.Prelude.{◌≡◌, ◌++◌, List}
use Rattle.hhbc_ops.specs.declared.words.Flavour.{Flavour}
use Rattle.hhbc_repo.specs.declared.code.Code.{Code}
use Rattle.hhbc_repo.specs.declared.effects.Effect.{Effect}
use Rattle.hhbc_repo.specs.declared.effects.IterUse.{IterUse}
use Rattle.hhbc_repo.specs.declared.effects.IterUse.TheVariants as uses
use Rattle.hhbc_repo.specs.Codes.{Stack, some_cells, turns, pops, pushes}
use Rattle.hhbc_repo.specs.Codes as codes

-- the slots that are taken away: cells, and others below them
abbrev pub taken : Effect → List Flavour
taken e = some_cells e.cells ++ e.below.now

abbrev pub IsEffect : Effect → Stack → Type 0
IsEffect e s = (taken e ≡ s.pops) × (e.pushes.now ≡ s.pushes)

abbrev pub stack_of : Code → Stack
stack_of c = turns (pops c) (pushes c)

abbrev pub used : IterUse → codes.IterUse
used (uses.Begin i) = codes.Begin i
used (uses.Advance i) = codes.Advance i
used (uses.Free i) = codes.Free i
