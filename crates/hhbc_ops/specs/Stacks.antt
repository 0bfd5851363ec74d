-- What instructions do to the stack.
use Rattle.std.specs.Prelude.{List, [], ◌∷◌}
use Rattle.hhbc_ops.specs.declared.stack_use.StackUse.{StackUse}
use Rattle.hhbc_ops.specs.declared.stack_use.StackUse.TheVariants as stacks
use Rattle.hhbc_ops.specs.declared.words.Flavour.{Flavour}
use Rattle.hhbc_ops.specs.declared.words.Flavour.TheVariants.{C, U}
use Rattle.hhbc_ops.specs.declared.words.Pops.{Pops as Popped}
use Rattle.hhbc_ops.specs.declared.words.Pops.TheVariants as popped

-- the slots that an instruction takes off the stack, the topmost first: slots of these flavours, or as many cells as its
-- count says and below them slots of these flavours
pub data Pops : Type 0 where
  Fixed : List Flavour → Pops
  Counted : List Flavour → Pops

-- the slots that the program tells
abbrev pub told_pops : Popped → Pops
told_pops (popped.Fixed flavours) = Fixed flavours.now
told_pops (popped.Counted flavours) = Counted flavours.now

-- what the program keeps of a row: the slots that are taken off, and those that are put there
abbrev pub stack_pops : StackUse → Pops
stack_pops stacks.Untouched = Fixed []
stack_pops stacks.ToC = Fixed []
stack_pops stacks.ToU = Fixed []
stack_pops stacks.DropC = Fixed (C ∷ [])
stack_pops stacks.DropU = Fixed (U ∷ [])
stack_pops stacks.CToC = Fixed (C ∷ [])
stack_pops stacks.CToCC = Fixed (C ∷ [])
stack_pops stacks.CCToC = Fixed (C ∷ C ∷ [])
stack_pops stacks.CCCToC = Fixed (C ∷ C ∷ C ∷ [])
stack_pops stacks.CellsToC = Counted []
stack_pops stacks.CallToC = Counted (U ∷ U ∷ [])
stack_pops stacks.MethodCallToC = Counted (U ∷ C ∷ [])

abbrev pub stack_pushes : StackUse → List Flavour
stack_pushes stacks.Untouched = []
stack_pushes stacks.ToC = C ∷ []
stack_pushes stacks.ToU = U ∷ []
stack_pushes stacks.DropC = []
stack_pushes stacks.DropU = []
stack_pushes stacks.CToC = C ∷ []
stack_pushes stacks.CToCC = C ∷ C ∷ []
stack_pushes stacks.CCToC = C ∷ []
stack_pushes stacks.CCCToC = C ∷ []
stack_pushes stacks.CellsToC = C ∷ []
stack_pushes stacks.CallToC = C ∷ []
stack_pushes stacks.MethodCallToC = C ∷ []
