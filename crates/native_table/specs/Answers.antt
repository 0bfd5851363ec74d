-- What natives take and answer.
use Rattle.std.specs.Prelude.{◌≡◌, ℕ, Bool, true, List, length, Option, Some, None, Result, Ok, Err, IfOk}
use Rattle.std.specs.Coded.{Coded-set}
use Rattle.std.specs.List.{list_all}
use Rattle.hack_values.specs.Objects.{no_object}
use Rattle.hack_values.specs.View.{vals_of}
use Rattle.hack_values.specs.declared.cell.Cell.{Cell}
use Rattle.hack_values.specs.declared.memory.NoMemory.{NoMemory}
use Rattle.type_lattice.specs.Classes.{Tree}
use Rattle.type_lattice.specs.Member.{Heap, cell_in}
use Rattle.type_lattice.specs.declared.types.HType.{HType}
use Rattle.native_table.specs.declared.answer.NativeAnswer.{NativeAnswer}
use Rattle.native_table.specs.declared.answer.NativeAnswer.TheVariants.{Value, Throws}
use Rattle.native_table.specs.contracts.answer.NativeAnswer.{the_row}
use mathlib.Core.HLevel.{Unit-prop}

-- none is or holds an object
abbrev pub no_objects : List Cell → Bool
no_objects cells = list_all no_object (vals_of cells)

-- what a native may be called with
abbrev pub AreArguments : ℕ → List Cell → Type 0
AreArguments arity args = (length args ≡ arity) × (no_objects args ≡ true)

-- the answer with a value, and without one
abbrev pub answered : Option Cell → NativeAnswer
answered None = Throws
answered (Some c) = Value c

-- of the type, whatever classes and objects there are
abbrev pub IsOfType : Cell → HType → Type 0
IsOfType c t = (tree : Tree) (heap : Heap) → cell_in tree heap c t ≡ true

-- that an answer is this one has one proof at most
pub answer_prop : (wanted : NativeAnswer) (r : Result NativeAnswer NoMemory) → IsProp (IfOk r (λ answer. answer ≡ wanted))
answer_prop wanted (Ok answer) = Coded-set the_row.coded answer wanted
answer_prop wanted (Err e) = Unit-prop
