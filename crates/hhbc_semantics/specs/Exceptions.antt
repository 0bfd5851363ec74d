-- Exceptions that the machine itself makes.
use Rattle.std.specs.Prelude.{ℕ, List, [], ◌∷◌, ◌++◌, length}
use Rattle.hack_values.specs.declared.cell.Cell.TheVariants as cells
use Rattle.hack_values.specs.declared.heap.Object.{Object}
use Rattle.hhbc_semantics.specs.Frames.{World, Turn, Raises}

-- an exception: an object of a built-in class, with its message
abbrev pub exception : ℕ → List ℕ → Object
exception class message = record { class = class; props = cells.Str message ∷ [] }

-- the built-in classes of exceptions, by number
abbrev pub any_exception : ℕ
any_exception = 0

abbrev pub out_of_bounds : ℕ
out_of_bounds = 1

abbrev pub invalid_operation : ℕ
invalid_operation = 2

abbrev pub undefined_variable : ℕ
undefined_variable = 3

abbrev pub division_by_zero : ℕ
division_by_zero = 4

abbrev pub typehint_violation : ℕ
typehint_violation = 5

-- the object is made in the heap and raised
abbrev pub raises : ℕ → List ℕ → World → Turn
raises class message w = Raises (cells.Obj (length w.heap)) (record w { heap = w.heap ++ exception class message ∷ [] })

abbrev pub refuses : List ℕ → World → Turn
refuses message w = raises invalid_operation message w
