-- Calls of functions, natives, methods and constructors.
use Rattle.std.specs.Prelude.{ℕ, Bool, ◌&&◌, nat_eq, ◌==◌, List, [], ◌∷◌, ◌++◌, Option, Some, None, length, codes, if◌then◌else◌}
use Rattle.std.specs.Cmp.Lexicographic.{pointwise}
use Rattle.std.specs.List.{list_all}
use Rattle.hack_values.specs.declared.cell.Cell.{Cell}
use Rattle.hack_values.specs.declared.cell.Cell.TheVariants as cells
use Rattle.hack_values.specs.declared.cell.Slot.{Slot}
use Rattle.hack_values.specs.declared.cell.Slot.TheVariants as slots
use Rattle.hack_values.specs.View.{val_of}
use Rattle.hack_values.specs.Objects.{no_object}
use Rattle.hack_values.specs.Natives.{native_value}
use Rattle.type_lattice.specs.Member.{class_at}
use Rattle.hhbc_repo.specs.declared.body.Body.{Body}
use Rattle.hhbc_repo.specs.Linked.{Linked}
use Rattle.hhbc_repo.specs.Bodies.{body_at}
use Rattle.hhbc_repo.specs.LookUps.{method_of}
use Rattle.hhbc_semantics.specs.Setting.{Setting, NativeRow}
use Rattle.hhbc_semantics.specs.Outcome.{Undefined}
use Rattle.hhbc_semantics.specs.Frames.{World, Frame, Turn, Goes, Calls, Ends, Fails, ahead}
use Rattle.hhbc_semantics.specs.Exceptions.{refuses}
use Rattle.hhbc_semantics.specs.Operands.{with_cell, with_cells, with_uninit}
use Rattle.hhbc_semantics.specs.Entering.{function_from, entered, entered_on}

-- the first native of the name
abbrev pub native_named : List NativeRow → List ℕ → Option NativeRow
native_named [] name = None
native_named (row ∷ rows) name = if pointwise nat_eq row.name name then Some row else native_named rows name

-- as many arguments as the native takes, and no object in them at any depth
abbrev pub takes : NativeRow → List Cell → Bool
takes row args = (length args == row.arity) && list_all (λ c. no_object (val_of c)) args

abbrev pub native_throws : List ℕ → World → Turn
native_throws name w = refuses (codes "native " ++ name) w

abbrev pub answered : Option Cell → List ℕ → Frame → List Slot → World → Turn
answered None name f below w = native_throws name w
answered (Some c) name f below w = Goes (ahead f (slots.Cell c ∷ below)) w

-- a native answers at once, with the slots of the call taken off the stack
abbrev pub call_native : Option NativeRow → List ℕ → List Cell → Frame → List Slot → World → Turn
call_native None name args f below w = Ends (Fails Undefined) w
call_native (Some row) name args f below w =
    if takes row args then answered (native_value name args) name f below w else native_throws name w

-- the function, or the native where there is none
abbrev pub call_function : Option (ℕ × Body) → Option NativeRow → List ℕ → List Cell → Frame → List Slot → World → Turn
call_function None native name args f below w = call_native native name args f below w
call_function (Some e) native name args f below w =
    if length args == e.1.params then Calls (entered e.0 e.1 args) w else Ends (Fails Undefined) w

-- the arguments, two Uninits below them
abbrev pub function_call : Setting → ℕ → List ℕ → Frame → World → Turn
function_call S n name f w =
    with_cells n [] f.stack w (λ args rest. with_uninit rest w (λ more. with_uninit more w
    (λ below. call_function (function_from 0 S.repo.functions name) (native_named S.natives name) name args f below w)))

abbrev pub no_method : List ℕ → World → Turn
no_method name w = refuses (codes "no method " ++ name) w

abbrev pub numbered : ℕ → Option Body → Option (ℕ × Body)
numbered n None = None
numbered n (Some b) = Some (n, b)

abbrev pub body_of_method : Linked → Option ℕ → Option (ℕ × Body)
body_of_method r None = None
body_of_method r (Some n) = numbered n (body_at r n)

-- the method of this name that the class has or inherits
abbrev pub method_in : Linked → Option ℕ → List ℕ → Option (ℕ × Body)
method_in r None name = None
method_in r (Some c) name = body_of_method r (method_of r c name)

-- without the method, or with another count of arguments, there is none
abbrev pub call_static : Option (ℕ × Body) → List ℕ → List Cell → World → Turn
call_static None name args w = no_method name w
call_static (Some e) name args w = if length args == e.1.params then Calls (entered e.0 e.1 args) w else no_method name w

-- a method of the class itself, two Uninits below the arguments
abbrev pub static_call : Setting → ℕ → List ℕ → ℕ → Frame → World → Turn
static_call S n name class f w =
    with_cells n [] f.stack w (λ args rest. with_uninit rest w (λ more. with_uninit more w
    (λ below. call_static (method_in S.repo (Some class) name) name args w)))

-- the class of the object that a cell names, where it is in the heap
abbrev pub class_named : World → Cell → Option ℕ
class_named w (cells.Obj n) = class_at w.heap n
class_named w _ = None

abbrev pub object_number : Cell → ℕ
object_number (cells.Obj n) = n
object_number _ = 0

abbrev pub call_on : ℕ → Option (ℕ × Body) → List ℕ → List Cell → World → Turn
call_on object None name args w = no_method name w
call_on object (Some e) name args w =
    if length args == e.1.params then Calls (entered_on object e.0 e.1 args) w else no_method name w

-- a method of the receiver's class: the arguments, an Uninit and the receiver below them
abbrev pub method_call : Setting → ℕ → List ℕ → Frame → World → Turn
method_call S n name f w =
    with_cells n [] f.stack w (λ args rest. with_uninit rest w (λ more. with_cell more w
    (λ receiver below. call_on (object_number receiver) (method_in S.repo (class_named w receiver) name) name args w)))

abbrev pub constructor : List ℕ
constructor = codes "__construct"

-- an object whose class has no constructor, and which is given no arguments, is made with Null
abbrev pub construct : Option ℕ → ℕ → Option (ℕ × Body) → List Cell → Frame → List Slot → World → Turn
construct (Some class) object None [] f below w = Goes (ahead f (slots.Cell cells.Null ∷ below)) w
construct class object method args f below w = call_on object method constructor args w

abbrev pub constructor_call : Setting → ℕ → Frame → World → Turn
constructor_call S n f w =
    with_cells n [] f.stack w (λ args rest. with_uninit rest w (λ more. with_cell more w
    (λ receiver below. construct (class_named w receiver) (object_number receiver) (method_in S.repo (class_named w receiver) constructor) args f below w)))
