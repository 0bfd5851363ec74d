-- Objects, their classes, and the object that a frame was called on.
use Rattle.std.specs.Prelude.{ℕ, nat_eq, Bool, true, false, List, [], ◌∷◌, ◌++◌, map, flat_map, Option, Some, None, length, slice_get, codes, if◌then◌else◌}
use Rattle.std.specs.Cmp.Lexicographic.{pointwise}
use Rattle.hack_values.specs.declared.cell.Cell.{Cell}
use Rattle.hack_values.specs.declared.cell.Cell.TheVariants as cells
use Rattle.hack_values.specs.declared.cell.Slot.TheVariants as slots
use Rattle.hack_values.specs.declared.heap.Object.{Object}
use Rattle.type_lattice.specs.Classes.{chain}
use Rattle.type_lattice.specs.Member.{class_at, is_below}
use Rattle.hhbc_repo.specs.declared.repo.Class.{Class}
use Rattle.hhbc_repo.specs.declared.repo.Const.{Const}
use Rattle.hhbc_repo.specs.declared.repo.Property.{Property}
use Rattle.hhbc_repo.specs.Linked.{Linked}
use Rattle.hhbc_repo.specs.Bodies.{tree_of, properties_of}
use Rattle.hhbc_repo.specs.LinkFaults.{at_class}
use Rattle.hhbc_semantics.specs.Setting.{Setting}
use Rattle.hhbc_semantics.specs.Outcome.{Undefined}
use Rattle.hhbc_semantics.specs.Frames.{World, Frame, Turn, Goes, Raises, Ends, Fails, ahead, push}
use Rattle.hhbc_semantics.specs.Exceptions.{any_exception, refuses}
use Rattle.hhbc_semantics.specs.Operands.{with_cell, with_this}

-- the initial values of all properties, by number: that of Exception's message first
abbrev pub initial_values : Linked → List Cell
initial_values r = cells.Str [] ∷ flat_map (λ (c : Class). map (λ (p : Property). p.initial) c.props) r.classes

abbrev pub if_there : Option Cell → List Cell
if_there None = []
if_there (Some c) = c ∷ []

-- an object of the class, those of its oldest ancestor first
abbrev pub new_object : Linked → ℕ → Object
new_object r c = record { class = c; props = flat_map (λ q. if_there (slice_get (initial_values r) q)) (properties_of r c) }

-- it is made in the heap and pushed
abbrev pub make_object : Setting → ℕ → Frame → World → Turn
make_object S c f w = Goes (push f (cells.Obj (length w.heap))) (record w { heap = w.heap ++ new_object S.repo c ∷ [] })

-- the cell is an object in the heap, of a class below this one
abbrev pub is_instance : Setting → World → ℕ → Cell → Bool
is_instance S w c (cells.Obj n) = is_below (tree_of S.repo) (class_at w.heap n) c
is_instance S w c _ = false

abbrev pub instance_of : Setting → ℕ → Frame → World → Turn
instance_of S c f w = with_cell f.stack w (λ x rest. Goes (ahead f (slots.Cell (cells.Bool (is_instance S w c x)) ∷ rest)) w)

-- an exception is raised, and nothing else
abbrev pub throw : Setting → Frame → World → Turn
throw S f w = with_cell f.stack w (λ x rest. if is_instance S w any_exception x then Raises x w else refuses (codes "not an exception") w)

abbrev pub is_there : Option ℕ → Bool
is_there None = false
is_there (Some c) = true

abbrev pub is_object : World → Cell → Bool
is_object w (cells.Obj n) = is_there (class_at w.heap n)
is_object w _ = false

abbrev pub lock_object : Frame → World → Turn
lock_object f w = with_cell f.stack w (λ x rest. if is_object w x then Goes (ahead f f.stack) w else refuses (codes "bad operand") w)

-- the object that the frame was called on; quietly, Null where there is none
abbrev pub get_this : Frame → World → Turn
get_this f w = with_this f.this w (λ n. Goes (push f (cells.Obj n)) w)

abbrev pub this_or_null : Option ℕ → Cell
this_or_null None = cells.Null
this_or_null (Some n) = cells.Obj n

abbrev pub get_this_quietly : Frame → World → Turn
get_this_quietly f w = Goes (push f (this_or_null f.this)) w

abbrev pub check_this : Frame → World → Turn
check_this f w = with_this f.this w (λ n. Goes (ahead f f.stack) w)

-- the constants that each class declares, by class; the built-in ones have none
abbrev pub constants : Linked → List (List Const)
constants r = [] ∷ [] ∷ [] ∷ [] ∷ [] ∷ [] ∷ map (λ (c : Class). c.consts) r.classes

abbrev pub value_named : List ℕ → List Const → Option Cell → Option Cell
value_named name [] later = later
value_named name (k ∷ ks) later = if pointwise nat_eq k.name name then Some k.value else value_named name ks later

-- in the first of these classes that declares it
abbrev pub constant_on : List (List Const) → List ℕ → List ℕ → Option Cell
constant_on table name [] = None
constant_on table name (c ∷ cs) = value_named name (at_class (slice_get table c)) (constant_on table name cs)

-- the constant of this name: in the class, then in its ancestors, the nearest first
abbrev pub constant_of : Linked → ℕ → List ℕ → Option Cell
constant_of r c name = constant_on (constants r) name (chain (tree_of r) c)

abbrev pub push_found : Option Cell → Frame → World → Turn
push_found None f w = Ends (Fails Undefined) w
push_found (Some c) f w = Goes (push f c) w

abbrev pub get_constant : Setting → List ℕ → ℕ → Frame → World → Turn
get_constant S name c f w = push_found (constant_of S.repo c name) f w
