-- Tests of types and kinds, and output.
use Rattle.std.specs.Prelude.{ℕ, pos, ◌+◌, nat_lt, Bool, true, false, ◌∷◌, ◌++◌, List, Option, Some, None, length, codes, if◌then◌else◌}
use Rattle.hack_values.specs.declared.cell.Cell.{Cell}
use Rattle.hack_values.specs.declared.cell.Cell.TheVariants as cells
use Rattle.hack_values.specs.declared.cell.Slot.{Slot}
use Rattle.hack_values.specs.declared.cell.Slot.TheVariants as slots
use Rattle.hack_values.specs.Casts.{text_of}
use Rattle.type_lattice.specs.declared.types.HType.{HType}
use Rattle.type_lattice.specs.Member.{is_member}
use Rattle.hhbc_ops.specs.declared.words.IsTypeOp.{IsTypeOp}
use Rattle.hhbc_ops.specs.declared.words.IsTypeOp.TheVariants as istypes
use Rattle.hhbc_repo.specs.declared.body.Body.{Body}
use Rattle.hhbc_repo.specs.Bodies.{tree_of}
use Rattle.hhbc_semantics.specs.Setting.{Setting}
use Rattle.hhbc_semantics.specs.Outcome.{Output}
use Rattle.hhbc_semantics.specs.Frames.{World, Frame, Turn, Goes, Ends, Fails, ahead, push}
use Rattle.hhbc_semantics.specs.Exceptions.{typehint_violation, raises, refuses}
use Rattle.hhbc_semantics.specs.Operands.{with_cell, with_local, with_slot}
use Rattle.hhbc_semantics.specs.Limits.{max_output}

-- the kind of a cell
abbrev pub kind_of : Cell → IsTypeOp
kind_of cells.Null = istypes.Null
kind_of (cells.Bool b) = istypes.Bool
kind_of (cells.Int i) = istypes.Int
kind_of (cells.Str s) = istypes.Str
kind_of (cells.Vec vs) = istypes.Vec
kind_of (cells.Dict es) = istypes.Dict
kind_of (cells.Keyset ks) = istypes.Keyset
kind_of (cells.Obj n) = istypes.Obj

abbrev pub same_kind : IsTypeOp → IsTypeOp → Bool
same_kind istypes.Null istypes.Null = true
same_kind istypes.Bool istypes.Bool = true
same_kind istypes.Int istypes.Int = true
same_kind istypes.Str istypes.Str = true
same_kind istypes.Vec istypes.Vec = true
same_kind istypes.Dict istypes.Dict = true
same_kind istypes.Keyset istypes.Keyset = true
same_kind istypes.Obj istypes.Obj = true
same_kind _ _ = false

abbrev pub is_of_kind : IsTypeOp → Cell → Cell
is_of_kind k c = cells.Bool (same_kind k (kind_of c))

-- whether the topmost cell is of the kind, or a local is
abbrev pub test_kind : IsTypeOp → Frame → World → Turn
test_kind k f w = with_cell f.stack w (λ c rest. Goes (ahead f (slots.Cell (is_of_kind k c) ∷ rest)) w)

abbrev pub test_local_kind : IsTypeOp → ℕ → Body → Frame → World → Turn
test_local_kind k l b f w = with_local b f w l (λ c. Goes (push f (is_of_kind k c)) w)

-- a slot that isn't of the type violates it
abbrev pub verified : Setting → HType → Slot → Frame → World → Turn
verified S t s f w =
    if is_member (tree_of S.repo) w.heap s t then Goes (ahead f f.stack) w else raises typehint_violation (codes "type") w

abbrev pub verify_local : Setting → ℕ → HType → Frame → World → Turn
verify_local S l t f w = with_slot f w l (λ s. verified S t s f w)

abbrev pub verify_top : Setting → HType → Frame → World → Turn
verify_top S t f w = with_cell f.stack w (λ c rest. verified S t (slots.Cell c) f w)

-- the text is written where the output stays within its limit
abbrev pub print_text : Option (List ℕ) → Frame → List Slot → World → Turn
print_text None f rest w = refuses (codes "bad operand") w
print_text (Some s) f rest w =
    if nat_lt max_output (length w.output + length s) then Ends (Fails Output) w
    else Goes (ahead f (slots.Cell (cells.Int (pos 1)) ∷ rest)) (record w { output = w.output ++ s })

abbrev pub print : Frame → World → Turn
print f w = with_cell f.stack w (λ c rest. print_text (text_of c) f rest w)
