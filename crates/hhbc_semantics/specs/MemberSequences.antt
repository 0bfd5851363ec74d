-- What member sequences do. The operands are read first: the base, then the keys in order; then the path is read or written.
use Rattle.std.specs.Prelude.{ℕ, Bool, true, false, List, [], ◌∷◌, Option, Some, None, Result, Ok, Err, slice_get, codes}
use Rattle.hack_values.specs.declared.key.Key.TheVariants as elements
use Rattle.hack_values.specs.declared.cell.Cell.{Cell}
use Rattle.hack_values.specs.declared.cell.Cell.TheVariants as cells
use Rattle.hack_values.specs.declared.cell.Slot.{Slot}
use Rattle.hack_values.specs.declared.cell.Slot.TheVariants as slots
use Rattle.hack_values.specs.Operations.{op2}
use Rattle.hhbc_ops.specs.declared.words.QueryMode.{QueryMode}
use Rattle.hhbc_ops.specs.declared.words.QueryMode.TheVariants as modes
use Rattle.hhbc_repo.specs.declared.body.Body.{Body}
use Rattle.hhbc_repo.specs.declared.code.MemberSeq.{MemberSeq}
use Rattle.hhbc_repo.specs.declared.code.Base.{Base}
use Rattle.hhbc_repo.specs.declared.code.Base.TheVariants as bases
use Rattle.hhbc_repo.specs.declared.code.MemberKey.{MemberKey}
use Rattle.hhbc_repo.specs.declared.code.MemberKey.TheVariants as keys
use Rattle.hhbc_repo.specs.declared.code.Final.{Final}
use Rattle.hhbc_repo.specs.declared.code.Final.TheVariants as finals
use Rattle.hhbc_repo.specs.Codes.{keys_of}
use Rattle.hhbc_semantics.specs.Outcome.{Underflow, WrongFlavour, Size, Depth}
use Rattle.hhbc_semantics.specs.Setting.{Setting}
use Rattle.hhbc_semantics.specs.Frames.{World, Frame, Turn, Goes, Ends, Fails, Sticks, ahead, set_local}
use Rattle.hhbc_semantics.specs.Exceptions.{out_of_bounds, raises, refuses}
use Rattle.hhbc_semantics.specs.Operands.{with_cell, with_cells, with_local, with_slot, or_null, with_this}
use Rattle.hhbc_semantics.specs.Operators.{with_answer, operator_of, stepped, shown, with_int}
use Rattle.hhbc_semantics.specs.PathKeys.{PathKey, Elem, Prop, Nullsafe, Append, elem_key, prop_key}
use Rattle.hhbc_semantics.specs.PathReads.{Miss, Missing, NotContainer, BadKey, get}
use Rattle.hhbc_semantics.specs.PathWrites.{Sets, Unsets, WriteFault, Missed, TooLarge, TooDeep, Wrote, Base as Rebased, Under, Refused, write, set_property}

-- ---- operands

abbrev pub slot_cell : Option Slot → World → (Cell → Turn) → Turn
slot_cell None w go = Ends (Sticks Underflow) w
slot_cell (Some slots.Uninit) w go = Ends (Sticks WrongFlavour) w
slot_cell (Some (slots.Cell c)) w go = go c

-- the cell of a slot, counted from the top before the code
abbrev pub with_indexed : Frame → World → ℕ → (Cell → Turn) → Turn
with_indexed f w i go = slot_cell (slice_get f.stack i) w go

-- whether an Uninit base counts as Null
abbrev pub quiet_mode : QueryMode → Bool
quiet_mode modes.CGet = false
quiet_mode modes.CGetQuiet = true
quiet_mode modes.Isset = true

abbrev pub is_quiet : Final → Bool
is_quiet (finals.Query n mode k) = quiet_mode mode
is_quiet (finals.Set n k) = false
is_quiet (finals.SetOp n op k) = false
is_quiet (finals.IncDec n op k) = false
is_quiet (finals.Unset n k) = false

abbrev pub with_base_local : Bool → Body → Frame → World → ℕ → (Cell → Turn) → Turn
with_base_local true b f w l go = with_slot f w l (λ s. go (or_null s))
with_base_local false b f w l go = with_local b f w l go

abbrev pub with_base : Bool → Base → Body → Frame → World → (Cell → Turn) → Turn
with_base quiet (bases.Local l) b f w go = with_base_local quiet b f w l go
with_base quiet (bases.Stack i) b f w go = with_indexed f w i go
with_base quiet bases.This b f w go = with_this f.this w (λ n. go (cells.Obj n))

abbrev pub with_key : MemberKey → Body → Frame → World → (PathKey → Turn) → Turn
with_key (keys.ElemStack i) b f w go = with_indexed f w i (λ c. go (elem_key c))
with_key (keys.ElemLocal l) b f w go = with_local b f w l (λ c. go (elem_key c))
with_key (keys.ElemText s) b f w go = go (Elem (elements.Str s))
with_key (keys.ElemInt i) b f w go = go (Elem (elements.Int i))
with_key (keys.PropStack i) b f w go = with_indexed f w i (λ c. go (prop_key c))
with_key (keys.PropLocal l) b f w go = with_local b f w l (λ c. go (prop_key c))
with_key (keys.PropName name) b f w go = go (Prop name)
with_key (keys.NullsafeName name) b f w go = go (Nullsafe name)
with_key keys.Append b f w go = go Append

abbrev pub with_keys : List MemberKey → Body → Frame → World → (List PathKey → Turn) → Turn
with_keys [] b f w go = go []
with_keys (k ∷ ks) b f w go = with_key k b f w (λ p. with_keys ks b f w (λ ps. go (p ∷ ps)))

-- the stack below so many cells, which are dropped
abbrev pub below_cells : ℕ → List Slot → World → (List Slot → Turn) → Turn
below_cells n stack w go = with_cells n [] stack w (λ dropped rest. go rest)

-- ---- reading

abbrev pub missed : Miss → World → Turn
missed Missing w = raises out_of_bounds (codes "missing key") w
missed NotContainer w = refuses (codes "not a container") w
missed BadKey w = refuses (codes "bad key") w

-- what the path leads to, or the exception that it leads nowhere
abbrev pub with_read : Result Cell Miss → World → (Cell → Turn) → Turn
with_read (Ok c) w go = go c
with_read (Err m) w go = missed m w

abbrev pub read_or_null : Result Cell Miss → Cell
read_or_null (Ok c) = c
read_or_null (Err m) = cells.Null

abbrev pub not_null : Cell → Bool
not_null cells.Null = false
not_null _ = true

abbrev pub to_slot : Frame → List Slot → Cell → Frame
to_slot f below c = ahead f (slots.Cell c ∷ below)

abbrev pub query : QueryMode → Result Cell Miss → Frame → List Slot → World → Turn
query modes.CGet read f below w = with_read read w (λ c. Goes (to_slot f below c) w)
query modes.CGetQuiet read f below w = Goes (to_slot f below (read_or_null read)) w
query modes.Isset read f below w = Goes (to_slot f below (cells.Bool (not_null (read_or_null read)))) w

-- ---- writing

abbrev pub write_fails : WriteFault → World → Turn
write_fails (Missed m) w = missed m w
write_fails TooLarge w = Ends (Fails Size) w
write_fails TooDeep w = Ends (Fails Depth) w

-- a base that is a slot of the stack is a copy, which is dropped with its change; an object as base stays that object
abbrev pub rebase : Base → Cell → Frame → Frame
rebase (bases.Local l) c f = set_local f l (slots.Cell c)
rebase (bases.Stack i) c f = f
rebase bases.This c f = f

-- the frame at its next position with this stack, once the write is done
abbrev pub after_write : Base → Wrote → Frame → List Slot → World → Turn
after_write base (Rebased c) f stack w = Goes (ahead (rebase base c f) stack) w
after_write base (Under n i c) f stack w = Goes (ahead f stack) (record w { heap = set_property w.heap n i c })
after_write base (Refused fault) f stack w = write_fails fault w

-- ---- what is done at the last key

abbrev pub perform_final : Setting → Base → Final → Cell → List PathKey → Frame → World → Turn
perform_final S base (finals.Query n mode k) c path f w =
    below_cells n f.stack w (λ below. query mode (get S.repo w.heap c path) f below w)
perform_final S base (finals.Set n k) c path f w =
    with_cell f.stack w (λ v rest. below_cells n rest w
    (λ below. after_write base (write S.repo w.heap (Sets v) c path) f (slots.Cell v ∷ below) w))
perform_final S base (finals.SetOp n op k) c path f w =
    with_cell f.stack w (λ v rest. below_cells n rest w
    (λ below. with_read (get S.repo w.heap c path) w
    (λ old. with_answer (op2 (operator_of op) old v) w
    (λ new. after_write base (write S.repo w.heap (Sets new) c path) f (slots.Cell new ∷ below) w))))
perform_final S base (finals.IncDec n op k) c path f w =
    below_cells n f.stack w (λ below. with_read (get S.repo w.heap c path) w
    (λ old. with_int old w
    (λ i. after_write base (write S.repo w.heap (Sets (cells.Int (stepped op i))) c path) f (slots.Cell (cells.Int (shown op i)) ∷ below) w)))
perform_final S base (finals.Unset n k) c path f w =
    below_cells n f.stack w (λ below. after_write base (write S.repo w.heap Unsets c path) f below w)

-- what a member sequence does
abbrev pub member : Setting → MemberSeq → Body → Frame → World → Turn
member S m b f w =
    with_base (is_quiet m.last) m.base b f w (λ c. with_keys (keys_of m) b f w
    (λ path. perform_final S m.base m.last c path f w))
