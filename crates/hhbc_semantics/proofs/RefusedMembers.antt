-- A member sequence that is refused changes nothing.
use Rattle.std.proofs.Common.{ℕ, zero, suc, ℤ, refl, Bool, true, false, Option, Some, None, List, [], ◌∷◌, Result, Ok, Err, slice_get}
use Rattle.hack_values.specs.declared.cell.Cell.{Cell}
use Rattle.hack_values.specs.declared.cell.Cell.TheVariants as cells
use Rattle.hack_values.specs.declared.cell.Slot.{Slot}
use Rattle.hack_values.specs.declared.cell.Slot.TheVariants as slots
use Rattle.hack_values.specs.declared.operators.OpFault.{OpFault}
use Rattle.hack_values.specs.declared.operators.OpFault.TheVariants as op_faults
use Rattle.hack_values.specs.Operations.{op2}
use Rattle.hhbc_ops.specs.declared.words.QueryMode.TheVariants as modes
use Rattle.hhbc_ops.specs.declared.words.QueryMode.{QueryMode}
use Rattle.hhbc_repo.specs.declared.code.Base.{Base}
use Rattle.hhbc_repo.specs.declared.code.Base.TheVariants as bases
use Rattle.hhbc_repo.specs.declared.code.MemberKey.{MemberKey}
use Rattle.hhbc_repo.specs.declared.code.MemberKey.TheVariants as keys
use Rattle.hhbc_repo.specs.declared.code.Final.{Final}
use Rattle.hhbc_repo.specs.declared.code.Final.TheVariants as finals
use Rattle.hhbc_repo.specs.declared.body.Body.{Body}
use Rattle.hhbc_repo.specs.Codes.{keys_of}
use Rattle.hhbc_semantics.specs.Setting.{Setting}
use Rattle.hhbc_semantics.specs.Frames.{World, Frame, Turn}
use Rattle.hhbc_semantics.specs.Exceptions.{raises}
use Rattle.hhbc_semantics.specs.Operands.{with_cell, with_cells, with_local, read_slot, name_or_none, found_slot, or_null, with_this}
use Rattle.hhbc_semantics.specs.Operators.{with_answer, faulted, with_int, operator_of}
use Rattle.hhbc_semantics.specs.PathKeys.{PathKey}
use Rattle.hhbc_semantics.specs.PathReads.{Miss, Missing, NotContainer, BadKey, get}
use Rattle.hhbc_semantics.specs.PathWrites.{WriteFault, Missed, TooLarge, TooDeep, Wrote, Base as Rebased, Under, Refused}
use Rattle.hhbc_semantics.specs.MemberSequences.{slot_cell, with_base_local, with_base, with_key, with_keys, is_quiet, missed, with_read, query, write_fails, after_write, perform_final}
use Rattle.hhbc_semantics.specs.MemberLaws.{ChangesNothing, RefusedMembersChangeNothing}

module _ (f : Frame) (w : World) where
  abbrev Kept : Turn → Type 0
  Kept t = ChangesNothing w t

  raised : (class : ℕ) (message : List ℕ) → Kept (raises class message w)
  raised class message = record { class = class; message = message; raised = refl }

  miss_keeps : (miss : Miss) → Kept (missed miss w)
  miss_keeps Missing = raised _ _
  miss_keeps NotContainer = raised _ _
  miss_keeps BadKey = raised _ _

  fault_keeps : (fault : OpFault) → Kept (faulted fault w)
  fault_keeps op_faults.BadOperand = raised _ _
  fault_keeps op_faults.DivisionByZero = raised _ _
  fault_keeps op_faults.TooLarge = refl
  fault_keeps op_faults.NoMemory = refl

  write_fault_keeps : (fault : WriteFault) → Kept (write_fails fault w)
  write_fault_keeps (Missed miss) = miss_keeps miss
  write_fault_keeps TooLarge = refl
  write_fault_keeps TooDeep = refl

  read_keeps : (read : Result Cell Miss) (go : Cell → Turn) → ((c : Cell) → Kept (go c)) → Kept (with_read read w go)
  read_keeps (Ok c) go h = h c
  read_keeps (Err miss) go h = miss_keeps miss

  answer_keeps : (answer : Result Cell OpFault) (go : Cell → Turn) → ((c : Cell) → Kept (go c)) → Kept (with_answer answer w go)
  answer_keeps (Ok c) go h = h c
  answer_keeps (Err fault) go h = fault_keeps fault

  int_keeps : (c : Cell) (go : ℤ → Turn) → ((i : ℤ) → Kept (go i)) → Kept (with_int c w go)
  int_keeps cells.Null go h = raised _ _
  int_keeps (cells.Bool b) go h = raised _ _
  int_keeps (cells.Int i) go h = h i
  int_keeps (cells.Str s) go h = raised _ _
  int_keeps (cells.Vec items) go h = raised _ _
  int_keeps (cells.Dict entries) go h = raised _ _
  int_keeps (cells.Keyset elements) go h = raised _ _
  int_keeps (cells.Obj n) go h = raised _ _

  slot_keeps : (o : Option Slot) (name : List ℕ) (go : Cell → Turn) → ((c : Cell) → Kept (go c)) → Kept (read_slot o name w go)
  slot_keeps None name go h = refl
  slot_keeps (Some slots.Uninit) name go h = raised _ _
  slot_keeps (Some (slots.Cell c)) name go h = h c

  local_keeps : (b : Body) (l : ℕ) (go : Cell → Turn) → ((c : Cell) → Kept (go c)) → Kept (with_local b f w l go)
  local_keeps b l go h = slot_keeps (slice_get f.locals l) (name_or_none (slice_get b.locals l)) go h

  indexed_keeps : (o : Option Slot) (go : Cell → Turn) → ((c : Cell) → Kept (go c)) → Kept (slot_cell o w go)
  indexed_keeps None go h = refl
  indexed_keeps (Some slots.Uninit) go h = refl
  indexed_keeps (Some (slots.Cell c)) go h = h c

  found_keeps : (o : Option Slot) (go : Slot → Turn) → ((s : Slot) → Kept (go s)) → Kept (found_slot o w go)
  found_keeps None go h = refl
  found_keeps (Some s) go h = h s

  this_keeps : (this : Option ℕ) (go : ℕ → Turn) → ((n : ℕ) → Kept (go n)) → Kept (with_this this w go)
  this_keeps None go h = raised _ _
  this_keeps (Some n) go h = h n

  base_local_keeps : (quiet : Bool) (b : Body) (l : ℕ) (go : Cell → Turn) → ((c : Cell) → Kept (go c)) → Kept (with_base_local quiet b f w l go)
  base_local_keeps true b l go h = found_keeps (slice_get f.locals l) _ (λ s. h (or_null s))
  base_local_keeps false b l go h = local_keeps b l go h

  base_keeps : (quiet : Bool) (base : Base) (b : Body) (go : Cell → Turn) → ((c : Cell) → Kept (go c)) → Kept (with_base quiet base b f w go)
  base_keeps quiet (bases.Local l) b go h = base_local_keeps quiet b l go h
  base_keeps quiet (bases.Stack i) b go h = indexed_keeps (slice_get f.stack i) go h
  base_keeps quiet bases.This b go h = this_keeps f.this _ (λ n. h _)

  key_keeps : (b : Body) (k : MemberKey) (go : PathKey → Turn) → ((p : PathKey) → Kept (go p)) → Kept (with_key k b f w go)
  key_keeps b (keys.ElemStack i) go h = indexed_keeps (slice_get f.stack i) _ (λ c. h _)
  key_keeps b (keys.ElemLocal l) go h = local_keeps b l _ (λ c. h _)
  key_keeps b (keys.ElemText s) go h = h _
  key_keeps b (keys.ElemInt i) go h = h _
  key_keeps b (keys.PropStack i) go h = indexed_keeps (slice_get f.stack i) _ (λ c. h _)
  key_keeps b (keys.PropLocal l) go h = local_keeps b l _ (λ c. h _)
  key_keeps b (keys.PropName name) go h = h _
  key_keeps b (keys.NullsafeName name) go h = h _
  key_keeps b keys.Append go h = h _

  keys_keep : (b : Body) (ks : List MemberKey) (go : List PathKey → Turn) → ((ps : List PathKey) → Kept (go ps)) → Kept (with_keys ks b f w go)
  keys_keep b [] go h = h []
  keys_keep b (k ∷ ks) go h = key_keeps b k _ (λ p. keys_keep b ks _ (λ ps. h (p ∷ ps)))

  cell_keeps : (ss : List Slot) (go : Cell → List Slot → Turn) → ((c : Cell) (rest : List Slot) → Kept (go c rest)) → Kept (with_cell ss w go)
  cell_keeps [] go h = refl
  cell_keeps (slots.Uninit ∷ rest) go h = refl
  cell_keeps (slots.Cell c ∷ rest) go h = h c rest

  cells_keep : (n : ℕ) (taken : List Cell) (ss : List Slot) (go : List Cell → List Slot → Turn) → ((cs : List Cell) (rest : List Slot) → Kept (go cs rest)) → Kept (with_cells n taken ss w go)
  cells_keep zero taken ss go h = h taken ss
  cells_keep (suc n) taken ss go h = cell_keeps ss _ (λ c rest. cells_keep n (c ∷ taken) rest go h)

  written_keeps : (base : Base) (wrote : Wrote) (stack : List Slot) → Kept (after_write base wrote f stack w)
  written_keeps base (Rebased c) stack = tt
  written_keeps base (Under n i c) stack = tt
  written_keeps base (Refused fault) stack = write_fault_keeps fault

  query_keeps : (mode : QueryMode) (read : Result Cell Miss) (below : List Slot) → Kept (query mode read f below w)
  query_keeps modes.CGet read below = read_keeps read _ (λ c. tt)
  query_keeps modes.CGetQuiet read below = tt
  query_keeps modes.Isset read below = tt

  final_keeps : (S : Setting) (base : Base) (last : Final) (c : Cell) (path : List PathKey) → Kept (perform_final S base last c path f w)
  final_keeps S base (finals.Query n mode k) c path = cells_keep n [] f.stack _ (λ cs below. query_keeps mode _ below)
  final_keeps S base (finals.Set n k) c path = cell_keeps f.stack _ (λ v rest. cells_keep n [] rest _ (λ cs below. written_keeps base _ _))
  final_keeps S base (finals.SetOp n op k) c path =
      cell_keeps f.stack _ (λ v rest. cells_keep n [] rest _ (λ cs below. read_keeps (get S.repo w.heap c path) _
      (λ old. answer_keeps (op2 (operator_of op) old v) _ (λ new. written_keeps base _ _))))
  final_keeps S base (finals.IncDec n op k) c path =
      cells_keep n [] f.stack _ (λ cs below. read_keeps (get S.repo w.heap c path) _ (λ old. int_keeps old _ (λ i. written_keeps base _ _)))
  final_keeps S base (finals.Unset n k) c path = cells_keep n [] f.stack _ (λ cs below. written_keeps base _ _)

pub refused_members_change_nothing : RefusedMembersChangeNothing
refused_members_change_nothing S m b f w =
    base_keeps f w (is_quiet m.last) m.base b _ (λ c. keys_keep f w b (keys_of m) _ (λ path. final_keeps f w S m.base m.last c path))
