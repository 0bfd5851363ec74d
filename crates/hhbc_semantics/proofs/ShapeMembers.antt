-- What member sequences owe to shapes: none is stuck, and each leaves what it pushes on what is below the slots that it takes away.
use Rattle.std.proofs.Common.{◌≡◌, ℕ, zero, suc, ◌<◌, ◌≤◌, refl, sym, subst, Bool, true, false, nat_lt, Option, Some, None, List, [], ◌∷◌, ◌++◌, drop, Result, Ok, Err, inl, slice_get, length, arith, leb-true}
use Rattle.std.specs.Prelude.{flat_map, ℤ}
use Rattle.std.specs.List.{list_all}
use Rattle.std.proofs.lemmas.Bool.{and_parts}
use Rattle.hack_values.specs.declared.cell.Cell.{Cell}
use Rattle.hack_values.specs.declared.cell.Cell.TheVariants as cells
use Rattle.hack_values.specs.declared.cell.Slot.{Slot}
use Rattle.hack_values.specs.declared.cell.Slot.TheVariants as slots
use Rattle.hack_values.specs.declared.operators.OpFault.{OpFault}
use Rattle.hack_values.specs.declared.operators.OpFault.TheVariants as op_faults
use Rattle.hack_values.specs.Operations.{op2}
use Rattle.hhbc_ops.specs.declared.words.QueryMode.TheVariants as modes
use Rattle.hhbc_ops.specs.declared.words.QueryMode.{QueryMode}
use Rattle.hhbc_repo.specs.declared.code.Code.TheVariants as kinds
use Rattle.hhbc_repo.specs.declared.code.MemberSeq.{MemberSeq}
use Rattle.hhbc_repo.specs.declared.code.Base.{Base}
use Rattle.hhbc_repo.specs.declared.code.Base.TheVariants as bases
use Rattle.hhbc_repo.specs.declared.code.MemberKey.{MemberKey}
use Rattle.hhbc_repo.specs.declared.code.MemberKey.TheVariants as keys
use Rattle.hhbc_repo.specs.declared.code.Final.{Final}
use Rattle.hhbc_repo.specs.declared.code.Final.TheVariants as finals
use Rattle.hhbc_repo.specs.declared.body.Body.{Body}
use Rattle.hhbc_repo.specs.Linked.{Linked}
use Rattle.hhbc_repo.specs.Codes.{Flavour, C, U, some_cells, final_stack, keys_of, last_key, base_slots, key_slots}
use Rattle.hhbc_repo.specs.Shapes.{agree, all_within, is_cell, all_cells, stack_left}
use Rattle.hhbc_repo.specs.Within.{bounds_of, base_within, key_within, query_key_within, final_within}
use Rattle.hhbc_repo.proofs.Elements.{slice_inside}
use Rattle.hhbc_semantics.specs.Setting.{Setting}
use Rattle.hhbc_semantics.specs.Frames.{World, Frame, Turn, Goes, ahead}
use Rattle.hhbc_semantics.specs.Exceptions.{exception, raises}
use Rattle.hhbc_semantics.specs.Operands.{with_cell, with_cells, with_local, read_slot, name_or_none, with_this}
use Rattle.hhbc_semantics.specs.Operators.{with_answer, faulted, with_int, operator_of, shown}
use Rattle.hhbc_semantics.specs.PathKeys.{PathKey}
use Rattle.hhbc_semantics.specs.PathReads.{Miss, Missing, NotContainer, BadKey, get}
use Rattle.hhbc_semantics.specs.PathWrites.{WriteFault, Missed, TooLarge, TooDeep, Wrote, Base as Rebased, Under, Refused}
use Rattle.hhbc_semantics.specs.MemberSequences.{with_base, with_key, with_keys, is_quiet, missed, with_read, read_or_null, not_null, query, write_fails, after_write, perform_final, member}
use Rattle.hhbc_semantics.specs.ShapeAnalysis.{AreOfFlavours, AreLive}
use Rattle.hhbc_semantics.specs.ShapeRows.{Does, Follows, KeepsShape}
use Rattle.hhbc_semantics.proofs.Growing.{append_grows}
use Rattle.hhbc_semantics.proofs.ShapeOperands.{length_set}
use Rattle.hhbc_semantics.proofs.WritingLaws.{wrote_keeps}

-- ---- the slots that are read by their places

abbrev HasCells : List Slot → List ℕ → Type 0
HasCells stack [] = Unit {0}
HasCells stack (i ∷ is) = ((c : Cell) × (slice_get stack i ≡ Some (slots.Cell c))) × HasCells stack is

cell_there : (ss : List Slot) (fl : List Flavour) (i : ℕ) → AreOfFlavours ss fl → i < length fl → is_cell (slice_get fl i) ≡ true
    → (c : Cell) × (slice_get ss i ≡ Some (slots.Cell c))
cell_there [] [] i h l e = absurd (omega (arith, l))
cell_there [] (x ∷ fl) i h l e = absurd h
cell_there (s ∷ ss) [] i h l e = absurd h
cell_there (slots.Cell c ∷ ss) (x ∷ fl) zero h l e = (c, refl)
cell_there (slots.Uninit ∷ ss) (C ∷ fl) zero h l e = absurd h.0
cell_there (slots.Uninit ∷ ss) (U ∷ fl) zero h l e = absurd (cc)
cell_there (s ∷ ss) (x ∷ fl) (suc i) h l e = cell_there ss fl i h.1 (omega (arith, l)) e

cells_there : (ss : List Slot) (fl : List Flavour) (is : List ℕ) → AreOfFlavours ss fl → all_within is (length fl) ≡ true → all_cells is fl ≡ true → HasCells ss is
cells_there ss fl [] h l e = tt
cells_there ss fl (i ∷ is) h l e =
    let a = and_parts (nat_lt i (length fl)) _ l in
    let b = and_parts (is_cell (slice_get fl i)) _ e in
    (cell_there ss fl i h (leb-true (suc i) (length fl) a.0) b.0, cells_there ss fl is h a.1 b.1)

cells_apart : (ss : List Slot) (is js : List ℕ) → HasCells ss (is ++ js) → HasCells ss is × HasCells ss js
cells_apart ss [] js h = (tt, h)
cells_apart ss (i ∷ is) js h = let rest = cells_apart ss is js h.1 in ((h.0, rest.0), rest.1)

drop_next : {A : Type 0} (n : ℕ) (xs : List A) → drop n (drop 1 xs) ≡ drop (suc n) xs
drop_next zero [] = refl
drop_next (suc n) [] = refl
drop_next n (x ∷ xs) = refl

-- ---- the keys

abbrev KeyThere : Frame → MemberKey → Type 0
KeyThere f (keys.ElemStack i) = (c : Cell) × (slice_get f.stack i ≡ Some (slots.Cell c))
KeyThere f (keys.ElemLocal l) = (s : Slot) × (slice_get f.locals l ≡ Some s)
KeyThere f (keys.PropStack i) = (c : Cell) × (slice_get f.stack i ≡ Some (slots.Cell c))
KeyThere f (keys.PropLocal l) = (s : Slot) × (slice_get f.locals l ≡ Some s)
KeyThere f _ = Unit {0}

abbrev KeysThere : Frame → List MemberKey → Type 0
KeysThere f [] = Unit {0}
KeysThere f (k ∷ ks) = KeyThere f k × KeysThere f ks

local_there : (b : Body) (f : Frame) (l : ℕ) → length f.locals ≡ length b.locals → nat_lt l (length b.locals) ≡ true → (s : Slot) × (slice_get f.locals l ≡ Some s)
local_there b f l e h = let inside : suc l ≤ length b.locals = leb-true (suc l) (length b.locals) h in slice_inside f.locals l (omega (arith, e, inside))

module _ (classes : ℕ) (b : Body) (f : Frame) (e : length f.locals ≡ length b.locals) where
  key_there : (k : MemberKey) → key_within (bounds_of classes b) k ≡ true → HasCells f.stack (key_slots k) → KeyThere f k
  key_there (keys.ElemStack i) h c = c.0
  key_there (keys.ElemLocal l) h c = local_there b f l e h
  key_there (keys.ElemText s) h c = tt
  key_there (keys.ElemInt i) h c = tt
  key_there (keys.PropStack i) h c = c.0
  key_there (keys.PropLocal l) h c = local_there b f l e h
  key_there (keys.PropName name) h c = tt
  key_there (keys.NullsafeName name) h c = tt
  key_there keys.Append h c = tt

  keys_there : (dims : List MemberKey) (last : MemberKey) → list_all (query_key_within (bounds_of classes b)) dims ≡ true
      → key_within (bounds_of classes b) last ≡ true → HasCells f.stack (flat_map key_slots (dims ++ last ∷ [])) → KeysThere f (dims ++ last ∷ [])
  keys_there [] last h g c = (key_there last g (cells_apart f.stack (key_slots last) [] c).0, tt)
  keys_there (k ∷ dims) last h g c =
      let p = and_parts (query_key_within (bounds_of classes b) k) _ h in
      let a = cells_apart f.stack (key_slots k) _ c in
      (key_there k (and_parts (key_within (bounds_of classes b) k) _ p.0).0 a.0, keys_there dims last p.1 g a.1)

  last_within : (last : Final) → final_within (bounds_of classes b) last ≡ true → key_within (bounds_of classes b) (last_key last) ≡ true
  last_within (finals.Query n mode k) h = (and_parts (key_within (bounds_of classes b) k) _ (and_parts _ _ h).1).0
  last_within (finals.Set n k) h = (and_parts (key_within (bounds_of classes b) k) _ (and_parts _ _ h).1).0
  last_within (finals.SetOp n op k) h = (and_parts (key_within (bounds_of classes b) k) _ (and_parts _ _ h).1).0
  last_within (finals.IncDec n op k) h = (and_parts (key_within (bounds_of classes b) k) _ (and_parts _ _ h).1).0
  last_within (finals.Unset n k) h = (and_parts (key_within (bounds_of classes b) k) _ (and_parts _ _ h).1).0

-- ---- turns that are fine

module _ (r : Linked) (m : MemberSeq) (live : List Bool) (left : List Flavour) (f : Frame) (act : World → Turn) (w : World) where
  abbrev Fine : Turn → Type 0
  Fine t = Does r (kinds.Member m) live left f act w t

  raised : (class : ℕ) (message : List ℕ) → Fine (raises class message w)
  raised class message = (refl, append_grows w.heap (exception class message ∷ []))

  missed_fine : (miss : Miss) → Fine (missed miss w)
  missed_fine Missing = raised _ _
  missed_fine NotContainer = raised _ _
  missed_fine BadKey = raised _ _

  faulted_fine : (fault : OpFault) → Fine (faulted fault w)
  faulted_fine op_faults.BadOperand = raised _ _
  faulted_fine op_faults.DivisionByZero = raised _ _
  faulted_fine op_faults.TooLarge = λ n c e. e
  faulted_fine op_faults.NoMemory = λ n c e. e

  write_fails_fine : (fault : WriteFault) → Fine (write_fails fault w)
  write_fails_fine (Missed miss) = missed_fine miss
  write_fails_fine TooLarge = λ n c e. e
  write_fails_fine TooDeep = λ n c e. e

  read_fine : (read : Result Cell Miss) (go : Cell → Turn) → ((c : Cell) → Fine (go c)) → Fine (with_read read w go)
  read_fine (Ok c) go h = h c
  read_fine (Err miss) go h = missed_fine miss

  answer_fine : (answer : Result Cell OpFault) (go : Cell → Turn) → ((c : Cell) → Fine (go c)) → Fine (with_answer answer w go)
  answer_fine (Ok c) go h = h c
  answer_fine (Err fault) go h = faulted_fine fault

  int_fine : (c : Cell) (go : ℤ → Turn) → ((i : ℤ) → Fine (go i)) → Fine (with_int c w go)
  int_fine cells.Null go h = raised _ _
  int_fine (cells.Bool b) go h = raised _ _
  int_fine (cells.Int i) go h = h i
  int_fine (cells.Str s) go h = raised _ _
  int_fine (cells.Vec items) go h = raised _ _
  int_fine (cells.Dict entries) go h = raised _ _
  int_fine (cells.Keyset elements) go h = raised _ _
  int_fine (cells.Obj n) go h = raised _ _

  slot_read : (s : Slot) (name : List ℕ) (go : Cell → Turn) → ((c : Cell) → Fine (go c)) → Fine (read_slot (Some s) name w go)
  slot_read slots.Uninit name go h = raised _ _
  slot_read (slots.Cell c) name go h = h c

  local_fine : (b : Body) (l : ℕ) (go : Cell → Turn) → (s : Slot) × (slice_get f.locals l ≡ Some s) → ((c : Cell) → Fine (go c)) → Fine (with_local b f w l go)
  local_fine b l go s h = rw s.1 (slot_read s.0 (name_or_none (slice_get b.locals l)) go h)

  key_fine : (b : Body) (k : MemberKey) (go : PathKey → Turn) → KeyThere f k → ((p : PathKey) → Fine (go p)) → Fine (with_key k b f w go)
  key_fine b (keys.ElemStack i) go t h = rw t.1 (h _)
  key_fine b (keys.ElemLocal l) go t h = local_fine b l _ t (λ c. h _)
  key_fine b (keys.ElemText s) go t h = h _
  key_fine b (keys.ElemInt i) go t h = h _
  key_fine b (keys.PropStack i) go t h = rw t.1 (h _)
  key_fine b (keys.PropLocal l) go t h = local_fine b l _ t (λ c. h _)
  key_fine b (keys.PropName name) go t h = h _
  key_fine b (keys.NullsafeName name) go t h = h _
  key_fine b keys.Append go t h = h _

  keys_fine : (b : Body) (ks : List MemberKey) (go : List PathKey → Turn) → KeysThere f ks → ((ps : List PathKey) → Fine (go ps)) → Fine (with_keys ks b f w go)
  keys_fine b [] go t h = h []
  keys_fine b (k ∷ ks) go t h = key_fine b k _ t.0 (λ p. keys_fine b ks _ t.1 (λ ps. h (p ∷ ps)))

  this_fine : (this : Option ℕ) (go : ℕ → Turn) → ((n : ℕ) → Fine (go n)) → Fine (with_this this w go)
  this_fine None go h = raised _ _
  this_fine (Some n) go h = h n

  base_local_fine : (quiet : Bool) (b : Body) (l : ℕ) (go : Cell → Turn) → (s : Slot) × (slice_get f.locals l ≡ Some s)
      → ((c : Cell) → Fine (go c)) → Fine (with_base quiet (bases.Local l) b f w go)
  base_local_fine true b l go s h = rw s.1 (h _)
  base_local_fine false b l go s h = local_fine b l go s h

  base_fine : (classes : ℕ) (quiet : Bool) (base : Base) (b : Body) (go : Cell → Turn) → length f.locals ≡ length b.locals
      → base_within (bounds_of classes b) base ≡ true → HasCells f.stack (base_slots base) → ((c : Cell) → Fine (go c)) → Fine (with_base quiet base b f w go)
  base_fine classes quiet (bases.Local l) b go e i t h = base_local_fine quiet b l go (local_there b f l e i) h
  base_fine classes quiet (bases.Stack n) b go e i t h = rw t.0.1 (h _)
  base_fine classes quiet bases.This b go e i t h = this_fine f.this _ (λ n. h _)

  cell_fine : (ss : List Slot) (fl : List Flavour) (xs : List Flavour) (go : Cell → List Slot → Turn) → AreOfFlavours ss fl
      → length (C ∷ xs) ≤ length fl → agree (C ∷ xs) fl ≡ true
      → ((c : Cell) (rest : List Slot) → AreOfFlavours rest (drop 1 fl) → length xs ≤ length (drop 1 fl) → agree xs (drop 1 fl) ≡ true → Fine (go c rest))
      → Fine (with_cell ss w go)
  cell_fine [] [] xs go a l g h = absurd (omega (arith, l))
  cell_fine [] (x ∷ fl) xs go a l g h = absurd a
  cell_fine (s ∷ ss) [] xs go a l g h = absurd a
  cell_fine (slots.Cell c ∷ ss) (C ∷ fl) xs go a l g h = h c ss a.1 (omega (arith, l)) g
  cell_fine (slots.Cell c ∷ ss) (U ∷ fl) xs go a l g h = absurd a.0
  cell_fine (slots.Uninit ∷ ss) (C ∷ fl) xs go a l g h = absurd a.0
  cell_fine (slots.Uninit ∷ ss) (U ∷ fl) xs go a l g h = absurd (cc)

  cells_fine : (n : ℕ) (taken : List Cell) (ss : List Slot) (fl : List Flavour) (go : List Cell → List Slot → Turn) → AreOfFlavours ss fl
      → length (some_cells n) ≤ length fl → agree (some_cells n) fl ≡ true
      → ((cs : List Cell) (rest : List Slot) → AreOfFlavours rest (drop (length (some_cells n)) fl) → Fine (go cs rest))
      → Fine (with_cells n taken ss w go)
  cells_fine zero taken ss fl go a l g h = h taken ss a
  cells_fine (suc n) taken [] [] go a l g h = absurd (omega (arith, l))
  cells_fine (suc n) taken [] (x ∷ fl) go a l g h = absurd a
  cells_fine (suc n) taken (s ∷ ss) [] go a l g h = absurd a
  cells_fine (suc n) taken (slots.Cell c ∷ ss) (C ∷ fl) go a l g h = cells_fine n (c ∷ taken) ss fl go a.1 (omega (arith, l)) g h
  cells_fine (suc n) taken (slots.Cell c ∷ ss) (U ∷ fl) go a l g h = absurd a.0
  cells_fine (suc n) taken (slots.Uninit ∷ ss) (C ∷ fl) go a l g h = absurd a.0
  cells_fine (suc n) taken (slots.Uninit ∷ ss) (U ∷ fl) go a l g h = absurd (cc)

  -- ---- the frame behind the code

  module _ (lives : AreLive f.iters live) where
    goes_on : (g : Frame) → g.body ≡ f.body → g.iters ≡ f.iters → g.position ≡ suc f.position → length g.locals ≡ length f.locals
        → AreOfFlavours g.stack left → Follows (kinds.Member m) live left f g
    goes_on g body iters position locals stack = record {
      body = body;
      locals = locals;
      stack = stack;
      leads = inl (record { on = refl; position = position; iters = subst (λ is. AreLive is live) (sym iters) lives });
    }

    rebased_fine : (base : Base) (c : Cell) (stack : List Slot) → AreOfFlavours stack left → Fine (after_write base (Rebased c) f stack w)
    rebased_fine (bases.Local l) c stack h = (goes_on _ refl refl refl (length_set f.locals l (slots.Cell c)) h, λ n c e. e)
    rebased_fine (bases.Stack i) c stack h = (goes_on _ refl refl refl refl h, λ n c e. e)
    rebased_fine bases.This c stack h = (goes_on _ refl refl refl refl h, λ n c e. e)

    written_fine : (base : Base) (wrote : Wrote) (stack : List Slot) → AreOfFlavours stack left → Fine (after_write base wrote f stack w)
    written_fine base (Rebased c) stack h = rebased_fine base c stack h
    written_fine base (Under n i c) stack h = (goes_on _ refl refl refl refl h, wrote_keeps w.heap (Under n i c))
    written_fine base (Refused fault) stack h = write_fails_fine fault

    pushed_fine : (c : Cell) (below : List Slot) → AreOfFlavours (slots.Cell c ∷ below) left → Fine (Goes (ahead f (slots.Cell c ∷ below)) w)
    pushed_fine c below h = (goes_on _ refl refl refl refl h, λ n c e. e)

    query_fine : (mode : QueryMode) (read : Result Cell Miss) (below : List Slot) → ((c : Cell) → AreOfFlavours (slots.Cell c ∷ below) left)
        → Fine (query mode read f below w)
    query_fine modes.CGet read below h = read_fine read _ (λ c. pushed_fine c below (h c))
    query_fine modes.CGetQuiet read below h = let c = read_or_null read in pushed_fine c below (h c)
    query_fine modes.Isset read below h = let c = cells.Bool (not_null (read_or_null read)) in pushed_fine c below (h c)

    left_by : (v : Cell) (below : List Slot) (n : ℕ) (fl : List Flavour) → left ≡ C ∷ drop (suc (length (some_cells n))) fl
        → AreOfFlavours below (drop (length (some_cells n)) (drop 1 fl)) → AreOfFlavours (slots.Cell v ∷ below) left
    left_by v below n fl q h =
        subst (λ fs. AreOfFlavours (slots.Cell v ∷ below) fs) (sym q)
        (tt, subst (λ fs. AreOfFlavours below fs) (drop_next (length (some_cells n)) fl) h)

    final_fine : (S : Setting) (base : Base) (last : Final) (c : Cell) (path : List PathKey) (fl : List Flavour) → AreOfFlavours f.stack fl
        → length (final_stack last).pops ≤ length fl → agree (final_stack last).pops fl ≡ true
        → left ≡ (final_stack last).pushes ++ drop (length (final_stack last).pops) fl
        → Fine (perform_final S base last c path f w)
    final_fine S base (finals.Query n mode k) c path fl a l g q =
        cells_fine n [] f.stack fl _ a l g
        (λ cs below h. query_fine mode _ below (λ v. subst (λ fs. AreOfFlavours (slots.Cell v ∷ below) fs) (sym q) (tt, h)))
    final_fine S base (finals.Set n k) c path fl a l g q =
        cell_fine f.stack fl (some_cells n) _ a l g (λ v rest a2 l2 g2. cells_fine n [] rest (drop 1 fl) _ a2 l2 g2
        (λ cs below h. written_fine base _ _ (left_by v below n fl q h)))
    final_fine S base (finals.SetOp n op k) c path fl a l g q =
        cell_fine f.stack fl (some_cells n) _ a l g (λ v rest a2 l2 g2. cells_fine n [] rest (drop 1 fl) _ a2 l2 g2
        (λ cs below h. read_fine (get S.repo w.heap c path) _ (λ old. answer_fine (op2 (operator_of op) old v) _
        (λ new. written_fine base _ _ (left_by new below n fl q h)))))
    final_fine S base (finals.IncDec n op k) c path fl a l g q =
        cells_fine n [] f.stack fl _ a l g (λ cs below h. read_fine (get S.repo w.heap c path) _ (λ old. int_fine old _
        (λ i. written_fine base _ _ (subst (λ fs. AreOfFlavours (slots.Cell (cells.Int (shown op i)) ∷ below) fs) (sym q) (tt, h)))))
    final_fine S base (finals.Unset n k) c path fl a l g q =
        cells_fine n [] f.stack fl _ a l g (λ cs below h. written_fine base _ _ (subst (λ fs. AreOfFlavours below fs) (sym q) h))

pub member_keeps_shape : (S : Setting) (classes : ℕ) (m : MemberSeq) → KeepsShape S.repo classes (kinds.Member m) (member S m)
member_keeps_shape S classes m b f s ready =
    let inside = and_parts (base_within (bounds_of classes b) m.base) _ ready.within in
    let dims = and_parts (list_all (query_key_within (bounds_of classes b)) m.dims) _ inside.1 in
    let last = and_parts (final_within (bounds_of classes b) m.last) _ dims.1 in
    let read = cells_there f.stack s.stack (base_slots m.base ++ flat_map key_slots (keys_of m)) ready.stack ready.places ready.are_cells in
    let apart = cells_apart f.stack (base_slots m.base) (flat_map key_slots (keys_of m)) read in
    let operands = keys_there classes b f ready.locals m.dims (last_key m.last) dims.0 (last_within classes b f ready.locals m.last last.0) apart.1 in
    let left = stack_left (kinds.Member m) s.stack in
    record {
      does = λ w.
          base_fine S.repo m s.live left f (member S m b f) w classes (is_quiet m.last) m.base b _ ready.locals inside.0 apart.0
          (λ c. keys_fine S.repo m s.live left f (member S m b f) w b (keys_of m) _ operands
          (λ path. final_fine S.repo m s.live left f (member S m b f) w ready.live S m.base m.last c path s.stack ready.stack
          (leb-true _ _ ready.enough) ready.agrees refl));
    }
