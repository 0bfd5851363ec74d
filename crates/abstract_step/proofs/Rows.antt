-- The rows of all codes: what they don't do, that lower states have lower rows, and that they hold what a turn does.
use Rattle.std.proofs.Common.{◌≡◌, ℕ, refl, true, Option, Some, None, List, [], ◌∷◌, slice_get}
use Rattle.std.proofs.lemmas.Bool.Decides.{Decides-int_eq}
use Rattle.hack_values.specs.declared.cell.Cell.{Cell}
use Rattle.hack_values.specs.declared.cell.Slot.{Slot}
use Rattle.hack_values.specs.declared.cell.Slot.TheVariants as slots
use Rattle.hhbc_ops.specs.declared.op.Op.{Op}
use Rattle.hhbc_ops.specs.declared.op.Op.TheVariants as ops
use Rattle.type_lattice.specs.declared.types.HType.{HType}
use Rattle.type_lattice.specs.Classes.{Tree}
use Rattle.type_lattice.specs.Order.{Le, PartLe}
use Rattle.type_lattice.specs.Types.{initialised, never}
use Rattle.type_lattice.specs.Member.{cell_in, is_member, AreMembers}
use Rattle.type_lattice.proofs.OrderLaws.{Le-refl}
use Rattle.type_lattice.proofs.Members.{cell_in-initialised}
use Rattle.type_lattice.proofs.Singles.{never-le}
use Rattle.hhbc_repo.specs.declared.code.Code.{Code}
use Rattle.hhbc_repo.specs.declared.code.Code.TheVariants as kinds
use Rattle.hhbc_repo.specs.declared.code.Imm.{Imm}
use Rattle.hhbc_repo.specs.declared.body.Body.{Body}
use Rattle.hhbc_repo.specs.Linked.{Linked}
use Rattle.hhbc_repo.specs.Codes.{local_of, int_of}
use Rattle.hhbc_semantics.specs.Setting.{Setting}
use Rattle.hhbc_semantics.specs.LocalCodes.{IsLocalOp, IsLocalCode}
use Rattle.hhbc_semantics.specs.Truth.{Facts}
use Rattle.hhbc_semantics.specs.Frames.{World, Frame, Turn}
use Rattle.hhbc_semantics.specs.Machine.{perform_code}
use Rattle.hhbc_semantics.specs.Operands.{with_cell, read_slot}
use Rattle.hhbc_semantics.specs.Rows.{perform}
use Rattle.abstract_step.specs.State.{State, AllLe, StateLe}
use Rattle.abstract_step.specs.Flow.{Row, nothing, undefined_row, with_type, with_local_type, op_row, row}
pub use Rattle.abstract_step.specs.Laws.{Lies, LiesBehind, Fits}
use Rattle.abstract_step.proofs.StateOrder.{BothAt, AllLe-get, AllLe-set, initialised-le, AreMembers-get, AreMembers-set}

-- codes of constants and locals ask for no other body and no facts
pub same_row : (r q : Linked) (F G : Facts) (n m : ℕ) (c : Code) (s : State) → row r F n c s ≡ row q G m c s
same_row r q F G n m (kinds.Plain i) s = same i.op
  where
    same : (op : Op) → op_row r F n op i.imms s ≡ op_row q G m op i.imms s
    same ops.Null = refl
    same _ = refl
same_row r q F G n m (kinds.Member x) s = refl

-- no label is gone to, and no property is written
pub record IsStraight (w : Row) : Type 0 where
  pub labels : w.labels ≡ []
  pub effects : w.effects ≡ []

with_type-straight : (ts : List HType) (go : HType → List HType → Row) → ((t : HType) (ts : List HType) → IsStraight (go t ts)) → IsStraight (with_type ts go)
with_type-straight [] go h = record { labels = refl; effects = refl }
with_type-straight (t ∷ ts) go h = h t ts

with_local_type-straight : (t : Option HType) (go : HType → Row) → ((t : HType) → IsStraight (go t)) → IsStraight (with_local_type t go)
with_local_type-straight None go h = record { labels = refl; effects = refl }
with_local_type-straight (Some t) go h = h (initialised t)

op_row-straight : (r : Linked) (F : Facts) (n : ℕ) (op : Op) (imms : List Imm) (s : State) → IsStraight (op_row r F n op imms s)
op_row-straight r F n ops.Null imms s = record { labels = refl; effects = refl }
op_row-straight r F n ops.True imms s = record { labels = refl; effects = refl }
op_row-straight r F n ops.False imms s = record { labels = refl; effects = refl }
op_row-straight r F n ops.Int imms s = record { labels = refl; effects = refl }
op_row-straight r F n ops.PopC imms s = with_type-straight s.stack _ (λ t ts. record { labels = refl; effects = refl })
op_row-straight r F n ops.SetL imms s = with_type-straight s.stack _ (λ t ts. record { labels = refl; effects = refl })
op_row-straight r F n ops.CGetL imms s = with_local_type-straight (slice_get s.locals (local_of imms)) _ (λ t. record { labels = refl; effects = refl })
op_row-straight r F n ops.RetC imms s = with_type-straight s.stack _ (λ t ts. record { labels = refl; effects = refl })
op_row-straight r F n _ imms s = record { labels = refl; effects = refl }

pub row-straight : (r : Linked) (F : Facts) (n : ℕ) (c : Code) (s : State) → IsStraight (row r F n c s)
row-straight r F n (kinds.Plain i) s = op_row-straight r F n i.op i.imms s
row-straight r F n (kinds.Member x) s = record { labels = refl; effects = refl }

-- a row is below another: it goes on only where that one does, to a lower state, and returns a lower type
pub record RowLe (tree : Tree) (v w : Row) : Type 0 where
  pub behind : PartLe (StateLe tree) v.behind w.behind
  pub returned : Le tree v.returned w.returned

module _ (tree : Tree) where
  nothing-le : (w : Row) → RowLe tree nothing w
  nothing-le w = record { behind = tt; returned = never-le tree w.returned }

  on_both : (s t : State) → StateLe tree s t
      → RowLe tree (record { behind = Some s; labels = []; returned = never; effects = [] }) (record { behind = Some t; labels = []; returned = never; effects = [] })
  on_both s t h = record { behind = h; returned = never-le tree never }

  with_type-le : (ts us : List HType) (go to : HType → List HType → Row) → AllLe tree ts us
      → ((t : HType) (ts : List HType) (u : HType) (us : List HType) → Le tree t u → AllLe tree ts us → RowLe tree (go t ts) (to u us))
      → RowLe tree (with_type ts go) (with_type us to)
  with_type-le [] us go to h k = nothing-le _
  with_type-le (t ∷ ts) [] go to h k = absurd h
  with_type-le (t ∷ ts) (u ∷ us) go to h k = k t ts u us h.0 h.1

  with_local_type-le : (t u : Option HType) (go to : HType → Row) → BothAt (Le tree) t u
      → ((t u : HType) → Le tree t u → RowLe tree (go t) (to u)) → RowLe tree (with_local_type t go) (with_local_type u to)
  with_local_type-le None u go to h k = nothing-le _
  with_local_type-le (Some t) None go to h k = absurd h
  with_local_type-le (Some t) (Some u) go to h k = k _ _ (initialised-le tree t u h)

  -- a lower state has a lower row
  pub op_row-le : (r : Linked) (F : Facts) (n : ℕ) (op : Op) (imms : List Imm) (s t : State) → StateLe tree s t → RowLe tree (op_row r F n op imms s) (op_row r F n op imms t)
  op_row-le r F n ops.Null imms s t h = on_both _ _ (record { locals = h.locals; stack = (Le-refl tree _, h.stack); iters = h.iters })
  op_row-le r F n ops.True imms s t h = on_both _ _ (record { locals = h.locals; stack = (Le-refl tree _, h.stack); iters = h.iters })
  op_row-le r F n ops.False imms s t h = on_both _ _ (record { locals = h.locals; stack = (Le-refl tree _, h.stack); iters = h.iters })
  op_row-le r F n ops.Int imms s t h = on_both _ _ (record { locals = h.locals; stack = (Le-refl tree _, h.stack); iters = h.iters })
  op_row-le r F n ops.PopC imms s t h =
      with_type-le s.stack t.stack _ _ h.stack (λ a tail b more e k. on_both _ _ (record { locals = h.locals; stack = k; iters = h.iters }))
  op_row-le r F n ops.SetL imms s t h =
      with_type-le s.stack t.stack _ _ h.stack
      (λ a tail b more e k. on_both _ _ (record { locals = AllLe-set tree _ _ (local_of imms) _ _ h.locals e; stack = h.stack; iters = h.iters }))
  op_row-le r F n ops.CGetL imms s t h =
      with_local_type-le _ _ _ _ (AllLe-get tree s.locals t.locals (local_of imms) h.locals)
      (λ a b e. on_both _ _ (record { locals = h.locals; stack = (e, h.stack); iters = h.iters }))
  op_row-le r F n ops.RetC imms s t h =
      with_type-le s.stack t.stack _ _ h.stack (λ a tail b more e k. record { behind = tt; returned = e })
  op_row-le r F n _ imms s t h = nothing-le undefined_row

  pub row-le : (r : Linked) (F : Facts) (n : ℕ) (c : Code) (s t : State) → StateLe tree s t → RowLe tree (row r F n c s) (row r F n c t)
  row-le r F n (kinds.Plain i) s t h = op_row-le r F n i.op i.imms s t h
  row-le r F n (kinds.Member m) s t h = nothing-le undefined_row

module _ (tree : Tree) (f : Frame) (w : World) where
  fits_cell : (ss : List Slot) (ts : List HType) (go : Cell → List Slot → Turn) (to : HType → List HType → Row)
      → AreMembers tree w.heap ss ts
      → ((c : Cell) (rest : List Slot) (t : HType) (more : List HType) → cell_in tree w.heap c t ≡ true → AreMembers tree w.heap rest more
      → Fits tree f w (to t more) (go c rest))
      → Fits tree f w (with_type ts to) (with_cell ss w go)
  fits_cell [] ts go to h k = tt
  fits_cell (slots.Uninit ∷ rest) ts go to h k = tt
  fits_cell (slots.Cell c ∷ rest) [] go to h k = absurd h
  fits_cell (slots.Cell c ∷ rest) (t ∷ more) go to h k = k c rest t more h.0 h.1

  fits_local : (s : Option Slot) (t : Option HType) (name : List ℕ) (go : Cell → Turn) (to : HType → Row)
      → BothAt (λ s t. is_member tree w.heap s t ≡ true) s t
      → ((c : Cell) (t : HType) → cell_in tree w.heap c t ≡ true → Fits tree f w (to t) (go c))
      → Fits tree f w (with_local_type t to) (read_slot s name w go)
  fits_local None t name go to h k = tt
  fits_local (Some slots.Uninit) t name go to h k = tt
  fits_local (Some (slots.Cell c)) None name go to h k = absurd h
  fits_local (Some (slots.Cell c)) (Some t) name go to h k = k c (initialised t) (cell_in-initialised tree w.heap c t h)

  pub fits_op : (S : Setting) (F : Facts) (n : ℕ) (op : Op) (imms : List Imm) (b : Body) (s : State) → IsLocalOp op → Lies tree f w.heap s
      → Fits tree f w (op_row S.repo F n op imms s) (perform S op imms b f w)
  fits_op S F n ops.Null imms b s local h = (record { locals = h.locals; stack = (refl, h.stack) }, refl, refl, refl)
  fits_op S F n ops.True imms b s local h = (record { locals = h.locals; stack = (refl, h.stack) }, refl, refl, refl)
  fits_op S F n ops.False imms b s local h = (record { locals = h.locals; stack = (refl, h.stack) }, refl, refl, refl)
  fits_op S F n ops.Int imms b s local h =
      (record { locals = h.locals; stack = ((Decides-int_eq (int_of imms) (int_of imms)).1 refl, h.stack) }, refl, refl, refl)
  fits_op S F n ops.PopC imms b s local h =
      fits_cell f.stack s.stack _ _ h.stack (λ c rest t more m k. (record { locals = h.locals; stack = k }, refl, refl, refl))
  fits_op S F n ops.SetL imms b s local h =
      fits_cell f.stack s.stack _ _ h.stack
      (λ c rest t more m k.
      (record { locals = AreMembers-set tree w.heap f.locals s.locals (local_of imms) (slots.Cell c) t h.locals m; stack = h.stack }, refl, refl, refl))
  fits_op S F n ops.CGetL imms b s local h =
      fits_local _ _ _ _ _ (AreMembers-get tree w.heap f.locals s.locals (local_of imms) h.locals)
      (λ c t m. (record { locals = h.locals; stack = (m, h.stack) }, refl, refl, refl))
  fits_op S F n ops.RetC imms b s local h =
      fits_cell f.stack s.stack _ _ h.stack (λ c rest t more m k. (m, refl))
  fits_op S F n _ imms b s local h = absurd local

  pub fits_code : (S : Setting) (F : Facts) (n : ℕ) (c : Code) (b : Body) (s : State) → IsLocalCode c → Lies tree f w.heap s
      → Fits tree f w (row S.repo F n c s) (perform_code S (Some c) b f w)
  fits_code S F n (kinds.Plain i) b s local h = fits_op S F n i.op i.imms b s local h
  fits_code S F n (kinds.Member m) b s local h = absurd local
