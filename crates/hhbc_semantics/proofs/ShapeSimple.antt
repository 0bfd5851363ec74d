-- Shapes behind the codes of constants, locals, operators, objects and containers.
use Rattle.std.proofs.Common.{◌≡◌, ℕ, ◌<◌, refl, Bool, true, nat_lt, Option, Some, None, List, [], ◌∷◌, ◌++◌, drop, length, Err, ℤ}
use Rattle.hack_values.specs.declared.cell.Cell.{Cell}
use Rattle.hack_values.specs.declared.cell.Cell.TheVariants as cells
use Rattle.hack_values.specs.declared.cell.Slot.{Slot}
use Rattle.hack_values.specs.declared.cell.Slot.TheVariants as slots
use Rattle.hack_values.specs.declared.operators.OpFault.{OpFault}
use Rattle.hack_values.specs.declared.operators.BinOp.{BinOp}
use Rattle.hack_values.specs.declared.operators.UnOp.{UnOp}
use Rattle.hack_values.specs.Casts.{text_of}
use Rattle.hack_values.specs.Operations.{op1, op2}
use Rattle.type_lattice.specs.declared.types.HType.{HType}
use Rattle.hhbc_ops.specs.declared.words.Flavour.{Flavour}
use Rattle.hhbc_ops.specs.declared.words.Flavour.TheVariants.{C, U}
use Rattle.hhbc_ops.specs.declared.words.SetOpOp.{SetOpOp}
use Rattle.hhbc_ops.specs.declared.words.IncDecOp.{IncDecOp}
use Rattle.hhbc_ops.specs.declared.words.IsTypeOp.{IsTypeOp}
use Rattle.hhbc_repo.specs.declared.code.Code.{Code}
use Rattle.hhbc_repo.specs.declared.body.Body.{Body}
use Rattle.hhbc_repo.specs.Linked.{Linked}
use Rattle.hhbc_repo.specs.Codes.{throws, some_cells}
use Rattle.hack_values.specs.Val.{weight, depth}
use Rattle.hack_values.specs.View.{val_of, vals_of}
use Rattle.hack_values.specs.Keys.{keys_put, put_entry, with_key}
use Rattle.hack_values.specs.Limits.{max_weight, max_depth}
use Rattle.hhbc_semantics.specs.Outcome.{Size, Depth}
use Rattle.hhbc_semantics.specs.Setting.{Setting}
use Rattle.hhbc_semantics.specs.Frames.{World, Frame, Turn, Goes, ahead, push, set_local}
use Rattle.hhbc_semantics.specs.Operands.{with_cell, with_uninit, or_null}
use Rattle.hhbc_semantics.specs.Operators.{unary, binary, set_op_local, inc_dec_local, with_int, operator_of}
use Rattle.hhbc_semantics.specs.Locals.{pop_local, store_local, get_local, get_local_quietly, get_local_below, push_local, unset_local}
use Rattle.hhbc_semantics.specs.Objects.{make_object, is_instance, instance_of, is_object, lock_object, get_this, check_this, push_found, get_constant, constant_of}
use Rattle.hhbc_semantics.specs.Containers.{made, new_vec, new_keyset, with_key_or, key_of, keys_of, add_entry, add_element, append_to, add_new_element}
use Rattle.hhbc_semantics.specs.Verification.{is_of_kind, test_kind, test_local_kind, verified, verify_local, verify_top, print_text, print}
use Rattle.hhbc_semantics.specs.ShapeAnalysis.{AreOfFlavours}
use Rattle.hhbc_semantics.specs.ShapeRows.{Fits}
use Rattle.hhbc_semantics.proofs.Growing.{append_grows}
use Rattle.hhbc_semantics.proofs.ShapeOperands.{HasOnTop, length_set, IsIdle, Quiet, fit_quiet, quiet_raises, quiet_fails, quiet_on, quiet_next, fit_next, quiet_if, quiet_answer, quiet_this, fit_cell, fit_cells, fit_uninit, fit_local, fit_slot}

module _ (r : Linked) (c : Code) (live : List Bool) (f : Frame) (fs : List Flavour) (s : AreOfFlavours f.stack fs) (i : IsIdle r c live f) where
  abbrev fits : List Flavour → (World → Turn) → Type 0
  fits left act = Fits r c live left f act

  abbrev quiet : List Flavour → World → Turn → Type 0
  quiet left w t = Quiet r c live f left w t

  -- a frame of other locals at its next position
  quiet_set : (left : List Flavour) (l : ℕ) (x : Slot) (stack : List Slot) (w : World) → AreOfFlavours stack left
      → quiet left w (Goes (ahead (set_local f l x) stack) w)
  quiet_set left l x stack w t = quiet_on r c live f i left (set_local f l x) stack w w (λ n k h. h) refl (length_set f.locals l x) refl refl t

  pub fit_push : (x : Cell) → fits (C ∷ fs) (λ w. Goes (push f x) w)
  fit_push x = fit_next r c live f i (C ∷ fs) (slots.Cell x ∷ f.stack) (tt, s)

  pub fit_pop : HasOnTop (C ∷ []) fs → fits (drop 1 fs) (λ w. with_cell f.stack w (λ x rest. Goes (ahead f rest) w))
  fit_pop h = fit_cell r c live f [] [] fs f.stack _ s h (λ x rest more t m all. fit_next r c live f i more rest t)

  pub fit_pop_uninit : HasOnTop (U ∷ []) fs → fits (drop 1 fs) (λ w. with_uninit f.stack w (λ rest. Goes (ahead f rest) w))
  fit_pop_uninit h = fit_uninit r c live f [] [] fs f.stack _ s h (λ rest more t m. fit_next r c live f i more rest t)

  pub fit_dup : HasOnTop (C ∷ []) fs → fits (C ∷ C ∷ drop 1 fs) (λ w. with_cell f.stack w (λ x rest. Goes (push f x) w))
  fit_dup h =
      fit_cell r c live f (C ∷ C ∷ []) [] fs f.stack _ s h
      (λ x rest more t m all. fit_next r c live f i (C ∷ C ∷ more) (slots.Cell x ∷ f.stack) (tt, all))

  -- operators
  pub fit_unary : (op : UnOp) → ((x : Cell) (fault : OpFault) → op1 op x ≡ Err fault → throws c ≡ true) → HasOnTop (C ∷ []) fs
      → fits (C ∷ drop 1 fs) (λ w. unary op f w)
  fit_unary op may h =
      fit_cell r c live f (C ∷ []) [] fs f.stack _ s h
      (λ x rest more t m all. fit_quiet r c live f (C ∷ more) _
      (λ w. quiet_answer r c live f (C ∷ more) w (op1 op x) _ (may x)
      (λ y. quiet_next r c live f i (C ∷ more) (slots.Cell y ∷ rest) w (tt, t))))

  pub fit_binary : (op : BinOp) → ((x y : Cell) (fault : OpFault) → op2 op x y ≡ Err fault → throws c ≡ true) → HasOnTop (C ∷ C ∷ []) fs
      → fits (C ∷ drop 2 fs) (λ w. binary op f w)
  fit_binary op may h =
      fit_cell r c live f (C ∷ []) (C ∷ []) fs f.stack _ s h
      (λ y rest more t m all. fit_cell r c live f (C ∷ []) [] more rest _ t m
      (λ x below deep u n al. fit_quiet r c live f (C ∷ deep) _
      (λ w. quiet_answer r c live f (C ∷ deep) w (op2 op x y) _ (may x y)
      (λ z. quiet_next r c live f i (C ∷ deep) (slots.Cell z ∷ below) w (tt, u)))))

  pub fit_set_op : (op : SetOpOp) (l : ℕ) (b : Body) → l < length f.locals → throws c ≡ true → HasOnTop (C ∷ []) fs
      → fits (C ∷ drop 1 fs) (λ w. set_op_local op l b f w)
  fit_set_op op l b inside may h =
      fit_local r c live f (C ∷ drop 1 fs) b l _ inside may
      (λ old. fit_cell r c live f (C ∷ []) [] fs f.stack _ s h
      (λ x rest more t m all. fit_quiet r c live f (C ∷ more) _
      (λ w. quiet_answer r c live f (C ∷ more) w (op2 (operator_of op) old x) _ (λ fault e. may)
      (λ y. quiet_set (C ∷ more) l (slots.Cell y) (slots.Cell y ∷ rest) w (tt, t)))))

  quiet_int : (left : List Flavour) (w : World) (x : Cell) (go : ℤ → Turn) → throws c ≡ true → ((n : ℤ) → quiet left w (go n)) → quiet left w (with_int x w go)
  quiet_int left w (cells.Int n) go may h = h n
  quiet_int left w _ go may h = quiet_raises r c live f left _ _ w may

  pub fit_inc_dec : (op : IncDecOp) (l : ℕ) (b : Body) → l < length f.locals → throws c ≡ true → fits (C ∷ fs) (λ w. inc_dec_local op l b f w)
  fit_inc_dec op l b inside may =
      fit_local r c live f (C ∷ fs) b l _ inside may
      (λ old. fit_quiet r c live f (C ∷ fs) _ (λ w. quiet_int (C ∷ fs) w old _ may (λ n. quiet_set (C ∷ fs) l _ _ w (tt, s))))

  -- locals
  pub fit_pop_local : (l : ℕ) → HasOnTop (C ∷ []) fs → fits (drop 1 fs) (λ w. pop_local l f w)
  fit_pop_local l h =
      fit_cell r c live f [] [] fs f.stack _ s h
      (λ x rest more t m all. fit_quiet r c live f more _ (λ w. quiet_set more l (slots.Cell x) rest w t))

  pub fit_store_local : (l : ℕ) → HasOnTop (C ∷ []) fs → fits (C ∷ drop 1 fs) (λ w. store_local l f w)
  fit_store_local l h =
      fit_cell r c live f (C ∷ []) [] fs f.stack _ s h
      (λ x rest more t m all. fit_quiet r c live f (C ∷ more) _ (λ w. quiet_set (C ∷ more) l (slots.Cell x) f.stack w all))

  pub fit_get_local : (l : ℕ) (b : Body) → l < length f.locals → throws c ≡ true → fits (C ∷ fs) (λ w. get_local l b f w)
  fit_get_local l b inside may = fit_local r c live f (C ∷ fs) b l _ inside may (λ x. fit_push x)

  pub fit_get_quietly : (l : ℕ) → l < length f.locals → fits (C ∷ fs) (λ w. get_local_quietly l f w)
  fit_get_quietly l inside = fit_slot r c live f (C ∷ fs) l _ inside (λ x. fit_push (or_null x))

  pub fit_get_below : (l : ℕ) (b : Body) → l < length f.locals → throws c ≡ true → HasOnTop (C ∷ []) fs
      → fits (C ∷ C ∷ drop 1 fs) (λ w. get_local_below l b f w)
  fit_get_below l b inside may h =
      fit_local r c live f (C ∷ C ∷ drop 1 fs) b l _ inside may
      (λ x. fit_cell r c live f (C ∷ C ∷ []) [] fs f.stack _ s h
      (λ top rest more t m all. fit_next r c live f i (C ∷ C ∷ more) (slots.Cell top ∷ slots.Cell x ∷ rest) (tt, (tt, t))))

  pub fit_push_local : (l : ℕ) (b : Body) → l < length f.locals → throws c ≡ true → fits (C ∷ fs) (λ w. push_local l b f w)
  fit_push_local l b inside may =
      fit_local r c live f (C ∷ fs) b l _ inside may
      (λ x. fit_quiet r c live f (C ∷ fs) _ (λ w. quiet_set (C ∷ fs) l slots.Uninit (slots.Cell x ∷ f.stack) w (tt, s)))

  pub fit_unset_local : (l : ℕ) → fits fs (λ w. unset_local l f w)
  fit_unset_local l = fit_quiet r c live f fs _ (λ w. quiet_set fs l slots.Uninit f.stack w s)

  -- kinds and types
  pub fit_test_kind : (k : IsTypeOp) → HasOnTop (C ∷ []) fs → fits (C ∷ drop 1 fs) (λ w. test_kind k f w)
  fit_test_kind k h =
      fit_cell r c live f (C ∷ []) [] fs f.stack _ s h
      (λ x rest more t m all. fit_next r c live f i (C ∷ more) (slots.Cell (is_of_kind k x) ∷ rest) (tt, t))

  pub fit_test_local_kind : (k : IsTypeOp) (l : ℕ) (b : Body) → l < length f.locals → throws c ≡ true → fits (C ∷ fs) (λ w. test_local_kind k l b f w)
  fit_test_local_kind k l b inside may = fit_local r c live f (C ∷ fs) b l _ inside may (λ x. fit_push (is_of_kind k x))

  quiet_verified : (S : Setting) (T : HType) (x : Slot) (left : List Flavour) (w : World) → throws c ≡ true → AreOfFlavours f.stack left
      → quiet left w (verified S T x f w)
  quiet_verified S T x left w may t =
      quiet_if r c live f left w _ _ _ (quiet_next r c live f i left f.stack w t) (quiet_raises r c live f left _ _ w may)

  pub fit_verify_local : (S : Setting) (l : ℕ) (T : HType) → l < length f.locals → throws c ≡ true → fits fs (λ w. verify_local S l T f w)
  fit_verify_local S l T inside may =
      fit_slot r c live f fs l _ inside (λ x. fit_quiet r c live f fs _ (λ w. quiet_verified S T x fs w may s))

  pub fit_verify_top : (S : Setting) (T : HType) → throws c ≡ true → HasOnTop (C ∷ []) fs → fits (C ∷ drop 1 fs) (λ w. verify_top S T f w)
  fit_verify_top S T may h =
      fit_cell r c live f (C ∷ []) [] fs f.stack _ s h
      (λ x rest more t m all. fit_quiet r c live f (C ∷ more) _ (λ w. quiet_verified S T (slots.Cell x) (C ∷ more) w may all))

  quiet_print : (o : Option (List ℕ)) (left : List Flavour) (rest : List Slot) (w : World) → throws c ≡ true → AreOfFlavours rest left
      → quiet (C ∷ left) w (print_text o f rest w)
  quiet_print None left rest w may t = quiet_raises r c live f (C ∷ left) _ _ w may
  quiet_print (Some text) left rest w may t =
      quiet_if r c live f (C ∷ left) w _ _ _ (quiet_fails r c live f (C ∷ left) _ w)
      (quiet_on r c live f i (C ∷ left) f _ w _ (λ n k h. h) refl refl refl refl (tt, t))

  pub fit_print : throws c ≡ true → HasOnTop (C ∷ []) fs → fits (C ∷ drop 1 fs) (λ w. print f w)
  fit_print may h =
      fit_cell r c live f (C ∷ []) [] fs f.stack _ s h
      (λ x rest more t m all. fit_quiet r c live f (C ∷ more) _ (λ w. quiet_print (text_of x) more rest w may t))

  -- objects
  pub fit_make_object : (S : Setting) (n : ℕ) → fits (C ∷ fs) (λ w. make_object S n f w)
  fit_make_object S n =
      fit_quiet r c live f (C ∷ fs) _ (λ w. quiet_on r c live f i (C ∷ fs) f _ w _ (append_grows w.heap _) refl refl refl refl (tt, s))

  pub fit_instance_of : (S : Setting) (n : ℕ) → HasOnTop (C ∷ []) fs → fits (C ∷ drop 1 fs) (λ w. instance_of S n f w)
  fit_instance_of S n h =
      fit_cell r c live f (C ∷ []) [] fs f.stack _ s h
      (λ x rest more t m all. fit_quiet r c live f (C ∷ more) _
      (λ w. quiet_next r c live f i (C ∷ more) (slots.Cell (cells.Bool (is_instance S w n x)) ∷ rest) w (tt, t)))

  pub fit_lock_object : throws c ≡ true → HasOnTop (C ∷ []) fs → fits (C ∷ drop 1 fs) (λ w. lock_object f w)
  fit_lock_object may h =
      fit_cell r c live f (C ∷ []) [] fs f.stack _ s h
      (λ x rest more t m all. fit_quiet r c live f (C ∷ more) _
      (λ w. quiet_if r c live f (C ∷ more) w (is_object w x) _ _ (quiet_next r c live f i (C ∷ more) f.stack w all)
      (quiet_raises r c live f (C ∷ more) _ _ w may)))

  pub fit_get_this : throws c ≡ true → fits (C ∷ fs) (λ w. get_this f w)
  fit_get_this may =
      fit_quiet r c live f (C ∷ fs) _
      (λ w. quiet_this r c live f (C ∷ fs) w f.this _ may (λ n. quiet_next r c live f i (C ∷ fs) _ w (tt, s)))

  pub fit_check_this : throws c ≡ true → fits fs (λ w. check_this f w)
  fit_check_this may = fit_quiet r c live f fs _ (λ w. quiet_this r c live f fs w f.this _ may (λ n. quiet_next r c live f i fs f.stack w s))

  quiet_found : (o : Option Cell) (w : World) → quiet (C ∷ fs) w (push_found o f w)
  quiet_found None w = record { plain = λ n k h. h }
  quiet_found (Some x) w = quiet_next r c live f i (C ∷ fs) _ w (tt, s)

  pub fit_get_constant : (S : Setting) (name : List ℕ) (n : ℕ) → fits (C ∷ fs) (λ w. get_constant S name n f w)
  fit_get_constant S name n = fit_quiet r c live f (C ∷ fs) _ (λ w. quiet_found (constant_of S.repo n name) w)

  -- containers
  quiet_made : (x : Cell) (left : List Flavour) (rest : List Slot) (w : World) → AreOfFlavours rest left → quiet (C ∷ left) w (made x f rest w)
  quiet_made x left rest w t =
      quiet_if r c live f (C ∷ left) w (nat_lt max_weight (weight (val_of x))) _ _ (quiet_fails r c live f (C ∷ left) Size w)
      (quiet_if r c live f (C ∷ left) w (nat_lt max_depth (depth (val_of x))) _ _ (quiet_fails r c live f (C ∷ left) Depth w)
      (quiet_next r c live f i (C ∷ left) (slots.Cell x ∷ rest) w (tt, t)))

  quiet_key : {X : Type 0} (left : List Flavour) (w : World) (o : Option X) (go : X → Turn) → throws c ≡ true → ((x : X) → quiet left w (go x))
      → quiet left w (with_key_or o w go)
  quiet_key left w None go may h = quiet_raises r c live f left _ _ w may
  quiet_key left w (Some x) go may h = h x

  pub fit_new_vec : (n : ℕ) → HasOnTop (some_cells n ++ []) fs → fits (C ∷ drop (length (some_cells n ++ [])) fs) (λ w. new_vec n f w)
  fit_new_vec n h =
      fit_cells r c live f n [] (C ∷ []) [] fs f.stack _ s h
      (λ xs rest more t m. fit_quiet r c live f (C ∷ more) _ (λ w. quiet_made (cells.Vec (vals_of xs)) more rest w t))

  pub fit_new_keyset : (n : ℕ) → throws c ≡ true → HasOnTop (some_cells n ++ []) fs
      → fits (C ∷ drop (length (some_cells n ++ [])) fs) (λ w. new_keyset n f w)
  fit_new_keyset n may h =
      fit_cells r c live f n [] (C ∷ []) [] fs f.stack _ s h
      (λ xs rest more t m. fit_quiet r c live f (C ∷ more) _
      (λ w. quiet_key (C ∷ more) w (keys_of xs) _ may (λ ks. quiet_made (cells.Keyset (keys_put ks)) more rest w t)))

  quiet_entry : (x key value : Cell) (left : List Flavour) (rest : List Slot) (w : World) → throws c ≡ true → AreOfFlavours rest left
      → quiet (C ∷ left) w (add_entry x key value f rest w)
  quiet_entry (cells.Dict es) key value left rest w may t = quiet_key (C ∷ left) w (key_of key) _ may (λ k. quiet_made (cells.Dict (put_entry es k (val_of value))) left rest w t)
  quiet_entry _ key value left rest w may t = quiet_raises r c live f (C ∷ left) _ _ w may

  pub fit_add_element : throws c ≡ true → HasOnTop (C ∷ C ∷ C ∷ []) fs → fits (C ∷ drop 3 fs) (λ w. add_element f w)
  fit_add_element may h =
      fit_cell r c live f (C ∷ []) (C ∷ C ∷ []) fs f.stack _ s h
      (λ value rest more t m all. fit_cell r c live f (C ∷ []) (C ∷ []) more rest _ t m
      (λ key rest2 more2 u n al. fit_cell r c live f (C ∷ []) [] more2 rest2 _ u n
      (λ x below deep v o a. fit_quiet r c live f (C ∷ deep) _ (λ w. quiet_entry x key value deep below w may v))))

  quiet_append : (x value : Cell) (left : List Flavour) (rest : List Slot) (w : World) → throws c ≡ true → AreOfFlavours rest left
      → quiet (C ∷ left) w (append_to x value f rest w)
  quiet_append (cells.Vec vs) value left rest w may t = quiet_made (cells.Vec (vs ++ val_of value ∷ [])) left rest w t
  quiet_append (cells.Keyset ks) value left rest w may t = quiet_key (C ∷ left) w (key_of value) _ may (λ k. quiet_made (cells.Keyset (with_key ks k)) left rest w t)
  quiet_append (cells.Dict es) value left rest w may t = quiet_raises r c live f (C ∷ left) _ _ w may
  quiet_append _ value left rest w may t = quiet_raises r c live f (C ∷ left) _ _ w may

  pub fit_add_new_element : throws c ≡ true → HasOnTop (C ∷ C ∷ []) fs → fits (C ∷ drop 2 fs) (λ w. add_new_element f w)
  fit_add_new_element may h =
      fit_cell r c live f (C ∷ []) (C ∷ []) fs f.stack _ s h
      (λ value rest more t m all. fit_cell r c live f (C ∷ []) [] more rest _ t m
      (λ x below deep u n al. fit_quiet r c live f (C ∷ deep) _ (λ w. quiet_append x value deep below w may u)))
