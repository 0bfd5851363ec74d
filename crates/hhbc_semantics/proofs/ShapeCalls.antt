-- Shapes behind the codes that call.
use Rattle.std.proofs.Common.{◌≡◌, ℕ, ◌≤◌, ◌-◌, refl, sym, ◌∙◌, ap, subst, Bool, true, false, ◌==◌, Option, Some, None, List, [], ◌∷◌, ◌++◌, map, drop, replicate, length, length-append, if◌then◌else◌, arith}
use Rattle.std.proofs.lemmas.Bool.Decides.{Decides-eqb}
use Rattle.std.proofs.lemmas.List.{length-map, length-replicate}
use Rattle.hack_values.specs.declared.cell.Cell.{Cell}
use Rattle.hack_values.specs.declared.cell.Cell.TheVariants as cells
use Rattle.hack_values.specs.declared.cell.Slot.{Slot}
use Rattle.hack_values.specs.declared.cell.Slot.TheVariants as slots
use Rattle.hack_values.specs.Natives.{native_value}
use Rattle.hhbc_ops.specs.declared.words.Flavour.{Flavour}
use Rattle.hhbc_ops.specs.declared.words.Flavour.TheVariants.{C, U}
use Rattle.hhbc_repo.specs.declared.code.Code.{Code}
use Rattle.hhbc_repo.specs.declared.body.Body.{Body}
use Rattle.hhbc_repo.specs.Linked.{Linked}
use Rattle.hhbc_repo.specs.Bodies.{body_at}
use Rattle.hhbc_repo.specs.Codes.{some_cells, pushes, iter_use, goes_on, throws}
use Rattle.hhbc_semantics.specs.Setting.{Setting, NativeRow}
use Rattle.hhbc_semantics.specs.Outcome.{Undefined}
use Rattle.hhbc_semantics.specs.Frames.{World, Frame, Turn, Goes, Calls, ahead}
use Rattle.hhbc_semantics.specs.Growth.{WorldGrows}
use Rattle.hhbc_semantics.specs.Entering.{function_from, entered, entered_on}
use Rattle.hhbc_semantics.specs.CallTurns.{no_method, native_named, takes, answered, call_native, call_function, function_call, method_in, call_static, static_call, class_named, object_number, call_on, method_call, constructor, construct, constructor_call}
use Rattle.hhbc_semantics.specs.Soundness.{CallsBody}
use Rattle.hhbc_semantics.specs.ShapeAnalysis.{AreOfFlavours}
use Rattle.hhbc_semantics.specs.ShapeRows.{Does, Fits, IsEntered}
use Rattle.hhbc_semantics.proofs.Growing.{append_grows}
use Rattle.hhbc_semantics.proofs.ShapeOperands.{HasOnTop, IsIdle, Quiet, plain_does, fit_quiet, quiet_raises, quiet_fails, quiet_next, quiet_if, fit_cell, fit_cells, fit_uninit}

-- a body of the repository by its number, with its parameters among its locals
pub record IsKnown (r : Linked) (n : ℕ) (b : Body) : Type 0 where
  pub at : body_at r n ≡ Some b
  pub params : b.params ≤ length b.locals

entered_locals : (n : ℕ) (b : Body) (args : List Cell) → b.params ≤ length b.locals → length args ≡ b.params → length (entered n b args).locals ≡ length b.locals
entered_locals n b args l e =
    let a = length-append (map (λ (c : Cell). slots.Cell c) args) (replicate (length b.locals - b.params) slots.Uninit) in
    let m = length-map args (λ (c : Cell). slots.Cell c) in
    let k = length-replicate (length b.locals - b.params) slots.Uninit in
    omega (arith, a, m, k, l, e)

enters : (r : Linked) (n : ℕ) (b : Body) (args : List Cell) → IsKnown r n b → (length args == b.params) ≡ true → IsEntered r (entered n b args)
enters r n b args k e = record {
  body = b;
  at = k.at;
  position = refl;
  locals = entered_locals n b args k.params ((Decides-eqb (length args) b.params).0 e);
  stack = refl;
  iters = refl;
}

enters_on : (r : Linked) (object n : ℕ) (b : Body) (args : List Cell) → IsKnown r n b → (length args == b.params) ≡ true
    → IsEntered r (entered_on object n b args)
enters_on r object n b args k e = record {
  body = b;
  at = k.at;
  position = refl;
  locals = entered_locals n b args k.params ((Decides-eqb (length args) b.params).0 e);
  stack = refl;
  iters = refl;
}

-- a code that may call: it throws, goes on with one cell, and moves no iterator
pub record IsCall (c : Code) : Type 0 where
  pub may : throws c ≡ true
  pub on : goes_on c ≡ true
  pub gives : pushes c ≡ C ∷ []
  pub idle : iter_use c ≡ None

class_still : (x : Cell) (w u : World) (k : ℕ) → WorldGrows w u → class_named w x ≡ Some k → class_named u x ≡ Some k
class_still (cells.Obj n) w u k g e = g n k e
class_still cells.Null w u k g e = absurd (cc)
class_still (cells.Bool b) w u k g e = absurd (cc)
class_still (cells.Int b) w u k g e = absurd (cc)
class_still (cells.Str b) w u k g e = absurd (cc)
class_still (cells.Vec b) w u k g e = absurd (cc)
class_still (cells.Dict b) w u k g e = absurd (cc)
class_still (cells.Keyset b) w u k g e = absurd (cc)

module _ (r : Linked) (c : Code) (live : List Bool) (f : Frame) (fs : List Flavour) (s : AreOfFlavours f.stack fs) (i : IsIdle r c live f) (call : IsCall c) where
  abbrev fits : List Flavour → (World → Turn) → Type 0
  fits left act = Fits r c live left f act

  -- a turn that calls a body, and calls it again in each world that grew
  calls : (left : List Flavour) (act : World → Turn) (w : World) (g : Frame) → IsEntered r g → ((u : World) → WorldGrows w u → act u ≡ Calls g u)
      → Does r c live left f act w (act w)
  calls left act w g e again =
      subst (λ t. Does r c live left f act w t) (sym (again w (λ n k h. h))) (
        record {
          enters = e;
          may = call.may;
          on = call.on;
          gives = call.gives;
          idle = call.idle;
          again = λ u grows. subst (λ t. CallsBody g.body t) (sym (again u grows)) refl;
        },
        λ n k h. h,
      )

  fit_calls : (left : List Flavour) (t : Bool) (g : Frame) (other : World → Turn) → (t ≡ true → IsEntered r g)
      → ((w : World) → Quiet r c live f left w (other w)) → fits left (λ w. if t then Calls g w else other w)
  fit_calls left true g other e h = record { does = λ w. calls left (λ w. Calls g w) w g (e refl) (λ u grows. refl) }
  fit_calls left false g other e h = fit_quiet r c live f left other h

  -- functions and natives
  quiet_answered : (o : Option Cell) (name : List ℕ) (left : List Flavour) (below : List Slot) (w : World) → AreOfFlavours below left
      → Quiet r c live f (C ∷ left) w (answered o name f below w)
  quiet_answered None name left below w t = quiet_raises r c live f (C ∷ left) _ _ w call.may
  quiet_answered (Some x) name left below w t = quiet_next r c live f i (C ∷ left) (slots.Cell x ∷ below) w (tt, t)

  quiet_native : (o : Option NativeRow) (name : List ℕ) (args : List Cell) (left : List Flavour) (below : List Slot) (w : World) → AreOfFlavours below left
      → Quiet r c live f (C ∷ left) w (call_native o name args f below w)
  quiet_native None name args left below w t = quiet_fails r c live f (C ∷ left) Undefined w
  quiet_native (Some row) name args left below w t =
      quiet_if r c live f (C ∷ left) w (takes row args) _ _ (quiet_answered (native_value name args) name left below w t)
      (quiet_raises r c live f (C ∷ left) _ _ w call.may)

  fit_function : (o : Option (ℕ × Body)) (native : Option NativeRow) (name : List ℕ) (args : List Cell) (left : List Flavour) (below : List Slot)
      → ((n : ℕ) (b : Body) → o ≡ Some (n, b) → IsKnown r n b) → AreOfFlavours below left
      → fits (C ∷ left) (λ w. call_function o native name args f below w)
  fit_function None native name args left below known t = fit_quiet r c live f (C ∷ left) _ (λ w. quiet_native native name args left below w t)
  fit_function (Some e) native name args left below known t =
      fit_calls (C ∷ left) (length args == e.1.params) (entered e.0 e.1 args) _ (λ k. enters r e.0 e.1 args (known e.0 e.1 refl) k)
      (λ w. quiet_fails r c live f (C ∷ left) Undefined w)

  pub fit_function_call : (S : Setting) (n : ℕ) (name : List ℕ)
      → ((m : ℕ) (b : Body) → function_from 0 S.repo.functions name ≡ Some (m, b) → IsKnown r m b) → HasOnTop (some_cells n ++ U ∷ U ∷ []) fs
      → fits (C ∷ drop (length (some_cells n ++ U ∷ U ∷ [])) fs) (λ w. function_call S n name f w)
  fit_function_call S n name known h =
      fit_cells r c live f n [] (C ∷ []) (U ∷ U ∷ []) fs f.stack _ s h
      (λ args rest more t m. fit_uninit r c live f (C ∷ []) (U ∷ []) more rest _ t m
      (λ rest2 more2 u o. fit_uninit r c live f (C ∷ []) [] more2 rest2 _ u o
      (λ below left v p. fit_function (function_from 0 S.repo.functions name) (native_named S.natives name) name args left below known v)))

  -- methods of a class
  fit_static : (o : Option (ℕ × Body)) (name : List ℕ) (args : List Cell) (left : List Flavour)
      → ((n : ℕ) (b : Body) → o ≡ Some (n, b) → IsKnown r n b) → fits left (λ w. call_static o name args w)
  fit_static None name args left known = fit_quiet r c live f left _ (λ w. quiet_raises r c live f left _ _ w call.may)
  fit_static (Some e) name args left known =
      fit_calls left (length args == e.1.params) (entered e.0 e.1 args) _ (λ k. enters r e.0 e.1 args (known e.0 e.1 refl) k)
      (λ w. quiet_raises r c live f left _ _ w call.may)

  pub fit_static_call : (S : Setting) (n : ℕ) (name : List ℕ) (class : ℕ)
      → ((m : ℕ) (b : Body) → method_in S.repo (Some class) name ≡ Some (m, b) → IsKnown r m b) → HasOnTop (some_cells n ++ U ∷ U ∷ []) fs
      → fits (C ∷ drop (length (some_cells n ++ U ∷ U ∷ [])) fs) (λ w. static_call S n name class f w)
  fit_static_call S n name class known h =
      fit_cells r c live f n [] (C ∷ []) (U ∷ U ∷ []) fs f.stack _ s h
      (λ args rest more t m. fit_uninit r c live f (C ∷ []) (U ∷ []) more rest _ t m
      (λ rest2 more2 u o. fit_uninit r c live f (C ∷ []) [] more2 rest2 _ u o
      (λ below left v p. fit_static (method_in S.repo (Some class) name) name args (C ∷ left) known)))

  refused : (left : List Flavour) (act : World → Turn) (w : World) (name : List ℕ) → Does r c live left f act w (no_method name w)
  refused left act w name = (call.may, append_grows w.heap _)

  -- methods of an object
  method_does : (S : Setting) (x : Cell) (name : List ℕ) (args : List Cell) (left : List Flavour) (act : World → Turn) (w : World) (o : Option ℕ)
      (e : Option (ℕ × Body)) (t : Bool)
      → ((u : World) → act u ≡ call_on (object_number x) (method_in S.repo (class_named u x) name) name args u)
      → class_named w x ≡ o → method_in S.repo o name ≡ e → ((n : ℕ) (b : Body) → e ≡ Some (n, b) → IsKnown r n b)
      → ((n : ℕ) (b : Body) → e ≡ Some (n, b) → (length args == b.params) ≡ t) → Does r c live left f act w (act w)
  method_does S x name args left act w o None t is class found known count =
      let e = is w ∙ ap (λ o. call_on (object_number x) (method_in S.repo o name) name args w) class ∙ ap (λ m. call_on (object_number x) m name args w) found in
      subst (λ t. Does r c live left f act w t) (sym e) (refused left act w name)
  method_does S x name args left act w o (Some m) false is class found known count =
      let e = is w ∙ ap (λ o. call_on (object_number x) (method_in S.repo o name) name args w) class ∙ ap (λ m. call_on (object_number x) m name args w) found
      ∙ ap (λ t. if t then Calls (entered_on (object_number x) m.0 m.1 args) w else no_method name w) (count m.0 m.1 refl) in
      subst (λ t. Does r c live left f act w t) (sym e) (refused left act w name)
  method_does S x name args left act w None (Some m) true is class found known count = absurd (cc)
  method_does S x name args left act w (Some k) (Some m) true is class found known count =
      calls left act w (entered_on (object_number x) m.0 m.1 args) (enters_on r (object_number x) m.0 m.1 args (known m.0 m.1 refl) (count m.0 m.1 refl))
      (λ u grows. is u ∙ ap (λ o. call_on (object_number x) (method_in S.repo o name) name args u) (class_still x w u k grows class)
      ∙ ap (λ m. call_on (object_number x) m name args u) found
      ∙ ap (λ t. if t then Calls (entered_on (object_number x) m.0 m.1 args) u else no_method name u) (count m.0 m.1 refl))

  counted : (args : List Cell) (e : Option (ℕ × Body)) → (t : Bool) × ((n : ℕ) (b : Body) → e ≡ Some (n, b) → (length args == b.params) ≡ t)
  counted args None = (true, λ n b e. absurd (cc))
  counted args (Some m) = (length args == m.1.params, λ n b e. let x : m.1 ≡ b = cc in ap (λ (b : Body). length args == b.params) (sym x))

  fit_method : (S : Setting) (x : Cell) (name : List ℕ) (args : List Cell) (left : List Flavour)
      → ((o : Option ℕ) (m : ℕ) (b : Body) → method_in S.repo o name ≡ Some (m, b) → IsKnown r m b)
      → fits left (λ w. call_on (object_number x) (method_in S.repo (class_named w x) name) name args w)
  fit_method S x name args left known = record {
    does = λ w.
        let t = counted args (method_in S.repo (class_named w x) name) in
        method_does S x name args left (λ w. call_on (object_number x) (method_in S.repo (class_named w x) name) name args w) w (class_named w x)
        (method_in S.repo (class_named w x) name) t.0 (λ u. refl) refl refl (λ n b e. known (class_named w x) n b e) t.1;
  }

  pub fit_method_call : (S : Setting) (n : ℕ) (name : List ℕ)
      → ((o : Option ℕ) (m : ℕ) (b : Body) → method_in S.repo o name ≡ Some (m, b) → IsKnown r m b) → HasOnTop (some_cells n ++ U ∷ C ∷ []) fs
      → fits (C ∷ drop (length (some_cells n ++ U ∷ C ∷ [])) fs) (λ w. method_call S n name f w)
  fit_method_call S n name known h =
      fit_cells r c live f n [] (C ∷ []) (U ∷ C ∷ []) fs f.stack _ s h
      (λ args rest more t m. fit_uninit r c live f (C ∷ []) (C ∷ []) more rest _ t m
      (λ rest2 more2 u o. fit_cell r c live f (C ∷ []) [] more2 rest2 _ u o
      (λ x below left v p all. fit_method S x name args (C ∷ left) known)))

  -- constructors
  made_or_called : (S : Setting) (x : Cell) (args : List Cell) (left : List Flavour) (below : List Slot) (w : World) (o : Option ℕ) (e : Option (ℕ × Body)) (t : Bool)
      → class_named w x ≡ o → method_in S.repo o constructor ≡ e
      → ((n : ℕ) (b : Body) → e ≡ Some (n, b) → IsKnown r n b) → ((n : ℕ) (b : Body) → e ≡ Some (n, b) → (length args == b.params) ≡ t) → AreOfFlavours below left
      → (act : World → Turn)
      → ((u : World) → act u ≡ construct (class_named u x) (object_number x) (method_in S.repo (class_named u x) constructor) args f below u)
      → Does r c live (C ∷ left) f act w (act w)
  made_or_called S x args left below w None None t class found known count h act is =
      let e = is w ∙ ap (λ o. construct o (object_number x) (method_in S.repo o constructor) args f below w) class in
      subst (λ t. Does r c live (C ∷ left) f act w t) (sym e)
      (refused (C ∷ left) act w constructor)
  made_or_called S x args left below w None (Some m) t class found known count h act is = absurd (cc)
  made_or_called S x [] left below w (Some k) None t class found known count h act is =
      let e = is w ∙ ap (λ o. construct o (object_number x) (method_in S.repo o constructor) [] f below w) class
      ∙ ap (λ m. construct (Some k) (object_number x) m [] f below w) found in
      subst (λ t. Does r c live (C ∷ left) f act w t) (sym e)
      (plain_does r c live f (C ∷ left) act w (Goes (ahead f (slots.Cell cells.Null ∷ below)) w) (quiet_next r c live f i (C ∷ left) (slots.Cell cells.Null ∷ below) w (tt, h)).plain)
  made_or_called S x (a ∷ args) left below w (Some k) None t class found known count h act is =
      let e = is w ∙ ap (λ o. construct o (object_number x) (method_in S.repo o constructor) (a ∷ args) f below w) class
      ∙ ap (λ m. construct (Some k) (object_number x) m (a ∷ args) f below w) found in
      subst (λ t. Does r c live (C ∷ left) f act w t) (sym e)
      (refused (C ∷ left) act w constructor)
  made_or_called S x args left below w (Some k) (Some m) false class found known count h act is =
      let e = is w ∙ ap (λ o. construct o (object_number x) (method_in S.repo o constructor) args f below w) class
      ∙ ap (λ m. construct (Some k) (object_number x) m args f below w) found
      ∙ ap (λ t. if t then Calls (entered_on (object_number x) m.0 m.1 args) w else no_method constructor w) (count m.0 m.1 refl) in
      subst (λ t. Does r c live (C ∷ left) f act w t) (sym e)
      (refused (C ∷ left) act w constructor)
  made_or_called S x args left below w (Some k) (Some m) true class found known count h act is =
      calls (C ∷ left) act w (entered_on (object_number x) m.0 m.1 args) (enters_on r (object_number x) m.0 m.1 args (known m.0 m.1 refl) (count m.0 m.1 refl))
      (λ u grows. is u ∙ ap (λ o. construct o (object_number x) (method_in S.repo o constructor) args f below u) (class_still x w u k grows class)
      ∙ ap (λ m. construct (Some k) (object_number x) m args f below u) found
      ∙ ap (λ t. if t then Calls (entered_on (object_number x) m.0 m.1 args) u else no_method constructor u) (count m.0 m.1 refl))

  pub fit_constructor_call : (S : Setting) (n : ℕ)
      → ((o : Option ℕ) (m : ℕ) (b : Body) → method_in S.repo o constructor ≡ Some (m, b) → IsKnown r m b) → HasOnTop (some_cells n ++ U ∷ C ∷ []) fs
      → fits (C ∷ drop (length (some_cells n ++ U ∷ C ∷ [])) fs) (λ w. constructor_call S n f w)
  fit_constructor_call S n known h =
      fit_cells r c live f n [] (C ∷ []) (U ∷ C ∷ []) fs f.stack _ s h
      (λ args rest more t m. fit_uninit r c live f (C ∷ []) (C ∷ []) more rest _ t m
      (λ rest2 more2 u o. fit_cell r c live f (C ∷ []) [] more2 rest2 _ u o
      (λ x below left v p all. record {
        does = λ w.
            let t = counted args (method_in S.repo (class_named w x) constructor) in
            made_or_called S x args left below w (class_named w x) (method_in S.repo (class_named w x) constructor) t.0 refl refl
            (λ n b e. known (class_named w x) n b e) t.1 v
            (λ w. construct (class_named w x) (object_number x) (method_in S.repo (class_named w x) constructor) args f below w) (λ u. refl);
      })))
