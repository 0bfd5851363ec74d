-- What codes take from a frame that has it: one lemma for each way to take it.
use Rattle.std.proofs.Common.{◌≡◌, inl, ℕ, zero, suc, ◌<◌, ◌≤◌, refl, sym, ap, subst, Bool, true, false, Option, Some, None, List, [], ◌∷◌, ◌++◌, drop, slice_get, slice_set, length, Result, Ok, Err, if◌then◌else◌, arith}
use Rattle.hack_values.specs.declared.cell.Cell.{Cell}
use Rattle.hack_values.specs.declared.cell.Slot.{Slot}
use Rattle.hack_values.specs.declared.cell.Slot.TheVariants as slots
use Rattle.hack_values.specs.declared.operators.OpFault.{OpFault}
use Rattle.hack_values.specs.declared.operators.OpFault.TheVariants as faults
use Rattle.hhbc_ops.specs.declared.words.Flavour.{Flavour}
use Rattle.hhbc_ops.specs.declared.words.Flavour.TheVariants.{C, U}
use Rattle.hhbc_repo.specs.declared.code.Code.{Code}
use Rattle.hhbc_repo.specs.declared.body.Body.{Body}
use Rattle.hhbc_repo.specs.Linked.{Linked}
use Rattle.hhbc_repo.specs.Codes.{throws, goes_on, iter_use, some_cells}
use Rattle.hhbc_repo.specs.Shapes.{agree, live_next}
use Rattle.hhbc_semantics.specs.Outcome.{FatalName}
use Rattle.hhbc_semantics.specs.Frames.{World, Frame, Turn, Goes, Calls, Returns, Raises, Ends, Fails, Sticks, ahead}
use Rattle.hhbc_semantics.specs.Growth.{WorldGrows}
use Rattle.hhbc_semantics.specs.Exceptions.{raises}
use Rattle.hhbc_semantics.specs.Operands.{with_cell, with_cells, with_uninit, name_or_none, read_slot, with_local, found_slot, with_slot, with_this}
use Rattle.hhbc_semantics.specs.Operators.{faulted, with_answer}
use Rattle.hhbc_semantics.specs.ShapeAnalysis.{AreOfFlavours, AreLive}
use Rattle.hhbc_semantics.specs.ShapeRows.{Does, Fits, Follows}
use Rattle.hhbc_semantics.proofs.Growing.{append_grows}

-- the topmost flavours are these
abbrev pub HasOnTop : List Flavour → List Flavour → Type 0
HasOnTop [] fs = Unit {0}
HasOnTop (x ∷ xs) [] = ⊥
HasOnTop (x ∷ xs) (y ∷ ys) = (x ≡ y) × HasOnTop xs ys

pub on_top : (takes fs : List Flavour) → length takes ≤ length fs → agree takes fs ≡ true → HasOnTop takes fs
on_top [] fs e a = tt
on_top (x ∷ takes) [] e a = absurd (omega (arith, e))
on_top (C ∷ takes) (C ∷ fs) e a = (refl, on_top takes fs (omega (arith, e)) a)
on_top (C ∷ takes) (U ∷ fs) e a = absurd (cc)
on_top (U ∷ takes) (C ∷ fs) e a = absurd (cc)
on_top (U ∷ takes) (U ∷ fs) e a = (refl, on_top takes fs (omega (arith, e)) a)

pub length_set : {A : Type 0} (xs : List A) (i : ℕ) (x : A) → length (slice_set xs i x) ≡ length xs
length_set [] i x = refl
length_set (a ∷ xs) zero x = refl
length_set (a ∷ xs) (suc i) x = ap suc (length_set xs i x)

module _ (r : Linked) (c : Code) (live : List Bool) (f : Frame) where
  -- what a turn that calls nothing owes
  abbrev pub Plain : List Flavour → World → Turn → Type 0
  Plain left w (Goes g v) = Follows c live left f g × WorldGrows w v
  Plain left w (Calls g v) = ⊥
  Plain left w (Returns x v) = WorldGrows w v
  Plain left w (Raises e v) = (throws c ≡ true) × WorldGrows w v
  Plain left w (Ends (Fails name) v) = WorldGrows w v
  Plain left w (Ends (Sticks why) v) = ⊥

  pub record Quiet (left : List Flavour) (w : World) (t : Turn) : Type 0 where
    pub plain : Plain left w t

  pub plain_does : (left : List Flavour) (act : World → Turn) (w : World) (t : Turn) → Plain left w t → Does r c live left f act w t
  plain_does left act w (Goes g v) h = h
  plain_does left act w (Calls g v) h = absurd h
  plain_does left act w (Returns x v) h = h
  plain_does left act w (Raises e v) h = h
  plain_does left act w (Ends (Fails name) v) h = h
  plain_does left act w (Ends (Sticks why) v) h = absurd h

  pub fit_quiet : (left : List Flavour) (act : World → Turn) → ((w : World) → Quiet left w (act w)) → Fits r c live left f act
  fit_quiet left act h = record { does = λ w. plain_does left act w (act w) (h w).plain }

  -- a raised exception is new in the heap
  pub quiet_raises : (left : List Flavour) (class : ℕ) (message : List ℕ) (w : World) → throws c ≡ true → Quiet left w (raises class message w)
  quiet_raises left class message w may = record { plain = (may, append_grows w.heap _) }

  pub quiet_fails : (left : List Flavour) (name : FatalName) (w : World) → Quiet left w (Ends (Fails name) w)
  quiet_fails left name w = record { plain = λ n k h. h }

  -- a code that goes on, and has no iterator
  pub record IsIdle : Type 0 where
    pub on : goes_on c ≡ true
    pub idle : iter_use c ≡ None
    pub lives : AreLive f.iters live

  pub quiet_on : IsIdle → (left : List Flavour) (g : Frame) (stack : List Slot) (w v : World) → WorldGrows w v
      → g.body ≡ f.body → length g.locals ≡ length f.locals → g.iters ≡ f.iters → g.position ≡ f.position → AreOfFlavours stack left
      → Quiet left w (Goes (ahead g stack) v)
  quiet_on i left g stack w v grows body locals iters position s = record {
    plain = (
      record {
        body = body;
        locals = locals;
        stack = s;
        leads = inl (record {
          on = i.on;
          position = ap suc position;
          iters =
              subst (λ is. AreLive is (live_next (iter_use c) live)) (sym iters)
              (subst (λ u. AreLive f.iters (live_next u live)) (sym i.idle) i.lives);
        });
      },
      grows,
    );
  }

  -- the frame itself at its next position
  pub quiet_next : IsIdle → (left : List Flavour) (stack : List Slot) (w : World) → AreOfFlavours stack left → Quiet left w (Goes (ahead f stack) w)
  quiet_next i left stack w s = quiet_on i left f stack w w (λ n k h. h) refl refl refl refl s

  pub fit_next : IsIdle → (left : List Flavour) (stack : List Slot) → AreOfFlavours stack left → Fits r c live left f (λ w. Goes (ahead f stack) w)
  fit_next i left stack s = fit_quiet left (λ w. Goes (ahead f stack) w) (λ w. quiet_next i left stack w s)

  pub quiet_if : (left : List Flavour) (w : World) (t : Bool) (a b : Turn) → Quiet left w a → Quiet left w b → Quiet left w (if t then a else b)
  quiet_if left w true a b h k = h
  quiet_if left w false a b h k = k

  quiet_fault : (left : List Flavour) (w : World) (fault : OpFault) → throws c ≡ true → Quiet left w (faulted fault w)
  quiet_fault left w faults.BadOperand may = quiet_raises left _ _ w may
  quiet_fault left w faults.DivisionByZero may = quiet_raises left _ _ w may
  quiet_fault left w faults.TooLarge may = record { plain = λ n k h. h }
  quiet_fault left w faults.NoMemory may = record { plain = λ n k h. h }

  pub quiet_answer : (left : List Flavour) (w : World) (answer : Result Cell OpFault) (go : Cell → Turn) → ((fault : OpFault) → answer ≡ Err fault → throws c ≡ true)
      → ((x : Cell) → Quiet left w (go x)) → Quiet left w (with_answer answer w go)
  quiet_answer left w (Ok x) go may h = h x
  quiet_answer left w (Err fault) go may h = quiet_fault left w fault (may fault refl)

  pub quiet_this : (left : List Flavour) (w : World) (this : Option ℕ) (go : ℕ → Turn) → throws c ≡ true
      → ((n : ℕ) → Quiet left w (go n)) → Quiet left w (with_this this w go)
  quiet_this left w None go may h = quiet_raises left _ _ w may
  quiet_this left w (Some n) go may h = h n

  -- slots of the stack
  pub fit_cell : (puts takes fs : List Flavour) (stack : List Slot) (go : World → Cell → List Slot → Turn) → AreOfFlavours stack fs → HasOnTop (C ∷ takes) fs
      → ((x : Cell) (rest : List Slot) (more : List Flavour) → AreOfFlavours rest more → HasOnTop takes more → AreOfFlavours stack (C ∷ more)
      → Fits r c live (puts ++ drop (length takes) more) f (λ w. go w x rest))
      → Fits r c live (puts ++ drop (length (C ∷ takes)) fs) f (λ w. with_cell stack w (go w))
  fit_cell puts takes [] stack go s h k = absurd h
  fit_cell puts takes (U ∷ fs) stack go s h k = absurd (let e = h.0 in cc)
  fit_cell puts takes (C ∷ fs) [] go s h k = absurd s
  fit_cell puts takes (C ∷ fs) (slots.Uninit ∷ rest) go s h k = absurd s.0
  fit_cell puts takes (C ∷ fs) (slots.Cell x ∷ rest) go s h k = k x rest fs s.1 h.1 s

  pub fit_uninit : (puts takes fs : List Flavour) (stack : List Slot) (go : World → List Slot → Turn) → AreOfFlavours stack fs → HasOnTop (U ∷ takes) fs
      → ((rest : List Slot) (more : List Flavour) → AreOfFlavours rest more → HasOnTop takes more
      → Fits r c live (puts ++ drop (length takes) more) f (λ w. go w rest))
      → Fits r c live (puts ++ drop (length (U ∷ takes)) fs) f (λ w. with_uninit stack w (go w))
  fit_uninit puts takes [] stack go s h k = absurd h
  fit_uninit puts takes (C ∷ fs) stack go s h k = absurd (let e = h.0 in cc)
  fit_uninit puts takes (U ∷ fs) [] go s h k = absurd s
  fit_uninit puts takes (U ∷ fs) (slots.Cell x ∷ rest) go s h k = absurd s.0
  fit_uninit puts takes (U ∷ fs) (slots.Uninit ∷ rest) go s h k = k rest fs s.1 h.1

  pub fit_cells : (n : ℕ) (taken : List Cell) (puts takes fs : List Flavour) (stack : List Slot) (go : World → List Cell → List Slot → Turn)
      → AreOfFlavours stack fs → HasOnTop (some_cells n ++ takes) fs
      → ((cs : List Cell) (rest : List Slot) (more : List Flavour) → AreOfFlavours rest more → HasOnTop takes more
      → Fits r c live (puts ++ drop (length takes) more) f (λ w. go w cs rest))
      → Fits r c live (puts ++ drop (length (some_cells n ++ takes)) fs) f (λ w. with_cells n taken stack w (go w))
  fit_cells zero taken puts takes fs stack go s h k = k taken stack fs s h
  fit_cells (suc n) taken puts takes fs stack go s h k =
      fit_cell puts (some_cells n ++ takes) fs stack (λ w x rest. with_cells n (x ∷ taken) rest w (go w)) s h
      (λ x rest more t m all. fit_cells n (x ∷ taken) puts takes more rest go t m k)

  -- locals
  fit_read : (left : List Flavour) (ss : List Slot) (l : ℕ) (name : List ℕ) (go : World → Cell → Turn) → l < length ss → throws c ≡ true
      → ((x : Cell) → Fits r c live left f (λ w. go w x)) → Fits r c live left f (λ w. read_slot (slice_get ss l) name w (go w))
  fit_read left [] l name go i may k = absurd (omega arith)
  fit_read left (slots.Uninit ∷ ss) zero name go i may k = fit_quiet left _ (λ w. quiet_raises left _ _ w may)
  fit_read left (slots.Cell x ∷ ss) zero name go i may k = k x
  fit_read left (s ∷ ss) (suc l) name go i may k = fit_read left ss l name go (omega arith) may k

  pub fit_local : (left : List Flavour) (b : Body) (l : ℕ) (go : World → Cell → Turn) → l < length f.locals → throws c ≡ true
      → ((x : Cell) → Fits r c live left f (λ w. go w x)) → Fits r c live left f (λ w. with_local b f w l (go w))
  fit_local left b l go i may k = fit_read left f.locals l (name_or_none (slice_get b.locals l)) go i may k

  fit_found : (left : List Flavour) (ss : List Slot) (l : ℕ) (go : World → Slot → Turn) → l < length ss
      → ((s : Slot) → Fits r c live left f (λ w. go w s)) → Fits r c live left f (λ w. found_slot (slice_get ss l) w (go w))
  fit_found left [] l go i k = absurd (omega arith)
  fit_found left (s ∷ ss) zero go i k = k s
  fit_found left (s ∷ ss) (suc l) go i k = fit_found left ss l go (omega arith) k

  pub fit_slot : (left : List Flavour) (l : ℕ) (go : World → Slot → Turn) → l < length f.locals
      → ((s : Slot) → Fits r c live left f (λ w. go w s)) → Fits r c live left f (λ w. with_slot f w l (go w))
  fit_slot left l go i k = fit_found left f.locals l go i k
