-- The plain machine's frames and turns, as runs are defined.
use Rattle.std.proofs.Common.{◌≡◌, ◌<◌, Bool, true, false, ℕ, zero, suc, ◌+◌, ◌-◌, arith, codes, add-one, ◌++◌, refl, sym, ◌∙◌, ap, subst, List, [], ◌∷◌, Option, Some, None, option_map, map, replicate, slice_get, slice_set, Ok}
use Rattle.std.proofs.lemmas.Option.{slice_get-map, same_Some}
use Rattle.std.proofs.lemmas.List.{map-set, map-append}
use Rattle.hack_values.specs.declared.cell.Slot.{Slot}
use Rattle.hack_values.specs.declared.cell.Slot.TheVariants as slots
use Rattle.hhbc_repo.specs.declared.code.Code.{Code}
use Rattle.hhbc_repo.specs.declared.body.Assert.{Assert}
use Rattle.hhbc_repo.specs.declared.body.Body.{Body}
use Rattle.hhbc_repo.specs.Bare.{bare, bare_body, bare_position}
use Rattle.hhbc_repo.specs.Bodies.{built_in_tree, code_at, asserts_at}
use Rattle.hhbc_repo.specs.Bodies as bodies
use Rattle.hhbc_repo.specs.Linked.{Linked}
use Rattle.hhbc_semantics.specs.Setting.{Setting, bare_setting}
use Rattle.hhbc_semantics.specs.Outcome.{Outcome, Steps, Stuck, Underflow}
use Rattle.hhbc_semantics.specs.Run.{advance, after, start, test, tested, no_world, result_of, run}
use Rattle.hhbc_semantics.specs.Steps.{Config, Running, Ended, finish}
use Rattle.hhbbc_top.specs.declared.form.Line.{Line}
use Rattle.hhbbc_top.specs.declared.form.Main.{Main}
use Rattle.hhbbc_top.specs.declared.machine.Ending.{Ending}
use Rattle.hhbbc_top.specs.declared.machine.Ending.TheVariants as endings
use Rattle.hhbbc_top.specs.declared.machine.Machine.{Machine}
use Rattle.hhbbc_top.specs.declared.machine.Turn.TheVariants as turns
use Rattle.hhbbc_top.specs.declared.machine.Turn.{Turn as Did}
use Rattle.hhbbc_top.specs.declared.machine.Value.{Value}
use Rattle.hhbc_semantics.specs.Frames.{World, Frame, Goes, Returns, ahead, set_local}
use Rattle.hhbc_semantics.specs.Machine.{perform_code}
use Rattle.hhbc_semantics.specs.Operands.{with_cell}
use Rattle.hhbbc_top.specs.Forms.{code_of, position_of, body_of, repo_of, setting_of}
use Rattle.hhbbc_top.specs.Running.{cell_of, full, slot_of, frame_of, config_of, turn_of, outcome_of, HasEnded, Turned}

one-more : {A : Type 0} (n : ℕ) (x : A) → replicate n x ++ x ∷ [] ≡ x ∷ replicate n x
one-more zero x = refl
one-more (suc n) x = ap (λ xs. x ∷ xs) (one-more n x)

pub unset-one : (ls : List (Option Value)) (n : ℕ) → map slot_of ls ≡ replicate n slots.Uninit → map slot_of (ls ++ None ∷ []) ≡ replicate (n + 1) slots.Uninit
unset-one ls n e = rw add-one (map-append slot_of ls (None ∷ []) ∙ ap (λ (ss : List Slot). ss ++ slots.Uninit ∷ []) e ∙ one-more n slots.Uninit)

-- the topmost of a stack is returned
pub returned-top : (vs : List Value) (v : Value) (w : World) → slice_get vs 0 ≡ Some v
    → with_cell (map full vs) w (λ c rest. Returns c w) ≡ Returns (cell_of v) w
returned-top [] v w e = absurd (cc)
returned-top (u ∷ vs) v w e = ap (λ (x : Value). Returns (cell_of x) w) (same_Some u v e)

-- a top that is copied to a local stays
pub set-top : (vs : List Value) (v : Value) (w : World) (f : Frame) (l : ℕ) → slice_get vs 0 ≡ Some v
    → Goes (ahead (set_local f l (full v)) f.stack) w ≡ with_cell (map full vs) w (λ c rest. Goes (ahead (set_local f l (slots.Cell c)) f.stack) w)
set-top [] v w f l e = absurd (cc)
set-top (u ∷ vs) v w f l e = ap (λ (x : Value). Goes (ahead (set_local f l (full x)) f.stack) w) (sym (same_Some u v e))

pub set-slot : (ls : List (Option Value)) (l : ℕ) (v : Value) → map slot_of (slice_set ls l (Some v)) ≡ slice_set (map slot_of ls) l (full v)
set-slot ls l v = map-set slot_of ls l (Some v)

-- the code of a line
pub bare-code : (m : Main) (p : ℕ) (l : Line) → slice_get m.codes p ≡ Some l → code_at (bare_body (body_of m)) p ≡ Some (code_of l.step)
bare-code m p l e =
    ap bodies.code_of
    (slice_get-map bare_position (map position_of m.codes) p
    ∙ ap (option_map bare_position) (slice_get-map position_of m.codes p ∙ ap (option_map position_of) e))

-- how a turn that a code ends tells it
abbrev pub ended_by : Did → ℕ → Option Ending
ended_by turns.Goes p = None
ended_by (turns.Returns v) p = Some (endings.Returned v)
ended_by (turns.Raises l) p = Some (endings.Undefined l p)
ended_by turns.Sticks p = Some endings.Stuck

finished : (m : Main) (old new : Machine) (t : Did)
    → Turned m.locals (Ok (ended_by t old.position)) new (finish (bare (repo_of m)) (frame_of old) [] (turn_of m.locals t (frame_of new)))
finished m old new turns.Goes = refl
finished m old new (turns.Returns v) = (refl, refl)
finished m old new (turns.Raises l) = (refl, refl)
finished m old new turns.Sticks = (refl, refl)

pub stepped : (m : Main) (old new : Machine) (l : Line) (t : Did)
    → ((S : Setting) (b : Body) → perform_code S (Some (code_of l.step)) b (frame_of old) no_world ≡ turn_of b.locals t (frame_of new))
    → slice_get m.codes old.position ≡ Some l
    → Turned m.locals (Ok (ended_by t old.position)) new (advance (setting_of m) false (config_of old))
stepped m old new l t h e =
    let b : Body = bare_body (body_of m) in
    let did = ap (λ (c : Option Code). finish (bare (repo_of m)) (frame_of old) [] (perform_code (bare_setting (setting_of m)) c b (frame_of old) no_world)) (bare-code m old.position l e)
    ∙ ap (finish (bare (repo_of m)) (frame_of old) []) (h (bare_setting (setting_of m)) b) in
    subst (Turned m.locals (Ok (ended_by t old.position)) new) (sym did) (finished m old new t)

pub stepped-as : (m : Main) (old new : Machine) (l : Line) (t u : Did)
    → ((S : Setting) (b : Body) → perform_code S (Some (code_of l.step)) b (frame_of old) no_world ≡ turn_of b.locals t (frame_of new))
    → slice_get m.codes old.position ≡ Some l → t ≡ u
    → Turned m.locals (Ok (ended_by u old.position)) new (advance (setting_of m) false (config_of old))
stepped-as m old new l t u h e is = subst (λ (x : Did). Turned m.locals (Ok (ended_by x old.position)) new (advance (setting_of m) false (config_of old))) is (stepped m old new l t h e)

-- the assertions of a line
asserts-of : (m : Main) (p : ℕ) (o : Option Line) → slice_get m.codes p ≡ o → asserts_at (body_of m) p ≡ bodies.asserts_of (option_map position_of o)
asserts-of m p o e = ap bodies.asserts_of (slice_get-map position_of m.codes p ∙ ap (option_map position_of) e)

-- a turn whose assertions are tested
tests : (m : Main) (f : Machine) (o : Option Line) → slice_get m.codes f.position ≡ o
    → advance (setting_of m) true (config_of f)
    ≡ tested (test built_in_tree [] (frame_of f) (bodies.asserts_of (option_map position_of o))) (frame_of f) no_world (advance (setting_of m) false (config_of f))
tests m f o e =
    ap (λ (xs : List Assert). tested (test built_in_tree [] (frame_of f) xs) (frame_of f) no_world (advance (setting_of m) false (config_of f)))
    (asserts-of m f.position o e)

-- what the test of the assertions comes to
pub test-stuck : (m : Main) (old new : Machine) (l : Line) → slice_get m.codes old.position ≡ Some l → test built_in_tree [] (frame_of old) l.asserts ≡ None
    → Turned m.locals (Ok (Some endings.Stuck)) new (advance (setting_of m) true (config_of old))
test-stuck m old new l e t =
    subst (λ (c : Config). HasEnded c (Stuck Underflow))
    (sym (tests m old (Some l) e ∙ ap (λ (o : Option Bool). tested o (frame_of old) no_world (advance (setting_of m) false (config_of old))) t)) (refl, refl)

-- runs
abbrev pub main_after : Main → Bool → ℕ → Config
main_after m asserted n = after (setting_of m) asserted (start (setting_of m) (codes "main") []) n

pub goes-on : (m : Main) (asserted : Bool) (old new : Machine) (n : ℕ) (o : Option Ending) → config_of old ≡ main_after m asserted n → o ≡ None
    → Turned m.locals (Ok o) new (advance (setting_of m) asserted (config_of old)) → config_of new ≡ main_after m asserted (n + 1)
goes-on m asserted old new n None e is h = rw add-one (sym h ∙ ap (advance (setting_of m) asserted) e)
goes-on m asserted old new n (Some x) e is h = absurd (cc)

ended-one : (S : Setting) (asserted : Bool) (c : Config) (o : Outcome) → HasEnded c o → HasEnded (advance S asserted c) o
ended-one S true (Running f fs w) o h = absurd h
ended-one S false (Running f fs w) o h = absurd h
ended-one S true (Ended p w) o h = h
ended-one S false (Ended p w) o h = h

ended-stays : (m : Main) (asserted : Bool) (o : Outcome) (n k d : ℕ) → d ≡ k + n → HasEnded (main_after m asserted n) o → HasEnded (main_after m asserted d) o
ended-stays m asserted o n zero d e h = let same : n ≡ d = omega (arith, e) in subst (λ (x : ℕ). HasEnded (main_after m asserted x) o) same h
ended-stays m asserted o n (suc k) zero e h = absurd (omega (arith, e))
ended-stays m asserted o n (suc k) (suc d) e h = ended-one (setting_of m) asserted (main_after m asserted d) o (ended-stays m asserted o n k d (omega (arith, e)) h)

ended-result : (c : Config) (o : Outcome) → HasEnded c o → result_of c ≡ record { outcome = o; output = [] }
ended-result (Running f fs w) o h = absurd h
ended-result (Ended p w) o h = λ i. record { outcome = h.0 i; output = h.1 i }

run-from : (m : Main) (asserted : Bool) (old : Machine) (n steps : ℕ) (o : Outcome) → config_of old ≡ main_after m asserted n → n < steps
    → HasEnded (advance (setting_of m) asserted (config_of old)) o
    → run (setting_of m) (codes "main") [] steps asserted ≡ record { outcome = o; output = [] }
run-from m asserted old n steps o e less h =
    let there : HasEnded (main_after m asserted (suc n)) o = subst (λ (c : Config). HasEnded (advance (setting_of m) asserted c) o) e h in
    let end : HasEnded (main_after m asserted steps) o = ended-stays m asserted o (suc n) (steps - suc n) steps (omega (arith, less)) there in
    ended-result (main_after m asserted steps) o end

pub run-ended : (m : Main) (asserted : Bool) (old new : Machine) (n steps : ℕ) (o : Option Ending) (x : Ending) → config_of old ≡ main_after m asserted n → n < steps → o ≡ Some x
    → Turned m.locals (Ok o) new (advance (setting_of m) asserted (config_of old))
    → run (setting_of m) (codes "main") [] steps asserted ≡ record { outcome = outcome_of m.locals x; output = [] }
run-ended m asserted old new n steps o x e less is h =
    run-from m asserted old n steps (outcome_of m.locals x) e less
    (subst (λ (o : Option Ending). Turned m.locals (Ok o) new (advance (setting_of m) asserted (config_of old))) is h)

pub run-spent : (m : Main) (asserted : Bool) (old : Machine) (n steps : ℕ) → n ≡ steps → config_of old ≡ main_after m asserted n
    → run (setting_of m) (codes "main") [] steps asserted ≡ record { outcome = Steps; output = [] }
run-spent m asserted old n steps is e = ap (λ (k : ℕ). run (setting_of m) (codes "main") [] k asserted) (sym is) ∙ ap result_of (sym e)
