-- What the program says of a run that ended.
use Rattle.std.specs.Prelude.{◌≡◌, ℕ, List, [], ◌∷◌, ◌++◌, map, slice_get, codes}
use Rattle.std.specs.List.{flat_map}
use Rattle.std.specs.Fmt.{decimal}
use Rattle.hack_values.specs.Literal.{literal}
use Rattle.hack_values.specs.Show.{show_val}
use Rattle.hack_values.specs.View.{val_of}
use Rattle.type_lattice.specs.TypeText.{named}
use Rattle.hhbc_repo.specs.declared.body.Body.{Body}
use Rattle.hhbc_repo.specs.declared.repo.Class.{Class}
use Rattle.hhbc_repo.specs.Linked.{Linked}
use Rattle.hhbc_repo.specs.Bodies.{class_names}
use Rattle.hhbc_semantics.specs.Outcome.{Outcome, Place, Returned, Uncaught, Fatal, AssertFalse, Steps, Stuck, UnknownEntry, WrongCount}
use Rattle.hhbbc_top.specs.declared.status.Status.{Status}
use Rattle.hhbbc_top.specs.declared.status.Status.TheVariants as statuses

-- the names of all bodies: of a function its own, of a method its class's before it
abbrev pub body_names : Linked → List (List ℕ)
body_names r =
    map (λ (b : Body). b.name) r.functions
    ++ flat_map (λ (c : Class). map (λ (b : Body). c.name ++ (codes "::" ++ b.name)) c.methods) r.classes

-- a body's name, "@", and the number of a position
abbrev pub place_text : Linked → Place → List ℕ
place_text r p = named (slice_get (body_names r) p.body) ++ (64 ∷ decimal p.position)

-- the place, and the end of the line
abbrev pub place_end : Linked → Place → List ℕ
place_end r p = place_text r p ++ 10 ∷ []

-- the line of a run that ended so; runs of the form end in no other way
abbrev pub run_line : Linked → Outcome → List ℕ
run_line r (Returned c) = codes "returned " ++ (show_val (val_of c) ++ 10 ∷ [])
run_line r (Uncaught class message p) =
    codes "uncaught " ++ (named (slice_get (class_names r) class) ++ (32 ∷ (literal message ++ (codes " at " ++ place_end r p))))
run_line r (AssertFalse p) = codes "assert false at " ++ place_end r p
run_line r Steps = codes "steps spent\n"
run_line r (Fatal name p) = []
run_line r (Stuck why) = []
run_line r UnknownEntry = []
run_line r WrongCount = []

-- its status
abbrev pub HasStatus : Outcome → Status → Type 0
HasStatus (Returned c) s = s ≡ statuses.Done
HasStatus (Uncaught class message p) s = s ≡ statuses.Uncaught
HasStatus (AssertFalse p) s = s ≡ statuses.AssertFalse
HasStatus Steps s = s ≡ statuses.StepsSpent
HasStatus (Fatal name p) s = ⊥
HasStatus (Stuck why) s = ⊥
HasStatus UnknownEntry s = ⊥
HasStatus WrongCount s = ⊥
