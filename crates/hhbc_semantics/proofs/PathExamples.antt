-- Paths, member sequences and runs with them, computed by the definitions.
use Rattle.std.proofs.Common.{◌≡◌, ℕ, List, [], ◌∷◌, ◌++◌, None, pos, negsuc, false, replicate, refl, ap, arith, Ok, Err}
use Rattle.std.specs.Int.{w64}
use Rattle.std.proofs.lemmas.Int.{int_wrap_fits}
use Rattle.std.specs.Prelude.{codes}
use Rattle.hack_values.specs.View.{vals_of, pairs_of}
use Rattle.hack_values.specs.declared.key.Key.{Key}
use Rattle.hack_values.specs.declared.key.Key.TheVariants as elements
use Rattle.hack_values.specs.declared.cell.Cell.{Cell}
use Rattle.hack_values.specs.declared.cell.Cell.TheVariants as cells
use Rattle.hhbc_ops.specs.declared.op.Op.{Op}
use Rattle.hhbc_ops.specs.declared.op.Op.TheVariants as ops
use Rattle.hhbc_ops.specs.declared.words.QueryMode.TheVariants as modes
use Rattle.hhbc_ops.specs.declared.words.IncDecOp.TheVariants as incdecs
use Rattle.hhbc_repo.specs.declared.code.Code.TheVariants as kinds
use Rattle.hhbc_repo.specs.declared.code.Imm.{Imm}
use Rattle.hhbc_repo.specs.declared.code.Imm.TheVariants as imms
use Rattle.hhbc_repo.specs.declared.code.Base.{Base}
use Rattle.hhbc_repo.specs.declared.code.Base.TheVariants as bases
use Rattle.hhbc_repo.specs.declared.code.MemberKey.TheVariants as keys
use Rattle.hhbc_repo.specs.declared.code.Final.{Final}
use Rattle.hhbc_repo.specs.declared.code.Final.TheVariants as finals
use Rattle.hhbc_repo.specs.declared.body.Position.{Position}
use Rattle.hhbc_repo.specs.declared.body.Region.{Region}
use Rattle.type_lattice.specs.Member.{Heap}
use Rattle.hhbc_repo.specs.Linked.{Linked}
use Rattle.hhbc_semantics.specs.Setting.{with_six}
use Rattle.hhbc_semantics.specs.Outcome.{Outcome, Returned, Uncaught, Fatal, Depth}
use Rattle.hhbc_semantics.specs.Run.{run}
use Rattle.hhbc_semantics.specs.PathKeys.{Elem, Prop, BadProp, Nullsafe, Append}
use Rattle.hhbc_semantics.specs.PathReads.{Missing, NotContainer, BadKey, get}
use Rattle.hhbc_semantics.specs.PathWrites.{Sets, Unsets, Base as Rebased, Under, misses, write}

-- ---- paths

no_code : Linked
no_code = record { functions = []; classes = [] }

vec_of : List Cell → Cell
vec_of cs = cells.Vec (vals_of cs)

int : ℕ → Cell
int n = cells.Int (pos n)

one_under_a : ℕ → Cell
one_under_a n = cells.Dict (pairs_of ((elements.Str (codes "a"), int n) ∷ []))

at : ℕ → Key
at n = elements.Int (pos n)

set_inside : write no_code [] (Sets (int 9)) (vec_of (vec_of (int 1 ∷ []) ∷ [])) (Elem (at 0) ∷ Elem (at 0) ∷ []) ≡ Rebased (vec_of (vec_of (int 9 ∷ []) ∷ []))
unfolding no_code vec_of int at
set_inside = refl

set_past : write no_code [] (Sets (int 9)) (vec_of []) (Elem (at 0) ∷ []) ≡ misses Missing
unfolding no_code vec_of int at
set_past = refl

set_in_null : write no_code [] (Sets (int 9)) cells.Null (Elem (at 0) ∷ []) ≡ misses NotContainer
unfolding no_code int at
set_in_null = refl

set_by_text : write no_code [] (Sets (int 9)) (vec_of (int 1 ∷ [])) (Elem (elements.Str (codes "a")) ∷ []) ≡ misses BadKey
unfolding no_code vec_of int
set_by_text = refl

unset_there : write no_code [] Unsets (one_under_a 1) (Elem (elements.Str (codes "a")) ∷ []) ≡ Rebased (cells.Dict [])
unfolding no_code one_under_a int
unset_there = refl

unset_not_there : write no_code [] Unsets (one_under_a 1) (Elem (elements.Str (codes "b")) ∷ []) ≡ Rebased (one_under_a 1)
unfolding no_code one_under_a int
unset_not_there = refl

unset_in_vec : write no_code [] Unsets (vec_of (int 1 ∷ [])) (Elem (at 0) ∷ []) ≡ misses BadKey
unfolding no_code vec_of int at
unset_in_vec = refl

-- no element of a keyset is written, nor anything behind it; a key that finds none has the fault of reading
keyset_of : List Key → Cell
keyset_of keys = vec_of (cells.Keyset keys ∷ [])

through_element : write no_code [] (Sets (int 9)) (keyset_of (at 1 ∷ [])) (Elem (at 0) ∷ Elem (at 1) ∷ Elem (at 2) ∷ []) ≡ misses NotContainer
unfolding no_code keyset_of vec_of int at
through_element = refl

past_element : write no_code [] (Sets (int 9)) (keyset_of (at 1 ∷ [])) (Elem (at 0) ∷ Elem (at 2) ∷ Elem (at 2) ∷ []) ≡ misses Missing
unfolding no_code keyset_of vec_of int at
past_element = refl

added_last : write no_code [] (Sets (int 2)) (keyset_of (at 1 ∷ [])) (Elem (at 0) ∷ Append ∷ []) ≡ Rebased (keyset_of (at 1 ∷ at 2 ∷ []))
unfolding no_code keyset_of vec_of int at
added_last = refl

added_again : write no_code [] (Sets (int 1)) (keyset_of (at 1 ∷ [])) (Elem (at 0) ∷ Append ∷ []) ≡ Rebased (keyset_of (at 1 ∷ []))
unfolding no_code keyset_of vec_of int at
added_again = refl

added_null : write no_code [] (Sets cells.Null) (keyset_of (at 1 ∷ [])) (Elem (at 0) ∷ Append ∷ []) ≡ misses BadKey
unfolding no_code keyset_of vec_of at
added_null = refl

added_to_dict : write no_code [] (Sets (int 1)) (one_under_a 1) (Append ∷ []) ≡ misses BadKey
unfolding no_code one_under_a int
added_to_dict = refl

-- null under a null-safe key, and what is behind it
nothing_read : get no_code [] cells.Null (Nullsafe (codes "p") ∷ Nullsafe (codes "q") ∷ []) ≡ Ok cells.Null
unfolding no_code
nothing_read = refl

behind_nothing : get no_code [] cells.Null (Nullsafe (codes "p") ∷ Prop (codes "q") ∷ []) ≡ Err NotContainer
unfolding no_code
behind_nothing = refl

-- an exception whose message is itself, and then a vec: a write begins at the last property that is passed
itself : Heap
itself = (record { class = 0; props = cells.Obj 0 ∷ [] }) ∷ []

message_set : write no_code itself (Sets (int 7)) (cells.Obj 0) (Prop (codes "message") ∷ Prop (codes "message") ∷ []) ≡ Under 0 0 (int 7)
unfolding no_code itself int
message_set = refl

with_vec : Heap
with_vec = (record { class = 1; props = vec_of (int 1 ∷ []) ∷ [] }) ∷ []

in_message : write no_code with_vec (Sets (int 7)) (vec_of (cells.Obj 0 ∷ [])) (Elem (at 0) ∷ Prop (codes "message") ∷ Append ∷ [])
    ≡ Under 0 0 (vec_of (int 1 ∷ int 7 ∷ []))
unfolding no_code with_vec vec_of int at
in_message = refl

message_unset : write no_code itself Unsets (cells.Obj 0) (Prop (codes "message") ∷ []) ≡ misses BadKey
unfolding no_code itself
message_unset = refl

no_property : write no_code itself Unsets (cells.Obj 0) (Prop (codes "other") ∷ []) ≡ misses Missing
unfolding no_code itself
no_property = refl

no_name : write no_code itself (Sets (int 7)) (cells.Obj 0) (BadProp ∷ []) ≡ misses BadKey
unfolding no_code itself int
no_name = refl

no_elements : write no_code itself (Sets (int 7)) (cells.Obj 0) (Append ∷ []) ≡ misses NotContainer
unfolding no_code itself int
no_elements = refl

-- ---- runs

plain : Op → List Imm → Position
plain op is = record { asserts = []; code = kinds.Plain (record { op = op; imms = is }) }

path : Base → Final → Position
path base last = record { asserts = []; code = kinds.Member (record { base = base; dims = []; last = last }) }

main_of : List Position → List Region → Linked
main_of positions regions = record {
  functions =
      (record { name = codes "main"; params = 0; locals = codes "v" ∷ []; iters = 0; stated = None; positions = positions; regions = regions })
      ∷ [];
  classes = [];
}

outcome_of : Linked → ℕ → Outcome
outcome_of r steps = (run (with_six r) (codes "main") [] steps false).outcome

-- the exception that an empty vec has no element is caught, and its message returned
reads_message : Linked
reads_message =
    main_of (plain ops.NewVec (imms.Count 0 ∷ []) ∷ plain ops.PopL (imms.Local 0 ∷ [])
    ∷ path (bases.Local 0) (finals.Query 0 modes.CGet (keys.ElemInt (pos 0))) ∷ plain ops.RetC []
    ∷ path (bases.Stack 0) (finals.Query 1 modes.CGet (keys.PropName (codes "message"))) ∷ plain ops.RetC [] ∷ [])
    (record { first = 2; mid = 4; last = 6 } ∷ [])

message_returned : outcome_of reads_message 5 ≡ Returned (cells.Str (codes "missing key"))
unfolding outcome_of reads_message main_of plain path
message_returned = refl

-- one is added under a key, and what is no int refused
counts_up : List Position → Linked
counts_up value =
    main_of (plain ops.NewDictArray (imms.Count 0 ∷ []) ∷ plain ops.PopL (imms.Local 0 ∷ []) ∷ value
    ++ path (bases.Local 0) (finals.Set 0 (keys.ElemText (codes "a"))) ∷ plain ops.PopC []
    ∷ path (bases.Local 0) (finals.IncDec 0 incdecs.PostInc (keys.ElemText (codes "a"))) ∷ plain ops.PopC []
    ∷ plain ops.CGetL (imms.Local 0 ∷ []) ∷ plain ops.RetC [] ∷ []) []

counted : outcome_of (counts_up (plain ops.Int (imms.Int (pos 1) ∷ []) ∷ [])) 9 ≡ Returned (one_under_a 2)
unfolding outcome_of counts_up main_of plain path one_under_a int
counted = ap (λ i. Returned (cells.Dict (pairs_of ((elements.Str (codes "a"), cells.Int i) ∷ [])))) (int_wrap_fits w64 (pos 2) (omega arith))

no_int : outcome_of (counts_up (plain ops.String (imms.Str (codes "a") ∷ []) ∷ [])) 9 ≡ Uncaught 2 (codes "bad operand") (record { body = 0; position = 5 })
unfolding outcome_of counts_up main_of plain path
no_int = refl

-- the least int by -1 leaves no remainder
least_by_minus_one : Linked
least_by_minus_one =
    main_of (plain ops.Int (imms.Int (negsuc 9223372036854775807) ∷ []) ∷ plain ops.Int (imms.Int (negsuc 0) ∷ []) ∷ plain ops.Mod [] ∷ plain ops.RetC [] ∷ []) []

no_remainder : outcome_of least_by_minus_one 4 ≡ Returned (int 0)
unfolding outcome_of least_by_minus_one main_of plain int
no_remainder = refl

-- vecs within one another, to the limit of depth and past it
nested : ℕ → Linked
nested n = main_of (plain ops.NewVec (imms.Count 0 ∷ []) ∷ replicate n (plain ops.NewVec (imms.Count 1 ∷ [])) ++ plain ops.PopC [] ∷ plain ops.Null [] ∷ plain ops.RetC [] ∷ []) []

deep_enough : outcome_of (nested 63) 67 ≡ Returned cells.Null
unfolding outcome_of nested main_of plain
deep_enough = refl

too_deep : outcome_of (nested 64) 67 ≡ Fatal Depth (record { body = 0; position = 64 })
unfolding outcome_of nested main_of plain
too_deep = refl
