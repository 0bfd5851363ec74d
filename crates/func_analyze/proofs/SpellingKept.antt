-- The annotated repository of one that some text spells is spelled too, where claims within their ranges keep a spelling.
use Rattle.std.proofs.Common.{◌≡◌, ◌^◌, ℕ, suc, ℤ, pos, negsuc, refl, sym, ◌∙◌, ap, subst, Bool, true, false, ◌&&◌, nat_le, Option, Some, None, List, [], ◌∷◌, map, slice_get, length, cond, w64, FitsSigned}
use Rattle.std.specs.List.{list_all}
use Rattle.std.proofs.lemmas.Bool.{and_from, and_parts, lt-ltb, ltb-true}
use Rattle.hhbc_ops.specs.declared.op.Op.{Op}
use Rattle.hhbc_ops.specs.declared.op.Op.TheVariants as ops
use Rattle.hhbc_ops.specs.declared.words.ImmKind.{ImmKind}
use Rattle.hhbc_ops.specs.declared.words.ImmKind.TheVariants as kinds
use Rattle.hhbc_ops.specs.Ops.{kinds_of}
use Rattle.type_lattice.specs.declared.types.HType.{HType}
use Rattle.type_lattice.specs.InRange.{where_there, is_proper}
use Rattle.type_lattice.proofs.Ranges.{proper_is_tested}
use Rattle.type_lattice.specs.Whole.{is_whole}
use Rattle.hhbc_repo.specs.declared.body.Assert.{Assert}
use Rattle.hhbc_repo.specs.declared.body.Assert.TheVariants as asserts
use Rattle.hhbc_repo.specs.declared.body.Body.{Body}
use Rattle.hhbc_repo.specs.declared.body.Position.{Position}
use Rattle.hhbc_repo.specs.declared.code.Code.{Code}
use Rattle.hhbc_repo.specs.declared.code.Code.TheVariants as forms
use Rattle.hhbc_repo.specs.declared.code.Imm.{Imm}
use Rattle.hhbc_repo.specs.declared.code.Imm.TheVariants as imms
use Rattle.hhbc_repo.specs.declared.parts.ImmParts.TheVariants as operands
use Rattle.hhbc_repo.specs.declared.parts.ItemParts.TheVariants as items
use Rattle.hhbc_repo.specs.Bare.{bare, bare_body, bare_position}
use Rattle.hhbc_repo.specs.Bodies.{built_in_tree, class_names}
use Rattle.hhbc_repo.specs.Canonical.{before, canonical, canonical_assert, canonical_body, canonical_code, canonical_operand, canonical_position, items_from}
use Rattle.hhbc_repo.specs.Claims.{body_claims_within, claims_within, position_claims_within}
use Rattle.hhbc_repo.specs.Codes.{Flavour, int_of, op_reads, pops, reads_locals}
use Rattle.hhbc_repo.specs.Fits.{assert_fits, body_fits, class_fits, code_fits, is_index, item_fits, nests, operand_fits, operands_fit, parts_fit, position_fits}
use Rattle.hhbc_semantics.specs.Form.{FitClaimed, FitsCode, FitsOperands, IsSecondBody, IsSecondForm}
use Rattle.hhbc_repo.specs.LinkFaults.{Name}
use Rattle.hhbc_repo.specs.Linked.{Linked}
use Rattle.hhbc_repo.specs.Spelled.{HasSpelling}
use Rattle.hhbc_repo.specs.TypeFits.{type_fits}
use Rattle.hhbc_repo.specs.Within.{Bounds, assert_within, bounds_of, local_within}
use Rattle.hhbc_semantics.proofs.FirstForm.{only, second_is}
use Rattle.hhbc_repo.proofs.SpelledTypes.{all_back, all_both}
use Rattle.hhbc_semantics.proofs.Stripped.{bare_again}
use Rattle.abstract_step.specs.State.{State, entry_state}
use Rattle.func_analyze.specs.Annotated.{claim, claims, local_claims, stack_claims, with_claims}
use Rattle.func_analyze.specs.Chain.{annotated_by, annotated_main, chain, returned_at_end, state_behind}
use Rattle.func_analyze.specs.Laws.{AreWords, IsWord}
use Rattle.func_analyze.proofs.AnnotatedBodies.{annotated_off}
use Rattle.func_analyze.proofs.ChainProper.{AllProper, Proper, ProperIf, ProperStateIf, behind_proper, entry_proper, got, returned_is_proper}
use Rattle.func_analyze.proofs.SecondForm.{bare_chain_annotates, bare_words}

-- ---- ints that a text spells are of 64 bits

int_word : (i : ℤ) → operand_fits kinds.Int (operands.Int i) ≡ true → FitsSigned w64 i
int_word (pos n) h = record { sfits = ltb-true n (2 ^ 63) h }
int_word (negsuc n) h = record { sfits = ltb-true n (2 ^ 63) h }

no_int_word : FitsSigned w64 (pos 0)
no_int_word = int_word (pos 0) refl

-- an int is an operand of one kind alone
int_operand : (k : ImmKind) (i : ℤ) → operand_fits k (operands.Int i) ≡ true → FitsSigned w64 i
int_operand kinds.Int i h = int_word i h
int_operand _ i h = absurd (cc)

operands_word : (names : List Name) (b : Body) (ks : List ImmKind) (is : List Imm) → operands_fit ks (map (canonical_operand names b) is) ≡ true → FitsSigned w64 (int_of is)
operands_word names b ks [] h = no_int_word
operands_word names b [] (m ∷ ms) h = absurd (cc)
operands_word names b (k ∷ ks) (imms.Int i ∷ ms) h =
    int_operand k i (and_parts (operand_fits k (operands.Int i)) (operands_fit ks (map (canonical_operand names b) ms)) h).0
operands_word names b (k ∷ ks) (_ ∷ ms) h = no_int_word

code_word : (names : List Name) (b : Body) (c : Code) → code_fits (canonical_code names b c) ≡ true → IsWord c
code_word names b (forms.Plain i) h = operands_word names b (kinds_of i.op) i.imms h
code_word names b (forms.Member m) h = tt

items_words : (names : List Name) (b : Body) (p : ℕ) (qs : List Position) → list_all item_fits (items_from names b p qs) ≡ true → AreWords qs
items_words names b p [] h = tt
items_words names b p (q ∷ qs) h =
    let rest = all_back item_fits (before b p) (items.Position (canonical_position names b q) ∷ items_from names b (suc p) qs) h in
    let k = and_parts (position_fits (canonical_position names b q)) (list_all item_fits (items_from names b (suc p) qs)) rest in
    let c = and_parts (list_all assert_fits (map (canonical_assert names b) q.asserts)) (code_fits (canonical_code names b q.code)) k.0 in
    (code_word names b q.code c.1, items_words names b (suc p) qs k.1)

-- a word is what fits as an operand that is a name
body_words : (names : List Name) (b : Body) → body_fits (canonical_body names b) ≡ true → AreWords b.positions
body_words names b h =
    let c = canonical_body names b in
    let word = λ (w : Name). operand_fits kinds.Name (operands.Name w) in
    let params = list_all word c.params in
    let locals = list_all word c.locals in
    let few = nat_le c.iters 65535 in
    let stated = where_there type_fits c.stated in
    let closed = nests c.items [] false in
    let all = list_all item_fits c.items in
    let of_params = (and_parts (word c.name) (params && (locals && (few && (stated && (closed && all))))) h).1 in
    let of_locals = (and_parts params (locals && (few && (stated && (closed && all)))) of_params).1 in
    let of_iters = (and_parts locals (few && (stated && (closed && all))) of_locals).1 in
    let of_stated = (and_parts few (stated && (closed && all)) of_iters).1 in
    let of_items = (and_parts stated (closed && all) of_stated).1 in
    items_words names b 0 b.positions (and_parts closed all of_items).1

spelled_words : (r : Linked) (form : IsSecondForm r) → HasSpelling r → AreWords form.body.positions
spelled_words r form h =
    let w = canonical (only form.body) in
    let fits = subst (λ (x : Linked). parts_fit (canonical x).functions (canonical x).classes ≡ true) (second_is r form) h.fits in
    let bodies = (and_parts (list_all body_fits w.functions) (list_all class_fits w.classes) fits).0 in
    body_words (class_names (only form.body)) form.body (and_parts (body_fits (canonical_body (class_names (only form.body)) form.body)) true bodies).0

-- ---- the locals that a code of the form reads are the body's

operands_read : (b : Bounds) (op : Op) (is : List Imm) → FitsOperands b.locals op is → list_all (local_within b) (op_reads op is) ≡ true
operands_read b ops.CGetL (imms.Local l ∷ []) h = and_from (local_within b l) true (lt-ltb l b.locals h) refl
operands_read b ops.CGetL _ h = absurd h
operands_read b ops.CGetQuietL is h = absurd h
operands_read b ops.CGetL2 is h = absurd h
operands_read b ops.PushL is h = absurd h
operands_read b ops.SetOpL is h = absurd h
operands_read b ops.IncDecL is h = absurd h
operands_read b ops.IsTypeL is h = absurd h
operands_read b ops.VerifyParamType is h = absurd h
operands_read b _ is h = refl

code_reads : (b : Bounds) (c : Code) → FitsCode b.locals c → list_all (local_within b) (reads_locals c) ≡ true
code_reads b (forms.Plain i) h = operands_read b i.op i.imms h
code_reads b (forms.Member m) h = absurd h

abbrev FitCodes : ℕ → List Position → Type 0
FitCodes count [] = Unit {0}
FitCodes count (p ∷ ps) = FitsCode count p.code × FitCodes count ps

bare_codes : (count : ℕ) (ps : List Position) → FitClaimed count ps → FitCodes count (map bare_position ps)
bare_codes count [] h = absurd h
bare_codes count (p ∷ []) h = (h.0.fits, tt)
bare_codes count (p ∷ q ∷ ps) h = (h.0.fits, bare_codes count (q ∷ ps) h.2)

-- ---- what is claimed along a body's codes keeps to its ranges

unless_whole : (test : Assert → Bool) (whole : Bool) (a : Assert) → test a ≡ true → list_all test (cond whole [] (a ∷ [])) ≡ true
unless_whole test true a h = refl
unless_whole test false a h = and_from (test a) true h refl

claim_passes : (test : Assert → Bool) (make : HType → Assert) (o : Option HType) → ((t : HType) → Proper t → test (make t) ≡ true) → ProperIf o → list_all test (claim make o) ≡ true
claim_passes test make None h k = refl
claim_passes test make (Some t) h k = unless_whole test (is_whole t) (make t) (h t k)

-- where proper types are within the bounds
module _ (b : Bounds) (types : (t : HType) → Proper t → is_proper b.classes t ≡ true) where
  locals_claimed : (ls : List ℕ) (ts : List HType) → list_all (local_within b) ls ≡ true → AllProper ts → list_all (assert_within b) (local_claims ls ts) ≡ true
  locals_claimed [] ts h k = refl
  locals_claimed (l ∷ ls) ts h k =
      let p = and_parts (local_within b l) (list_all (local_within b) ls) h in
      all_both (assert_within b) (claim (λ t. asserts.Local l t) (slice_get ts l)) (local_claims ls ts)
      (claim_passes (assert_within b) (λ t. asserts.Local l t) (slice_get ts l) (λ t q. and_from (local_within b l) (is_proper b.classes t) p.0 (types t q)) (got ts l k))
      (locals_claimed ls ts p.1 k)

  stack_claimed : (fs : List Flavour) (ts : List HType) → AllProper ts → list_all (assert_within b) (stack_claims fs ts) ≡ true
  stack_claimed [] ts k = refl
  stack_claimed (f ∷ fs) ts k =
      claim_passes (assert_within b) (λ t. asserts.Stack 0 t) (slice_get ts 0) (λ t q. and_from (is_index 0) (is_proper b.classes t) refl (types t q)) (got ts 0 k)

  code_claimed : (c : Code) (o : Option State) → FitsCode b.locals c → ProperStateIf o → list_all (assert_within b) (claims c o) ≡ true
  code_claimed c None h k = refl
  code_claimed c (Some s) h k =
      all_both (assert_within b) (local_claims (reads_locals c) s.locals) (stack_claims (pops c) s.stack)
      (locals_claimed (reads_locals c) s.locals (code_reads b c h) k.locals)
      (stack_claimed (pops c) s.stack k.stack)

  chain_claimed : (ps : List Position) (o : Option State) → FitCodes b.locals ps → AreWords ps → ProperStateIf o
      → list_all (position_claims_within b) (with_claims ps (chain ps o)) ≡ true
  chain_claimed [] o h w k = refl
  chain_claimed (p ∷ ps) o h w k =
      and_from (list_all (assert_within b) (claims p.code o)) (list_all (position_claims_within b) (with_claims ps (chain ps (state_behind p.code o))))
      (code_claimed p.code o h.0 k)
      (chain_claimed ps (state_behind p.code o) h.1 w.1 (behind_proper p.code o w.0 k))

-- ---- the annotated repository

body_claimed : (classes : ℕ) (b : Body) → ((t : HType) → Proper t → is_proper classes t ≡ true) → IsSecondBody b → AreWords b.positions
    → body_claims_within classes (annotated_main (bare_body b)) ≡ true
body_claimed classes b types form words =
    let c = bare_body b in
    let bounds = bounds_of classes (annotated_main c) in
    let bare_are_words = bare_words b.positions words in
    let entered = Some (entry_state c) in
    and_from (is_proper classes (returned_at_end c.positions entered)) (list_all (position_claims_within bounds) (with_claims c.positions (chain c.positions entered)))
    (types (returned_at_end c.positions entered) (returned_is_proper c bare_are_words))
    (chain_claimed bounds types c.positions entered (bare_codes (length b.locals) b.positions form.positions) bare_are_words (entry_proper c))

-- proper types over the built-in classes are within their number
annotated_claims_within : (r : Linked) (form : IsSecondForm r) → ((t : HType) → Proper t → is_proper (length built_in_tree) t ≡ true) → AreWords form.body.positions
    → claims_within (annotated_by (bare r)) ≡ true
annotated_claims_within r form types words =
    let body = body_claims_within (length built_in_tree) (annotated_main (bare_body form.body)) in
    subst (λ (x : Linked). claims_within (annotated_by (bare x)) ≡ true) (sym (second_is r form))
    (and_from (body && true) true (and_from body true (body_claimed (length built_in_tree) form.body types form.second words) refl) refl)

same_when_bare : (r : Linked) (form : IsSecondForm r) → AreWords form.body.positions → bare r ≡ bare (annotated_by (bare r))
same_when_bare r form words =
    let w = bare_chain_annotates r form words 0 in
    sym (ap (λ (x : Linked). bare x) w.is ∙ annotated_off (bare r) w.facts w.tables ∙ bare_again r)

pub spelling_kept : (kept : (r s : Linked) → bare r ≡ bare s → claims_within s ≡ true → HasSpelling r → HasSpelling s)
    (r : Linked) → IsSecondForm r → HasSpelling r → HasSpelling (annotated_by (bare r))
spelling_kept kept r form h =
    let words = spelled_words r form h in
    kept r (annotated_by (bare r)) (same_when_bare r form words) (annotated_claims_within r form (λ t k. (proper_is_tested built_in_tree t).1 k) words) h
