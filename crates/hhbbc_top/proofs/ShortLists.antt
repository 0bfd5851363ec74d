-- The annotated repository of the form has no long lists.
use Rattle.std.proofs.Common.{◌≡◌, ◌≤◌, ◌<◌, ◌^◌, ℕ, Bool, true, false, ◌&&◌, nat_le, Option, Some, None, List, [], ◌∷◌, ◌++◌, map, length, slice_get, codes, if◌then◌else◌, refl, sym, ap, subst, ◌∙◌, arith, length-append}
use Rattle.std.specs.List.{list_all}
use Rattle.std.proofs.lemmas.Bool.{and_from, and_parts, leb-true, lt-ltb}
use Rattle.hhas_lex.specs.Spelling.{is_word}
use Rattle.type_lattice.specs.declared.types.HType.{HType}
use Rattle.type_lattice.specs.Whole.{is_whole}
use Rattle.type_lattice.specs.InRange.{where_there, is_proper}
use Rattle.hhbc_repo.specs.declared.body.Assert.{Assert}
use Rattle.hhbc_repo.specs.declared.body.Assert.TheVariants as asserts
use Rattle.hhbc_repo.specs.declared.body.Body.{Body}
use Rattle.hhbc_repo.specs.declared.body.Position.{Position}
use Rattle.hhbc_repo.specs.Bodies.{bodies}
use Rattle.hhbc_repo.specs.Canonical.{canonical}
use Rattle.hhbc_repo.specs.Fits.{parts_fit}
use Rattle.hhbc_repo.specs.Lengths.{body_fewer, code_fewer, fewer, lists_fewer, position_fewer}
use Rattle.hhbc_repo.specs.Linked.{Linked}
use Rattle.hhbc_repo.specs.LinkFaults.{Whole, class_names, faults}
use Rattle.hhbc_repo.specs.Names.{distinct}
use Rattle.hhbc_repo.specs.Ranges.{few_iterators}
use Rattle.hhbc_repo.specs.Resolved.{resolved}
use Rattle.hhbc_repo.specs.Spelled.{HasSpelling}
use Rattle.hhbc_repo.specs.Within.{body_within, bounds_of, in_limits, position_within}
use Rattle.abstract_step.specs.State.{State}
use Rattle.func_analyze.specs.Annotated.{claim, claims, with_claims}
use Rattle.func_analyze.specs.Chain.{annotated_by, annotated_main}
use Rattle.func_analyze.specs.Solution.{Table}
use Rattle.hhbbc_top.specs.declared.form.Line.{Line}
use Rattle.hhbbc_top.specs.declared.form.Main.{Main}
use Rattle.hhbbc_top.specs.declared.form.Step.{Step}
use Rattle.hhbbc_top.specs.declared.form.Step.TheVariants as steps
use Rattle.hhbbc_top.specs.Forms.{bare_of, bare_repo_of, code_of}

claim_count : (make : HType → Assert) (o : Option HType) → length (claim make o) ≤ 1
claim_count make None = omega arith
claim_count make (Some t) = go (is_whole t)
  where
    go : (b : Bool) → length (if b then [] else make t ∷ []) ≤ 1
    go true = omega arith
    go false = omega arith

short : (xs : List Assert) → length xs ≤ 1 → fewer (2 ^ 32) xs ≡ true
short xs h = lt-ltb (length xs) (2 ^ 32) (omega (arith, h))

with_nil : (xs : List Assert) → length xs ≤ 1 → fewer (2 ^ 32) (xs ++ []) ≡ true
with_nil xs h = let l = length-append xs [] in lt-ltb (length (xs ++ [])) (2 ^ 32) (omega (arith, l, h))

both_nil : (xs : List Assert) → length xs ≤ 1 → fewer (2 ^ 32) ((xs ++ []) ++ []) ≡ true
both_nil xs h = let l = length-append xs [] in let m = length-append (xs ++ []) [] in lt-ltb (length ((xs ++ []) ++ [])) (2 ^ 32) (omega (arith, l, m, h))

claims_short : (step : Step) (o : Option State) → fewer (2 ^ 32) (claims (code_of step) o) ≡ true
claims_short step None = refl
claims_short steps.Null (Some s) = refl
claims_short steps.True (Some s) = refl
claims_short steps.False (Some s) = refl
claims_short (steps.Int i) (Some s) = refl
claims_short steps.PopC (Some s) = short _ (claim_count (λ t. asserts.Stack 0 t) (slice_get s.stack 0))
claims_short (steps.SetL l) (Some s) = short _ (claim_count (λ t. asserts.Stack 0 t) (slice_get s.stack 0))
claims_short (steps.CGetL l) (Some s) = both_nil _ (claim_count (λ t. asserts.Local l t) (slice_get s.locals l))
claims_short steps.RetC (Some s) = short _ (claim_count (λ t. asserts.Stack 0 t) (slice_get s.stack 0))

code_short : (step : Step) → code_fewer (2 ^ 32) (code_of step) ≡ true
code_short steps.Null = refl
code_short steps.True = refl
code_short steps.False = refl
code_short (steps.Int i) = refl
code_short steps.PopC = refl
code_short (steps.SetL l) = refl
code_short (steps.CGetL l) = refl
code_short steps.RetC = refl

positions_short : (ls : List Line) (T : Table) → list_all (position_fewer (2 ^ 32)) (with_claims (map bare_of ls) T) ≡ true
positions_short [] T = refl
positions_short (l ∷ ls) [] =
    and_from (code_fewer (2 ^ 32) (code_of l.step)) (list_all (position_fewer (2 ^ 32)) (with_claims (map bare_of ls) [])) (code_short l.step) (positions_short ls [])
positions_short (l ∷ ls) (o ∷ T) =
    let p : Position = record { asserts = claims (code_of l.step) o; code = code_of l.step } in
    and_from (position_fewer (2 ^ 32) p) (list_all (position_fewer (2 ^ 32)) (with_claims (map bare_of ls) T))
    (and_from (fewer (2 ^ 32) p.asserts) (code_fewer (2 ^ 32) p.code) (claims_short l.step o) (code_short l.step)) (positions_short ls T)

-- a body within its limits, of such positions and without regions
few_from : (n : ℕ) (b : Body) → body_within n b ≡ true → b.regions ≡ [] → list_all (position_fewer (2 ^ 32)) b.positions ≡ true → body_fewer (2 ^ 32) b ≡ true
few_from n b h none each =
    let stated = where_there (is_proper n) b.stated in
    let all = list_all (position_within (bounds_of n b)) b.positions in
    let x = and_parts (is_word b.name) (list_all is_word b.locals && (distinct b.locals && (in_limits b && (stated && all)))) h in
    let y = and_parts (list_all is_word b.locals) (distinct b.locals && (in_limits b && (stated && all))) x.1 in
    let z = and_parts (distinct b.locals) (in_limits b && (stated && all)) y.1 in
    let u = and_parts (in_limits b) (stated && all) z.1 in
    let v = and_parts (nat_le b.params (length b.locals)) (nat_le (length b.locals) 255 && (few_iterators b && nat_le (length b.positions) 65535)) u.0 in
    let w = and_parts (nat_le (length b.locals) 255) (few_iterators b && nat_le (length b.positions) 65535) v.1 in
    let t = and_parts (few_iterators b) (nat_le (length b.positions) 65535) w.1 in
    let locals = leb-true (length b.locals) 255 w.0 in
    let positions = leb-true (length b.positions) 65535 t.1 in
    and_from (fewer (2 ^ 32) b.locals) (fewer (2 ^ 32) b.positions && (fewer (2 ^ 32) b.regions && list_all (position_fewer (2 ^ 32)) b.positions)) (lt-ltb (length b.locals) (2 ^ 32) (omega (arith, locals)))
    (and_from (fewer (2 ^ 32) b.positions) (fewer (2 ^ 32) b.regions && list_all (position_fewer (2 ^ 32)) b.positions) (lt-ltb (length b.positions) (2 ^ 32) (omega (arith, positions)))
    (and_from (fewer (2 ^ 32) b.regions) (list_all (position_fewer (2 ^ 32)) b.positions) (ap (fewer (2 ^ 32)) none) each))

abbrev main_of : Main → Body
main_of m = record {
  name = codes "main";
  params = 0;
  locals = m.locals;
  iters = 0;
  stated = None;
  positions = map bare_of m.codes;
  regions = [];
}

pub annotated_short : ((w : Whole) → parts_fit w.functions w.classes ≡ true → faults w ≡ [] → list_all (body_within (length (class_names w))) (bodies (resolved w)) ≡ true)
    → (m : Main) → HasSpelling (annotated_by (bare_repo_of m)) → lists_fewer (2 ^ 32) (annotated_by (bare_repo_of m)) ≡ true
annotated_short law m h =
    let r = annotated_by (bare_repo_of m) in
    let w = canonical r in
    let b = annotated_main (main_of m) in
    let within : list_all (body_within (length (class_names w))) (b ∷ []) ≡ true = subst (λ (s : Linked). list_all (body_within (length (class_names w))) (bodies s) ≡ true) (sym h.links.is) (law w h.fits h.links.sound) in
    let one = (and_parts (body_within (length (class_names w)) b) true within).0 in
    let few = few_from (length (class_names w)) b one refl (positions_short m.codes _) in
    and_from (list_all (body_fewer (2 ^ 32)) (b ∷ [])) true (and_from (body_fewer (2 ^ 32) b) true few refl) refl
