-- What a repository that some text spells has in its bodies.
use Rattle.std.proofs.Common.{◌≡◌, ◌≤◌, ℕ, zero, suc, refl, sym, subst, Bool, true, ◌&&◌, nat_le, Option, Some, None, List, [], ◌∷◌, slice_get, length, leb-true}
use Rattle.std.specs.List.{list_all}
use Rattle.std.proofs.lemmas.Bool.{and_parts}
use Rattle.hhas_lex.specs.Spelling.{is_word}
use Rattle.type_lattice.specs.InRange.{where_there, is_proper}
use Rattle.hhbc_repo.specs.declared.code.Code.{Code}
use Rattle.hhbc_repo.specs.declared.body.Body.{Body}
use Rattle.hhbc_repo.specs.declared.body.Position.{Position}
use Rattle.hhbc_repo.specs.Linked.{Linked}
use Rattle.hhbc_repo.specs.LinkFaults.{Name}
use Rattle.hhbc_repo.specs.Bodies.{bodies, class_names, body_at, code_of, asserts_of}
use Rattle.hhbc_repo.specs.Canonical.{canonical}
use Rattle.hhbc_repo.specs.Names.{distinct}
use Rattle.hhbc_repo.specs.Ranges.{few_iterators}
use Rattle.hhbc_repo.specs.Resolved.{resolved}
use Rattle.hhbc_repo.specs.Spelled.{HasSpelling}
use Rattle.hhbc_repo.specs.Within.{bounds_of, code_within, assert_within, position_within, in_limits, body_within}
use Rattle.hhbc_repo.proofs.SoundLinks.{linked_class_names}
use Rattle.hhbc_repo.proofs.WithinRanges.{all_within}
use Rattle.hhbc_semantics.specs.Accepted.{HasOperands, AcceptedHasOperands}

all_at : {A : Type 0} (test : A → Bool) (xs : List A) (n : ℕ) (x : A) → list_all test xs ≡ true → slice_get xs n ≡ Some x → test x ≡ true
all_at test [] n x h e = absurd (cc)
all_at test (y ∷ ys) zero x h e =
    let k : y ≡ x = cc in
    subst (λ y. test y ≡ true) k (and_parts (test y) (list_all test ys) h).0
all_at test (y ∷ ys) (suc n) x h e = all_at test ys n x (and_parts (test y) (list_all test ys) h).1 e

bodies_within : (r : Linked) → HasSpelling r → list_all (body_within (length (class_names r))) (bodies r) ≡ true
bodies_within r h =
    subst (λ r. list_all (body_within (length (class_names r))) (bodies r) ≡ true) (sym h.links.is)
    (subst (λ (names : List Name). list_all (body_within (length names)) (bodies (resolved (canonical r))) ≡ true) (sym (linked_class_names (canonical r)))
    (all_within (canonical r) h.fits h.links.sound))

-- what is within a body
pub record IsWithin (classes : ℕ) (b : Body) : Type 0 where
  pub params : b.params ≤ length b.locals
  pub positions : list_all (position_within (bounds_of classes b)) b.positions ≡ true

body_parts : (classes : ℕ) (b : Body) → body_within classes b ≡ true → IsWithin classes b
body_parts classes b h =
    let stated = where_there (is_proper classes) b.stated in
    let each = list_all (position_within (bounds_of classes b)) b.positions in
    let x = and_parts (is_word b.name) (list_all is_word b.locals && (distinct b.locals && (in_limits b && (stated && each)))) h in
    let y = and_parts (list_all is_word b.locals) (distinct b.locals && (in_limits b && (stated && each))) x.1 in
    let z = and_parts (distinct b.locals) (in_limits b && (stated && each)) y.1 in
    let u = and_parts (in_limits b) (stated && each) z.1 in
    let v = and_parts stated each u.1 in
    let few = and_parts (nat_le b.params (length b.locals)) (nat_le (length b.locals) 255 && (few_iterators b && nat_le (length b.positions) 65535)) u.0 in
    record { params = leb-true _ _ few.0; positions = v.1 }

module _ (classes : ℕ) (b : Body) (h : IsWithin classes b) where
  code_there : (p : ℕ) (c : Code) (o : Option Position) → slice_get b.positions p ≡ o → code_of o ≡ Some c → code_within (bounds_of classes b) c ≡ true
  code_there p c None at e = absurd (cc)
  code_there p c (Some q) at e =
      let k : q.code ≡ c = cc in
      let within = all_at (position_within (bounds_of classes b)) b.positions p q h.positions at in
      subst (λ c. code_within (bounds_of classes b) c ≡ true) k (and_parts (list_all (assert_within (bounds_of classes b)) q.asserts) (code_within (bounds_of classes b) q.code) within).1

  claims_there : (p : ℕ) (o : Option Position) → slice_get b.positions p ≡ o → list_all (assert_within (bounds_of classes b)) (asserts_of o) ≡ true
  claims_there p None at = refl
  claims_there p (Some q) at =
      let within = all_at (position_within (bounds_of classes b)) b.positions p q h.positions at in
      (and_parts (list_all (assert_within (bounds_of classes b)) q.asserts) (code_within (bounds_of classes b) q.code) within).0

module _ (r : Linked) (spelling : HasSpelling r) where
  within_at : (n : ℕ) (b : Body) → body_at r n ≡ Some b → IsWithin (length (class_names r)) b
  within_at n b is = body_parts (length (class_names r)) b (all_at (body_within (length (class_names r))) (bodies r) n b (bodies_within r spelling) is)

  pub spelled_operands : HasOperands r
  spelled_operands = record {
    params = λ n b is. (within_at n b is).params;
    codes = λ n b is p c at. code_there (length (class_names r)) b (within_at n b is) p c (slice_get b.positions p) refl at;
    claims = λ n b is p. claims_there (length (class_names r)) b (within_at n b is) p (slice_get b.positions p) refl;
  }

pub accepted_has_operands : AcceptedHasOperands
accepted_has_operands r h = spelled_operands r h.spelling
