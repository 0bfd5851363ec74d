-- How runs start.
use Rattle.std.proofs.Common.{◌≡◌, ℕ, suc, ◌+◌, refl, sym, ◌∙◌, ap, subst, Bool, true, false, nat_eq, ◌==◌, cond, Option, Some, None, List, [], ◌∷◌, slice_get, length, arith}
use Rattle.std.specs.Cmp.Lexicographic.{pointwise}
use Rattle.std.proofs.lemmas.Bool.Decides.{Decides-eqb}
use Rattle.hack_values.specs.declared.cell.Cell.{Cell}
use Rattle.hhbc_repo.specs.declared.body.Body.{Body}
use Rattle.hhbc_repo.specs.Linked.{Linked}
use Rattle.hhbc_repo.specs.Bodies.{bodies, body_at}
use Rattle.hhbc_semantics.specs.Setting.{Setting}
use Rattle.hhbc_semantics.specs.Outcome.{WrongCount}
use Rattle.hhbc_semantics.specs.Steps.{Running, Ended}
use Rattle.hhbc_semantics.specs.Run.{entered, no_world, function_from, start_in, start}
use Rattle.hhbc_semantics.specs.Soundness.{Analysis, Starts}
use Rattle.hhbc_repo.proofs.Elements.{before_last}

-- the function of a name is one of the functions
named_at : (first : ℕ) (bs : List Body) (name : List ℕ) (e : ℕ × Body) → function_from first bs name ≡ Some e
    → (i : ℕ) × (e.0 ≡ first + i) × (slice_get bs i ≡ Some e.1)
named_at first [] name e is = absurd (cc)
named_at first (b ∷ bs) name e is = by_name (pointwise nat_eq b.name name) is (λ k. named_at (suc first) bs name e k)
  where
    by_name : (t : Bool) → cond t (Some (first, b)) (function_from (suc first) bs name) ≡ Some e
        → (function_from (suc first) bs name ≡ Some e → (i : ℕ) × (e.0 ≡ suc first + i) × (slice_get bs i ≡ Some e.1))
        → (i : ℕ) × (e.0 ≡ first + i) × (slice_get (b ∷ bs) i ≡ Some e.1)
    by_name true is ih =
        let k : (first, b) ≡ e = cc in
        (0, ap (λ (x : ℕ × Body). x.0) (sym k) ∙ omega arith, ap (λ (x : ℕ × Body). Some x.1) k)
    by_name false is ih = let w = ih is in (suc w.0, w.1 ∙ omega arith, w.2)

pub function_at : (r : Linked) (name : List ℕ) (e : ℕ × Body) → function_from 0 r.functions name ≡ Some e → body_at r e.0 ≡ Some e.1
function_at r name e is =
    let w = named_at 0 r.functions name e is in
    let k : e.0 ≡ w.0 = w.1 ∙ omega arith in
    subst (λ n. slice_get (bodies r) n ≡ Some e.1) (sym k) (before_last r.functions _ w.0 e.1 w.2)

-- a run starts as an analysis wants, where all facts that begin are true of the empty world and a frame that enters a body is as the entry says
module _ (S : Setting) (A : Analysis) (empty : (G : A.Facts) → A.Begins G → A.Shares G no_world)
    (enters : (n : ℕ) (b : Body) (args : List Cell) → body_at S.repo n ≡ Some b → length args ≡ b.params → A.Holds (entered n b args) (A.entry n) no_world) where
  starts_counted : (e : ℕ × Body) (args : List Cell) → body_at S.repo e.0 ≡ Some e.1 → (t : Bool) → (length args == e.1.params) ≡ t
      → Starts S.repo A (cond t (Running (entered e.0 e.1 args) [] no_world) (Ended WrongCount no_world))
  starts_counted e args is true k =
      (refl, (e.1, is), refl, enters e.0 e.1 args is ((Decides-eqb (length args) e.1.params).0 k), empty)
  starts_counted e args is false k = (λ why i. absurd (cc), empty)

  starts_in : (o : Option (ℕ × Body)) (args : List Cell) → ((e : ℕ × Body) → o ≡ Some e → body_at S.repo e.0 ≡ Some e.1) → Starts S.repo A (start_in o args)
  starts_in None args h = (λ why i. absurd (cc), empty)
  starts_in (Some e) args h = starts_counted e args (h e refl) (length args == e.1.params) refl

  pub starts : (entry : List ℕ) (args : List Cell) → Starts S.repo A (start S entry args)
  starts entry args = starts_in (function_from 0 S.repo.functions entry) args (function_at S.repo entry)
