-- The handlers of positions.
use Rattle.std.proofs.Common.{◌≡◌, ℕ, zero, suc, ◌+◌, ◌<◌, List, [], ◌∷◌, ◌++◌, map, length, Option, Some, slice_get, get_or, refl, sym, ap, ◌∙◌, subst, arith}
use Rattle.hhbc_repo.specs.declared.body.Body.{Body}
use Rattle.hhbc_repo.specs.declared.body.Position.{Position}
use Rattle.hhbc_repo.specs.Linked.{Linked}
use Rattle.hhbc_repo.specs.Bodies.{bodies, numbers}
use Rattle.hhbc_repo.specs.Edges.{handler_of, edges}
use Rattle.flow_regions.specs.EdgeLists.{all_handlers, count_in, edges_from, position_count}
use Rattle.flow_regions.specs.Guarded.{flat}

-- the number at a place
pub numbers_at : {A : Type 0} (f : ℕ → A) (first n p : ℕ) → p < n → slice_get (map f (numbers first n)) p ≡ Some (f (first + p))
numbers_at f first zero p l = absurd (omega arith)
numbers_at f first (suc n) zero l = let e : first ≡ first + 0 = omega arith in ap (λ m. Some (f m)) e
numbers_at f first (suc n) (suc p) l =
    let e : suc first + p ≡ first + suc p = omega arith in
    numbers_at f (suc first) n p (omega arith) ∙ ap (λ m. Some (f m)) e

-- what each of so many positions has
pub of_each : {A : Type 0} (f : ℕ → A) (n p : ℕ) → p < n → slice_get (map f (numbers 0 n)) p ≡ Some (f p)
of_each f n p l = let e : 0 + p ≡ p = omega arith in numbers_at f 0 n p l ∙ ap (λ m. Some (f m)) e

-- one more number
pub numbers_last : (first n : ℕ) → numbers first (suc n) ≡ numbers first n ++ (first + n) ∷ []
numbers_last first zero = let e : first ≡ first + 0 = omega arith in ap (λ m. m ∷ []) e
numbers_last first (suc n) =
    let e : suc first + n ≡ first + suc n = omega arith in
    ap (λ l. first ∷ l) (numbers_last (suc first) n ∙ ap (λ m. numbers (suc first) n ++ m ∷ []) e)

position_got : (xs : List Position) (p : ℕ) (d : Position) → p < length xs → slice_get xs p ≡ Some (get_or xs p d)
position_got [] p d l = absurd (omega arith)
position_got (x ∷ xs) zero d l = refl
position_got (x ∷ xs) (suc p) d l = position_got xs p d (omega arith)

-- the edges of a position whose handler is known
pub edges_known : (b : Body) (p : ℕ) (positions : List Position) (d : Position) (handlers : List (Option ℕ)) (h : Option ℕ) → positions ≡ b.positions
    → p < length b.positions → handlers ≡ all_handlers b → h ≡ flat (slice_get handlers p) → edges_from (get_or positions p d).code p h ≡ edges b p
edges_known b p positions d handlers h same l e k =
    let m : h ≡ handler_of b p = k ∙ ap (λ hs. flat (slice_get hs p)) e ∙ ap flat (of_each (handler_of b) (length b.positions) p l) in
    rw (m, same, position_got b.positions p d l) refl

-- a position of a body is one by the body's number
pub counted : (r : Linked) (n p : ℕ) (b : Body) → slice_get (bodies r) n ≡ Some b → p < length b.positions → p < position_count r n
counted r n p b e l = subst (λ o. p < count_in o) (sym e) l
