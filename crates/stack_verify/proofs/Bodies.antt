-- Bodies one after the other, and what is told of all of them.
use Rattle.std.proofs.Common.{◌≡◌, ◌⊎◌, inl, inr, ℕ, zero, suc, ◌<◌, ◌≤◌, refl, sym, ◌∙◌, ap, subst, Some, List, [], ◌∷◌, ◌++◌, map, take, slice_get, length, arith}
use Rattle.std.proofs.lemmas.List.{map-append, length-map}
use Rattle.hhbc_repo.specs.declared.body.Body.{Body}
use Rattle.hhbc_repo.specs.Linked.{Linked}
use Rattle.hhbc_repo.specs.Bodies.{bodies, body_at}
use Rattle.hhbc_repo.specs.Shapes.{Shape, ShapeKind, FailsAt, given, shapes}
use Rattle.stack_verify.specs.declared.shape.Shape.{Shape as KeptShape}
use Rattle.stack_verify.specs.declared.walk.BodyStop.{BodyStop}
use Rattle.stack_verify.specs.declared.walk.BodyStop.TheVariants as body_stops
use Rattle.stack_verify.specs.Kept.{kept}
use Rattle.stack_verify.specs.Verified.{IsTyped, FirstType, StopsRepo, stopped_in}
use Rattle.stack_verify.specs.Walk.{BodyTypes, StopsBody, kept_of}
use Rattle.stack_verify.proofs.Following.{same_or_not}
use Rattle.stack_verify.proofs.LayoutRule.{shapes_length}

take_next : (xs : List Body) (n : ℕ) (x : Body) → slice_get xs n ≡ Some x → take (suc n) xs ≡ take n xs ++ x ∷ []
take_next [] n x e = absurd (cc)
take_next (y ∷ xs) zero x e = let f : y ≡ x = cc in ap (λ y. y ∷ []) f
take_next (y ∷ xs) (suc n) x e = ap (λ ys. y ∷ ys) (take_next xs n x e)

take_whole : (xs : List Body) (n : ℕ) → length xs ≤ n → take n xs ≡ xs
take_whole [] zero l = refl
take_whole [] (suc n) l = refl
take_whole (x ∷ xs) zero l = absurd (omega arith)
take_whole (x ∷ xs) (suc n) l = ap (λ ys. x ∷ ys) (take_whole xs n (omega arith))

pub given_next : (bs : List Body) (n : ℕ) (b : Body) (all : List (List KeptShape)) (next : List KeptShape) → slice_get bs n ≡ Some b
    → all ≡ map kept_of (take n bs) → next ≡ kept_of b → all ++ next ∷ [] ≡ map kept_of (take (suc n) bs)
given_next bs n b all next e f g =
    ap (λ xs. xs ++ next ∷ []) f
    ∙ ap (λ x. map kept_of (take n bs) ++ x ∷ []) g
    ∙ sym (map-append kept_of (take n bs) (b ∷ []))
    ∙ ap (map kept_of) (sym (take_next bs n b e))

pub types_next : (r : Linked) (n : ℕ) (b : Body) → FirstType r n → body_at r n ≡ Some b → BodyTypes b → FirstType r (suc n)
types_next r n b h e t m c l f = by_case (same_or_not n m)
  where
    by_case : (n ≡ m) ⊎ (n ≡ m → ⊥) → BodyTypes c
    by_case (inl d) =
        let g : body_at r n ≡ Some c = subst (λ m. body_at r m ≡ Some c) (sym d) f in
        let i : b ≡ c = cc in
        subst BodyTypes i t
    by_case (inr d) = h m c (below l d) f
      where
        below : m < suc n → (n ≡ m → ⊥) → m < n
        below l d = grind arith

there : (xs : List Body) (n : ℕ) (x : Body) → slice_get xs n ≡ Some x → n < length xs
there [] n x e = absurd (cc)
there (y ∷ xs) zero x e = omega arith
there (y ∷ xs) (suc n) x e = let i = there xs n x e in omega (arith, i)

pub typed : (r : Linked) (n : ℕ) (all : List (List KeptShape)) → length (bodies r) ≤ n → all ≡ map kept_of (take n (bodies r)) → FirstType r n → IsTyped r all
typed r n all l f h = record {
  types = record {
    has_positions = λ m b e. (h m b (let i = there (bodies r) m b e in omega (arith, i, l)) e).has_positions;
    passes = λ m b e. (h m b (let i = there (bodies r) m b e in omega (arith, i, l)) e).passes;
  };
  given = f ∙ ap (map kept_of) (take_whole (bodies r) n l);
}

-- a body that types has no fault
none_fails : (b : Body) (p : ℕ) (k : ShapeKind) → BodyTypes b → FailsAt b p k → ⊥
none_fails b p k t (inl w) = t.has_positions w.0
none_fails b p k t (inr w) = let e = t.passes p w.0 in let f = w.1 in absurd (cc)

pub stops_there : (r : Linked) (n : ℕ) (b : Body) (stop : BodyStop) → FirstType r n → body_at r n ≡ Some b → StopsBody b stop → StopsRepo r (stopped_in n stop)
stops_there r n b (body_stops.Fails p k) h e s = record {
  body = b;
  at = e;
  fails = s.0;
  earlier_positions = s.1;
  earlier_bodies = λ m c l f q other g. none_fails c q other (h m c l f) g;
}
stops_there r n b body_stops.NoMemory h e s = tt

-- what is kept of a position
from_map : {A B : Type 0} (f : A → B) (xs : List A) (n : ℕ) (y : B) → slice_get (map f xs) n ≡ Some y → (x : A) × (slice_get xs n ≡ Some x) × (f x ≡ y)
from_map f [] n y e = absurd (cc)
from_map f (x ∷ xs) zero y e = (x, refl, cc)
from_map f (x ∷ xs) (suc n) y e = from_map f xs n y e

last_or : (xs : List Shape) (x y : Shape) (n : ℕ) → slice_get (xs ++ x ∷ []) n ≡ Some y → (slice_get xs n ≡ Some y) ⊎ ((n ≡ length xs) × (x ≡ y))
last_or [] x y zero e = inr (refl, cc)
last_or [] x y (suc n) e = absurd (cc)
last_or (z ∷ xs) x y zero e = inl e
last_or (z ∷ xs) x y (suc n) e = by_case (last_or xs x y n e)
  where
    by_case : (slice_get xs n ≡ Some y) ⊎ ((n ≡ length xs) × (x ≡ y)) → (slice_get xs n ≡ Some y) ⊎ ((suc n ≡ suc (length xs)) × (x ≡ y))
    by_case (inl e) = inl e
    by_case (inr e) = inr (ap suc e.0, e.1)

shape_at : (b : Body) (n p : ℕ) (s : Shape) → slice_get (shapes b n) p ≡ Some s → s ≡ given b p
shape_at b zero p s e = absurd (cc)
shape_at b (suc n) p s e = by_case (last_or (shapes b n) (given b n) s p e) (λ e. shape_at b n p s e)
  where
    by_case : (slice_get (shapes b n) p ≡ Some s) ⊎ ((p ≡ length (shapes b n)) × (given b n ≡ s)) → (slice_get (shapes b n) p ≡ Some s → s ≡ given b p) → s ≡ given b p
    by_case (inl e) ih = ih e
    by_case (inr e) ih = sym e.1 ∙ ap (given b) (sym (e.0 ∙ shapes_length b n))

-- the table of a body
pub table_there : (r : Linked) (n : ℕ) (all : List (List KeptShape)) (table : List KeptShape) (b : Body) → all ≡ map kept_of (bodies r)
    → slice_get all n ≡ Some table → body_at r n ≡ Some b → table ≡ kept_of b
table_there r n all table b f e g =
    let w = from_map kept_of (bodies r) n table (subst (λ all. slice_get all n ≡ Some table) f e) in
    let i : w.0 ≡ b = let j = w.1 in cc in
    sym w.2 ∙ ap kept_of i

pub kept_there : (b : Body) (p : ℕ) (table : List KeptShape) (x : KeptShape) → table ≡ kept_of b → slice_get table p ≡ Some x → x ≡ kept (given b p)
kept_there b p table x f e =
    let w = from_map kept (shapes b (length b.positions)) p x (subst (λ t. slice_get t p ≡ Some x) f e) in
    sym w.2 ∙ ap kept (shape_at b (length b.positions) p w.0 w.1)

pub table_long : (b : Body) (table : List KeptShape) → table ≡ kept_of b → length table ≡ length b.positions
table_long b table f = ap length f ∙ length-map (shapes b (length b.positions)) kept ∙ shapes_length b (length b.positions)

pub all_long : (r : Linked) (n : ℕ) (all : List (List KeptShape)) → all ≡ map kept_of (bodies r) → n < length (bodies r) → n < length all
all_long r n all f l = let e = ap length f ∙ length-map (bodies r) kept_of in omega (arith, e, l)

pub body_there : (xs : List Body) (n : ℕ) → n < length xs → (x : Body) × (slice_get xs n ≡ Some x)
body_there [] n l = absurd (omega arith)
body_there (x ∷ xs) zero l = (x, refl)
body_there (x ∷ xs) (suc n) l = body_there xs n (omega arith)
