-- Each shape has a flag for each iterator of its body.
use Rattle.std.proofs.Common.{◌≡◌, ℕ, zero, suc, refl, ◌∙◌, ap, Bool, true, false, cond, Option, Some, None, List, [], ◌∷◌, ◌++◌, slice_set, length}
use Rattle.std.proofs.lemmas.List.{length-replicate}
use Rattle.hhbc_repo.specs.declared.body.Body.{Body}
use Rattle.hhbc_repo.specs.declared.code.Code.{Code}
use Rattle.hhbc_repo.specs.Bodies.{code_at}
use Rattle.hhbc_repo.specs.Codes.{IterUse, Begin, Advance, Free, iter_use}
use Rattle.hhbc_repo.specs.Edges.{Edge, Next, To, Handler, edges}
use Rattle.hhbc_repo.specs.Shapes.{Shape, given, given_after, given_by, handed, or_unled, unled, shapes, edge_to, hands_on, live_next, live_to, empty_shape, caught_shape, is_catch}

set_length : (xs : List Bool) (i : ℕ) (x : Bool) → length (slice_set xs i x) ≡ length xs
set_length [] i x = refl
set_length (y ∷ xs) zero x = refl
set_length (y ∷ xs) (suc i) x = ap suc (set_length xs i x)

next_length : (u : Option IterUse) (xs : List Bool) → length (live_next u xs) ≡ length xs
next_length None xs = refl
next_length (Some (Begin i)) xs = set_length xs i true
next_length (Some (Advance i)) xs = set_length xs i false
next_length (Some (Free i)) xs = set_length xs i false

to_length : (u : Option IterUse) (xs : List Bool) → length (live_to u xs) ≡ length xs
to_length None xs = refl
to_length (Some (Begin i)) xs = set_length xs i false
to_length (Some (Advance i)) xs = set_length xs i true
to_length (Some (Free i)) xs = set_length xs i false

on_length : (o : Option Code) (s : Shape) (e : Edge) → length (hands_on o s e).live ≡ length s.live
on_length None s e = refl
on_length (Some c) s (Next q) = next_length (iter_use c) s.live
on_length (Some c) s (To q) = to_length (iter_use c) s.live
on_length (Some c) s (Handler q) = refl

-- of a shape, if there is one
abbrev Fits : ℕ → Option Shape → Type 0
Fits n None = Unit {0}
Fits n (Some s) = length s.live ≡ n

abbrev AllFit : ℕ → List Shape → Type 0
AllFit n [] = Unit {0}
AllFit n (s ∷ ss) = (length s.live ≡ n) × AllFit n ss

handed_fits : (b : Body) (p n : ℕ) (s : Shape) (e : Option Edge) (o : Option Shape) → length s.live ≡ n → Fits n o → Fits n (handed b p s e o)
handed_fits b p n s None o h f = f
handed_fits b p n s (Some e) o h f = on_length (code_at b p) s e ∙ h

by_fits : (b : Body) (p n : ℕ) (ss : List Shape) (q : ℕ) → AllFit n ss → Fits n (given_by b p ss q)
by_fits b p n [] q h = tt
by_fits b p n (s ∷ ss) q h = handed_fits b p n s (edge_to q (edges b p)) (given_by b (suc p) ss q) h.0 (by_fits b (suc p) n ss q h.1)

unled_fits : (b : Body) (q : ℕ) → length (unled b q).live ≡ b.iters
unled_fits b q = by_case (is_catch b.regions q)
  where
    by_case : (t : Bool) → length (cond t (caught_shape (empty_shape b)) (empty_shape b)).live ≡ b.iters
    by_case true = length-replicate b.iters false
    by_case false = length-replicate b.iters false

or_unled_fits : (b : Body) (q : ℕ) (o : Option Shape) → Fits b.iters o → length (or_unled b q o).live ≡ b.iters
or_unled_fits b q None h = unled_fits b q
or_unled_fits b q (Some s) h = h

after_fits : (b : Body) (q : ℕ) (ss : List Shape) → AllFit b.iters ss → length (given_after b q ss).live ≡ b.iters
after_fits b zero ss h = length-replicate b.iters false
after_fits b (suc q) ss h = or_unled_fits b (suc q) (given_by b 0 ss (suc q)) (by_fits b 0 b.iters ss (suc q) h)

fit_push : (n : ℕ) (ss : List Shape) (s : Shape) → AllFit n ss → length s.live ≡ n → AllFit n (ss ++ s ∷ [])
fit_push n [] s h e = (e, tt)
fit_push n (x ∷ ss) s h e = (h.0, fit_push n ss s h.1 e)

all_fit : (b : Body) (n : ℕ) → AllFit b.iters (shapes b n)
all_fit b zero = tt
all_fit b (suc n) = fit_push b.iters (shapes b n) (given b n) (all_fit b n) (after_fits b n (shapes b n) (all_fit b n))

pub live_length : (b : Body) (p : ℕ) → length (given b p).live ≡ b.iters
live_length b p = after_fits b p (shapes b p) (all_fit b p)
