-- What the tests of a list of parents show.
use Rattle.std.proofs.Common.{◌≡◌, ◌≤◌, ◌<◌, ℕ, zero, suc, [], ◌∷◌, length, Some, None, Bool, true, false, ◌&&◌, refl, slice_get}
use Rattle.std.specs.Prelude.{ltb}
use Rattle.std.specs.List.{list_all}
use Rattle.std.proofs.lemmas.Bool.{ltb-true, ltb-false}
use Rattle.type_lattice.specs.Classes.{Tree, flat, parent_of, HasStray, HasCycle, Forest}
use Rattle.type_lattice.specs.Walks.{inside, AllEnded, SomeUnended}
use Rattle.type_lattice.proofs.Cycles.{unended_cycle, inside_ended_forest}

stray_at : (n : ℕ) (t : Tree) → list_all (inside n) t ≡ false → (c : ℕ) × (p : ℕ) × (flat (slice_get t c) ≡ Some p) × (n ≤ p)
stray_at n [] h = cc
stray_at n (None ∷ t) h = let r = stray_at n t h in (suc r.0, r.1, r.2, r.3)
stray_at n (Some p ∷ t) h = go (ltb p n) refl (stray_at n t) h
  where
    go : (b : Bool) → ltb p n ≡ b → (list_all (inside n) t ≡ false → (c : ℕ) × (q : ℕ) × (flat (slice_get t c) ≡ Some q) × (n ≤ q)) → b && list_all (inside n) t ≡ false → (c : ℕ) × (q : ℕ) × (flat (slice_get (Some p ∷ t) c) ≡ Some q) × (n ≤ q)
    go true e i q = let r = i q in (suc r.0, r.1, r.2, r.3)
    go false e i q = (0, p, refl, ltb-false p n e)

pub has_stray : (t : Tree) → list_all (inside (length t)) t ≡ false → HasStray t
has_stray t h = stray_at (length t) t h

inside_at : (n : ℕ) (t : Tree) → list_all (inside n) t ≡ true → (c p : ℕ) → flat (slice_get t c) ≡ Some p → p < n
inside_at n [] h c p e = cc
inside_at n (None ∷ t) h zero p e = cc
inside_at n (None ∷ t) h (suc c) p e = inside_at n t h c p e
inside_at n (Some q ∷ t) h c p e = go (ltb q n) refl (inside_at n t) h c e
  where
    go : (b : Bool) → ltb q n ≡ b → (list_all (inside n) t ≡ true → (c p : ℕ) → flat (slice_get t c) ≡ Some p → p < n) → b && list_all (inside n) t ≡ true → (c : ℕ) → flat (slice_get (Some q ∷ t) c) ≡ Some p → p < n
    go true r i k zero e = let m : q ≡ p = cc in rw (← m) (ltb-true q n r)
    go true r i k (suc c) e = i k c p e
    go false r i k c e = cc

all_inside : (t : Tree) → list_all (inside (length t)) t ≡ true → (c p : ℕ) → parent_of t c ≡ Some p → p < length t
all_inside t h c p e = inside_at (length t) t h c p e

pub is_forest : (t : Tree) → list_all (inside (length t)) t ≡ true → AllEnded t (length t) → Forest t
is_forest t h k = inside_ended_forest t (all_inside t h) k

pub has_cycle : (t : Tree) → list_all (inside (length t)) t ≡ true → SomeUnended t → HasCycle t
has_cycle t h w = unended_cycle t (all_inside t h) w.0 w.1 w.2
