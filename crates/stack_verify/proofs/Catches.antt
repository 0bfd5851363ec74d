-- Where catch bodies begin, as a walk marks it.
use Rattle.std.proofs.Common.{◌≡◌, ◌∙◌, ℕ, zero, suc, ◌<◌, ◌≤◌, ◌==◌, ◌||◌, refl, sym, ap, Bool, true, false, cond, Some, List, [], ◌∷◌, drop, length, replicate, slice_get, slice_set, arith}
use Rattle.std.proofs.lemmas.List.{drop_all}
use Rattle.hhbc_repo.specs.declared.body.Region.{Region}
use Rattle.hhbc_repo.specs.Shapes.{is_catch}
use Rattle.flow_regions.specs.Marks.{marked_by}
use Rattle.flow_regions.proofs.Handled.{of_each}
use Rattle.flow_regions.proofs.Marking.{no_marks_are, same_marks, set_mark}

-- the flags once the catch bodies of all regions are marked
abbrev pub marked_all : List Region → List Bool → List Bool
marked_all [] flags = flags
marked_all (g ∷ gs) flags = marked_all gs (slice_set flags g.mid true)

or_false : (a : Bool) → (a || false) ≡ a
or_false true = refl
or_false false = refl

either : (a t b : Bool) → ((a || t) || b) ≡ (a || cond t true b)
either true t b = refl
either false true b = refl
either false false b = refl

marked_from : (gs : List Region) (f : ℕ → Bool) (n : ℕ) → marked_all gs (marked_by f n) ≡ marked_by (λ q. f q || is_catch gs q) n
marked_from [] f n = same_marks _ _ n (λ q. sym (or_false (f q)))
marked_from (g ∷ gs) f n =
    ap (marked_all gs) (set_mark f n g.mid) ∙ marked_from gs (λ q. f q || (g.mid == q)) n
    ∙ same_marks _ _ n (λ q. either (f q) (g.mid == q) (is_catch gs q))

all_marked : (gs : List Region) (n : ℕ) → marked_all gs (replicate n false) ≡ marked_by (is_catch gs) n
all_marked gs n = ap (marked_all gs) (no_marks_are 0 n) ∙ marked_from gs (λ q. false) n

-- none of the regions is left to be marked
pub at_end : (gs : List Region) (at n : ℕ) (flags : List Bool) → length gs ≤ at → marked_all (drop at gs) flags ≡ marked_all gs (replicate n false)
    → flags ≡ marked_by (is_catch gs) n
at_end gs at n flags l e = sym (ap (λ gs. marked_all gs flags) (drop_all at gs l)) ∙ e ∙ all_marked gs n

-- the flag of a position
pub marked_at : (gs : List Region) (n q : ℕ) (flags : List Bool) → flags ≡ marked_by (is_catch gs) n → q < n → slice_get flags q ≡ Some (is_catch gs q)
marked_at gs n q flags e l = ap (λ flags. slice_get flags q) e ∙ of_each (is_catch gs) n q l

within : (xs : List Bool) (q : ℕ) (b : Bool) → slice_get xs q ≡ Some b → q < length xs
within [] q b e = absurd (cc)
within (x ∷ xs) zero b e = omega arith
within (x ∷ xs) (suc q) b e = let i = within xs q b e in omega (arith, i)

pub marked_there : (gs : List Region) (n q : ℕ) (flags : List Bool) → flags ≡ marked_by (is_catch gs) n → q < n → q < length flags
marked_there gs n q flags e l = within flags q (is_catch gs q) (marked_at gs n q flags e l)
