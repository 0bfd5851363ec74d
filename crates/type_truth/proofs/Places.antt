-- A test of all that stands from a place on: of what stands there, and of the rest.
use Rattle.std.proofs.Common.{◌≡◌, ℕ, zero, suc, refl, sym, ◌∙◌, ap, subst, Bool, true, false, ◌&&◌, List, [], ◌∷◌, drop, Some, slice_get}
use Rattle.std.specs.List.{list_all}
use Rattle.std.specs.Map.{keys_of, values_of}
use Rattle.hack_values.specs.declared.cell.Cell.{Cell}
use Rattle.hack_values.specs.declared.key.Key.{Key}
use Rattle.hack_values.specs.Val.{Val}
use Rattle.hack_values.specs.View.{val_of, cell_of, cells_of, cell-val}

pub all_at : {A : Type 0} (f : A → Bool) (xs : List A) (i : ℕ) (x : A) → slice_get xs i ≡ Some x
    → list_all f (drop i xs) ≡ (f x && list_all f (drop (suc i) xs))
all_at f [] i x e = absurd (cc)
all_at f (y ∷ xs) zero x e = let k : y ≡ x = cc in ap (λ z. f z && list_all f xs) k
all_at f (y ∷ xs) (suc i) x e = all_at f xs i x e

-- all that is left decides: where what stands here fails, all do; where it passes, the rest decides
pub all_lost : {A : Type 0} (f : A → Bool) (xs : List A) (i : ℕ) (x : A) → list_all f (drop i xs) ≡ list_all f xs → slice_get xs i ≡ Some x
    → false ≡ f x → false ≡ list_all f xs
all_lost f xs i x left e h = (λ k. h k && list_all f (drop (suc i) xs)) ∙ sym (all_at f xs i x e) ∙ left

pub all_kept : {A : Type 0} (f : A → Bool) (xs : List A) (i j : ℕ) (x : A) → list_all f (drop i xs) ≡ list_all f xs → slice_get xs i ≡ Some x
    → true ≡ f x → suc i ≡ j → list_all f (drop j xs) ≡ list_all f xs
all_kept f xs i j x left e h n =
    subst (λ m. list_all f (drop m xs) ≡ list_all f xs) n ((λ k. h k && list_all f (drop (suc i) xs)) ∙ sym (all_at f xs i x e) ∙ left)

-- each key passes the one test, and each value the other
abbrev pub both : (Key → Bool) → (Cell → Bool) → List (Key × Val) → Bool
both f g es = list_all f (keys_of es) && list_all g (cells_of (values_of es))

swapped : (a b c d : Bool) → ((a && b) && (c && d)) ≡ ((a && c) && (b && d))
swapped true true c d = refl
swapped true false true d = refl
swapped true false false d = refl
swapped false b c d = refl

pub both_at : (f : Key → Bool) (g : Cell → Bool) (es : List (Key × Val)) (i : ℕ) (k : Key) (c : Cell) → slice_get es i ≡ Some (k, val_of c)
    → both f g (drop i es) ≡ ((f k && g c) && both f g (drop (suc i) es))
both_at f g [] i k c e = absurd (cc)
both_at f g (y ∷ es) zero k c e =
    let h : y ≡ (k, val_of c) = cc in
    let same : cell_of y.1 ≡ c = ap (λ (p : Key × Val). cell_of p.1) h ∙ cell-val c in
    (λ i. (f (h i).0 && list_all f (keys_of es)) && (g (same i) && list_all g (cells_of (values_of es))))
    ∙ swapped (f k) (list_all f (keys_of es)) (g c) (list_all g (cells_of (values_of es)))
both_at f g (y ∷ es) (suc i) k c e = both_at f g es i k c e

pub both_lost : (f : Key → Bool) (g : Cell → Bool) (es : List (Key × Val)) (i : ℕ) (k : Key) (c : Cell) → both f g (drop i es) ≡ both f g es
    → slice_get es i ≡ Some (k, val_of c) → false ≡ (f k && g c) → false ≡ both f g es
both_lost f g es i k c left e h = (λ n. h n && both f g (drop (suc i) es)) ∙ sym (both_at f g es i k c e) ∙ left

pub both_kept : (f : Key → Bool) (g : Cell → Bool) (es : List (Key × Val)) (i j : ℕ) (k : Key) (c : Cell) → both f g (drop i es) ≡ both f g es
    → slice_get es i ≡ Some (k, val_of c) → true ≡ (f k && g c) → suc i ≡ j → both f g (drop j es) ≡ both f g es
both_kept f g es i j k c left e h n =
    subst (λ m. both f g (drop m es) ≡ both f g es) n ((λ m. h m && both f g (drop (suc i) es)) ∙ sym (both_at f g es i k c e) ∙ left)
