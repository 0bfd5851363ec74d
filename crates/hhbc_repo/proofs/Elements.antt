-- Elements of lists: at their places, and of lists that are the same.
use Rattle.std.proofs.Common.{◌≡◌, ◌<◌, ◌∙◌, ℕ, zero, suc, List, [], ◌∷◌, ◌++◌, length, map, option_map, slice_get, Some, refl, ap, arith}
use Rattle.std.proofs.lemmas.Option.{slice_get-map}

pub same_first : {A : Type 0} (x y : A) (xs ys : List A) → x ∷ xs ≡ y ∷ ys → x ≡ y
same_first x y xs ys e = cc

pub same_rest : {A : Type 0} (x y : A) (xs ys : List A) → x ∷ xs ≡ y ∷ ys → xs ≡ ys
same_rest x y xs ys e = cc

pub slice_inside : {A : Type 0} (xs : List A) (i : ℕ) → i < length xs → (x : A) × (slice_get xs i ≡ Some x)
slice_inside [] i h = absurd (omega arith)
slice_inside (x ∷ xs) zero h = (x, refl)
slice_inside (x ∷ xs) (suc i) h = slice_inside xs i (omega arith)

pub slice_seam : {A : Type 0} (front : List A) (x : A) (more : List A) → slice_get (front ++ x ∷ more) (length front) ≡ Some x
slice_seam [] x more = refl
slice_seam (y ∷ front) x more = slice_seam front x more

pub slice_last : {A : Type 0} (xs : List A) (x : A) → slice_get (xs ++ x ∷ []) (length xs) ≡ Some x
slice_last xs x = slice_seam xs x []

pub before_last : {A : Type 0} (xs ys : List A) (n : ℕ) (x : A) → slice_get xs n ≡ Some x → slice_get (xs ++ ys) n ≡ Some x
before_last [] ys n x e = absurd (cc)
before_last (y ∷ xs) ys zero x e = e
before_last (y ∷ xs) ys (suc n) x e = before_last xs ys n x e

pub from_map : {A B : Type 0} (f : A → B) (xs : List A) (n : ℕ) (y : B) → slice_get (map f xs) n ≡ Some y → (x : A) × (slice_get xs n ≡ Some x) × (f x ≡ y)
from_map f [] n y e = absurd (cc)
from_map f (x ∷ xs) zero y e = (x, refl, cc)
from_map f (x ∷ xs) (suc n) y e = from_map f xs n y e

pub to_map : {A B : Type 0} (f : A → B) (xs : List A) (n : ℕ) (x : A) → slice_get xs n ≡ Some x → slice_get (map f xs) n ≡ Some (f x)
to_map f xs n x e = slice_get-map f xs n ∙ ap (option_map f) e
