-- The longest fronts that pass the tests of names and runs.
use Rattle.std.proofs.Common.{◌≡◌, ℕ, zero, suc, ◌<◌, ◌≤◌, refl, sym, ap, ◌∙◌, subst, Bool, true, false, ◌&&◌, List, [], ◌∷◌, length, take, arith}
use Rattle.std.specs.List.{list_all}
use Rattle.std.proofs.lemmas.List.Sums.{take_while-cons}
use Rattle.hhas_lex.specs.Bytes.{run_of, is_name}
use Rattle.hhas_lex.specs.Shape.{is_empty}
use Rattle.hhas_lex.specs.Fronts.{LongestFront, NoFront}

pub split : {P : Type 0} (b : Bool) → (b ≡ true → P) → (b ≡ false → P) → P
split true f g = f refl
split false f g = g refl

pub run_of-yes : (p : ℕ → Bool) (b : ℕ) (bs : List ℕ) → p b ≡ true → run_of p (b ∷ bs) ≡ suc (run_of p bs)
run_of-yes p b bs e = rw (take_while-cons p b bs, e) refl

pub run_of-no : (p : ℕ → Bool) (b : ℕ) (bs : List ℕ) → p b ≡ false → run_of p (b ∷ bs) ≡ 0
run_of-no p b bs e = rw (take_while-cons p b bs, e) refl

-- a front of one byte more
pub front-on : (p q : ℕ → Bool) (b : ℕ) (bs : List ℕ) (n : ℕ) → p b ≡ true → LongestFront (list_all q) bs n → LongestFront (is_name p q) (b ∷ bs) (suc n)
front-on p q b bs n e w = record {
  inside = omega (arith, w.inside);
  passes = ap (λ c. c && list_all q (take n bs)) e ∙ w.passes;
  longest = longer;
}
  where
    longer : (m : ℕ) → suc n < m → m ≤ length (b ∷ bs) → is_name p q (take m (b ∷ bs)) ≡ false
    longer zero lt le = absurd (omega arith)
    longer (suc m) lt le = ap (λ c. c && list_all q (take m bs)) e ∙ w.longest m (omega arith) (omega arith)

pub name-none : (p q : ℕ → Bool) → NoFront (is_name p q) []
name-none p q = record { none = λ m le. none m }
  where
    none : (m : ℕ) → is_name p q (take m []) ≡ false
    none zero = refl
    none (suc m) = refl

pub name-not : (p q : ℕ → Bool) (b : ℕ) (bs : List ℕ) → p b ≡ false → NoFront (is_name p q) (b ∷ bs)
name-not p q b bs e = record { none = λ m le. none m }
  where
    none : (m : ℕ) → is_name p q (take m (b ∷ bs)) ≡ false
    none zero = refl
    none (suc m) = ap (λ c. c && list_all q (take m bs)) e

-- a test of each byte alone: names but for the empty one
front-step : (p : ℕ → Bool) (b : ℕ) (bs : List ℕ) (n : ℕ) → p b ≡ true → LongestFront (list_all p) bs n → LongestFront (list_all p) (b ∷ bs) (suc n)
front-step p b bs n e w = record {
  inside = omega (arith, w.inside);
  passes = ap (λ c. c && list_all p (take n bs)) e ∙ w.passes;
  longest = longer;
}
  where
    longer : (m : ℕ) → suc n < m → m ≤ length (b ∷ bs) → list_all p (take m (b ∷ bs)) ≡ false
    longer zero lt le = absurd (omega arith)
    longer (suc m) lt le = ap (λ c. c && list_all p (take m bs)) e ∙ w.longest m (omega arith) (omega arith)

front-stop : (p : ℕ → Bool) (b : ℕ) (bs : List ℕ) → p b ≡ false → LongestFront (list_all p) (b ∷ bs) 0
front-stop p b bs e = record { inside = omega arith; passes = refl; longest = longer }
  where
    longer : (m : ℕ) → 0 < m → m ≤ length (b ∷ bs) → list_all p (take m (b ∷ bs)) ≡ false
    longer zero lt le = absurd (omega arith)
    longer (suc m) lt le = ap (λ c. c && list_all p (take m bs)) e

pub run-front : (p : ℕ → Bool) (bs : List ℕ) → LongestFront (list_all p) bs (run_of p bs)
run-front p [] = record { inside = omega arith; passes = refl; longest = λ m lt le. absurd (omega arith) }
run-front p (b ∷ bs) =
    let P : ℕ → Type 0 = λ n. LongestFront (list_all p) (b ∷ bs) n in
    split (p b)
    (λ e. subst P (sym (run_of-yes p b bs e)) (front-step p b bs (run_of p bs) e (run-front p bs)))
    (λ e. subst P (sym (run_of-no p b bs e)) (front-stop p b bs e))

pub empty-front : (bs : List ℕ) → LongestFront is_empty bs 0
empty-front [] = record { inside = omega arith; passes = refl; longest = λ m lt le. absurd (omega arith) }
empty-front (b ∷ bs) = record { inside = omega arith; passes = refl; longest = longer }
  where
    longer : (m : ℕ) → 0 < m → m ≤ length (b ∷ bs) → is_empty (take m (b ∷ bs)) ≡ false
    longer zero lt le = absurd (omega arith)
    longer (suc m) lt le = refl
