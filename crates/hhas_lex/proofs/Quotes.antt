-- How strings are read byte by byte.
use Rattle.std.proofs.Common.{◌≡◌, ℕ, zero, suc, ◌+◌, ◌<◌, ◌≤◌, refl, sym, ap, ◌∙◌, false, List, [], ◌∷◌, ◌++◌, length, take, get_or, fold, append_assoc, append-nil, length-append, arith, inl, inr, Option, Some}
use Rattle.std.specs.List.{between}
use Rattle.std.specs.Option.{option_to_list}
use Rattle.std.proofs.lemmas.List.{take_more}
use Rattle.std.proofs.lemmas.List.Edits.{between_more, between_none}
use Rattle.std.proofs.lemmas.List.Sums.{fold_more}
use Rattle.std.proofs.lemmas.Bool.{cases_lt}
use Rattle.hhas_lex.specs.declared.strings.Mode.{Mode}
use Rattle.hhas_lex.specs.declared.strings.Mode.TheVariants.{Plain, Escaped, High, Low, Closed, Broken}
use Rattle.hhas_lex.specs.Strings.{step, given, is_closed, closes, value_from, value_of}
use Rattle.hhas_lex.specs.Fronts.{LongestFront, NoFront}

value_from-push : (m : Mode) (xs : List ℕ) (b : ℕ) → value_from m (xs ++ b ∷ []) ≡ value_from m xs ++ option_to_list (given (fold step m xs) b)
value_from-push m [] b = append-nil (option_to_list (given m b))
value_from-push m (x ∷ xs) b =
    ap (λ z. option_to_list (given m x) ++ z) (value_from-push (step m x) xs b)
    ∙ sym (append_assoc (option_to_list (given m x)) (value_from (step m x) xs) (option_to_list (given (fold step (step m x) xs) b)))

-- the value with one byte more
pub value_of-more : (bs : List ℕ) (i : ℕ) (m : Mode) → i < length bs → m ≡ fold step Plain (take i bs)
    → value_of (take (i + 1) bs) ≡ value_of (take i bs) ++ option_to_list (given m (get_or bs i 0))
value_of-more bs i m h e =
    ap value_of (take_more bs i 0 h) ∙ value_from-push Plain (take i bs) (get_or bs i 0)
    ∙ ap (λ (z : Mode). value_of (take i bs) ++ option_to_list (given z (get_or bs i 0))) (sym e)

pub length-value_of-more : (bs : List ℕ) (i size : ℕ) (m : Mode) → i < length bs → m ≡ fold step Plain (take i bs) → size ≡ length (value_of (take i bs))
    → size + length (option_to_list (given m (get_or bs i 0))) ≡ length (value_of (take (i + 1) bs))
length-value_of-more bs i size m h e s =
    ap (λ n. n + length (option_to_list (given m (get_or bs i 0)))) s
    ∙ sym (ap length (value_of-more bs i m h e) ∙ length-append (value_of (take i bs)) (option_to_list (given m (get_or bs i 0))))

-- the mode with one byte more
pub mode-more : (bs : List ℕ) (i : ℕ) (m : Mode) → i < length bs → m ≡ fold step Plain (take i bs) → step m (get_or bs i 0) ≡ fold step Plain (take (i + 1) bs)
mode-more bs i m h e = ap (λ (z : Mode). step z (get_or bs i 0)) e ∙ sym (fold_more step Plain bs i 0 h)

pub broken-stays : (xs : List ℕ) → fold step Broken xs ≡ Broken
broken-stays [] = refl
broken-stays (x ∷ xs) = broken-stays xs

broken-on : (m : Mode) (bs : List ℕ) (n j : ℕ) → n ≤ j → fold step m (take n bs) ≡ Broken → fold step m (take j bs) ≡ Broken
broken-on m bs zero j h e = ap (λ (z : Mode). fold step z (take j bs)) e ∙ broken-stays (take j bs)
broken-on m bs (suc n) zero h e = absurd (omega arith)
broken-on m [] (suc n) (suc j) h e = e
broken-on m (b ∷ bs) (suc n) (suc j) h e = broken-on (step m b) bs n j (omega arith) e

-- what follows the closing quote is no part of the string
pub closed-on : (m : Mode) (bs : List ℕ) (n j : ℕ) → n < j → j ≤ length bs → fold step m (take n bs) ≡ Closed → fold step m (take j bs) ≡ Broken
closed-on m bs n zero h le e = absurd (omega arith)
closed-on m [] n (suc j) h le e = absurd (omega arith)
closed-on m (b ∷ bs) zero (suc j) h le e = ap (λ (z : Mode). fold step (step z b) (take j bs)) e ∙ broken-stays (take j bs)
closed-on m (b ∷ bs) (suc n) (suc j) h le e = closed-on (step m b) bs n j (omega arith) (omega arith) e

pub closed-front : (bs : List ℕ) (i : ℕ) (m n : Mode) → i < length bs → m ≡ fold step Plain (take i bs) → n ≡ step m (get_or bs i 0) → n ≡ Closed → LongestFront closes bs (i + 1)
closed-front bs i m n h e f g =
    let k : fold step Plain (take (i + 1) bs) ≡ Closed = sym (mode-more bs i m h e) ∙ sym f ∙ g in
    record {
      inside = omega arith;
      passes = ap is_closed k;
      longest = λ j lt le. ap is_closed (closed-on Plain bs (i + 1) j lt le k);
    }

pub broken-front : (bs : List ℕ) (i : ℕ) (m n : Mode) → i < length bs → m ≡ fold step Plain (take i bs) → n ≡ step m (get_or bs i 0) → n ≡ Broken
    → ((j : ℕ) → j ≤ i → closes (take j bs) ≡ false) → NoFront closes bs
broken-front bs i m n h e f g u =
    let k : fold step Plain (take (i + 1) bs) ≡ Broken = sym (mode-more bs i m h e) ∙ sym f ∙ g in
    record {
      none = λ j le. elim (cases_lt i j) [
        | inl lt ↦ ap is_closed (broken-on Plain bs (i + 1) j (omega arith) k)
        | inr ge ↦ u j ge
      ];
    }

is_closed-not : (m : Mode) → (m ≡ Closed → ⊥) → is_closed m ≡ false
is_closed-not Closed n = absurd (n refl)
is_closed-not Plain n = refl
is_closed-not Escaped n = refl
is_closed-not High n = refl
is_closed-not (Low high) n = refl
is_closed-not Broken n = refl

pub unclosed-more : (bs : List ℕ) (i : ℕ) (m n : Mode) → i < length bs → m ≡ fold step Plain (take i bs) → n ≡ step m (get_or bs i 0) → (n ≡ Closed → ⊥)
    → ((j : ℕ) → j ≤ i → closes (take j bs) ≡ false) → (j : ℕ) → j ≤ i + 1 → closes (take j bs) ≡ false
unclosed-more bs i m n h e f g u j le =
    elim (cases_lt i j) [
      | inl lt ↦ let k : j ≡ i + 1 = omega arith in ap (λ z. closes (take z bs)) k ∙ ap is_closed (sym (mode-more bs i m h e) ∙ sym f) ∙ is_closed-not n g
      | inr ge ↦ u j ge
    ]

-- ---- a value by runs of bytes that stand for themselves

-- one more byte of a run
pub run-on : (bs : List ℕ) (from i on : ℕ) (m : Mode) (old new : List ℕ) → i < length bs → from ≤ i → m ≡ fold step Plain (take i bs)
    → old ++ between from i bs ≡ value_of (take i bs) → given m (get_or bs i 0) ≡ Some (get_or bs i 0) → new ≡ old → on ≡ from
    → new ++ between on (i + 1) bs ≡ value_of (take (i + 1) bs)
run-on bs from i on m old new h le e v g f n =
    ap (λ z. z ++ between on (i + 1) bs) f ∙ ap (λ k. old ++ between k (i + 1) bs) n ∙ ap (λ z. old ++ z) (between_more bs from i 0 le h)
    ∙ sym (append_assoc old (between from i bs) (get_or bs i 0 ∷ [])) ∙ ap (λ z. z ++ get_or bs i 0 ∷ []) v
    ∙ ap (λ (o : Option ℕ). value_of (take i bs) ++ option_to_list o) (sym g) ∙ sym (value_of-more bs i m h e)

-- a run, and the byte that ends it
pub run-pushed : (bs : List ℕ) (from i on : ℕ) (m : Mode) (old new : List ℕ) → i < length bs → m ≡ fold step Plain (take i bs)
    → old ++ between from i bs ≡ value_of (take i bs) → new ≡ (old ++ between from i bs) ++ option_to_list (given m (get_or bs i 0)) → on ≡ i + 1
    → new ++ between on (i + 1) bs ≡ value_of (take (i + 1) bs)
run-pushed bs from i on m old new h e v f n =
    ap (λ k. new ++ between k (i + 1) bs) n ∙ ap (λ z. new ++ z) (between_none bs (i + 1)) ∙ append-nil new ∙ f
    ∙ ap (λ z. z ++ option_to_list (given m (get_or bs i 0))) v ∙ sym (value_of-more bs i m h e)
