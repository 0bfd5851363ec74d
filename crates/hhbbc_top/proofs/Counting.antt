-- How many positions the bodies have, one body after the other.
use Rattle.std.proofs.Common.{◌≡◌, ◌≤◌, ◌+◌, ℕ, zero, suc, List, [], ◌∷◌, Option, Some, None, length, drop, slice_get, ◌++◌, codes, refl, ap, sym, ◌∙◌, subst, arith, length-append}
use Rattle.std.proofs.lemmas.List.{append_assoc}
use Rattle.hhbc_repo.specs.declared.body.Body.{Body}
use Rattle.hhbc_repo.specs.Linked.{Linked}
use Rattle.hhbc_repo.specs.Bodies.{bodies}
use Rattle.hhbc_repo.specs.LookUps.{methods_in}
use Rattle.std.specs.Fmt.{decimal}
use Rattle.hhbbc_top.specs.Counts.{position_count, counts_line}

next_of : (bs : List Body) (n : ℕ) (b : Body) → slice_get bs n ≡ Some b → position_count (drop n bs) ≡ length b.positions + position_count (drop (suc n) bs)
next_of [] n b e = absurd (cc)
next_of (x ∷ bs) zero b e = let same : x ≡ b = cc in ap (λ (k : Body). length k.positions + position_count bs) same
next_of (x ∷ bs) (suc n) b e = next_of bs n b e

pub next_counted : (bs : List Body) (n : ℕ) (b : Body) → slice_get bs n ≡ Some b → position_count (drop n bs) ≡ length b.positions + position_count (drop (n + 1) bs)
next_counted bs n b e =
    let next : suc n ≡ n + 1 = omega arith in
    subst (λ (m : ℕ). position_count (drop n bs) ≡ length b.positions + position_count (drop m bs)) next (next_of bs n b e)

pub none_left : (bs : List Body) (n : ℕ) → length bs ≤ n → position_count (drop n bs) ≡ 0
none_left [] zero h = refl
none_left [] (suc n) h = refl
none_left (x ∷ bs) zero h = absurd (omega (arith, h))
none_left (x ∷ bs) (suc n) h = none_left bs n (omega (arith, h))

pub methods_behind : (r : Linked) → length (bodies r) ≡ length r.functions + length (methods_in r.classes)
methods_behind r = length-append r.functions (methods_in r.classes)

-- words, each with its number, and the end of the line
four_words : (v w x y a b c d : List ℕ)
    → v ++ a ++ (w ++ b) ++ (x ++ c) ++ (y ++ d) ++ 10 ∷ [] ≡ v ++ (a ++ (w ++ (b ++ (x ++ (c ++ (y ++ (d ++ 10 ∷ [])))))))
four_words v w x y a b c d =
    append_assoc (v ++ a ++ (w ++ b) ++ (x ++ c)) (y ++ d) (10 ∷ [])
    ∙ append_assoc (v ++ a ++ (w ++ b)) (x ++ c) (y ++ d ++ 10 ∷ [])
    ∙ append_assoc (v ++ a) (w ++ b) (x ++ c ++ (y ++ d ++ 10 ∷ []))
    ∙ append_assoc v a (w ++ b ++ (x ++ c ++ (y ++ d ++ 10 ∷ [])))
    ∙ ap (λ (k : List ℕ). v ++ (a ++ k))
    (append_assoc w b (x ++ c ++ (y ++ d ++ 10 ∷ []))
    ∙ ap (λ (k : List ℕ). w ++ (b ++ k))
    (append_assoc x c (y ++ d ++ 10 ∷ []) ∙ ap (λ (k : List ℕ). x ++ (c ++ k)) (append_assoc y d (10 ∷ []))))

abbrev of_numbers : ℕ → ℕ → ℕ → ℕ → List ℕ
of_numbers a b c d =
    codes "functions "
    ++ (decimal a ++ (codes " methods " ++ (decimal b ++ (codes " classes " ++ (decimal c ++ (codes " positions " ++ (decimal d ++ 10 ∷ [])))))))

pub four_counts : (r : Linked) (a b c d : ℕ) (s t u f g out : List ℕ)
    → a ≡ length r.functions → b ≡ length (methods_in r.classes) → c ≡ length r.classes → d ≡ position_count (bodies r)
    → s ≡ [] → t ≡ s ++ (codes "functions " ++ decimal a) → u ≡ t ++ (codes " methods " ++ decimal b) → f ≡ u ++ (codes " classes " ++ decimal c)
    → g ≡ f ++ (codes " positions " ++ decimal d) → out ≡ g ++ 10 ∷ []
    → out ≡ counts_line r
four_counts r a b c d s t u f g out na nb nc nd e1 e2 e3 e4 e5 e6 =
    let v = codes "functions " in
    let w = codes " methods " in
    let x = codes " classes " in
    let y = codes " positions " in
    let t' : t ≡ v ++ decimal a = e2 ∙ ap (λ (k : List ℕ). k ++ (v ++ decimal a)) e1 in
    let u' : u ≡ v ++ decimal a ++ (w ++ decimal b) = e3 ∙ ap (λ (k : List ℕ). k ++ (w ++ decimal b)) t' in
    let f' : f ≡ v ++ decimal a ++ (w ++ decimal b) ++ (x ++ decimal c) = e4 ∙ ap (λ (k : List ℕ). k ++ (x ++ decimal c)) u' in
    let g' : g ≡ v ++ decimal a ++ (w ++ decimal b) ++ (x ++ decimal c) ++ (y ++ decimal d) = e5 ∙ ap (λ (k : List ℕ). k ++ (y ++ decimal d)) f' in
    e6 ∙ ap (λ (k : List ℕ). k ++ 10 ∷ []) g'
    ∙ four_words v w x y (decimal a) (decimal b) (decimal c) (decimal d)
    ∙ ap (λ (k : ℕ). of_numbers k b c d) na
    ∙ ap (λ (k : ℕ). of_numbers (length r.functions) k c d) nb
    ∙ ap (λ (k : ℕ). of_numbers (length r.functions) (length (methods_in r.classes)) k d) nc
    ∙ ap (λ (k : ℕ). of_numbers (length r.functions) (length (methods_in r.classes)) (length r.classes) k) nd
