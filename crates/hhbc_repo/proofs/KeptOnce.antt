-- Numbers of which each is kept once, one after the other.
use Rattle.std.proofs.Common.{◌≡◌, ℕ, Bool, true, false, ◌==◌, ◌||◌, List, [], ◌∷◌, ◌++◌, refl, sym, ap, ◌∙◌, cond, append_assoc}
use Rattle.std.proofs.Math.Bool.{or-false, or_assoc}
use Rattle.std.proofs.lemmas.Bool.Decides.{Decides-eqb}
use Rattle.hhbc_repo.specs.Codes.{without, each_once}
use Rattle.hhbc_repo.specs.EachOnce.{is_among, left, joined}

-- to leave out what is among the first ones changes nothing
left_without : (out : List ℕ) (n : ℕ) (ns : List ℕ) → is_among out n ≡ true → left out (without n ns) ≡ left out ns
left_without out n [] e = refl
left_without out n (m ∷ ms) e = by_case (n == m) refl (is_among out m) refl (left_without out n ms e)
  where
    by_case : (t : Bool) → (n == m) ≡ t → (u : Bool) → is_among out m ≡ u → left out (without n ms) ≡ left out ms
        → left out (cond t (without n ms) (m ∷ without n ms)) ≡ cond u (left out ms) (m ∷ left out ms)
    by_case true s u a ih =
        let k : n ≡ m = (Decides-eqb n m).0 s in
        let b : u ≡ true = sym a ∙ ap (is_among out) (sym k) ∙ e in
        rw b ih
    by_case false s true a ih = rw a ih
    by_case false s false a ih = rw a (ap (λ l. m ∷ l) ih)

-- the last of the first ones
among_last : (out : List ℕ) (n m : ℕ) → is_among (out ++ n ∷ []) m ≡ (is_among out m || (n == m))
among_last [] n m = or-false (n == m)
among_last (x ∷ out) n m = ap (λ b. (x == m) || b) (among_last out n m) ∙ sym (or_assoc (x == m) (is_among out m) (n == m))

left_last : (out : List ℕ) (n : ℕ) (ns : List ℕ) → left (out ++ n ∷ []) ns ≡ left out (without n ns)
left_last out n [] = refl
left_last out n (m ∷ ms) = by_case (n == m) refl (is_among out m) refl (left_last out n ms)
  where
    by_case : (t : Bool) → (n == m) ≡ t → (u : Bool) → is_among out m ≡ u → left (out ++ n ∷ []) ms ≡ left out (without n ms)
        → left (out ++ n ∷ []) (m ∷ ms) ≡ left out (cond t (without n ms) (m ∷ without n ms))
    by_case true s true a ih = rw (among_last out n m, s, a) ih
    by_case true s false a ih = rw (among_last out n m, s, a) ih
    by_case false s true a ih = rw (among_last out n m, s, a) ih
    by_case false s false a ih = rw (among_last out n m, s, a) (ap (λ l. m ∷ l) ih)

-- a number that is there already
pub joined_there : (out : List ℕ) (n : ℕ) (more : List ℕ) → is_among out n ≡ true → joined out more ≡ joined out (n ∷ more)
joined_there out n more e = rw e (ap (λ l. out ++ l) (sym (left_without out n (each_once more) e)))

-- a number that isn't there yet
pub joined_new : (out : List ℕ) (n : ℕ) (more : List ℕ) → is_among out n ≡ false → joined (out ++ n ∷ []) more ≡ joined out (n ∷ more)
joined_new out n more e =
    rw e (append_assoc out (n ∷ []) (left (out ++ n ∷ []) (each_once more)) ∙ ap (λ l. out ++ n ∷ l) (left_last out n (each_once more)))

pub joined_none : (out : List ℕ) → joined out [] ≡ out
joined_none [] = refl
joined_none (x ∷ out) = ap (λ l. x ∷ l) (joined_none out)

left_none : (ns : List ℕ) → left [] ns ≡ ns
left_none [] = refl
left_none (n ∷ ns) = ap (λ l. n ∷ l) (left_none ns)

pub joined_all : (ns : List ℕ) → joined [] ns ≡ each_once ns
joined_all ns = left_none (each_once ns)

-- three lists of numbers, one after the other
pub joined_three : (first second third : List ℕ) (base dims last all : List ℕ)
    → ((more : List ℕ) → joined first more ≡ joined [] (base ++ more))
    → ((more : List ℕ) → joined second more ≡ joined first (dims ++ more))
    → ((more : List ℕ) → joined third more ≡ joined second (last ++ more))
    → base ++ (dims ++ (last ++ [])) ≡ all → third ≡ each_once all
joined_three first second third base dims last all one two three e =
    sym (joined_none third) ∙ three [] ∙ two (last ++ []) ∙ one (dims ++ (last ++ [])) ∙ ap (joined []) e ∙ joined_all all
