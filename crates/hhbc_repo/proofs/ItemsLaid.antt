-- The steps of items that nest are the turns of their regions, in order: before each position and behind the last.
use Rattle.std.proofs.Common.{◌≡◌, ◌≤◌, ◌<◌, ℕ, zero, suc, Bool, true, false, List, [], ◌∷◌, ◌++◌, refl, sym, ap, ap₂, ◌∙◌, arith, le_refl, add-zero, replicate}
use Rattle.hhbc_repo.specs.declared.parts.ItemParts.{ItemParts}
use Rattle.hhbc_repo.specs.declared.parts.ItemParts.TheVariants as items
use Rattle.hhbc_repo.specs.declared.parts.PositionParts.{PositionParts}
use Rattle.hhbc_repo.specs.Canonical.{how_many, firsts, mids, lasts, turns}
use Rattle.hhbc_repo.specs.Fits.{Open, InTry, InCatch, nests}
use Rattle.hhbc_repo.specs.Resolved.{regions_from}
use Rattle.hhbc_repo.proofs.ItemSteps.{steps}
use Rattle.hhbc_repo.proofs.TurnsCounted.{is_try, is_catch, is_end, noted, times, noted_later, noted_here, times_past, none_before_code, tries_counted, ends_counted, catches_counted}

-- ---- one turn

abbrev pub turn : ℕ → ℕ → ℕ → List ItemParts
turn ends catches tries = replicate ends items.End ++ (replicate catches items.Catch ++ replicate tries items.Try)

turn_same : (e f c d t u : ℕ) → e ≡ f → c ≡ d → t ≡ u → turn e c t ≡ turn f d u
turn_same e f c d t u a b k = rw (a, b, k) refl

one_more_end : (e f c t : ℕ) → f ≡ suc e → turn f c t ≡ items.End ∷ turn e c t
one_more_end e f c t a = rw a refl

one_more_catch : (e c d t : ℕ) → e ≡ 0 → d ≡ suc c → turn e d t ≡ items.Catch ∷ turn e c t
one_more_catch e c d t a b = rw (a, b) refl

one_more_try : (e c t u : ℕ) → e ≡ 0 → c ≡ 0 → u ≡ suc t → turn e c u ≡ items.Try ∷ turn e c t
one_more_try e c t u a b k = rw (a, b, k) refl

-- ---- turns and positions in order

-- so many positions from the place n on, with what stands before each and behind the last
abbrev pub laid : PositionParts → (ℕ → List ItemParts) → ℕ → ℕ → List ItemParts
laid q f n zero = f n
laid q f n (suc k) = f n ++ (items.Position q ∷ laid q f (suc n) k)

pub laid_same : (q : PositionParts) (f g : ℕ → List ItemParts) (n k : ℕ) → ((p : ℕ) → n ≤ p → f p ≡ g p) → laid q f n k ≡ laid q g n k
laid_same q f g n zero e = e n (le_refl n)
laid_same q f g n (suc k) e =
    ap₂ (λ (xs ys : List ItemParts). xs ++ (items.Position q ∷ ys)) (e n (le_refl n)) (laid_same q f g (suc n) k (λ p l. e p (omega (arith, l))))

laid_first : (q : PositionParts) (item : ItemParts) (f g : ℕ → List ItemParts) (n k : ℕ) → f n ≡ item ∷ g n → ((p : ℕ) → suc n ≤ p → f p ≡ g p)
    → laid q f n k ≡ item ∷ laid q g n k
laid_first q item f g n zero first later = first
laid_first q item f g n (suc k) first later =
    ap₂ (λ (xs ys : List ItemParts). xs ++ (items.Position q ∷ ys)) first (laid_same q f g (suc n) k later)

-- ---- items that nest are laid so

abbrev pub positions_in : List ItemParts → ℕ
positions_in [] = 0
positions_in (items.Position p ∷ more) = suc (positions_in more)
positions_in (_ ∷ more) = positions_in more

-- what stands at the place p, of items that begin at the place n
abbrev pub turns_in : ℕ → List ItemParts → ℕ → List ItemParts
turns_in n is p = turn (times is_end p n is) (times is_catch p n is) (times is_try p n is)

no_turn : (p n : ℕ) (is : List ItemParts) → p < n → turns_in n is p ≡ []
no_turn p n is l =
    turn_same (times is_end p n is) 0 (times is_catch p n is) 0 (times is_try p n is) 0
    (times_past is_end p n is l) (times_past is_catch p n is l) (times_past is_try p n is l)

pub steps_laid : (q : PositionParts) (n : ℕ) (is : List ItemParts) (os : List Open) (wants : Bool) → nests is os wants ≡ true
    → steps q is ≡ laid q (turns_in n is) n (positions_in is)
steps_laid q n [] os wants h = refl
steps_laid q n (items.Label name ∷ more) os wants h = steps_laid q n more os wants h
steps_laid q n (items.Position p ∷ more) os wants h =
    ap (λ (l : List ItemParts). items.Position q ∷ l) (steps_laid q (suc n) more os false h)
    ∙ sym (ap (λ (l : List ItemParts). l ++ (items.Position q ∷ laid q (turns_in (suc n) more) (suc n) (positions_in more))) (no_turn n (suc n) more (omega arith)))
steps_laid q n (items.Try ∷ more) os wants h =
    let none = none_before_code n more (InTry ∷ os) h in
    ap (λ (l : List ItemParts). items.Try ∷ l) (steps_laid q n more (InTry ∷ os) true h)
    ∙ sym
    (laid_first q items.Try (turns_in n (items.Try ∷ more)) (turns_in n more) n (positions_in more)
    (one_more_try (times is_end n n more) (times is_catch n n more) (times is_try n n more) (noted true n n (times is_try n n more)) none.0 none.1 (noted_here n (times is_try n n more)))
    (λ p l. ap (λ (k : ℕ). turn (times is_end p n more) (times is_catch p n more) k) (noted_later true p n (times is_try p n more) l)))
steps_laid q n (items.Catch ∷ more) [] wants h = absurd (cc)
steps_laid q n (items.Catch ∷ more) (InTry ∷ os) true h = absurd (cc)
steps_laid q n (items.Catch ∷ more) (InTry ∷ os) false h =
    let none = none_before_code n more (InCatch ∷ os) h in
    ap (λ (l : List ItemParts). items.Catch ∷ l) (steps_laid q n more (InCatch ∷ os) true h)
    ∙ sym
    (laid_first q items.Catch (turns_in n (items.Catch ∷ more)) (turns_in n more) n (positions_in more)
    (one_more_catch (times is_end n n more) (times is_catch n n more) (noted true n n (times is_catch n n more)) (times is_try n n more) none.0 (noted_here n (times is_catch n n more)))
    (λ p l. ap (λ (k : ℕ). turn (times is_end p n more) k (times is_try p n more)) (noted_later true p n (times is_catch p n more) l)))
steps_laid q n (items.Catch ∷ more) (InCatch ∷ os) wants h = absurd (cc)
steps_laid q n (items.End ∷ more) [] wants h = absurd (cc)
steps_laid q n (items.End ∷ more) (InTry ∷ os) wants h = absurd (cc)
steps_laid q n (items.End ∷ more) (InCatch ∷ os) true h = absurd (cc)
steps_laid q n (items.End ∷ more) (InCatch ∷ os) false h =
    ap (λ (l : List ItemParts). items.End ∷ l) (steps_laid q n more os false h)
    ∙ sym
    (laid_first q items.End (turns_in n (items.End ∷ more)) (turns_in n more) n (positions_in more)
    (one_more_end (times is_end n n more) (noted true n n (times is_end n n more)) (times is_catch n n more) (times is_try n n more) (noted_here n (times is_end n n more)))
    (λ p l. ap (λ (k : ℕ). turn k (times is_catch p n more) (times is_try p n more)) (noted_later true p n (times is_end p n more) l)))

-- ---- the regions have these turns

pub turns_of_regions : (p : ℕ) (is : List ItemParts) → nests is [] false ≡ true → turns (regions_from 0 is) p ≡ turns_in 0 is p
turns_of_regions p is h =
    let rs = regions_from 0 is in
    turn_same (how_many p (lasts rs)) (times is_end p 0 is) (how_many p (mids rs)) (times is_catch p 0 is) (how_many p (firsts rs)) (times is_try p 0 is)
    (sym (ends_counted p 0 is [] false h ∙ add-zero (how_many p (lasts rs))))
    (sym (catches_counted p 0 is [] false h ∙ add-zero (how_many p (mids rs))))
    (sym (tries_counted p 0 is))
