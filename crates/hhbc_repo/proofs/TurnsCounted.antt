-- How many try and catch bodies begin and end at each place: of items that nest, the regions tell it.
use Rattle.std.proofs.Common.{◌≡◌, ◌≤◌, ◌<◌, ℕ, suc, ◌+◌, Bool, true, false, ◌==◌, if◌then◌else◌, List, [], ◌∷◌, refl, sym, ap, ap₂, ◌∙◌, arith}
use Rattle.std.proofs.lemmas.Bool.{eq-eqb, ne_eqb}
use Rattle.hhbc_repo.specs.declared.parts.ItemParts.{ItemParts}
use Rattle.hhbc_repo.specs.declared.parts.ItemParts.TheVariants as items
use Rattle.hhbc_repo.specs.Canonical.{how_many, firsts, mids, lasts}
use Rattle.hhbc_repo.specs.Fits.{Open, InTry, InCatch, nests}
use Rattle.hhbc_repo.specs.Resolved.{catch_from, end_from, regions_from}

-- ---- items of one kind at one place

abbrev pub is_try : ItemParts → Bool
is_try items.Try = true
is_try _ = false

abbrev pub is_catch : ItemParts → Bool
is_catch items.Catch = true
is_catch _ = false

abbrev pub is_end : ItemParts → Bool
is_end items.End = true
is_end _ = false

-- one more at a place, if it is of the kind and the place is this one
abbrev pub noted : Bool → ℕ → ℕ → ℕ → ℕ
noted true p n count = (if p == n then 1 else 0) + count
noted false p n count = count

-- how many of the kind stand at the place p, of items that begin at the place n
abbrev pub times : (ItemParts → Bool) → ℕ → ℕ → List ItemParts → ℕ
times kind p n [] = 0
times kind p n (items.Position q ∷ more) = times kind p (suc n) more
times kind p n (item ∷ more) = noted (kind item) p n (times kind p n more)

noted_none : (b : Bool) (p n count : ℕ) → p < n → count ≡ 0 → noted b p n count ≡ 0
noted_none true p n count l e = let other : (p == n) ≡ false = ne_eqb p n (λ w. absurd (omega (arith, l, w))) in rw (other, e) refl
noted_none false p n count l e = e

pub noted_later : (b : Bool) (p n count : ℕ) → suc n ≤ p → noted b p n count ≡ count
noted_later true p n count l = let other : (p == n) ≡ false = ne_eqb p n (λ w. absurd (omega (arith, l, w))) in rw other (omega arith)
noted_later false p n count l = refl

pub noted_here : (n count : ℕ) → noted true n n count ≡ suc count
noted_here n count = let same : (n == n) ≡ true = eq-eqb n n refl in rw same (omega arith)

-- none stands before the first place
pub times_past : (kind : ItemParts → Bool) (p n : ℕ) (is : List ItemParts) → p < n → times kind p n is ≡ 0
times_past kind p n [] l = refl
times_past kind p n (items.Label name ∷ more) l = noted_none (kind (items.Label name)) p n (times kind p n more) l (times_past kind p n more l)
times_past kind p n (items.Position q ∷ more) l = times_past kind p (suc n) more (omega (arith, l))
times_past kind p n (items.Try ∷ more) l = noted_none (kind items.Try) p n (times kind p n more) l (times_past kind p n more l)
times_past kind p n (items.Catch ∷ more) l = noted_none (kind items.Catch) p n (times kind p n more) l (times_past kind p n more l)
times_past kind p n (items.End ∷ more) l = noted_none (kind items.End) p n (times kind p n more) l (times_past kind p n more l)

-- a body that wants a code neither ends nor comes to its catch body before that
pub none_before_code : (n : ℕ) (is : List ItemParts) (os : List Open) → nests is os true ≡ true → (times is_end n n is ≡ 0) × (times is_catch n n is ≡ 0)
none_before_code n [] os h = (refl, refl)
none_before_code n (items.Label name ∷ more) os h = none_before_code n more os h
none_before_code n (items.Position q ∷ more) os h = (times_past is_end n (suc n) more (omega arith), times_past is_catch n (suc n) more (omega arith))
none_before_code n (items.Try ∷ more) os h = none_before_code n more (InTry ∷ os) h
none_before_code n (items.Catch ∷ more) [] h = absurd (cc)
none_before_code n (items.Catch ∷ more) (InTry ∷ os) h = absurd (cc)
none_before_code n (items.Catch ∷ more) (InCatch ∷ os) h = absurd (cc)
none_before_code n (items.End ∷ more) [] h = absurd (cc)
none_before_code n (items.End ∷ more) (InTry ∷ os) h = absurd (cc)
none_before_code n (items.End ∷ more) (InCatch ∷ os) h = absurd (cc)

-- ---- try bodies begin where the regions do

pub tries_counted : (p n : ℕ) (is : List ItemParts) → times is_try p n is ≡ how_many p (firsts (regions_from n is))
tries_counted p n [] = refl
tries_counted p n (items.Label name ∷ more) = tries_counted p n more
tries_counted p n (items.Position q ∷ more) = tries_counted p (suc n) more
tries_counted p n (items.Try ∷ more) = ap (λ (k : ℕ). (if p == n then 1 else 0) + k) (tries_counted p n more)
tries_counted p n (items.Catch ∷ more) = tries_counted p n more
tries_counted p n (items.End ∷ more) = tries_counted p n more

-- ---- catch bodies end and begin where the regions say, or where a body that was open before says

-- how many of the open bodies have p for their place; the place goes by how many are open within
abbrev pub open_ends : (ℕ → ℕ) → ℕ → ℕ → List Open → ℕ
open_ends place p k [] = 0
open_ends place p k (o ∷ os) = (if p == place k then 1 else 0) + open_ends place p (suc k) os

-- of those, the ones that are try bodies
abbrev pub open_catches : (ℕ → ℕ) → ℕ → ℕ → List Open → ℕ
open_catches place p k [] = 0
open_catches place p k (InTry ∷ os) = (if p == place k then 1 else 0) + open_catches place p (suc k) os
open_catches place p k (InCatch ∷ os) = open_catches place p (suc k) os

ends_shift : (f g : ℕ → ℕ) → ((k : ℕ) → f (suc k) ≡ g k) → (p k : ℕ) (os : List Open) → open_ends f p (suc k) os ≡ open_ends g p k os
ends_shift f g e p k [] = refl
ends_shift f g e p k (o ∷ os) = ap₂ (λ (m rest : ℕ). (if p == m then 1 else 0) + rest) (e k) (ends_shift f g e p (suc k) os)

catches_shift : (f g : ℕ → ℕ) → ((k : ℕ) → f (suc k) ≡ g k) → (p k : ℕ) (os : List Open) → open_catches f p (suc k) os ≡ open_catches g p k os
catches_shift f g e p k [] = refl
catches_shift f g e p k (InTry ∷ os) = ap₂ (λ (m rest : ℕ). (if p == m then 1 else 0) + rest) (e k) (catches_shift f g e p (suc k) os)
catches_shift f g e p k (InCatch ∷ os) = catches_shift f g e p (suc k) os

second_first : (a b c : ℕ) → a + (b + c) ≡ (b + a) + c
second_first a b c = omega arith

second_out : (a b c : ℕ) → a + (b + c) ≡ b + (a + c)
second_out a b c = omega arith

pub ends_counted : (p n : ℕ) (is : List ItemParts) (os : List Open) (wants : Bool) → nests is os wants ≡ true
    → times is_end p n is ≡ how_many p (lasts (regions_from n is)) + open_ends (λ k. end_from n k is) p 0 os
ends_counted p n [] [] wants h = refl
ends_counted p n [] (o ∷ os) wants h = absurd (cc)
ends_counted p n (items.Label name ∷ more) os wants h = ends_counted p n more os wants h
ends_counted p n (items.Position q ∷ more) os wants h = ends_counted p (suc n) more os false h
ends_counted p n (items.Try ∷ more) os wants h =
    let here : ℕ = if p == end_from n 0 more then 1 else 0 in
    let listed = how_many p (lasts (regions_from n more)) in
    let around = open_ends (λ k. end_from n k (items.Try ∷ more)) p 0 os in
    ends_counted p n more (InTry ∷ os) true h
    ∙ ap (λ (k : ℕ). listed + (here + k)) (ends_shift (λ k. end_from n k more) (λ k. end_from n k (items.Try ∷ more)) (λ k. refl) p 0 os)
    ∙ second_first listed here around
ends_counted p n (items.Catch ∷ more) [] wants h = absurd (cc)
ends_counted p n (items.Catch ∷ more) (InTry ∷ os) true h = absurd (cc)
ends_counted p n (items.Catch ∷ more) (InTry ∷ os) false h = ends_counted p n more (InCatch ∷ os) true h
ends_counted p n (items.Catch ∷ more) (InCatch ∷ os) wants h = absurd (cc)
ends_counted p n (items.End ∷ more) [] wants h = absurd (cc)
ends_counted p n (items.End ∷ more) (InTry ∷ os) wants h = absurd (cc)
ends_counted p n (items.End ∷ more) (InCatch ∷ os) true h = absurd (cc)
ends_counted p n (items.End ∷ more) (InCatch ∷ os) false h =
    let here : ℕ = if p == n then 1 else 0 in
    let listed = how_many p (lasts (regions_from n more)) in
    let around = open_ends (λ k. end_from n k (items.End ∷ more)) p 1 os in
    ap (λ (k : ℕ). here + k)
    (ends_counted p n more os false h
    ∙ ap (λ (k : ℕ). listed + k) (sym (ends_shift (λ k. end_from n k (items.End ∷ more)) (λ k. end_from n k more) (λ k. refl) p 0 os)))
    ∙ second_out here listed around

pub catches_counted : (p n : ℕ) (is : List ItemParts) (os : List Open) (wants : Bool) → nests is os wants ≡ true
    → times is_catch p n is ≡ how_many p (mids (regions_from n is)) + open_catches (λ k. catch_from n k is) p 0 os
catches_counted p n [] [] wants h = refl
catches_counted p n [] (o ∷ os) wants h = absurd (cc)
catches_counted p n (items.Label name ∷ more) os wants h = catches_counted p n more os wants h
catches_counted p n (items.Position q ∷ more) os wants h = catches_counted p (suc n) more os false h
catches_counted p n (items.Try ∷ more) os wants h =
    let here : ℕ = if p == catch_from n 0 more then 1 else 0 in
    let listed = how_many p (mids (regions_from n more)) in
    let around = open_catches (λ k. catch_from n k (items.Try ∷ more)) p 0 os in
    catches_counted p n more (InTry ∷ os) true h
    ∙ ap (λ (k : ℕ). listed + (here + k)) (catches_shift (λ k. catch_from n k more) (λ k. catch_from n k (items.Try ∷ more)) (λ k. refl) p 0 os)
    ∙ second_first listed here around
catches_counted p n (items.Catch ∷ more) [] wants h = absurd (cc)
catches_counted p n (items.Catch ∷ more) (InTry ∷ os) true h = absurd (cc)
catches_counted p n (items.Catch ∷ more) (InTry ∷ os) false h =
    let here : ℕ = if p == n then 1 else 0 in
    let listed = how_many p (mids (regions_from n more)) in
    let later = λ (k : ℕ). catch_from n (suc k) more in
    let around = open_catches (λ k. catch_from n k (items.Catch ∷ more)) p 1 os in
    ap (λ (k : ℕ). here + k)
    (catches_counted p n more (InCatch ∷ os) true h
    ∙ ap (λ (k : ℕ). listed + k)
    (catches_shift (λ k. catch_from n k more) later (λ k. refl) p 0 os
    ∙ sym (catches_shift (λ k. catch_from n k (items.Catch ∷ more)) later (λ k. refl) p 0 os)))
    ∙ second_out here listed around
catches_counted p n (items.Catch ∷ more) (InCatch ∷ os) wants h = absurd (cc)
catches_counted p n (items.End ∷ more) [] wants h = absurd (cc)
catches_counted p n (items.End ∷ more) (InTry ∷ os) wants h = absurd (cc)
catches_counted p n (items.End ∷ more) (InCatch ∷ os) true h = absurd (cc)
catches_counted p n (items.End ∷ more) (InCatch ∷ os) false h =
    catches_counted p n more os false h
    ∙ ap (λ (k : ℕ). how_many p (mids (regions_from n more)) + k)
    (sym (catches_shift (λ k. catch_from n k (items.End ∷ more)) (λ k. catch_from n k more) (λ k. refl) p 0 os))
