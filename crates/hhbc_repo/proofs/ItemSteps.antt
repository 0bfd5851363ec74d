-- Items without their labels, with one position in place of each: whether items nest, their regions and their nesting
-- depend on these steps alone.
use Rattle.std.proofs.Common.{◌≡◌, ℕ, zero, suc, max, Bool, true, false, List, [], ◌∷◌, ◌++◌, refl, ap, ap₂}
use Rattle.hhbc_repo.specs.declared.body.Region.{Region}
use Rattle.hhbc_repo.specs.declared.parts.ItemParts.{ItemParts}
use Rattle.hhbc_repo.specs.declared.parts.ItemParts.TheVariants as items
use Rattle.hhbc_repo.specs.declared.parts.PositionParts.{PositionParts}
use Rattle.hhbc_repo.specs.Fits.{Open, InTry, InCatch, nests}
use Rattle.hhbc_repo.specs.LinkFaults.{nesting_from}
use Rattle.hhbc_repo.specs.Resolved.{catch_from, end_from, regions_from}

abbrev pub steps : PositionParts → List ItemParts → List ItemParts
steps q [] = []
steps q (items.Label name ∷ more) = steps q more
steps q (items.Position p ∷ more) = items.Position q ∷ steps q more
steps q (items.Try ∷ more) = items.Try ∷ steps q more
steps q (items.Catch ∷ more) = items.Catch ∷ steps q more
steps q (items.End ∷ more) = items.End ∷ steps q more

pub steps_both : (q : PositionParts) (xs ys : List ItemParts) → steps q (xs ++ ys) ≡ steps q xs ++ steps q ys
steps_both q [] ys = refl
steps_both q (items.Label name ∷ more) ys = steps_both q more ys
steps_both q (items.Position p ∷ more) ys = ap (λ l. items.Position q ∷ l) (steps_both q more ys)
steps_both q (items.Try ∷ more) ys = ap (λ l. items.Try ∷ l) (steps_both q more ys)
steps_both q (items.Catch ∷ more) ys = ap (λ l. items.Catch ∷ l) (steps_both q more ys)
steps_both q (items.End ∷ more) ys = ap (λ l. items.End ∷ l) (steps_both q more ys)

-- ---- what depends on the steps alone

pub nests_steps : (q : PositionParts) (is : List ItemParts) (os : List Open) (wants : Bool) → nests (steps q is) os wants ≡ nests is os wants
nests_steps q [] os wants = refl
nests_steps q (items.Label name ∷ more) os wants = nests_steps q more os wants
nests_steps q (items.Position p ∷ more) os wants = nests_steps q more os false
nests_steps q (items.Try ∷ more) os wants = nests_steps q more (InTry ∷ os) true
nests_steps q (items.Catch ∷ more) [] wants = refl
nests_steps q (items.Catch ∷ more) (InTry ∷ os) true = refl
nests_steps q (items.Catch ∷ more) (InTry ∷ os) false = nests_steps q more (InCatch ∷ os) true
nests_steps q (items.Catch ∷ more) (InCatch ∷ os) wants = refl
nests_steps q (items.End ∷ more) [] wants = refl
nests_steps q (items.End ∷ more) (InTry ∷ os) wants = refl
nests_steps q (items.End ∷ more) (InCatch ∷ os) true = refl
nests_steps q (items.End ∷ more) (InCatch ∷ os) false = nests_steps q more os false

catch_steps : (q : PositionParts) (n opened : ℕ) (is : List ItemParts) → catch_from n opened (steps q is) ≡ catch_from n opened is
catch_steps q n opened [] = refl
catch_steps q n opened (items.Label name ∷ more) = catch_steps q n opened more
catch_steps q n opened (items.Position p ∷ more) = catch_steps q (suc n) opened more
catch_steps q n opened (items.Try ∷ more) = catch_steps q n (suc opened) more
catch_steps q n zero (items.Catch ∷ more) = refl
catch_steps q n (suc opened) (items.Catch ∷ more) = catch_steps q n (suc opened) more
catch_steps q n zero (items.End ∷ more) = refl
catch_steps q n (suc opened) (items.End ∷ more) = catch_steps q n opened more

end_steps : (q : PositionParts) (n opened : ℕ) (is : List ItemParts) → end_from n opened (steps q is) ≡ end_from n opened is
end_steps q n opened [] = refl
end_steps q n opened (items.Label name ∷ more) = end_steps q n opened more
end_steps q n opened (items.Position p ∷ more) = end_steps q (suc n) opened more
end_steps q n opened (items.Try ∷ more) = end_steps q n (suc opened) more
end_steps q n opened (items.Catch ∷ more) = end_steps q n opened more
end_steps q n zero (items.End ∷ more) = refl
end_steps q n (suc opened) (items.End ∷ more) = end_steps q n opened more

abbrev region : ℕ → ℕ → ℕ → Region
region first mid last = record { first = first; mid = mid; last = last }

pub regions_steps : (q : PositionParts) (n : ℕ) (is : List ItemParts) → regions_from n (steps q is) ≡ regions_from n is
regions_steps q n [] = refl
regions_steps q n (items.Label name ∷ more) = regions_steps q n more
regions_steps q n (items.Position p ∷ more) = regions_steps q (suc n) more
regions_steps q n (items.Try ∷ more) =
    ap₂ (λ (r : Region) (rs : List Region). r ∷ rs)
    (ap₂ (λ (mid last : ℕ). region n mid last) (catch_steps q n 0 more) (end_steps q n 0 more))
    (regions_steps q n more)
regions_steps q n (items.Catch ∷ more) = regions_steps q n more
regions_steps q n (items.End ∷ more) = regions_steps q n more

pub nesting_steps : (q : PositionParts) (opened : ℕ) (is : List ItemParts) → nesting_from opened (steps q is) ≡ nesting_from opened is
nesting_steps q opened [] = refl
nesting_steps q opened (items.Label name ∷ more) = nesting_steps q opened more
nesting_steps q opened (items.Position p ∷ more) = nesting_steps q opened more
nesting_steps q opened (items.Try ∷ more) = ap (max opened) (nesting_steps q (suc opened) more)
nesting_steps q opened (items.Catch ∷ more) = nesting_steps q opened more
nesting_steps q zero (items.End ∷ more) = nesting_steps q zero more
nesting_steps q (suc opened) (items.End ∷ more) = ap (max (suc opened)) (nesting_steps q opened more)
