-- Items that nest come back from their regions: the canonical items of the body that they link to nest too, and have
-- the same regions and the same nesting.
use Rattle.std.proofs.Common.{◌≡◌, ℕ, zero, suc, true, false, List, [], ◌∷◌, ◌++◌, length, Option, Some, None, refl, sym, ap, ap₂, ◌∙◌, append-nil, replicate}
use Rattle.std.specs.List.{flat_map}
use Rattle.hhbc_ops.specs.declared.op.Op.TheVariants as ops
use Rattle.hhbc_repo.specs.declared.body.Body.{Body}
use Rattle.hhbc_repo.specs.declared.body.Position.{Position}
use Rattle.hhbc_repo.specs.declared.body.Region.{Region}
use Rattle.hhbc_repo.specs.declared.parts.BodyParts.{BodyParts}
use Rattle.hhbc_repo.specs.declared.parts.CodeParts.TheVariants as forms
use Rattle.hhbc_repo.specs.declared.parts.ItemParts.{ItemParts}
use Rattle.hhbc_repo.specs.declared.parts.ItemParts.TheVariants as items
use Rattle.hhbc_repo.specs.declared.parts.PositionParts.{PositionParts}
use Rattle.hhbc_repo.specs.Canonical.{how_many, firsts, mids, lasts, turns, label_at, label_item, before, items_from, canonical_position}
use Rattle.hhbc_repo.specs.Fits.{nests}
use Rattle.hhbc_repo.specs.LinkFaults.{Name, Whole, nesting_from}
use Rattle.hhbc_repo.specs.Resolved.{regions_from, resolved_item, resolved_body}
use Rattle.hhbc_repo.proofs.ItemSteps.{steps, steps_both, nests_steps, regions_steps, nesting_steps}
use Rattle.hhbc_repo.proofs.ItemsLaid.{laid, laid_same, positions_in, turns_in, steps_laid, turns_of_regions}

-- ---- the steps of canonical items

steps_copies : (q : PositionParts) (item : ItemParts) (n : ℕ) → ((more : List ItemParts) → steps q (item ∷ more) ≡ item ∷ steps q more) → steps q (replicate n item) ≡ replicate n item
steps_copies q item zero one = refl
steps_copies q item (suc n) one = one (replicate n item) ∙ ap (λ (l : List ItemParts). item ∷ l) (steps_copies q item n one)

steps_turns : (q : PositionParts) (rs : List Region) (p : ℕ) → steps q (turns rs p) ≡ turns rs p
steps_turns q rs p =
    let ends = replicate (how_many p (lasts rs)) items.End in
    let catches = replicate (how_many p (mids rs)) items.Catch in
    let tries = replicate (how_many p (firsts rs)) items.Try in
    steps_both q ends (catches ++ tries)
    ∙ ap₂ (λ (xs ys : List ItemParts). xs ++ ys) (steps_copies q items.End (how_many p (lasts rs)) (λ more. refl))
    (steps_both q catches tries
    ∙ ap₂ (λ (xs ys : List ItemParts). xs ++ ys) (steps_copies q items.Catch (how_many p (mids rs)) (λ more. refl)) (steps_copies q items.Try (how_many p (firsts rs)) (λ more. refl)))

steps_label : (q : PositionParts) (o : Option ℕ) → steps q (label_item o) ≡ []
steps_label q None = refl
steps_label q (Some n) = refl

steps_before : (q : PositionParts) (c : Body) (p : ℕ) → steps q (before c p) ≡ turns c.regions p
steps_before q c p =
    steps_both q (turns c.regions p) (label_item (label_at c.positions p))
    ∙ ap₂ (λ (xs ys : List ItemParts). xs ++ ys) (steps_turns q c.regions p) (steps_label q (label_at c.positions p))
    ∙ append-nil (turns c.regions p)

pub steps_canonical : (q : PositionParts) (names : List Name) (c : Body) (p : ℕ) (ps : List Position)
    → steps q (items_from names c p ps) ≡ laid q (turns c.regions) p (length ps)
steps_canonical q names c p [] = steps_before q c p
steps_canonical q names c p (x ∷ ps) =
    steps_both q (before c p) (items.Position (canonical_position names c x) ∷ items_from names c (suc p) ps)
    ∙ ap₂ (λ (xs ys : List ItemParts). xs ++ (items.Position q ∷ ys)) (steps_before q c p) (steps_canonical q names c (suc p) ps)

-- ---- the steps come back

positions_resolved : (w : Whole) (b : BodyParts) (is : List ItemParts) → length (flat_map (resolved_item w b) is) ≡ positions_in is
positions_resolved w b [] = refl
positions_resolved w b (items.Label name ∷ more) = positions_resolved w b more
positions_resolved w b (items.Position p ∷ more) = ap (λ (n : ℕ). suc n) (positions_resolved w b more)
positions_resolved w b (items.Try ∷ more) = positions_resolved w b more
positions_resolved w b (items.Catch ∷ more) = positions_resolved w b more
positions_resolved w b (items.End ∷ more) = positions_resolved w b more

abbrev items_again : List Name → Whole → BodyParts → List ItemParts
items_again names w b = items_from names (resolved_body w b) 0 (resolved_body w b).positions

pub steps_back : (q : PositionParts) (names : List Name) (w : Whole) (b : BodyParts) → nests b.items [] false ≡ true → steps q (items_again names w b) ≡ steps q b.items
steps_back q names w b h =
    steps_canonical q names (resolved_body w b) 0 (resolved_body w b).positions
    ∙ ap (laid q (turns (regions_from 0 b.items)) 0) (positions_resolved w b b.items)
    ∙ laid_same q (turns (regions_from 0 b.items)) (turns_in 0 b.items) 0 (positions_in b.items) (λ p l. turns_of_regions p b.items h)
    ∙ sym (steps_laid q 0 b.items [] false h)

abbrev some_position : PositionParts
some_position = record { asserts = []; code = forms.Plain (record { op = ops.Null; imms = [] }) }

pub nests_back : (names : List Name) (w : Whole) (b : BodyParts) → nests b.items [] false ≡ true → nests (items_from names (resolved_body w b) 0 (resolved_body w b).positions) [] false ≡ true
nests_back names w b h =
    sym (nests_steps some_position (items_again names w b) [] false)
    ∙ ap (λ (l : List ItemParts). nests l [] false) (steps_back some_position names w b h)
    ∙ nests_steps some_position b.items [] false
    ∙ h

pub regions_back : (names : List Name) (w : Whole) (b : BodyParts) → nests b.items [] false ≡ true
    → regions_from 0 (items_from names (resolved_body w b) 0 (resolved_body w b).positions) ≡ regions_from 0 b.items
regions_back names w b h =
    sym (regions_steps some_position 0 (items_again names w b))
    ∙ ap (regions_from 0) (steps_back some_position names w b h)
    ∙ regions_steps some_position 0 b.items

pub nesting_back : (names : List Name) (w : Whole) (b : BodyParts) → nests b.items [] false ≡ true
    → nesting_from 0 (items_from names (resolved_body w b) 0 (resolved_body w b).positions) ≡ nesting_from 0 b.items
nesting_back names w b h =
    sym (nesting_steps some_position 0 (items_again names w b))
    ∙ ap (nesting_from 0) (steps_back some_position names w b h)
    ∙ nesting_steps some_position 0 b.items
