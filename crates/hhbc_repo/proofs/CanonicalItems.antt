-- Items that are put together from positions and regions: they fit where their positions and labels do, and the positions of items are
-- those that they link to.
use Rattle.std.proofs.Common.{◌≡◌, ◌≤◌, ℕ, zero, suc, ◌+◌, Bool, true, false, ◌&&◌, ◌||◌, nat_le, nat_eq, List, [], ◌∷◌, ◌++◌, map, flat_map, length, Option, Some, None, option_map, refl, ap, subst, arith, append_assoc, replicate}
use Rattle.std.specs.Prelude.{if◌then◌else◌}
use Rattle.std.specs.List.{list_all, list_any}
use Rattle.std.proofs.lemmas.Bool.{and_from, and_parts, or_right, eq-eqb, leb-true}
use Rattle.type_lattice.specs.TypeText.{named}
use Rattle.hhbc_repo.specs.declared.body.Body.{Body}
use Rattle.hhbc_repo.specs.declared.body.Position.{Position}
use Rattle.hhbc_repo.specs.declared.body.Region.{Region}
use Rattle.hhbc_repo.specs.declared.parts.BodyParts.{BodyParts}
use Rattle.hhbc_repo.specs.declared.parts.ItemParts.{ItemParts}
use Rattle.hhbc_repo.specs.declared.parts.ItemParts.TheVariants as items
use Rattle.hhbc_repo.specs.Canonical.{targets, is_named, named_before, label_at, label_called, label_name, label_item, how_many, firsts, mids, lasts, turns, before, canonical_position, items_from}
use Rattle.hhbc_repo.specs.Fits.{is_label, item_fits, position_fits}
use Rattle.hhbc_repo.specs.LinkFaults.{Name, Whole, place_in, position_in}
use Rattle.hhbc_repo.specs.Resolved.{label_here, label_from, resolved_item, resolved_position}
use Rattle.hhbc_repo.proofs.SpelledTypes.{all_both}

-- ---- positions

pub positions_fit : (is : List ItemParts) → list_all item_fits is ≡ true → list_all position_fits (flat_map position_in is) ≡ true
positions_fit [] h = refl
positions_fit (items.Label name ∷ is) h = positions_fit is (and_parts (is_label name) (list_all item_fits is) h).1
positions_fit (items.Position q ∷ is) h =
    let p = and_parts (position_fits q) (list_all item_fits is) h in
    and_from (position_fits q) (list_all position_fits (flat_map position_in is)) p.0 (positions_fit is p.1)
positions_fit (items.Try ∷ is) h = positions_fit is h
positions_fit (items.Catch ∷ is) h = positions_fit is h
positions_fit (items.End ∷ is) h = positions_fit is h

pub linked_positions : (w : Whole) (b : BodyParts) (is : List ItemParts) → flat_map (resolved_item w b) is ≡ map (resolved_position w b) (flat_map position_in is)
linked_positions w b [] = refl
linked_positions w b (items.Label name ∷ is) = linked_positions w b is
linked_positions w b (items.Position q ∷ is) = ap (λ (l : List Position). resolved_position w b q ∷ l) (linked_positions w b is)
linked_positions w b (items.Try ∷ is) = linked_positions w b is
linked_positions w b (items.Catch ∷ is) = linked_positions w b is
linked_positions w b (items.End ∷ is) = linked_positions w b is

-- a label stands before a position or behind the last
here_among : (n m later : ℕ) (o : Option ℕ) → n ≤ m → later ≤ m → label_here n o later ≤ m
here_among n m later None h k = k
here_among n m later (Some i) h k = h

pub label_among : (n : ℕ) (is : List ItemParts) (name : Name) → label_from n is name ≤ n + length (flat_map position_in is)
label_among n [] name = omega arith
label_among n (items.Label other ∷ is) name = here_among n (n + length (flat_map position_in is)) (label_from n is name) (place_in (other ∷ []) name) (omega arith) (label_among n is name)
label_among n (items.Position p ∷ is) name = let h = label_among (suc n) is name in omega (arith, h)
label_among n (items.Try ∷ is) name = label_among n is name
label_among n (items.Catch ∷ is) name = label_among n is name
label_among n (items.End ∷ is) name = label_among n is name

-- ---- labels

abbrev pub well_labelled : ItemParts → Bool
well_labelled (items.Label w) = is_label w
well_labelled _ = true

pub items_fit : (is : List ItemParts) → list_all position_fits (flat_map position_in is) ≡ true → list_all well_labelled is ≡ true → list_all item_fits is ≡ true
items_fit [] h k = refl
items_fit (items.Label name ∷ is) h k =
    let p = and_parts (is_label name) (list_all well_labelled is) k in
    and_from (is_label name) (list_all item_fits is) p.0 (items_fit is h p.1)
items_fit (items.Position q ∷ is) h k =
    let p = and_parts (position_fits q) (list_all position_fits (flat_map position_in is)) h in
    and_from (position_fits q) (list_all item_fits is) p.0 (items_fit is p.1 k)
items_fit (items.Try ∷ is) h k = items_fit is h k
items_fit (items.Catch ∷ is) h k = items_fit is h k
items_fit (items.End ∷ is) h k = items_fit is h k

copies_labelled : (item : ItemParts) → well_labelled item ≡ true → (n : ℕ) → list_all well_labelled (replicate n item) ≡ true
copies_labelled item h zero = refl
copies_labelled item h (suc n) = and_from (well_labelled item) (list_all well_labelled (replicate n item)) h (copies_labelled item h n)

turns_labelled : (rs : List Region) (p : ℕ) → list_all well_labelled (turns rs p) ≡ true
turns_labelled rs p =
    let ends = replicate (how_many p (lasts rs)) items.End in
    let catches = replicate (how_many p (mids rs)) items.Catch in
    let tries = replicate (how_many p (firsts rs)) items.Try in
    all_both well_labelled ends (catches ++ tries) (copies_labelled items.End refl (how_many p (lasts rs)))
    (all_both well_labelled catches tries (copies_labelled items.Catch refl (how_many p (mids rs))) (copies_labelled items.Try refl (how_many p (firsts rs))))

module _ (all : List Name) (c : Body) (fits : (p : ℕ) → p ≤ length c.positions → is_named c.positions p ≡ true → is_label (label_name c.positions p) ≡ true) where
  label_labelled : (p : ℕ) → list_all well_labelled (label_item (label_at c.positions p)) ≡ true
  label_labelled p = go (nat_le p (length c.positions) && is_named c.positions p) refl
    where
      go : (t : Bool) → nat_le p (length c.positions) && is_named c.positions p ≡ t → list_all well_labelled (label_item (if t then Some (named_before c.positions p) else None)) ≡ true
      go false e = refl
      go true e =
          let n = named_before c.positions p in
          let s = and_parts (nat_le p (length c.positions)) (is_named c.positions p) e in
          let called : label_name c.positions p ≡ label_called n = ap (λ (t : Bool). named (option_map label_called (if t then Some n else None))) e in
          and_from (is_label (label_called n)) true (subst (λ (name : Name). is_label name ≡ true) called (fits p (leb-true p (length c.positions) s.0) s.1)) refl

  before_labelled : (p : ℕ) → list_all well_labelled (before c p) ≡ true
  before_labelled p = all_both well_labelled (turns c.regions p) (label_item (label_at c.positions p)) (turns_labelled c.regions p) (label_labelled p)

  pub items_labelled : (p : ℕ) (qs : List Position) → list_all well_labelled (items_from all c p qs) ≡ true
  items_labelled p [] = before_labelled p
  items_labelled p (q ∷ qs) =
      all_both well_labelled (before c p) (items.Position (canonical_position all c q) ∷ items_from all c (suc p) qs) (before_labelled p) (items_labelled (suc p) qs)

-- ---- targets

met : (front : List ℕ) (p : ℕ) (ps : List ℕ) → list_any (nat_eq p) (front ++ p ∷ ps) ≡ true
met [] p ps = ap (λ (t : Bool). t || list_any (nat_eq p) ps) (eq-eqb p p refl)
met (x ∷ front) p ps = or_right (nat_eq p x) (list_any (nat_eq p) (front ++ p ∷ ps)) (met front p ps)

all_met : (front ps : List ℕ) → list_all (λ p. list_any (nat_eq p) (front ++ ps)) ps ≡ true
all_met front [] = refl
all_met front (p ∷ ps) =
    and_from (list_any (nat_eq p) (front ++ p ∷ ps)) (list_all (λ q. list_any (nat_eq q) (front ++ p ∷ ps)) ps) (met front p ps)
    (subst (λ (l : List ℕ). list_all (λ q. list_any (nat_eq q) l) ps ≡ true) (append_assoc front (p ∷ []) ps) (all_met (front ++ p ∷ []) ps))

-- the positions that codes name are named
pub targets_named : (qs : List Position) → list_all (is_named qs) (targets qs) ≡ true
targets_named qs = all_met [] (targets qs)
