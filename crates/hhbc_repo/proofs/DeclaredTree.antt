-- The parents that classes declare make a forest where no check fails.
use Rattle.std.proofs.Common.{◌≡◌, ◌≤◌, ◌<◌, ◌-◌, ℕ, zero, suc, ◌+◌, false, [], Option, Some, None, option_map, slice_get, length, map, refl, sym, ap, ◌∙◌, subst, arith, inl, inr, ◌⊎◌}
use Rattle.std.proofs.lemmas.Bool.{cases_lt}
use Rattle.std.proofs.lemmas.List.{length-map}
use Rattle.std.proofs.lemmas.Option.{slice_get-map}
use Rattle.type_lattice.specs.Classes.{Forest, HasCycle, HasStray, flat, parent_of, chain, has, climb, climb_on}
use Rattle.hhbc_repo.specs.declared.parts.ClassParts.{ClassParts}
use Rattle.hhbc_repo.specs.LinkFaults.{Name, Whole, class_names, parent_in, parents, above, ancestors, each_class, class_checks, first_class}
use Rattle.hhbc_repo.proofs.ChainLaws.{climb_in_chain}
use Rattle.hhbc_repo.proofs.Inherited.{behind, built_in_parent}
use Rattle.hhbc_repo.proofs.NoFaults.{class_at_place, class_passes}
use Rattle.hhbc_repo.proofs.NumbersPut.{place_inside}

pub class_names_length : (w : Whole) → length (class_names w) ≡ 6 + length w.classes
class_names_length w = let k = length-map w.classes (λ (c : ClassParts). c.name) in omega (arith, k)

pub parents_length : (w : Whole) → length (parents w) ≡ 6 + length w.classes
parents_length w = let k = length-map w.classes (λ (c : ClassParts). parent_in w c.parent) in omega (arith, k)

-- a class that isn't built in and has a parent is declared, and its parent is named
record Declared (w : Whole) (c p : ℕ) : Type 0 where
  parts : ClassParts
  there : slice_get w.classes (c - 6) ≡ Some parts
  parent : parent_in w parts.parent ≡ Some p

declared : (w : Whole) (c p : ℕ) → 6 ≤ c → parent_of (parents w) c ≡ Some p → Declared w c p
declared w c p low e = go (slice_get w.classes (c - 6)) refl
  where
    up : flat (option_map (λ (c : ClassParts). parent_in w c.parent) (slice_get w.classes (c - 6))) ≡ Some p
    up =
        ap flat (sym (slice_get-map (λ (c : ClassParts). parent_in w c.parent) w.classes (c - 6)))
        ∙ sym (behind (map (λ (c : ClassParts). parent_in w c.parent) w.classes) c low)
        ∙ e

    go : (o : Option ClassParts) → slice_get w.classes (c - 6) ≡ o → Declared w c p
    go None s = let k : flat (option_map (λ (c : ClassParts). parent_in w c.parent) None) ≡ Some p = rw s at up in absurd (cc)
    go (Some d) s = let k : flat (option_map (λ (c : ClassParts). parent_in w c.parent) (Some d)) ≡ Some p = rw s at up in record { parts = d; there = s; parent = k }

named_inside : (w : Whole) (name : Option Name) (p : ℕ) → parent_in w name ≡ Some p → p < length (parents w)
named_inside w None p e = absurd (cc)
named_inside w (Some name) p e =
    let k = place_inside (class_names w) name p e in
    let m = class_names_length w in
    let l = parents_length w in
    omega (arith, k, m, l)

pub parents_inside : (w : Whole) (c p : ℕ) → parent_of (parents w) c ≡ Some p → p < length (parents w)
parents_inside w zero p e = absurd (cc)
parents_inside w (suc c) p e = go (cases_lt (suc c) 6)
  where
    go : (suc c < 6) ⊎ (6 ≤ suc c) → p < length (parents w)
    go (inl h) =
        let k = built_in_parent (map (λ (c : ClassParts). parent_in w c.parent) w.classes) (suc c) (omega arith) (omega arith) in
        let z : p ≡ 0 = cc in
        let l = parents_length w in
        omega (arith, z, l)
    go (inr h) = let d = declared w (suc c) p h e in named_inside w d.parts.parent p d.parent

-- no way up leads from the first class to another
climb_root : (w : Whole) (n c : ℕ) → climb n (parents w) 0 ≡ Some c → c ≡ 0
climb_root w zero c e = cc
climb_root w (suc n) c e = absurd (cc)

declared_apart : (w : Whole) (c p : ℕ) → each_class (class_checks w) first_class w.classes ≡ [] → 6 ≤ c → parent_of (parents w) c ≡ Some p → has c (chain (parents w) p) ≡ false
declared_apart w c p h low e =
    let d = declared w c p low e in
    let n : first_class + (c - 6) ≡ c = omega arith in
    let now = class_at_place (class_checks w) first_class w.classes (c - 6) d.parts h d.there in
    let up : has c (ancestors w c) ≡ false = subst (λ (m : ℕ). has m (ancestors w m) ≡ false) n (class_passes w (first_class + (c - 6)) d.parts now).acyclic in
    subst (λ (o : Option ℕ). has c (above (parents w) o) ≡ false) e up

no_way_back : (w : Whole) (c p n : ℕ) → each_class (class_checks w) first_class w.classes ≡ [] → parent_of (parents w) c ≡ Some p → climb n (parents w) p ≡ Some c → ⊥
no_way_back w zero p n h e k = absurd (cc)
no_way_back w (suc c) p n h e k = go (cases_lt (suc c) 6)
  where
    go : (suc c < 6) ⊎ (6 ≤ suc c) → ⊥
    go (inl l) =
        let m = built_in_parent (map (λ (c : ClassParts). parent_in w c.parent) w.classes) (suc c) (omega arith) (omega arith) in
        let z : p ≡ 0 = cc in
        let back : suc c ≡ 0 = climb_root w n (suc c) (subst (λ (q : ℕ). climb n (parents w) q ≡ Some (suc c)) z k) in
        absurd (omega (arith, back))
    go (inr l) =
        let out = declared_apart w (suc c) p h l e in
        let met = climb_in_chain (parents w) (parents_inside w) n p (suc c) (parents_inside w (suc c) p e) k in
        absurd (cc)

no_cycle : (w : Whole) → each_class (class_checks w) first_class w.classes ≡ [] → HasCycle (parents w) → ⊥
no_cycle w h (c, n, e) = go (parent_of (parents w) c) refl
  where
    go : (o : Option ℕ) → parent_of (parents w) c ≡ o → ⊥
    go None s = let k : climb_on (climb n (parents w)) None ≡ Some c = rw s at e in absurd (cc)
    go (Some p) s = no_way_back w c p n h s (rw s at e)

no_stray : (w : Whole) → HasStray (parents w) → ⊥
no_stray w (c, p, e, l) = let k = parents_inside w c p e in absurd (omega (arith, k, l))

pub parents_forest : (w : Whole) → each_class (class_checks w) first_class w.classes ≡ [] → Forest (parents w)
parents_forest w h = record { within = no_stray w; acyclic = no_cycle w h }
