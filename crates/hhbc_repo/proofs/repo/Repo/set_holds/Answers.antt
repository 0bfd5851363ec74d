use Rattle.std.proofs.Common.{◌≡◌, ◌≤◌, ◌<◌, ◌-◌, ℕ, List, Some, true, length, slice_get, get_or, ap, ap₂, sym, subst, ◌∙◌, arith}
use Rattle.std.proofs.lemmas.Option.{slice_get-get_or}
use Rattle.type_lattice.specs.InRange.{where_there, is_proper}
use Rattle.hhbc_repo.specs.declared.body.Body.{Body}
use Rattle.hhbc_repo.specs.declared.repo.Class.{Class}
use Rattle.hhbc_repo.specs.Claims.{changed, changed_property, holding, with_holds}
use Rattle.hhbc_repo.specs.Bodies.{class_names}
use Rattle.hhbc_repo.specs.Kept.{Kept}
use Rattle.hhbc_repo.specs.Linked.{Linked}
use Rattle.hhbc_repo.specs.LinkFaults.{first_class}
use Rattle.hhbc_repo.specs.LookUps.{all_properties, property_owners, total}
use Rattle.hhbc_repo.specs.MemberNames.{MemberNames}
use Rattle.hhbc_repo.specs.Members.{starts}
use Rattle.hhbc_repo.proofs.ChangedParts.{HeldIn, held_at, held_in}
use Rattle.hhbc_repo.proofs.ClaimsSet.{held_kept}
use Rattle.hhbc_repo.proofs.Placed.{owner_inside, owners_count}
use Rattle.hhbc_repo.proofs.repo.Repo.set_holds.Goals as goal

abbrev repo : List Body → List Class → Linked
repo fs cs = record { functions = fs; classes = cs }

-- the property has a class
inside : (owners : List ℕ) (r s : Linked) (n : ℕ) → owners ≡ property_owners r → r ≡ s → n < total (all_properties s) → n < length owners
inside owners r s n e v h =
    let l = ap (λ (xs : List ℕ). length xs) e in
    let k = owners_count 0 (all_properties r) in
    let t = ap (λ (x : Linked). total (all_properties x)) v in
    omega (arith, l, k, t, h)

owned : (owners : List ℕ) (r s : Linked) (n : ℕ) → owners ≡ property_owners r → r ≡ s → n < total (all_properties s) → slice_get (property_owners r) n ≡ Some (get_or owners n 0)
owned owners r s n e v h = ap (λ (xs : List ℕ). slice_get xs n) (sym e) ∙ slice_get-get_or owners n 0 (inside owners r s n e v h)

pub bounds-as_slice-property : goal.bounds-as_slice-property
bounds-as_slice-property c =
    inside c.as_slice.result.now (repo c.self.inside.functions c.self.inside.classes) c.args.self.now c.args.property (c.as_slice.ensures ∙ c.self.invariant.owners_are) c.self.view_is c.requires.within

pub first_of-requires : goal.first_of-requires
first_of-requires c =
    let r = repo c.self.inside.functions c.self.inside.classes in
    let there = owned c.as_slice.result.now r c.args.self.now c.args.property (c.as_slice.ensures ∙ c.self.invariant.owners_are) c.self.view_is c.requires.within in
    let below = (owner_inside 0 (all_properties r) c.args.property (get_or c.as_slice.result.now c.args.property 0) there).1 in
    let l = ap (λ (m : MemberNames). length m.names) c.self.invariant.properties_are in
    omega (arith, below, l)

pub overflow_sub-place : goal.overflow_sub-place
overflow_sub-place c =
    let r = repo c.self.inside.functions c.self.inside.classes in
    let k = get_or c.as_slice.result.now c.args.property 0 in
    let there = owned c.as_slice.result.now r c.args.self.now c.args.property (c.as_slice.ensures ∙ c.self.invariant.owners_are) c.self.view_is c.requires.within in
    let held = held_in (holding c.args.stated) r c.args.property k c.requires.declared there in
    let at : slice_get (starts 0 (all_properties r)) k ≡ Some c.first_of.result = ap (λ (m : MemberNames). slice_get (starts m.first m.names) k) (sym c.self.invariant.properties_are) ∙ c.first_of.ensures in
    let both : Some held.first ≡ Some c.first_of.result = sym held.starts_at ∙ at in
    let same : held.first ≡ c.first_of.result = cc in
    subst (λ (n : ℕ). n ≤ c.args.property) same held.inside

pub overflow_sub-class : goal.overflow_sub-class
overflow_sub-class c =
    let r = repo c.self.inside.functions c.self.inside.classes in
    let k = get_or c.as_slice.result.now c.args.property 0 in
    let there = owned c.as_slice.result.now r c.args.self.now c.args.property (c.as_slice.ensures ∙ c.self.invariant.owners_are) c.self.view_is c.requires.within in
    (held_in (holding c.args.stated) r c.args.property k c.requires.declared there).declared

changes : (c : goal.After-hold_property) → repo c.self.inside.functions c.hold_property.new.classes ≡ with_holds c.args.property c.args.stated (repo c.self.inside.functions c.self.inside.classes)
changes c =
    let r = repo c.self.inside.functions c.self.inside.classes in
    let k = get_or c.as_slice.result.now c.args.property 0 in
    let there = owned c.as_slice.result.now r c.args.self.now c.args.property (c.as_slice.ensures ∙ c.self.invariant.owners_are) c.self.view_is c.requires.within in
    let held = held_in (holding c.args.stated) r c.args.property k c.requires.declared there in
    let at : slice_get (starts 0 (all_properties r)) k ≡ Some c.first_of.result = ap (λ (m : MemberNames). slice_get (starts m.first m.names) k) (sym c.self.invariant.properties_are) ∙ c.first_of.ensures in
    let both : Some held.first ≡ Some c.first_of.result = sym held.starts_at ∙ at in
    let same : held.first ≡ c.first_of.result = cc in
    ap (repo c.self.inside.functions)
    (c.hold_property.ensures ∙ ap (λ (n : ℕ). changed (held_at (holding c.args.stated) (c.args.property - n)) (k - first_class) r.classes) (sym same) ∙ sym held.changes)

pub invariant_of-self : goal.invariant_of-self
invariant_of-self c =
    let i = c.self.inside in
    let r = repo i.functions i.classes in
    let proper = subst (λ (l : Linked). where_there (is_proper (length (class_names l))) c.args.stated ≡ true) (sym c.self.view_is) c.requires.proper in
    subst (λ (l : Linked). Kept l i.function_table i.class_table i.class_list i.methods i.properties i.tree i.homes i.owners i.named_methods i.named_properties) (sym (changes c))
    (held_kept i.function_table i.class_table i.class_list i.methods i.properties i.tree i.homes i.owners i.named_methods i.named_properties c.args.property c.args.stated r proper c.self.invariant)

pub returns : goal.returns
returns c = changes c ∙ ap (with_holds c.args.property c.args.stated) c.self.view_is
