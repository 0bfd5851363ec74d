-- A repository keeps what it keeps where one claim is replaced by another that keeps to its ranges.
use Rattle.std.proofs.Common.{◌≡◌, ◌≤◌, ◌<◌, ◌-◌, ◌^◌, ◌⊎◌, inl, inr, ℕ, zero, suc, Bool, true, ◌&&◌, Option, Some, None, List, [], ◌∷◌, length, slice_get, refl, sym, ap, ap₂, ◌∙◌, subst}
use Rattle.std.specs.Prelude.{nat_lt}
use Rattle.std.specs.List.{list_all}
use Rattle.std.proofs.lemmas.Bool.{and_from, and_parts, lt-ltb}
use Rattle.std.proofs.lemmas.List.Folds.{list_all-append}
use Rattle.type_lattice.specs.Classes.{Tree}
use Rattle.type_lattice.specs.declared.types.HType.{HType}
use Rattle.type_lattice.specs.InRange.{where_there, is_proper}
use Rattle.hhbc_repo.specs.declared.body.Assert.{Assert}
use Rattle.hhbc_repo.specs.declared.body.Body.{Body}
use Rattle.hhbc_repo.specs.declared.body.Position.{Position}
use Rattle.hhbc_repo.specs.declared.claims.Claim.{Claim}
use Rattle.hhbc_repo.specs.declared.claims.Claim.TheVariants as new
use Rattle.hhbc_repo.specs.declared.homes.Home.{Home}
use Rattle.hhbc_repo.specs.declared.repo.Class.{Class}
use Rattle.hhbc_repo.specs.declared.repo.Property.{Property}
use Rattle.hhbc_repo.specs.Bare.{bare, bare_body, bare_class}
use Rattle.hhbc_repo.specs.Bearers.{Bearers}
use Rattle.hhbc_repo.specs.Bodies.{bodies, body_at, class_names}
use Rattle.hhbc_repo.specs.ChangedClaims.{claimed}
use Rattle.hhbc_repo.specs.Claims.{body_claims_within, changed, changed_body, changed_property, claiming, class_claims_within, claims_within, holding, position_claims_within, property_claims_within, with_holds}
use Rattle.hhbc_repo.specs.Kept.{Kept}
use Rattle.hhbc_repo.specs.Lengths.{body_fewer, class_fewer, fewer, lists_fewer, position_fewer, code_fewer}
use Rattle.hhbc_repo.specs.Linked.{Linked}
use Rattle.hhbc_repo.specs.LinkFaults.{Name, first_class}
use Rattle.hhbc_repo.specs.LookUps.{methods_in}
use Rattle.hhbc_repo.specs.Homes.{homes_of}
use Rattle.hhbc_repo.specs.Spelled.{HasSpelling}
use Rattle.hhbc_repo.specs.MemberNames.{MemberNames}
use Rattle.hhbc_repo.specs.Within.{Bounds, assert_within, bounds_of}
use Rattle.hhbc_repo.proofs.BareKept.{kept_too, same_names}
use Rattle.hhbc_repo.proofs.ChangedParts.{OfMethods, OfProperties, all_changed, asserts_bare, at_place, body_bare, body_counts, body_passes, changed_count, held_counts, home_changes, properties_kept, properties_pass}
use Rattle.hhbc_repo.proofs.LinkedClaims.{claims_hold}

-- ---- tests of classes

claims_of_methods : (n : ℕ) → OfMethods (class_claims_within n) (body_claims_within n)
claims_of_methods n = record {
  methods = λ c h. (and_parts (list_all (property_claims_within n) c.props) (list_all (body_claims_within n) c.methods) h).1;
  replaced = λ c ms h l k. and_from (list_all (property_claims_within n) c.props) (list_all (body_claims_within n) ms)
      (and_parts (list_all (property_claims_within n) c.props) (list_all (body_claims_within n) c.methods) h).0 k;
}

claims_of_properties : (n : ℕ) → OfProperties (class_claims_within n) (property_claims_within n)
claims_of_properties n = record {
  props = λ c h. (and_parts (list_all (property_claims_within n) c.props) (list_all (body_claims_within n) c.methods) h).0;
  replaced = λ c ps h l k. and_from (list_all (property_claims_within n) ps) (list_all (body_claims_within n) c.methods) k
      (and_parts (list_all (property_claims_within n) c.props) (list_all (body_claims_within n) c.methods) h).1;
}

record Lists (n : ℕ) (c : Class) : Type 0 where
  consts : fewer n c.consts ≡ true
  props : fewer n c.props ≡ true
  methods : fewer n c.methods ≡ true
  each : list_all (body_fewer n) c.methods ≡ true

lists : (n : ℕ) (c : Class) → class_fewer n c ≡ true → Lists n c
lists n c h =
    let all = list_all (body_fewer n) c.methods in
    let p = and_parts (fewer n c.consts) (fewer n c.props && (fewer n c.methods && all)) h in
    let q = and_parts (fewer n c.props) (fewer n c.methods && all) p.1 in
    let r = and_parts (fewer n c.methods) all q.1 in
    record { consts = p.0; props = q.0; methods = r.0; each = r.1 }

listed : (n : ℕ) (c : Class) → Lists n c → class_fewer n c ≡ true
listed n c l =
    let all = list_all (body_fewer n) c.methods in
    and_from (fewer n c.consts) (fewer n c.props && (fewer n c.methods && all)) l.consts
    (and_from (fewer n c.props) (fewer n c.methods && all) l.props (and_from (fewer n c.methods) all l.methods l.each))

as_few : {A B : Type 0} (n : ℕ) (xs : List A) (ys : List B) → length ys ≡ length xs → fewer n xs ≡ true → fewer n ys ≡ true
as_few n xs ys e h = ap (λ k. nat_lt k n) e ∙ h

few_of_methods : (n : ℕ) → OfMethods (class_fewer n) (body_fewer n)
few_of_methods n = record {
  methods = λ c h. (lists n c h).each;
  replaced = λ c ms h l k. let f = lists n c h in
      listed n (record c { methods = ms }) (record { consts = f.consts; props = f.props; methods = as_few n c.methods ms l f.methods; each = k });
}

few_of_properties : (n : ℕ) → OfProperties (class_fewer n) (λ p. true)
few_of_properties n = record {
  props = λ c h. any c.props;
  replaced = λ c ps h l k. let f = lists n c h in
      listed n (record c { props = ps }) (record { consts = f.consts; props = as_few n c.props ps l f.props; methods = f.methods; each = f.each });
}
  where
    any : (ps : List Property) → list_all (λ (p : Property). true) ps ≡ true
    any [] = refl
    any (p ∷ ps) = any ps

-- ---- a body's claim

claim_bare : (claim : Claim) (b : Body) → bare_body (claimed claim b) ≡ bare_body b
claim_bare (new.Returns t) b = refl
claim_bare (new.Asserts p cs) b = λ i. record (bare_body b) { positions = asserts_bare p cs b.positions i }

all_lists : (n : ℕ) (r : Linked) → lists_fewer n r ≡ true
    → (fewer n r.functions ≡ true) × (fewer n r.classes ≡ true) × (list_all (body_fewer n) r.functions ≡ true) × (list_all (class_fewer n) r.classes ≡ true)
all_lists n r h =
    let fs = list_all (body_fewer n) r.functions in
    let cs = list_all (class_fewer n) r.classes in
    let p = and_parts (fewer n r.functions) (fewer n r.classes && (fs && cs)) h in
    let q = and_parts (fewer n r.classes) (fs && cs) p.1 in
    let s = and_parts fs cs q.1 in
    (p.0, q.0, s.0, s.1)

from_lists : (n : ℕ) (r : Linked) → fewer n r.functions ≡ true → fewer n r.classes ≡ true → list_all (body_fewer n) r.functions ≡ true → list_all (class_fewer n) r.classes ≡ true → lists_fewer n r ≡ true
from_lists n r a b c d =
    let fs = list_all (body_fewer n) r.functions in
    let cs = list_all (class_fewer n) r.classes in
    and_from (fewer n r.functions) (fewer n r.classes && (fs && cs)) a (and_from (fewer n r.classes) (fs && cs) b (and_from fs cs c d))

module _ (functions class_table class_list : List Name) (methods properties : MemberNames) (tree : Tree) (homes : List Home) (owners : List ℕ) (named_methods named_properties : Bearers) where
  abbrev Keeps : Linked → Type 0
  Keeps r = Kept r functions class_table class_list methods properties tree homes owners named_methods named_properties

  pub claim_kept : (claim : Claim) (n : ℕ) (r : Linked)
      → ((b : Body) → body_at r n ≡ Some b → (body_claims_within (length (class_names r)) (claimed claim b) ≡ true) × (body_fewer (2 ^ 32) (claimed claim b) ≡ true))
      → Keeps r → Keeps (changed_body (claimed claim) n r)
  claim_kept claim n r fits k =
      let f = claimed claim in
      let s = changed_body f n r in
      let count = length (class_names r) in
      let e : bare r ≡ bare s = sym (body_bare f (claim_bare claim) n r) in
      let c = and_parts (list_all (body_claims_within count) r.functions) (list_all (class_claims_within count) r.classes) (claims_hold r k.spelling) in
      let d = body_passes f (class_claims_within count) (body_claims_within count) (claims_of_methods count) n r c.0 c.1 (λ b g. (fits b g).0) in
      let claims : claims_within s ≡ true =
      subst (λ (m : ℕ). (list_all (body_claims_within m) s.functions && list_all (class_claims_within m) s.classes) ≡ true) (ap (λ (l : List Name). length l) (same_names r s e))
      (and_from (list_all (body_claims_within count) s.functions) (list_all (class_claims_within count) s.classes) d.0 d.1) in
      let l = all_lists (2 ^ 32) r k.sound.lists in
      let m = body_passes f (class_fewer (2 ^ 32)) (body_fewer (2 ^ 32)) (few_of_methods (2 ^ 32)) n r l.2 l.3 (λ b g. (fits b g).1) in
      let counts = body_counts f n r in
      let few = from_lists (2 ^ 32) s (as_few (2 ^ 32) r.functions s.functions counts.0 l.0) (as_few (2 ^ 32) r.classes s.classes counts.1 l.1) m.0 m.1 in
      kept_too r s e functions class_table class_list methods properties tree homes owners named_methods named_properties claims few k

  pub held_kept : (n : ℕ) (t : Option HType) (r : Linked) → where_there (is_proper (length (class_names r))) t ≡ true → Keeps r → Keeps (with_holds n t r)
  held_kept n t r proper k =
      let f = holding t in
      let s = with_holds n t r in
      let count = length (class_names r) in
      let e : bare r ≡ bare s = ap (λ (cs : List Class). record (bare r) { classes = cs }) (sym (properties_kept f (λ p. refl) (n - 1) r.classes)) in
      let c = and_parts (list_all (body_claims_within count) r.functions) (list_all (class_claims_within count) r.classes) (claims_hold r k.spelling) in
      let d = properties_pass f (class_claims_within count) (property_claims_within count) (claims_of_properties count) (λ p. proper) (n - 1) r.classes c.1 in
      let claims : claims_within s ≡ true =
      subst (λ (m : ℕ). (list_all (body_claims_within m) s.functions && list_all (class_claims_within m) s.classes) ≡ true) (ap (λ (l : List Name). length l) (same_names r s e))
      (and_from (list_all (body_claims_within count) s.functions) (list_all (class_claims_within count) s.classes) c.0 d) in
      let l = all_lists (2 ^ 32) r k.sound.lists in
      let m = properties_pass f (class_fewer (2 ^ 32)) (λ p. true) (few_of_properties (2 ^ 32)) (λ p. refl) (n - 1) r.classes l.3 in
      let few = from_lists (2 ^ 32) s l.0 (as_few (2 ^ 32) r.classes s.classes (held_counts f (n - 1) r.classes) l.1) l.2 m in
      kept_too r s e functions class_table class_list methods properties tree homes owners named_methods named_properties claims few k

-- ---- where a body's claim is changed

pub when_function : (f : Body → Body) (r : Linked) (i : ℕ) (h : Home) → slice_get (homes_of r.functions r.classes) i ≡ Some h → h.class ≡ None
    → changed_body f i r ≡ record r { functions = changed f h.place r.functions }
when_function f r i h e none = go (home_changes f r i h e)
  where
    go : ((h.class ≡ None) × (changed_body f i r ≡ record r { functions = changed f h.place r.functions }))
        ⊎ ((c : ℕ) × (h.class ≡ Some c) × (first_class ≤ c) × (changed_body f i r ≡ record r { classes = changed (at_place f h.place) (c - first_class) r.classes }))
        → changed_body f i r ≡ record r { functions = changed f h.place r.functions }
    go (inl w) = w.1
    go (inr w) = let k : Some w.0 ≡ None = sym w.1 ∙ none in absurd (cc)

pub when_method : (f : Body → Body) (r : Linked) (i c : ℕ) (h : Home) → slice_get (homes_of r.functions r.classes) i ≡ Some h → h.class ≡ Some c
    → (first_class ≤ c) × (changed_body f i r ≡ record r { classes = changed (at_place f h.place) (c - first_class) r.classes })
when_method f r i c h e some = go (home_changes f r i h e)
  where
    go : ((h.class ≡ None) × (changed_body f i r ≡ record r { functions = changed f h.place r.functions }))
        ⊎ ((d : ℕ) × (h.class ≡ Some d) × (first_class ≤ d) × (changed_body f i r ≡ record r { classes = changed (at_place f h.place) (d - first_class) r.classes }))
        → (first_class ≤ c) × (changed_body f i r ≡ record r { classes = changed (at_place f h.place) (c - first_class) r.classes })
    go (inl w) = let k : None ≡ Some c = sym w.0 ∙ some in absurd (cc)
    go (inr w) =
        let k : Some w.0 ≡ Some c = sym w.1 ∙ some in
        let same : w.0 ≡ c = cc in
        (subst (λ (n : ℕ). first_class ≤ n) same w.2, w.3 ∙ ap (λ (n : ℕ). record r { classes = changed (at_place f h.place) (n - first_class) r.classes }) same)

-- ---- what the two claims of a body owe

pub passes_at : {A : Type 0} (test : A → Bool) (xs : List A) (n : ℕ) (x : A) → list_all test xs ≡ true → slice_get xs n ≡ Some x → test x ≡ true
passes_at test [] n x h e = absurd (cc)
passes_at test (y ∷ ys) zero x h e = let s : y ≡ x = cc in ap test (sym s) ∙ (and_parts (test y) (list_all test ys) h).0
passes_at test (y ∷ ys) (suc n) x h e = passes_at test ys n x (and_parts (test y) (list_all test ys) h).1 e

methods_pass : (whole : Class → Bool) (each : Body → Bool) → OfMethods whole each → (cs : List Class) → list_all whole cs ≡ true → list_all each (methods_in cs) ≡ true
methods_pass whole each tests [] h = refl
methods_pass whole each tests (c ∷ cs) h =
    let p = and_parts (whole c) (list_all whole cs) h in
    list_all-append each c.methods (methods_in cs) ∙ and_from (list_all each c.methods) (list_all each (methods_in cs)) (tests.methods c p.0) (methods_pass whole each tests cs p.1)

bodies_pass : (whole : Class → Bool) (each : Body → Bool) → OfMethods whole each → (r : Linked) → list_all each r.functions ≡ true → list_all whole r.classes ≡ true → list_all each (bodies r) ≡ true
bodies_pass whole each tests r h k =
    list_all-append each r.functions (methods_in r.classes) ∙ and_from (list_all each r.functions) (list_all each (methods_in r.classes)) h (methods_pass whole each tests r.classes k)

module _ (r : Linked) (spelled : HasSpelling r) (few : lists_fewer (2 ^ 32) r ≡ true) (n : ℕ) (b : Body) (e : body_at r n ≡ Some b) where
  abbrev classes : ℕ
  classes = length (class_names r)

  claims_there : body_claims_within classes b ≡ true
  claims_there =
      let c = and_parts (list_all (body_claims_within classes) r.functions) (list_all (class_claims_within classes) r.classes) (claims_hold r spelled) in
      passes_at (body_claims_within classes) (bodies r) n b (bodies_pass (class_claims_within classes) (body_claims_within classes) (claims_of_methods classes) r c.0 c.1) e

  few_there : body_fewer (2 ^ 32) b ≡ true
  few_there =
      let l = all_lists (2 ^ 32) r few in
      passes_at (body_fewer (2 ^ 32)) (bodies r) n b (bodies_pass (class_fewer (2 ^ 32)) (body_fewer (2 ^ 32)) (few_of_methods (2 ^ 32)) r l.2 l.3) e

  pub returns_fit : (t : Option HType) → where_there (is_proper classes) t ≡ true
      → (body_claims_within classes (claimed (new.Returns t) b) ≡ true) × (body_fewer (2 ^ 32) (claimed (new.Returns t) b) ≡ true)
  returns_fit t h =
      let each = list_all (position_claims_within (bounds_of classes b)) b.positions in
      let p = and_parts (where_there (is_proper classes) b.stated) each claims_there in
      (and_from (where_there (is_proper classes) t) each h p.1, few_there)

  pub asserts_fit : (at : ℕ) (cs : List Assert) → list_all (assert_within (bounds_of classes b)) cs ≡ true → length cs < 2 ^ 32
      → (body_claims_within classes (claimed (new.Asserts at cs) b) ≡ true) × (body_fewer (2 ^ 32) (claimed (new.Asserts at cs) b) ≡ true)
  asserts_fit at cs h small =
      let qs = b.positions in
      let new_qs = changed (claiming cs) at qs in
      let count = changed_count (claiming cs) at qs in
      let each = list_all (position_claims_within (bounds_of classes b)) qs in
      let p = and_parts (where_there (is_proper classes) b.stated) each claims_there in
      let as_is = list_all (position_claims_within (bounds_of classes b)) new_qs in
      let pass : as_is ≡ true = all_changed (position_claims_within (bounds_of classes b)) (claiming cs) at qs p.1 (λ q g. h) in
      let bounds : Bounds = record { locals = length b.locals; iters = b.iters; positions = length new_qs; classes = classes } in
      let same : list_all (position_claims_within bounds) new_qs ≡ true =
      subst (λ (m : ℕ). list_all (position_claims_within (record { locals = length b.locals; iters = b.iters; positions = m; classes = classes })) new_qs ≡ true) (sym count) pass in
      let all = list_all (position_fewer (2 ^ 32)) qs in
      let x = and_parts (fewer (2 ^ 32) b.locals) (fewer (2 ^ 32) qs && (fewer (2 ^ 32) b.regions && all)) few_there in
      let y = and_parts (fewer (2 ^ 32) qs) (fewer (2 ^ 32) b.regions && all) x.1 in
      let z = and_parts (fewer (2 ^ 32) b.regions) all y.1 in
      let lists : list_all (position_fewer (2 ^ 32)) new_qs ≡ true =
      all_changed (position_fewer (2 ^ 32)) (claiming cs) at qs z.1
      (λ q g. and_from (fewer (2 ^ 32) cs) (code_fewer (2 ^ 32) q.code) (lt-ltb (length cs) (2 ^ 32) small)
      (and_parts (fewer (2 ^ 32) q.asserts) (code_fewer (2 ^ 32) q.code) (passes_at (position_fewer (2 ^ 32)) qs at q z.1 g)).1) in (
        and_from (where_there (is_proper classes) b.stated) (list_all (position_claims_within bounds) new_qs) p.0 same,
        and_from (fewer (2 ^ 32) b.locals) (fewer (2 ^ 32) new_qs && (fewer (2 ^ 32) b.regions && list_all (position_fewer (2 ^ 32)) new_qs)) x.0
            (and_from (fewer (2 ^ 32) new_qs) (fewer (2 ^ 32) b.regions && list_all (position_fewer (2 ^ 32)) new_qs) (as_few (2 ^ 32) qs new_qs count y.0)
            (and_from (fewer (2 ^ 32) b.regions) (list_all (position_fewer (2 ^ 32)) new_qs) z.0 lists)),
      )
