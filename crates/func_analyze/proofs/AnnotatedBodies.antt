-- The bodies, classes and properties of the annotated repository, by their numbers.
use Rattle.std.proofs.Common.{◌≡◌, ◌⊎◌, inl, inr, ℕ, zero, suc, ◌+◌, refl, sym, ◌∙◌, ap, subst, Option, Some, List, [], ◌∷◌, ◌++◌, map, flat_map, slice_get, length, arith}
use Rattle.type_lattice.specs.declared.types.HType.{HType}
use Rattle.hhbc_repo.specs.declared.body.Body.{Body}
use Rattle.hhbc_repo.specs.declared.body.Position.{Position}
use Rattle.hhbc_repo.specs.declared.repo.Class.{Class}
use Rattle.hhbc_repo.specs.declared.repo.Property.{Property}
use Rattle.hhbc_repo.specs.Linked.{Linked}
use Rattle.hhbc_repo.specs.Bodies.{bodies}
use Rattle.hhbc_repo.specs.Bare.{bare, bare_body, bare_position, bare_property, bare_class}
use Rattle.hhbc_semantics.specs.Truth.{Facts, stated_props, stated_returns}
use Rattle.hhbc_repo.proofs.Elements.{from_map}
use Rattle.func_analyze.specs.Solution.{Table}
use Rattle.func_analyze.specs.Annotated.{with_claims, annotated_body, or_empty, annotated_bodies, annotated_properties, annotated_classes, annotated}

bodies_append : (n : ℕ) (xs ys : List Body) (ts : List HType) (Ts : List Table)
    → annotated_bodies n (xs ++ ys) ts Ts ≡ annotated_bodies n xs ts Ts ++ annotated_bodies (n + length xs) ys ts Ts
bodies_append n [] ys ts Ts = ap (λ m. annotated_bodies m ys ts Ts) (let e : n ≡ n + 0 = omega arith in e)
bodies_append n (b ∷ xs) ys ts Ts =
    ap (λ bs. annotated_body b (slice_get ts n) (or_empty (slice_get Ts n)) ∷ bs)
    (bodies_append (suc n) xs ys ts Ts
    ∙ ap (λ m. annotated_bodies (suc n) xs ts Ts ++ annotated_bodies m ys ts Ts) (let e : suc n + length xs ≡ n + suc (length xs) = omega arith in e))

methods_are : (n k : ℕ) (cs : List Class) (F : Facts) (Ts : List Table)
    → flat_map (λ (c : Class). c.methods) (annotated_classes n k cs F Ts) ≡ annotated_bodies n (flat_map (λ (c : Class). c.methods) cs) F.returns Ts
methods_are n k [] F Ts = refl
methods_are n k (c ∷ cs) F Ts =
    ap (λ bs. annotated_bodies n c.methods F.returns Ts ++ bs) (methods_are (n + length c.methods) (k + length c.props) cs F Ts)
    ∙ sym (bodies_append n c.methods (flat_map (λ (c : Class). c.methods) cs) F.returns Ts)

pub bodies_are : (r : Linked) (F : Facts) (Ts : List Table) → bodies (annotated r F Ts) ≡ annotated_bodies 0 (bodies r) F.returns Ts
bodies_are r F Ts =
    ap (λ bs. annotated_bodies 0 r.functions F.returns Ts ++ bs)
    (methods_are (length r.functions) 1 r.classes F Ts
    ∙ ap (λ m. annotated_bodies m (flat_map (λ (c : Class). c.methods) r.classes) F.returns Ts) (let e : length r.functions ≡ 0 + length r.functions = omega arith in e))
    ∙ sym (bodies_append 0 r.functions (flat_map (λ (c : Class). c.methods) r.classes) F.returns Ts)

-- a body of the list is an annotated one
pub annotated_at : (n : ℕ) (bs : List Body) (ts : List HType) (Ts : List Table) (i : ℕ) (x : Body) → slice_get (annotated_bodies n bs ts Ts) i ≡ Some x
    → (b : Body) × (slice_get bs i ≡ Some b) × (x ≡ annotated_body b (slice_get ts (n + i)) (or_empty (slice_get Ts (n + i))))
annotated_at n [] ts Ts i x e = absurd (cc)
annotated_at n (b ∷ bs) ts Ts zero x e =
    let k : annotated_body b (slice_get ts n) (or_empty (slice_get Ts n)) ≡ x = cc in
    (b, refl, sym k ∙ ap (λ m. annotated_body b (slice_get ts m) (or_empty (slice_get Ts m))) (let e : n ≡ n + 0 = omega arith in e))
annotated_at n (b ∷ bs) ts Ts (suc i) x e =
    let w = annotated_at (suc n) bs ts Ts i x e in (
      w.0,
      w.1,
      w.2 ∙ ap (λ m. annotated_body w.0 (slice_get ts m) (or_empty (slice_get Ts m))) (let e : suc n + i ≡ n + suc i = omega arith in e),
    )

-- what a body states is its fact
pub stated_return : (r : Linked) (F : Facts) (Ts : List Table) (n : ℕ) (t : HType) → slice_get (stated_returns (annotated r F Ts)) n ≡ Some (Some t)
    → slice_get F.returns n ≡ Some t
stated_return r F Ts n t e =
    let x = from_map (λ (b : Body). b.stated) (bodies (annotated r F Ts)) n (Some t) e in
    let w = annotated_at 0 (bodies r) F.returns Ts n x.0 (subst (λ bs. slice_get bs n ≡ Some x.0) (bodies_are r F Ts) x.1) in
    let z : 0 + n ≡ n = omega arith in
    subst (λ m. slice_get F.returns m ≡ Some t) z (sym (ap (λ (b : Body). b.stated) w.2) ∙ x.2)

-- an element of two lists
either : {A : Type 0} (xs ys : List A) (i : ℕ) (y : A) → slice_get (xs ++ ys) i ≡ Some y
    → (slice_get xs i ≡ Some y) ⊎ ((j : ℕ) × (i ≡ length xs + j) × (slice_get ys j ≡ Some y))
either [] ys i y e = inr (i, omega arith, e)
either (x ∷ xs) ys zero y e = inl e
either (x ∷ xs) ys (suc i) y e = later (either xs ys i y e)
  where
    later : (slice_get xs i ≡ Some y) ⊎ ((j : ℕ) × (i ≡ length xs + j) × (slice_get ys j ≡ Some y))
        → (slice_get xs i ≡ Some y) ⊎ ((j : ℕ) × (suc i ≡ suc (length xs) + j) × (slice_get ys j ≡ Some y))
    later (inl e) = inl e
    later (inr w) = let k = w.1 in inr (w.0, omega arith, w.2)

properties_count : (k : ℕ) (ps : List Property) (ts : List HType) → length (map (λ (p : Property). p.stated) (annotated_properties k ps ts)) ≡ length ps
properties_count k [] ts = refl
properties_count k (p ∷ ps) ts = ap suc (properties_count (suc k) ps ts)

property_at : (k : ℕ) (ps : List Property) (ts : List HType) (i : ℕ) (t : HType)
    → slice_get (map (λ (p : Property). p.stated) (annotated_properties k ps ts)) i ≡ Some (Some t) → slice_get ts (k + i) ≡ Some t
property_at k [] ts i t e = absurd (cc)
property_at k (p ∷ ps) ts zero t e =
    let z : k ≡ k + 0 = omega arith in
    let f : slice_get ts k ≡ Some t = cc in subst (λ m. slice_get ts m ≡ Some t) z f
property_at k (p ∷ ps) ts (suc i) t e =
    let z : suc k + i ≡ k + suc i = omega arith in
    subst (λ m. slice_get ts m ≡ Some t) z (property_at (suc k) ps ts i t e)

class_property_at : (n k : ℕ) (cs : List Class) (F : Facts) (Ts : List Table) (i : ℕ) (t : HType)
    → slice_get (flat_map (λ (c : Class). map (λ (p : Property). p.stated) c.props) (annotated_classes n k cs F Ts)) i ≡ Some (Some t)
    → slice_get F.props (k + i) ≡ Some t
class_property_at n k [] F Ts i t e = absurd (cc)
class_property_at n k (c ∷ cs) F Ts i t e =
    by_place (either (map (λ (p : Property). p.stated) (annotated_properties k c.props F.props)) _ i (Some t) e)
    (λ j. class_property_at (n + length c.methods) (k + length c.props) cs F Ts j t)
  where
    rest : List (Option HType)
    rest = flat_map (λ (c : Class). map (λ (p : Property). p.stated) c.props) (annotated_classes (n + length c.methods) (k + length c.props) cs F Ts)

    by_place : (slice_get (map (λ (p : Property). p.stated) (annotated_properties k c.props F.props)) i ≡ Some (Some t))
        ⊎ ((j : ℕ) × (i ≡ length (map (λ (p : Property). p.stated) (annotated_properties k c.props F.props)) + j)
        × (slice_get (flat_map (λ (c : Class). map (λ (p : Property). p.stated) c.props) (annotated_classes (n + length c.methods) (k + length c.props) cs F Ts)) j ≡ Some (Some t)))
        → ((j : ℕ) → slice_get (flat_map (λ (c : Class). map (λ (p : Property). p.stated) c.props) (annotated_classes (n + length c.methods) (k + length c.props) cs F Ts)) j ≡ Some (Some t)
        → slice_get F.props (k + length c.props + j) ≡ Some t)
        → slice_get F.props (k + i) ≡ Some t
    by_place (inl e) ih = property_at k c.props F.props i t e
    by_place (inr w) ih =
        let count = properties_count k c.props F.props in
        let place = w.1 in
        let z : k + length c.props + w.0 ≡ k + i = omega (arith, count, place) in
        subst (λ m. slice_get F.props m ≡ Some t) z (ih w.0 w.2)

-- what a property states is its fact
pub stated_prop : (r : Linked) (F : Facts) (Ts : List Table) (q : ℕ) (t : HType) → slice_get (stated_props (annotated r F Ts)) q ≡ Some (Some t)
    → slice_get F.props q ≡ Some t
stated_prop r F Ts zero t e = absurd (cc)
stated_prop r F Ts (suc q) t e =
    let z : 1 + q ≡ suc q = omega arith in
    subst (λ m. slice_get F.props m ≡ Some t) z (class_property_at (length r.functions) 1 r.classes F Ts q t e)

-- without its claims the annotated repository is the one without claims
claims_off : (ps : List Position) (T : Table) → map bare_position (with_claims ps T) ≡ map bare_position ps
claims_off [] T = refl
claims_off (p ∷ ps) [] = ap (λ (qs : List Position). bare_position p ∷ qs) (claims_off ps [])
claims_off (p ∷ ps) (s ∷ T) = ap (λ (qs : List Position). bare_position p ∷ qs) (claims_off ps T)

body_off : (b : Body) (t : Option HType) (T : Table) → bare_body (annotated_body b t T) ≡ bare_body b
body_off b t T = ap (λ (ps : List Position). record (bare_body b) { positions = ps }) (claims_off b.positions T)

bodies_off : (n : ℕ) (bs : List Body) (ts : List HType) (Ts : List Table) → map bare_body (annotated_bodies n bs ts Ts) ≡ map bare_body bs
bodies_off n [] ts Ts = refl
bodies_off n (b ∷ bs) ts Ts = λ i. body_off b (slice_get ts n) (or_empty (slice_get Ts n)) i ∷ bodies_off (suc n) bs ts Ts i

properties_off : (k : ℕ) (ps : List Property) (ts : List HType) → map bare_property (annotated_properties k ps ts) ≡ map bare_property ps
properties_off k [] ts = refl
properties_off k (p ∷ ps) ts = ap (λ qs. bare_property p ∷ qs) (properties_off (suc k) ps ts)

classes_off : (n k : ℕ) (cs : List Class) (F : Facts) (Ts : List Table) → map bare_class (annotated_classes n k cs F Ts) ≡ map bare_class cs
classes_off n k [] F Ts = refl
classes_off n k (c ∷ cs) F Ts = λ i.
    record c { props = properties_off k c.props F.props i; methods = bodies_off n c.methods F.returns Ts i }
    ∷ classes_off (n + length c.methods) (k + length c.props) cs F Ts i

pub annotated_off : (r : Linked) (F : Facts) (Ts : List Table) → bare (annotated r F Ts) ≡ bare r
annotated_off r F Ts = λ i. record {
  functions = bodies_off 0 r.functions F.returns Ts i;
  classes = classes_off (length r.functions) 1 r.classes F Ts i;
}
