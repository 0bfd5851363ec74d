-- What the home of a body says of it.
use Rattle.std.proofs.Common.{◌≡◌, ◌<◌, ◌+◌, ◌⊎◌, inl, inr, ℕ, zero, suc, List, [], ◌∷◌, ◌++◌, Option, Some, None, refl, ap, sym, ◌∙◌, map, length, slice_get, arith, ap₂, option_map, get_or, ◌^◌, subst}
use Rattle.std.proofs.lemmas.List.{map-append, length-append, length-map}
use Rattle.std.proofs.lemmas.Option.{slice_get-map, slice_get-get_or, slice_get_within}
use Rattle.hhbc_repo.specs.declared.body.Body.{Body}
use Rattle.hhbc_repo.specs.declared.repo.Class.{Class}
use Rattle.hhbc_repo.specs.declared.homes.Home.{Home}
use Rattle.hhbc_repo.specs.Homes.{IsDeclared, bodies_in, homes_at, homes_from, homes_of, methods_of}
use Rattle.hhbc_repo.specs.Linked.{Linked}
use Rattle.hhbc_repo.specs.LinkFaults.{first_class}
use Rattle.hhbc_repo.specs.Bodies.{bodies}
use Rattle.hhbc_repo.specs.LookUps.{owners, owners_from, methods_in, method_names, total}
use Rattle.hhbc_repo.proofs.Elements.{slice_inside}

class : Home → Option ℕ
class h = h.class

classes_at : (o : Option ℕ) (n : ℕ) (bs : List Body) → map (λ (h : Home). h.class) (homes_at o n bs) ≡ map (λ (b : Body). o) bs
classes_at o n [] = refl
classes_at o n (b ∷ bs) = ap (λ l. o ∷ l) (classes_at o (suc n) bs)

classes_from : (n : ℕ) (cs : List Class) → map (λ (h : Home). h.class) (homes_from n cs) ≡ owners_from n cs
classes_from n [] = refl
classes_from n (c ∷ cs) = map-append (λ (h : Home). h.class) (homes_at (Some n) 0 c.methods) (homes_from (suc n) cs) ∙ ap₂ (λ (xs ys : List (Option ℕ)). xs ++ ys) (classes_at (Some n) 0 c.methods) (classes_from (suc n) cs)

pub classes_of : (r : Linked) → map (λ (h : Home). h.class) (homes_of r.functions r.classes) ≡ owners r
classes_of r = map-append (λ (h : Home). h.class) (homes_at None 0 r.functions) (homes_from first_class r.classes) ∙ ap₂ (λ (xs ys : List (Option ℕ)). xs ++ ys) (classes_at None 0 r.functions) (classes_from first_class r.classes)

length_at : (o : Option ℕ) (n : ℕ) (bs : List Body) → length (homes_at o n bs) ≡ length bs
length_at o n [] = refl
length_at o n (b ∷ bs) = ap suc (length_at o (suc n) bs)

length_from : (n : ℕ) (cs : List Class) → length (homes_from n cs) ≡ length (methods_in cs)
length_from n [] = refl
length_from n (c ∷ cs) =
    length-append (homes_at (Some n) 0 c.methods) (homes_from (suc n) cs)
    ∙ ap₂ (λ (x y : ℕ). x + y) (length_at (Some n) 0 c.methods) (length_from (suc n) cs)
    ∙ sym (length-append c.methods (methods_in cs))

pub length_of : (r : Linked) → length (homes_of r.functions r.classes) ≡ length (bodies r)
length_of r =
    length-append (homes_at None 0 r.functions) (homes_from first_class r.classes)
    ∙ ap₂ (λ (x y : ℕ). x + y) (length_at None 0 r.functions) (length_from first_class r.classes)
    ∙ sym (length-append r.functions (methods_in r.classes))

pub owner-at : (r : Linked) (homes : List Home) (b : ℕ) (d : Home) → homes ≡ homes_of r.functions r.classes → b < length homes → slice_get (owners r) b ≡ Some (get_or homes b d).class
owner-at r homes b d e h =
    ap (λ (os : List (Option ℕ)). slice_get os b) (sym (ap (map (λ (h : Home). h.class)) e ∙ classes_of r))
    ∙ slice_get-map (λ (h : Home). h.class) homes b
    ∙ ap (option_map (λ (h : Home). h.class)) (slice_get-get_or homes b d h)

method_total : (cs : List Class) → total (method_names cs) ≡ length (methods_in cs)
method_total [] = refl
method_total (c ∷ cs) = ap₂ (λ (x y : ℕ). x + y) (length-map c.methods (λ (b : Body). b.name)) (method_total cs) ∙ sym (length-append c.methods (methods_in cs))

pub bodies_fit : (fs : List Body) (cs : List Class) → length (fs ++ methods_in cs) < 2 ^ 32 → length fs + total (method_names cs) < 2 ^ 32
bodies_fit fs cs h = let e = length-append fs (methods_in cs) in let t = method_total cs in omega (arith, e, t, h)

-- the home at a number is of the bodies of one class, or of what stands behind them
record Here (o : Option ℕ) (p : ℕ) (bs ms : List Body) (i : ℕ) (h : Home) : Type 0 where
  place : ℕ
  body : Body
  home : h ≡ record { class = o; place = p + place }
  there : slice_get bs place ≡ Some body
  numbered : slice_get (bs ++ ms) i ≡ Some body

record Behind (bs ms : List Body) (hs : List Home) (i : ℕ) (h : Home) : Type 0 where
  at : ℕ
  home : slice_get hs at ≡ Some h
  numbered : slice_get (bs ++ ms) i ≡ slice_get ms at

next : (o : Option ℕ) (p : ℕ) (b : Body) (bs ms : List Body) (hs : List Home) (i : ℕ) (h : Home) → Here o (suc p) bs ms i h ⊎ Behind bs ms hs i h → Here o p (b ∷ bs) ms (suc i) h ⊎ Behind (b ∷ bs) ms hs (suc i) h
next o p b bs ms hs i h (inl w) = inl (record {
  place = suc w.place;
  body = w.body;
  home = let e : suc p + w.place ≡ p + suc w.place = omega arith in w.home ∙ ap (λ (n : ℕ). record { class = o; place = n }) e;
  there = w.there;
  numbered = w.numbered;
})
next o p b bs ms hs i h (inr w) = inr (record { at = w.at; home = w.home; numbered = w.numbered })

here_or_behind : (o : Option ℕ) (p : ℕ) (bs ms : List Body) (hs : List Home) (i : ℕ) (h : Home) → slice_get (homes_at o p bs ++ hs) i ≡ Some h → Here o p bs ms i h ⊎ Behind bs ms hs i h
here_or_behind o p [] ms hs i h e = inr (record { at = i; home = e; numbered = refl })
here_or_behind o p (b ∷ bs) ms hs zero h e = inl (record {
  place = 0;
  body = b;
  home = let k : p ≡ p + 0 = omega arith in let s : record { class = o; place = p } ≡ h = cc in sym s ∙ ap (λ (n : ℕ). record { class = o; place = n }) k;
  there = refl;
  numbered = refl;
})
here_or_behind o p (b ∷ bs) ms hs (suc i) h e = next o p b bs ms hs i h (here_or_behind o (suc p) bs ms hs i h e)

-- the body of a number is the one that stands at the number's home
pub record Stands (fs : List Body) (cs : List Class) (i : ℕ) (h : Home) : Type 0 where
  pub declared : IsDeclared h.class
  pub found : slice_get (bodies_in fs cs h.class) h.place ≡ slice_get (fs ++ methods_in cs) i

record InClass (n : ℕ) (cs : List Class) (i : ℕ) (h : Home) : Type 0 where
  at : ℕ
  class_is : h.class ≡ Some (n + at)
  found : slice_get (methods_of (slice_get cs at)) h.place ≡ slice_get (methods_in cs) i

in_class : (n : ℕ) (cs : List Class) (i : ℕ) (h : Home) → slice_get (homes_from n cs) i ≡ Some h → InClass n cs i h
in_class n [] i h e = absurd (cc)
in_class n (c ∷ cs) i h e = go (here_or_behind (Some n) 0 c.methods (methods_in cs) (homes_from (suc n) cs) i h e) (λ j k. in_class (suc n) cs j h k)
  where
    go : Here (Some n) 0 c.methods (methods_in cs) i h ⊎ Behind c.methods (methods_in cs) (homes_from (suc n) cs) i h → ((j : ℕ) → slice_get (homes_from (suc n) cs) j ≡ Some h → InClass (suc n) cs j h) → InClass n (c ∷ cs) i h
    go (inl w) more = record {
      at = 0;
      class_is = ap (λ (k : Home). k.class) w.home ∙ ap (λ m. Some m) (omega arith);
      found = let z : 0 + w.place ≡ w.place = omega arith in ap (λ (k : Home). slice_get c.methods k.place) w.home ∙ ap (slice_get c.methods) z ∙ w.there ∙ sym w.numbered;
    }
    go (inr w) more = let m = more w.at w.home in record {
      at = suc m.at;
      class_is = m.class_is ∙ ap (λ k. Some k) (omega arith);
      found = m.found ∙ sym w.numbered;
    }

pub stands : (fs : List Body) (cs : List Class) (i : ℕ) (h : Home) → slice_get (homes_of fs cs) i ≡ Some h → Stands fs cs i h
stands fs cs i h e = go (here_or_behind None 0 fs (methods_in cs) (homes_from first_class cs) i h e)
  where
    go : Here None 0 fs (methods_in cs) i h ⊎ Behind fs (methods_in cs) (homes_from first_class cs) i h → Stands fs cs i h
    go (inl w) = record {
      declared = subst (λ (k : Home). IsDeclared k.class) (sym w.home) tt;
      found = let z : 0 + w.place ≡ w.place = omega arith in ap (λ (k : Home). slice_get (bodies_in fs cs k.class) k.place) w.home ∙ ap (slice_get fs) z ∙ w.there ∙ sym w.numbered;
    }
    go (inr w) =
        let m = in_class first_class cs w.at h w.home in
        record {
          declared = subst IsDeclared (sym m.class_is) (omega arith);
          found =
              ap (λ (o : Option ℕ). slice_get (bodies_in fs cs o) h.place) m.class_is
              ∙ ap (λ k. slice_get (methods_of (slice_get cs k)) h.place) (omega arith)
              ∙ m.found
              ∙ sym w.numbered;
        }

-- what is listed as the home of a body is its home
module _ (r : Linked) (homes : List Home) (e : homes ≡ homes_of r.functions r.classes) (b : ℕ) (d : Home) (h : b < length (bodies r)) where
  pub listed : b < length homes
  listed = subst (λ n. b < n) (sym (ap (λ (hs : List Home). length hs) e ∙ length_of r)) h

  pub home_stands : Stands r.functions r.classes b (get_or homes b d)
  home_stands = stands r.functions r.classes b (get_or homes b d) (ap (λ (hs : List Home). slice_get hs b) (sym e) ∙ slice_get-get_or homes b d listed)

  pub home_within : (get_or homes b d).place < length (bodies_in r.functions r.classes (get_or homes b d).class)
  home_within =
      let k = slice_inside (bodies r) b h in
      slice_get_within (bodies_in r.functions r.classes (get_or homes b d).class) (get_or homes b d).place k.0 (home_stands.found ∙ k.1)
