-- Lists and repositories with a change at one place.
use Rattle.std.proofs.Common.{◌≡◌, ◌≤◌, ◌<◌, ◌-◌, ◌+◌, ◌⊎◌, inl, inr, ℕ, zero, suc, Bool, true, false, ◌&&◌, Option, Some, None, List, [], ◌∷◌, ◌++◌, map, length, replicate, slice_get, refl, sym, ap, ap₂, ◌∙◌, subst, arith, length-append}
use Rattle.std.specs.Prelude.{if◌then◌else◌, nat_lt, slice_set}
use Rattle.std.specs.List.{list_all, flat_map}
use Rattle.std.proofs.lemmas.List.{length-map}
use Rattle.std.proofs.lemmas.Bool.{and_from, and_parts, lt-ltb, le-ltb, ltb-true, ltb-false}
use Rattle.hhbc_repo.specs.declared.body.Assert.{Assert}
use Rattle.hhbc_repo.specs.declared.body.Body.{Body}
use Rattle.hhbc_repo.specs.declared.body.Position.{Position}
use Rattle.hhbc_repo.specs.declared.homes.Home.{Home}
use Rattle.hhbc_repo.specs.declared.repo.Class.{Class}
use Rattle.hhbc_repo.specs.declared.repo.Property.{Property}
use Rattle.hhbc_repo.specs.Bare.{bare, bare_body, bare_class, bare_position, bare_property}
use Rattle.hhbc_repo.specs.Bodies.{bodies}
use Rattle.hhbc_repo.specs.Claims.{changed, changed_body, changed_method, changed_property, claiming}
use Rattle.hhbc_repo.specs.Homes.{homes_at, homes_from, homes_of}
use Rattle.hhbc_repo.specs.Linked.{Linked}
use Rattle.hhbc_repo.specs.LinkFaults.{Name, first_class}
use Rattle.hhbc_repo.specs.LookUps.{all_properties, methods_in, property_names, property_owners_from}
use Rattle.hhbc_repo.specs.Members.{starts}

-- ---- one list

pub changed_set : {A : Type 0} (f : A → A) (n : ℕ) (xs : List A) (x : A) → slice_get xs n ≡ Some x → slice_set xs n (f x) ≡ changed f n xs
changed_set f n [] x e = absurd (cc)
changed_set f zero (y ∷ xs) x e = let same : y ≡ x = cc in ap (λ z. f z ∷ xs) (sym same)
changed_set f (suc n) (y ∷ xs) x e = ap (λ l. y ∷ l) (changed_set f n xs x e)

pub changed_past : {A : Type 0} (f : A → A) (n : ℕ) (xs : List A) → length xs ≤ n → changed f n xs ≡ xs
changed_past f n [] h = refl
changed_past f zero (x ∷ xs) h = absurd (omega (arith, h))
changed_past f (suc n) (x ∷ xs) h = ap (λ l. x ∷ l) (changed_past f n xs (omega (arith, h)))

-- where a place isn't below the length nothing is changed
pub changed_none : {A : Type 0} (f : A → A) (n : ℕ) (xs : List A) → (n < length xs → false ≡ true) → changed f n xs ≡ xs
changed_none f n xs h = go (nat_lt n (length xs)) refl
  where
    go : (b : Bool) → nat_lt n (length xs) ≡ b → changed f n xs ≡ xs
    go true e = let k = h (ltb-true n (length xs) e) in absurd (cc)
    go false e = changed_past f n xs (ltb-false n (length xs) e)

pub changed_count : {A : Type 0} (f : A → A) (n : ℕ) (xs : List A) → length (changed f n xs) ≡ length xs
changed_count f n [] = refl
changed_count f zero (x ∷ xs) = refl
changed_count f (suc n) (x ∷ xs) = ap suc (changed_count f n xs)

map_changed : {A B : Type 0} (g : A → B) (f : A → A) (n : ℕ) (xs : List A) → ((x : A) → g (f x) ≡ g x) → map g (changed f n xs) ≡ map g xs
map_changed g f n [] h = refl
map_changed g f zero (x ∷ xs) h = ap (λ y. y ∷ map g xs) (h x)
map_changed g f (suc n) (x ∷ xs) h = ap (λ l. g x ∷ l) (map_changed g f n xs h)

pub all_changed : {A : Type 0} (test : A → Bool) (f : A → A) (n : ℕ) (xs : List A) → list_all test xs ≡ true → ((x : A) → slice_get xs n ≡ Some x → test (f x) ≡ true) → list_all test (changed f n xs) ≡ true
all_changed test f n [] h k = refl
all_changed test f zero (x ∷ xs) h k = and_from (test (f x)) (list_all test xs) (k x refl) (and_parts (test x) (list_all test xs) h).1
all_changed test f (suc n) (x ∷ xs) h k =
    let p = and_parts (test x) (list_all test xs) h in
    and_from (test x) (list_all test (changed f n xs)) p.0 (all_changed test f n xs p.1 k)

-- ---- what is chosen by a test

chosen : {A : Type 0} (b : Bool) (x y : A) → b ≡ true → (if b then x else y) ≡ x
chosen true x y e = refl
chosen false x y e = absurd (cc)

other : {A : Type 0} (b : Bool) (x y : A) → b ≡ false → (if b then x else y) ≡ y
other true x y e = absurd (cc)
other false x y e = refl

-- ---- without claims it is as it was

pub asserts_bare : (p : ℕ) (cs : List Assert) (qs : List Position) → map bare_position (changed (claiming cs) p qs) ≡ map bare_position qs
asserts_bare p cs qs = map_changed bare_position (claiming cs) p qs (λ q. refl)

module _ (f : Body → Body) (bare_kept : (b : Body) → bare_body (f b) ≡ bare_body b) where
  methods_kept : (n : ℕ) (cs : List Class) → map bare_class (changed_method f n cs) ≡ map bare_class cs
  methods_kept n [] = refl
  methods_kept n (c ∷ cs) = go (nat_lt n (length c.methods)) (methods_kept (n - length c.methods) cs)
    where
      go : (b : Bool) → map bare_class (changed_method f (n - length c.methods) cs) ≡ map bare_class cs
          → map bare_class (if b then record c { methods = changed f n c.methods } ∷ cs else c ∷ changed_method f (n - length c.methods) cs) ≡ map bare_class (c ∷ cs)
      go true more = ap (λ (ms : List Body). record (bare_class c) { methods = ms } ∷ map bare_class cs) (map_changed bare_body f n c.methods bare_kept)
      go false more = ap (λ (l : List Class). bare_class c ∷ l) more

  pub body_bare : (n : ℕ) (r : Linked) → bare (changed_body f n r) ≡ bare r
  body_bare n r = go (nat_lt n (length r.functions))
    where
      go : (b : Bool) → bare (if b then record r { functions = changed f n r.functions } else record r { classes = changed_method f (n - length r.functions) r.classes }) ≡ bare r
      go true = ap (λ (bs : List Body). record { functions = bs; classes = map bare_class r.classes }) (map_changed bare_body f n r.functions bare_kept)
      go false = ap (λ (cs : List Class). record { functions = map bare_body r.functions; classes = cs }) (methods_kept (n - length r.functions) r.classes)

module _ (f : Property → Property) (bare_kept : (p : Property) → bare_property (f p) ≡ bare_property p) where
  pub properties_kept : (n : ℕ) (cs : List Class) → map bare_class (changed_property f n cs) ≡ map bare_class cs
  properties_kept n [] = refl
  properties_kept n (c ∷ cs) = go (nat_lt n (length c.props)) (properties_kept (n - length c.props) cs)
    where
      go : (b : Bool) → map bare_class (changed_property f (n - length c.props) cs) ≡ map bare_class cs
          → map bare_class (if b then record c { props = changed f n c.props } ∷ cs else c ∷ changed_property f (n - length c.props) cs) ≡ map bare_class (c ∷ cs)
      go true more = ap (λ (ps : List Property). record (bare_class c) { props = ps } ∷ map bare_class cs) (map_changed bare_property f n c.props bare_kept)
      go false more = ap (λ (l : List Class). bare_class c ∷ l) more

-- ---- what each class and body passes

before_end : {A : Type 0} (xs ys : List A) (n : ℕ) → n < length xs → slice_get (xs ++ ys) n ≡ slice_get xs n
before_end [] ys n h = absurd (omega (arith, h))
before_end (x ∷ xs) ys zero h = refl
before_end (x ∷ xs) ys (suc n) h = before_end xs ys n (omega (arith, h))

behind_end : {A : Type 0} (xs ys : List A) (n : ℕ) → length xs ≤ n → slice_get (xs ++ ys) n ≡ slice_get ys (n - length xs)
behind_end [] ys n h = ap (slice_get ys) (omega arith)
behind_end (x ∷ xs) ys zero h = absurd (omega (arith, h))
behind_end (x ∷ xs) ys (suc n) h = behind_end xs ys n (omega (arith, h)) ∙ ap (slice_get ys) (omega arith)

-- a test of classes that holds of one with other methods where these pass a test and are as many
pub record OfMethods (whole : Class → Bool) (each : Body → Bool) : Type 0 where
  pub methods : (c : Class) → whole c ≡ true → list_all each c.methods ≡ true
  pub replaced : (c : Class) (ms : List Body) → whole c ≡ true → length ms ≡ length c.methods → list_all each ms ≡ true → whole (record c { methods = ms }) ≡ true

module _ (f : Body → Body) (whole : Class → Bool) (each : Body → Bool) (tests : OfMethods whole each) where
  methods_pass : (n : ℕ) (cs : List Class) → list_all whole cs ≡ true → ((b : Body) → slice_get (methods_in cs) n ≡ Some b → each (f b) ≡ true) → list_all whole (changed_method f n cs) ≡ true
  methods_pass n [] h k = refl
  methods_pass n (c ∷ cs) h k = go (nat_lt n (length c.methods)) refl (λ past. methods_pass (n - length c.methods) cs (and_parts (whole c) (list_all whole cs) h).1 (λ b g. k b (behind_end c.methods (methods_in cs) n past ∙ g)))
    where
      go : (b : Bool) → nat_lt n (length c.methods) ≡ b → (length c.methods ≤ n → list_all whole (changed_method f (n - length c.methods) cs) ≡ true)
          → list_all whole (if b then record c { methods = changed f n c.methods } ∷ cs else c ∷ changed_method f (n - length c.methods) cs) ≡ true
      go true e more =
          let p = and_parts (whole c) (list_all whole cs) h in
          let inside = ltb-true n (length c.methods) e in
          let d = record c { methods = changed f n c.methods } in
          and_from (whole d) (list_all whole cs)
          (tests.replaced c (changed f n c.methods) p.0 (changed_count f n c.methods)
          (all_changed each f n c.methods (tests.methods c p.0) (λ b g. k b (before_end c.methods (methods_in cs) n inside ∙ g)))) p.1
      go false e more =
          let p = and_parts (whole c) (list_all whole cs) h in
          and_from (whole c) (list_all whole (changed_method f (n - length c.methods) cs)) p.0 (more (ltb-false n (length c.methods) e))

  pub body_passes : (n : ℕ) (r : Linked) → list_all each r.functions ≡ true → list_all whole r.classes ≡ true → ((b : Body) → slice_get (bodies r) n ≡ Some b → each (f b) ≡ true)
      → (list_all each (changed_body f n r).functions ≡ true) × (list_all whole (changed_body f n r).classes ≡ true)
  body_passes n r h i k = go (nat_lt n (length r.functions)) refl
    where
      go : (b : Bool) → nat_lt n (length r.functions) ≡ b
          → (list_all each (if b then record r { functions = changed f n r.functions } else record r { classes = changed_method f (n - length r.functions) r.classes }).functions ≡ true)
          × (list_all whole (if b then record r { functions = changed f n r.functions } else record r { classes = changed_method f (n - length r.functions) r.classes }).classes ≡ true)
      go true e =
          let inside = ltb-true n (length r.functions) e in
          (all_changed each f n r.functions h (λ b g. k b (before_end r.functions (methods_in r.classes) n inside ∙ g)), i)
      go false e =
          let past = ltb-false n (length r.functions) e in
          (h, methods_pass (n - length r.functions) r.classes i (λ b g. k b (behind_end r.functions (methods_in r.classes) n past ∙ g)))

counts_kept : (f : Body → Body) (n : ℕ) (cs : List Class) → length (changed_method f n cs) ≡ length cs
counts_kept f n [] = refl
counts_kept f n (c ∷ cs) = go (nat_lt n (length c.methods)) (counts_kept f (n - length c.methods) cs)
  where
    go : (b : Bool) → length (changed_method f (n - length c.methods) cs) ≡ length cs
        → length (if b then record c { methods = changed f n c.methods } ∷ cs else c ∷ changed_method f (n - length c.methods) cs) ≡ length (c ∷ cs)
    go true more = refl
    go false more = ap suc more

pub body_counts : (f : Body → Body) (n : ℕ) (r : Linked) → (length (changed_body f n r).functions ≡ length r.functions) × (length (changed_body f n r).classes ≡ length r.classes)
body_counts f n r = go (nat_lt n (length r.functions))
  where
    go : (b : Bool) → (length (if b then record r { functions = changed f n r.functions } else record r { classes = changed_method f (n - length r.functions) r.classes }).functions ≡ length r.functions)
        × (length (if b then record r { functions = changed f n r.functions } else record r { classes = changed_method f (n - length r.functions) r.classes }).classes ≡ length r.classes)
    go true = (changed_count f n r.functions, refl)
    go false = (refl, counts_kept f (n - length r.functions) r.classes)

-- ---- where the change is made

at_home : (o : Option ℕ) (p : ℕ) (bs : List Body) (hs : List Home) (i : ℕ) (h : Home) → slice_get (homes_at o p bs ++ hs) i ≡ Some h
    → ((i < length bs) × (h ≡ record { class = o; place = p + i })) ⊎ ((length bs ≤ i) × (slice_get hs (i - length bs) ≡ Some h))
at_home o p [] hs i h e = inr (omega arith, ap (slice_get hs) (omega arith) ∙ e)
at_home o p (b ∷ bs) hs zero h e =
    let s : record { class = o; place = p } ≡ h = cc in let z : p ≡ p + 0 = omega arith in
    inl (omega arith, sym s ∙ ap (λ (n : ℕ). record { class = o; place = n }) z)
at_home o p (b ∷ bs) hs (suc i) h e = go (at_home o (suc p) bs hs i h e)
  where
    go : ((i < length bs) × (h ≡ record { class = o; place = suc p + i })) ⊎ ((length bs ≤ i) × (slice_get hs (i - length bs) ≡ Some h))
        → ((suc i < suc (length bs)) × (h ≡ record { class = o; place = p + suc i })) ⊎ ((suc (length bs) ≤ suc i) × (slice_get hs (suc i - suc (length bs)) ≡ Some h))
    go (inl w) = let l = w.0 in let z : suc p + i ≡ p + suc i = omega arith in inl (omega (arith, l), w.1 ∙ ap (λ (n : ℕ). record { class = o; place = n }) z)
    go (inr w) = let l = w.0 in inr (omega (arith, l), ap (slice_get hs) (omega arith) ∙ w.1)

abbrev pub at_place : (Body → Body) → ℕ → Class → Class
at_place f p c = record c { methods = changed f p c.methods }

record InClass (f : Body → Body) (n : ℕ) (cs : List Class) (i : ℕ) (h : Home) : Type 0 where
  at : ℕ
  class_is : h.class ≡ Some (n + at)
  changes : changed_method f i cs ≡ changed (at_place f h.place) at cs

in_class : (f : Body → Body) (n : ℕ) (cs : List Class) (i : ℕ) (h : Home) → slice_get (homes_from n cs) i ≡ Some h → InClass f n cs i h
in_class f n [] i h e = absurd (cc)
in_class f n (c ∷ cs) i h e = go (at_home (Some n) 0 c.methods (homes_from (suc n) cs) i h e) (λ j k. in_class f (suc n) cs j h k)
  where
    go : ((i < length c.methods) × (h ≡ record { class = Some n; place = 0 + i })) ⊎ ((length c.methods ≤ i) × (slice_get (homes_from (suc n) cs) (i - length c.methods) ≡ Some h))
        → ((j : ℕ) → slice_get (homes_from (suc n) cs) j ≡ Some h → InClass f (suc n) cs j h) → InClass f n (c ∷ cs) i h
    go (inl w) more =
        let z : i ≡ 0 + i = omega arith in
        record {
          at = 0;
          class_is = ap (λ (k : Home). k.class) w.1 ∙ ap (λ m. Some m) (omega arith);
          changes =
              chosen (nat_lt i (length c.methods)) (at_place f i c ∷ cs) (c ∷ changed_method f (i - length c.methods) cs) (lt-ltb i (length c.methods) w.0)
              ∙ ap (λ (p : ℕ). at_place f p c ∷ cs) (z ∙ ap (λ (k : Home). k.place) (sym w.1));
        }
    go (inr w) more =
        let m = more (i - length c.methods) w.1 in
        record {
          at = suc m.at;
          class_is = m.class_is ∙ ap (λ k. Some k) (omega arith);
          changes =
              other (nat_lt i (length c.methods)) (at_place f i c ∷ cs) (c ∷ changed_method f (i - length c.methods) cs) (le-ltb i (length c.methods) w.0)
              ∙ ap (λ (l : List Class). c ∷ l) m.changes;
        }

-- the change of a body is one of the functions, or one of a class's methods
pub home_changes : (f : Body → Body) (r : Linked) (i : ℕ) (h : Home) → slice_get (homes_of r.functions r.classes) i ≡ Some h
    → ((h.class ≡ None) × (changed_body f i r ≡ record r { functions = changed f h.place r.functions }))
    ⊎ ((c : ℕ) × (h.class ≡ Some c) × (first_class ≤ c) × (changed_body f i r ≡ record r { classes = changed (at_place f h.place) (c - first_class) r.classes }))
home_changes f r i h e = go (at_home None 0 r.functions (homes_from first_class r.classes) i h e)
  where
    now : Linked
    now = record r { functions = changed f i r.functions }

    later : Linked
    later = record r { classes = changed_method f (i - length r.functions) r.classes }

    go : ((i < length r.functions) × (h ≡ record { class = None; place = 0 + i })) ⊎ ((length r.functions ≤ i) × (slice_get (homes_from first_class r.classes) (i - length r.functions) ≡ Some h))
        → ((h.class ≡ None) × (changed_body f i r ≡ record r { functions = changed f h.place r.functions }))
        ⊎ ((c : ℕ) × (h.class ≡ Some c) × (first_class ≤ c) × (changed_body f i r ≡ record r { classes = changed (at_place f h.place) (c - first_class) r.classes }))
    go (inl w) =
        let z : i ≡ 0 + i = omega arith in
        inl (
          ap (λ (k : Home). k.class) w.1,
          chosen (nat_lt i (length r.functions)) _ _ (lt-ltb i (length r.functions) w.0)
              ∙ ap (λ (p : ℕ). record { functions = changed f p r.functions; classes = r.classes }) (z ∙ ap (λ (k : Home). k.place) (sym w.1)),
        )
    go (inr w) =
        let m = in_class f first_class r.classes (i - length r.functions) h w.1 in
        let at : m.at ≡ first_class + m.at - first_class = omega arith in
        inr (
          first_class + m.at,
          m.class_is,
          omega arith,
          other (nat_lt i (length r.functions)) _ _ (le-ltb i (length r.functions) w.0)
              ∙ ap (λ (cs : List Class). record { functions = r.functions; classes = cs }) (m.changes ∙ ap (λ (k : ℕ). changed (at_place f h.place) k r.classes) at),
        )

-- ---- and of a property

abbrev pub held_at : (Property → Property) → ℕ → Class → Class
held_at f p c = record c { props = changed f p c.props }

record Owned (f : Property → Property) (n s : ℕ) (cs : List Class) (i c : ℕ) : Type 0 where
  at : ℕ
  before : ℕ
  class_is : c ≡ n + at
  first : slice_get (starts s (property_names cs)) at ≡ Some (s + before)
  inside : before ≤ i
  changes : changed_property f i cs ≡ changed (held_at f (i - before)) at cs

pub copies_end : (k n i : ℕ) (more : List ℕ) (c : ℕ) → slice_get (replicate k n ++ more) i ≡ Some c → ((i < k) × (c ≡ n)) ⊎ ((k ≤ i) × (slice_get more (i - k) ≡ Some c))
copies_end zero n i more c e = inr (omega arith, ap (slice_get more) (omega arith) ∙ e)
copies_end (suc k) n zero more c e = let s : n ≡ c = cc in inl (omega arith, sym s)
copies_end (suc k) n (suc i) more c e = go (copies_end k n i more c e)
  where
    go : ((i < k) × (c ≡ n)) ⊎ ((k ≤ i) × (slice_get more (i - k) ≡ Some c)) → ((suc i < suc k) × (c ≡ n)) ⊎ ((suc k ≤ suc i) × (slice_get more (suc i - suc k) ≡ Some c))
    go (inl w) = let l = w.0 in inl (omega (arith, l), w.1)
    go (inr w) = let l = w.0 in inr (omega (arith, l), ap (slice_get more) (omega arith) ∙ w.1)

owned : (f : Property → Property) (n s : ℕ) (cs : List Class) (i c : ℕ) → slice_get (property_owners_from n (property_names cs)) i ≡ Some c → Owned f n s cs i c
owned f n s [] i c e = absurd (cc)
owned f n s (d ∷ ds) i c e = go (copies_end count n i (property_owners_from (suc n) (property_names ds)) c e) (λ j k. owned f (suc n) (s + count) ds j c k)
  where
    names : List Name
    names = map (λ (p : Property). p.name) d.props

    count : ℕ
    count = length names

    counted : count ≡ length d.props
    counted = length-map d.props (λ (p : Property). p.name)

    go : ((i < count) × (c ≡ n)) ⊎ ((count ≤ i) × (slice_get (property_owners_from (suc n) (property_names ds)) (i - count) ≡ Some c))
        → ((j : ℕ) → slice_get (property_owners_from (suc n) (property_names ds)) j ≡ Some c → Owned f (suc n) (s + count) ds j c) → Owned f n s (d ∷ ds) i c
    go (inl w) more =
        let l = w.0 in let z : i - 0 ≡ i = omega arith in
        record {
          at = 0;
          before = 0;
          class_is = w.1 ∙ omega arith;
          first = ap (λ k. Some k) (omega arith);
          inside = omega arith;
          changes =
              chosen (nat_lt i (length d.props)) (held_at f i d ∷ ds) (d ∷ changed_property f (i - length d.props) ds) (lt-ltb i (length d.props) (omega (arith, l, counted)))
              ∙ ap (λ (p : ℕ). held_at f p d ∷ ds) (sym z);
        }
    go (inr w) more =
        let l = w.0 in
        let m = more (i - count) w.1 in
        let k = m.inside in
        let minus : i - length d.props ≡ i - count = omega (arith, counted) in
        let rest : i - count - m.before ≡ i - (count + m.before) = omega arith in
        record {
          at = suc m.at;
          before = count + m.before;
          class_is = m.class_is ∙ omega arith;
          first = m.first ∙ ap (λ k. Some k) (omega arith);
          inside = omega (arith, l, k);
          changes =
              other (nat_lt i (length d.props)) (held_at f i d ∷ ds) (d ∷ changed_property f (i - length d.props) ds) (le-ltb i (length d.props) (omega (arith, l, counted)))
              ∙ ap (λ (p : ℕ). d ∷ changed_property f p ds) minus
              ∙ ap (λ (cs : List Class). d ∷ cs) (m.changes ∙ ap (λ (p : ℕ). changed (held_at f p) m.at ds) rest);
        }

-- the class of a property's number, and where the class's properties begin
pub record HeldIn (f : Property → Property) (r : Linked) (i c : ℕ) : Type 0 where
  pub first : ℕ
  pub declared : first_class ≤ c
  pub starts_at : slice_get (starts 0 (all_properties r)) c ≡ Some first
  pub inside : first ≤ i
  pub changes : changed_property f (i - 1) r.classes ≡ changed (held_at f (i - first)) (c - first_class) r.classes

pub held_in : (f : Property → Property) (r : Linked) (i c : ℕ) → 0 < i → slice_get (property_owners_from 0 (all_properties r)) i ≡ Some c → HeldIn f r i c
held_in f r zero c h e = absurd (omega (arith, h))
held_in f r (suc i) c h e =
    let m = owned f 6 1 r.classes i c e in
    let k = m.inside in
    let is = m.class_is in
    let past : slice_get (starts 0 (all_properties r)) (suc (suc (suc (suc (suc (suc m.at)))))) ≡ Some (1 + m.before) = m.first in
    let six : suc (suc (suc (suc (suc (suc m.at))))) ≡ 6 + m.at = omega arith in
    let there : slice_get (starts 0 (all_properties r)) (6 + m.at) ≡ Some (1 + m.before) = ap (slice_get (starts 0 (all_properties r))) (sym six) ∙ past in
    record {
      first = 1 + m.before;
      declared = omega (arith, is);
      starts_at = ap (slice_get (starts 0 (all_properties r))) is ∙ there;
      inside = omega (arith, k);
      changes =
          let a : suc i - 1 ≡ i = omega arith in
          let b : i - m.before ≡ suc i - (1 + m.before) = omega arith in
          let d : m.at ≡ c - first_class = omega (arith, is) in
          ap (λ (p : ℕ). changed_property f p r.classes) a ∙ m.changes ∙ ap₂ (λ (p k : ℕ). changed (held_at f p) k r.classes) b d;
    }

-- ---- tests of classes that see properties

pub record OfProperties (whole : Class → Bool) (each : Property → Bool) : Type 0 where
  pub props : (c : Class) → whole c ≡ true → list_all each c.props ≡ true
  pub replaced : (c : Class) (ps : List Property) → whole c ≡ true → length ps ≡ length c.props → list_all each ps ≡ true → whole (record c { props = ps }) ≡ true

pub properties_pass : (f : Property → Property) (whole : Class → Bool) (each : Property → Bool) → OfProperties whole each → ((p : Property) → each (f p) ≡ true)
    → (n : ℕ) (cs : List Class) → list_all whole cs ≡ true → list_all whole (changed_property f n cs) ≡ true
properties_pass f whole each tests k n [] h = refl
properties_pass f whole each tests k n (c ∷ cs) h =
    go (nat_lt n (length c.props)) (properties_pass f whole each tests k (n - length c.props) cs (and_parts (whole c) (list_all whole cs) h).1)
  where
    go : (b : Bool) → list_all whole (changed_property f (n - length c.props) cs) ≡ true
        → list_all whole (if b then record c { props = changed f n c.props } ∷ cs else c ∷ changed_property f (n - length c.props) cs) ≡ true
    go true more =
        let p = and_parts (whole c) (list_all whole cs) h in
        let d = record c { props = changed f n c.props } in
        and_from (whole d) (list_all whole cs)
        (tests.replaced c (changed f n c.props) p.0 (changed_count f n c.props) (all_changed each f n c.props (tests.props c p.0) (λ q g. k q))) p.1
    go false more =
        let p = and_parts (whole c) (list_all whole cs) h in
        and_from (whole c) (list_all whole (changed_property f (n - length c.props) cs)) p.0 more

pub held_counts : (f : Property → Property) (n : ℕ) (cs : List Class) → length (changed_property f n cs) ≡ length cs
held_counts f n [] = refl
held_counts f n (c ∷ cs) = go (nat_lt n (length c.props)) (held_counts f (n - length c.props) cs)
  where
    go : (b : Bool) → length (changed_property f (n - length c.props) cs) ≡ length cs
        → length (if b then record c { props = changed f n c.props } ∷ cs else c ∷ changed_property f (n - length c.props) cs) ≡ length (c ∷ cs)
    go true more = refl
    go false more = ap suc more
