-- Names kept once, and bodies found by name.
use Rattle.std.proofs.Common.{◌≡◌, ◌<◌, ◌+◌, ℕ, suc, Bool, true, false, ◌||◌, if◌then◌else◌, cond, List, [], ◌∷◌, ◌++◌, map, take, drop, length, codes, get_or, slice_get, Option, Some, None, option_map, refl, sym, ap, subst, ◌∙◌, arith}
use Rattle.std.proofs.lemmas.List.{get_or-map, length-map}
use Rattle.std.proofs.lemmas.Option.{slice_get-map}
use Rattle.std.proofs.Math.Seq.{drop-cons}
use Rattle.hhbc_repo.specs.declared.parts.BodyParts.{BodyParts}
use Rattle.hhbc_repo.specs.declared.parts.ClassParts.{ClassParts}
use Rattle.hhbc_repo.specs.declared.repo.Const.{Const}
use Rattle.hhbc_repo.specs.LinkFaults.{Name, Whole, is_name, names, place_in, with_name, at_class, along, constants, properties, property_names}
use Rattle.hhbc_repo.specs.FirstNumbers.{Numbers, put, Finds}
use Rattle.hhbc_repo.specs.Once.{added, added_all, once, constant_tables, property_tables}
use Rattle.hhbc_repo.proofs.GivenAway.{given_made}
use Rattle.hhbc_repo.proofs.NumbersPut.{same_name, place_inside, place_step, next_finds}

-- ---- names kept once

added_when : (b : Bool) (all : List Name) (name : Name) → names all name ≡ b → added all name ≡ (if b then all else all ++ name ∷ [])
added_when b all name e = ap (λ (c : Bool). if c then all else all ++ name ∷ []) e

pub names_append : (xs ys : List Name) (q : Name) → names (xs ++ ys) q ≡ names xs q || names ys q
names_append [] ys q = refl
names_append (x ∷ xs) ys q = ap (λ b. is_name q x || b) (names_append xs ys q) ∙ joined (is_name q x) (names xs q) (names ys q)
  where
    joined : (a b c : Bool) → a || (b || c) ≡ (a || b) || c
    joined true b c = refl
    joined false b c = refl

names_added : (all : List Name) (name q : Name) → names (added all name) q ≡ names all q || is_name q name
names_added all name q = go (names all name) refl
  where
    kept : (b c : Bool) → (b ≡ true → c ≡ true) → c ≡ c || b
    kept true c h = h refl ∙ sym (ap (λ (d : Bool). d || true) (h refl))
    kept false true h = refl
    kept false false h = refl

    last : (c b : Bool) → c || (b || false) ≡ c || b
    last true b = refl
    last false true = refl
    last false false = refl

    go : (b : Bool) → names all name ≡ b → names (added all name) q ≡ names all q || is_name q name
    go true e =
        ap (λ l. names l q) (added_when true all name e)
        ∙ kept (is_name q name) (names all q) (λ h. ap (names all) (same_name q name h) ∙ e)
    go false e = ap (λ l. names l q) (added_when false all name e) ∙ names_append all (name ∷ []) q ∙ last (names all q) (is_name q name)

names_added_all : (all more : List Name) (q : Name) → names (added_all all more) q ≡ names all q || names more q
names_added_all all [] q = go (names all q)
  where
    go : (b : Bool) → b ≡ b || false
    go true = refl
    go false = refl
names_added_all all (name ∷ more) q =
    names_added_all (added all name) more q
    ∙ ap (λ b. b || names more q) (names_added all name q)
    ∙ joined (names all q) (is_name q name) (names more q)
  where
    joined : (a b c : Bool) → (a || b) || c ≡ a || (b || c)
    joined true b c = refl
    joined false b c = refl

names_once : (all : List Name) (q : Name) → names (once all) q ≡ names all q
names_once all q = names_added_all [] all q

map_once : {A : Type 0} (f : A → List Name) (xs : List A) → map (λ x. once (f x)) xs ≡ map once (map f xs)
map_once f [] = refl
map_once f (x ∷ xs) = ap (λ l. once (f x) ∷ l) (map_once f xs)

-- what is declared by a name, where each name is kept once
pub along_once : (table : List (List Name)) (cs : List ℕ) (q : Name) → names (along (map once table) cs) q ≡ names (along table cs) q
along_once table [] q = refl
along_once table (c ∷ cs) q =
    names_append (at_class (slice_get (map once table) c)) (along (map once table) cs) q
    ∙ ap (λ b. b || names (along (map once table) cs) q) (here (slice_get table c) (slice_get-map once table c))
    ∙ ap (λ b. names (at_class (slice_get table c)) q || b) (along_once table cs q)
    ∙ sym (names_append (at_class (slice_get table c)) (along table cs) q)
  where
    at : (o : Option (List Name)) → names (at_class (option_map once o)) q ≡ names (at_class o) q
    at None = refl
    at (Some ns) = names_once ns q

    here : (o : Option (List Name)) → slice_get (map once table) c ≡ option_map once o → names (at_class (slice_get (map once table) c)) q ≡ names (at_class o) q
    here o e = ap (λ p. names (at_class p) q) e ∙ at o

pub along_constants : (w : Whole) (cs : List ℕ) (q : Name) → names (along (constant_tables w.classes) cs) q ≡ names (along (constants w) cs) q
along_constants w cs q =
    ap (λ (ts : List (List Name)). names (along (([] ∷ [] ∷ [] ∷ [] ∷ [] ∷ [] ∷ []) ++ ts) cs) q) (map_once (λ (c : ClassParts). map (λ (k : Const). k.name) c.consts) w.classes)
    ∙ along_once (constants w) cs q

pub along_properties : (w : Whole) (cs : List ℕ) (q : Name) → names (along (property_tables w.classes) cs) q ≡ names (along (properties w) cs) q
along_properties w cs q =
    ap (λ (ts : List (List Name)). names (along (((codes "message" ∷ []) ∷ [] ∷ [] ∷ [] ∷ [] ∷ [] ∷ []) ++ ts) cs) q) (map_once property_names w.classes)
    ∙ along_once (properties w) cs q

-- ---- lists that grow by one for each

pub next_listed : {A B : Type 0} (f : A → B) (all whole new : List B) (xs : List A) (i : ℕ) (x : A) (y : B) → i < length xs → x ≡ get_or xs i x → y ≡ f x → new ≡ all ++ y ∷ []
    → all ++ map f (drop i xs) ≡ whole → new ++ map f (drop (i + 1) xs) ≡ whole
next_listed f all whole new xs i x y inside at is e old =
    let one : suc i ≡ i + 1 = omega arith in
    let left : drop i xs ≡ x ∷ drop (i + 1) xs = rw (sym one) (drop-cons xs i x inside ∙ ap (λ z. z ∷ drop (suc i) xs) (sym at)) in
    given_made f whole (drop i xs) (drop (i + 1) xs) x all new y left old e is

-- ---- bodies found by name

abbrev pub body_names : List BodyParts → List Name
body_names bs = map (λ (b : BodyParts). b.name) bs

abbrev pub body_there : List BodyParts → Option ℕ → Option BodyParts
body_there bs None = None
body_there bs (Some i) = slice_get bs i

-- the body that is at the place of its name
pub with_place : (bs : List BodyParts) (name : Name) → with_name bs name ≡ body_there bs (place_in (body_names bs) name)
with_place [] name = refl
with_place (b ∷ bs) name =
    ap (λ (w : Option BodyParts). if is_name name b.name then Some b else w) (with_place bs name)
    ∙ go (is_name name b.name) (place_in (body_names bs) name)
    ∙ ap (body_there (b ∷ bs)) (sym (place_step b.name (body_names bs) name))
  where
    go : (t : Bool) (o : Option ℕ) → (if t then Some b else body_there bs o) ≡ body_there (b ∷ bs) (cond t (Some 0) (option_map (λ k. suc k) o))
    go true o = refl
    go false None = refl
    go false (Some i) = refl

pub body_within : (bs : List BodyParts) (name : Name) (i : ℕ) → place_in (body_names bs) name ≡ Some i → i < length bs
body_within bs name i e = subst (λ n. i < n) (length-map bs (λ (b : BodyParts). b.name)) (place_inside (body_names bs) name i e)

pub with_append_some : (xs ys : List BodyParts) (q : Name) (b : BodyParts) → with_name xs q ≡ Some b → with_name (xs ++ ys) q ≡ Some b
with_append_some [] ys q b e = absurd (cc)
with_append_some (x ∷ xs) ys q b e = go (is_name q x.name) refl (with_append_some xs ys q b)
  where
    go : (t : Bool) → is_name q x.name ≡ t → (with_name xs q ≡ Some b → with_name (xs ++ ys) q ≡ Some b) → with_name (x ∷ xs ++ ys) q ≡ Some b
    go true h i = let w : Some x ≡ Some b = ap (λ (t : Bool). if t then Some x else with_name xs q) (sym h) ∙ e in ap (λ (t : Bool). if t then Some x else with_name (xs ++ ys) q) h ∙ w
    go false h i = let w : with_name xs q ≡ Some b = ap (λ (t : Bool). if t then Some x else with_name xs q) (sym h) ∙ e in ap (λ (t : Bool). if t then Some x else with_name (xs ++ ys) q) h ∙ i w

pub with_append_none : (xs ys : List BodyParts) (q : Name) → with_name xs q ≡ None → with_name (xs ++ ys) q ≡ with_name ys q
with_append_none [] ys q e = refl
with_append_none (x ∷ xs) ys q e = go (is_name q x.name) refl (with_append_none xs ys q)
  where
    go : (t : Bool) → is_name q x.name ≡ t → (with_name xs q ≡ None → with_name (xs ++ ys) q ≡ with_name ys q) → with_name (x ∷ xs ++ ys) q ≡ with_name ys q
    go true h i = let w : Some x ≡ None = ap (λ (t : Bool). if t then Some x else with_name xs q) (sym h) ∙ e in absurd (cc)
    go false h i = let w : with_name xs q ≡ None = ap (λ (t : Bool). if t then Some x else with_name xs q) (sym h) ∙ e in ap (λ (t : Bool). if t then Some x else with_name (xs ++ ys) q) h ∙ i w

pub next_body : (t new : Numbers) (bs : List BodyParts) (i : ℕ) (b : BodyParts) (name : Name) → i < length bs → get_or bs i b ≡ b → b.name ≡ name
    → Finds t (take i (body_names bs)) → new ≡ put t name i → Finds new (take (i + 1) (body_names bs))
next_body t new bs i b name inside at is f e =
    next_finds t new (body_names bs) i i b.name name refl (subst (λ n. i < n) (sym (length-map bs (λ (b : BodyParts). b.name))) inside)
    (get_or-map (λ (b : BodyParts). b.name) bs i b b.name inside ∙ ap (λ (k : BodyParts). k.name) at ∙ is) f e
