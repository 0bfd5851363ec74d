-- What is claimed of targets holds.
use Rattle.std.proofs.Common.{◌≡◌, ◌⊎◌, inl, inr, ℕ, refl, sym, subst, ap, ap₂, ◌∙◌, cond, Bool, true, false, ◌&&◌, ◌==◌, Some, None, Option, List, [], ◌∷◌, filter, length, arith}
use Rattle.std.specs.List.{list_any}
use Rattle.std.proofs.lemmas.Bool.{eqb-true, eq-eqb}
use Rattle.std.proofs.lemmas.Option.{slice_get_within}
use Rattle.type_lattice.specs.Classes.{has}
use Rattle.type_lattice.specs.Member.{obj_in}
use Rattle.type_lattice.proofs.Claimed.{parts_keep_members}
use Rattle.hhbc_repo.specs.declared.body.Body.{Body}
use Rattle.hhbc_repo.specs.Bodies.{bodies, body_at, numbers, tree_of}
use Rattle.hhbc_repo.specs.LookUps.{method_of}
use Rattle.class_index.specs.Laws.{IsTarget, TargetsAreMethods, TargetsHaveMethods, TargetsRise}
use Rattle.class_index.specs.Named.{is_called, is_number, takes}
use Rattle.class_index.proofs.NamesReached.{is_some_number, number_is}
use Rattle.class_index.proofs.PartsReached.{any_from, any_there, either, has_numbers, or_left, or_right}

pub has_filter : (p : ℕ → Bool) (xs : List ℕ) (x : ℕ) → has x xs ≡ true → p x ≡ true → has x (filter p xs) ≡ true
has_filter p [] x h k = absurd (cc)
has_filter p (y ∷ xs) x h k = go (p y) refl (either (x == y) (has x xs) h) (λ m. has_filter p xs x m k)
  where
    go : (b : Bool) → p y ≡ b → ((x == y) ≡ true) ⊎ (has x xs ≡ true) → (has x xs ≡ true → has x (filter p xs) ≡ true) → has x (cond b (y ∷ filter p xs) (filter p xs)) ≡ true
    go true e (inl m) more = or_left (x == y) (has x (filter p xs)) m
    go true e (inr m) more = or_right (x == y) (has x (filter p xs)) (more m)
    go false e (inl m) more = let w : p y ≡ true = subst (λ (z : ℕ). p z ≡ true) (eqb-true x y m) k in let n : true ≡ false = sym w ∙ e in absurd (cc)
    go false e (inr m) more = more m

pub from_filter : (p : ℕ → Bool) (xs : List ℕ) (x : ℕ) → has x (filter p xs) ≡ true → (has x xs ≡ true) × (p x ≡ true)
from_filter p [] x h = absurd (cc)
from_filter p (y ∷ xs) x h = go (p y) refl h (λ m. from_filter p xs x m)
  where
    later : (has x xs ≡ true) × (p x ≡ true) → (has x (y ∷ xs) ≡ true) × (p x ≡ true)
    later w = (or_right (x == y) (has x xs) w.0, w.1)

    first : p y ≡ true → ((x == y) ≡ true) ⊎ (has x (filter p xs) ≡ true) → (has x (filter p xs) ≡ true → (has x xs ≡ true) × (p x ≡ true)) → (has x (y ∷ xs) ≡ true) × (p x ≡ true)
    first e (inl m) more = (or_left (x == y) (has x xs) m, subst (λ (z : ℕ). p z ≡ true) (sym (eqb-true x y m)) e)
    first e (inr m) more = later (more m)

    go : (b : Bool) → p y ≡ b → has x (cond b (y ∷ filter p xs) (filter p xs)) ≡ true → (has x (filter p xs) ≡ true → (has x xs ≡ true) × (p x ≡ true)) → (has x (y ∷ xs) ≡ true) × (p x ≡ true)
    go true e m more = first e (either (x == y) (has x (filter p xs)) m) more
    go false e m more = later (more m)

pub any_rises : (give more t u : ℕ → Bool) → ((c : ℕ) → give c ≡ true → more c ≡ true) → ((c : ℕ) → t c ≡ true → u c ≡ true)
    → (cs : List ℕ) → list_any give (filter t cs) ≡ true → list_any more (filter u cs) ≡ true
any_rises give more t u f h [] k = absurd (cc)
any_rises give more t u f h (c ∷ cs) k = go (t c) refl k (any_rises give more t u f h cs)
  where
    behind : (b : Bool) → list_any more (filter u cs) ≡ true → list_any more (cond b (c ∷ filter u cs) (filter u cs)) ≡ true
    behind true m = or_right (more c) (list_any more (filter u cs)) m
    behind false m = m

    here : u c ≡ true → (give c ≡ true) ⊎ (list_any give (filter t cs) ≡ true) → (list_any give (filter t cs) ≡ true → list_any more (filter u cs) ≡ true)
        → list_any more (cond (u c) (c ∷ filter u cs) (filter u cs)) ≡ true
    here e (inl m) next = ap (λ (b : Bool). list_any more (cond b (c ∷ filter u cs) (filter u cs))) e ∙ or_left (more c) (list_any more (filter u cs)) (f c m)
    here e (inr m) next = behind (u c) (next m)

    go : (b : Bool) → t c ≡ b → list_any give (cond b (c ∷ filter t cs) (filter t cs)) ≡ true → (list_any give (filter t cs) ≡ true → list_any more (filter u cs) ≡ true)
        → list_any more (cond (u c) (c ∷ filter u cs) (filter u cs)) ≡ true
    go true e m next = here (h c e) (either (give c) (list_any give (filter t cs)) m) next
    go false e m next = behind (u c) (next m)

both_parts : (a b : Bool) → (a && b) ≡ true → (a ≡ true) × (b ≡ true)
both_parts true b h = (refl, h)
both_parts false b h = absurd (cc)

pub targets_have_methods : TargetsHaveMethods
targets_have_methods r part c name n b inside member method there =
    has_filter (λ m. is_called r part name m && takes (body_at r m) b.params) (numbers 0 (length (bodies r))) n
    (has_numbers 0 (length (bodies r)) n (omega arith) (let l = slice_get_within (bodies r) n b there in omega (arith, l)))
    (ap₂ (λ (x y : Bool). x && y)
    (any_there (λ d. is_number (method_of r d name) n) (λ d. obj_in (tree_of r) (Some d) part) (numbers 0 (length (tree_of r))) c
    (has_numbers 0 (length (tree_of r)) c (omega arith) (omega (arith, inside))) member (number_is (method_of r c name) n method))
    (ap (λ o. takes o b.params) there ∙ eq-eqb b.params b.params refl))

pub targets_are_methods : TargetsAreMethods
targets_are_methods r part name count n h =
    let w = from_filter (λ m. is_called r part name m && takes (body_at r m) count) (numbers 0 (length (bodies r))) n h in
    let v = both_parts (is_called r part name n) (takes (body_at r n) count) w.1 in
    let m = any_from (λ d. is_number (method_of r d name) n) (λ d. obj_in (tree_of r) (Some d) part) (numbers 0 (length (tree_of r))) v.0 in
    go (body_at r n) refl v.1 m.0 m.1 (is_some_number (method_of r m.0 name) n m.2)
  where
    go : (o : Option Body) → body_at r n ≡ o → takes o count ≡ true → (c : ℕ) → obj_in (tree_of r) (Some c) part ≡ true → method_of r c name ≡ Some n → IsTarget r part name count n
    go None e k c m f = absurd (cc)
    go (Some b) e k c m f = record { class = c; body = b; of_part = m; method = f; there = e; takes = eqb-true b.params count k }

pub targets_rise : TargetsRise
targets_rise r sound a b name count n le h =
    let w = from_filter (λ m. is_called r a name m && takes (body_at r m) count) (numbers 0 (length (bodies r))) n h in
    let v = both_parts (is_called r a name n) (takes (body_at r n) count) w.1 in
    has_filter (λ m. is_called r b name m && takes (body_at r m) count) (numbers 0 (length (bodies r))) n w.0
    (ap₂ (λ (x y : Bool). x && y)
    (any_rises (λ c. is_number (method_of r c name) n) (λ c. is_number (method_of r c name) n) (λ c. obj_in (tree_of r) (Some c) a) (λ c. obj_in (tree_of r) (Some c) b) (λ c k. k)
    (λ c k. (parts_keep_members (tree_of r) sound.forest).objects (Some c) a b le k) (numbers 0 (length (tree_of r))) v.0) v.1)
