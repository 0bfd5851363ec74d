-- What is found by its name, in a list and in a table whose keys are the names.
use Rattle.std.proofs.Common.{◌≡◌, ℕ, Bool, true, false, cond, is_some, List, [], ◌∷◌, ◌++◌, map, drop, get_or, Option, Some, None, option_map, option_copied, Bor, Result, Ok, Err, OnOk, OnErr, IfSome, refl, ap, ap₂, sym, subst, ◌∙◌, true≢false}
use Rattle.std.proofs.lemmas.List.{map-append}
use Rattle.std.proofs.lemmas.Slice.Eq.{bytes_eq-Decides}
use Rattle.std.specs.Map.{keys_of, values_of, lookup}
use Rattle.std.specs.Str.{bytes_eq}
use Rattle.std.specs.declared.vec.Vec.{Vec}
use Rattle.indexmap.specs.IndexMap.{IndexMap, insert_entry, get}
use Rattle.indexmap.proofs.CallerLemmas.{insert_entry-new}
use Rattle.native_table.specs.Rows.{named}

none-there : {A : Type 0} (o : Option A) → is_some o ≡ false → o ≡ None
none-there None h = refl
none-there (Some a) h = absurd (true≢false h)

pub some-each : {A : Type 0} {P : A → Type 0} (o : Option A) → ((a : A) → o ≡ Some a → P a) → IfSome o P
some-each None h = tt
some-each (Some a) h = h a refl

-- in a list, and in what is made of each of its elements, where that keeps the name
pub named-map : {A B : Type 0} (f : A → B) (name_of : B → List ℕ) (name : List ℕ) (all : List A) → option_map f (named (λ a. name_of (f a)) all name) ≡ named name_of (map f all) name
named-map f name_of name [] = refl
named-map {A} {B} f name_of name (a ∷ more) = by (bytes_eq name (name_of (f a))) (named-map f name_of name more)
  where
    by : (t : Bool) → option_map f (named (λ x. name_of (f x)) more name) ≡ named name_of (map f more) name
        → option_map f (cond t (Some a) (named (λ x. name_of (f x)) more name)) ≡ cond t (Some (f a)) (named name_of (map f more) name)
    by true rest = refl
    by false rest = rest

-- what is found has the name
pub found-name : {A : Type 0} (name_of : A → List ℕ) (name : List ℕ) (all : List A) (a : A) → named name_of all name ≡ Some a → name_of a ≡ name
found-name name_of name [] a h = cc
found-name {A} name_of name (b ∷ more) a h = by (bytes_eq name (name_of b)) refl h (found-name name_of name more a)
  where
    by : (t : Bool) → bytes_eq name (name_of b) ≡ t → cond t (Some b) (named name_of more name) ≡ Some a → (named name_of more name ≡ Some a → name_of a ≡ name) → name_of a ≡ name
    by true e s rest = let same : b ≡ a = cc in ap name_of (sym same) ∙ sym ((bytes_eq-Decides name (name_of b)).0 e)
    by false e s rest = rest s

module _ {A S : Type 0} (name_of : A → List ℕ) where
  -- the keys are the names
  abbrev pub IsKeyed : List (Vec ℕ S × A) → Type 0
  IsKeyed es = map (λ k. k.items) (keys_of es) ≡ map name_of (values_of es)

  pub lookup-named : (name : List ℕ) (es : List (Vec ℕ S × A)) → IsKeyed es → lookup (λ k. bytes_eq name k.items) es ≡ named name_of (values_of es) name
  lookup-named name [] h = refl
  lookup-named name (e ∷ es) h = ap₂ (λ key rest. cond (bytes_eq name key) (Some e.1) rest) (ap (λ l. get_or l 0 []) h) (lookup-named name es (ap (drop 1) h))

  -- where nothing was found by a name, its key isn't there
  pub absent-key : (es : List (Vec ℕ S × A)) → IsKeyed es → (key : Vec ℕ S) (asked : List ℕ) (found : Option (Bor A)) → key.items ≡ asked
      → option_copied found ≡ named name_of (values_of es) asked → is_some found ≡ false → lookup (λ k. bytes_eq key.items k.items) es ≡ None
  absent-key es h key asked found n is nothing =
      lookup-named key.items es h ∙ ap (named name_of (values_of es)) n ∙ sym is ∙ ap option_copied (none-there found nothing)

  pub keyed-append : (es : List (Vec ℕ S × A)) (key : Vec ℕ S) (a : A) → IsKeyed es → key.items ≡ name_of a → IsKeyed (es ++ (key, a) ∷ [])
  keyed-append [] key a h n = ap (λ x. x ∷ []) n
  keyed-append (e ∷ es) key a h n = ap₂ (λ x l. x ∷ l) (ap (λ l. get_or l 0 []) h) (keyed-append es key a (ap (drop 1) h) n)

  module _ {H : Type 0} (eq : Vec ℕ S → Vec ℕ S → Bool) (m : IndexMap (Vec ℕ S) A H) (key : Vec ℕ S) (a : A) (absent : get eq m key ≡ None) where
    pub values-insert : values_of (insert_entry eq m.entries key a) ≡ values_of m.entries ++ a ∷ []
    values-insert = ap values_of (insert_entry-new eq m key a absent) ∙ map-append (λ e. e.1) m.entries ((key, a) ∷ [])

    -- after a call that puts a native under its name, or refuses
    pub keyed-insert : {V E : Type 0} (r : Result V E) (es : List (Vec ℕ S × A)) → OnOk r (es ≡ insert_entry eq m.entries key a) → OnErr r (es ≡ m.entries)
        → key.items ≡ name_of a → IsKeyed m.entries → IsKeyed es
    keyed-insert (Ok v) es put kept n h = subst IsKeyed (sym (put ∙ insert_entry-new eq m key a absent)) (keyed-append m.entries key a h n)
    keyed-insert (Err e) es put kept n h = subst IsKeyed (sym kept) h
