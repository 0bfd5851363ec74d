-- Laws of keys and of lists of distinct keys.
use Rattle.std.proofs.Common.{◌≡◌, ℕ, zero, suc, ◌+◌, Bool, true, false, List, [], ◌∷◌, ◌++◌, length, refl, ap, sym, ◌∙◌, ◌||◌, arith, cond, Option, Some, None, IsSome, is_some, nat_lt, subst, slice_get}
use Rattle.std.specs.List.{position_or_len, remove, list_any}
use Rattle.std.proofs.lemmas.Slice.Eq.{bytes_eq-Decides}
use Rattle.std.proofs.lemmas.Bool.Decides.{Decides-int_eq}
use Rattle.hack_values.specs.contracts.key.KeyPartialEq.TheImpl as derived
use Rattle.hack_values.specs.declared.key.Key.{Key}
use Rattle.hack_values.specs.declared.key.Key.TheVariants.{Int, Str}
use Rattle.hack_values.specs.Keys.{key_eq, has_key, distinct, place, key_weight, keys_weight}

pub key_eq-to : (j k : Key) → key_eq j k ≡ true → j ≡ k
key_eq-to (Int a) (Int b) e = ap Int ((Decides-int_eq a b).0 e)
key_eq-to (Str a) (Str b) e = ap Str ((bytes_eq-Decides a b).0 e)
key_eq-to (Int a) (Str b) e = absurd (cc)
key_eq-to (Str a) (Int b) e = absurd (cc)

pub key_eq-refl : (k : Key) → key_eq k k ≡ true
key_eq-refl (Int a) = (Decides-int_eq a a).1 refl
key_eq-refl (Str a) = (bytes_eq-Decides a a).1 refl

pub ruleset keys = (key_eq-to, key_eq-refl)

-- a key without a place is not there
none_from : {X : Type 0} (b : Bool) (x : X) → cond b (Some x) None ≡ None → b ≡ false
none_from true x e = absurd (cc)
none_from false x e = refl

by_test : {P : Type 0} (b : Bool) → (b ≡ true → P) → (b ≡ false → P) → P
by_test true f g = f refl
by_test false f g = g refl

has_key-past : (k : Key) (ks : List Key) → nat_lt (position_or_len (key_eq k) ks) (length ks) ≡ false → has_key k ks ≡ false
has_key-past k [] e = refl
has_key-past k (j ∷ ks) e = by_test (key_eq k j) (λ h. absurd (grind (arith, e, h))) (λ h. grind (arith, e, h, has_key-past k ks))

pub has_key-no_place : (k : Key) (ks : List Key) → place k ks ≡ None → has_key k ks ≡ false
has_key-no_place k ks e = has_key-past k ks (none_from (nat_lt (position_or_len (key_eq k) ks) (length ks)) (position_or_len (key_eq k) ks) e)

has_key-remove : (k : Key) (ks : List Key) (at : ℕ) → has_key k ks ≡ false → has_key k (remove ks at) ≡ false
has_key-remove k [] zero e = refl
has_key-remove k [] (suc at) e = refl
has_key-remove k (j ∷ ks) zero e = grind (arith, e)
has_key-remove k (j ∷ ks) (suc at) e = grind (arith, e, has_key-remove k ks at)

pub distinct-remove : (ks : List Key) (at : ℕ) → distinct ks ≡ true → distinct (remove ks at) ≡ true
distinct-remove [] zero e = refl
distinct-remove [] (suc at) e = refl
distinct-remove (k ∷ ks) zero e = grind (arith, e)
distinct-remove (k ∷ ks) (suc at) e = grind (arith, e, has_key-remove k ks at, distinct-remove ks at)

has_key-push : (j k : Key) (ks : List Key) → has_key j ks ≡ false → key_eq j k ≡ false → has_key j (ks ++ k ∷ []) ≡ false
has_key-push j k [] e f = grind (arith, f)
has_key-push j k (l ∷ ks) e f = grind (arith, e, f, has_key-push j k ks)

not_true : (b : Bool) → (b ≡ true → b ≡ false) → b ≡ false
not_true true h = h refl
not_true false h = refl

pub key_eq-back : (j k : Key) → key_eq j k ≡ false → key_eq k j ≡ false
key_eq-back j k e =
    not_true (key_eq k j) (λ h. let same : key_eq j j ≡ false = subst (λ x. key_eq j x ≡ false) (key_eq-to k j h) e in let itself = key_eq-refl j in absurd (cc))

distinct-push_absent : (k : Key) (ks : List Key) → distinct ks ≡ true → has_key k ks ≡ false → distinct (ks ++ k ∷ []) ≡ true
distinct-push_absent k [] e f = refl
distinct-push_absent k (l ∷ ks) e f = grind (arith, e, f, has_key-push l k ks, distinct-push_absent k ks, key_eq-back k l)

pub distinct_push : (k : Key) (ks : List Key) → distinct ks ≡ true → place k ks ≡ None → distinct (ks ++ k ∷ []) ≡ true
distinct_push k ks e f = distinct-push_absent k ks e (has_key-no_place k ks f)

pub ruleset removes = (distinct-remove)

pub ruleset pushes = (distinct_push)

pub keys_weight-push : (ks : List Key) (k : Key) → keys_weight (ks ++ k ∷ []) ≡ keys_weight ks + key_weight k
keys_weight-push [] k = omega arith
keys_weight-push (j ∷ ks) k = omega (arith, keys_weight-push ks k)

pub keys_weight-remove : (ks : List Key) (at : ℕ) (k : Key) → slice_get ks at ≡ Some k → keys_weight ks ≡ keys_weight (remove ks at) + key_weight k
keys_weight-remove [] at k e = absurd (cc)
keys_weight-remove (j ∷ ks) zero k e = let same : j ≡ k = cc in let weigh = ap key_weight same in omega (arith, weigh)
keys_weight-remove (j ∷ ks) (suc at) k e = omega (arith, keys_weight-remove ks at k e)

pub ruleset weighs = (keys_weight-push, keys_weight-remove)

-- a key has a place exactly where it is there
position_or_len-absent : (k : Key) (ks : List Key) → has_key k ks ≡ false → nat_lt (position_or_len (key_eq k) ks) (length ks) ≡ false
position_or_len-absent k [] e = refl
position_or_len-absent k (j ∷ ks) e = by_test (key_eq k j) (λ h. absurd (grind (arith, e, h))) (λ h. grind (arith, e, h, position_or_len-absent k ks))

has_key-at_place : (k : Key) (ks : List Key) (b : Bool) → has_key k ks ≡ b → IsSome (place k ks) → has_key k ks ≡ true
has_key-at_place k ks true e h = e
has_key-at_place k ks false e h = absurd (grind (arith, position_or_len-absent k ks e, h))

place-there : (k : Key) (ks : List Key) (o : Option ℕ) → place k ks ≡ o → has_key k ks ≡ true → IsSome (place k ks)
place-there k ks None e h = let absent = has_key-no_place k ks e in absurd (cc)
place-there k ks (Some at) e h = ap is_some e

pub has_key-found : (r : Option ℕ) (k : Key) (ks : List Key) → r ≡ place k ks → IsSome r → has_key k ks ≡ true
has_key-found r k ks e h = has_key-at_place k ks (has_key k ks) refl (subst (λ o. IsSome o) e h)

pub found-has_key : (r : Option ℕ) (k : Key) (ks : List Key) → r ≡ place k ks → has_key k ks ≡ true → IsSome r
found-has_key r k ks e h = subst (λ o. IsSome o) (sym e) (place-there k ks (place k ks) refl h)

pub ruleset places = (has_key-found, found-has_key)

-- a table of keys knows by its own test whether a key is there
any-absent : (k : Key) (ks : List Key) → has_key k ks ≡ false → list_any (key_eq k) ks ≡ false
any-absent k [] e = refl
any-absent k (j ∷ ks) e = by_test (key_eq k j) (λ h. absurd (grind (arith, e, h))) (λ h. grind (arith, e, h, any-absent k ks))

derived-key_eq : (a b : Key) → derived.eq-value.it a b ≡ key_eq a b
derived-key_eq (Int a) (Int b) = refl
derived-key_eq (Str a) (Str b) = refl
derived-key_eq (Int a) (Str b) = refl
derived-key_eq (Str a) (Int b) = refl

any-derived : (k : Key) (ks : List Key) → list_any (derived.eq-value.it k) ks ≡ list_any (key_eq k) ks
any-derived k [] = refl
any-derived k (j ∷ ks) = λ i. derived-key_eq k j i || any-derived k ks i

pub any-no_place : (k : Key) (ks : List Key) → place k ks ≡ None → list_any (derived.eq-value.it k) ks ≡ false
any-no_place k ks e = any-derived k ks ∙ any-absent k ks (has_key-no_place k ks e)
