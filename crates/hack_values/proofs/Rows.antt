-- Lists of cells and lists of entries as values.
use Rattle.std.proofs.Common.{◌≡◌, ℕ, zero, suc, ◌+◌, ◌<◌, ◌≤◌, max, List, [], ◌∷◌, ◌++◌, length, refl, ap, sym, ◌∙◌, arith, Some, slice_set, slice_get, slice_index_or}
use Rattle.std.specs.List.{zip, remove}
use base.Fml.{GName}
use borrow.Follows.Closed.{read_of}
use mathlib.Core.Option.{Option as May}
use Rattle.std.specs.Map.{keys_of, values_of}
use Rattle.std.proofs.lemmas.List.{map-set}
use Rattle.hack_values.specs.declared.key.Key.{Key}
use Rattle.hack_values.specs.declared.cell.Cell.{Cell}
use Rattle.hack_values.specs.Keys.{set_value, keys_weight, key_weight}
use Rattle.hack_values.specs.Val.{Val, weight, depth, weights, depths, entry_weights, entry_depths}
use Rattle.hack_values.specs.View.{val_of, vals_of, vals-inj}

pub vals-set : (cs : List Cell) (at : ℕ) (c : Cell) → vals_of (slice_set cs at c) ≡ slice_set (vals_of cs) at (val_of c)
vals-set cs at c = map-set val_of cs at c

pub vals-get : (cs : List Cell) (at : ℕ) (c : Cell) → slice_get cs at ≡ Some c → slice_get (vals_of cs) at ≡ Some (val_of c)
vals-get [] at c e = absurd (cc)
vals-get (d ∷ cs) zero c e = let same : d ≡ c = cc in ap (λ x. Some (val_of x)) same
vals-get (d ∷ cs) (suc at) c e = vals-get cs at c e

pub length-vals : (cs : List Cell) → length (vals_of cs) ≡ length cs
length-vals [] = refl
length-vals (c ∷ cs) = ap suc (length-vals cs)

pub ruleset elements = (vals-set, vals-get, length-vals)

pub length-entries : (ks : List Key) (cs : List Cell) → length cs ≡ length ks → length (zip ks (vals_of cs)) ≡ length ks
length-entries [] cs e = refl
length-entries (k ∷ ks) [] e = absurd (omega arith)
length-entries (k ∷ ks) (c ∷ cs) e = omega (arith, length-entries ks cs (omega arith))

pub keys-entries : (ks : List Key) (cs : List Cell) → length cs ≡ length ks → keys_of (zip ks (vals_of cs)) ≡ ks
keys-entries [] cs e = refl
keys-entries (k ∷ ks) [] e = absurd (omega arith)
keys-entries (k ∷ ks) (c ∷ cs) e = ap (λ rest. k ∷ rest) (keys-entries ks cs (omega arith))

pub values-entries : (ks : List Key) (cs : List Cell) → length cs ≡ length ks → values_of (zip ks (vals_of cs)) ≡ vals_of cs
values-entries [] [] e = refl
values-entries [] (c ∷ cs) e = absurd (omega arith)
values-entries (k ∷ ks) [] e = absurd (omega arith)
values-entries (k ∷ ks) (c ∷ cs) e = ap (λ rest. val_of c ∷ rest) (values-entries ks cs (omega arith))

pub set-entries : (ks : List Key) (cs : List Cell) (at : ℕ) (c : Cell) → zip ks (vals_of (slice_set cs at c)) ≡ set_value (zip ks (vals_of cs)) at (val_of c)
set-entries [] cs at c = refl
set-entries (k ∷ ks) [] at c = refl
set-entries (k ∷ ks) (d ∷ cs) zero c = refl
set-entries (k ∷ ks) (d ∷ cs) (suc at) c = ap (λ rest. (k, val_of d) ∷ rest) (set-entries ks cs at c)

pub push-entries : (ks : List Key) (cs : List Cell) (k : Key) (c : Cell) → length cs ≡ length ks → zip (ks ++ k ∷ []) (vals_of (cs ++ c ∷ [])) ≡ zip ks (vals_of cs) ++ (k, val_of c) ∷ []
push-entries [] [] k c e = refl
push-entries [] (d ∷ cs) k c e = absurd (omega arith)
push-entries (j ∷ ks) [] k c e = absurd (omega arith)
push-entries (j ∷ ks) (d ∷ cs) k c e = ap (λ rest. (j, val_of d) ∷ rest) (push-entries ks cs k c (omega arith))

pub ruleset entries = (length-entries, keys-entries, values-entries, set-entries, push-entries, vals-get, length-vals)

-- what is lent is the same where the two functions agree
pub lent : {D E : Type 0} (n : May GName) {F G : E → D} {v w : D} → ((x : E) → F x ≡ G x) → v ≡ w → read_of n F v ≡ read_of n G w
lent n p q = λ i. read_of n (λ x. p x i) (q i)

pub get-entries : (ks : List Key) (cs : List Cell) (at : ℕ) (k : Key) (c : Cell) → slice_get ks at ≡ Some k → slice_get cs at ≡ Some c → slice_get (zip ks (vals_of cs)) at ≡ Some (k, val_of c)
get-entries [] cs at k c p q = absurd (cc)
get-entries (j ∷ ks) [] at k c p q = absurd (cc)
get-entries (j ∷ ks) (d ∷ cs) zero k c p q = let key : j ≡ k = cc in let value : d ≡ c = cc in λ t. Some (key t, val_of (value t))
get-entries (j ∷ ks) (d ∷ cs) (suc at) k c p q = get-entries ks cs at k c p q

pub entry-at : (ks : List Key) (cs : List Cell) (at : ℕ) (k : Key) (c : Cell) → length cs ≡ length ks → at < length ks → k ≡ slice_index_or ks at k → c ≡ slice_index_or cs at c → slice_get (zip ks (vals_of cs)) at ≡ Some (k, val_of c)
entry-at [] cs at k c n h p q = absurd (omega arith)
entry-at (j ∷ ks) [] at k c n h p q = absurd (omega arith)
entry-at (j ∷ ks) (d ∷ cs) zero k c n h p q = λ t. Some (sym p t, val_of (sym q t))
entry-at (j ∷ ks) (d ∷ cs) (suc at) k c n h p q = entry-at ks cs at k c (omega arith) (omega arith) p q

pub ruleset entry_get = (get-entries, entry-at)

pub length-remove_beside : {X : Type 0} (xs : List X) (at : ℕ) (ks : List Key) → length xs ≡ length ks → length (remove xs at) ≡ length (remove ks at)
length-remove_beside [] zero [] e = refl
length-remove_beside [] (suc at) [] e = refl
length-remove_beside [] at (k ∷ ks) e = absurd (omega arith)
length-remove_beside (x ∷ xs) at [] e = absurd (omega arith)
length-remove_beside (x ∷ xs) zero (k ∷ ks) e = omega arith
length-remove_beside (x ∷ xs) (suc at) (k ∷ ks) e = ap suc (length-remove_beside xs at ks (omega arith))

pub remove-entries : (ks : List Key) (cs : List Cell) (at : ℕ) → length cs ≡ length ks → zip (remove ks at) (vals_of (remove cs at)) ≡ remove (zip ks (vals_of cs)) at
remove-entries [] cs zero e = refl
remove-entries [] cs (suc at) e = refl
remove-entries (k ∷ ks) [] at e = absurd (omega arith)
remove-entries (k ∷ ks) (c ∷ cs) zero e = refl
remove-entries (k ∷ ks) (c ∷ cs) (suc at) e = ap (λ rest. (k, val_of c) ∷ rest) (remove-entries ks cs at (omega arith))

pub ruleset entry_remove = (length-remove_beside, remove-entries)

pub entry-weights : (ks : List Key) (cs : List Cell) → length cs ≡ length ks → entry_weights (zip ks (vals_of cs)) ≡ keys_weight ks + weights (vals_of cs)
entry-weights [] [] e = omega arith
entry-weights [] (c ∷ cs) e = absurd (omega arith)
entry-weights (k ∷ ks) [] e = absurd (omega arith)
entry-weights (k ∷ ks) (c ∷ cs) e = omega (arith, entry-weights ks cs (omega arith))

pub entry-depths : (ks : List Key) (cs : List Cell) → length cs ≡ length ks → entry_depths (zip ks (vals_of cs)) ≡ depths (vals_of cs)
entry-depths [] [] e = omega arith
entry-depths [] (c ∷ cs) e = absurd (omega arith)
entry-depths (k ∷ ks) [] e = absurd (omega arith)
entry-depths (k ∷ ks) (c ∷ cs) e = omega (arith, entry-depths ks cs (omega arith))

pub ruleset entry_sums = (entry-weights, entry-depths)

pub entries-inj : (ks ls : List Key) (cs ds : List Cell) → length cs ≡ length ks → length ds ≡ length ls → zip ks (vals_of cs) ≡ zip ls (vals_of ds) → (ks ≡ ls) × (cs ≡ ds)
entries-inj ks ls cs ds p q e = (
  sym (keys-entries ks cs p) ∙ ap keys_of e ∙ keys-entries ls ds q,
  vals-inj cs ds (sym (values-entries ks cs p) ∙ ap values_of e ∙ values-entries ls ds q),
)

pub ruleset by_parts = (entries-inj)

pub vals-push : (cs : List Cell) (c : Cell) → vals_of (cs ++ c ∷ []) ≡ vals_of cs ++ val_of c ∷ []
vals-push [] c = refl
vals-push (d ∷ cs) c = ap (λ rest. val_of d ∷ rest) (vals-push cs c)

pub weights-push : (vs : List Val) (v : Val) → weights (vs ++ v ∷ []) ≡ weights vs + weight v
weights-push [] v = omega arith
weights-push (w ∷ vs) v = omega (arith, weights-push vs v)

pub depths-push : (vs : List Val) (v : Val) → depths (vs ++ v ∷ []) ≡ max (depths vs) (depth v)
depths-push [] v = omega arith
depths-push (w ∷ vs) v = omega (arith, depths-push vs v)

pub ruleset grows = (vals-push, weights-push, depths-push)

pub entry_weights-push : (es : List (Key × Val)) (k : Key) (v : Val) → entry_weights (es ++ (k, v) ∷ []) ≡ entry_weights es + (key_weight k + weight v)
entry_weights-push [] k v = omega arith
entry_weights-push (e ∷ es) k v = omega (arith, entry_weights-push es k v)

pub entry_depths-push : (es : List (Key × Val)) (k : Key) (v : Val) → entry_depths (es ++ (k, v) ∷ []) ≡ max (entry_depths es) (depth v)
entry_depths-push [] k v = omega arith
entry_depths-push (e ∷ es) k v = omega (arith, entry_depths-push es k v)

pub ruleset entry_grows = (entry_weights-push, entry_depths-push)

-- an element that is put back
pub set-set_back : (cs : List Cell) (at : ℕ) (c d : Cell) → d ≡ slice_index_or cs at d → slice_set (slice_set cs at c) at d ≡ cs
set-set_back [] at c d e = refl
set-set_back (x ∷ cs) zero c d e = ap (λ y. y ∷ cs) e
set-set_back (x ∷ cs) (suc at) c d e = ap (λ rest. x ∷ rest) (set-set_back cs at c d e)

pub ruleset entry_back = (set-set_back)

-- lists of one length, each with one more
pub length-push : {X Y : Type 0} (xs : List X) (ys : List Y) (x : X) (y : Y) → length xs ≡ length ys → length (xs ++ x ∷ []) ≡ length (ys ++ y ∷ [])
length-push [] [] x y e = refl
length-push [] (b ∷ ys) x y e = absurd (omega arith)
length-push (a ∷ xs) [] x y e = absurd (omega arith)
length-push (a ∷ xs) (b ∷ ys) x y e = ap suc (length-push xs ys x y (omega arith))

-- what stands at a place, and the others
pub weights-others : (cs : List Cell) (at : ℕ) (c : Cell) → at < length cs → c ≡ slice_index_or cs at c → weights (vals_of cs) ≡ weights (remove (vals_of cs) at) + weight (val_of c)
weights-others [] at c h e = absurd (omega arith)
weights-others (d ∷ cs) zero c h e = let same : weight (val_of c) ≡ weight (val_of d) = ap (λ x. weight (val_of x)) e in omega (arith, same)
weights-others (d ∷ cs) (suc at) c h e = omega (arith, weights-others cs at c (omega arith) e)

pub depths-others : (cs : List Cell) (at : ℕ) (c : Cell) → at < length cs → c ≡ slice_index_or cs at c → depths (vals_of cs) ≡ max (depths (remove (vals_of cs) at)) (depth (val_of c))
depths-others [] at c h e = absurd (omega arith)
depths-others (d ∷ cs) zero c h e = let same : depth (val_of c) ≡ depth (val_of d) = ap (λ x. depth (val_of x)) e in omega (arith, same)
depths-others (d ∷ cs) (suc at) c h e = omega (arith, depths-others cs at c (omega arith) e)

pub remove-beyond : {X : Type 0} (xs : List X) (at : ℕ) → length xs ≤ at → remove xs at ≡ xs
remove-beyond [] zero h = refl
remove-beyond [] (suc at) h = refl
remove-beyond (x ∷ xs) zero h = absurd (omega arith)
remove-beyond (x ∷ xs) (suc at) h = ap (λ rest. x ∷ rest) (remove-beyond xs at (omega arith))

pub remove-set : {X : Type 0} (xs : List X) (at : ℕ) (x : X) → remove (slice_set xs at x) at ≡ remove xs at
remove-set [] at x = refl
remove-set (y ∷ xs) zero x = refl
remove-set (y ∷ xs) (suc at) x = ap (λ rest. y ∷ rest) (remove-set xs at x)

pub ruleset others = (weights-others, depths-others, remove-beyond, remove-set)
