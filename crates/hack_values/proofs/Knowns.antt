-- Sums over all elements, from what is known of all but one.
use Rattle.std.proofs.Common.{◌≡◌, ℕ, ◌+◌, ◌<◌, ◌≤◌, max, List, [], ◌∷◌, length, refl, ap, sym, subst, ◌∙◌, ◌⊎◌, arith, zero, suc, Option, Some, None, IsTrue, inl, inr, ◌↔◌, slice_get, slice_index_or, slice_set}
use Rattle.std.specs.List.{remove, zip}
use Rattle.std.specs.Option.{ForSome}
use Rattle.hack_values.specs.declared.cell.Cell.{Cell}
use Rattle.hack_values.specs.declared.key.Key.{Key}
use Rattle.hack_values.specs.declared.known.Depth.{Depth}
use Rattle.hack_values.specs.declared.known.Known.{Known}
use Rattle.hack_values.specs.Keys.{without, capped, key_weight, set_value}
use Rattle.hack_values.specs.Known.{IsDepth, IsVecKnown, IsDictKnown}
use Rattle.hack_values.specs.Limits.{max_depth}
use Rattle.hack_values.specs.Val.{Val, weight, depth, weights, depths, entry_weights, entry_depths}
use Rattle.hack_values.specs.View.{val_of, vals_of}
use Rattle.hack_values.proofs.Rows.{weights-others, depths-others, remove-beyond, remove-set, length-vals, vals-set, set-entries}

pub without-none : {X : Type 0} (o : Option ℕ) (xs : List X) → o ≡ None → without o xs ≡ xs
without-none o xs e = ap (λ p. without p xs) e

pub without-past : {X : Type 0} (o : Option ℕ) (xs : List X) (at : ℕ) → o ≡ Some at → length xs ≤ at → without o xs ≡ xs
without-past o xs at e h = ap (λ p. without p xs) e ∙ remove-beyond xs at h

pub without-beyond : (o : Option ℕ) (cs : List Cell) (at : ℕ) → o ≡ Some at → length cs ≤ at → without o (vals_of cs) ≡ vals_of cs
without-beyond o cs at e h = without-past o (vals_of cs) at e (omega (arith, length-vals cs))

pub weights-without : (o : Option ℕ) (cs : List Cell) (at : ℕ) (c : Cell) → o ≡ Some at → at < length cs → c ≡ slice_index_or cs at c → weights (vals_of cs) ≡ weights (without o (vals_of cs)) + weight (val_of c)
weights-without o cs at c e h f = weights-others cs at c h f ∙ ap (λ p. weights (without p (vals_of cs)) + weight (val_of c)) (sym e)

pub depths-without : (o : Option ℕ) (cs : List Cell) (at : ℕ) (c : Cell) → o ≡ Some at → at < length cs → c ≡ slice_index_or cs at c → depths (vals_of cs) ≡ max (depths (without o (vals_of cs))) (depth (val_of c))
depths-without o cs at c e h f = depths-others cs at c h f ∙ ap (λ p. max (depths (without p (vals_of cs))) (depth (val_of c))) (sym e)

-- the same of entries
pub entry_weights-others : (es : List (Key × Val)) (at : ℕ) (e : Key × Val) → slice_get es at ≡ Some e → entry_weights es ≡ entry_weights (remove es at) + (key_weight e.0 + weight e.1)
entry_weights-others [] at e h = absurd (cc)
entry_weights-others (d ∷ es) zero e h = let same : d ≡ e = cc in let heavy = ap (λ (x : Key × Val). key_weight x.0 + weight x.1) same in omega (arith, heavy)
entry_weights-others (d ∷ es) (suc at) e h = omega (arith, entry_weights-others es at e h)

pub entry_depths-others : (es : List (Key × Val)) (at : ℕ) (e : Key × Val) → slice_get es at ≡ Some e → entry_depths es ≡ max (entry_depths (remove es at)) (depth e.1)
entry_depths-others [] at e h = absurd (cc)
entry_depths-others (d ∷ es) zero e h = let same : d ≡ e = cc in let high = ap (λ (x : Key × Val). depth x.1) same in omega (arith, high)
entry_depths-others (d ∷ es) (suc at) e h = omega (arith, entry_depths-others es at e h)

pub entry_weights-without : (o : Option ℕ) (es : List (Key × Val)) (at : ℕ) (e : Key × Val) → o ≡ Some at → slice_get es at ≡ Some e → entry_weights es ≡ entry_weights (without o es) + (key_weight e.0 + weight e.1)
entry_weights-without o es at e p h = entry_weights-others es at e h ∙ ap (λ q. entry_weights (without q es) + (key_weight e.0 + weight e.1)) (sym p)

pub entry_depths-without : (o : Option ℕ) (es : List (Key × Val)) (at : ℕ) (e : Key × Val) → o ≡ Some at → slice_get es at ≡ Some e → entry_depths es ≡ max (entry_depths (without o es)) (depth e.1)
entry_depths-without o es at e p h = entry_depths-others es at e h ∙ ap (λ q. max (entry_depths (without q es)) (depth e.1)) (sym p)

-- a key weighs no more than all entries
pub keys_weight-within : (ks : List Key) (cs : List Cell) (at : ℕ) (k : Key) → length cs ≡ length ks → at < length ks → k ≡ slice_index_or ks at k → key_weight k ≤ entry_weights (zip ks (vals_of cs))
keys_weight-within [] cs at k n h e = absurd (omega arith)
keys_weight-within (j ∷ ks) [] at k n h e = absurd (omega arith)
keys_weight-within (j ∷ ks) (c ∷ cs) zero k n h e = let same = ap key_weight e in omega (arith, same)
keys_weight-within (j ∷ ks) (c ∷ cs) (suc at) k n h e = omega (arith, keys_weight-within ks cs at k (omega arith) (omega arith) e)

-- where only the value is at hand
pub depths-at : (ks : List Key) (cs : List Cell) (at : ℕ) (c : Cell) → length cs ≡ length ks → at < length cs → c ≡ slice_index_or cs at c → entry_depths (zip ks (vals_of cs)) ≡ max (entry_depths (remove (zip ks (vals_of cs)) at)) (depth (val_of c))
depths-at [] [] at c n h e = absurd (omega arith)
depths-at [] (d ∷ cs) at c n h e = absurd (omega arith)
depths-at (k ∷ ks) [] at c n h e = absurd (omega arith)
depths-at (k ∷ ks) (d ∷ cs) zero c n h e = let same : depth (val_of c) ≡ depth (val_of d) = ap (λ x. depth (val_of x)) e in omega (arith, same)
depths-at (k ∷ ks) (d ∷ cs) (suc at) c n h e = omega (arith, depths-at ks cs at c (omega arith) (omega arith) e)

pub entry_depths-at : (o : Option ℕ) (ks : List Key) (cs : List Cell) (at : ℕ) (c : Cell) → o ≡ Some at → length cs ≡ length ks → at < length cs → c ≡ slice_index_or cs at c → entry_depths (zip ks (vals_of cs)) ≡ max (entry_depths (without o (zip ks (vals_of cs)))) (depth (val_of c))
entry_depths-at o ks cs at c p n h e = depths-at ks cs at c n h e ∙ ap (λ q. max (entry_depths (without q (zip ks (vals_of cs)))) (depth (val_of c))) (sym p)

pub remove-set_value : (es : List (Key × Val)) (at : ℕ) (v : Val) → remove (set_value es at v) at ≡ remove es at
remove-set_value [] zero v = refl
remove-set_value [] (suc at) v = refl
remove-set_value (e ∷ es) zero v = refl
remove-set_value (e ∷ es) (suc at) v = ap (λ rest. e ∷ rest) (remove-set_value es at v)

-- a depth of one number is a depth of the same number
pub depth_of : (n m : ℕ) (d : Depth) → n ≡ m → IsDepth n d → IsDepth m d
depth_of n m d e h = subst (λ k. IsDepth k d) e h

-- of a depth that is a bound, and of one that is exact
pub depth_made : (n : ℕ) (d : Depth) → capped n ≤ d.at_most → (IsTrue d.exact → d.at_most ≡ capped n) → IsDepth n d
depth_made n d p q = record { covers = p; exact = q }

-- what is known of one container is known of another whose other elements are the same
pub vec_known-of : (vs ws : List Val) (k : Known) → without k.but vs ≡ without k.but ws → IsVecKnown vs k → IsVecKnown ws k
vec_known-of vs ws k e h = record {
  weighs = h.weighs ∙ ap (λ l. capped (1 + weights l)) e;
  deep = subst (λ l. IsDepth (1 + depths l) k.depth) e h.deep;
}

pub dict_known-of : (es fs : List (Key × Val)) (k : Known) → without k.but es ≡ without k.but fs → IsDictKnown es k → IsDictKnown fs k
dict_known-of es fs k e h = record {
  weighs = h.weighs ∙ ap (λ l. capped (1 + entry_weights l)) e;
  deep = subst (λ l. IsDepth (1 + entry_depths l) k.depth) e h.deep;
}

-- what is known of the others stays so, whatever is written at the place
without-set : (o : Option ℕ) (vs : List Val) (at : ℕ) (v : Val) → o ≡ Some at → without o vs ≡ without o (slice_set vs at v)
without-set o vs at v e = ap (λ p. without p vs) e ∙ sym (remove-set vs at v) ∙ ap (λ p. without p (slice_set vs at v)) (sym e)

pub known-set : (k : Known) (cs : List Cell) (at : ℕ) (c : Cell) → (k.but ≡ Some at) × IsVecKnown (vals_of cs) k → IsVecKnown (vals_of (slice_set cs at c)) k
known-set k cs at c h =
    vec_known-of (vals_of cs) (vals_of (slice_set cs at c)) k (without-set k.but (vals_of cs) at (val_of c) h.0 ∙ ap (λ l. without k.but l) (sym (vals-set cs at c))) h.1

without-set_value : (o : Option ℕ) (es : List (Key × Val)) (at : ℕ) (v : Val) → o ≡ Some at → without o es ≡ without o (set_value es at v)
without-set_value o es at v e = ap (λ p. without p es) e ∙ sym (remove-set_value es at v) ∙ ap (λ p. without p (set_value es at v)) (sym e)

pub known-set_value : (k : Known) (ks : List Key) (cs : List Cell) (at : ℕ) (c : Cell) → (k.but ≡ Some at) × IsDictKnown (zip ks (vals_of cs)) k → IsDictKnown (zip ks (vals_of (slice_set cs at c))) k
known-set_value k ks cs at c h =
    dict_known-of (zip ks (vals_of cs)) (zip ks (vals_of (slice_set cs at c))) k
    (without-set_value k.but (zip ks (vals_of cs)) at (val_of c) h.0 ∙ ap (λ l. without k.but l) (sym (set-entries ks cs at c))) h.1

pub some_known : (k : Known) (P : Known → Type 0) → P k → ForSome (Some k) P
some_known k P h x e = let same : k ≡ x = cc in subst P same h

-- a depth tells which side of the limit a number is, where it is exact or within the limit
pub limit_told : (n : ℕ) (d : Depth) → IsDepth n d → IsTrue d.exact ⊎ (d.at_most ≤ max_depth) → (max_depth < d.at_most) ↔ (max_depth < n)
limit_told n d h (inl e) = let same = h.exact e in (λ p. omega (arith, same), λ p. omega (arith, same))
limit_told n d h (inr b) = let most = h.covers in (λ p. absurd (omega arith), λ p. absurd (omega (arith, most)))
