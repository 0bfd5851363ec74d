-- The test of sameness decides equality.
use Rattle.std.proofs.Common.{◌≡◌, ◌↔◌, ◌==◌, ◌&&◌, ℕ, Bool, true, false, IsTrue, List, [], ◌∷◌, refl, ap, arith, sym, subst}
use Rattle.std.specs.Bool.{beq}
use Rattle.std.proofs.lemmas.Bool.Decides.{Decides-int_eq, nat_tests}
use Rattle.std.proofs.lemmas.Slice.Eq.{bytes_eq-Decides}
use Rattle.hack_values.specs.declared.cell.Cell.{Cell}
use Rattle.hack_values.specs.declared.key.Key.{Key}
use Rattle.hack_values.specs.Val.{Val, Vals, Pairs}
use Rattle.hack_values.specs.Val.Val.{null, bool, int, str, vec, dict, keyset, obj}
use Rattle.hack_values.specs.Val.Vals.{none, more}
use Rattle.hack_values.specs.Val.Pairs.{no_pair, pair}
use Rattle.hack_values.specs.View.{val_of, val_of-inj}
use Rattle.hack_values.specs.Keys.{key_eq}
use Rattle.hack_values.specs.Same.{same_keys, same_val, same_vals, same_pairs, is_same}
use Rattle.hack_values.proofs.KeyLaws.{key_eq-to, key_eq-refl}

left : (a b : Bool) → (a && b) ≡ true → a ≡ true
left true b e = refl
left false b e = absurd (cc)

right : (a b : Bool) → (a && b) ≡ true → b ≡ true
right true b e = e
right false b e = absurd (cc)

join : (a b : Bool) → a ≡ true → b ≡ true → (a && b) ≡ true
join true b p q = q
join false b p q = absurd (cc)

beq-to : (a b : Bool) → beq a b ≡ true → a ≡ b
beq-to true true e = refl
beq-to true false e = absurd (cc)
beq-to false true e = absurd (cc)
beq-to false false e = refl

beq-itself : (a : Bool) → beq a a ≡ true
beq-itself true = refl
beq-itself false = refl

number-to : (a b : ℕ) → (a == b) ≡ true → a ≡ b
number-to a b e = grind (arith, nat_tests)

number-itself : (a : ℕ) → (a == a) ≡ true
number-itself a = grind (arith, nat_tests)

same_keys-to : (a b : List Key) → same_keys a b ≡ true → a ≡ b
same_keys-to [] [] e = refl
same_keys-to (k ∷ ks) (l ∷ ls) e =
    λ i. key_eq-to k l (left (key_eq k l) (same_keys ks ls) e) i ∷ same_keys-to ks ls (right (key_eq k l) (same_keys ks ls) e) i
same_keys-to [] (l ∷ ls) e = absurd (cc)
same_keys-to (k ∷ ks) [] e = absurd (cc)

same_keys-itself : (a : List Key) → same_keys a a ≡ true
same_keys-itself [] = refl
same_keys-itself (k ∷ ks) = join (key_eq k k) (same_keys ks ks) (key_eq-refl k) (same_keys-itself ks)

mutual
  pub same_val-to : (v w : Val) → same_val v w ≡ true → v ≡ w
  same_val-to null null e = refl
  same_val-to (bool a) (bool b) e = ap bool (beq-to a b e)
  same_val-to (int a) (int b) e = ap int ((Decides-int_eq a b).0 e)
  same_val-to (str a) (str b) e = ap str ((bytes_eq-Decides a b).0 e)
  same_val-to (vec a) (vec b) e = ap vec (same_vals-to a b e)
  same_val-to (dict a) (dict b) e = ap dict (same_pairs-to a b e)
  same_val-to (keyset a) (keyset b) e = ap keyset (same_keys-to a b e)
  same_val-to (obj a) (obj b) e = ap obj (number-to a b e)
  same_val-to v w e = absurd (cc)

  pub same_vals-to : (v w : Vals) → same_vals v w ≡ true → v ≡ w
  same_vals-to none none e = refl
  same_vals-to (more v vs) (more w ws) e =
      λ i. more (same_val-to v w (left (same_val v w) (same_vals vs ws) e) i) (same_vals-to vs ws (right (same_val v w) (same_vals vs ws) e) i)
  same_vals-to none (more w ws) e = absurd (cc)
  same_vals-to (more v vs) none e = absurd (cc)

  pub same_pairs-to : (v w : Pairs) → same_pairs v w ≡ true → v ≡ w
  same_pairs-to no_pair no_pair e = refl
  same_pairs-to (pair k v ps) (pair l w qs) e =
      let rest = right (key_eq k l) (same_val v w && same_pairs ps qs) e in
      λ i. pair (key_eq-to k l (left (key_eq k l) (same_val v w && same_pairs ps qs) e) i) (same_val-to v w (left (same_val v w) (same_pairs ps qs) rest) i) (same_pairs-to ps qs (right (same_val v w) (same_pairs ps qs) rest) i)
  same_pairs-to no_pair (pair l w qs) e = absurd (cc)
  same_pairs-to (pair k v ps) no_pair e = absurd (cc)

mutual
  pub same_val-itself : (v : Val) → same_val v v ≡ true
  same_val-itself null = refl
  same_val-itself (bool a) = beq-itself a
  same_val-itself (int a) = (Decides-int_eq a a).1 refl
  same_val-itself (str a) = (bytes_eq-Decides a a).1 refl
  same_val-itself (vec a) = same_vals-itself a
  same_val-itself (dict a) = same_pairs-itself a
  same_val-itself (keyset a) = same_keys-itself a
  same_val-itself (obj a) = number-itself a

  pub same_vals-itself : (v : Vals) → same_vals v v ≡ true
  same_vals-itself none = refl
  same_vals-itself (more v vs) = join (same_val v v) (same_vals vs vs) (same_val-itself v) (same_vals-itself vs)

  pub same_pairs-itself : (v : Pairs) → same_pairs v v ≡ true
  same_pairs-itself no_pair = refl
  same_pairs-itself (pair k v ps) =
      join (key_eq k k) (same_val v v && same_pairs ps ps) (key_eq-refl k) (join (same_val v v) (same_pairs ps ps) (same_val-itself v) (same_pairs-itself ps))

-- what decides equality is the test
agree : (r s : Bool) {P : Type 0} → (r ≡ true → P) → (P → r ≡ true) → (s ≡ true → P) → (P → s ≡ true) → r ≡ s
agree true true f g h k = refl
agree false false f g h k = refl
agree true false f g h k = sym (k (f refl))
agree false true f g h k = g (h refl)

pub is_same-decided : (r : Bool) (a b : Cell) → (IsTrue r ↔ (a ≡ b)) → r ≡ is_same a b
is_same-decided r a b h =
    agree r (is_same a b) h.0 h.1 (λ e. val_of-inj a b (same_val-to (val_of a) (val_of b) e)) (λ e. subst (λ c. is_same a c ≡ true) e (same_val-itself (val_of a)))

pub ruleset decided = (is_same-decided)
