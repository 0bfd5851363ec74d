-- Values as trees of numbers: two values with one code are one value.
use Rattle.std.specs.Prelude.{◌≡◌, refl}
use Rattle.std.specs.Coded.{Coded, coded_ℕ, coded_ℤ, coded_bool, coded_list}
use Rattle.std.proofs.Common.{arith, ap}
use base.Stored.{Gv, gnil, gnum, gcons, num, code_l}
use Rattle.hack_values.specs.declared.key.Key.{Key}
use Rattle.hack_values.specs.contracts.key.Key.{the_row}
use Rattle.hack_values.specs.Val.{Val, Vals, Pairs}
use Rattle.hack_values.specs.Val.Val.{null, bool, int, str, vec, dict, keyset, obj}
use Rattle.hack_values.specs.Val.Vals.{none, more}
use Rattle.hack_values.specs.Val.Pairs.{no_pair, pair}

abbrev pub coded_key : Coded Key
coded_key = the_row.coded

-- the left and the right part of a tree
abbrev pub left_of : Gv → Gv
left_of gnil = gnil
left_of (gnum n) = gnil
left_of (gcons a b) = a

abbrev pub right_of : Gv → Gv
right_of gnil = gnil
right_of (gnum n) = gnil
right_of (gcons a b) = b

abbrev mutual
  pub code_val : Val → Gv
  code_val null = gcons (gnum 0) gnil
  code_val (bool b) = gcons (gnum 1) (coded_bool.code b)
  code_val (int i) = gcons (gnum 2) (coded_ℤ.code i)
  code_val (str s) = gcons (gnum 3) (code_l gnum s)
  code_val (vec vs) = gcons (gnum 4) (code_vals vs)
  code_val (dict ps) = gcons (gnum 5) (code_pairs ps)
  code_val (keyset ks) = gcons (gnum 6) (code_l coded_key.code ks)
  code_val (obj n) = gcons (gnum 7) (gnum n)

  pub code_vals : Vals → Gv
  code_vals none = gnum 0
  code_vals (more v vs) = gcons (code_val v) (code_vals vs)

  pub code_pairs : Pairs → Gv
  code_pairs no_pair = gnum 0
  code_pairs (pair k v ps) = gcons (coded_key.code k) (gcons (code_val v) (code_pairs ps))

mutual
  pub val_inj : (v w : Val) → code_val v ≡ code_val w → v ≡ w
  val_inj null null e = refl
  val_inj (bool a) (bool b) e = ap bool (coded_bool.inj a b (ap right_of e))
  val_inj (int a) (int b) e = ap int (coded_ℤ.inj a b (ap right_of e))
  val_inj (str a) (str b) e = ap str ((coded_list coded_ℕ).inj a b (ap right_of e))
  val_inj (vec a) (vec b) e = ap vec (vals_inj a b (ap right_of e))
  val_inj (dict a) (dict b) e = ap dict (pairs_inj a b (ap right_of e))
  val_inj (keyset a) (keyset b) e = ap keyset ((coded_list coded_key).inj a b (ap right_of e))
  val_inj (obj a) (obj b) e = ap obj (ap (λ tree. num (right_of tree)) e)
  val_inj v w e = absurd (let differ = ap (λ tree. num (left_of tree)) e in omega arith)

  pub vals_inj : (v w : Vals) → code_vals v ≡ code_vals w → v ≡ w
  vals_inj none none e = refl
  vals_inj (more v vs) (more w ws) e = λ i. more (val_inj v w (ap left_of e) i) (vals_inj vs ws (ap right_of e) i)
  vals_inj none (more w ws) e = cc
  vals_inj (more v vs) none e = cc

  pub pairs_inj : (v w : Pairs) → code_pairs v ≡ code_pairs w → v ≡ w
  pairs_inj no_pair no_pair e = refl
  pairs_inj (pair k v vs) (pair l w ws) e =
      λ i. pair (coded_key.inj k l (ap left_of e) i) (val_inj v w (ap (λ tree. left_of (right_of tree)) e) i) (pairs_inj vs ws (ap (λ tree. right_of (right_of tree)) e) i)
  pairs_inj no_pair (pair l w ws) e = cc
  pairs_inj (pair k v vs) no_pair e = cc

abbrev pub coded_val : Coded Val
coded_val = record { code = code_val; inj = val_inj }
