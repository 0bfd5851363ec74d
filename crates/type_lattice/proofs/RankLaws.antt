-- A strictly higher type has a strictly higher rank.
use Rattle.std.proofs.Common.{◌≡◌, ℕ, ◌+◌, ◌-◌, ◌*◌, ◌≤◌, ◌<◌, Bool, true, false, Option, Some, None, length, refl, arith, ap, sym, ◌⊎◌, inl, inr}
use Rattle.std.specs.Prelude.{IsTrue}
use Rattle.std.proofs.lemmas.Bool.{cases_lt}
use Rattle.type_lattice.specs.declared.types.IntPart.{IntPart}
use Rattle.type_lattice.specs.declared.types.IntPart.TheVariants as ints
use Rattle.type_lattice.specs.declared.types.StrPart.{StrPart}
use Rattle.type_lattice.specs.declared.types.StrPart.TheVariants as strs
use Rattle.type_lattice.specs.declared.types.ObjPart.{ObjPart}
use Rattle.type_lattice.specs.declared.types.ObjPart.TheVariants as objs
use Rattle.type_lattice.specs.declared.types.Leaf.{Leaf}
use Rattle.type_lattice.specs.declared.types.HType.{HType}
use Rattle.type_lattice.specs.Classes.{Tree, below, chain, Forest}
use Rattle.type_lattice.specs.Order.{FlagLe, IntLe, StrLe, ObjLe, LeafLe, PartLe, EntryLe, Le}
use Rattle.type_lattice.specs.Rank.{IsWithin, flag_rank, int_rank, str_rank, obj_rank, leaf_rank, part_rank, entry_rank, rank, highest_obj, highest_leaf, highest}
use Rattle.type_lattice.specs.Laws.{IsRanked}
use Rattle.type_lattice.proofs.Chains.{below_longer, chain_length}

flag_rises : (a b : Bool) → FlagLe a b → flag_rank a ≤ flag_rank b
flag_rises false b h = omega arith
flag_rises true b h = rw h (omega arith)

flag_equal : (a b : Bool) → FlagLe a b → flag_rank a ≡ flag_rank b → a ≡ b
flag_equal false false h e = refl
flag_equal false true h e = absurd (omega arith)
flag_equal true b h e = sym h

int_rises : (a b : IntPart) → IntLe a b → int_rank a ≤ int_rank b
int_rises ints.No b h = omega arith
int_rises (ints.One i) ints.No h = absurd h
int_rises (ints.One i) (ints.One j) h = omega arith
int_rises (ints.One i) ints.Any h = omega arith
int_rises ints.Any ints.Any h = omega arith
int_rises ints.Any ints.No h = absurd h
int_rises ints.Any (ints.One j) h = absurd h

int_equal : (a b : IntPart) → IntLe a b → int_rank a ≡ int_rank b → a ≡ b
int_equal ints.No ints.No h e = refl
int_equal (ints.One i) (ints.One j) h e = ap ints.One h
int_equal ints.Any ints.Any h e = refl
int_equal a b h e = absurd (omega arith)

str_rises : (a b : StrPart) → StrLe a b → str_rank a ≤ str_rank b
str_rises strs.No b h = omega arith
str_rises (strs.One i) strs.No h = absurd h
str_rises (strs.One i) (strs.One j) h = omega arith
str_rises (strs.One i) strs.Any h = omega arith
str_rises strs.Any strs.Any h = omega arith
str_rises strs.Any strs.No h = absurd h
str_rises strs.Any (strs.One j) h = absurd h

str_equal : (a b : StrPart) → StrLe a b → str_rank a ≡ str_rank b → a ≡ b
str_equal strs.No strs.No h e = refl
str_equal (strs.One i) (strs.One j) h e = ap strs.One h
str_equal strs.Any strs.Any h e = refl
str_equal a b h e = absurd (omega arith)

sum_le : {x y z w : ℕ} → x ≤ y → z ≤ w → x + z ≤ y + w
sum_le h k = omega arith

sum_equal : {x y z w : ℕ} → x ≤ y → z ≤ w → x + z ≡ y + w → (x ≡ y) × (z ≡ w)
sum_equal h k e = (omega arith, omega arith)

ten_le : {a b c d e f g h i j k l m n o p q r s u : ℕ} → a ≤ k → b ≤ l → c ≤ m → d ≤ n → e ≤ o → f ≤ p → g ≤ q → h ≤ r → i ≤ s → j ≤ u
    → a + b + c + d + e + f + g + h + i + j ≤ k + l + m + n + o + p + q + r + s + u
ten_le h1 h2 h3 h4 h5 h6 h7 h8 h9 h10 = omega arith

ten_equal : {a b c d e f g h i j k l m n o p q r s u : ℕ} → a ≤ k → b ≤ l → c ≤ m → d ≤ n → e ≤ o → f ≤ p → g ≤ q → h ≤ r → i ≤ s → j ≤ u
    → a + b + c + d + e + f + g + h + i + j ≡ k + l + m + n + o + p + q + r + s + u
    → (a ≡ k) × (b ≡ l) × (c ≡ m) × (d ≡ n) × (e ≡ o) × (f ≡ p) × (g ≡ q) × (h ≡ r) × (i ≡ s) × (j ≡ u)
ten_equal h1 h2 h3 h4 h5 h6 h7 h8 h9 h10 x = (omega arith, omega arith, omega arith, omega arith, omega arith, omega arith, omega arith, omega arith, omega arith, omega arith)

bound : (n : ℕ) → {a b c d e f g h i j : ℕ} → a ≤ 1 → b ≤ 1 → c ≤ 1 → d ≤ 1 → e ≤ 2 → f ≤ 2 → g ≤ n + 4 → h ≤ n + 15 → i ≤ 2 * n + 29 → j ≤ n + 15
    → a + b + c + d + e + f + g + h + i + j ≤ 5 * n + 71
bound n h1 h2 h3 h4 h5 h6 h7 h8 h9 h10 = omega arith

-- a rank that rises, and is equal only where what it ranks is, rises strictly
strictly : {A : Type 0} (R : A → A → Type 0) (height : A → ℕ) → ((a b : A) → R a b → height a ≤ height b) → ((a b : A) → R a b → height a ≡ height b → a ≡ b)
    → (a b : A) → R a b → (a ≡ b → ⊥) → height a < height b
strictly R height rises equal a b h n = go (cases_lt (height a) (height b))
  where
    go : (height a < height b) ⊎ (height b ≤ height a) → height a < height b
    go (inl k) = k
    go (inr k) = absurd (n (equal a b h (let m = rises a b h in omega arith)))

module _ (t : Tree) (forest : Forest t) (depth : ℕ) (within : IsWithin t depth) where
  above : (c d : ℕ) → IsTrue (below t c d) → (c ≡ d) ⊎ (depth + 3 - length (chain t c) < depth + 3 - length (chain t d))
  above c d h = go (below_longer t forest c d h)
    where
      go : (c ≡ d) ⊎ (length (chain t d) < length (chain t c)) → (c ≡ d) ⊎ (depth + 3 - length (chain t c) < depth + 3 - length (chain t d))
      go (inl e) = inl e
      go (inr l) = let k = within c in inr (omega arith)

  obj_rises : (a b : ObjPart) → ObjLe t a b → obj_rank depth t a ≤ obj_rank depth t b
  obj_rises objs.No b h = omega arith
  obj_rises (objs.Exact c) (objs.Exact d) h = omega arith
  obj_rises (objs.Exact c) (objs.Sub d) h = let k = within d in omega arith
  obj_rises (objs.Exact c) objs.Any h = omega arith
  obj_rises (objs.Sub c) (objs.Sub d) h = go (above c d h)
    where
      go : (c ≡ d) ⊎ (depth + 3 - length (chain t c) < depth + 3 - length (chain t d)) → depth + 3 - length (chain t c) ≤ depth + 3 - length (chain t d)
      go (inl e) = rw e (omega arith)
      go (inr l) = omega arith
  obj_rises (objs.Sub c) objs.Any h = omega arith
  obj_rises objs.Any objs.Any h = omega arith
  obj_rises a b h = absurd (search)

  obj_equal : (a b : ObjPart) → ObjLe t a b → obj_rank depth t a ≡ obj_rank depth t b → a ≡ b
  obj_equal objs.No objs.No h e = refl
  obj_equal (objs.Exact c) (objs.Exact d) h e = ap objs.Exact h
  obj_equal (objs.Sub c) (objs.Sub d) h e = go (above c d h)
    where
      go : (c ≡ d) ⊎ (depth + 3 - length (chain t c) < depth + 3 - length (chain t d)) → objs.Sub c ≡ objs.Sub d
      go (inl q) = ap objs.Sub q
      go (inr l) = absurd (omega arith)
  obj_equal objs.Any objs.Any h e = refl
  obj_equal objs.No (objs.Sub d) h e = absurd (let k = within d in omega arith)
  obj_equal (objs.Exact c) (objs.Sub d) h e = absurd (let k = within d in omega arith)
  obj_equal (objs.Sub c) objs.Any h e = absurd (omega arith)
  obj_equal objs.No (objs.Exact d) h e = absurd (omega arith)
  obj_equal objs.No objs.Any h e = absurd (omega arith)
  obj_equal (objs.Exact c) objs.Any h e = absurd (omega arith)
  obj_equal a b h e = absurd (search)

  leaf_rises : (a b : Leaf) → LeafLe t a b → leaf_rank depth t a ≤ leaf_rank depth t b
  leaf_rises a b h =
      let k1 = flag_rises a.null b.null h.null in let k2 = flag_rises a.no b.no h.no in let k3 = flag_rises a.yes b.yes h.yes in
      let k4 = int_rises a.int b.int h.int in let k5 = str_rises a.str b.str h.str in let k6 = obj_rises a.obj b.obj h.obj in
      let k7 = flag_rises a.vec b.vec h.vec in let k8 = flag_rises a.dict b.dict h.dict in let k9 = flag_rises a.keyset b.keyset h.keyset in omega arith

  leaf_equal : (a b : Leaf) → LeafLe t a b → leaf_rank depth t a ≡ leaf_rank depth t b → a ≡ b
  leaf_equal a b h e =
      let k1 = flag_rises a.null b.null h.null in let k2 = flag_rises a.no b.no h.no in let k3 = flag_rises a.yes b.yes h.yes in
      let k4 = int_rises a.int b.int h.int in let k5 = str_rises a.str b.str h.str in let k6 = obj_rises a.obj b.obj h.obj in
      let k7 = flag_rises a.vec b.vec h.vec in let k8 = flag_rises a.dict b.dict h.dict in let k9 = flag_rises a.keyset b.keyset h.keyset in
      let null = flag_equal a.null b.null h.null (omega arith) in
      let n = flag_equal a.no b.no h.no (omega arith) in
      let y = flag_equal a.yes b.yes h.yes (omega arith) in
      let int = int_equal a.int b.int h.int (omega arith) in
      let str = str_equal a.str b.str h.str (omega arith) in
      let obj = obj_equal a.obj b.obj h.obj (omega arith) in
      let vec = flag_equal a.vec b.vec h.vec (omega arith) in
      let dict = flag_equal a.dict b.dict h.dict (omega arith) in
      let keyset = flag_equal a.keyset b.keyset h.keyset (omega arith) in
      λ i. record { null = null i; no = n i; yes = y i; int = int i; str = str i; obj = obj i; vec = vec i; dict = dict i; keyset = keyset i }

  entry_rises : (a b : Leaf × Leaf) → EntryLe t a b → entry_rank depth t a ≤ entry_rank depth t b
  entry_rises a b h = sum_le (leaf_rises a.0 b.0 h.0) (leaf_rises a.1 b.1 h.1)

  entry_equal : (a b : Leaf × Leaf) → EntryLe t a b → entry_rank depth t a ≡ entry_rank depth t b → a ≡ b
  entry_equal a b h e = let r = sum_equal (leaf_rises a.0 b.0 h.0) (leaf_rises a.1 b.1 h.1) e in
      let p = leaf_equal a.0 b.0 h.0 r.0 in let q = leaf_equal a.1 b.1 h.1 r.1 in λ i. (p i, q i)

  part_rises : {A : Type 0} (R : A → A → Type 0) (f : A → ℕ) → ((a b : A) → R a b → f a ≤ f b) → (a b : Option A) → PartLe R a b → part_rank f a ≤ part_rank f b
  part_rises R f up None b h = omega arith
  part_rises R f up (Some a) None h = absurd h
  part_rises R f up (Some a) (Some b) h = let k = up a b h in omega arith

  part_equal : {A : Type 0} (R : A → A → Type 0) (f : A → ℕ) → ((a b : A) → R a b → f a ≡ f b → a ≡ b) → (a b : Option A) → PartLe R a b → part_rank f a ≡ part_rank f b → a ≡ b
  part_equal R f same None None h e = refl
  part_equal R f same None (Some b) h e = absurd (omega arith)
  part_equal R f same (Some a) None h e = absurd h
  part_equal R f same (Some a) (Some b) h e = ap Some (same a b h (omega arith))

  rank_rises : (a b : HType) → Le t a b → rank depth t a ≤ rank depth t b
  rank_rises a b h =
      let k0 = flag_rises a.uninit b.uninit h.uninit in
      let k1 = flag_rises a.null b.null h.null in let k2 = flag_rises a.no b.no h.no in let k3 = flag_rises a.yes b.yes h.yes in
      let k4 = int_rises a.int b.int h.int in let k5 = str_rises a.str b.str h.str in let k6 = obj_rises a.obj b.obj h.obj in
      let k7 = part_rises (LeafLe t) (leaf_rank depth t) leaf_rises a.vec b.vec h.vec in
      let k8 = part_rises (EntryLe t) (entry_rank depth t) entry_rises a.dict b.dict h.dict in
      let k9 = part_rises (LeafLe t) (leaf_rank depth t) leaf_rises a.keyset b.keyset h.keyset in
      ten_le k0 k1 k2 k3 k4 k5 k6 k7 k8 k9

  rank_equal : (a b : HType) → Le t a b → rank depth t a ≡ rank depth t b → a ≡ b
  rank_equal a b h e =
      let k0 = flag_rises a.uninit b.uninit h.uninit in
      let k1 = flag_rises a.null b.null h.null in let k2 = flag_rises a.no b.no h.no in let k3 = flag_rises a.yes b.yes h.yes in
      let k4 = int_rises a.int b.int h.int in let k5 = str_rises a.str b.str h.str in let k6 = obj_rises a.obj b.obj h.obj in
      let k7 = part_rises (LeafLe t) (leaf_rank depth t) leaf_rises a.vec b.vec h.vec in
      let k8 = part_rises (EntryLe t) (entry_rank depth t) entry_rises a.dict b.dict h.dict in
      let k9 = part_rises (LeafLe t) (leaf_rank depth t) leaf_rises a.keyset b.keyset h.keyset in
      let r = ten_equal k0 k1 k2 k3 k4 k5 k6 k7 k8 k9 e in
      let uninit = flag_equal a.uninit b.uninit h.uninit r.0 in
      let null = flag_equal a.null b.null h.null r.1 in
      let n = flag_equal a.no b.no h.no r.2 in
      let y = flag_equal a.yes b.yes h.yes r.3 in
      let int = int_equal a.int b.int h.int r.4 in
      let str = str_equal a.str b.str h.str r.5 in
      let obj = obj_equal a.obj b.obj h.obj r.6 in
      let vec = part_equal (LeafLe t) (leaf_rank depth t) leaf_equal a.vec b.vec h.vec r.7 in
      let dict = part_equal (EntryLe t) (entry_rank depth t) entry_equal a.dict b.dict h.dict r.8 in
      let keyset = part_equal (LeafLe t) (leaf_rank depth t) leaf_equal a.keyset b.keyset h.keyset r.9 in
      λ i. record { uninit = uninit i; null = null i; no = n i; yes = y i; int = int i; str = str i; obj = obj i; vec = vec i; dict = dict i; keyset = keyset i }

  flag_most : (a : Bool) → flag_rank a ≤ 1
  flag_most false = omega arith
  flag_most true = omega arith

  int_most : (a : IntPart) → int_rank a ≤ 2
  int_most ints.No = omega arith
  int_most (ints.One i) = omega arith
  int_most ints.Any = omega arith

  str_most : (a : StrPart) → str_rank a ≤ 2
  str_most strs.No = omega arith
  str_most (strs.One i) = omega arith
  str_most strs.Any = omega arith

  obj_most : (a : ObjPart) → obj_rank depth t a ≤ depth + 4
  obj_most objs.No = omega arith
  obj_most (objs.Exact i) = omega arith
  obj_most (objs.Sub i) = omega arith
  obj_most objs.Any = omega arith

  leaf_most : (a : Leaf) → leaf_rank depth t a ≤ depth + 14
  leaf_most a =
      let k1 = flag_most a.null in let k2 = flag_most a.no in let k3 = flag_most a.yes in
      let k4 = int_most a.int in let k5 = str_most a.str in let k6 = obj_most a.obj in
      let k7 = flag_most a.vec in let k8 = flag_most a.dict in let k9 = flag_most a.keyset in omega arith

  one_most : (a : Option Leaf) → part_rank (leaf_rank depth t) a ≤ depth + 15
  one_most None = omega arith
  one_most (Some a) = let k = leaf_most a in omega arith

  two_most : (a : Option (Leaf × Leaf)) → part_rank (entry_rank depth t) a ≤ 2 * depth + 29
  two_most None = omega arith
  two_most (Some a) = let k = leaf_most a.0 in let m = leaf_most a.1 in omega arith

  rank_most : (a : HType) → rank depth t a ≤ highest depth
  rank_most a =
      let k0 = flag_most a.uninit in let k1 = flag_most a.null in let k2 = flag_most a.no in let k3 = flag_most a.yes in
      let k4 = int_most a.int in let k5 = str_most a.str in let k6 = obj_most a.obj in
      let k7 = one_most a.vec in let k8 = two_most a.dict in let k9 = one_most a.keyset in
      bound (depth) k0 k1 k2 k3 k4 k5 k6 k7 k8 k9

  pub types_ranked : IsRanked (Le t) (rank depth t) (highest depth)
  types_ranked = record { strict = strictly (Le t) (rank depth t) rank_rises rank_equal; most = rank_most }

  pub leaves_ranked : IsRanked (LeafLe t) (leaf_rank depth t) (highest_leaf depth)
  leaves_ranked = record { strict = strictly (LeafLe t) (leaf_rank depth t) leaf_rises leaf_equal; most = leaf_most }

  pub objects_ranked : IsRanked (ObjLe t) (obj_rank depth t) (highest_obj depth)
  objects_ranked = record { strict = strictly (ObjLe t) (obj_rank depth t) obj_rises obj_equal; most = obj_most }

-- no chain is longer than the number of classes and one
pub chain_is_within : (t : Tree) → IsWithin t (length t)
chain_is_within t c = chain_length t c
