-- A literal is a member of its type, which is below each proper type that has it as a member.
use Rattle.std.proofs.Common.{lit<, ◌≡◌, ◌≤◌, ◌<◌, ◌-◌, ◌++◌, ℕ, ℤ, Bool, true, false, Option, Some, None, List, length, replicate, take, nat_le, cond, refl, arith, ap, sym, subst, ◌∙◌, length-take-le, ◌+◌, All, length-append}
use Rattle.std.proofs.lemmas.Bool.{leb-true, leb-false}
use Rattle.std.proofs.lemmas.Bool.Decides.{Decides-int_eq}
use Rattle.std.proofs.lemmas.Slice.Eq.{bytes_eq-Decides}
use Rattle.std.proofs.lemmas.List.{take-append-drop, length-replicate}
use Rattle.std.proofs.Math.Seq.{take-append_seam, drop-append_seam}
use Rattle.std.proofs.lemmas.List.Elements.{All-append, All-replicate}
use Rattle.std.specs.Map.{keys_of, values_of}
use Rattle.hack_values.specs.View.{cells_of}
use Rattle.hack_values.specs.declared.key.Key.{Key}
use Rattle.hack_values.specs.declared.cell.Cell.{Cell}
use Rattle.hack_values.specs.declared.cell.Cell.TheVariants as cells
use Rattle.type_lattice.specs.declared.types.IntPart.{IntPart}
use Rattle.type_lattice.specs.declared.types.IntPart.TheVariants as ints
use Rattle.type_lattice.specs.declared.types.StrPart.{StrPart}
use Rattle.type_lattice.specs.declared.types.StrPart.TheVariants as strs
use Rattle.type_lattice.specs.declared.types.Short.{Short}
use Rattle.type_lattice.specs.declared.types.Leaf.{Leaf}
use Rattle.type_lattice.specs.declared.types.HType.{HType}
use Rattle.type_lattice.specs.Classes.{Tree}
use Rattle.type_lattice.specs.Order.{IntLe, StrLe, LeafLe, PartLe, EntryLe, Le}
use Rattle.type_lattice.specs.Proper.{ProperScalar, ProperShort, ProperStr, ProperLeaf, ProperKey, IsProper}
use Rattle.type_lattice.specs.Types.{never_leaf, short_bytes, str_part, literal, IsLiteral}
use Rattle.type_lattice.specs.Member.{Heap, int_in, str_in, vec_in, dict_in, keyset_in, cell_in}

abbrev short : List ℕ → Short
short s = record { len = length s; bytes = s ++ replicate (32 - length s) 0 }

str_either : (s : List ℕ) (P : StrPart → Type 0) → (length s ≤ 32 → P (strs.One (short s))) → (32 < length s → P strs.Any) → P (str_part s)
str_either s P h k = go (nat_le (length s) 32) refl
  where
    go : (b : Bool) → nat_le (length s) 32 ≡ b → P (cond b (strs.One (short s)) strs.Any)
    go true e = h (leb-true (length s) 32 e)
    go false e = k (leb-false (length s) 32 e)

has_str : (s : List ℕ) → str_in s (str_part s) ≡ true
has_str s = str_either s (λ p. str_in s p ≡ true)
    (λ h. (bytes_eq-Decides s (short_bytes (short s))).1 (sym (take-append_seam s (replicate (32 - length s) 0)))) (λ h. refl)

-- a short string is the one that it spells
short_same : (s : List ℕ) (x : Short) → ProperShort x → s ≡ short_bytes x → short s ≡ x
short_same s x p e =
    let n : length s ≡ x.len = ap length e ∙ length-take-le x.len x.bytes (let h = p.short in let k = p.room in omega arith) in
    let b : s ++ replicate (32 - length s) 0 ≡ x.bytes = ap (λ m. s ++ replicate (32 - m) 0) n ∙ ap (λ (y : List ℕ). y ++ replicate (32 - x.len) 0) e
    ∙ ap (λ (y : List ℕ). take x.len x.bytes ++ y) (sym p.zeros) ∙ take-append-drop x.len x.bytes in
    λ i. record { len = n i; bytes = b i }

str_least : (s : List ℕ) (p : StrPart) → ProperStr p → str_in s p ≡ true → StrLe (str_part s) p
str_least s strs.No h m = absurd (cc)
str_least s (strs.One x) h m =
    let e : s ≡ short_bytes x = (bytes_eq-Decides s (short_bytes x)).0 m in
    str_either s (λ p. StrLe p (strs.One x)) (λ k. short_same s x h e)
    (λ k. absurd (let n : length s ≡ x.len = ap length e ∙ length-take-le x.len x.bytes (let b = h.short in let z = h.room in omega arith) in let b = h.short in omega arith))
str_least s strs.Any h m = str_either s (λ p. StrLe p strs.Any) (λ k. tt) (λ k. tt)

int_least : (i : ℤ) (p : IntPart) → int_in i p ≡ true → IntLe (ints.One i) p
int_least i ints.No m = absurd (cc)
int_least i (ints.One j) m = (Decides-int_eq i j).0 m
int_least i ints.Any m = tt

-- a literal's type is proper
fills : (n k : ℕ) → n ≤ k → n + (k - n) ≡ k
fills n k h = omega arith

short_proper : (s : List ℕ) → length s ≤ 32 → All (λ b. b < 256) s → ProperShort (short s)
short_proper s h k = record {
  short = h;
  room = length-append s (replicate (32 - length s) 0) ∙ ap (λ n. length s + n) (length-replicate (32 - length s) 0) ∙ fills (length s) 32 h;
  bytes = All-append (λ b. b < 256) s (replicate (32 - length s) 0) k (All-replicate (λ b. b < 256) (32 - length s) 0 (lit< tt));
  zeros = drop-append_seam s (replicate (32 - length s) 0);
}

str_proper : (s : List ℕ) → All (λ b. b < 256) s → ProperStr (str_part s)
str_proper s k = str_either s ProperStr (λ h. short_proper s h k) (λ h. tt)

never_key : ProperKey never_leaf
never_key = record { null = refl; no = refl; yes = refl; int = tt; str = tt; obj = refl; vec = refl; dict = refl; keyset = refl }

module _ (tree : Tree) where
  never_proper : ProperLeaf tree never_leaf
  never_proper = record { int = tt; str = tt; obj = tt }

  pub literal_proper : (c : Cell) → ProperScalar c → IsProper tree (literal c)
  literal_proper cells.Null h = record { int = tt; str = tt; obj = tt; vec = tt; dict = tt; keyset = tt }
  literal_proper (cells.Bool true) h = record { int = tt; str = tt; obj = tt; vec = tt; dict = tt; keyset = tt }
  literal_proper (cells.Bool false) h = record { int = tt; str = tt; obj = tt; vec = tt; dict = tt; keyset = tt }
  literal_proper (cells.Int i) h = record { int = h; str = tt; obj = tt; vec = tt; dict = tt; keyset = tt }
  literal_proper (cells.Str s) h = record { int = tt; str = str_proper s h; obj = tt; vec = tt; dict = tt; keyset = tt }
  literal_proper (cells.Vec items) h = record { int = tt; str = tt; obj = tt; vec = never_proper; dict = tt; keyset = tt }
  literal_proper (cells.Dict entries) h = record { int = tt; str = tt; obj = tt; vec = tt; dict = (never_key, never_proper); keyset = tt }
  literal_proper (cells.Keyset elements) h = record { int = tt; str = tt; obj = tt; vec = tt; dict = tt; keyset = never_key }
  literal_proper (cells.Obj n) h = record { int = tt; str = tt; obj = tt; vec = tt; dict = tt; keyset = tt }

module _ (tree : Tree) (heap : Heap) where
  never_below : (l : Leaf) → LeafLe tree never_leaf l
  never_below l = record { null = tt; no = tt; yes = tt; int = tt; str = tt; obj = tt; vec = tt; dict = tt; keyset = tt }

  vec_least : (items : List Cell) (o : Option Leaf) → vec_in tree heap o items ≡ true → PartLe (LeafLe tree) (Some never_leaf) o
  vec_least items None m = absurd (cc)
  vec_least items (Some l) m = never_below l

  dict_least : (ks : List Key) (items : List Cell) (o : Option (Leaf × Leaf)) → dict_in tree heap o ks items ≡ true → PartLe (EntryLe tree) (Some (never_leaf, never_leaf)) o
  dict_least ks items None m = absurd (cc)
  dict_least ks items (Some e) m = (never_below e.0, never_below e.1)

  keyset_least : (ks : List Key) (o : Option Leaf) → keyset_in o ks ≡ true → PartLe (LeafLe tree) (Some never_leaf) o
  keyset_least ks None m = absurd (cc)
  keyset_least ks (Some l) m = never_below l

  pub literal_has : (c : Cell) → IsLiteral c → cell_in tree heap c (literal c) ≡ true
  literal_has cells.Null h = refl
  literal_has (cells.Bool true) h = refl
  literal_has (cells.Bool false) h = refl
  literal_has (cells.Int i) h = (Decides-int_eq i i).1 refl
  literal_has (cells.Str s) h = has_str s
  literal_has (cells.Vec items) h = subst (λ xs. cell_in tree heap (cells.Vec xs) (literal (cells.Vec xs)) ≡ true) (sym h) refl
  literal_has (cells.Dict entries) h = subst (λ xs. cell_in tree heap (cells.Dict xs) (literal (cells.Dict xs)) ≡ true) (sym h) refl
  literal_has (cells.Keyset elements) h = subst (λ xs. cell_in tree heap (cells.Keyset xs) (literal (cells.Keyset xs)) ≡ true) (sym h) refl
  literal_has (cells.Obj n) h = absurd h

  pub literal_least : (c : Cell) → IsLiteral c → (t : HType) → IsProper tree t → cell_in tree heap c t ≡ true → Le tree (literal c) t
  literal_least cells.Null h t p m = record { uninit = tt; null = m; no = tt; yes = tt; int = tt; str = tt; obj = tt; vec = tt; dict = tt; keyset = tt }
  literal_least (cells.Bool false) h t p m = record { uninit = tt; null = tt; no = m; yes = tt; int = tt; str = tt; obj = tt; vec = tt; dict = tt; keyset = tt }
  literal_least (cells.Bool true) h t p m = record { uninit = tt; null = tt; no = tt; yes = m; int = tt; str = tt; obj = tt; vec = tt; dict = tt; keyset = tt }
  literal_least (cells.Int i) h t p m = record { uninit = tt; null = tt; no = tt; yes = tt; int = int_least i t.int m; str = tt; obj = tt; vec = tt; dict = tt; keyset = tt }
  literal_least (cells.Str s) h t p m = record { uninit = tt; null = tt; no = tt; yes = tt; int = tt; str = str_least s t.str p.str m; obj = tt; vec = tt; dict = tt; keyset = tt }
  literal_least (cells.Vec items) h t p m =
      record { uninit = tt; null = tt; no = tt; yes = tt; int = tt; str = tt; obj = tt; vec = vec_least (cells_of items) t.vec m; dict = tt; keyset = tt }
  literal_least (cells.Dict entries) h t p m =
      record { uninit = tt; null = tt; no = tt; yes = tt; int = tt; str = tt; obj = tt; vec = tt; dict = dict_least (keys_of entries) (cells_of (values_of entries)) t.dict m; keyset = tt }
  literal_least (cells.Keyset elements) h t p m =
      record { uninit = tt; null = tt; no = tt; yes = tt; int = tt; str = tt; obj = tt; vec = tt; dict = tt; keyset = keyset_least elements t.keyset m }
  literal_least (cells.Obj n) h t p m = absurd h
