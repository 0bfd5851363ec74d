-- The join is the least upper bound, part by part.
use Rattle.std.proofs.Common.{◌≡◌, ℕ, ℤ, Bool, true, false, ◌||◌, ◌==◌, Option, Some, None, refl, cond, sym, ◌∙◌}
use Rattle.std.specs.Prelude.{IsTrue}
use Rattle.std.specs.Ordering.{int_eq}
use Rattle.std.proofs.lemmas.Bool.{eqb-true, eq-eqb, and_parts}
use Rattle.std.proofs.lemmas.Bool.Decides.{Decides-int_eq}
use Rattle.std.proofs.lemmas.Slice.Eq.{bytes_eq-Decides}
use Rattle.type_lattice.specs.declared.types.IntPart.{IntPart}
use Rattle.type_lattice.specs.declared.types.IntPart.TheVariants as ints
use Rattle.type_lattice.specs.declared.types.StrPart.{StrPart}
use Rattle.type_lattice.specs.declared.types.StrPart.TheVariants as strs
use Rattle.type_lattice.specs.declared.types.ObjPart.{ObjPart}
use Rattle.type_lattice.specs.declared.types.ObjPart.TheVariants as objs
use Rattle.type_lattice.specs.declared.types.Short.{Short}
use Rattle.type_lattice.specs.declared.types.HType.{HType}
use Rattle.type_lattice.specs.Classes.{Tree, nearest, below, Forest}
use Rattle.type_lattice.specs.Order.{FlagLe, IntLe, StrLe, ObjLe, LeafLe, PartLe, EntryLe, Le}
use Rattle.type_lattice.specs.Join.{int_join, short_eq, str_join, sub_or_any, obj_join, leaf_join, part_join, entry_join, join}
use Rattle.type_lattice.proofs.Chains.{nearest_above, nearest_least}
use Rattle.type_lattice.proofs.OrderLaws.{below-refl, IntLe-top, StrLe-top, ObjLe-top, FlagLe-refl, IntLe-refl, StrLe-refl, ObjLe-refl, LeafLe-refl}

-- f is above both, and below what is above both
pub record Bounds {A : Type 0} (R : A → A → Type 0) (f : A → A → A) : Type 0 where
  pub left : (a b : A) → R a (f a b)
  pub right : (a b : A) → R b (f a b)
  pub least : (a b c : A) → R a c → R b c → R (f a b) c

abbrev either : Bool → Bool → Bool
either a b = a || b

-- flags
flag_left : (a b : Bool) → FlagLe a (either a b)
flag_left false b = tt
flag_left true b = refl

flag_right : (a b : Bool) → FlagLe b (either a b)
flag_right false b = FlagLe-refl b
flag_right true false = tt
flag_right true true = refl

flag_least : (a b c : Bool) → FlagLe a c → FlagLe b c → FlagLe (either a b) c
flag_least false b c h k = k
flag_least true b c h k = h

flags : Bounds FlagLe either
flags = record { left = flag_left; right = flag_right; least = flag_least }

-- ints
int_both : (i j : ℤ) (P : IntPart → Type 0) → (i ≡ j → P (ints.One i)) → P ints.Any → P (cond (int_eq i j) (ints.One i) ints.Any)
int_both i j P h k = go (int_eq i j) refl
  where
    go : (b : Bool) → int_eq i j ≡ b → P (cond b (ints.One i) ints.Any)
    go true e = h ((Decides-int_eq i j).0 e)
    go false e = k

int_left : (a b : IntPart) → IntLe a (int_join a b)
int_left ints.No b = tt
int_left (ints.One i) ints.No = refl
int_left (ints.One i) (ints.One j) = int_both i j (λ p. IntLe (ints.One i) p) (λ e. refl) tt
int_left (ints.One i) ints.Any = tt
int_left ints.Any b = tt

int_right : (a b : IntPart) → IntLe b (int_join a b)
int_right ints.No b = IntLe-refl b
int_right (ints.One i) ints.No = tt
int_right (ints.One i) (ints.One j) = int_both i j (λ p. IntLe (ints.One j) p) (λ e. sym e) tt
int_right (ints.One i) ints.Any = tt
int_right ints.Any b = IntLe-top b

int_least : (a b c : IntPart) → IntLe a c → IntLe b c → IntLe (int_join a b) c
int_least ints.No b c h k = k
int_least (ints.One i) ints.No c h k = h
int_least (ints.One i) (ints.One j) (ints.One m) h k = rw ((Decides-int_eq i j).1 (h ∙ sym k)) h
int_least (ints.One i) (ints.One j) ints.Any h k = IntLe-top (cond (int_eq i j) (ints.One i) ints.Any)
int_least (ints.One i) (ints.One j) ints.No h k = absurd h
int_least (ints.One i) ints.Any c h k = k
int_least ints.Any b c h k = h

int_bounds : Bounds IntLe int_join
int_bounds = record { left = int_left; right = int_right; least = int_least }

-- strings
short_eq-Decides : (s t : Short) → ((short_eq s t ≡ true) → s ≡ t) × (s ≡ t → short_eq s t ≡ true)
short_eq-Decides s t = (to, from)
  where
    to : short_eq s t ≡ true → s ≡ t
    to h = let p = and_parts (s.len == t.len) _ h in
        let e : s.len ≡ t.len = eqb-true s.len t.len p.0 in
        let f : s.bytes ≡ t.bytes = (bytes_eq-Decides s.bytes t.bytes).0 p.1 in
        λ i. record { len = e i; bytes = f i }

    from : s ≡ t → short_eq s t ≡ true
    from e = rw e (rw (eq-eqb t.len t.len refl, (bytes_eq-Decides t.bytes t.bytes).1 refl) refl)

str_both : (i j : Short) (P : StrPart → Type 0) → (i ≡ j → P (strs.One i)) → P strs.Any → P (cond (short_eq i j) (strs.One i) strs.Any)
str_both i j P h k = go (short_eq i j) refl
  where
    go : (b : Bool) → short_eq i j ≡ b → P (cond b (strs.One i) strs.Any)
    go true e = h ((short_eq-Decides i j).0 e)
    go false e = k

str_left : (a b : StrPart) → StrLe a (str_join a b)
str_left strs.No b = tt
str_left (strs.One i) strs.No = refl
str_left (strs.One i) (strs.One j) = str_both i j (λ p. StrLe (strs.One i) p) (λ e. refl) tt
str_left (strs.One i) strs.Any = tt
str_left strs.Any b = tt

str_right : (a b : StrPart) → StrLe b (str_join a b)
str_right strs.No b = StrLe-refl b
str_right (strs.One i) strs.No = tt
str_right (strs.One i) (strs.One j) = str_both i j (λ p. StrLe (strs.One j) p) (λ e. sym e) tt
str_right (strs.One i) strs.Any = tt
str_right strs.Any b = StrLe-top b

str_least : (a b c : StrPart) → StrLe a c → StrLe b c → StrLe (str_join a b) c
str_least strs.No b c h k = k
str_least (strs.One i) strs.No c h k = h
str_least (strs.One i) (strs.One j) (strs.One m) h k = rw ((short_eq-Decides i j).1 (h ∙ sym k)) h
str_least (strs.One i) (strs.One j) strs.Any h k = StrLe-top (cond (short_eq i j) (strs.One i) strs.Any)
str_least (strs.One i) (strs.One j) strs.No h k = absurd h
str_least (strs.One i) strs.Any c h k = k
str_least strs.Any b c h k = h

str_bounds : Bounds StrLe str_join
str_bounds = record { left = str_left; right = str_right; least = str_least }

-- objects
module _ (t : Tree) (forest : Forest t) where
  -- the nearest common class is above both, and below each that is above both
  near : (c d : ℕ) (P : ObjPart → Type 0) → ((x : ℕ) → IsTrue (below t c x) → IsTrue (below t d x) → P (objs.Sub x)) → P objs.Any → P (sub_or_any (nearest t c d))
  near c d P h k = go (nearest t c d) refl
    where
      go : (o : Option ℕ) → nearest t c d ≡ o → P (sub_or_any o)
      go None e = k
      go (Some x) e = let r = nearest_above t forest c d x e in h x r.0 r.1

  near_left : (c d : ℕ) → ObjLe t (objs.Sub c) (sub_or_any (nearest t c d))
  near_left c d = near c d (λ p. ObjLe t (objs.Sub c) p) (λ x h k. h) tt

  near_right : (c d : ℕ) → ObjLe t (objs.Sub d) (sub_or_any (nearest t c d))
  near_right c d = near c d (λ p. ObjLe t (objs.Sub d) p) (λ x h k. k) tt

  near_least : (c d e : ℕ) → IsTrue (below t c e) → IsTrue (below t d e) → ObjLe t (sub_or_any (nearest t c d)) (objs.Sub e)
  near_least c d e h k = let r = nearest_least t forest c d e h k in rw r.1 r.2

  exact_sub : (c : ℕ) (p : ObjPart) → ObjLe t (objs.Sub c) p → ObjLe t (objs.Exact c) p
  exact_sub c objs.No h = h
  exact_sub c (objs.Exact d) h = absurd h
  exact_sub c (objs.Sub d) h = h
  exact_sub c objs.Any h = tt

  obj_both : (c d : ℕ) (P : ObjPart → Type 0) → (c ≡ d → P (objs.Exact c)) → P (sub_or_any (nearest t c d)) → P (cond (c == d) (objs.Exact c) (sub_or_any (nearest t c d)))
  obj_both c d P h k = go (c == d) refl
    where
      go : (b : Bool) → c == d ≡ b → P (cond b (objs.Exact c) (sub_or_any (nearest t c d)))
      go true e = h (eqb-true c d e)
      go false e = k

  obj_left : (a b : ObjPart) → ObjLe t a (obj_join t a b)
  obj_left objs.No b = tt
  obj_left (objs.Exact c) objs.No = refl
  obj_left (objs.Exact c) (objs.Exact d) = obj_both c d (λ p. ObjLe t (objs.Exact c) p) (λ e. refl) (exact_sub c _ (near_left c d))
  obj_left (objs.Exact c) (objs.Sub d) = exact_sub c _ (near_left c d)
  obj_left (objs.Exact c) objs.Any = tt
  obj_left (objs.Sub c) objs.No = below-refl t c
  obj_left (objs.Sub c) (objs.Exact d) = near_left c d
  obj_left (objs.Sub c) (objs.Sub d) = near_left c d
  obj_left (objs.Sub c) objs.Any = tt
  obj_left objs.Any b = tt

  obj_right : (a b : ObjPart) → ObjLe t b (obj_join t a b)
  obj_right objs.No b = ObjLe-refl t b
  obj_right (objs.Exact c) objs.No = tt
  obj_right (objs.Exact c) (objs.Exact d) = obj_both c d (λ p. ObjLe t (objs.Exact d) p) (λ e. sym e) (exact_sub d _ (near_right c d))
  obj_right (objs.Exact c) (objs.Sub d) = near_right c d
  obj_right (objs.Exact c) objs.Any = tt
  obj_right (objs.Sub c) objs.No = tt
  obj_right (objs.Sub c) (objs.Exact d) = exact_sub d _ (near_right c d)
  obj_right (objs.Sub c) (objs.Sub d) = near_right c d
  obj_right (objs.Sub c) objs.Any = tt
  obj_right objs.Any b = ObjLe-top t b

  obj_least : (a b u : ObjPart) → ObjLe t a u → ObjLe t b u → ObjLe t (obj_join t a b) u
  obj_least objs.No b u h k = k
  obj_least (objs.Exact c) objs.No u h k = h
  obj_least (objs.Sub c) objs.No u h k = h
  obj_least (objs.Exact c) objs.Any u h k = k
  obj_least (objs.Sub c) objs.Any u h k = k
  obj_least objs.Any b u h k = h
  obj_least a b objs.Any h k = ObjLe-top t (obj_join t a b)
  obj_least (objs.Exact c) (objs.Exact d) (objs.Exact e) h k = rw (eq-eqb c d (h ∙ sym k)) h
  obj_least (objs.Exact c) (objs.Exact d) (objs.Sub e) h k = obj_both c d (λ p. ObjLe t p (objs.Sub e)) (λ q. h) (near_least c d e h k)
  obj_least (objs.Exact c) (objs.Sub d) (objs.Sub e) h k = near_least c d e h k
  obj_least (objs.Sub c) (objs.Exact d) (objs.Sub e) h k = near_least c d e h k
  obj_least (objs.Sub c) (objs.Sub d) (objs.Sub e) h k = near_least c d e h k
  obj_least a b u h k = absurd (search)

  pub obj_bounds : Bounds (ObjLe t) (obj_join t)
  obj_bounds = record { left = obj_left; right = obj_right; least = obj_least }

  pub leaf_bounds : Bounds (LeafLe t) (leaf_join t)
  leaf_bounds = record {
    left = λ a b. record {
      null = flags.left a.null b.null;
      no = flags.left a.no b.no;
      yes = flags.left a.yes b.yes;
      int = int_bounds.left a.int b.int;
      str = str_bounds.left a.str b.str;
      obj = obj_bounds.left a.obj b.obj;
      vec = flags.left a.vec b.vec;
      dict = flags.left a.dict b.dict;
      keyset = flags.left a.keyset b.keyset;
    };
    right = λ a b. record {
      null = flags.right a.null b.null;
      no = flags.right a.no b.no;
      yes = flags.right a.yes b.yes;
      int = int_bounds.right a.int b.int;
      str = str_bounds.right a.str b.str;
      obj = obj_bounds.right a.obj b.obj;
      vec = flags.right a.vec b.vec;
      dict = flags.right a.dict b.dict;
      keyset = flags.right a.keyset b.keyset;
    };
    least = λ a b c h k. record {
      null = flags.least a.null b.null c.null h.null k.null;
      no = flags.least a.no b.no c.no h.no k.no;
      yes = flags.least a.yes b.yes c.yes h.yes k.yes;
      int = int_bounds.least a.int b.int c.int h.int k.int;
      str = str_bounds.least a.str b.str c.str h.str k.str;
      obj = obj_bounds.least a.obj b.obj c.obj h.obj k.obj;
      vec = flags.least a.vec b.vec c.vec h.vec k.vec;
      dict = flags.least a.dict b.dict c.dict h.dict k.dict;
      keyset = flags.least a.keyset b.keyset c.keyset h.keyset k.keyset;
    };
  }

-- containers
module _ {A : Type 0} {R : A → A → Type 0} {f : A → A → A} (same : (a : A) → R a a) (l : Bounds R f) where
  part_refl : (a : Option A) → PartLe R a a
  part_refl None = tt
  part_refl (Some a) = same a

  part_left : (a b : Option A) → PartLe R a (part_join f a b)
  part_left None b = tt
  part_left (Some a) None = same a
  part_left (Some a) (Some b) = l.left a b

  part_right : (a b : Option A) → PartLe R b (part_join f a b)
  part_right None b = part_refl b
  part_right (Some a) None = tt
  part_right (Some a) (Some b) = l.right a b

  part_least : (a b c : Option A) → PartLe R a c → PartLe R b c → PartLe R (part_join f a b) c
  part_least None b c h k = k
  part_least (Some a) None c h k = h
  part_least (Some a) (Some b) None h k = h
  part_least (Some a) (Some b) (Some c) h k = l.least a b c h k

  part_bounds : Bounds (PartLe R) (part_join f)
  part_bounds = record { left = part_left; right = part_right; least = part_least }

module _ (t : Tree) (forest : Forest t) where
  entry_bounds : Bounds (EntryLe t) (entry_join t)
  entry_bounds = let l = leaf_bounds t forest in record {
    left = λ a b. (l.left a.0 b.0, l.left a.1 b.1);
    right = λ a b. (l.right a.0 b.0, l.right a.1 b.1);
    least = λ a b c h k. (l.least a.0 b.0 c.0 h.0 k.0, l.least a.1 b.1 c.1 h.1 k.1);
  }

  leaves : Bounds (PartLe (LeafLe t)) (part_join (leaf_join t))
  leaves = part_bounds (LeafLe-refl t) (leaf_bounds t forest)

  entries : Bounds (PartLe (EntryLe t)) (part_join (entry_join t))
  entries = part_bounds (λ e. (LeafLe-refl t e.0, LeafLe-refl t e.1)) entry_bounds

  join_left : (a b : HType) → Le t a (join t a b)
  join_left a b = record {
    uninit = flags.left a.uninit b.uninit;
    null = flags.left a.null b.null;
    no = flags.left a.no b.no;
    yes = flags.left a.yes b.yes;
    int = int_bounds.left a.int b.int;
    str = str_bounds.left a.str b.str;
    obj = (obj_bounds t forest).left a.obj b.obj;
    vec = leaves.left a.vec b.vec;
    dict = entries.left a.dict b.dict;
    keyset = leaves.left a.keyset b.keyset;
  }

  join_right : (a b : HType) → Le t b (join t a b)
  join_right a b = record {
    uninit = flags.right a.uninit b.uninit;
    null = flags.right a.null b.null;
    no = flags.right a.no b.no;
    yes = flags.right a.yes b.yes;
    int = int_bounds.right a.int b.int;
    str = str_bounds.right a.str b.str;
    obj = (obj_bounds t forest).right a.obj b.obj;
    vec = leaves.right a.vec b.vec;
    dict = entries.right a.dict b.dict;
    keyset = leaves.right a.keyset b.keyset;
  }

  join_least : (a b c : HType) → Le t a c → Le t b c → Le t (join t a b) c
  join_least a b c h k = record {
    uninit = flags.least a.uninit b.uninit c.uninit h.uninit k.uninit;
    null = flags.least a.null b.null c.null h.null k.null;
    no = flags.least a.no b.no c.no h.no k.no;
    yes = flags.least a.yes b.yes c.yes h.yes k.yes;
    int = int_bounds.least a.int b.int c.int h.int k.int;
    str = str_bounds.least a.str b.str c.str h.str k.str;
    obj = (obj_bounds t forest).least a.obj b.obj c.obj h.obj k.obj;
    vec = leaves.least a.vec b.vec c.vec h.vec k.vec;
    dict = entries.least a.dict b.dict c.dict h.dict k.dict;
    keyset = leaves.least a.keyset b.keyset c.keyset h.keyset k.keyset;
  }

  pub type_bounds : Bounds (Le t) (join t)
  type_bounds = record { left = join_left; right = join_right; least = join_least }
