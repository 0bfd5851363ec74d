-- What a constraint keeps of a type is the greatest type below both.
use Rattle.std.proofs.Common.{◌≡◌, ℕ, Bool, true, false, ◌&&◌, Option, Some, None, cond, refl, sym, ◌∙◌, subst, ◌⊎◌, inl, inr}
use Rattle.std.specs.Prelude.{IsTrue}
use Rattle.type_lattice.specs.declared.types.IntPart.{IntPart}
use Rattle.type_lattice.specs.declared.types.IntPart.TheVariants as ints
use Rattle.type_lattice.specs.declared.types.StrPart.{StrPart}
use Rattle.type_lattice.specs.declared.types.StrPart.TheVariants as strs
use Rattle.type_lattice.specs.declared.types.ObjPart.{ObjPart}
use Rattle.type_lattice.specs.declared.types.ObjPart.TheVariants as objs
use Rattle.type_lattice.specs.declared.types.Leaf.{Leaf}
use Rattle.type_lattice.specs.declared.types.HType.{HType}
use Rattle.type_lattice.specs.Classes.{Tree, below, Forest}
use Rattle.type_lattice.specs.Order.{FlagLe, IntLe, StrLe, ObjLe, LeafLe, PartLe, EntryLe, Le}
use Rattle.type_lattice.specs.Proper.{ProperInt, ProperStr, ProperObj, ProperKey, ProperVec, ProperDict, ProperKeyset, IsProper}
use Rattle.type_lattice.specs.Types.{cell_leaf, key_leaf}
use Rattle.type_lattice.specs.Keep.{IsIntKind, IsStrKind, IsObjKind, IsKind, IsConstraint, int_keep, str_keep, sub_keep, obj_keep, part_keep, keep}
use Rattle.type_lattice.proofs.Chains.{below_trans, below_linear}
use Rattle.type_lattice.proofs.OrderLaws.{below-refl, FlagLe-top, IntLe-top, StrLe-top, ObjLe-top, IntLe-refl, StrLe-refl, ObjLe-refl, LeafLe-refl}

-- below the type
flag_narrower : (a c : Bool) → FlagLe (a && c) a
flag_narrower true true = refl
flag_narrower true false = tt
flag_narrower false c = tt

int_narrower : (a c : IntPart) → IntLe (int_keep a c) a
int_narrower a ints.No = tt
int_narrower a (ints.One i) = IntLe-refl a
int_narrower a ints.Any = IntLe-refl a

str_narrower : (a c : StrPart) → StrLe (str_keep a c) a
str_narrower a strs.No = tt
str_narrower a (strs.One s) = StrLe-refl a
str_narrower a strs.Any = StrLe-refl a

part_narrower : {A : Type 0} (R : A → A → Type 0) → ((a : A) → R a a) → (a c : Option A) → PartLe R (part_keep a c) a
part_narrower R same a None = tt
part_narrower R same None (Some c) = tt
part_narrower R same (Some a) (Some c) = same a

-- below the constraint
flag_passes : (a c : Bool) → FlagLe (a && c) c
flag_passes true true = refl
flag_passes true false = tt
flag_passes false c = tt

int_passes : (a c : IntPart) → IsIntKind c → IntLe (int_keep a c) c
int_passes a ints.No k = tt
int_passes a (ints.One i) k = absurd k
int_passes a ints.Any k = IntLe-top a

str_passes : (a c : StrPart) → IsStrKind c → StrLe (str_keep a c) c
str_passes a strs.No k = tt
str_passes a (strs.One i) k = absurd k
str_passes a strs.Any k = StrLe-top a

-- above what is below both
flag_greatest : (u a c : Bool) → FlagLe u a → FlagLe u c → FlagLe u (a && c)
flag_greatest false a c h k = tt
flag_greatest true true c h k = k
flag_greatest true false c h k = absurd (cc)

int_greatest : (u a c : IntPart) → IntLe u a → IntLe u c → IntLe u (int_keep a c)
int_greatest u a ints.No h k = k
int_greatest u a (ints.One i) h k = h
int_greatest u a ints.Any h k = h

str_greatest : (u a c : StrPart) → StrLe u a → StrLe u c → StrLe u (str_keep a c)
str_greatest u a strs.No h k = k
str_greatest u a (strs.One s) h k = h
str_greatest u a strs.Any h k = h

part_greatest : {A : Type 0} (R : A → A → Type 0) (u a c : Option A) → PartLe R u a → PartLe R u c → PartLe R u (part_keep a c)
part_greatest R u a None h k = k
part_greatest R u a (Some c) h k = h

-- rising with the type
flag_rises : (a b c : Bool) → FlagLe a b → FlagLe (a && c) (b && c)
flag_rises false b c h = tt
flag_rises true true false h = tt
flag_rises true true true h = refl
flag_rises true false c h = absurd (cc)

int_rises : (a b c : IntPart) → IntLe a b → IntLe (int_keep a c) (int_keep b c)
int_rises a b ints.No h = tt
int_rises a b (ints.One j) h = h
int_rises a b ints.Any h = h

str_rises : (a b c : StrPart) → StrLe a b → StrLe (str_keep a c) (str_keep b c)
str_rises a b strs.No h = tt
str_rises a b (strs.One j) h = h
str_rises a b strs.Any h = h

part_rises : {A : Type 0} (R : A → A → Type 0) (a b c : Option A) → PartLe R a b → PartLe R (part_keep a c) (part_keep b c)
part_rises R a b None h = tt
part_rises R a b (Some c) h = h

-- proper
int_kept_proper : (a c : IntPart) → ProperInt a → ProperInt (int_keep a c)
int_kept_proper a ints.No h = tt
int_kept_proper a (ints.One i) h = h
int_kept_proper a ints.Any h = h

str_kept_proper : (a c : StrPart) → ProperStr a → ProperStr (str_keep a c)
str_kept_proper a strs.No h = tt
str_kept_proper a (strs.One i) h = h
str_kept_proper a strs.Any h = h

part_kept_proper : {A : Type 0} (P : Option A → Type 0) → P None → (a c : Option A) → P a → P (part_keep a c)
part_kept_proper P none a None h = none
part_kept_proper P none a (Some c) h = h

module _ (t : Tree) where
  -- the three ways in which a class can stand to another
  pub cases_sub : (d c : ℕ) (P : ObjPart → Type 0)
      → (below t d c ≡ true → P (objs.Sub d)) → (below t d c ≡ false → below t c d ≡ true → P (objs.Sub c)) → (below t d c ≡ false → below t c d ≡ false → P objs.No)
      → P (sub_keep t (objs.Sub d) c)
  cases_sub d c P f g h = go (below t d c) refl
    where
      inner : (b : Bool) → below t c d ≡ b → below t d c ≡ false → P (cond b (objs.Sub c) objs.No)
      inner true e k = g k e
      inner false e k = h k e

      go : (b : Bool) → below t d c ≡ b → P (cond b (objs.Sub d) (cond (below t c d) (objs.Sub c) objs.No))
      go true e = f e
      go false e = inner (below t c d) refl e

  pub cases_exact : (d c : ℕ) (P : ObjPart → Type 0) → (below t d c ≡ true → P (objs.Exact d)) → (below t d c ≡ false → P objs.No) → P (sub_keep t (objs.Exact d) c)
  cases_exact d c P f g = go (below t d c) refl
    where
      go : (b : Bool) → below t d c ≡ b → P (cond b (objs.Exact d) objs.No)
      go true e = f e
      go false e = g e

  sub_narrower : (a : ObjPart) (c : ℕ) → ObjLe t (sub_keep t a c) a
  sub_narrower objs.No c = tt
  sub_narrower (objs.Exact d) c = cases_exact d c (λ p. ObjLe t p (objs.Exact d)) (λ e. refl) (λ e. tt)
  sub_narrower (objs.Sub d) c = cases_sub d c (λ p. ObjLe t p (objs.Sub d)) (λ e. below-refl t d) (λ e k. k) (λ e k. tt)
  sub_narrower objs.Any c = tt

  obj_narrower : (a c : ObjPart) → ObjLe t (obj_keep t a c) a
  obj_narrower a objs.No = tt
  obj_narrower a (objs.Exact c) = ObjLe-refl t a
  obj_narrower a (objs.Sub c) = sub_narrower a c
  obj_narrower a objs.Any = ObjLe-refl t a

  sub_passes : (a : ObjPart) (c : ℕ) → ObjLe t (sub_keep t a c) (objs.Sub c)
  sub_passes objs.No c = tt
  sub_passes (objs.Exact d) c = cases_exact d c (λ p. ObjLe t p (objs.Sub c)) (λ e. e) (λ e. tt)
  sub_passes (objs.Sub d) c = cases_sub d c (λ p. ObjLe t p (objs.Sub c)) (λ e. e) (λ e k. below-refl t c) (λ e k. tt)
  sub_passes objs.Any c = below-refl t c

  pub obj_passes : (a c : ObjPart) → IsObjKind c → ObjLe t (obj_keep t a c) c
  obj_passes a objs.No k = tt
  obj_passes a (objs.Exact c) k = absurd k
  obj_passes a (objs.Sub c) k = sub_passes a c
  obj_passes a objs.Any k = ObjLe-top t a

  leaf_top : (l : Leaf) → LeafLe t l cell_leaf
  leaf_top l = record {
    null = FlagLe-top l.null;
    no = FlagLe-top l.no;
    yes = FlagLe-top l.yes;
    int = IntLe-top l.int;
    str = StrLe-top l.str;
    obj = ObjLe-top t l.obj;
    vec = FlagLe-top l.vec;
    dict = FlagLe-top l.dict;
    keyset = FlagLe-top l.keyset;
  }

  unset : (a : Bool) → a ≡ false → FlagLe a false
  unset a e = subst (λ b. FlagLe b false) (sym e) tt

  key_top : (l : Leaf) → ProperKey l → LeafLe t l key_leaf
  key_top l k = record {
    null = unset l.null k.null;
    no = unset l.no k.no;
    yes = unset l.yes k.yes;
    int = IntLe-top l.int;
    str = StrLe-top l.str;
    obj = subst (λ p. ObjLe t p objs.No) (sym k.obj) tt;
    vec = unset l.vec k.vec;
    dict = unset l.dict k.dict;
    keyset = unset l.keyset k.keyset;
  }

  vec_passes : (a c : Option Leaf) → IsKind cell_leaf c → PartLe (LeafLe t) (part_keep a c) c
  vec_passes a None k = tt
  vec_passes None (Some c) k = tt
  vec_passes (Some a) (Some c) k = subst (λ w. LeafLe t a w) (sym k) (leaf_top a)

  dict_passes : (a c : Option (Leaf × Leaf)) → ProperDict t a → IsKind (key_leaf, cell_leaf) c → PartLe (EntryLe t) (part_keep a c) c
  dict_passes a None p k = tt
  dict_passes None (Some c) p k = tt
  dict_passes (Some a) (Some c) p k = subst (λ w. EntryLe t a w) (sym k) (key_top a.0 p.0, leaf_top a.1)

  keyset_passes : (a c : Option Leaf) → ProperKeyset a → IsKind key_leaf c → PartLe (LeafLe t) (part_keep a c) c
  keyset_passes a None p k = tt
  keyset_passes None (Some c) p k = tt
  keyset_passes (Some a) (Some c) p k = subst (λ w. LeafLe t a w) (sym k) (key_top a p)

  pub keep_narrower : (a c : HType) → Le t (keep t a c) a
  keep_narrower a c = record {
    uninit = flag_narrower a.uninit c.uninit;
    null = flag_narrower a.null c.null;
    no = flag_narrower a.no c.no;
    yes = flag_narrower a.yes c.yes;
    int = int_narrower a.int c.int;
    str = str_narrower a.str c.str;
    obj = obj_narrower a.obj c.obj;
    vec = part_narrower (LeafLe t) (LeafLe-refl t) a.vec c.vec;
    dict = part_narrower (EntryLe t) (λ e. (LeafLe-refl t e.0, LeafLe-refl t e.1)) a.dict c.dict;
    keyset = part_narrower (LeafLe t) (LeafLe-refl t) a.keyset c.keyset;
  }

  pub keep_passes : (a c : HType) → IsConstraint c → IsProper t a → Le t (keep t a c) c
  keep_passes a c k p = record {
    uninit = flag_passes a.uninit c.uninit;
    null = flag_passes a.null c.null;
    no = flag_passes a.no c.no;
    yes = flag_passes a.yes c.yes;
    int = int_passes a.int c.int k.int;
    str = str_passes a.str c.str k.str;
    obj = obj_passes a.obj c.obj k.obj;
    vec = vec_passes a.vec c.vec k.vec;
    dict = dict_passes a.dict c.dict p.dict k.dict;
    keyset = keyset_passes a.keyset c.keyset p.keyset k.keyset;
  }

  sub_proper : (a : ObjPart) (c : ℕ) → ProperObj t a → ProperObj t (objs.Sub c) → ProperObj t (sub_keep t a c)
  sub_proper objs.No c h k = tt
  sub_proper (objs.Exact d) c h k = cases_exact d c (ProperObj t) (λ e. h) (λ e. tt)
  sub_proper (objs.Sub d) c h k = cases_sub d c (ProperObj t) (λ e. h) (λ e w. k) (λ e w. tt)
  sub_proper objs.Any c h k = k

  obj_kept_proper : (a c : ObjPart) → ProperObj t a → ProperObj t c → ProperObj t (obj_keep t a c)
  obj_kept_proper a objs.No h k = tt
  obj_kept_proper a (objs.Exact c) h k = h
  obj_kept_proper a (objs.Sub c) h k = sub_proper a c h k
  obj_kept_proper a objs.Any h k = h

  pub keep_proper : (a c : HType) → IsProper t a → IsProper t c → IsProper t (keep t a c)
  keep_proper a c h k = record {
    int = int_kept_proper a.int c.int h.int;
    str = str_kept_proper a.str c.str h.str;
    obj = obj_kept_proper a.obj c.obj h.obj k.obj;
    vec = part_kept_proper (ProperVec t) tt a.vec c.vec h.vec;
    dict = part_kept_proper (ProperDict t) tt a.dict c.dict h.dict;
    keyset = part_kept_proper ProperKeyset tt a.keyset c.keyset h.keyset;
  }

  module _ (forest : Forest t) where
    -- two classes above a third stand one above the other
    pub apart : (a d c : ℕ) → below t a d ≡ true → below t a c ≡ true → below t d c ≡ false → below t c d ≡ false → ⊥
    apart a d c h k p q = go (below_linear t forest a d c h k)
      where
        go : IsTrue (below t d c) ⊎ IsTrue (below t c d) → ⊥
        go (inl w) = let z : true ≡ false = sym w ∙ p in absurd (cc)
        go (inr w) = let z : true ≡ false = sym w ∙ q in absurd (cc)

    sub_greatest : (u a : ObjPart) (c : ℕ) → ObjLe t u a → ObjLe t u (objs.Sub c) → ObjLe t u (sub_keep t a c)
    sub_greatest objs.No a c h k = tt
    sub_greatest (objs.Exact x) objs.No c h k = absurd h
    sub_greatest (objs.Exact x) (objs.Exact d) c h k =
        let m : below t d c ≡ true = subst (λ y. below t y c ≡ true) h k in
        cases_exact d c (λ p. ObjLe t (objs.Exact x) p) (λ e. h) (λ e. let z : true ≡ false = sym m ∙ e in absurd (cc))
    sub_greatest (objs.Exact x) (objs.Sub d) c h k = cases_sub d c (λ p. ObjLe t (objs.Exact x) p) (λ e. h) (λ e w. k) (λ p q. absurd (apart x d c h k p q))
    sub_greatest (objs.Exact x) objs.Any c h k = k
    sub_greatest (objs.Sub x) objs.No c h k = absurd h
    sub_greatest (objs.Sub x) (objs.Exact d) c h k = absurd h
    sub_greatest (objs.Sub x) (objs.Sub d) c h k = cases_sub d c (λ p. ObjLe t (objs.Sub x) p) (λ e. h) (λ e w. k) (λ p q. absurd (apart x d c h k p q))
    sub_greatest (objs.Sub x) objs.Any c h k = k
    sub_greatest objs.Any a c h k = absurd k

    obj_greatest : (u a c : ObjPart) → ObjLe t u a → ObjLe t u c → ObjLe t u (obj_keep t a c)
    obj_greatest u a objs.No h k = k
    obj_greatest u a (objs.Exact c) h k = h
    obj_greatest u a (objs.Sub c) h k = sub_greatest u a c h k
    obj_greatest u a objs.Any h k = h

    pub keep_greatest : (a c u : HType) → Le t u a → Le t u c → Le t u (keep t a c)
    keep_greatest a c u h k = record {
      uninit = flag_greatest u.uninit a.uninit c.uninit h.uninit k.uninit;
      null = flag_greatest u.null a.null c.null h.null k.null;
      no = flag_greatest u.no a.no c.no h.no k.no;
      yes = flag_greatest u.yes a.yes c.yes h.yes k.yes;
      int = int_greatest u.int a.int c.int h.int k.int;
      str = str_greatest u.str a.str c.str h.str k.str;
      obj = obj_greatest u.obj a.obj c.obj h.obj k.obj;
      vec = part_greatest (LeafLe t) u.vec a.vec c.vec h.vec k.vec;
      dict = part_greatest (EntryLe t) u.dict a.dict c.dict h.dict k.dict;
      keyset = part_greatest (LeafLe t) u.keyset a.keyset c.keyset h.keyset k.keyset;
    }

    above_narrower : (d e c : ℕ) → below t d e ≡ true → ObjLe t (sub_keep t (objs.Sub d) c) (objs.Sub e)
    above_narrower d e c h =
        cases_sub d c (λ p. ObjLe t p (objs.Sub e)) (λ w. h) (λ w k. below_trans t forest c d e k h) (λ p q. tt)

    sub_rises : (a b : ObjPart) (c : ℕ) → ObjLe t a b → ObjLe t (sub_keep t a c) (sub_keep t b c)
    sub_rises objs.No b c h = tt
    sub_rises (objs.Exact d) objs.No c h = absurd h
    sub_rises (objs.Exact d) (objs.Exact e) c h = sub_greatest (sub_keep t (objs.Exact d) c) (objs.Exact e) c
        (subst (λ x. ObjLe t (sub_keep t (objs.Exact d) c) (objs.Exact x)) h (sub_narrower (objs.Exact d) c)) (sub_passes (objs.Exact d) c)
    sub_rises (objs.Exact d) (objs.Sub e) c h = sub_greatest (sub_keep t (objs.Exact d) c) (objs.Sub e) c
        (cases_exact d c (λ p. ObjLe t p (objs.Sub e)) (λ w. h) (λ w. tt)) (sub_passes (objs.Exact d) c)
    sub_rises (objs.Exact d) objs.Any c h = sub_passes (objs.Exact d) c
    sub_rises (objs.Sub d) objs.No c h = absurd h
    sub_rises (objs.Sub d) (objs.Exact e) c h = absurd h
    sub_rises (objs.Sub d) (objs.Sub e) c h = sub_greatest (sub_keep t (objs.Sub d) c) (objs.Sub e) c (above_narrower d e c h) (sub_passes (objs.Sub d) c)
    sub_rises (objs.Sub d) objs.Any c h = sub_passes (objs.Sub d) c
    sub_rises objs.Any objs.No c h = absurd h
    sub_rises objs.Any (objs.Exact e) c h = absurd h
    sub_rises objs.Any (objs.Sub e) c h = absurd h
    sub_rises objs.Any objs.Any c h = below-refl t c

    obj_rises : (a b c : ObjPart) → ObjLe t a b → ObjLe t (obj_keep t a c) (obj_keep t b c)
    obj_rises a b objs.No h = tt
    obj_rises a b (objs.Exact c) h = h
    obj_rises a b (objs.Sub c) h = sub_rises a b c h
    obj_rises a b objs.Any h = h

    pub keep_rises : (a b c : HType) → Le t a b → Le t (keep t a c) (keep t b c)
    keep_rises a b c h = record {
      uninit = flag_rises a.uninit b.uninit c.uninit h.uninit;
      null = flag_rises a.null b.null c.null h.null;
      no = flag_rises a.no b.no c.no h.no;
      yes = flag_rises a.yes b.yes c.yes h.yes;
      int = int_rises a.int b.int c.int h.int;
      str = str_rises a.str b.str c.str h.str;
      obj = obj_rises a.obj b.obj c.obj h.obj;
      vec = part_rises (LeafLe t) a.vec b.vec c.vec h.vec;
      dict = part_rises (EntryLe t) a.dict b.dict c.dict h.dict;
      keyset = part_rises (LeafLe t) a.keyset b.keyset c.keyset h.keyset;
    }
