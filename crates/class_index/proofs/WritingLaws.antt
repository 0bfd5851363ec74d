-- What writing leaves rises.
use Rattle.std.proofs.Common.{◌≡◌, ◌⊎◌, inl, inr, ℕ, refl, sym, subst, ap, ◌∙◌, cond, Bool, true, false, not, ◌==◌, Some, None, Option, List, [], ◌∷◌, ◌++◌, map}
use Rattle.std.proofs.lemmas.Bool.{eqb-true, eq-eqb}
use Rattle.type_lattice.specs.declared.types.ObjPart.{ObjPart}
use Rattle.type_lattice.specs.declared.types.Leaf.{Leaf}
use Rattle.type_lattice.specs.declared.types.HType.{HType}
use Rattle.type_lattice.specs.Classes.{Tree, Forest, has}
use Rattle.type_lattice.specs.Types.{never}
use Rattle.type_lattice.specs.Never.{is_never, is_absent}
use Rattle.type_lattice.specs.Order.{FlagLe, ObjLe, PartLe, LeafLe, EntryLe, Le}
use Rattle.type_lattice.specs.Join.{join, leaf_join}
use Rattle.type_lattice.proofs.Claimed.{le_is_order, leaves_are_like_types}
use Rattle.type_lattice.proofs.NeverLaws.{never_is_never}
use Rattle.hhbc_repo.specs.Linked.{Linked}
use Rattle.hhbc_repo.specs.Bodies.{tree_of}
use Rattle.hhbc_repo.specs.LookUps.{Sound}
use Rattle.class_index.specs.declared.keys.TypeKey.{TypeKey}
use Rattle.class_index.specs.declared.keys.TypeKey.TheVariants as keys
use Rattle.class_index.specs.Laws.{KeyLe, KeysLe, FactsLe, ValueLe, WritesRise}
use Rattle.class_index.specs.Leaves.{type_of, leaf_of, key_of, has_int, has_key, joins}
use Rattle.class_index.specs.Named.{Names, NoName, OneName, names_of, key_names, given, fact}
use Rattle.class_index.specs.Reading.{value_of}
use Rattle.class_index.specs.Writing.{changed, objects_if, some_of, only_at, with_value, with_key, with_entry, set_element, appended, unset_element, set_property, set_base, unset_base, last_base, last_effect, left_in, left_entry, vec_under, dict_under, element_under, some_alive, inside, property_under, base_under, inner, write_base, write_effect}
use Rattle.class_index.proofs.Joining.{joins_both}
use Rattle.class_index.proofs.PartsReached.{either, or_left, or_right}
use Rattle.class_index.proofs.ReadingLaws.{given_rises, int_rises, join_rises, joins_rise, key_rises, names_rise, never_lowest, one_name, type_rises, value_rises}

module _ (tree : Tree) (forest : Forest tree) where
  -- ---- parts

  there_rises : {A : Type 0} (R : A → A → Type 0) (p q : Option A) → PartLe R p q → FlagLe (not (is_absent p)) (not (is_absent q))
  there_rises R None q h = tt
  there_rises R (Some a) None h = absurd (h)
  there_rises R (Some a) (Some b) h = refl

  leaf_rises : (a b : HType) → Le tree a b → LeafLe tree (leaf_of a) (leaf_of b)
  leaf_rises a b h = record {
    null = h.null;
    no = h.no;
    yes = h.yes;
    int = h.int;
    str = h.str;
    obj = h.obj;
    vec = there_rises (LeafLe tree) a.vec b.vec h.vec;
    dict = there_rises (EntryLe tree) a.dict b.dict h.dict;
    keyset = there_rises (LeafLe tree) a.keyset b.keyset h.keyset;
  }

  key_leaf_rises : (a b : HType) → Le tree a b → LeafLe tree (key_of a) (key_of b)
  key_leaf_rises a b h = record { null = tt; no = tt; yes = tt; int = h.int; str = h.str; obj = tt; vec = tt; dict = tt; keyset = tt }

  leaf_joins_rise : (a b c d : Leaf) → LeafLe tree a c → LeafLe tree b d → LeafLe tree (leaf_join tree a b) (leaf_join tree c d)
  leaf_joins_rise = (leaves_are_like_types tree forest).join.rises

  value_leaf_rises : (v w : HType) → Le tree v w → (a b : Leaf) → LeafLe tree a b → LeafLe tree (with_value tree v a) (with_value tree w b)
  value_leaf_rises v w h a b k = leaf_joins_rise a (leaf_of v) b (leaf_of w) k (leaf_rises v w h)

  with_key_rises : (v w : HType) → Le tree v w → (a b : Leaf) → LeafLe tree a b → LeafLe tree (with_key tree v a) (with_key tree w b)
  with_key_rises v w h a b k = leaf_joins_rise a (key_of v) b (key_of w) k (key_leaf_rises v w h)

  entry_rises : (k l v w : HType) → Le tree k l → Le tree v w → (a b : Leaf × Leaf) → EntryLe tree a b → EntryLe tree (with_entry tree k v a) (with_entry tree l w b)
  entry_rises k l v w h m a b e = (with_key_rises k l h a.0 b.0 e.0, value_leaf_rises v w m a.1 b.1 e.1)

  changed_rises : {A : Type 0} (R : A → A → Type 0) (f g : A → A) → ((a b : A) → R a b → R (f a) (g b)) → (x y : Bool) → (x ≡ true → y ≡ true)
      → (p q : Option A) → PartLe R p q → PartLe R (changed f x p) (changed g y q)
  changed_rises R f g rises false y h p q le = tt
  changed_rises R f g rises true y h None q le = tt
  changed_rises R f g rises true y h (Some a) None le = absurd (le)
  changed_rises R f g rises true y h (Some a) (Some b) le = subst (λ (z : Bool). PartLe R (Some (f a)) (changed g z (Some b))) (sym (h refl)) (rises a b le)

  objects_rise : (x y : Bool) → (x ≡ true → y ≡ true) → (a b : ObjPart) → ObjLe tree a b → ObjLe tree (objects_if x a) (objects_if y b)
  objects_rise false y h a b le = tt
  objects_rise true y h a b le = subst (λ (z : Bool). ObjLe tree a (objects_if z b)) (sym (h refl)) le

  only_rises : (q : ℕ) (ps qs : List ℕ) → (has q ps ≡ true → has q qs ≡ true) → (a b : HType) → Le tree a b → Le tree (only_at q ps a) (only_at q qs b)
  only_rises q ps qs h a b le = go (has q ps) refl
    where
      go : (x : Bool) → has q ps ≡ x → Le tree (cond x a never) (only_at q qs b)
      go false e = never_lowest tree forest (only_at q qs b)
      go true e = subst (λ (z : Bool). Le tree a (cond z b never)) (sym (h e)) le

  -- ---- the last key

  set_rises : (t u k l v w : HType) → Le tree t u → Le tree k l → Le tree v w → Le tree (set_element tree t k v) (set_element tree u l w)
  set_rises t u k l v w h m n = record {
    uninit = tt;
    null = tt;
    no = tt;
    yes = tt;
    int = tt;
    str = tt;
    obj = tt;
    vec = changed_rises (LeafLe tree) (with_value tree v) (with_value tree w) (value_leaf_rises v w n) (has_int k) (has_int l) (int_rises tree forest k l m) t.vec u.vec h.vec;
    dict = changed_rises (EntryLe tree) (with_entry tree k v) (with_entry tree l w) (entry_rises k l v w m n) (has_key k) (has_key l) (key_rises tree forest k l m) t.dict u.dict h.dict;
    keyset = tt;
  }

  append_rises : (t u v w : HType) → Le tree t u → Le tree v w → Le tree (appended tree t v) (appended tree u w)
  append_rises t u v w h n = record {
    uninit = tt;
    null = tt;
    no = tt;
    yes = tt;
    int = tt;
    str = tt;
    obj = tt;
    vec = changed_rises (LeafLe tree) (with_value tree v) (with_value tree w) (value_leaf_rises v w n) true true (λ e. e) t.vec u.vec h.vec;
    dict = tt;
    keyset = changed_rises (LeafLe tree) (with_key tree v) (with_key tree w) (with_key_rises v w n) (has_key v) (has_key w) (key_rises tree forest v w n) t.keyset u.keyset h.keyset;
  }

  unset_rises : (t u k l : HType) → Le tree t u → Le tree k l → Le tree (unset_element t k) (unset_element u l)
  unset_rises t u k l h m = record {
    uninit = tt;
    null = tt;
    no = tt;
    yes = tt;
    int = tt;
    str = tt;
    obj = tt;
    vec = tt;
    dict = changed_rises (EntryLe tree) (λ e. e) (λ e. e) (λ a b e. e) (has_key k) (has_key l) (key_rises tree forest k l m) t.dict u.dict h.dict;
    keyset = changed_rises (LeafLe tree) (λ e. e) (λ e. e) (λ a b e. e) (has_key k) (has_key l) (key_rises tree forest k l m) t.keyset u.keyset h.keyset;
  }

  of_objects : (a b : ObjPart) → ObjLe tree a b → Le tree (record never { obj = a }) (record never { obj = b })
  of_objects a b h = record { uninit = tt; null = tt; no = tt; yes = tt; int = tt; str = tt; obj = h; vec = tt; dict = tt; keyset = tt }

  -- ---- with more keys behind

  alive_rises : (a b : HType) → Le tree a b → is_never a ≡ false → is_never b ≡ false
  alive_rises a b h e = go (is_never b) refl
    where
      go : (x : Bool) → is_never b ≡ x → is_never b ≡ false
      go false k = k
      go true k =
          let m : Le tree a never = subst (λ (z : HType). Le tree a z) ((never_is_never b).0 k) h in
          let n : a ≡ never = (le_is_order tree forest).equal a never m ((le_is_order tree forest).lowest a) in
          let o : true ≡ false = sym ((never_is_never a).1 n) ∙ e in
          absurd (cc)

  left_rises : (a b : Leaf) → LeafLe tree a b → (i j : HType) → Le tree i j → PartLe (LeafLe tree) (left_in tree a i) (left_in tree b j)
  left_rises a b h i j le = go (is_never i) refl
    where
      go : (x : Bool) → is_never i ≡ x → PartLe (LeafLe tree) (cond x None (Some (leaf_join tree a (leaf_of i)))) (left_in tree b j)
      go true e = tt
      go false e =
          subst (λ (z : Bool). PartLe (LeafLe tree) (Some (leaf_join tree a (leaf_of i))) (cond z None (Some (leaf_join tree b (leaf_of j))))) (sym (alive_rises i j le e))
          (value_leaf_rises i j le a b h)

  left_entry_rises : (a b : Leaf) → LeafLe tree a b → (p q : Option Leaf) → PartLe (LeafLe tree) p q → PartLe (EntryLe tree) (left_entry a p) (left_entry b q)
  left_entry_rises a b h None q le = tt
  left_entry_rises a b h (Some v) None le = absurd (le)
  left_entry_rises a b h (Some v) (Some w) le = (h, le)

  module _ (next more : HType → HType) (rises : (i j : HType) → Le tree i j → Le tree (next i) (more j)) where
    vec_rises : (x y : Bool) → (x ≡ true → y ≡ true) → (p q : Option Leaf) → PartLe (LeafLe tree) p q → PartLe (LeafLe tree) (vec_under tree next x p) (vec_under tree more y q)
    vec_rises false y h p q le = tt
    vec_rises true y h None q le = tt
    vec_rises true y h (Some a) None le = absurd (le)
    vec_rises true y h (Some a) (Some b) le =
        subst (λ (z : Bool). PartLe (LeafLe tree) (left_in tree a (next (type_of a))) (vec_under tree more z (Some b))) (sym (h refl))
        (left_rises a b le (next (type_of a)) (more (type_of b)) (rises (type_of a) (type_of b) (type_rises tree forest a b le)))

    dict_rises : (x y : Bool) → (x ≡ true → y ≡ true) → (p q : Option (Leaf × Leaf)) → PartLe (EntryLe tree) p q → PartLe (EntryLe tree) (dict_under tree next x p) (dict_under tree more y q)
    dict_rises false y h p q le = tt
    dict_rises true y h None q le = tt
    dict_rises true y h (Some a) None le = absurd (le)
    dict_rises true y h (Some a) (Some b) le =
        subst (λ (z : Bool). PartLe (EntryLe tree) (left_entry a.0 (left_in tree a.1 (next (value_of a)))) (dict_under tree more z (Some b))) (sym (h refl))
        (left_entry_rises a.0 b.0 le.0 (left_in tree a.1 (next (value_of a))) (left_in tree b.1 (more (value_of b)))
        (left_rises a.1 b.1 le.1 (next (value_of a)) (more (value_of b)) (rises (value_of a) (value_of b) (value_rises tree forest a b le))))

    elements_rise : (t u k l : HType) → Le tree t u → Le tree k l → Le tree (element_under tree next t k) (element_under tree more u l)
    elements_rise t u k l h m = record {
      uninit = tt;
      null = tt;
      no = tt;
      yes = tt;
      int = tt;
      str = tt;
      obj = tt;
      vec = vec_rises (has_int k) (has_int l) (int_rises tree forest k l m) t.vec u.vec h.vec;
      dict = dict_rises (has_key k) (has_key l) (key_rises tree forest k l m) t.dict u.dict h.dict;
      keyset = tt;
    }

    inside_rises : {A : Type 0} (R : A → A → Type 0) (f : A → HType) → ((a b : A) → R a b → Le tree (f a) (f b)) → (x y : Bool) → (x ≡ true → y ≡ true)
        → (p q : Option A) → PartLe R p q → Le tree (joins tree (map next (inside f x p))) (joins tree (map more (inside f y q)))
    inside_rises R f up false y h p q le = never_lowest tree forest (joins tree (map more (inside f y q)))
    inside_rises R f up true y h None q le = never_lowest tree forest (joins tree (map more (inside f y q)))
    inside_rises R f up true y h (Some a) None le = absurd (le)
    inside_rises R f up true y h (Some a) (Some b) le =
        subst (λ (z : Bool). Le tree (join tree (next (f a)) never) (joins tree (map more (inside f z (Some b))))) (sym (h refl))
        (join_rises tree forest (next (f a)) never (more (f b)) never (rises (f a) (f b) (up a b le)) (never_lowest tree forest never))

pub map_parts : (f : HType → HType) (xs ys : List HType) → map f (xs ++ ys) ≡ map f xs ++ map f ys
map_parts f [] ys = refl
map_parts f (x ∷ xs) ys = ap (λ (zs : List HType). f x ∷ zs) (map_parts f xs ys)

map_twice : (f : HType → HType) (g : ℕ → HType) (qs : List ℕ) → map f (map g qs) ≡ map (λ q. f (g q)) qs
map_twice f g [] = refl
map_twice f g (q ∷ qs) = ap (λ (zs : List HType). f (g q) ∷ zs) (map_twice f g qs)

some_has : (qs : List ℕ) → some_of qs ≡ true → (q : ℕ) × (has q qs ≡ true)
some_has [] h = absurd (cc)
some_has (q ∷ qs) h = (q, or_left (q == q) (has q qs) (eq-eqb q q refl))

has_some : (qs : List ℕ) (q : ℕ) → has q qs ≡ true → some_of qs ≡ true
has_some [] q h = absurd (cc)
has_some (p ∷ qs) q h = refl

alive_has : (f : ℕ → HType) (qs : List ℕ) → some_alive (map f qs) ≡ true → (q : ℕ) × (has q qs ≡ true) × (is_never (f q) ≡ false)
alive_has f [] h = absurd (cc)
alive_has f (p ∷ qs) h = go (is_never (f p)) refl h (alive_has f qs)
  where
    go : (x : Bool) → is_never (f p) ≡ x → cond x (some_alive (map f qs)) true ≡ true → (some_alive (map f qs) ≡ true → (q : ℕ) × (has q qs ≡ true) × (is_never (f q) ≡ false))
        → (q : ℕ) × (has q (p ∷ qs) ≡ true) × (is_never (f q) ≡ false)
    go false e k more = (p, or_left (p == p) (has p qs) (eq-eqb p p refl), e)
    go true e k more = let w = more k in (w.0, or_right (w.0 == p) (has w.0 qs) w.1, w.2)

has_alive : (f : ℕ → HType) (qs : List ℕ) (q : ℕ) → has q qs ≡ true → is_never (f q) ≡ false → some_alive (map f qs) ≡ true
has_alive f [] q h e = absurd (cc)
has_alive f (p ∷ qs) q h e = go (is_never (f p)) refl (either (q == p) (has q qs) h) (λ k. has_alive f qs q k e)
  where
    go : (x : Bool) → is_never (f p) ≡ x → ((q == p) ≡ true) ⊎ (has q qs ≡ true) → (has q qs ≡ true → some_alive (map f qs) ≡ true) → cond x (some_alive (map f qs)) true ≡ true
    go false m k more = refl
    go true m (inl k) more =
        let n : is_never (f p) ≡ false = subst (λ (z : ℕ). is_never (f z) ≡ false) (eqb-true q p k) e in
        let o : true ≡ false = sym m ∙ n in
        absurd (cc)
    go true m (inr k) more = more k

-- ---- names and keys

module _ (r : Linked) (sound : Sound r) where
  -- one case for each pair of keys of a kind, the others being none
  ByKind : (TypeKey → TypeKey → Type 0) → Type 0
  ByKind P = (
      ((k l : HType) → KeyLe r (keys.Elem k) (keys.Elem l) → P (keys.Elem k) (keys.Elem l))
      × ((k l : HType) → KeyLe r (keys.Prop k) (keys.Prop l) → P (keys.Prop k) (keys.Prop l))
      × ((s n : List ℕ) → KeyLe r (keys.PropName s) (keys.PropName n) → P (keys.PropName s) (keys.PropName n))
      × ((s n : List ℕ) → KeyLe r (keys.Nullsafe s) (keys.Nullsafe n) → P (keys.Nullsafe s) (keys.Nullsafe n))
      × P keys.Append keys.Append
      )

  by_kind : (P : TypeKey → TypeKey → Type 0) → ByKind P → (k l : TypeKey) → KeyLe r k l → P k l
  unfolding ByKind
  by_kind P f (keys.Elem k) (keys.Elem l) m = f.0 k l m
  by_kind P f (keys.Prop k) (keys.Prop l) m = f.1 k l m
  by_kind P f (keys.PropName s) (keys.PropName n) m = f.2 s n m
  by_kind P f (keys.Nullsafe s) (keys.Nullsafe n) m = f.3 s n m
  by_kind P f keys.Append keys.Append m = f.4
  by_kind P f (keys.Elem k) (keys.Prop l) m = absurd (m)
  by_kind P f (keys.Elem k) (keys.PropName n) m = absurd (m)
  by_kind P f (keys.Elem k) (keys.Nullsafe n) m = absurd (m)
  by_kind P f (keys.Elem k) keys.Append m = absurd (m)
  by_kind P f (keys.Prop k) (keys.Elem l) m = absurd (m)
  by_kind P f (keys.Prop k) (keys.PropName n) m = absurd (m)
  by_kind P f (keys.Prop k) (keys.Nullsafe n) m = absurd (m)
  by_kind P f (keys.Prop k) keys.Append m = absurd (m)
  by_kind P f (keys.PropName s) (keys.Elem l) m = absurd (m)
  by_kind P f (keys.PropName s) (keys.Prop l) m = absurd (m)
  by_kind P f (keys.PropName s) (keys.Nullsafe n) m = absurd (m)
  by_kind P f (keys.PropName s) keys.Append m = absurd (m)
  by_kind P f (keys.Nullsafe s) (keys.Elem l) m = absurd (m)
  by_kind P f (keys.Nullsafe s) (keys.Prop l) m = absurd (m)
  by_kind P f (keys.Nullsafe s) (keys.PropName n) m = absurd (m)
  by_kind P f (keys.Nullsafe s) keys.Append m = absurd (m)
  by_kind P f keys.Append (keys.Elem l) m = absurd (m)
  by_kind P f keys.Append (keys.Prop l) m = absurd (m)
  by_kind P f keys.Append (keys.PropName n) m = absurd (m)
  by_kind P f keys.Append (keys.Nullsafe n) m = absurd (m)

  key_names_rise : (a b : ObjPart) → ObjLe (tree_of r) a b → (k l : TypeKey) → KeyLe r k l → (q : ℕ) → has q (given r a (key_names k)) ≡ true → has q (given r b (key_names l)) ≡ true
  unfolding ByKind
  key_names_rise a b h = by_kind (λ k l. (q : ℕ) → has q (given r a (key_names k)) ≡ true → has q (given r b (key_names l)) ≡ true) (
    (λ k l m. given_rises r sound a b NoName NoName h (λ q c e. e)),
    (λ k l m. given_rises r sound a b (names_of k.str) (names_of l.str) h (names_rise r sound k.str l.str m.str)),
    (λ s n m. given_rises r sound a b (OneName s) (OneName n) h (one_name r sound s n m)),
    (λ s n m. given_rises r sound a b (OneName s) (OneName n) h (one_name r sound s n m)),
    given_rises r sound a b NoName NoName h (λ q c e. e),
  )

  set_properties_rise : (t u : HType) → Le (tree_of r) t u → (n m : Names) → ((q : ℕ) → has q (given r t.obj n) ≡ true → has q (given r u.obj m) ≡ true)
      → Le (tree_of r) (set_property r t n) (set_property r u m)
  set_properties_rise t u h n m f =
      of_objects (tree_of r) sound.forest (objects_if (some_of (given r t.obj n)) t.obj) (objects_if (some_of (given r u.obj m)) u.obj)
      (objects_rise (tree_of r) sound.forest (some_of (given r t.obj n)) (some_of (given r u.obj m))
      (λ e. let w = some_has (given r t.obj n) e in has_some (given r u.obj m) w.0 (f w.0 w.1)) t.obj u.obj h.obj)

  set_base_rises : (t u v w : HType) → Le (tree_of r) t u → Le (tree_of r) v w → (k l : TypeKey) → KeyLe r k l → Le (tree_of r) (set_base r t k v) (set_base r u l w)
  unfolding ByKind
  set_base_rises t u v w h n = by_kind (λ k l. Le (tree_of r) (set_base r t k v) (set_base r u l w)) (
    (λ k l m. set_rises (tree_of r) sound.forest t u k l v w h m n),
    (λ k l m. set_properties_rise t u h (names_of k.str) (names_of l.str) (key_names_rise t.obj u.obj h.obj (keys.Prop k) (keys.Prop l) m)),
    (λ s o m. set_properties_rise t u h (OneName s) (OneName o) (key_names_rise t.obj u.obj h.obj (keys.PropName s) (keys.PropName o) m)),
    (λ s o m. set_properties_rise t u h (OneName s) (OneName o) (key_names_rise t.obj u.obj h.obj (keys.Nullsafe s) (keys.Nullsafe o) m)),
    append_rises (tree_of r) sound.forest t u v w h n,
  )

  unset_base_rises : (t u : HType) → Le (tree_of r) t u → (k l : TypeKey) → KeyLe r k l → Le (tree_of r) (unset_base r t k) (unset_base r u l)
  unfolding ByKind
  unset_base_rises t u h = by_kind (λ k l. Le (tree_of r) (unset_base r t k) (unset_base r u l)) (
    (λ k l m. unset_rises (tree_of r) sound.forest t u k l h m),
    (λ k l m. never_lowest (tree_of r) sound.forest never),
    (λ s o m. never_lowest (tree_of r) sound.forest never),
    (λ s o m. never_lowest (tree_of r) sound.forest never),
    never_lowest (tree_of r) sound.forest never,
  )

  last_base_rises : (t u : HType) → Le (tree_of r) t u → (k l : TypeKey) → KeyLe r k l → (v w : Option HType) → ValueLe r v w → Le (tree_of r) (last_base r v t k) (last_base r w u l)
  last_base_rises t u h k l m None None n = unset_base_rises t u h k l m
  last_base_rises t u h k l m (Some v) (Some w) n = set_base_rises t u v w h n k l m
  last_base_rises t u h k l m None (Some w) n = absurd (n)
  last_base_rises t u h k l m (Some v) None n = absurd (n)

  last_effect_rises : (t u : HType) → Le (tree_of r) t u → (k l : TypeKey) → KeyLe r k l → (v w : Option HType) → ValueLe r v w → (q : ℕ) → Le (tree_of r) (last_effect r v t k q) (last_effect r w u l q)
  last_effect_rises t u h k l m None None n q = never_lowest (tree_of r) sound.forest never
  last_effect_rises t u h k l m (Some v) (Some w) n q =
      only_rises (tree_of r) sound.forest q (given r t.obj (key_names k)) (given r u.obj (key_names l)) (key_names_rise t.obj u.obj h.obj k l m q) v w n
  last_effect_rises t u h k l m None (Some w) n q = absurd (n)
  last_effect_rises t u h k l m (Some v) None n q = absurd (n)

  module _ (F G : List HType) (facts : FactsLe r F G) (next more : HType → HType) (rises : (i j : HType) → Le (tree_of r) i j → Le (tree_of r) (next i) (more j)) where
    properties_under_rise : (t u : HType) → Le (tree_of r) t u → (n m : Names) → ((q : ℕ) → has q (given r t.obj n) ≡ true → has q (given r u.obj m) ≡ true)
        → Le (tree_of r) (property_under r F next t n) (property_under r G more u m)
    properties_under_rise t u h n m f =
        let ps = given r t.obj n in
        let qs = given r u.obj m in
        of_objects (tree_of r) sound.forest (objects_if (some_alive (map (λ q. next (fact F q)) ps)) t.obj) (objects_if (some_alive (map (λ q. more (fact G q)) qs)) u.obj)
        (objects_rise (tree_of r) sound.forest (some_alive (map (λ q. next (fact F q)) ps)) (some_alive (map (λ q. more (fact G q)) qs))
        (λ e.
        let w = alive_has (λ q. next (fact F q)) ps e in
        has_alive (λ q. more (fact G q)) qs w.0 (f w.0 w.1)
        (alive_rises (tree_of r) sound.forest (next (fact F w.0)) (more (fact G w.0)) (rises (fact F w.0) (fact G w.0) (facts w.0)) w.2)) t.obj u.obj h.obj)

    base_under_rises : (t u : HType) → Le (tree_of r) t u → (k l : TypeKey) → KeyLe r k l → Le (tree_of r) (base_under r F next t k) (base_under r G more u l)
    unfolding ByKind
    base_under_rises t u h = by_kind (λ k l. Le (tree_of r) (base_under r F next t k) (base_under r G more u l)) (
      (λ k l m. elements_rise (tree_of r) sound.forest next more rises t u k l h m),
      (λ k l m. properties_under_rise t u h (names_of k.str) (names_of l.str) (key_names_rise t.obj u.obj h.obj (keys.Prop k) (keys.Prop l) m)),
      (λ s o m. properties_under_rise t u h (OneName s) (OneName o) (key_names_rise t.obj u.obj h.obj (keys.PropName s) (keys.PropName o) m)),
      (λ s o m. properties_under_rise t u h (OneName s) (OneName o) (key_names_rise t.obj u.obj h.obj (keys.Nullsafe s) (keys.Nullsafe o) m)),
      never_lowest (tree_of r) sound.forest never,
    )

    named_inner : (t u : HType) (n m : Names) → ((q : ℕ) → has q (given r t.obj n) ≡ true → has q (given r u.obj m) ≡ true)
        → Le (tree_of r) (joins (tree_of r) (map next (map (fact F) (given r t.obj n)))) (joins (tree_of r) (map more (map (fact G) (given r u.obj m))))
    named_inner t u n m f =
        subst (λ xs. Le (tree_of r) (joins (tree_of r) xs) (joins (tree_of r) (map more (map (fact G) (given r u.obj m))))) (sym (map_twice next (fact F) (given r t.obj n)))
        (subst (λ ys. Le (tree_of r) (joins (tree_of r) (map (λ q. next (fact F q)) (given r t.obj n))) (joins (tree_of r) ys)) (sym (map_twice more (fact G) (given r u.obj m)))
        (joins_rise (tree_of r) sound.forest (λ q. next (fact F q)) (λ q. more (fact G q)) (given r t.obj n) (given r u.obj m) (λ q k. (f q k, rises (fact F q) (fact G q) (facts q)))))

    element_inner : (t u k l : HType) → Le (tree_of r) t u → Le (tree_of r) k l
        → Le (tree_of r) (joins (tree_of r) (map next (inside type_of (has_int k) t.vec ++ inside value_of (has_key k) t.dict)))
        (joins (tree_of r) (map more (inside type_of (has_int l) u.vec ++ inside value_of (has_key l) u.dict)))
    element_inner t u k l h m =
        let a = inside type_of (has_int k) t.vec in
        let b = inside value_of (has_key k) t.dict in
        let c = inside type_of (has_int l) u.vec in
        let d = inside value_of (has_key l) u.dict in
        subst (λ (x : HType). Le (tree_of r) x (joins (tree_of r) (map more (c ++ d))))
        (sym (ap (joins (tree_of r)) (map_parts next a b) ∙ joins_both (tree_of r) sound.forest (map next a) (map next b)))
        (subst (λ (y : HType). Le (tree_of r) (join (tree_of r) (joins (tree_of r) (map next a)) (joins (tree_of r) (map next b))) y)
        (sym (ap (joins (tree_of r)) (map_parts more c d) ∙ joins_both (tree_of r) sound.forest (map more c) (map more d)))
        (join_rises (tree_of r) sound.forest (joins (tree_of r) (map next a)) (joins (tree_of r) (map next b)) (joins (tree_of r) (map more c)) (joins (tree_of r) (map more d))
        (inside_rises (tree_of r) sound.forest next more rises (LeafLe (tree_of r)) type_of (type_rises (tree_of r) sound.forest) (has_int k) (has_int l) (int_rises (tree_of r) sound.forest k l m) t.vec u.vec h.vec)
        (inside_rises (tree_of r) sound.forest next more rises (EntryLe (tree_of r)) value_of (value_rises (tree_of r) sound.forest) (has_key k) (has_key l) (key_rises (tree_of r) sound.forest k l m) t.dict u.dict h.dict)))

    inner_rises : (t u : HType) → Le (tree_of r) t u → (k l : TypeKey) → KeyLe r k l → Le (tree_of r) (joins (tree_of r) (map next (inner r F t k))) (joins (tree_of r) (map more (inner r G u l)))
    unfolding ByKind
    inner_rises t u h = by_kind (λ k l. Le (tree_of r) (joins (tree_of r) (map next (inner r F t k))) (joins (tree_of r) (map more (inner r G u l)))) (
      (λ k l m. element_inner t u k l h m),
      (λ k l m. named_inner t u (names_of k.str) (names_of l.str) (key_names_rise t.obj u.obj h.obj (keys.Prop k) (keys.Prop l) m)),
      (λ s o m. named_inner t u (OneName s) (OneName o) (key_names_rise t.obj u.obj h.obj (keys.PropName s) (keys.PropName o) m)),
      (λ s o m. named_inner t u (OneName s) (OneName o) (key_names_rise t.obj u.obj h.obj (keys.Nullsafe s) (keys.Nullsafe o) m)),
      never_lowest (tree_of r) sound.forest never,
    )

  module _ (F G : List HType) (facts : FactsLe r F G) (v w : Option HType) (values : ValueLe r v w) where
    base_rises : (ks ls : List TypeKey) → KeysLe r ks ls → (k l : TypeKey) → KeyLe r k l → (t u : HType) → Le (tree_of r) t u → Le (tree_of r) (write_base r F v t k ks) (write_base r G w u l ls)
    base_rises [] [] m k l e t u h = last_base_rises t u h k l e v w values
    base_rises [] (b ∷ bs) m k l e t u h = absurd (m)
    base_rises (a ∷ as_) [] m k l e t u h = absurd (m)
    base_rises (a ∷ as_) (b ∷ bs) m k l e t u h =
        base_under_rises F G facts (λ i. write_base r F v i a as_) (λ i. write_base r G w i b bs) (λ i j n. base_rises as_ bs m.1 a b m.0 i j n) t u h k l e

    effect_rises : (ks ls : List TypeKey) → KeysLe r ks ls → (k l : TypeKey) → KeyLe r k l → (t u : HType) → Le (tree_of r) t u → (q : ℕ)
        → Le (tree_of r) (write_effect r F v t k ks q) (write_effect r G w u l ls q)
    effect_rises [] [] m k l e t u h q = last_effect_rises t u h k l e v w values q
    effect_rises [] (b ∷ bs) m k l e t u h q = absurd (m)
    effect_rises (a ∷ as_) [] m k l e t u h q = absurd (m)
    effect_rises (a ∷ as_) (b ∷ bs) m k l e t u h q =
        join_rises (tree_of r) sound.forest (only_at q (given r t.obj (key_names k)) (write_base r F v (fact F q) a as_)) (joins (tree_of r) (map (λ i. write_effect r F v i a as_ q) (inner r F t k)))
        (only_at q (given r u.obj (key_names l)) (write_base r G w (fact G q) b bs)) (joins (tree_of r) (map (λ i. write_effect r G w i b bs q) (inner r G u l)))
        (only_rises (tree_of r) sound.forest q (given r t.obj (key_names k)) (given r u.obj (key_names l)) (key_names_rise t.obj u.obj h.obj k l e q)
        (write_base r F v (fact F q) a as_) (write_base r G w (fact G q) b bs) (base_rises as_ bs m.1 a b m.0 (fact F q) (fact G q) (facts q)))
        (inner_rises F G facts (λ i. write_effect r F v i a as_ q) (λ i. write_effect r G w i b bs q) (λ i j n. effect_rises as_ bs m.1 a b m.0 i j n q) t u h k l e)

pub writes_rise : WritesRise
writes_rise r sound F G v w t u k l ks ls facts values h m n = record {
  base = base_rises r sound F G facts v w values ks ls n k l m t u h;
  effect = effect_rises r sound F G facts v w values ks ls n k l m t u h;
}
