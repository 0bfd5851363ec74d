-- What reading finds rises.
use Rattle.std.proofs.Common.{◌≡◌, ◌⊎◌, inl, inr, ℕ, refl, sym, subst, Bool, true, false, not, ◌==◌, Some, None, Option, List, [], ◌∷◌, map, length, slice_get}
use Rattle.std.specs.List.{flat_map}
use Rattle.std.specs.Prelude.{reverse}
use Rattle.std.proofs.lemmas.Bool.{eqb-true, eq-eqb}
use Rattle.type_lattice.specs.declared.types.IntPart.{IntPart}
use Rattle.type_lattice.specs.declared.types.IntPart.TheVariants as ints
use Rattle.type_lattice.specs.declared.types.StrPart.{StrPart}
use Rattle.type_lattice.specs.declared.types.StrPart.TheVariants as strs
use Rattle.type_lattice.specs.declared.types.ObjPart.{ObjPart}
use Rattle.type_lattice.specs.declared.types.Leaf.{Leaf}
use Rattle.type_lattice.specs.declared.types.HType.{HType}
use Rattle.type_lattice.specs.Classes.{Tree, Forest, chain, has}
use Rattle.type_lattice.specs.Types.{never, short_bytes, cell_leaf, key_leaf}
use Rattle.type_lattice.specs.Never.{no_ints, no_strs}
use Rattle.type_lattice.specs.Order.{FlagLe, IntLe, StrLe, ObjLe, PartLe, LeafLe, EntryLe, Le}
use Rattle.type_lattice.specs.Proper.{IsProper}
use Rattle.type_lattice.specs.Laws.{IsLeastAbove}
use Rattle.type_lattice.specs.Join.{join}
use Rattle.type_lattice.specs.Member.{obj_in}
use Rattle.type_lattice.proofs.Claimed.{le_is_order, join_is_least_above, leaves_are_like_types, parts_keep_members}
use Rattle.hhbc_repo.specs.Linked.{Linked}
use Rattle.hhbc_repo.specs.LinkFaults.{Name, at_class, place_in}
use Rattle.hhbc_repo.specs.Bodies.{numbers, own_from, properties_of, tree_of}
use Rattle.hhbc_repo.specs.LookUps.{Sound, all_properties, own_number, number_at, property_of, total}
use Rattle.hhbc_repo.proofs.MethodsFound.{given}
use Rattle.hhbc_repo.proofs.Placed.{counts_are}
use Rattle.class_index.specs.declared.keys.TypeKey.{TypeKey}
use Rattle.class_index.specs.declared.keys.TypeKey.TheVariants as keys
use Rattle.class_index.specs.Laws.{KeyLe, KeysLe, FactsLe, PathTypesRise}
use Rattle.class_index.specs.Leaves.{only_if, type_of, has_int, has_key, joins}
use Rattle.class_index.specs.Named.{Names, NoName, OneName, AnyName, names_of, gives, is_given, fact}
use Rattle.class_index.specs.Named as named
use Rattle.class_index.specs.Reading.{held, value_of, element_type, null_if, property_type, step_type, path_type}
use Rattle.class_index.proofs.NamesReached.{is_some_number, to_along}
use Rattle.class_index.proofs.PartsReached.{either, or_left, or_right}
use Rattle.class_index.proofs.TargetLaws.{any_rises, from_filter, has_filter}

module _ (tree : Tree) (forest : Forest tree) where
  same_type : (a : HType) → Le tree a a
  same_type = (le_is_order tree forest).same

  onward_type : (a b c : HType) → Le tree a b → Le tree b c → Le tree a c
  onward_type = (le_is_order tree forest).onward

  pub never_lowest : (a : HType) → Le tree never a
  never_lowest = (le_is_order tree forest).lowest

  pub join_rises : (a b c d : HType) → Le tree a c → Le tree b d → Le tree (join tree a b) (join tree c d)
  join_rises = ((join_is_least_above tree forest).0).rises

  -- ---- parts

  cells_if : (a b : Bool) → FlagLe a b → PartLe (LeafLe tree) (only_if a cell_leaf) (only_if b cell_leaf)
  cells_if false b h = tt
  cells_if true true h = (leaves_are_like_types tree forest).order.same cell_leaf
  cells_if true false h = absurd (cc)

  keys_if : (a b : Bool) → FlagLe a b → PartLe (LeafLe tree) (only_if a key_leaf) (only_if b key_leaf)
  keys_if false b h = tt
  keys_if true true h = (leaves_are_like_types tree forest).order.same key_leaf
  keys_if true false h = absurd (cc)

  entries_if : (a b : Bool) → FlagLe a b → PartLe (EntryLe tree) (only_if a (key_leaf, cell_leaf)) (only_if b (key_leaf, cell_leaf))
  entries_if false b h = tt
  entries_if true true h = ((leaves_are_like_types tree forest).order.same key_leaf, (leaves_are_like_types tree forest).order.same cell_leaf)
  entries_if true false h = absurd (cc)

  pub type_rises : (a b : Leaf) → LeafLe tree a b → Le tree (type_of a) (type_of b)
  type_rises a b h = record {
    uninit = tt;
    null = h.null;
    no = h.no;
    yes = h.yes;
    int = h.int;
    str = h.str;
    obj = h.obj;
    vec = cells_if a.vec b.vec h.vec;
    dict = entries_if a.dict b.dict h.dict;
    keyset = keys_if a.keyset b.keyset h.keyset;
  }

  pub value_rises : (a b : Leaf × Leaf) → EntryLe tree a b → Le tree (value_of a) (value_of b)
  value_rises a b h = type_rises a.1 b.1 h.1

  pub held_rises : {A : Type 0} (R : A → A → Type 0) (f : A → HType) → ((a b : A) → R a b → Le tree (f a) (f b)) → (x y : Bool) → (x ≡ true → y ≡ true)
      → (p q : Option A) → PartLe R p q → Le tree (held f x p) (held f y q)
  held_rises R f rises false y h p q le = never_lowest (held f y q)
  held_rises R f rises true y h None q le = never_lowest (held f y q)
  held_rises R f rises true y h (Some a) None le = absurd (le)
  held_rises R f rises true y h (Some a) (Some b) le = subst (λ (z : Bool). Le tree (f a) (held f z (Some b))) (sym (h refl)) (rises a b le)

  ints_rise : (a b : IntPart) → IntLe a b → not (no_ints a) ≡ true → not (no_ints b) ≡ true
  ints_rise ints.No b h k = absurd (cc)
  ints_rise (ints.One i) ints.No h k = absurd (h)
  ints_rise (ints.One i) (ints.One j) h k = refl
  ints_rise (ints.One i) ints.Any h k = refl
  ints_rise ints.Any ints.No h k = absurd (h)
  ints_rise ints.Any (ints.One j) h k = refl
  ints_rise ints.Any ints.Any h k = refl

  strs_rise : (a b : StrPart) → StrLe a b → not (no_strs a) ≡ true → not (no_strs b) ≡ true
  strs_rise strs.No b h k = absurd (cc)
  strs_rise (strs.One s) strs.No h k = absurd (h)
  strs_rise (strs.One s) (strs.One t) h k = refl
  strs_rise (strs.One s) strs.Any h k = refl
  strs_rise strs.Any strs.No h k = absurd (h)
  strs_rise strs.Any (strs.One t) h k = refl
  strs_rise strs.Any strs.Any h k = refl

  pub int_rises : (a b : HType) → Le tree a b → has_int a ≡ true → has_int b ≡ true
  int_rises a b h k = ints_rise a.int b.int h.int k

  pub key_rises : (a b : HType) → Le tree a b → has_key a ≡ true → has_key b ≡ true
  key_rises a b h k = go (either (has_int a) (not (no_strs a.str)) k)
    where
      go : (has_int a ≡ true) ⊎ (not (no_strs a.str) ≡ true) → has_key b ≡ true
      go (inl m) = or_left (has_int b) (not (no_strs b.str)) (int_rises a b h m)
      go (inr m) = or_right (has_int b) (not (no_strs b.str)) (strs_rise a.str b.str h.str m)

  element_rises : (t u k l : HType) → Le tree t u → Le tree k l → Le tree (element_type tree t k) (element_type tree u l)
  element_rises t u k l h m =
      join_rises (held type_of (has_int k) t.vec) (join tree (held value_of (has_key k) t.dict) (held type_of (has_key k) t.keyset))
      (held type_of (has_int l) u.vec) (join tree (held value_of (has_key l) u.dict) (held type_of (has_key l) u.keyset))
      (held_rises (LeafLe tree) type_of type_rises (has_int k) (has_int l) (int_rises k l m) t.vec u.vec h.vec)
      (join_rises (held value_of (has_key k) t.dict) (held type_of (has_key k) t.keyset) (held value_of (has_key l) u.dict) (held type_of (has_key l) u.keyset)
      (held_rises (EntryLe tree) value_of value_rises (has_key k) (has_key l) (key_rises k l m) t.dict u.dict h.dict)
      (held_rises (LeafLe tree) type_of type_rises (has_key k) (has_key l) (key_rises k l m) t.keyset u.keyset h.keyset))

  null_rises : (a b : Bool) → FlagLe a b → Le tree (null_if a) (null_if b)
  null_rises false b h = never_lowest (null_if b)
  null_rises true true h = same_type (null_if true)
  null_rises true false h = absurd (cc)

  -- ---- joins of several types

  pub joins_above : (f : ℕ → HType) (qs : List ℕ) (q : ℕ) → has q qs ≡ true → Le tree (f q) (joins tree (map f qs))
  joins_above f [] q h = absurd (cc)
  joins_above f (p ∷ qs) q h = go (either (q == p) (has q qs) h) (λ k. joins_above f qs q k)
    where
      bounds : IsLeastAbove (Le tree) (IsProper tree) (join tree)
      bounds = (join_is_least_above tree forest).0

      go : ((q == p) ≡ true) ⊎ (has q qs ≡ true) → (has q qs ≡ true → Le tree (f q) (joins tree (map f qs))) → Le tree (f q) (join tree (f p) (joins tree (map f qs)))
      go (inl e) more = subst (λ (x : ℕ). Le tree (f x) (join tree (f p) (joins tree (map f qs)))) (sym (eqb-true q p e)) (bounds.left (f p) (joins tree (map f qs)))
      go (inr e) more = onward_type (f q) (joins tree (map f qs)) (join tree (f p) (joins tree (map f qs))) (more e) (bounds.right (f p) (joins tree (map f qs)))

  pub joins_least : (f : ℕ → HType) (qs : List ℕ) (u : HType) → ((q : ℕ) → has q qs ≡ true → Le tree (f q) u) → Le tree (joins tree (map f qs)) u
  joins_least f [] u h = never_lowest u
  joins_least f (p ∷ qs) u h =
      ((join_is_least_above tree forest).0).least (f p) (joins tree (map f qs)) u (h p (or_left (p == p) (has p qs) (eq-eqb p p refl)))
      (joins_least f qs u (λ q k. h q (or_right (q == p) (has q qs) k)))

  pub joins_rise : (f g : ℕ → HType) (ps qs : List ℕ) → ((q : ℕ) → has q ps ≡ true → (has q qs ≡ true) × Le tree (f q) (g q))
      → Le tree (joins tree (map f ps)) (joins tree (map g qs))
  joins_rise f g ps qs h =
      joins_least f ps (joins tree (map g qs)) (λ q k. let w = h q k in onward_type (f q) (g q) (joins tree (map g qs)) w.1 (joins_above g qs q w.0))

-- ---- what names give

module _ (r : Linked) (sound : Sound r) where
  -- a property that a class has by its name is one of those that its objects have
  named_is_had : (c q : ℕ) (name : Name) → property_of r c name ≡ Some q → has q (properties_of r c) ≡ true
  named_is_had c q name h =
      let w = given (own_number 0 (all_properties r) name) (chain (tree_of r) c) q h in
      subst (λ (ns : List ℕ). has q (flat_map (λ d. own_from 0 ns d) (reverse (chain (tree_of r) c))) ≡ true) (counts_are r)
      (go w.0 w.1 (place_in (at_class (slice_get (all_properties r) w.0)) name) w.2)
    where
      go : (d : ℕ) → has d (chain (tree_of r) c) ≡ true → (o : Option ℕ) → number_at (own_from 0 (map length (all_properties r)) d) o ≡ Some q
          → has q (flat_map (λ d. own_from 0 (map length (all_properties r)) d) (reverse (chain (tree_of r) c))) ≡ true
      go d m None e = absurd (cc)
      go d m (Some p) e = to_along 0 (all_properties r) q d p e (chain (tree_of r) c) m

  pub names_rise : (a b : StrPart) → StrLe a b → (q c : ℕ) → gives r (names_of a) q c ≡ true → gives r (names_of b) q c ≡ true
  names_rise strs.No b h q c k = absurd (cc)
  names_rise (strs.One s) strs.No h q c k = absurd (h)
  names_rise (strs.One s) (strs.One t) h q c k = subst (λ x. gives r (names_of (strs.One x)) q c ≡ true) h k
  names_rise (strs.One s) strs.Any h q c k = named_is_had c q (short_bytes s) (is_some_number (property_of r c (short_bytes s)) q k)
  names_rise strs.Any strs.No h q c k = absurd (h)
  names_rise strs.Any (strs.One t) h q c k = absurd (h)
  names_rise strs.Any strs.Any h q c k = k

  pub given_rises : (a b : ObjPart) (n m : Names) → ObjLe (tree_of r) a b → ((q c : ℕ) → gives r n q c ≡ true → gives r m q c ≡ true)
      → (q : ℕ) → has q (named.given r a n) ≡ true → has q (named.given r b m) ≡ true
  given_rises a b n m h f q k =
      let w = from_filter (is_given r a n) (numbers 0 (total (all_properties r))) q k in
      has_filter (is_given r b m) (numbers 0 (total (all_properties r))) q w.0
      (any_rises (gives r n q) (gives r m q) (λ c. obj_in (tree_of r) (Some c) a) (λ c. obj_in (tree_of r) (Some c) b) (f q)
      (λ c e. (parts_keep_members (tree_of r) sound.forest).objects (Some c) a b h e) (numbers 0 (length (tree_of r))) w.1)

  properties_rise : (F G : List HType) → FactsLe r F G → (a b : ObjPart) (n m : Names) → ObjLe (tree_of r) a b → ((q c : ℕ) → gives r n q c ≡ true → gives r m q c ≡ true)
      → Le (tree_of r) (property_type r F a n) (property_type r G b m)
  properties_rise F G facts a b n m h f =
      joins_rise (tree_of r) sound.forest (fact F) (fact G) (named.given r a n) (named.given r b m) (λ q k. (given_rises a b n m h f q k, facts q))

  pub one_name : (s n : Name) → s ≡ n → (q c : ℕ) → gives r (OneName s) q c ≡ true → gives r (OneName n) q c ≡ true
  one_name s n e q c k = subst (λ (x : Name). gives r (OneName x) q c ≡ true) e k

  step_rises : (F G : List HType) → FactsLe r F G → (t u : HType) → Le (tree_of r) t u → (k l : TypeKey) → KeyLe r k l → Le (tree_of r) (step_type r F t k) (step_type r G u l)
  step_rises F G facts t u h (keys.Elem k) (keys.Elem l) m = element_rises (tree_of r) sound.forest t u k l h m
  step_rises F G facts t u h (keys.Prop k) (keys.Prop l) m = properties_rise F G facts t.obj u.obj (names_of k.str) (names_of l.str) h.obj (names_rise k.str l.str m.str)
  step_rises F G facts t u h (keys.PropName s) (keys.PropName n) m = properties_rise F G facts t.obj u.obj (OneName s) (OneName n) h.obj (one_name s n m)
  step_rises F G facts t u h (keys.Nullsafe s) (keys.Nullsafe n) m =
      join_rises (tree_of r) sound.forest (property_type r F t.obj (OneName s)) (null_if t.null) (property_type r G u.obj (OneName n)) (null_if u.null)
      (properties_rise F G facts t.obj u.obj (OneName s) (OneName n) h.obj (one_name s n m)) (null_rises (tree_of r) sound.forest t.null u.null h.null)
  step_rises F G facts t u h keys.Append keys.Append m = never_lowest (tree_of r) sound.forest never
  step_rises F G facts t u h (keys.Elem k) (keys.Prop l) m = absurd (m)
  step_rises F G facts t u h (keys.Elem k) (keys.PropName n) m = absurd (m)
  step_rises F G facts t u h (keys.Elem k) (keys.Nullsafe n) m = absurd (m)
  step_rises F G facts t u h (keys.Elem k) keys.Append m = absurd (m)
  step_rises F G facts t u h (keys.Prop k) (keys.Elem l) m = absurd (m)
  step_rises F G facts t u h (keys.Prop k) (keys.PropName n) m = absurd (m)
  step_rises F G facts t u h (keys.Prop k) (keys.Nullsafe n) m = absurd (m)
  step_rises F G facts t u h (keys.Prop k) keys.Append m = absurd (m)
  step_rises F G facts t u h (keys.PropName s) (keys.Elem l) m = absurd (m)
  step_rises F G facts t u h (keys.PropName s) (keys.Prop l) m = absurd (m)
  step_rises F G facts t u h (keys.PropName s) (keys.Nullsafe n) m = absurd (m)
  step_rises F G facts t u h (keys.PropName s) keys.Append m = absurd (m)
  step_rises F G facts t u h (keys.Nullsafe s) (keys.Elem l) m = absurd (m)
  step_rises F G facts t u h (keys.Nullsafe s) (keys.Prop l) m = absurd (m)
  step_rises F G facts t u h (keys.Nullsafe s) (keys.PropName n) m = absurd (m)
  step_rises F G facts t u h (keys.Nullsafe s) keys.Append m = absurd (m)
  step_rises F G facts t u h keys.Append (keys.Elem l) m = absurd (m)
  step_rises F G facts t u h keys.Append (keys.Prop l) m = absurd (m)
  step_rises F G facts t u h keys.Append (keys.PropName n) m = absurd (m)
  step_rises F G facts t u h keys.Append (keys.Nullsafe n) m = absurd (m)

  paths_rise : (F G : List HType) → FactsLe r F G → (ks ls : List TypeKey) → KeysLe r ks ls → (t u : HType) → Le (tree_of r) t u → Le (tree_of r) (path_type r F t ks) (path_type r G u ls)
  paths_rise F G facts [] [] m t u h = h
  paths_rise F G facts [] (l ∷ ls) m t u h = absurd (m)
  paths_rise F G facts (k ∷ ks) [] m t u h = absurd (m)
  paths_rise F G facts (k ∷ ks) (l ∷ ls) m t u h =
      paths_rise F G facts ks ls m.1 (step_type r F t k) (step_type r G u l) (step_rises F G facts t u h k l m.0)

pub path_types_rise : PathTypesRise
path_types_rise r sound F G t u ks ls facts h m = paths_rise r sound F G facts ks ls m t u h
