-- The type of what writing along keys leaves: in the base, and in each property. Only parts in which the write can succeed stay.
use Rattle.std.specs.Prelude.{◌≡◌, ◌<◌, ℕ, Bool, true, false, List, [], ◌∷◌, ◌++◌, Option, Some, None, map, cond, ◌==◌}
use Rattle.type_lattice.specs.declared.types.Leaf.{Leaf}
use Rattle.type_lattice.specs.declared.types.HType.{HType}
use Rattle.type_lattice.specs.declared.types.ObjPart.{ObjPart}
use Rattle.type_lattice.specs.declared.types.ObjPart.TheVariants as objs
use Rattle.type_lattice.specs.Classes.{Tree, has}
use Rattle.type_lattice.specs.Types.{never}
use Rattle.type_lattice.specs.Never.{is_never}
use Rattle.type_lattice.specs.Join.{join, leaf_join}
use Rattle.hhbc_repo.specs.Linked.{Linked}
use Rattle.hhbc_repo.specs.Bodies.{tree_of}
use Rattle.class_index.specs.declared.keys.TypeKey.{TypeKey}
use Rattle.class_index.specs.declared.keys.TypeKey.TheVariants as keys
use Rattle.class_index.specs.declared.effects.Effect.{Effect}
use Rattle.class_index.specs.Leaves.{type_of, leaf_of, key_of, has_int, has_key, joins}
use Rattle.class_index.specs.Named.{Names, OneName, names_of, key_names, given, fact}
use Rattle.class_index.specs.Reading.{value_of}

-- a part that the key fits, changed
abbrev pub changed : {A : Type 0} → (A → A) → Bool → Option A → Option A
changed f false part = None
changed f true None = None
changed f true (Some a) = Some (f a)

-- the obj part, where something can be written in it
abbrev pub objects_if : Bool → ObjPart → ObjPart
objects_if false part = objs.No
objects_if true part = part

abbrev pub some_of : {A : Type 0} → List A → Bool
some_of [] = false
some_of (a ∷ more) = true

-- the type where the property is among these
abbrev pub only_at : ℕ → List ℕ → HType → HType
only_at q qs t = cond (has q qs) t never

-- ---- the last key

module _ (tree : Tree) where
  abbrev pub with_value : HType → Leaf → Leaf
  with_value v l = leaf_join tree l (leaf_of v)

  abbrev pub with_key : HType → Leaf → Leaf
  with_key k l = leaf_join tree l (key_of k)

  abbrev pub with_entry : HType → HType → Leaf × Leaf → Leaf × Leaf
  with_entry k v entry = (with_key k entry.0, with_value v entry.1)

  -- a vec is set under an int, a dict under an int or a string
  abbrev pub set_element : HType → HType → HType → HType
  set_element t k v = record never { vec = changed (with_value v) (has_int k) t.vec; dict = changed (with_entry k v) (has_key k) t.dict }

  -- a vec takes any value, a keyset an int or a string
  abbrev pub appended : HType → HType → HType
  appended t v = record never { vec = changed (with_value v) true t.vec; keyset = changed (with_key v) (has_key v) t.keyset }

-- what is unset is a dict's key or a keyset's element
abbrev pub unset_element : HType → HType → HType
unset_element t k = record never { dict = changed (λ entry. entry) (has_key k) t.dict; keyset = changed (λ l. l) (has_key k) t.keyset }

module _ (r : Linked) where
  abbrev pub set_property : HType → Names → HType
  set_property t names = record never { obj = objects_if (some_of (given r t.obj names)) t.obj }

  abbrev pub set_base : HType → TypeKey → HType → HType
  set_base t (keys.Elem k) v = set_element (tree_of r) t k v
  set_base t (keys.Prop k) v = set_property t (names_of k.str)
  set_base t (keys.PropName name) v = set_property t (OneName name)
  set_base t (keys.Nullsafe name) v = set_property t (OneName name)
  set_base t keys.Append v = appended (tree_of r) t v

  abbrev pub unset_base : HType → TypeKey → HType
  unset_base t (keys.Elem k) = unset_element t k
  unset_base t (keys.Prop k) = never
  unset_base t (keys.PropName name) = never
  unset_base t (keys.Nullsafe name) = never
  unset_base t keys.Append = never

  abbrev pub last_base : Option HType → HType → TypeKey → HType
  last_base None t k = unset_base t k
  last_base (Some v) t k = set_base t k v

  -- the value, in each property that the key gives
  abbrev pub last_effect : Option HType → HType → TypeKey → ℕ → HType
  last_effect None t k q = never
  last_effect (Some v) t k q = only_at q (given r t.obj (key_names k)) v

-- ---- a key with more keys behind it

-- what is left of a part in which something of this type was left
abbrev pub left_in : Tree → Leaf → HType → Option Leaf
left_in tree l inner = cond (is_never inner) None (Some (leaf_join tree l (leaf_of inner)))

abbrev pub left_entry : Leaf → Option Leaf → Option (Leaf × Leaf)
left_entry key None = None
left_entry key (Some value) = Some (key, value)

abbrev pub vec_under : Tree → (HType → HType) → Bool → Option Leaf → Option Leaf
vec_under tree next false part = None
vec_under tree next true None = None
vec_under tree next true (Some l) = left_in tree l (next (type_of l))

abbrev pub dict_under : Tree → (HType → HType) → Bool → Option (Leaf × Leaf) → Option (Leaf × Leaf)
dict_under tree next false part = None
dict_under tree next true None = None
dict_under tree next true (Some entry) = left_entry entry.0 (left_in tree entry.1 (next (value_of entry)))

abbrev pub element_under : Tree → (HType → HType) → HType → HType → HType
element_under tree next t k = record never { vec = vec_under tree next (has_int k) t.vec; dict = dict_under tree next (has_key k) t.dict }

-- some of these types has a part
abbrev pub some_alive : List HType → Bool
some_alive [] = false
some_alive (t ∷ ts) = cond (is_never t) (some_alive ts) true

abbrev pub inside : {A : Type 0} → (A → HType) → Bool → Option A → List HType
inside f false part = []
inside f true None = []
inside f true (Some a) = f a ∷ []

module _ (r : Linked) (props : List HType) where
  abbrev pub property_under : (HType → HType) → HType → Names → HType
  property_under next t names = record never { obj = objects_if (some_alive (map (λ q. next (fact props q)) (given r t.obj names))) t.obj }

  abbrev pub base_under : (HType → HType) → HType → TypeKey → HType
  base_under next t (keys.Elem k) = element_under (tree_of r) next t k
  base_under next t (keys.Prop k) = property_under next t (names_of k.str)
  base_under next t (keys.PropName name) = property_under next t (OneName name)
  base_under next t (keys.Nullsafe name) = property_under next t (OneName name)
  base_under next t keys.Append = never

  -- the types in which the write goes on
  abbrev pub inner : HType → TypeKey → List HType
  inner t (keys.Elem k) = inside type_of (has_int k) t.vec ++ inside value_of (has_key k) t.dict
  inner t (keys.Prop k) = map (fact props) (given r t.obj (names_of k.str))
  inner t (keys.PropName name) = map (fact props) (given r t.obj (OneName name))
  inner t (keys.Nullsafe name) = map (fact props) (given r t.obj (OneName name))
  inner t keys.Append = []

  -- what the write leaves in the base; without a value it is an unset
  abbrev pub write_base : Option HType → HType → TypeKey → List TypeKey → HType
  write_base v t k [] = last_base r v t k
  write_base v t k (l ∷ rest) = base_under (λ i. write_base v i l rest) t k

  -- and what it leaves in a property: what it leaves of the fact, where the key gives the property, and what is written further on
  abbrev pub write_effect : Option HType → HType → TypeKey → List TypeKey → ℕ → HType
  write_effect v t k [] q = last_effect r v t k q
  write_effect v t k (l ∷ rest) q =
      join (tree_of r) (only_at q (given r t.obj (key_names k)) (write_base v (fact props q) l rest)) (joins (tree_of r) (map (λ i. write_effect v i l rest q) (inner t k)))

-- ---- as a list

-- what the list says of a property
abbrev pub effect_in : List Effect → ℕ → HType
effect_in [] q = never
effect_in (e ∷ es) q = cond (e.property == q) e.t (effect_in es q)

-- ascending, each property once
abbrev pub all_above : ℕ → List Effect → Type 0
all_above q [] = Unit {0}
all_above q (e ∷ es) = (q < e.property) × all_above q es

abbrev pub Ascend : List Effect → Type 0
Ascend [] = Unit {0}
Ascend (e ∷ es) = all_above e.property es × Ascend es

abbrev pub all_alive : List Effect → Type 0
all_alive [] = Unit {0}
all_alive (e ∷ es) = (is_never e.t ≡ false) × all_alive es

-- the list of these effects: in order of property, each once, without those that have no member
pub record AreEffects (es : List Effect) (effect : ℕ → HType) : Type 0 where
  pub ascend : Ascend es
  pub alive : all_alive es
  pub same : (q : ℕ) → effect_in es q ≡ effect q
