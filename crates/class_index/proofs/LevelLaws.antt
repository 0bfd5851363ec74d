-- Writing level by level is writing.
use Rattle.std.proofs.Common.{◌≡◌, ◌⊎◌, inl, inr, ℕ, refl, sym, subst, ap, ap₂, ◌∙◌, cond, Bool, true, false, ◌||◌, Some, None, Option, List, [], ◌∷◌, ◌++◌, map}
use Rattle.type_lattice.specs.declared.types.Leaf.{Leaf}
use Rattle.type_lattice.specs.declared.types.HType.{HType}
use Rattle.type_lattice.specs.Classes.{Tree, Forest, has}
use Rattle.type_lattice.specs.Types.{never}
use Rattle.type_lattice.specs.Never.{is_never}
use Rattle.type_lattice.specs.Order.{Le}
use Rattle.type_lattice.specs.Join.{join}
use Rattle.type_lattice.proofs.Claimed.{le_is_order, join_is_least_above}
use Rattle.hhbc_repo.specs.Linked.{Linked}
use Rattle.hhbc_repo.specs.Bodies.{tree_of}
use Rattle.class_index.specs.declared.keys.TypeKey.TheVariants as keys
use Rattle.class_index.specs.Leaves.{type_of, has_int, has_key, joins}
use Rattle.class_index.specs.Levels.{Among, effect_of_all, some_gives, next_level, EffectsByLevels, LevelsAreSets, BaseByLevels}
use Rattle.class_index.specs.Named.{Names, OneName, names_of, key_names, given, fact}
use Rattle.class_index.specs.Reading.{value_of}
use Rattle.class_index.specs.Writing.{only_at, objects_if, left_in, left_entry, vec_under, dict_under, some_alive, inside, property_under, inner, write_base, write_effect}
use Rattle.class_index.proofs.Joining.{join_assoc, join_never, join_swap, joins_both, never_join}
use Rattle.class_index.proofs.WritingLaws.{map_parts}

module _ (tree : Tree) (forest : Forest tree) where
  join_same : (a : HType) → join tree a a ≡ a
  join_same a =
      (le_is_order tree forest).equal (join tree a a) a (((join_is_least_above tree forest).0).least a a a ((le_is_order tree forest).same a) ((le_is_order tree forest).same a))
      (((join_is_least_above tree forest).0).left a a)

  -- (a and x) with (b and y) is (a and b) with (x and y)
  join_cross : (a x b y : HType) → join tree (join tree a x) (join tree b y) ≡ join tree (join tree a b) (join tree x y)
  join_cross a x b y =
      join_assoc tree forest a x (join tree b y)
      ∙ ap (join tree a) (sym (join_assoc tree forest x b y) ∙ ap (λ (z : HType). join tree z y) (join_swap tree forest x b) ∙ join_assoc tree forest b x y)
      ∙ sym (join_assoc tree forest a b (join tree x y))

  either_gives : (b c : Bool) (t : HType) → join tree (cond b t never) (cond c t never) ≡ cond (b || c) t never
  either_gives true true t = join_same t
  either_gives true false t = join_never tree forest t
  either_gives false c t = never_join tree forest (cond c t never)

  among_below : (f : HType → HType) (ts : List HType) (t : HType) → Among t ts → Le tree (f t) (joins tree (map f ts))
  among_below f [] t h = absurd (h)
  among_below f (u ∷ us) t h = go h (λ k. among_below f us t k)
    where
      go : (t ≡ u) ⊎ Among t us → (Among t us → Le tree (f t) (joins tree (map f us))) → Le tree (f t) (join tree (f u) (joins tree (map f us)))
      go (inl e) more = subst (λ (x : HType). Le tree (f x) (join tree (f u) (joins tree (map f us)))) (sym e) (((join_is_least_above tree forest).0).left (f u) (joins tree (map f us)))
      go (inr k) more =
          (le_is_order tree forest).onward (f t) (joins tree (map f us)) (join tree (f u) (joins tree (map f us))) (more k) (((join_is_least_above tree forest).0).right (f u) (joins tree (map f us)))

  all_below : (f : HType → HType) (ts : List HType) (u : HType) → ((t : HType) → Among t ts → Le tree (f t) u) → Le tree (joins tree (map f ts)) u
  all_below f [] u h = (le_is_order tree forest).lowest u
  all_below f (t ∷ ts) u h = ((join_is_least_above tree forest).0).least (f t) (joins tree (map f ts)) u (h t (inl refl)) (all_below f ts u (λ s k. h s (inr k)))

  same_joins : (f : HType → HType) (ts us : List HType) → ((t : HType) → Among t ts → Among t us) → ((t : HType) → Among t us → Among t ts)
      → joins tree (map f ts) ≡ joins tree (map f us)
  same_joins f ts us h k =
      (le_is_order tree forest).equal (joins tree (map f ts)) (joins tree (map f us)) (all_below f ts (joins tree (map f us)) (λ t m. among_below f us t (h t m)))
      (all_below f us (joins tree (map f ts)) (λ t m. among_below f ts t (k t m)))

pub effects_by_levels : EffectsByLevels
effects_by_levels r sound props v [] k l rest q = sym (never_join (tree_of r) sound.forest never)
effects_by_levels r sound props v (t ∷ ts) k l rest q =
    let e : HType → HType = λ i. write_effect r props v i l rest q in
    let here : HType = only_at q (given r t.obj (key_names k)) (write_base r props v (fact props q) l rest) in
    let others : HType = cond (some_gives r ts k q) (write_base r props v (fact props q) l rest) never in
    let under : HType = joins (tree_of r) (map e (inner r props t k)) in
    let later : HType = effect_of_all r props v (next_level r props ts k) l rest q in
    ap (join (tree_of r) (join (tree_of r) here under)) (effects_by_levels r sound props v ts k l rest q) ∙ join_cross (tree_of r) sound.forest here under others later
    ∙ ap₂ (join (tree_of r)) (either_gives (tree_of r) sound.forest (has q (given r t.obj (key_names k))) (some_gives r ts k q) (write_base r props v (fact props q) l rest))
    (sym (ap (joins (tree_of r)) (map_parts e (inner r props t k) (next_level r props ts k)) ∙ joins_both (tree_of r) sound.forest (map e (inner r props t k)) (map e (next_level r props ts k))))

pub levels_are_sets : LevelsAreSets
levels_are_sets r sound props v ts us k rest q h m = same_joins (tree_of r) sound.forest (λ t. write_effect r props v t k rest q) ts us h m

-- ---- the base

among_left : (t : HType) (xs ys : List HType) → Among t xs → Among t (xs ++ ys)
among_left t [] ys h = absurd (h)
among_left t (x ∷ xs) ys (inl e) = inl e
among_left t (x ∷ xs) ys (inr k) = inr (among_left t xs ys k)

among_right : (t : HType) (xs ys : List HType) → Among t ys → Among t (xs ++ ys)
among_right t [] ys h = h
among_right t (x ∷ xs) ys h = inr (among_right t xs ys h)

module _ (tree : Tree) (next more : HType → HType) where
  same_vec : (b : Bool) (p : Option Leaf) → ((i : HType) → Among i (inside type_of b p) → next i ≡ more i) → vec_under tree next b p ≡ vec_under tree more b p
  same_vec false p h = refl
  same_vec true None h = refl
  same_vec true (Some l) h = ap (left_in tree l) (h (type_of l) (inl refl))

  same_dict : (b : Bool) (p : Option (Leaf × Leaf)) → ((i : HType) → Among i (inside value_of b p) → next i ≡ more i) → dict_under tree next b p ≡ dict_under tree more b p
  same_dict false p h = refl
  same_dict true None h = refl
  same_dict true (Some e) h = ap (λ (i : HType). left_entry e.0 (left_in tree e.1 i)) (h (value_of e) (inl refl))

same_alive : (props : List HType) (next more : HType → HType) (qs : List ℕ) → ((i : HType) → Among i (map (fact props) qs) → next i ≡ more i)
    → some_alive (map (λ q. next (fact props q)) qs) ≡ some_alive (map (λ q. more (fact props q)) qs)
same_alive props next more [] h = refl
same_alive props next more (q ∷ qs) h =
    ap₂ (λ (i : HType) (b : Bool). cond (is_never i) b true) (h (fact props q) (inl refl)) (same_alive props next more qs (λ i k. h i (inr k)))

same_property : (r : Linked) (props : List HType) (next more : HType → HType) (t : HType) (names : Names) → ((i : HType) → Among i (map (fact props) (given r t.obj names)) → next i ≡ more i)
    → property_under r props next t names ≡ property_under r props more t names
same_property r props next more t names h = ap (λ (b : Bool). record never { obj = objects_if b t.obj }) (same_alive props next more (given r t.obj names) h)

pub base_by_levels : BaseByLevels
base_by_levels r props next more t (keys.Elem k) h =
    ap₂ (λ vec dict. record never { vec = vec; dict = dict })
    (same_vec (tree_of r) next more (has_int k) t.vec (λ i m. h i (among_left i (inside type_of (has_int k) t.vec) (inside value_of (has_key k) t.dict) m)))
    (same_dict (tree_of r) next more (has_key k) t.dict (λ i m. h i (among_right i (inside type_of (has_int k) t.vec) (inside value_of (has_key k) t.dict) m)))
base_by_levels r props next more t (keys.Prop k) h = same_property r props next more t (names_of k.str) h
base_by_levels r props next more t (keys.PropName name) h = same_property r props next more t (OneName name) h
base_by_levels r props next more t (keys.Nullsafe name) h = same_property r props next more t (OneName name) h
base_by_levels r props next more t keys.Append h = refl
