-- What is claimed of types holds.
use Rattle.std.proofs.Common.{◌≡◌, refl, sym, subst, ◌⊎◌, inl, inr}
use Rattle.type_lattice.specs.declared.types.HType.{HType}
use Rattle.type_lattice.specs.Classes.{Tree, Forest}
use Rattle.type_lattice.specs.Order.{ObjLe, LeafLe, Le}
use Rattle.type_lattice.specs.Proper.{ProperObj, ProperLeaf, ProperKey, IsProper, IsJoin}
use Rattle.type_lattice.specs.Join.{obj_join, leaf_join, join}
use Rattle.type_lattice.specs.Laws.{ClassesAreOrdered, DepthIsBounded, IsLeastAbove, LeIsOrder, JoinIsLeastAbove, JoinIsOne, HeightIsBounded, LeavesAreLikeTypes, ObjectsAreLikeTypes, MembersStay, PartsKeepMembers, LiteralIsLeast, LiteralIsProper, KeepIsGreatestBelow}
use Rattle.type_lattice.proofs.Chains.{below_trans, below_antisym}
use Rattle.type_lattice.proofs.OrderLaws.{Le-refl, Le-trans, LeafLe-refl, LeafLe-trans, ObjLe-refl, ObjLe-trans}
use Rattle.type_lattice.proofs.Antisymmetry.{Le-antisym, LeafLe-antisym, obj_same}
use Rattle.type_lattice.proofs.Members.{is_member-le, in_leaf-le, key_in-le, obj_in-le}
use Rattle.type_lattice.proofs.Descent.{descent, ascent, nearest_is}
use Rattle.type_lattice.proofs.JoinLaws.{Bounds, obj_bounds, leaf_bounds, type_bounds}
use Rattle.type_lattice.proofs.JoinProper.{obj_proper, leaf_proper, key_proper, join_proper}
use Rattle.type_lattice.proofs.KeepLaws.{keep_narrower, keep_passes, keep_greatest, keep_rises, keep_proper}
use Rattle.type_lattice.proofs.Kept.{members_of_both}
use Rattle.type_lattice.proofs.LiteralLaws.{literal_has, literal_least, literal_proper}
use Rattle.type_lattice.proofs.RankLaws.{types_ranked, leaves_ranked, objects_ranked, chain_is_within}
use Rattle.type_lattice.proofs.Singles.{never-le, never_leaf-le}

pub classes_are_ordered : ClassesAreOrdered
classes_are_ordered t forest = record { descent = λ a b. (descent t forest a b, ascent t forest a b); common = nearest_is t forest }

pub depth_is_bounded : DepthIsBounded
depth_is_bounded t = chain_is_within t

-- ---- order and join

pub le_is_order : LeIsOrder
le_is_order t forest = record { same = Le-refl t; onward = Le-trans t (below_trans t forest); equal = Le-antisym t (below_antisym t forest); lowest = never-le t }

-- a join that is least rises with both
least_above : {A : Type 0} (R : A → A → Type 0) (Proper : A → Type 0) (f : A → A → A) → ((a b c : A) → R a b → R b c → R a c) → Bounds R f
    → ((a b : A) → Proper a → Proper b → Proper (f a b)) → IsLeastAbove R Proper f
least_above R Proper f onward b proper = record {
  left = b.left;
  right = b.right;
  least = b.least;
  rises = λ x y z w h k. b.least x y (f z w) (onward x z (f z w) h (b.left z w)) (onward y w (f z w) k (b.right z w));
  proper = proper;
}

joined : (t : Tree) → Forest t → (a b : HType) → IsProper t a → IsProper t b → IsJoin t (λ s. (s ≡ a) ⊎ (s ≡ b)) (join t a b)
joined t forest a b p q = record { proper = join_proper t forest a b p q; above = above; least = λ u w f. (type_bounds t forest).least a b u (f a (inl refl)) (f b (inr refl)) }
  where
    above : (s : HType) → (s ≡ a) ⊎ (s ≡ b) → Le t s (join t a b)
    above s (inl e) = subst (λ x. Le t x (join t a b)) (sym e) ((type_bounds t forest).left a b)
    above s (inr e) = subst (λ x. Le t x (join t a b)) (sym e) ((type_bounds t forest).right a b)

pub join_is_least_above : JoinIsLeastAbove
join_is_least_above t forest = (
  least_above (Le t) (IsProper t) (join t) (Le-trans t (below_trans t forest)) (type_bounds t forest) (join_proper t forest),
  joined t forest,
)

pub join_is_one : JoinIsOne
join_is_one t forest among a b h k = Le-antisym t (below_antisym t forest) a b (h.least b k.proper k.above) (k.least a h.proper h.above)

pub height_is_bounded : HeightIsBounded
height_is_bounded t forest depth within = types_ranked t forest depth within

-- ---- parts

pub leaves_are_like_types : LeavesAreLikeTypes
leaves_are_like_types t forest =
    let onward = LeafLe-trans t (below_trans t forest) in
    let bounds = leaf_bounds t forest in
    record {
      order = record { same = LeafLe-refl t; onward = onward; equal = LeafLe-antisym t (below_antisym t forest); lowest = never_leaf-le t };
      join = least_above (LeafLe t) (ProperLeaf t) (leaf_join t) onward bounds (leaf_proper t forest);
      keys = least_above (LeafLe t) ProperKey (leaf_join t) onward bounds (key_proper t forest);
      ranked = leaves_ranked t forest;
    }

pub objects_are_like_types : ObjectsAreLikeTypes
objects_are_like_types t forest =
    let onward = ObjLe-trans t (below_trans t forest) in
    record {
      order = record { same = ObjLe-refl t; onward = onward; equal = obj_same t (below_antisym t forest); lowest = λ a. tt };
      join = least_above (ObjLe t) (ProperObj t) (obj_join t) onward (obj_bounds t forest) (obj_proper t forest);
      ranked = objects_ranked t forest;
    }

-- ---- members

pub members_stay : MembersStay
members_stay t forest heap s a b h m = is_member-le t (below_trans t forest) heap s a b h m

pub parts_keep_members : PartsKeepMembers
parts_keep_members t forest =
    let higher = below_trans t forest in
    record { values = in_leaf-le t higher; keys = key_in-le t higher; objects = obj_in-le t higher }

-- ---- literals

pub literal_is_proper : LiteralIsProper
literal_is_proper t c h k = literal_proper t c k

pub literal_is_least : LiteralIsLeast
literal_is_least t heap c h = record { has = literal_has t heap c h; least = literal_least t heap c h }

-- ---- what a constraint keeps

pub keep_is_greatest_below : KeepIsGreatestBelow
keep_is_greatest_below t forest c k = record {
  narrower = λ a. keep_narrower t a c;
  passes = λ a p. keep_passes t a c k p;
  greatest = λ a u. keep_greatest t forest a c u;
  rises = λ a b. keep_rises t forest a b c;
  members = λ heap s a. members_of_both t forest heap a c k s;
  proper = λ a. keep_proper t a c;
}
