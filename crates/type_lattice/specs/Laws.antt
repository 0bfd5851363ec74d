-- What is claimed of types, over each tree without strays and cycles.
use Rattle.std.specs.Prelude.{◌≡◌, ◌≤◌, ◌<◌, ◌⊎◌, ◌↔◌, ◌&&◌, ℕ, Bool, true, Option, length}
use Rattle.hack_values.specs.declared.key.Key.{Key}
use Rattle.hack_values.specs.declared.cell.Cell.{Cell}
use Rattle.hack_values.specs.declared.cell.Slot.{Slot}
use Rattle.hack_values.specs.declared.cell.Slot.TheVariants as slots
use Rattle.type_lattice.specs.declared.types.ObjPart.{ObjPart}
use Rattle.type_lattice.specs.declared.types.ObjPart.TheVariants as objs
use Rattle.type_lattice.specs.declared.types.Leaf.{Leaf}
use Rattle.type_lattice.specs.declared.types.HType.{HType}
use Rattle.type_lattice.specs.Classes.{Tree, Forest, Descends, below, nearest, IsNearest}
use Rattle.type_lattice.specs.Order.{ObjLe, LeafLe, Le}
use Rattle.type_lattice.specs.Proper.{ProperScalar, ProperObj, ProperLeaf, ProperKey, IsProper, IsJoin}
use Rattle.type_lattice.specs.Types.{never, uninit, cell, never_leaf, cell_leaf, key_leaf, literal, IsLiteral}
use Rattle.type_lattice.specs.Member.{Heap, obj_in, in_leaf, key_in, is_member}
use Rattle.type_lattice.specs.Join.{obj_join, leaf_join, join}
use Rattle.type_lattice.specs.Keep.{IsConstraint, is_constraint, keep}
use Rattle.type_lattice.specs.InRange.{is_proper}
use Rattle.type_lattice.specs.Rank.{IsWithin, obj_rank, leaf_rank, rank, highest_obj, highest_leaf, highest}

-- ---- classes

-- the test of descent, and the nearest class that two classes have in common
pub record IsOrdered (tree : Tree) : Type 0 where
  pub descent : (a b : ℕ) → (below tree a b ≡ true) ↔ Descends tree a b
  pub common : (a b : ℕ) → IsNearest tree a b (nearest tree a b)

abbrev pub ClassesAreOrdered : Type 0
ClassesAreOrdered = (tree : Tree) → Forest tree → IsOrdered tree

-- no class has more classes above it than there are classes
abbrev pub DepthIsBounded : Type 0
DepthIsBounded = (tree : Tree) → IsWithin tree (length tree)

-- ---- order, join and rank, of types, of what stands in containers and of their objects

-- reflexive and transitive, two below each other are equal, and one is below all
pub record IsOrder {A : Type 0} (R : A → A → Type 0) (bottom : A) : Type 0 where
  pub same : (a : A) → R a a
  pub onward : (a b c : A) → R a b → R b c → R a c
  pub equal : (a b : A) → R a b → R b a → a ≡ b
  pub lowest : (a : A) → R bottom a

-- f is above both, and below all that is above both, proper or not; it rises with both, and that of proper ones is proper
pub record IsLeastAbove {A : Type 0} (R : A → A → Type 0) (Proper : A → Type 0) (f : A → A → A) : Type 0 where
  pub left : (a b : A) → R a (f a b)
  pub right : (a b : A) → R b (f a b)
  pub least : (a b u : A) → R a u → R b u → R (f a b) u
  pub rises : (a b c d : A) → R a c → R b d → R (f a b) (f c d)
  pub proper : (a b : A) → Proper a → Proper b → Proper (f a b)

-- what is strictly higher has a strictly higher rank, and no rank is above the highest
pub record IsRanked {A : Type 0} (R : A → A → Type 0) (height : A → ℕ) (limit : ℕ) : Type 0 where
  pub strict : (a b : A) → R a b → (a ≡ b → ⊥) → height a < height b
  pub most : (a : A) → height a ≤ limit

abbrev pub LeIsOrder : Type 0
LeIsOrder = (tree : Tree) → Forest tree → IsOrder (Le tree) never

-- the join is above both types, and below each type that is above both, proper or not; that of proper types is their join
abbrev pub JoinIsLeastAbove : Type 0
JoinIsLeastAbove =
    (tree : Tree) → Forest tree
    → IsLeastAbove (Le tree) (IsProper tree) (join tree)
    × ((a b : HType) → IsProper tree a → IsProper tree b → IsJoin tree (λ s. (s ≡ a) ⊎ (s ≡ b)) (join tree a b))

-- types have at most one join
abbrev pub JoinIsOne : Type 0
JoinIsOne =
    (tree : Tree) → Forest tree → (among : HType → Bool) (s t : HType)
    → IsJoin tree (λ u. among u ≡ true) s → IsJoin tree (λ u. among u ≡ true) t → s ≡ t

abbrev pub HeightIsBounded : Type 0
HeightIsBounded = (tree : Tree) → Forest tree → (depth : ℕ) → IsWithin tree depth → IsRanked (Le tree) (rank depth tree) (highest depth)

-- the same of what stands in a container
pub record LeavesAreLike (tree : Tree) : Type 0 where
  pub order : IsOrder (LeafLe tree) never_leaf
  pub join : IsLeastAbove (LeafLe tree) (ProperLeaf tree) (leaf_join tree)
  pub keys : IsLeastAbove (LeafLe tree) ProperKey (leaf_join tree)
  pub ranked : (depth : ℕ) → IsWithin tree depth → IsRanked (LeafLe tree) (leaf_rank depth tree) (highest_leaf depth)

abbrev pub LeavesAreLikeTypes : Type 0
LeavesAreLikeTypes = (tree : Tree) → Forest tree → LeavesAreLike tree

-- and of the objects of a type
pub record ObjectsAreLike (tree : Tree) : Type 0 where
  pub order : IsOrder (ObjLe tree) objs.No
  pub join : IsLeastAbove (ObjLe tree) (ProperObj tree) (obj_join tree)
  pub ranked : (depth : ℕ) → IsWithin tree depth → IsRanked (ObjLe tree) (obj_rank depth tree) (highest_obj depth)

abbrev pub ObjectsAreLikeTypes : Type 0
ObjectsAreLikeTypes = (tree : Tree) → Forest tree → ObjectsAreLike tree

-- ---- members

-- a member of a type is one of each type above it
abbrev pub MembersStay : Type 0
MembersStay =
    (tree : Tree) → Forest tree → (heap : Heap) (s : Slot) (a b : HType)
    → Le tree a b → is_member tree heap s a ≡ true → is_member tree heap s b ≡ true

-- so is what stands in a container, as a value and as a key, and an object
pub record PartsKeep (tree : Tree) : Type 0 where
  pub values : (heap : Heap) (c : Cell) (a b : Leaf) → LeafLe tree a b → in_leaf tree heap a c ≡ true → in_leaf tree heap b c ≡ true
  pub keys : (k : Key) (a b : Leaf) → LeafLe tree a b → key_in a k ≡ true → key_in b k ≡ true
  pub objects : (class : Option ℕ) (a b : ObjPart) → ObjLe tree a b → obj_in tree class a ≡ true → obj_in tree class b ≡ true

abbrev pub PartsKeepMembers : Type 0
PartsKeepMembers = (tree : Tree) → Forest tree → PartsKeep tree

-- ---- single types

-- a literal is a member of its type, and that is below each proper type that has it as a member
pub record IsLeastWith (tree : Tree) (heap : Heap) (c : Cell) : Type 0 where
  pub has : is_member tree heap (slots.Cell c) (literal c) ≡ true
  pub least : (t : HType) → IsProper tree t → is_member tree heap (slots.Cell c) t ≡ true → Le tree (literal c) t

-- the type of a literal whose number or bytes are in range is proper
abbrev pub LiteralIsProper : Type 0
LiteralIsProper = (tree : Tree) (c : Cell) → IsLiteral c → ProperScalar c → IsProper tree (literal c)

abbrev pub LiteralIsLeast : Type 0
LiteralIsLeast = (tree : Tree) (heap : Heap) (c : Cell) → IsLiteral c → IsLeastWith tree heap c

-- the types without members, of what isn't there yet and of all cells are proper, and so are their leaves
pub record SinglesAre (tree : Tree) : Type 0 where
  pub never : IsProper tree never
  pub uninit : IsProper tree uninit
  pub cell : IsProper tree cell
  pub leaf : ProperLeaf tree cell_leaf
  pub key : ProperKey key_leaf
  pub none : ProperKey never_leaf

abbrev pub SinglesAreProper : Type 0
SinglesAreProper = (tree : Tree) → SinglesAre tree

-- ---- what a constraint keeps

-- what a constraint keeps of a type is below both, and above each type that is below both; it rises with the type, and
-- its members are those of the type that pass the constraint
pub record IsGreatestBelow (tree : Tree) (c : HType) : Type 0 where
  pub narrower : (a : HType) → Le tree (keep tree a c) a
  pub passes : (a : HType) → IsProper tree a → Le tree (keep tree a c) c
  pub greatest : (a u : HType) → Le tree u a → Le tree u c → Le tree u (keep tree a c)
  pub rises : (a b : HType) → Le tree a b → Le tree (keep tree a c) (keep tree b c)
  pub members : (heap : Heap) (s : Slot) (a : HType) → is_member tree heap s (keep tree a c) ≡ (is_member tree heap s a && is_member tree heap s c)
  pub proper : (a : HType) → IsProper tree a → IsProper tree c → IsProper tree (keep tree a c)

abbrev pub KeepIsGreatestBelow : Type 0
KeepIsGreatestBelow = (tree : Tree) → Forest tree → (c : HType) → IsConstraint c → IsGreatestBelow tree c

-- ---- tests

-- the tests of proper types and of constraints say what they are to say
abbrev pub ProperIsTested : Type 0
ProperIsTested = (tree : Tree) (t : HType) → (is_proper (length tree) t ≡ true) ↔ IsProper tree t

abbrev pub ConstraintIsTested : Type 0
ConstraintIsTested = (t : HType) → (is_constraint t ≡ true) ↔ IsConstraint t
