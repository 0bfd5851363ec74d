-- Single types and leaves are proper, and below or above others.
use Rattle.std.proofs.Common.{refl}
use Rattle.type_lattice.specs.declared.types.Leaf.{Leaf}
use Rattle.type_lattice.specs.declared.types.HType.{HType}
use Rattle.type_lattice.specs.Classes.{Tree}
use Rattle.type_lattice.specs.Order.{LeafLe, Le}
use Rattle.type_lattice.specs.Proper.{ProperLeaf, ProperKey, IsProper}
use Rattle.type_lattice.specs.Types.{never, uninit, cell, never_leaf, cell_leaf, key_leaf}
use Rattle.type_lattice.specs.Laws.{SinglesAreProper}

key_proper : ProperKey key_leaf
key_proper = record { null = refl; no = refl; yes = refl; int = tt; str = tt; obj = refl; vec = refl; dict = refl; keyset = refl }

none_proper : ProperKey never_leaf
none_proper = record { null = refl; no = refl; yes = refl; int = tt; str = tt; obj = refl; vec = refl; dict = refl; keyset = refl }

module _ (tree : Tree) where
  -- the least type and the least leaf
  pub never-le : (t : HType) → Le tree never t
  never-le t = record { uninit = tt; null = tt; no = tt; yes = tt; int = tt; str = tt; obj = tt; vec = tt; dict = tt; keyset = tt }

  pub never_leaf-le : (l : Leaf) → LeafLe tree never_leaf l
  never_leaf-le l = record { null = tt; no = tt; yes = tt; int = tt; str = tt; obj = tt; vec = tt; dict = tt; keyset = tt }

  leaf_proper : ProperLeaf tree cell_leaf
  leaf_proper = record { int = tt; str = tt; obj = tt }

  pub never_proper : IsProper tree never
  never_proper = record { int = tt; str = tt; obj = tt; vec = tt; dict = tt; keyset = tt }

  pub uninit_proper : IsProper tree uninit
  uninit_proper = record { int = tt; str = tt; obj = tt; vec = tt; dict = tt; keyset = tt }

  pub cell_proper : IsProper tree cell
  cell_proper = record { int = tt; str = tt; obj = tt; vec = leaf_proper; dict = (key_proper, leaf_proper); keyset = key_proper }

pub singles_are_proper : SinglesAreProper
singles_are_proper tree = record {
  never = never_proper tree;
  uninit = uninit_proper tree;
  cell = cell_proper tree;
  leaf = leaf_proper tree;
  key = key_proper;
  none = none_proper;
}
