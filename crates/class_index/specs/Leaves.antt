-- Between types and what stands in containers, tests of keys, and joins of several types.
use Rattle.std.specs.Prelude.{Bool, true, false, not, ◌||◌, List, [], ◌∷◌, Option, Some, None}
use Rattle.type_lattice.specs.declared.types.Leaf.{Leaf}
use Rattle.type_lattice.specs.declared.types.HType.{HType}
use Rattle.type_lattice.specs.Classes.{Tree}
use Rattle.type_lattice.specs.Types.{never, never_leaf, cell_leaf, key_leaf}
use Rattle.type_lattice.specs.Never.{no_ints, no_strs, is_absent}
use Rattle.type_lattice.specs.Join.{join}

abbrev pub only_if : {A : Type 0} → Bool → A → Option A
only_if false a = None
only_if true a = Some a

-- the type of what stands in a container: its own containers hold anything
abbrev pub type_of : Leaf → HType
type_of l = record {
  uninit = false;
  null = l.null;
  no = l.no;
  yes = l.yes;
  int = l.int;
  str = l.str;
  obj = l.obj;
  vec = only_if l.vec cell_leaf;
  dict = only_if l.dict (key_leaf, cell_leaf);
  keyset = only_if l.keyset key_leaf;
}

-- how the cells of a type stand in a container
abbrev pub leaf_of : HType → Leaf
leaf_of t = record {
  null = t.null;
  no = t.no;
  yes = t.yes;
  int = t.int;
  str = t.str;
  obj = t.obj;
  vec = not (is_absent t.vec);
  dict = not (is_absent t.dict);
  keyset = not (is_absent t.keyset);
}

-- how its ints and strings stand there as keys
abbrev pub key_of : HType → Leaf
key_of t = record never_leaf { int = t.int; str = t.str }

abbrev pub has_int : HType → Bool
has_int t = not (no_ints t.int)

-- some cell of the type may be a key
abbrev pub has_key : HType → Bool
has_key t = has_int t || not (no_strs t.str)

-- the join of several types; that of none has no member
abbrev pub joins : Tree → List HType → HType
joins tree [] = never
joins tree (t ∷ ts) = join tree t (joins tree ts)
