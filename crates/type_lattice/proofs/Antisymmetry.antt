-- Two types below each other are equal, where two classes below each other are.
use Rattle.std.proofs.Common.{◌≡◌, ℕ, refl, sym, ap, Bool, true, false, Option, Some, None}
use Rattle.type_lattice.specs.declared.types.HType.{HType}
use Rattle.type_lattice.specs.declared.types.Leaf.{Leaf}
use Rattle.type_lattice.specs.declared.types.IntPart.{IntPart}
use Rattle.type_lattice.specs.declared.types.IntPart.TheVariants as ints
use Rattle.type_lattice.specs.declared.types.StrPart.{StrPart}
use Rattle.type_lattice.specs.declared.types.StrPart.TheVariants as strs
use Rattle.type_lattice.specs.declared.types.ObjPart.{ObjPart}
use Rattle.type_lattice.specs.declared.types.ObjPart.TheVariants as objs
use Rattle.type_lattice.specs.Classes.{Tree, below}
use Rattle.type_lattice.specs.Order.{FlagLe, IntLe, StrLe, ObjLe, LeafLe, PartLe, EntryLe, Le}

abbrev pub Antisymmetric : Tree → Type 0
Antisymmetric tree = (a b : ℕ) → below tree a b ≡ true → below tree b a ≡ true → a ≡ b

flag_same : (a b : Bool) → FlagLe a b → FlagLe b a → a ≡ b
flag_same true b h k = sym h
flag_same false true h k = k
flag_same false false h k = refl

int_same : (a b : IntPart) → IntLe a b → IntLe b a → a ≡ b
int_same ints.No ints.No h k = refl
int_same ints.No (ints.One j) h k = absurd k
int_same ints.No ints.Any h k = absurd k
int_same (ints.One i) ints.No h k = absurd h
int_same (ints.One i) (ints.One j) h k = ap ints.One h
int_same (ints.One i) ints.Any h k = absurd k
int_same ints.Any ints.No h k = absurd h
int_same ints.Any (ints.One j) h k = absurd h
int_same ints.Any ints.Any h k = refl

str_same : (a b : StrPart) → StrLe a b → StrLe b a → a ≡ b
str_same strs.No strs.No h k = refl
str_same strs.No (strs.One t) h k = absurd k
str_same strs.No strs.Any h k = absurd k
str_same (strs.One s) strs.No h k = absurd h
str_same (strs.One s) (strs.One t) h k = ap strs.One h
str_same (strs.One s) strs.Any h k = absurd k
str_same strs.Any strs.No h k = absurd h
str_same strs.Any (strs.One t) h k = absurd h
str_same strs.Any strs.Any h k = refl

module _ (tree : Tree) (same : Antisymmetric tree) where
  pub obj_same : (a b : ObjPart) → ObjLe tree a b → ObjLe tree b a → a ≡ b
  obj_same objs.No objs.No h k = refl
  obj_same objs.No (objs.Exact d) h k = absurd k
  obj_same objs.No (objs.Sub d) h k = absurd k
  obj_same objs.No objs.Any h k = absurd k
  obj_same (objs.Exact c) objs.No h k = absurd h
  obj_same (objs.Exact c) (objs.Exact d) h k = ap objs.Exact h
  obj_same (objs.Exact c) (objs.Sub d) h k = absurd k
  obj_same (objs.Exact c) objs.Any h k = absurd k
  obj_same (objs.Sub c) objs.No h k = absurd h
  obj_same (objs.Sub c) (objs.Exact d) h k = absurd h
  obj_same (objs.Sub c) (objs.Sub d) h k = ap objs.Sub (same c d h k)
  obj_same (objs.Sub c) objs.Any h k = absurd k
  obj_same objs.Any objs.No h k = absurd h
  obj_same objs.Any (objs.Exact d) h k = absurd h
  obj_same objs.Any (objs.Sub d) h k = absurd h
  obj_same objs.Any objs.Any h k = refl

  leaf_same : (a b : Leaf) → LeafLe tree a b → LeafLe tree b a → a ≡ b
  leaf_same a b h k = λ i. record {
    null = flag_same a.null b.null h.null k.null i;
    no = flag_same a.no b.no h.no k.no i;
    yes = flag_same a.yes b.yes h.yes k.yes i;
    int = int_same a.int b.int h.int k.int i;
    str = str_same a.str b.str h.str k.str i;
    obj = obj_same a.obj b.obj h.obj k.obj i;
    vec = flag_same a.vec b.vec h.vec k.vec i;
    dict = flag_same a.dict b.dict h.dict k.dict i;
    keyset = flag_same a.keyset b.keyset h.keyset k.keyset i;
  }

  part_same : {A : Type 0} (R : A → A → Type 0) → ((a b : A) → R a b → R b a → a ≡ b) → (a b : Option A) → PartLe R a b → PartLe R b a → a ≡ b
  part_same R s None None h k = refl
  part_same R s None (Some b) h k = absurd k
  part_same R s (Some a) None h k = absurd h
  part_same R s (Some a) (Some b) h k = ap Some (s a b h k)

  entry_same : (a b : Leaf × Leaf) → EntryLe tree a b → EntryLe tree b a → a ≡ b
  entry_same a b h k = λ i. (leaf_same a.0 b.0 h.0 k.0 i, leaf_same a.1 b.1 h.1 k.1 i)

  pub Le-antisym : (a b : HType) → Le tree a b → Le tree b a → a ≡ b
  Le-antisym a b h k = λ i. record {
    uninit = flag_same a.uninit b.uninit h.uninit k.uninit i;
    null = flag_same a.null b.null h.null k.null i;
    no = flag_same a.no b.no h.no k.no i;
    yes = flag_same a.yes b.yes h.yes k.yes i;
    int = int_same a.int b.int h.int k.int i;
    str = str_same a.str b.str h.str k.str i;
    obj = obj_same a.obj b.obj h.obj k.obj i;
    vec = part_same (LeafLe tree) leaf_same a.vec b.vec h.vec k.vec i;
    dict = part_same (EntryLe tree) entry_same a.dict b.dict h.dict k.dict i;
    keyset = part_same (LeafLe tree) leaf_same a.keyset b.keyset h.keyset k.keyset i;
  }

  pub LeafLe-antisym : (a b : Leaf) → LeafLe tree a b → LeafLe tree b a → a ≡ b
  LeafLe-antisym a b h k = leaf_same a b h k
