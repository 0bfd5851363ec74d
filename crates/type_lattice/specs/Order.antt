-- The order of types, part by part.
use Rattle.std.specs.Prelude.{◌≡◌, Bool, true, false, Option, Some, None, IsTrue}
use Rattle.type_lattice.specs.declared.types.IntPart.{IntPart}
use Rattle.type_lattice.specs.declared.types.IntPart.TheVariants as ints
use Rattle.type_lattice.specs.declared.types.StrPart.{StrPart}
use Rattle.type_lattice.specs.declared.types.StrPart.TheVariants as strs
use Rattle.type_lattice.specs.declared.types.ObjPart.{ObjPart}
use Rattle.type_lattice.specs.declared.types.ObjPart.TheVariants as objs
use Rattle.type_lattice.specs.declared.types.Leaf.{Leaf}
use Rattle.type_lattice.specs.declared.types.HType.{HType}
use Rattle.type_lattice.specs.Classes.{Tree, below}

-- a flag of the lower type is set in the upper one too
abbrev pub FlagLe : Bool → Bool → Type 0
FlagLe false b = Unit {0}
FlagLe true b = b ≡ true

-- each int part is below itself, No is below all, and all are below Any
abbrev pub IntLe : IntPart → IntPart → Type 0
IntLe ints.No b = Unit {0}
IntLe (ints.One i) ints.No = ⊥
IntLe (ints.One i) (ints.One j) = i ≡ j
IntLe (ints.One i) ints.Any = Unit {0}
IntLe ints.Any ints.No = ⊥
IntLe ints.Any (ints.One j) = ⊥
IntLe ints.Any ints.Any = Unit {0}

abbrev pub StrLe : StrPart → StrPart → Type 0
StrLe strs.No b = Unit {0}
StrLe (strs.One s) strs.No = ⊥
StrLe (strs.One s) (strs.One t) = s ≡ t
StrLe (strs.One s) strs.Any = Unit {0}
StrLe strs.Any strs.No = ⊥
StrLe strs.Any (strs.One t) = ⊥
StrLe strs.Any strs.Any = Unit {0}

-- one class, or a class with those below it, is below a part that has them all
abbrev pub ObjLe : Tree → ObjPart → ObjPart → Type 0
ObjLe tree objs.No b = Unit {0}
ObjLe tree (objs.Exact c) objs.No = ⊥
ObjLe tree (objs.Exact c) (objs.Exact d) = c ≡ d
ObjLe tree (objs.Exact c) (objs.Sub d) = IsTrue (below tree c d)
ObjLe tree (objs.Exact c) objs.Any = Unit {0}
ObjLe tree (objs.Sub c) objs.No = ⊥
ObjLe tree (objs.Sub c) (objs.Exact d) = ⊥
ObjLe tree (objs.Sub c) (objs.Sub d) = IsTrue (below tree c d)
ObjLe tree (objs.Sub c) objs.Any = Unit {0}
ObjLe tree objs.Any objs.No = ⊥
ObjLe tree objs.Any (objs.Exact d) = ⊥
ObjLe tree objs.Any (objs.Sub d) = ⊥
ObjLe tree objs.Any objs.Any = Unit {0}

pub record LeafLe (tree : Tree) (a b : Leaf) : Type 0 where
  pub null : FlagLe a.null b.null
  pub no : FlagLe a.no b.no
  pub yes : FlagLe a.yes b.yes
  pub int : IntLe a.int b.int
  pub str : StrLe a.str b.str
  pub obj : ObjLe tree a.obj b.obj
  pub vec : FlagLe a.vec b.vec
  pub dict : FlagLe a.dict b.dict
  pub keyset : FlagLe a.keyset b.keyset

-- an absent container part is below all, and present ones compare by what is in them
abbrev pub PartLe : {A : Type 0} → (A → A → Type 0) → Option A → Option A → Type 0
PartLe R None b = Unit {0}
PartLe R (Some a) None = ⊥
PartLe R (Some a) (Some b) = R a b

abbrev pub EntryLe : Tree → Leaf × Leaf → Leaf × Leaf → Type 0
EntryLe tree a b = LeafLe tree a.0 b.0 × LeafLe tree a.1 b.1

pub record Le (tree : Tree) (a b : HType) : Type 0 where
  pub uninit : FlagLe a.uninit b.uninit
  pub null : FlagLe a.null b.null
  pub no : FlagLe a.no b.no
  pub yes : FlagLe a.yes b.yes
  pub int : IntLe a.int b.int
  pub str : StrLe a.str b.str
  pub obj : ObjLe tree a.obj b.obj
  pub vec : PartLe (LeafLe tree) a.vec b.vec
  pub dict : PartLe (EntryLe tree) a.dict b.dict
  pub keyset : PartLe (LeafLe tree) a.keyset b.keyset
