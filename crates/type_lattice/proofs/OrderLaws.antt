-- The order of types is reflexive, and transitive where the order of classes is.
use Rattle.std.proofs.Common.{◌≡◌, ℕ, zero, suc, refl, sym, ◌∙◌, subst, Bool, true, false, ◌==◌, Option, Some, None, length}
use Rattle.std.proofs.lemmas.Bool.Decides.{Decides-eqb}
use Rattle.type_lattice.specs.declared.types.HType.{HType}
use Rattle.type_lattice.specs.declared.types.Leaf.{Leaf}
use Rattle.type_lattice.specs.declared.types.IntPart.{IntPart}
use Rattle.type_lattice.specs.declared.types.IntPart.TheVariants as ints
use Rattle.type_lattice.specs.declared.types.StrPart.{StrPart}
use Rattle.type_lattice.specs.declared.types.StrPart.TheVariants as strs
use Rattle.type_lattice.specs.declared.types.ObjPart.{ObjPart}
use Rattle.type_lattice.specs.declared.types.ObjPart.TheVariants as objs
use Rattle.type_lattice.specs.Classes.{Tree, below, chain_within, has}
use Rattle.type_lattice.specs.Order.{FlagLe, IntLe, StrLe, ObjLe, LeafLe, PartLe, EntryLe, Le}

-- what is below something below a class is below the class
abbrev pub Transitive : Tree → Type 0
Transitive tree = (a b c : ℕ) → below tree a b ≡ true → below tree b c ≡ true → below tree a c ≡ true

equal_to_itself : (n : ℕ) → (n == n) ≡ true
equal_to_itself n = (Decides-eqb n n).1 refl

first_of_chain : (fuel : ℕ) (tree : Tree) (c : ℕ) → has c (chain_within fuel tree c) ≡ true
first_of_chain zero tree c = rw (equal_to_itself c) refl
first_of_chain (suc n) tree c = rw (equal_to_itself c) refl

pub below-refl : (tree : Tree) (c : ℕ) → below tree c c ≡ true
below-refl tree c = first_of_chain (length tree) tree c

pub FlagLe-refl : (a : Bool) → FlagLe a a
FlagLe-refl true = refl
FlagLe-refl false = tt

FlagLe-trans : (a b c : Bool) → FlagLe a b → FlagLe b c → FlagLe a c
FlagLe-trans false b c h k = tt
FlagLe-trans true true c h k = k
FlagLe-trans true false c h k = absurd (cc)

pub FlagLe-top : (a : Bool) → FlagLe a true
FlagLe-top true = refl
FlagLe-top false = tt

pub IntLe-top : (a : IntPart) → IntLe a ints.Any
IntLe-top ints.No = tt
IntLe-top (ints.One i) = tt
IntLe-top ints.Any = tt

pub StrLe-top : (a : StrPart) → StrLe a strs.Any
StrLe-top strs.No = tt
StrLe-top (strs.One s) = tt
StrLe-top strs.Any = tt

pub IntLe-refl : (a : IntPart) → IntLe a a
IntLe-refl ints.No = tt
IntLe-refl (ints.One i) = refl
IntLe-refl ints.Any = tt

IntLe-trans : (a b c : IntPart) → IntLe a b → IntLe b c → IntLe a c
IntLe-trans ints.No b c h k = tt
IntLe-trans (ints.One i) ints.No c h k = absurd h
IntLe-trans (ints.One i) (ints.One j) ints.No h k = absurd k
IntLe-trans (ints.One i) (ints.One j) (ints.One m) h k = h ∙ k
IntLe-trans (ints.One i) (ints.One j) ints.Any h k = tt
IntLe-trans (ints.One i) ints.Any ints.No h k = absurd k
IntLe-trans (ints.One i) ints.Any (ints.One m) h k = absurd k
IntLe-trans (ints.One i) ints.Any ints.Any h k = tt
IntLe-trans ints.Any ints.No c h k = absurd h
IntLe-trans ints.Any (ints.One j) c h k = absurd h
IntLe-trans ints.Any ints.Any c h k = k

pub StrLe-refl : (a : StrPart) → StrLe a a
StrLe-refl strs.No = tt
StrLe-refl (strs.One s) = refl
StrLe-refl strs.Any = tt

StrLe-trans : (a b c : StrPart) → StrLe a b → StrLe b c → StrLe a c
StrLe-trans strs.No b c h k = tt
StrLe-trans (strs.One s) strs.No c h k = absurd h
StrLe-trans (strs.One s) (strs.One t) strs.No h k = absurd k
StrLe-trans (strs.One s) (strs.One t) (strs.One u) h k = h ∙ k
StrLe-trans (strs.One s) (strs.One t) strs.Any h k = tt
StrLe-trans (strs.One s) strs.Any strs.No h k = absurd k
StrLe-trans (strs.One s) strs.Any (strs.One u) h k = absurd k
StrLe-trans (strs.One s) strs.Any strs.Any h k = tt
StrLe-trans strs.Any strs.No c h k = absurd h
StrLe-trans strs.Any (strs.One t) c h k = absurd h
StrLe-trans strs.Any strs.Any c h k = k

module _ (tree : Tree) where
  pub ObjLe-top : (a : ObjPart) → ObjLe tree a objs.Any
  ObjLe-top objs.No = tt
  ObjLe-top (objs.Exact c) = tt
  ObjLe-top (objs.Sub c) = tt
  ObjLe-top objs.Any = tt

  pub ObjLe-refl : (a : ObjPart) → ObjLe tree a a
  ObjLe-refl objs.No = tt
  ObjLe-refl (objs.Exact c) = refl
  ObjLe-refl (objs.Sub c) = below-refl tree c
  ObjLe-refl objs.Any = tt

  pub LeafLe-refl : (a : Leaf) → LeafLe tree a a
  LeafLe-refl a = record {
    null = FlagLe-refl a.null;
    no = FlagLe-refl a.no;
    yes = FlagLe-refl a.yes;
    int = IntLe-refl a.int;
    str = StrLe-refl a.str;
    obj = ObjLe-refl a.obj;
    vec = FlagLe-refl a.vec;
    dict = FlagLe-refl a.dict;
    keyset = FlagLe-refl a.keyset;
  }

  PartLe-refl : {A : Type 0} (R : A → A → Type 0) → ((a : A) → R a a) → (a : Option A) → PartLe R a a
  PartLe-refl R r None = tt
  PartLe-refl R r (Some a) = r a

  pub Le-refl : (a : HType) → Le tree a a
  Le-refl a = record {
    uninit = FlagLe-refl a.uninit;
    null = FlagLe-refl a.null;
    no = FlagLe-refl a.no;
    yes = FlagLe-refl a.yes;
    int = IntLe-refl a.int;
    str = StrLe-refl a.str;
    obj = ObjLe-refl a.obj;
    vec = PartLe-refl (LeafLe tree) LeafLe-refl a.vec;
    dict = PartLe-refl (EntryLe tree) (λ e. (LeafLe-refl e.0, LeafLe-refl e.1)) a.dict;
    keyset = PartLe-refl (LeafLe tree) LeafLe-refl a.keyset;
  }

  module _ (higher : Transitive tree) where
    pub ObjLe-trans : (a b c : ObjPart) → ObjLe tree a b → ObjLe tree b c → ObjLe tree a c
    ObjLe-trans objs.No b c h k = tt
    ObjLe-trans (objs.Exact a) objs.No c h k = absurd h
    ObjLe-trans (objs.Exact a) (objs.Exact b) objs.No h k = absurd k
    ObjLe-trans (objs.Exact a) (objs.Exact b) (objs.Exact c) h k = h ∙ k
    ObjLe-trans (objs.Exact a) (objs.Exact b) (objs.Sub c) h k = subst (λ x. below tree x c ≡ true) (sym h) k
    ObjLe-trans (objs.Exact a) (objs.Exact b) objs.Any h k = tt
    ObjLe-trans (objs.Exact a) (objs.Sub b) objs.No h k = absurd k
    ObjLe-trans (objs.Exact a) (objs.Sub b) (objs.Exact c) h k = absurd k
    ObjLe-trans (objs.Exact a) (objs.Sub b) (objs.Sub c) h k = higher a b c h k
    ObjLe-trans (objs.Exact a) (objs.Sub b) objs.Any h k = tt
    ObjLe-trans (objs.Exact a) objs.Any objs.No h k = absurd k
    ObjLe-trans (objs.Exact a) objs.Any (objs.Exact c) h k = absurd k
    ObjLe-trans (objs.Exact a) objs.Any (objs.Sub c) h k = absurd k
    ObjLe-trans (objs.Exact a) objs.Any objs.Any h k = tt
    ObjLe-trans (objs.Sub a) objs.No c h k = absurd h
    ObjLe-trans (objs.Sub a) (objs.Exact b) c h k = absurd h
    ObjLe-trans (objs.Sub a) (objs.Sub b) objs.No h k = absurd k
    ObjLe-trans (objs.Sub a) (objs.Sub b) (objs.Exact c) h k = absurd k
    ObjLe-trans (objs.Sub a) (objs.Sub b) (objs.Sub c) h k = higher a b c h k
    ObjLe-trans (objs.Sub a) (objs.Sub b) objs.Any h k = tt
    ObjLe-trans (objs.Sub a) objs.Any objs.No h k = absurd k
    ObjLe-trans (objs.Sub a) objs.Any (objs.Exact c) h k = absurd k
    ObjLe-trans (objs.Sub a) objs.Any (objs.Sub c) h k = absurd k
    ObjLe-trans (objs.Sub a) objs.Any objs.Any h k = tt
    ObjLe-trans objs.Any objs.No c h k = absurd h
    ObjLe-trans objs.Any (objs.Exact b) c h k = absurd h
    ObjLe-trans objs.Any (objs.Sub b) c h k = absurd h
    ObjLe-trans objs.Any objs.Any c h k = k

    pub LeafLe-trans : (a b c : Leaf) → LeafLe tree a b → LeafLe tree b c → LeafLe tree a c
    LeafLe-trans a b c h k = record {
      null = FlagLe-trans _ _ _ h.null k.null;
      no = FlagLe-trans _ _ _ h.no k.no;
      yes = FlagLe-trans _ _ _ h.yes k.yes;
      int = IntLe-trans _ _ _ h.int k.int;
      str = StrLe-trans _ _ _ h.str k.str;
      obj = ObjLe-trans _ _ _ h.obj k.obj;
      vec = FlagLe-trans _ _ _ h.vec k.vec;
      dict = FlagLe-trans _ _ _ h.dict k.dict;
      keyset = FlagLe-trans _ _ _ h.keyset k.keyset;
    }

    PartLe-trans : {A : Type 0} (R : A → A → Type 0) → ((a b c : A) → R a b → R b c → R a c) → (a b c : Option A)
        → PartLe R a b → PartLe R b c → PartLe R a c
    PartLe-trans R r None b c h k = tt
    PartLe-trans R r (Some a) None c h k = absurd h
    PartLe-trans R r (Some a) (Some b) None h k = absurd k
    PartLe-trans R r (Some a) (Some b) (Some c) h k = r a b c h k

    pub Le-trans : (a b c : HType) → Le tree a b → Le tree b c → Le tree a c
    Le-trans a b c h k = record {
      uninit = FlagLe-trans _ _ _ h.uninit k.uninit;
      null = FlagLe-trans _ _ _ h.null k.null;
      no = FlagLe-trans _ _ _ h.no k.no;
      yes = FlagLe-trans _ _ _ h.yes k.yes;
      int = IntLe-trans _ _ _ h.int k.int;
      str = StrLe-trans _ _ _ h.str k.str;
      obj = ObjLe-trans _ _ _ h.obj k.obj;
      vec = PartLe-trans (LeafLe tree) LeafLe-trans _ _ _ h.vec k.vec;
      dict = PartLe-trans (EntryLe tree) (λ a b c h k. (LeafLe-trans _ _ _ h.0 k.0, LeafLe-trans _ _ _ h.1 k.1)) _ _ _ h.dict k.dict;
      keyset = PartLe-trans (LeafLe tree) LeafLe-trans _ _ _ h.keyset k.keyset;
    }
