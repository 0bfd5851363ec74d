-- What is claimed of targets and of the types of paths.
use Rattle.std.specs.Prelude.{◌≡◌, ◌<◌, ℕ, true, List, [], ◌∷◌, Option, Some, None, length}
use Rattle.type_lattice.specs.declared.types.HType.{HType}
use Rattle.type_lattice.specs.declared.types.ObjPart.{ObjPart}
use Rattle.type_lattice.specs.Classes.{has}
use Rattle.type_lattice.specs.Order.{ObjLe, Le}
use Rattle.type_lattice.specs.Member.{obj_in}
use Rattle.hhbc_repo.specs.declared.body.Body.{Body}
use Rattle.hhbc_repo.specs.Linked.{Linked}
use Rattle.hhbc_repo.specs.LinkFaults.{Name}
use Rattle.hhbc_repo.specs.Bodies.{tree_of, body_at}
use Rattle.hhbc_repo.specs.LookUps.{Sound, method_of}
use Rattle.class_index.specs.declared.keys.TypeKey.{TypeKey}
use Rattle.class_index.specs.declared.keys.TypeKey.TheVariants as keys
use Rattle.class_index.specs.Named.{targets, fact}
use Rattle.class_index.specs.Reading.{path_type}
use Rattle.class_index.specs.Writing.{write_base, write_effect}

-- the method of each class of the part is among the targets, where it takes the count
abbrev pub TargetsHaveMethods : Type 0
TargetsHaveMethods =
    (r : Linked) (part : ObjPart) (c : ℕ) (name : Name) (n : ℕ) (b : Body)
    → c < length (tree_of r) → obj_in (tree_of r) (Some c) part ≡ true → method_of r c name ≡ Some n → body_at r n ≡ Some b
    → has n (targets r part name b.params) ≡ true

-- and each target is the method of some class of the part, and takes the count
pub record IsTarget (r : Linked) (part : ObjPart) (name : Name) (count n : ℕ) : Type 0 where
  pub class : ℕ
  pub body : Body
  pub of_part : obj_in (tree_of r) (Some class) part ≡ true
  pub method : method_of r class name ≡ Some n
  pub there : body_at r n ≡ Some body
  pub takes : body.params ≡ count

abbrev pub TargetsAreMethods : Type 0
TargetsAreMethods = (r : Linked) (part : ObjPart) (name : Name) (count n : ℕ) → has n (targets r part name count) ≡ true → IsTarget r part name count n

-- a part with more objects has more targets
abbrev pub TargetsRise : Type 0
TargetsRise =
    (r : Linked) → Sound r → (a b : ObjPart) (name : Name) (count n : ℕ) → ObjLe (tree_of r) a b
    → has n (targets r a name count) ≡ true → has n (targets r b name count) ≡ true

-- ---- lower facts, bases and keys

module _ (r : Linked) where
  -- keys of the same kind, of which one is lower
  abbrev pub KeyLe : TypeKey → TypeKey → Type 0
  KeyLe (keys.Elem t) (keys.Elem u) = Le (tree_of r) t u
  KeyLe (keys.Prop t) (keys.Prop u) = Le (tree_of r) t u
  KeyLe (keys.PropName s) (keys.PropName n) = s ≡ n
  KeyLe (keys.Nullsafe s) (keys.Nullsafe n) = s ≡ n
  KeyLe keys.Append keys.Append = Unit {0}
  KeyLe _ _ = ⊥

  abbrev pub KeysLe : List TypeKey → List TypeKey → Type 0
  KeysLe [] [] = Unit {0}
  KeysLe [] (l ∷ ls) = ⊥
  KeysLe (k ∷ ks) [] = ⊥
  KeysLe (k ∷ ks) (l ∷ ls) = KeyLe k l × KeysLe ks ls

  abbrev pub FactsLe : List HType → List HType → Type 0
  FactsLe F G = (q : ℕ) → Le (tree_of r) (fact F q) (fact G q)

-- what reading finds is lower under lower facts, from a lower base and along lower keys
abbrev pub PathTypesRise : Type 0
PathTypesRise =
    (r : Linked) → Sound r → (F G : List HType) (t u : HType) (ks ls : List TypeKey) → FactsLe r F G → Le (tree_of r) t u → KeysLe r ks ls
    → Le (tree_of r) (path_type r F t ks) (path_type r G u ls)

-- ---- what writing leaves

abbrev pub ValueLe : Linked → Option HType → Option HType → Type 0
ValueLe r None None = Unit {0}
ValueLe r None (Some w) = ⊥
ValueLe r (Some v) None = ⊥
ValueLe r (Some v) (Some w) = Le (tree_of r) v w

pub record WriteLe (r : Linked) (F G : List HType) (v w : Option HType) (t u : HType) (k l : TypeKey) (ks ls : List TypeKey) : Type 0 where
  pub base : Le (tree_of r) (write_base r F v t k ks) (write_base r G w u l ls)
  pub effect : (q : ℕ) → Le (tree_of r) (write_effect r F v t k ks q) (write_effect r G w u l ls q)

-- what writing leaves, in the base and in each property, is lower under lower facts, from a lower base, along lower keys and with a lower value
abbrev pub WritesRise : Type 0
WritesRise =
    (r : Linked) → Sound r → (F G : List HType) (v w : Option HType) (t u : HType) (k l : TypeKey) (ks ls : List TypeKey)
    → FactsLe r F G → ValueLe r v w → Le (tree_of r) t u → KeyLe r k l → KeysLe r ks ls → WriteLe r F G v w t u k l ks ls
