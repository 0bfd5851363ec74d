-- Joins of several types.
use Rattle.std.proofs.Common.{◌≡◌, ◌+◌, ℕ, zero, suc, sym, ap, ◌∙◌, Bool, true, false, cond, Some, List, [], ◌∷◌, ◌++◌, map, filter, drop, slice_get, arith}
use Rattle.type_lattice.specs.declared.types.HType.{HType}
use Rattle.type_lattice.specs.declared.types.ObjPart.{ObjPart}
use Rattle.type_lattice.specs.Classes.{Tree, Forest}
use Rattle.type_lattice.specs.Order.{Le}
use Rattle.type_lattice.specs.Proper.{IsProper}
use Rattle.type_lattice.specs.Laws.{IsLeastAbove, IsOrder}
use Rattle.type_lattice.specs.Types.{never}
use Rattle.type_lattice.specs.Join.{join}
use Rattle.type_lattice.proofs.Claimed.{le_is_order, join_is_least_above}
use Rattle.hhbc_repo.specs.Linked.{Linked}
use Rattle.hhbc_repo.specs.Bodies.{tree_of}
use Rattle.hhbc_repo.specs.LookUps.{Sound}
use Rattle.class_index.specs.Leaves.{joins}
use Rattle.class_index.specs.Named.{Names, fact, given}
use Rattle.class_index.specs.Reached.{borne, gathered, is_reached}
use Rattle.class_index.proofs.Candidates.{properties_reached}

module _ (tree : Tree) (forest : Forest tree) where
  ordered : IsOrder (Le tree) never
  ordered = le_is_order tree forest

  bounded : IsLeastAbove (Le tree) (IsProper tree) (join tree)
  bounded = (join_is_least_above tree forest).0

  pub join_never : (a : HType) → join tree a never ≡ a
  join_never a = ordered.equal (join tree a never) a (bounded.least a never a (ordered.same a) (ordered.lowest a)) (bounded.left a never)

  pub never_join : (a : HType) → join tree never a ≡ a
  never_join a = ordered.equal (join tree never a) a (bounded.least never a a (ordered.lowest a) (ordered.same a)) (bounded.right never a)

  pub join_assoc : (a b c : HType) → join tree (join tree a b) c ≡ join tree a (join tree b c)
  join_assoc a b c =
      ordered.equal (join tree (join tree a b) c) (join tree a (join tree b c))
      (bounded.least (join tree a b) c (join tree a (join tree b c))
      (bounded.rises a b a (join tree b c) (ordered.same a) (bounded.left b c))
      (ordered.onward c (join tree b c) (join tree a (join tree b c)) (bounded.right b c) (bounded.right a (join tree b c))))
      (bounded.least a (join tree b c) (join tree (join tree a b) c)
      (ordered.onward a (join tree a b) (join tree (join tree a b) c) (bounded.left a b) (bounded.left (join tree a b) c))
      (bounded.rises b c (join tree a b) c (bounded.right a b) (ordered.same c)))

  pub join_swap : (a b : HType) → join tree a b ≡ join tree b a
  join_swap a b =
      ordered.equal (join tree a b) (join tree b a) (bounded.least a b (join tree b a) (bounded.right b a) (bounded.left b a)) (bounded.least b a (join tree a b) (bounded.right a b) (bounded.left a b))

  pub joins_both : (xs ys : List HType) → joins tree (xs ++ ys) ≡ join tree (joins tree xs) (joins tree ys)
  joins_both [] ys = sym (never_join (joins tree ys))
  joins_both (x ∷ xs) ys = ap (join tree x) (joins_both xs ys) ∙ sym (join_assoc x (joins tree xs) (joins tree ys))

module _ {A : Type 0} where
  pub drop_at : (xs : List A) (i : ℕ) (x : A) → slice_get xs i ≡ Some x → drop i xs ≡ x ∷ drop (i + 1) xs
  drop_at [] i x e = absurd (cc)
  drop_at (y ∷ xs) zero x e = let m : y ≡ x = cc in ap (λ (z : A). z ∷ xs) m
  drop_at (y ∷ xs) (suc i) x e = let s : suc (i + 1) ≡ suc i + 1 = omega arith in drop_at xs i x e ∙ ap (λ (k : ℕ). x ∷ drop k (y ∷ xs)) s

module _ (r : Linked) (sound : Sound r) (props : List HType) (part : ObjPart) (names : Names) where
  pub gathered_start : gathered r props part names never (borne r names) ≡ joins (tree_of r) (map (fact props) (given r part names))
  gathered_start =
      never_join (tree_of r) sound.forest (joins (tree_of r) (map (fact props) (filter (is_reached r part names) (borne r names))))
      ∙ ap (λ qs. joins (tree_of r) (map (fact props) qs)) (properties_reached r sound part names)

  pub gathered_end : (all : HType) → gathered r props part names all [] ≡ all
  gathered_end all = join_never (tree_of r) sound.forest all

module _ (r : Linked) (forest : Forest (tree_of r)) (props : List HType) (part : ObjPart) (names : Names) (all : HType) (q : ℕ) (rest : List ℕ) where
  abbrev if_reached : Bool → HType
  if_reached b = join (tree_of r) all (joins (tree_of r) (map (fact props) (cond b (q ∷ filter (is_reached r part names) rest) (filter (is_reached r part names) rest))))

  pub gathered_not : is_reached r part names q ≡ false → gathered r props part names all rest ≡ gathered r props part names all (q ∷ rest)
  gathered_not e = ap if_reached (sym e)

  pub gathered_one : is_reached r part names q ≡ true → gathered r props part names (join (tree_of r) all (fact props q)) rest ≡ gathered r props part names all (q ∷ rest)
  gathered_one e = join_assoc (tree_of r) forest all (fact props q) (joins (tree_of r) (map (fact props) (filter (is_reached r part names) rest))) ∙ ap if_reached (sym e)
