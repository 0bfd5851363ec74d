-- Types that tokens of a text spell are within their ranges, and number their classes as they come.
use Rattle.std.proofs.Common.{◌≡◌, ◌≤◌, ℕ, lit≤, zero, suc, ◌+◌, ◌-◌, Bool, true, false, ◌&&◌, ◌==◌, nat_le, List, [], ◌∷◌, ◌++◌, map, length, drop, replicate, Option, None, refl, sym, ap, ap₂, subst, ◌∙◌, arith, append_assoc, length-append, if◌then◌else◌, codes}
use Rattle.std.specs.List.{list_all, flat_map}
use Rattle.std.specs.Str.{bytes_eq}
use Rattle.std.proofs.lemmas.Bool.{and_from, and_parts, eq-eqb, le-leb, leb-true}
use Rattle.std.proofs.lemmas.List.{append-nil, length-replicate}
use Rattle.std.proofs.lemmas.Slice.Eq.{bytes_eq-Decides}
use Rattle.std.proofs.Math.Seq.{drop-append_seam}
use Rattle.hhas_lex.specs.Tokens.{Token, Mark, Word}
use Rattle.hhas_lex.specs.Shape.{is_int64}
use Rattle.hhas_lex.specs.Spelling.{is_byte, is_proper, is_string, is_word}
use Rattle.hhas_lex.proofs.Fronts.{split}
use Rattle.type_lattice.specs.declared.types.StrPart.{StrPart}
use Rattle.type_lattice.specs.declared.types.StrPart.TheVariants as strs
use Rattle.type_lattice.specs.declared.types.ObjPart.{ObjPart}
use Rattle.type_lattice.specs.declared.types.ObjPart.TheVariants as objs
use Rattle.type_lattice.specs.declared.types.Leaf.{Leaf}
use Rattle.type_lattice.specs.declared.types.HType.{HType}
use Rattle.type_lattice.specs.Types.{never, never_leaf, str_part}
use Rattle.type_lattice.specs.Never.{is_never}
use Rattle.type_lattice.proofs.NeverLaws.{never_is_never}
use Rattle.type_lattice.specs.InRange.{short_in_range, int_in_range, str_in_range, leaf_in_range, has_keys_alone, key_in_range, type_in_range, obj_classes, vec_classes, dict_classes, classes_of}
use Rattle.type_lattice.specs.Keep.{is_constraint}
use Rattle.type_lattice.proofs.Constraints.{WholeKinds, parts_constraint}
use Rattle.type_lattice.proofs.Ranges.{RangeParts, parts_range}
use Rattle.hhbc_repo.specs.Bodies.{numbers}
use Rattle.hhbc_repo.specs.Languages.{Lang, Behind, Ended, Both, Separated}
use Rattle.hhbc_repo.specs.TypeSyntax.{Atom, Null, False, True, Bools, Int, OneInt, Str, OneStr, Obj, Exact, Sub, Vec, Dict, Keyset, AnAtom, line, Ascend, is_key_atom, is_broad, Written, Never, Cell, Of, ALeaf, AKeyType, TypeAtom, Uninit, Plain, VecOf, DictOf, KeysetOf, ATypeAtom, type_line, WrittenType, NeverType, CellType, UninitCell, AtomsType, AWrittenType, AWrittenConstraint, atom_classes, classes_in, type_classes, leaf_with, leaf_from, leaf_of, type_plain, type_with, type_from, type_of, constraint_of, AType, AConstraint}
use Rattle.hhbc_repo.specs.TypeFits.{type_fits, constraint_fits}
use Rattle.hhbc_repo.proofs.Numbering.{numbers_on}

-- ---- proper tokens

abbrev pub AreProper : List Token → Type 0
AreProper ts = list_all is_proper ts ≡ true

pub all_front : {A : Type 0} (test : A → Bool) (xs ys : List A) → list_all test (xs ++ ys) ≡ true → list_all test xs ≡ true
all_front test [] ys h = refl
all_front test (x ∷ xs) ys h =
    let p = and_parts (test x) (list_all test (xs ++ ys)) h in
    and_from (test x) (list_all test xs) p.0 (all_front test xs ys p.1)

pub all_back : {A : Type 0} (test : A → Bool) (xs ys : List A) → list_all test (xs ++ ys) ≡ true → list_all test ys ≡ true
all_back test [] ys h = h
all_back test (x ∷ xs) ys h = all_back test xs ys (and_parts (test x) (list_all test (xs ++ ys)) h).1

pub all_both : {A : Type 0} (test : A → Bool) (xs ys : List A) → list_all test xs ≡ true → list_all test ys ≡ true → list_all test (xs ++ ys) ≡ true
all_both test [] ys h k = k
all_both test (x ∷ xs) ys h k =
    let p = and_parts (test x) (list_all test xs) h in
    and_from (test x) (list_all test (xs ++ ys)) p.0 (all_both test xs ys p.1 k)

-- what a language spells of proper tokens passes a test
pub record Passes {V : Type 0} (A : Lang V) (test : V → Bool) : Type 0 where
  pub passes : (ts : List Token) (v : V) → A ts v → AreProper ts → test v ≡ true

pub behind_passes : {V : Type 0} (words : List Token) (A : Lang V) (test : V → Bool) → Passes A test → Passes (Behind words A) test
behind_passes words A test h = record { passes = λ ts v k p. h.passes k.rest v k.word (all_back is_proper words k.rest (subst AreProper k.tokens p)) }

pub ended_passes : {V : Type 0} (words : List Token) (A : Lang V) (test : V → Bool) → Passes A test → Passes (Ended A words) test
ended_passes words A test h = record { passes = λ ts v k p. h.passes k.first v k.word (all_front is_proper k.first words (subst AreProper k.tokens p)) }

pub both_passes : {V W : Type 0} (A : Lang V) (B : Lang W) (s : V → Bool) (t : W → Bool) → Passes A s → Passes B t → Passes (Both A B) (λ p. s p.0 && t p.1)
both_passes A B s t h k = record {
  passes = λ ts v w p. let q = subst AreProper w.tokens p in
      and_from (s v.0) (t v.1) (h.passes w.first v.0 w.left (all_front is_proper w.first w.second q)) (k.passes w.second v.1 w.right (all_back is_proper w.first w.second q));
}

separated_all : {V : Type 0} (mark : ℕ) (A : Lang V) (test : V → Bool) → Passes A test → (ts : List Token) (vs : List V) → Separated mark A ts vs → AreProper ts → list_all test vs ≡ true
separated_all mark A test h ts [] w p = absurd w
separated_all mark A test h ts (v ∷ []) w p = and_from (test v) true (h.passes ts v w p) refl
separated_all mark A test h ts (v ∷ u ∷ vs) w p =
    let q = subst AreProper w.4 p in
    let r = all_back is_proper w.0 _ q in
    and_from (test v) (list_all test (u ∷ vs)) (h.passes w.0 v w.2 (all_front is_proper w.0 _ q))
    (separated_all mark A test h w.1 (u ∷ vs) w.3 (all_back is_proper (Mark mark ∷ []) w.1 r))

pub separated_passes : {V : Type 0} (mark : ℕ) (A : Lang V) (test : V → Bool) → Passes A test → Passes (Separated mark A) (list_all test)
separated_passes mark A test h = record { passes = separated_all mark A test h }

-- ---- atoms

abbrev atom_in_range : Atom → Bool
atom_in_range (OneInt i) = is_int64 i
atom_in_range (OneStr s) = list_all is_byte s && nat_le (length s) 32
atom_in_range (Exact c) = is_word c
atom_in_range (Sub c) = is_word c
atom_in_range _ = true

atom_passes : (ts : List Token) (a : Atom) → AnAtom ts a → AreProper ts → atom_in_range a ≡ true
atom_passes ts (OneInt i) w p = (and_parts (is_int64 i) true (subst AreProper w.0 p)).0
atom_passes ts (OneStr s) w p =
    let q = (and_parts (is_string s) true (subst AreProper w.0 p)).0 in
    let b = (and_parts (list_all is_byte s) (nat_le (length s) 1048576) q).0 in
    and_from (list_all is_byte s) (nat_le (length s) 32) b (le-leb (length s) 32 w.1)
atom_passes ts (Exact c) w p = (and_parts (is_word c) true (subst AreProper w.0 p)).0
atom_passes ts (Sub c) w p = (and_parts (is_word c) true (subst AreProper w.0 p)).0
atom_passes ts Null w p = refl
atom_passes ts False w p = refl
atom_passes ts True w p = refl
atom_passes ts Bools w p = refl
atom_passes ts Int w p = refl
atom_passes ts Str w p = refl
atom_passes ts Obj w p = refl
atom_passes ts Vec w p = refl
atom_passes ts Dict w p = refl
atom_passes ts Keyset w p = refl

an_atom : Passes AnAtom atom_in_range
an_atom = record { passes = atom_passes }

-- the class that an atom names is a word
atom_words : (a : Atom) → atom_in_range a ≡ true → list_all is_word (atom_classes a) ≡ true
atom_words (Exact c) h = and_from (is_word c) true h refl
atom_words (Sub c) h = and_from (is_word c) true h refl
atom_words Null h = refl
atom_words False h = refl
atom_words True h = refl
atom_words Bools h = refl
atom_words Int h = refl
atom_words (OneInt i) h = refl
atom_words Str h = refl
atom_words (OneStr s) h = refl
atom_words Obj h = refl
atom_words Vec h = refl
atom_words Dict h = refl
atom_words Keyset h = refl

atoms_words : (xs : List Atom) → list_all atom_in_range xs ≡ true → list_all is_word (flat_map atom_classes xs) ≡ true
atoms_words [] h = refl
atoms_words (a ∷ xs) h =
    let p = and_parts (atom_in_range a) (list_all atom_in_range xs) h in
    all_both is_word (atom_classes a) (flat_map atom_classes xs) (atom_words a p.0) (atoms_words xs p.1)

-- ---- strings of types

zeros_bytes : (n : ℕ) → list_all is_byte (replicate n 0) ≡ true
zeros_bytes zero = refl
zeros_bytes (suc n) = zeros_bytes n

short_passes : (s : List ℕ) → list_all is_byte s ≡ true → nat_le (length s) 32 ≡ true → short_in_range (record { len = length s; bytes = s ++ replicate (32 - length s) 0 }) ≡ true
short_passes s b h =
    let zeros : List ℕ = replicate (32 - length s) 0 in
    let l = length-append s zeros in
    let r = length-replicate {A = ℕ} (32 - length s) 0 in
    let k = leb-true (length s) 32 h in
    and_from (nat_le (length s) 32) ((length (s ++ zeros) == 32) && (list_all is_byte (s ++ zeros) && bytes_eq (drop (length s) (s ++ zeros)) zeros)) h
    (and_from (length (s ++ zeros) == 32) (list_all is_byte (s ++ zeros) && bytes_eq (drop (length s) (s ++ zeros)) zeros) (eq-eqb (length (s ++ zeros)) 32 (omega (arith, l, r, k)))
    (and_from (list_all is_byte (s ++ zeros)) (bytes_eq (drop (length s) (s ++ zeros)) zeros) (all_both is_byte s zeros b (zeros_bytes (32 - length s)))
    (subst (λ (l : List ℕ). bytes_eq l zeros ≡ true) (sym (drop-append_seam s zeros)) ((bytes_eq-Decides zeros zeros).1 refl))))

str_passes : (s : List ℕ) → list_all is_byte s && nat_le (length s) 32 ≡ true → str_in_range (str_part s) ≡ true
str_passes s h =
    let p = and_parts (list_all is_byte s) (nat_le (length s) 32) h in
    let whole : StrPart = strs.One (record { len = length s; bytes = s ++ replicate (32 - length s) 0 }) in
    ap (λ (b : Bool). str_in_range (if b then whole else strs.Any)) p.1 ∙ short_passes s p.0 p.1

-- ---- leaves

leaf_step : (n : ℕ) (a : Atom) (l : Leaf) → atom_in_range a ≡ true → leaf_in_range l ≡ true → leaf_in_range (leaf_with n a l) ≡ true
leaf_step n Int l h k = (and_parts (int_in_range l.int) (str_in_range l.str) k).1
leaf_step n (OneInt i) l h k = and_from (is_int64 i) (str_in_range l.str) h (and_parts (int_in_range l.int) (str_in_range l.str) k).1
leaf_step n Str l h k = and_from (int_in_range l.int) true (and_parts (int_in_range l.int) (str_in_range l.str) k).0 refl
leaf_step n (OneStr s) l h k = and_from (int_in_range l.int) (str_in_range (str_part s)) (and_parts (int_in_range l.int) (str_in_range l.str) k).0 (str_passes s h)
leaf_step n Null l h k = k
leaf_step n False l h k = k
leaf_step n True l h k = k
leaf_step n Bools l h k = k
leaf_step n Obj l h k = k
leaf_step n (Exact c) l h k = k
leaf_step n (Sub c) l h k = k
leaf_step n Vec l h k = k
leaf_step n Dict l h k = k
leaf_step n Keyset l h k = k

leaf_range : (n : ℕ) (xs : List Atom) (l : Leaf) → list_all atom_in_range xs ≡ true → leaf_in_range l ≡ true → leaf_in_range (leaf_from n xs l) ≡ true
leaf_range n [] l h k = k
leaf_range n (a ∷ xs) l h k =
    let p = and_parts (atom_in_range a) (list_all atom_in_range xs) h in
    leaf_range (n + length (atom_classes a)) xs (leaf_with n a l) p.1 (leaf_step n a l p.0 k)

-- an atom of a key changes no part but ints and strings
key_step : (n : ℕ) (a : Atom) (l : Leaf) → is_key_atom a ≡ true → has_keys_alone (leaf_with n a l) ≡ has_keys_alone l
key_step n Int l h = refl
key_step n (OneInt i) l h = refl
key_step n Str l h = refl
key_step n (OneStr s) l h = refl
key_step n Null l h = absurd (cc)
key_step n False l h = absurd (cc)
key_step n True l h = absurd (cc)
key_step n Bools l h = absurd (cc)
key_step n Obj l h = absurd (cc)
key_step n (Exact c) l h = absurd (cc)
key_step n (Sub c) l h = absurd (cc)
key_step n Vec l h = absurd (cc)
key_step n Dict l h = absurd (cc)
key_step n Keyset l h = absurd (cc)

key_others : (n : ℕ) (xs : List Atom) (l : Leaf) → list_all is_key_atom xs ≡ true → has_keys_alone (leaf_from n xs l) ≡ has_keys_alone l
key_others n [] l h = refl
key_others n (a ∷ xs) l h =
    let p = and_parts (is_key_atom a) (list_all is_key_atom xs) h in
    key_others (n + length (atom_classes a)) xs (leaf_with n a l) p.1 ∙ key_step n a l p.0

key_classless : (a : Atom) → is_key_atom a ≡ true → atom_classes a ≡ []
key_classless Int h = refl
key_classless (OneInt i) h = refl
key_classless Str h = refl
key_classless (OneStr s) h = refl
key_classless Null h = refl
key_classless False h = refl
key_classless True h = refl
key_classless Bools h = refl
key_classless Obj h = refl
key_classless (Exact c) h = absurd (cc)
key_classless (Sub c) h = absurd (cc)
key_classless Vec h = refl
key_classless Dict h = refl
key_classless Keyset h = refl

keys_classless : (xs : List Atom) → list_all is_key_atom xs ≡ true → flat_map atom_classes xs ≡ []
keys_classless [] h = refl
keys_classless (a ∷ xs) h =
    let p = and_parts (is_key_atom a) (list_all is_key_atom xs) h in
    ap (λ l. l ++ flat_map atom_classes xs) (key_classless a p.0) ∙ keys_classless xs p.1

-- ---- the classes of leaves, as they come

numbers_joined : (n : ℕ) (before now more : List ℕ) (xs ys : List (List ℕ)) → now ≡ before ++ numbers n (length xs) → more ≡ now ++ numbers (n + length xs) (length ys)
    → more ≡ before ++ numbers n (length (xs ++ ys))
numbers_joined n before now more xs ys h k =
    k ∙ ap (λ l. l ++ numbers (n + length xs) (length ys)) h ∙ append_assoc before (numbers n (length xs)) (numbers (n + length xs) (length ys))
    ∙ ap (λ l. before ++ l) (numbers_on n (length xs) (length ys) ∙ ap (numbers n) (sym (length-append xs ys)))

-- no class stands in a leaf as long as its line is still to come
leaf_classes_step : (n : ℕ) (a : Atom) (l : Leaf) → (line a ≤ 5 → l.obj ≡ objs.No) → obj_classes (leaf_with n a l).obj ≡ obj_classes l.obj ++ numbers n (length (atom_classes a))
leaf_classes_step n Obj l h = let e = h (lit≤ tt) in rw e refl
leaf_classes_step n (Exact c) l h = let e = h (lit≤ tt) in rw e refl
leaf_classes_step n (Sub c) l h = let e = h (lit≤ tt) in rw e refl
leaf_classes_step n Null l h = sym (append-nil (obj_classes l.obj))
leaf_classes_step n False l h = sym (append-nil (obj_classes l.obj))
leaf_classes_step n True l h = sym (append-nil (obj_classes l.obj))
leaf_classes_step n Bools l h = sym (append-nil (obj_classes l.obj))
leaf_classes_step n Int l h = sym (append-nil (obj_classes l.obj))
leaf_classes_step n (OneInt i) l h = sym (append-nil (obj_classes l.obj))
leaf_classes_step n Str l h = sym (append-nil (obj_classes l.obj))
leaf_classes_step n (OneStr s) l h = sym (append-nil (obj_classes l.obj))
leaf_classes_step n Vec l h = sym (append-nil (obj_classes l.obj))
leaf_classes_step n Dict l h = sym (append-nil (obj_classes l.obj))
leaf_classes_step n Keyset l h = sym (append-nil (obj_classes l.obj))

leaf_blank : (n : ℕ) (a : Atom) (l : Leaf) → (line a ≤ 5 → l.obj ≡ objs.No) → suc (line a) ≤ 5 → (leaf_with n a l).obj ≡ objs.No
leaf_blank n Obj l h k = absurd (omega (arith, k))
leaf_blank n (Exact c) l h k = absurd (omega (arith, k))
leaf_blank n (Sub c) l h k = absurd (omega (arith, k))
leaf_blank n Null l h k = h (lit≤ tt)
leaf_blank n False l h k = h (lit≤ tt)
leaf_blank n True l h k = h (lit≤ tt)
leaf_blank n Bools l h k = h (lit≤ tt)
leaf_blank n Int l h k = h (lit≤ tt)
leaf_blank n (OneInt i) l h k = h (lit≤ tt)
leaf_blank n Str l h k = h (lit≤ tt)
leaf_blank n (OneStr s) l h k = h (lit≤ tt)
leaf_blank n Vec l h k = absurd (omega (arith, k))
leaf_blank n Dict l h k = absurd (omega (arith, k))
leaf_blank n Keyset l h k = absurd (omega (arith, k))

leaf_classes : (least n : ℕ) (xs : List Atom) (l : Leaf) → Ascend least (map line xs) → (least ≤ 5 → l.obj ≡ objs.No)
    → obj_classes (leaf_from n xs l).obj ≡ obj_classes l.obj ++ numbers n (length (flat_map atom_classes xs))
leaf_classes least n [] l h k = sym (append-nil (obj_classes l.obj))
leaf_classes least n (a ∷ xs) l h k =
    let still : line a ≤ 5 → l.obj ≡ objs.No = λ le. k (omega (arith, le, h.0)) in
    numbers_joined n (obj_classes l.obj) (obj_classes (leaf_with n a l).obj) (obj_classes (leaf_from (n + length (atom_classes a)) xs (leaf_with n a l)).obj) (atom_classes a) (flat_map atom_classes xs)
    (leaf_classes_step n a l still)
    (leaf_classes (suc (line a)) (n + length (atom_classes a)) xs (leaf_with n a l) h.1 (leaf_blank n a l still))

-- ---- leaves and keys as they are written

pub record LeafFits (n : ℕ) (w : Written) : Type 0 where
  pub range : leaf_in_range (leaf_of n w) ≡ true
  pub classes : obj_classes (leaf_of n w).obj ≡ numbers n (length (classes_in w))
  pub words : list_all is_word (classes_in w) ≡ true

leaf_passes : (n : ℕ) (ts : List Token) (w : Written) → ALeaf ts w → AreProper ts → LeafFits n w
leaf_passes n ts Never h p = record { range = refl; classes = refl; words = refl }
leaf_passes n ts Cell h p = record { range = refl; classes = refl; words = refl }
leaf_passes n ts (Of xs) h p =
    let each = (separated_passes 124 AnAtom atom_in_range an_atom).passes ts xs h.0 p in
    record {
      range = leaf_range n xs never_leaf each refl;
      classes = leaf_classes 0 n xs never_leaf h.1 (λ le. refl);
      words = atoms_words xs each;
    }

pub record KeyFits (n : ℕ) (w : Written) : Type 0 where
  pub range : key_in_range (leaf_of n w) ≡ true
  pub classes : classes_in w ≡ []

key_passes : (n : ℕ) (ts : List Token) (w : Written) → AKeyType ts w → AreProper ts → KeyFits n w
key_passes n ts Never h p = record { range = refl; classes = refl }
key_passes n ts Cell h p = absurd h
key_passes n ts (Of xs) h p =
    let each = (separated_passes 124 AnAtom atom_in_range an_atom).passes ts xs h.0.0 p in
    let l = leaf_from n xs never_leaf in
    record {
      range = and_from (leaf_in_range l) (has_keys_alone l) (leaf_range n xs never_leaf each refl) (key_others n xs never_leaf h.1);
      classes = keys_classless xs h.1;
    }

-- ---- types with an atom more

plain_range : (n : ℕ) (a : Atom) (t : HType) → atom_in_range a ≡ true → RangeParts t → RangeParts (type_plain n a t)
plain_range n Null t h r = record { int = r.int; str = r.str; vec = r.vec; dict = r.dict; keyset = r.keyset }
plain_range n False t h r = record { int = r.int; str = r.str; vec = r.vec; dict = r.dict; keyset = r.keyset }
plain_range n True t h r = record { int = r.int; str = r.str; vec = r.vec; dict = r.dict; keyset = r.keyset }
plain_range n Bools t h r = record { int = r.int; str = r.str; vec = r.vec; dict = r.dict; keyset = r.keyset }
plain_range n Int t h r = record { int = refl; str = r.str; vec = r.vec; dict = r.dict; keyset = r.keyset }
plain_range n (OneInt i) t h r = record { int = h; str = r.str; vec = r.vec; dict = r.dict; keyset = r.keyset }
plain_range n Str t h r = record { int = r.int; str = refl; vec = r.vec; dict = r.dict; keyset = r.keyset }
plain_range n (OneStr s) t h r = record { int = r.int; str = str_passes s h; vec = r.vec; dict = r.dict; keyset = r.keyset }
plain_range n Obj t h r = record { int = r.int; str = r.str; vec = r.vec; dict = r.dict; keyset = r.keyset }
plain_range n (Exact c) t h r = record { int = r.int; str = r.str; vec = r.vec; dict = r.dict; keyset = r.keyset }
plain_range n (Sub c) t h r = record { int = r.int; str = r.str; vec = r.vec; dict = r.dict; keyset = r.keyset }
plain_range n Vec t h r = record { int = r.int; str = r.str; vec = refl; dict = r.dict; keyset = r.keyset }
plain_range n Dict t h r = record { int = r.int; str = r.str; vec = r.vec; dict = refl; keyset = r.keyset }
plain_range n Keyset t h r = record { int = r.int; str = r.str; vec = r.vec; dict = r.dict; keyset = refl }

-- the parts whose lines are still to come aren't there
record Blank (least : ℕ) (t : HType) : Type 0 where
  obj : least ≤ 5 → t.obj ≡ objs.No
  vec : least ≤ 6 → t.vec ≡ None
  dict : least ≤ 7 → t.dict ≡ None

blank_later : (least m : ℕ) (t : HType) → least ≤ m → Blank least t → Blank m t
blank_later least m t h b = record {
  obj = λ k. b.obj (omega (arith, h, k));
  vec = λ k. b.vec (omega (arith, h, k));
  dict = λ k. b.dict (omega (arith, h, k));
}

rest_blank : (t : HType) → t.vec ≡ None → t.dict ≡ None → vec_classes t.vec ++ dict_classes t.dict ≡ []
rest_blank t v d = ap₂ (λ (x : Option Leaf) (y : Option (Leaf × Leaf)). vec_classes x ++ dict_classes y) v d

one_class : (n : ℕ) (t : HType) → Blank 5 t → n ∷ (vec_classes t.vec ++ dict_classes t.dict) ≡ classes_of t ++ n ∷ []
one_class n t b =
    let rest = rest_blank t (b.vec (lit≤ tt)) (b.dict (lit≤ tt)) in
    let none : classes_of t ≡ [] = ap₂ (λ (o : ObjPart) (r : List ℕ). obj_classes o ++ r) (b.obj (lit≤ tt)) rest in
    ap (λ l. n ∷ l) rest ∙ sym (ap (λ l. l ++ n ∷ []) none)

plain_classes : (n : ℕ) (a : Atom) (t : HType) → Blank (line a) t → classes_of (type_plain n a t) ≡ classes_of t ++ numbers n (length (atom_classes a))
plain_classes n Obj t b = ap (λ (o : ObjPart). obj_classes o ++ (vec_classes t.vec ++ dict_classes t.dict)) (sym (b.obj (lit≤ tt))) ∙ sym (append-nil (classes_of t))
plain_classes n (Exact c) t b = one_class n t b
plain_classes n (Sub c) t b = one_class n t b
plain_classes n Vec t b = ap (λ (v : Option Leaf). obj_classes t.obj ++ (vec_classes v ++ dict_classes t.dict)) (sym (b.vec (lit≤ tt))) ∙ sym (append-nil (classes_of t))
plain_classes n Dict t b = ap (λ (d : Option (Leaf × Leaf)). obj_classes t.obj ++ (vec_classes t.vec ++ dict_classes d)) (sym (b.dict (lit≤ tt))) ∙ sym (append-nil (classes_of t))
plain_classes n Null t b = sym (append-nil (classes_of t))
plain_classes n False t b = sym (append-nil (classes_of t))
plain_classes n True t b = sym (append-nil (classes_of t))
plain_classes n Bools t b = sym (append-nil (classes_of t))
plain_classes n Int t b = sym (append-nil (classes_of t))
plain_classes n (OneInt i) t b = sym (append-nil (classes_of t))
plain_classes n Str t b = sym (append-nil (classes_of t))
plain_classes n (OneStr s) t b = sym (append-nil (classes_of t))
plain_classes n Keyset t b = sym (append-nil (classes_of t))

-- the parts behind an atom are as they were
kept_blank : (m : ℕ) (t u : HType) → m ≤ 4 → Blank m t → u.obj ≡ t.obj → u.vec ≡ t.vec → u.dict ≡ t.dict → Blank (suc m) u
kept_blank m t u h b o v d = record {
  obj = λ k. o ∙ b.obj (omega (arith, h));
  vec = λ k. v ∙ b.vec (omega (arith, h));
  dict = λ k. d ∙ b.dict (omega (arith, h));
}

obj_blank : (t u : HType) → Blank 5 t → u.vec ≡ t.vec → u.dict ≡ t.dict → Blank 6 u
obj_blank t u b v d = record { obj = λ k. absurd (omega (arith, k)); vec = λ k. v ∙ b.vec (lit≤ tt); dict = λ k. d ∙ b.dict (lit≤ tt) }

vec_blank : (t u : HType) → Blank 6 t → u.dict ≡ t.dict → Blank 7 u
vec_blank t u b d = record { obj = λ k. absurd (omega (arith, k)); vec = λ k. absurd (omega (arith, k)); dict = λ k. d ∙ b.dict (lit≤ tt) }

late_blank : (m : ℕ) (u : HType) → 8 ≤ m → Blank m u
late_blank m u h = record { obj = λ k. absurd (omega (arith, k, h)); vec = λ k. absurd (omega (arith, k, h)); dict = λ k. absurd (omega (arith, k, h)) }

plain_blank : (n : ℕ) (a : Atom) (t : HType) → Blank (line a) t → Blank (suc (line a)) (type_plain n a t)
plain_blank n Null t b = kept_blank 1 t (type_plain n Null t) (lit≤ tt) b refl refl refl
plain_blank n False t b = kept_blank 2 t (type_plain n False t) (lit≤ tt) b refl refl refl
plain_blank n True t b = kept_blank 2 t (type_plain n True t) (lit≤ tt) b refl refl refl
plain_blank n Bools t b = kept_blank 2 t (type_plain n Bools t) (lit≤ tt) b refl refl refl
plain_blank n Int t b = kept_blank 3 t (type_plain n Int t) (lit≤ tt) b refl refl refl
plain_blank n (OneInt i) t b = kept_blank 3 t (type_plain n (OneInt i) t) (lit≤ tt) b refl refl refl
plain_blank n Str t b = kept_blank 4 t (type_plain n Str t) (lit≤ tt) b refl refl refl
plain_blank n (OneStr s) t b = kept_blank 4 t (type_plain n (OneStr s) t) (lit≤ tt) b refl refl refl
plain_blank n Obj t b = obj_blank t (type_plain n Obj t) b refl refl
plain_blank n (Exact c) t b = obj_blank t (type_plain n (Exact c) t) b refl refl
plain_blank n (Sub c) t b = obj_blank t (type_plain n (Sub c) t) b refl refl
plain_blank n Vec t b = vec_blank t (type_plain n Vec t) b refl
plain_blank n Dict t b = late_blank 8 (type_plain n Dict t) (lit≤ tt)
plain_blank n Keyset t b = late_blank 9 (type_plain n Keyset t) (lit≤ tt)

-- what an atom of a type keeps
record AtomFits (x : TypeAtom) : Type 0 where
  range : (n : ℕ) (t : HType) → RangeParts t → RangeParts (type_with n x t)
  classes : (n : ℕ) (t : HType) → Blank (type_line x) t → classes_of (type_with n x t) ≡ classes_of t ++ numbers n (length (type_classes x))
  blank : (n : ℕ) (t : HType) → Blank (type_line x) t → Blank (suc (type_line x)) (type_with n x t)
  words : list_all is_word (type_classes x) ≡ true

plain_fits : (a : Atom) → atom_in_range a ≡ true → AtomFits (Plain a)
plain_fits a h = record {
  range = λ n t r. plain_range n a t h r;
  classes = λ n t b. plain_classes n a t b;
  blank = λ n t b. plain_blank n a t b;
  words = atom_words a h;
}

vec_fits : (leaf : Written) → ((n : ℕ) → LeafFits n leaf) → AtomFits (VecOf leaf)
vec_fits leaf f = record {
  range = λ n t r. record { int = r.int; str = r.str; vec = (f n).range; dict = r.dict; keyset = r.keyset };
  classes = λ n t b.
      let first = obj_classes t.obj in
      let new = numbers n (length (classes_in leaf)) in
      let v = b.vec (lit≤ tt) in
      let d = b.dict (lit≤ tt) in
      ap₂ (λ (x : List ℕ) (y : Option (Leaf × Leaf)). first ++ (x ++ dict_classes y)) (f n).classes d ∙ ap (λ l. first ++ l) (append-nil new)
      ∙ sym (ap₂ (λ (x : Option Leaf) (y : Option (Leaf × Leaf)). (first ++ (vec_classes x ++ dict_classes y)) ++ new) v d ∙ ap (λ l. l ++ new) (append-nil first));
  blank = λ n t b. vec_blank t (type_with n (VecOf leaf) t) b refl;
  words = (f 0).words;
}

dict_fits : (key leaf : Written) → ((n : ℕ) → KeyFits n key) → ((n : ℕ) → LeafFits n leaf) → AtomFits (DictOf key leaf)
dict_fits key leaf k f = record {
  range = λ n t r. record { int = r.int; str = r.str; vec = r.vec; dict = and_from (key_in_range (leaf_of n key)) (leaf_in_range (leaf_of n leaf)) (k n).range (f n).range; keyset = r.keyset };
  classes = λ n t b.
      let first = obj_classes t.obj in
      let second = vec_classes t.vec in
      let new = numbers n (length (classes_in leaf)) in
      let d = b.dict (lit≤ tt) in
      ap (λ l. first ++ (second ++ l)) (f n).classes
      ∙ sym (ap₂ (λ (y : Option (Leaf × Leaf)) (names : List (List ℕ)). (first ++ (second ++ dict_classes y)) ++ numbers n (length (names ++ classes_in leaf))) d (k n).classes
      ∙ ap (λ l. (first ++ l) ++ new) (append-nil second) ∙ append_assoc first second new);
  blank = λ n t b. late_blank 8 (type_with n (DictOf key leaf) t) (lit≤ tt);
  words = ap (λ (names : List (List ℕ)). list_all is_word (names ++ classes_in leaf)) (k 0).classes ∙ (f 0).words;
}

keyset_fits : (key : Written) → ((n : ℕ) → KeyFits n key) → AtomFits (KeysetOf key)
keyset_fits key k = record {
  range = λ n t r. record { int = r.int; str = r.str; vec = r.vec; dict = r.dict; keyset = (k n).range };
  classes = λ n t b. sym (append-nil (classes_of t)) ∙ ap (λ (names : List (List ℕ)). classes_of t ++ numbers n (length names)) (sym (k n).classes);
  blank = λ n t b. late_blank 9 (type_with n (KeysetOf key) t) (lit≤ tt);
  words = ap (list_all is_word) (k 0).classes;
}

uninit_fits : AtomFits Uninit
uninit_fits = record {
  range = λ n t r. record { int = r.int; str = r.str; vec = r.vec; dict = r.dict; keyset = r.keyset };
  classes = λ n t b. sym (append-nil (classes_of t));
  blank = λ n t b. kept_blank 0 t (type_with n Uninit t) (lit≤ tt) b refl refl refl;
  words = refl;
}

type_atom_fits : (ts : List Token) (x : TypeAtom) → ATypeAtom ts x → AreProper ts → AtomFits x
type_atom_fits ts Uninit h p = uninit_fits
type_atom_fits ts (Plain a) h p = plain_fits a (atom_passes ts a h p)
type_atom_fits ts (VecOf leaf) h p =
    let q = all_front is_proper h.word.first _ (subst AreProper h.word.tokens (all_back is_proper (Word (codes "Vec") ∷ Mark 60 ∷ []) h.rest (subst AreProper h.tokens p))) in
    vec_fits leaf (λ n. leaf_passes n h.word.first leaf h.word.word q)
type_atom_fits ts (DictOf key leaf) h p =
    let q = subst AreProper h.word.tokens (all_back is_proper (Word (codes "Dict") ∷ Mark 60 ∷ []) h.rest (subst AreProper h.tokens p)) in
    let k = all_front is_proper h.word.left.first _ (subst AreProper h.word.left.tokens (all_front is_proper h.word.first h.word.second q)) in
    let l = all_front is_proper h.word.right.first _ (subst AreProper h.word.right.tokens (all_back is_proper h.word.first h.word.second q)) in
    dict_fits key leaf (λ n. key_passes n h.word.left.first key h.word.left.word k) (λ n. leaf_passes n h.word.right.first leaf h.word.right.word l)
type_atom_fits ts (KeysetOf key) h p =
    let q = all_front is_proper h.word.first _ (subst AreProper h.word.tokens (all_back is_proper (Word (codes "Keyset") ∷ Mark 60 ∷ []) h.rest (subst AreProper h.tokens p))) in
    keyset_fits key (λ n. key_passes n h.word.first key h.word.word q)

-- ---- types

abbrev AllFit : List TypeAtom → Type 0
AllFit [] = Unit {0}
AllFit (x ∷ xs) = AtomFits x × AllFit xs

type_atoms_fit : (ts : List Token) (xs : List TypeAtom) → Separated 124 ATypeAtom ts xs → AreProper ts → AllFit xs
type_atoms_fit ts [] w p = absurd w
type_atoms_fit ts (x ∷ []) w p = (type_atom_fits ts x w p, tt)
type_atoms_fit ts (x ∷ y ∷ xs) w p =
    let q = subst AreProper w.4 p in
    let r = all_back is_proper w.0 _ q in
    (type_atom_fits w.0 x w.2 (all_front is_proper w.0 _ q), type_atoms_fit w.1 (y ∷ xs) w.3 (all_back is_proper (Mark 124 ∷ []) w.1 r))

from_in_range : (n : ℕ) (xs : List TypeAtom) (t : HType) → AllFit xs → RangeParts t → RangeParts (type_from n xs t)
from_in_range n [] t f r = r
from_in_range n (x ∷ xs) t f r = from_in_range (n + length (type_classes x)) xs (type_with n x t) f.1 (f.0.range n t r)

from_classes : (least n : ℕ) (xs : List TypeAtom) (t : HType) → AllFit xs → Ascend least (map type_line xs) → Blank least t
    → classes_of (type_from n xs t) ≡ classes_of t ++ numbers n (length (flat_map type_classes xs))
from_classes least n [] t f h b = sym (append-nil (classes_of t))
from_classes least n (x ∷ xs) t f h b =
    let here = blank_later least (type_line x) t h.0 b in
    numbers_joined n (classes_of t) (classes_of (type_with n x t)) (classes_of (type_from (n + length (type_classes x)) xs (type_with n x t))) (type_classes x) (flat_map type_classes xs)
    (f.0.classes n t here)
    (from_classes (suc (type_line x)) (n + length (type_classes x)) xs (type_with n x t) f.1 h.1 (f.0.blank n t here))

from_words : (xs : List TypeAtom) → AllFit xs → list_all is_word (flat_map type_classes xs) ≡ true
from_words [] f = refl
from_words (x ∷ xs) f = all_both is_word (type_classes x) (flat_map type_classes xs) f.0.words (from_words xs f.1)

never_in_range : RangeParts never
never_in_range = record { int = refl; str = refl; vec = refl; dict = refl; keyset = refl }

never_blank : Blank 0 never
never_blank = record { obj = λ k. refl; vec = λ k. refl; dict = λ k. refl }

atoms_fit : (xs : List TypeAtom) → AllFit xs → Ascend 0 (map type_line xs) → type_fits (record { t = type_from 0 xs never; classes = flat_map type_classes xs }) ≡ true
atoms_fit xs f h =
    let t = type_from 0 xs never in
    let names = flat_map type_classes xs in
    and_from (type_in_range t) (bytes_eq (classes_of t) (numbers 0 (length names)) && list_all is_word names)
    (parts_range t (from_in_range 0 xs never f never_in_range))
    (and_from (bytes_eq (classes_of t) (numbers 0 (length names))) (list_all is_word names)
    (ap (λ l. bytes_eq l (numbers 0 (length names))) (from_classes 0 0 xs never f h never_blank) ∙ (bytes_eq-Decides (numbers 0 (length names)) (numbers 0 (length names))).1 refl)
    (from_words xs f))

written_fits : (ts : List Token) (w : WrittenType) → AWrittenType ts w → AreProper ts → type_fits (type_of w) ≡ true
written_fits ts NeverType h p = refl
written_fits ts CellType h p = refl
written_fits ts UninitCell h p = refl
written_fits ts (AtomsType xs) h p = atoms_fit xs (type_atoms_fit ts xs h.0 p) h.1

pub a_type : Passes AType type_fits
a_type = record { passes = λ ts t w p. ap type_fits w.is ∙ written_fits ts w.value w.word p }

-- ---- constraints

broad_step : (n : ℕ) (a : Atom) (t : HType) → is_broad a ≡ true → WholeKinds t → WholeKinds (type_plain n a t)
broad_step n Null t h b = record { uninit = b.uninit; bools = b.bools; int = b.int; str = b.str; obj = b.obj; vec = b.vec; dict = b.dict; keyset = b.keyset }
broad_step n Bools t h b = record { uninit = b.uninit; bools = refl; int = b.int; str = b.str; obj = b.obj; vec = b.vec; dict = b.dict; keyset = b.keyset }
broad_step n Int t h b = record { uninit = b.uninit; bools = b.bools; int = refl; str = b.str; obj = b.obj; vec = b.vec; dict = b.dict; keyset = b.keyset }
broad_step n Str t h b = record { uninit = b.uninit; bools = b.bools; int = b.int; str = refl; obj = b.obj; vec = b.vec; dict = b.dict; keyset = b.keyset }
broad_step n Obj t h b = record { uninit = b.uninit; bools = b.bools; int = b.int; str = b.str; obj = refl; vec = b.vec; dict = b.dict; keyset = b.keyset }
broad_step n (Sub c) t h b = record { uninit = b.uninit; bools = b.bools; int = b.int; str = b.str; obj = refl; vec = b.vec; dict = b.dict; keyset = b.keyset }
broad_step n Vec t h b = record { uninit = b.uninit; bools = b.bools; int = b.int; str = b.str; obj = b.obj; vec = refl; dict = b.dict; keyset = b.keyset }
broad_step n Dict t h b = record { uninit = b.uninit; bools = b.bools; int = b.int; str = b.str; obj = b.obj; vec = b.vec; dict = refl; keyset = b.keyset }
broad_step n Keyset t h b = record { uninit = b.uninit; bools = b.bools; int = b.int; str = b.str; obj = b.obj; vec = b.vec; dict = b.dict; keyset = refl }
broad_step n False t h b = absurd (cc)
broad_step n True t h b = absurd (cc)
broad_step n (OneInt i) t h b = absurd (cc)
broad_step n (OneStr s) t h b = absurd (cc)
broad_step n (Exact c) t h b = absurd (cc)

broad_from : (n : ℕ) (xs : List Atom) (t : HType) → list_all is_broad xs ≡ true → WholeKinds t → WholeKinds (type_from n (map Plain xs) t)
broad_from n [] t h b = b
broad_from n (a ∷ xs) t h b =
    let p = and_parts (is_broad a) (list_all is_broad xs) h in
    broad_from (n + length (atom_classes a)) xs (type_plain n a t) p.1 (broad_step n a t p.0 b)

-- an atom is a part
some_part : (n : ℕ) (a : Atom) (t : HType) → is_broad a ≡ true → type_plain n a t ≡ never → ⊥
some_part n Null t h e = let f = ap (λ (u : HType). u.null) e in absurd (cc f)
some_part n Bools t h e = let f = ap (λ (u : HType). u.no) e in absurd (cc f)
some_part n Int t h e = let f = ap (λ (u : HType). u.int) e in absurd (cc f)
some_part n Str t h e = let f = ap (λ (u : HType). u.str) e in absurd (cc f)
some_part n Obj t h e = let f = ap (λ (u : HType). u.obj) e in absurd (cc f)
some_part n (Sub c) t h e = let f = ap (λ (u : HType). u.obj) e in absurd (cc f)
some_part n Vec t h e = let f = ap (λ (u : HType). u.vec) e in absurd (cc f)
some_part n Dict t h e = let f = ap (λ (u : HType). u.dict) e in absurd (cc f)
some_part n Keyset t h e = let f = ap (λ (u : HType). u.keyset) e in absurd (cc f)
some_part n False t h e = absurd (cc)
some_part n True t h e = absurd (cc)
some_part n (OneInt i) t h e = absurd (cc)
some_part n (OneStr s) t h e = absurd (cc)
some_part n (Exact c) t h e = absurd (cc)

not_never : (t : HType) → (t ≡ never → ⊥) → is_never t ≡ false
not_never t h = split (is_never t) (λ e. absurd (h ((never_is_never t).0 e))) (λ e. e)

broad_parts : (n : ℕ) (a : Atom) (xs : List Atom) (t : HType) → list_all is_broad (a ∷ xs) ≡ true → type_from n (map Plain (a ∷ xs)) t ≡ never → ⊥
broad_parts n a [] t h e = some_part n a t (and_parts (is_broad a) true h).0 e
broad_parts n a (b ∷ xs) t h e =
    broad_parts (n + length (atom_classes a)) b xs (type_plain n a t) (and_parts (is_broad a) (list_all is_broad (b ∷ xs)) h).1 e

plain_all : (xs : List Atom) → list_all atom_in_range xs ≡ true → AllFit (map Plain xs)
plain_all [] h = tt
plain_all (a ∷ xs) h =
    let p = and_parts (atom_in_range a) (list_all atom_in_range xs) h in
    (plain_fits a p.0, plain_all xs p.1)

plain_lines : (xs : List Atom) → map type_line (map Plain xs) ≡ map line xs
plain_lines [] = refl
plain_lines (a ∷ xs) = ap (λ l. line a ∷ l) (plain_lines xs)

broad_written : (ts : List Token) (xs : List Atom) → Separated 124 AnAtom ts xs → Ascend 0 (map line xs) → list_all is_broad xs ≡ true → AreProper ts → constraint_fits (constraint_of (Of xs)) ≡ true
broad_written ts [] w h b p = absurd w
broad_written ts (a ∷ xs) w h b p =
    let ys = map Plain (a ∷ xs) in
    let t = type_from 0 ys never in
    let each = plain_all (a ∷ xs) ((separated_passes 124 AnAtom atom_in_range an_atom).passes ts (a ∷ xs) w p) in
    and_from (type_fits (constraint_of (Of (a ∷ xs)))) (is_constraint t)
    (atoms_fit ys each (subst (λ (l : List ℕ). Ascend 0 l) (sym (plain_lines (a ∷ xs))) h))
    (parts_constraint t (broad_from 0 (a ∷ xs) never b never_broad) (not_never t (broad_parts 0 a xs never b)))
  where
    never_broad : WholeKinds never
    never_broad = record { uninit = refl; bools = refl; int = refl; str = refl; obj = refl; vec = refl; dict = refl; keyset = refl }

constraint_written : (ts : List Token) (w : Written) → AWrittenConstraint ts w → AreProper ts → constraint_fits (constraint_of w) ≡ true
constraint_written ts Never h p = absurd h
constraint_written ts Cell h p = refl
constraint_written ts (Of xs) h p = broad_written ts xs h.0.0 h.0.1 h.1 p

pub a_constraint : Passes AConstraint constraint_fits
a_constraint = record { passes = λ ts t w p. ap constraint_fits w.is ∙ constraint_written ts w.value w.word p }
