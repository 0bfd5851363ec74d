-- The written form of a leaf or key that fits stands for it, and its tokens spell it.
use Rattle.std.proofs.Common.{◌≡◌, ℕ, ◌+◌, Bool, true, false, if◌then◌else◌, List, [], ◌∷◌, ◌++◌, map, length, refl, sym, ap, ap₂, ◌∙◌, arith, length-append}
use Rattle.std.specs.List.{list_all, flat_map}
use Rattle.std.proofs.lemmas.Bool.{and_parts}
use Rattle.std.proofs.lemmas.List.{append-nil}
use Rattle.hhas_lex.specs.Spelling.{is_word}
use Rattle.type_lattice.specs.declared.types.IntPart.{IntPart}
use Rattle.type_lattice.specs.declared.types.IntPart.TheVariants as ints
use Rattle.type_lattice.specs.declared.types.StrPart.{StrPart}
use Rattle.type_lattice.specs.declared.types.StrPart.TheVariants as strs
use Rattle.type_lattice.specs.declared.types.ObjPart.{ObjPart}
use Rattle.type_lattice.specs.declared.types.ObjPart.TheVariants as objs
use Rattle.type_lattice.specs.declared.types.Leaf.{Leaf}
use Rattle.type_lattice.specs.Types.{never_leaf, key_leaf}
use Rattle.type_lattice.specs.Whole.{all_ints, all_strs, whole_leaf, whole_key}
use Rattle.type_lattice.specs.InRange.{int_in_range, str_in_range, leaf_in_range, has_keys_alone, key_in_range, obj_classes}
use Rattle.type_lattice.proofs.Constraints.{ints_any, strs_any, leaf_is_cell}
use Rattle.type_lattice.proofs.Ranges.{tested_keys_alone}
use Rattle.hhbc_repo.specs.Bodies.{numbers}
use Rattle.hhbc_repo.specs.CanonicalText.{written_tokens}
use Rattle.hhbc_repo.specs.LinkFaults.{Name}
use Rattle.hhbc_repo.specs.TypeSyntax.{Atom, Null, Vec, Dict, Keyset, AnAtom, atom_tokens, line, is_key_atom, Written, Cell, ALeaf, AKeyType, atom_classes, classes_in, leaf_with, leaf_from, leaf_of}
use Rattle.hhbc_repo.specs.WrittenTypes.{atom, bool_atoms, int_atoms, str_atoms, obj_atoms, kind_atoms, leaf_atoms, written_atoms, written_leaf, written_key}
use Rattle.hhbc_repo.specs.WrittenTypes as written
use Rattle.hhbc_repo.proofs.AtomsSpelled.{Segment, segments, switch_segment, bools_segment, ints_segment, strs_segment, objs_segment, short_fits, atom_fits, atom_spelled, atoms_spelled, atom_inner, separated_spelled, Climbs, climbs_ascend}
use Rattle.hhbc_repo.proofs.InnerTokens.{Inner, AllInner, inner_word, inner_joined}
use Rattle.hhbc_repo.proofs.SpelledTypes.{all_both}

-- ---- keys

-- a leaf of ints and strings alone
abbrev pub of_keys : IntPart → StrPart → Leaf
of_keys p s = record never_leaf { int = p; str = s }

-- what a key in its range is like
pub record KeyParts (k : Leaf) : Type 0 where
  pub int : int_in_range k.int ≡ true
  pub str : str_in_range k.str ≡ true
  pub is : of_keys k.int k.str ≡ k

pub key_parts : (k : Leaf) → key_in_range k ≡ true → KeyParts k
key_parts k h =
    let p = and_parts (leaf_in_range k) (has_keys_alone k) h in
    let r = and_parts (int_in_range k.int) (str_in_range k.str) p.0 in
    let a = tested_keys_alone k p.1 in
    let same : k ≡ of_keys k.int k.str = λ i. record {
      null = a.null i;
      no = a.no i;
      yes = a.yes i;
      int = k.int;
      str = k.str;
      obj = a.obj i;
      vec = a.vec i;
      dict = a.dict i;
      keyset = a.keyset i;
    } in
    record { int = r.0; str = r.1; is = sym same }

pub key_is_whole : (k : Leaf) → key_in_range k ≡ true → whole_key k ≡ true → k ≡ key_leaf
key_is_whole k h w =
    let p = and_parts (all_ints k.int) (all_strs k.str) w in
    sym (key_parts k h).is ∙ ap₂ of_keys (ints_any k.int p.0) (strs_any k.str p.1)

-- ---- a leaf from several lists of atoms

leaf_joined : (n : ℕ) (xs ys : List Atom) (l : Leaf) → leaf_from n (xs ++ ys) l ≡ leaf_from (n + length (flat_map atom_classes xs)) ys (leaf_from n xs l)
leaf_joined n [] ys l =
    let same : n ≡ n + 0 = omega arith in
    ap (λ (m : ℕ). leaf_from m ys l) same
leaf_joined n (a ∷ xs) ys l =
    let here = length (atom_classes a) in
    let more = length (flat_map atom_classes xs) in
    let count = length-append (atom_classes a) (flat_map atom_classes xs) in
    let same : (n + here) + more ≡ n + length (atom_classes a ++ flat_map atom_classes xs) = omega (arith, count) in
    leaf_joined (n + here) xs ys (leaf_with n a l) ∙ ap (λ (m : ℕ). leaf_from m ys (leaf_from (n + here) xs (leaf_with n a l))) same

-- the atoms before have no classes
leaf_after : (n : ℕ) (xs ys : List Atom) (l m r : Leaf) → flat_map atom_classes xs ≡ [] → leaf_from n xs l ≡ m → leaf_from n ys m ≡ r → leaf_from n (xs ++ ys) l ≡ r
leaf_after n xs ys l m r none h k =
    let same : n + 0 ≡ n = omega arith in
    leaf_joined n xs ys l ∙ ap (λ (names : List Name). leaf_from (n + length names) ys (leaf_from n xs l)) none
    ∙ ap₂ (λ (i : ℕ) (u : Leaf). leaf_from i ys u) same h ∙ k

-- those behind have none, so that their number doesn't count
leaf_before : (n : ℕ) (xs ys : List Atom) (l m r : Leaf) → leaf_from n xs l ≡ m → ((k : ℕ) → leaf_from k ys m ≡ r) → leaf_from n (xs ++ ys) l ≡ r
leaf_before n xs ys l m r h k =
    let next = n + length (flat_map atom_classes xs) in
    leaf_joined n xs ys l ∙ ap (λ (u : Leaf). leaf_from next ys u) h ∙ k next

-- ---- the parts of a leaf

leaf_null : (n : ℕ) (b : Bool) (l : Leaf) → l.null ≡ false → leaf_from n (atom b Null) l ≡ record l { null = b }
leaf_null n true l h = refl
leaf_null n false l h = ap (λ (b : Bool). record l { null = b }) h

leaf_bools : (n : ℕ) (no yes : Bool) (l : Leaf) → l.no ≡ false → l.yes ≡ false → leaf_from n (bool_atoms no yes) l ≡ record l { no = no; yes = yes }
leaf_bools n true true l h k = refl
leaf_bools n true false l h k = ap (λ (b : Bool). record l { no = true; yes = b }) k
leaf_bools n false true l h k = ap (λ (b : Bool). record l { no = b; yes = true }) h
leaf_bools n false false l h k = ap₂ (λ (b c : Bool). record l { no = b; yes = c }) h k

leaf_ints : (n : ℕ) (p : IntPart) (l : Leaf) → l.int ≡ ints.No → leaf_from n (int_atoms p) l ≡ record l { int = p }
leaf_ints n ints.No l h = ap (λ (p : IntPart). record l { int = p }) h
leaf_ints n (ints.One i) l h = refl
leaf_ints n ints.Any l h = refl

leaf_strs : (n : ℕ) (p : StrPart) (l : Leaf) → str_in_range p ≡ true → l.str ≡ strs.No → leaf_from n (str_atoms p) l ≡ record l { str = p }
leaf_strs n strs.No l r h = ap (λ (p : StrPart). record l { str = p }) h
leaf_strs n (strs.One s) l r h = ap (λ (p : StrPart). record l { str = p }) (short_fits s r).back
leaf_strs n strs.Any l r h = refl

-- the number of a class whose part is numbered from the number
pub first_number : (c n : ℕ) → c ∷ [] ≡ n ∷ [] → n ≡ c
first_number c n h = cc

leaf_objs : (names : List Name) (n : ℕ) (p : ObjPart) (l : Leaf) → obj_classes p ≡ numbers n (length (obj_classes p)) → l.obj ≡ objs.No
    → leaf_from n (obj_atoms names p) l ≡ record l { obj = p }
leaf_objs names n objs.No l e h = ap (λ (p : ObjPart). record l { obj = p }) h
leaf_objs names n (objs.Exact c) l e h = ap (λ (k : ℕ). record l { obj = objs.Exact k }) (first_number c n e)
leaf_objs names n (objs.Sub c) l e h = ap (λ (k : ℕ). record l { obj = objs.Sub k }) (first_number c n e)
leaf_objs names n objs.Any l e h = refl

leaf_kinds : (n : ℕ) (vec dict keyset : Bool) (l : Leaf) → l.vec ≡ false → l.dict ≡ false → l.keyset ≡ false
    → leaf_from n (atom vec Vec ++ (atom dict Dict ++ atom keyset Keyset)) l ≡ record l { vec = vec; dict = dict; keyset = keyset }
leaf_kinds n true true true l v d k = refl
leaf_kinds n true true false l v d k = λ i. record l { vec = true; dict = true; keyset = k i }
leaf_kinds n true false true l v d k = λ i. record l { vec = true; dict = d i; keyset = true }
leaf_kinds n true false false l v d k = λ i. record l { vec = true; dict = d i; keyset = k i }
leaf_kinds n false true true l v d k = λ i. record l { vec = v i; dict = true; keyset = true }
leaf_kinds n false true false l v d k = λ i. record l { vec = v i; dict = true; keyset = k i }
leaf_kinds n false false true l v d k = λ i. record l { vec = v i; dict = d i; keyset = true }
leaf_kinds n false false false l v d k = λ i. record l { vec = v i; dict = d i; keyset = k i }

-- ---- leaves

-- a leaf of parts that fit, whose class has the number
pub record LeafFits (names : List Name) (n : ℕ) (l : Leaf) : Type 0 where
  pub range : leaf_in_range l ≡ true
  pub numbered : obj_classes l.obj ≡ numbers n (length (obj_classes l.obj))
  pub words : list_all is_word (written.obj_classes names l.obj) ≡ true

leaf_segment : (names : List Name) (n : ℕ) (l : Leaf) → LeafFits names n l → Segment 1 (leaf_atoms names l) 9 (written.obj_classes names l.obj)
leaf_segment names n l f =
    let r = and_parts (int_in_range l.int) (str_in_range l.str) f.range in
    let kinds = segments (switch_segment l.vec Vec refl refl) (segments (switch_segment l.dict Dict refl refl) (switch_segment l.keyset Keyset refl refl)) in
    let all = segments (switch_segment l.null Null refl refl) (segments (bools_segment l.no l.yes) (segments (ints_segment l.int r.0) (segments (strs_segment l.str r.1)
    (segments (objs_segment names l.obj f.words) kinds)))) in
    record { fits = all.fits; climbs = all.climbs; classes = all.classes ∙ append-nil (written.obj_classes names l.obj) }

leaf_is : (names : List Name) (n : ℕ) (l : Leaf) → LeafFits names n l → leaf_from n (leaf_atoms names l) never_leaf ≡ l
leaf_is names n l f =
    let r = and_parts (int_in_range l.int) (str_in_range l.str) f.range in
    let l1 : Leaf = record never_leaf { null = l.null } in
    let l2 : Leaf = record l1 { no = l.no; yes = l.yes } in
    let l3 : Leaf = record l2 { int = l.int } in
    let l4 : Leaf = record l3 { str = l.str } in
    let l5 : Leaf = record l4 { obj = l.obj } in
    let ys4 = obj_atoms names l.obj ++ kind_atoms l in
    let ys3 = str_atoms l.str ++ ys4 in
    let ys2 = int_atoms l.int ++ ys3 in
    let ys1 = bool_atoms l.no l.yes ++ ys2 in
    leaf_after n (atom l.null Null) ys1 never_leaf l1 l (switch_segment l.null Null refl refl).classes (leaf_null n l.null never_leaf refl)
    (leaf_after n (bool_atoms l.no l.yes) ys2 l1 l2 l (bools_segment l.no l.yes).classes (leaf_bools n l.no l.yes l1 refl refl)
    (leaf_after n (int_atoms l.int) ys3 l2 l3 l (ints_segment l.int r.0).classes (leaf_ints n l.int l2 refl)
    (leaf_after n (str_atoms l.str) ys4 l3 l4 l (strs_segment l.str r.1).classes (leaf_strs n l.str l3 r.1 refl)
    (leaf_before n (obj_atoms names l.obj) (kind_atoms l) l4 l5 l (leaf_objs names n l.obj l4 f.numbered refl)
    (λ k. leaf_kinds k l.vec l.dict l.keyset l5 refl refl refl)))))

-- ---- what is written

pub record LeafWritten (n : ℕ) (w : Written) (l : Leaf) (names : List Name) : Type 0 where
  pub spelled : ALeaf (written_tokens w) w
  pub inner : Inner (written_tokens w)
  pub classes : classes_in w ≡ names
  pub is : leaf_of n w ≡ l

pub all_atoms_inner : (xs : List Atom) → list_all atom_fits xs ≡ true → AllInner (map atom_tokens xs)
all_atoms_inner [] h = tt
all_atoms_inner (a ∷ xs) h =
    let p = and_parts (atom_fits a) (list_all atom_fits xs) h in
    (atom_inner a p.0, all_atoms_inner xs p.1)

atoms_written : (n least most : ℕ) (xs : List Atom) (names : List Name) (l : Leaf) → Segment least xs most names → leaf_from n xs never_leaf ≡ l → LeafWritten n (written_atoms xs) l names
atoms_written n least most [] names l s e = record { spelled = refl; inner = inner_word _ refl; classes = s.classes; is = e }
atoms_written n least most (a ∷ xs) names l s e =
    let p = and_parts (atom_fits a) (list_all atom_fits xs) s.fits in
    let climbs : Climbs line 0 (a ∷ xs) most = (omega arith, s.climbs.1) in
    record {
      spelled = (separated_spelled AnAtom atom_tokens a xs (atom_spelled a p.0) (atoms_spelled xs p.1), climbs_ascend line 0 (a ∷ xs) most climbs);
      inner = inner_joined (atom_tokens a) (map atom_tokens xs) (atom_inner a p.0) (all_atoms_inner xs p.1);
      classes = s.classes;
      is = e;
    }

pub leaf_written : (names : List Name) (n : ℕ) (l : Leaf) → LeafFits names n l → LeafWritten n (written_leaf names l) l (written.obj_classes names l.obj)
leaf_written names n l f = go (whole_leaf l) refl
  where
    go : (b : Bool) → whole_leaf l ≡ b → LeafWritten n (if b then Cell else written_atoms (leaf_atoms names l)) l (written.obj_classes names l.obj)
    go true h =
        let e = leaf_is_cell l h in
        record { spelled = refl; inner = inner_word _ refl; classes = sym (ap (λ (m : Leaf). written.obj_classes names m.obj) e); is = sym e }
    go false h = atoms_written n 1 9 (leaf_atoms names l) (written.obj_classes names l.obj) l (leaf_segment names n l f) (leaf_is names n l f)

-- ---- keys

pub record KeyWritten (n : ℕ) (w : Written) (k : Leaf) : Type 0 where
  pub spelled : AKeyType (written_tokens w) w
  pub inner : Inner (written_tokens w)
  pub classes : classes_in w ≡ []
  pub is : leaf_of n w ≡ k

int_keys : (p : IntPart) → list_all is_key_atom (int_atoms p) ≡ true
int_keys ints.No = refl
int_keys (ints.One i) = refl
int_keys ints.Any = refl

str_keys : (p : StrPart) → list_all is_key_atom (str_atoms p) ≡ true
str_keys strs.No = refl
str_keys (strs.One s) = refl
str_keys strs.Any = refl

keys_written : (n : ℕ) (xs : List Atom) (k : Leaf) → list_all is_key_atom xs ≡ true → LeafWritten n (written_atoms xs) k [] → KeyWritten n (written_atoms xs) k
keys_written n [] k h w = record { spelled = w.spelled; inner = w.inner; classes = w.classes; is = w.is }
keys_written n (a ∷ xs) k h w = record { spelled = (w.spelled, h); inner = w.inner; classes = w.classes; is = w.is }

pub key_written : (n : ℕ) (k : Leaf) → key_in_range k ≡ true → KeyWritten n (written_key k) k
key_written n k h =
    let p = key_parts k h in
    let xs = int_atoms k.int ++ str_atoms k.str in
    let all = segments (ints_segment k.int p.int) (strs_segment k.str p.str) in
    let l1 : Leaf = record never_leaf { int = k.int } in
    keys_written n xs k (all_both is_key_atom (int_atoms k.int) (str_atoms k.str) (int_keys k.int) (str_keys k.str))
    (atoms_written n 3 5 xs [] k all
    (leaf_after n (int_atoms k.int) (str_atoms k.str) never_leaf l1 k (ints_segment k.int p.int).classes (leaf_ints n k.int never_leaf refl) (leaf_strs n k.str l1 p.str refl ∙ p.is)))
