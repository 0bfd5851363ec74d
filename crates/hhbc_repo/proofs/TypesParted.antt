-- A type that fits is made of its atoms in the order of their lines, each of which its tokens spell.
use Rattle.std.proofs.Common.{◌≡◌, ℕ, lit≤, zero, suc, ◌+◌, Bool, true, false, ◌&&◌, if◌then◌else◌, List, [], ◌∷◌, ◌++◌, map, length, Option, Some, None, refl, sym, ap, ap₂, subst, ◌∙◌, arith, append_assoc, length-append, codes}
use Rattle.std.specs.List.{list_all, flat_map}
use Rattle.std.specs.Str.{bytes_eq}
use Rattle.std.proofs.lemmas.Bool.{and_parts}
use Rattle.std.proofs.lemmas.Grind.{flat_map-append}
use Rattle.std.proofs.lemmas.List.{append-nil}
use Rattle.std.proofs.lemmas.Slice.Eq.{bytes_eq-Decides}
use Rattle.hhas_lex.specs.Tokens.{Token, Word, Mark}
use Rattle.hhas_lex.specs.Spelling.{is_word}
use Rattle.type_lattice.specs.declared.types.IntPart.{IntPart}
use Rattle.type_lattice.specs.declared.types.IntPart.TheVariants as ints
use Rattle.type_lattice.specs.declared.types.StrPart.{StrPart}
use Rattle.type_lattice.specs.declared.types.StrPart.TheVariants as strs
use Rattle.type_lattice.specs.declared.types.ObjPart.{ObjPart}
use Rattle.type_lattice.specs.declared.types.ObjPart.TheVariants as objs
use Rattle.type_lattice.specs.declared.types.Leaf.{Leaf}
use Rattle.type_lattice.specs.declared.types.HType.{HType}
use Rattle.type_lattice.specs.Types.{never}
use Rattle.type_lattice.specs.TypeText.{class_name}
use Rattle.type_lattice.specs.Whole.{whole_leaf, whole_entry, whole_key}
use Rattle.type_lattice.specs.InRange.{where_there, int_in_range, str_in_range, leaf_in_range, key_in_range, entry_in_range, type_in_range, obj_classes, vec_classes, dict_classes, classes_of}
use Rattle.type_lattice.proofs.Constraints.{leaf_is_cell}
use Rattle.type_lattice.proofs.Ranges.{range_parts}
use Rattle.hhbc_repo.specs.Bodies.{numbers}
use Rattle.hhbc_repo.specs.CanonicalText.{written_tokens, type_atom_tokens}
use Rattle.hhbc_repo.specs.LinkFaults.{Name}
use Rattle.hhbc_repo.specs.TypeFits.{type_fits}
use Rattle.hhbc_repo.specs.TypeSyntax.{Atom, Null, Vec, Dict, Keyset, line, Written, ALeaf, AKeyType, TypeAtom, Uninit, Plain, VecOf, DictOf, KeysetOf, ATypeAtom, type_line, atom_classes, type_classes, type_with, type_from}
use Rattle.hhbc_repo.specs.WrittenTypes.{atom, bool_atoms, int_atoms, str_atoms, obj_atoms, plain, plains, vec_atoms, dict_atoms, keyset_atoms, uninit_atoms, scalar_atoms, container_atoms, written_leaf, written_key}
use Rattle.hhbc_repo.specs.WrittenTypes as written
use Rattle.hhbc_repo.specs.declared.parts.TypeParts.{TypeParts}
use Rattle.hhbc_repo.proofs.AtomsSpelled.{Segment, segments, switch_segment, bools_segment, ints_segment, strs_segment, objs_segment, short_fits, atom_fits, atom_spelled, atom_inner, Climbs, climbs_both}
use Rattle.hhbc_repo.proofs.Elements.{same_first, same_rest}
use Rattle.hhbc_repo.proofs.InnerTokens.{Inner, inner_word, inner_both, inner_bracketed}
use Rattle.hhbc_repo.proofs.LeavesWritten.{leaf_written, key_written, key_is_whole, first_number}
use Rattle.hhbc_repo.proofs.Numbering.{numbers_length}
use Rattle.hhbc_repo.proofs.PartsOfTypes.{classes_named, obj_count, vec_count}
use Rattle.hhbc_repo.proofs.SpelledTypes.{all_front, all_back}

-- ---- atoms of types

pub record TypeAtomFits (x : TypeAtom) : Type 0 where
  pub spelled : ATypeAtom (type_atom_tokens x) x
  pub inner : Inner (type_atom_tokens x)

abbrev pub AllFit : List TypeAtom → Type 0
AllFit [] = Unit {0}
AllFit (x ∷ xs) = TypeAtomFits x × AllFit xs

pub all_fit_both : (xs ys : List TypeAtom) → AllFit xs → AllFit ys → AllFit (xs ++ ys)
all_fit_both [] ys h k = k
all_fit_both (x ∷ xs) ys h k = (h.0, all_fit_both xs ys h.1 k)

uninit_fits : TypeAtomFits Uninit
uninit_fits = record { spelled = refl; inner = inner_word _ refl }

plain_fits : (a : Atom) → atom_fits a ≡ true → TypeAtomFits (Plain a)
plain_fits a h = record { spelled = atom_spelled a h; inner = atom_inner a h }

vec_fits : (leaf : Written) → ALeaf (written_tokens leaf) leaf → Inner (written_tokens leaf) → TypeAtomFits (VecOf leaf)
vec_fits leaf spelled inner =
    let ts = written_tokens leaf in
    record {
      spelled = record { rest = ts ++ Mark 62 ∷ []; word = record { first = ts; word = spelled; tokens = refl }; tokens = refl };
      inner = inner_bracketed (codes "Vec") ts refl inner;
    }

dict_fits : (key leaf : Written) → AKeyType (written_tokens key) key → Inner (written_tokens key) → ALeaf (written_tokens leaf) leaf → Inner (written_tokens leaf)
    → TypeAtomFits (DictOf key leaf)
dict_fits key leaf key_spelled key_inner spelled inner =
    let ks = written_tokens key in
    let ts = written_tokens leaf in
    record {
      spelled = record {
        rest = ks ++ (Mark 44 ∷ (ts ++ Mark 62 ∷ []));
        word = record {
          first = ks ++ Mark 44 ∷ [];
          second = ts ++ Mark 62 ∷ [];
          left = record { first = ks; word = key_spelled; tokens = refl };
          right = record { first = ts; word = spelled; tokens = refl };
          tokens = sym (append_assoc ks (Mark 44 ∷ []) (ts ++ Mark 62 ∷ []));
        };
        tokens = refl;
      };
      inner = subst (λ (l : List Token). Inner (Word (codes "Dict") ∷ Mark 60 ∷ l)) (append_assoc ks (Mark 44 ∷ ts) (Mark 62 ∷ []))
          (inner_bracketed (codes "Dict") (ks ++ Mark 44 ∷ ts) refl (inner_both 44 ks ts refl (λ w. refl) key_inner inner));
    }

keyset_fits : (key : Written) → AKeyType (written_tokens key) key → Inner (written_tokens key) → TypeAtomFits (KeysetOf key)
keyset_fits key spelled inner =
    let ts = written_tokens key in
    record {
      spelled = record { rest = ts ++ Mark 62 ∷ []; word = record { first = ts; word = spelled; tokens = refl }; tokens = refl };
      inner = inner_bracketed (codes "Keyset") ts refl inner;
    }

-- ---- a type from several lists of atoms

-- atoms of some lines that make a type of another, with their classes, of which the first has the number
pub record TypePart (least : ℕ) (xs : List TypeAtom) (most : ℕ) (names : List Name) (n : ℕ) (t u : HType) : Type 0 where
  pub fits : AllFit xs
  pub climbs : Climbs type_line least xs most
  pub classes : flat_map type_classes xs ≡ names
  pub is : type_from n xs t ≡ u

type_joined : (n : ℕ) (xs ys : List TypeAtom) (t : HType) → type_from n (xs ++ ys) t ≡ type_from (n + length (flat_map type_classes xs)) ys (type_from n xs t)
type_joined n [] ys t =
    let same : n ≡ n + 0 = omega arith in
    ap (λ (m : ℕ). type_from m ys t) same
type_joined n (a ∷ xs) ys t =
    let here = length (type_classes a) in
    let more = length (flat_map type_classes xs) in
    let count = length-append (type_classes a) (flat_map type_classes xs) in
    let same : (n + here) + more ≡ n + length (type_classes a ++ flat_map type_classes xs) = omega (arith, count) in
    type_joined (n + here) xs ys (type_with n a t) ∙ ap (λ (m : ℕ). type_from m ys (type_from (n + here) xs (type_with n a t))) same

type_then : (n k : ℕ) (xs ys : List TypeAtom) (names : List Name) (t u v : HType) → flat_map type_classes xs ≡ names → n + length names ≡ k → type_from n xs t ≡ u → type_from k ys u ≡ v
    → type_from n (xs ++ ys) t ≡ v
type_then n k xs ys names t u v classes same h e =
    type_joined n xs ys t ∙ ap (λ (l : List Name). type_from (n + length l) ys (type_from n xs t)) classes
    ∙ ap₂ (λ (i : ℕ) (s : HType). type_from i ys s) same h ∙ e

both_parts : {least middle most : ℕ} {xs ys : List TypeAtom} {names more : List Name} {n k : ℕ} {t u v : HType} → TypePart least xs middle names n t u → n + length names ≡ k → TypePart middle ys most more k u v
    → TypePart least (xs ++ ys) most (names ++ more) n t v
both_parts {least = least} {middle = middle} {most = most} {xs = xs} {ys = ys} {names = names} {more = more} {n = n} {k = k} {t = t} {u = u} {v = v} p same q = record {
  fits = all_fit_both xs ys p.fits q.fits;
  climbs = climbs_both type_line least xs middle ys most p.climbs q.climbs;
  classes = flat_map-append type_classes xs ys ∙ ap₂ (λ (l m : List Name). l ++ m) p.classes q.classes;
  is = type_then n k xs ys names t u v p.classes same p.is q.is;
}

-- ---- plain atoms

pub plains_fit : (xs : List Atom) → list_all atom_fits xs ≡ true → AllFit (plains xs)
plains_fit [] h = tt
plains_fit (a ∷ xs) h =
    let p = and_parts (atom_fits a) (list_all atom_fits xs) h in
    (plain_fits a p.0, plains_fit xs p.1)

plains_climb : (least : ℕ) (xs : List Atom) (most : ℕ) → Climbs line least xs most → Climbs type_line least (plains xs) most
plains_climb least [] most h = h
plains_climb least (a ∷ xs) most h = (h.0, plains_climb (suc (line a)) xs most h.1)

plains_classes : (xs : List Atom) → flat_map type_classes (plains xs) ≡ flat_map atom_classes xs
plains_classes [] = refl
plains_classes (a ∷ xs) = ap (λ (l : List Name). atom_classes a ++ l) (plains_classes xs)

pub plains_both : (xs ys : List Atom) → plains (xs ++ ys) ≡ plains xs ++ plains ys
plains_both [] ys = refl
plains_both (a ∷ xs) ys = ap (λ (l : List TypeAtom). plain a ∷ l) (plains_both xs ys)

plains_part : (least : ℕ) (xs : List Atom) (most : ℕ) (names : List Name) (n : ℕ) (t u : HType) → Segment least xs most names → type_from n (plains xs) t ≡ u → TypePart least (plains xs) most names n t u
plains_part least xs most names n t u s e = record {
  fits = plains_fit xs s.fits;
  climbs = plains_climb least xs most s.climbs;
  classes = plains_classes xs ∙ s.classes;
  is = e;
}

-- the atoms before have no classes
plains_after : (n : ℕ) (xs ys : List Atom) (t u v : HType) → flat_map atom_classes xs ≡ [] → type_from n (plains xs) t ≡ u → type_from n (plains ys) u ≡ v
    → type_from n (plains (xs ++ ys)) t ≡ v
plains_after n xs ys t u v none h k =
    let same : n + 0 ≡ n = omega arith in
    ap (λ (l : List TypeAtom). type_from n l t) (plains_both xs ys) ∙ type_then n n (plains xs) (plains ys) [] t u v (plains_classes xs ∙ none) same h k

type_null : (n : ℕ) (b : Bool) (t : HType) → t.null ≡ false → type_from n (plains (atom b Null)) t ≡ record t { null = b }
type_null n true t h = refl
type_null n false t h = ap (λ (b : Bool). record t { null = b }) h

type_bools : (n : ℕ) (no yes : Bool) (t : HType) → t.no ≡ false → t.yes ≡ false → type_from n (plains (bool_atoms no yes)) t ≡ record t { no = no; yes = yes }
type_bools n true true t h k = refl
type_bools n true false t h k = ap (λ (b : Bool). record t { no = true; yes = b }) k
type_bools n false true t h k = ap (λ (b : Bool). record t { no = b; yes = true }) h
type_bools n false false t h k = ap₂ (λ (b c : Bool). record t { no = b; yes = c }) h k

type_ints : (n : ℕ) (p : IntPart) (t : HType) → t.int ≡ ints.No → type_from n (plains (int_atoms p)) t ≡ record t { int = p }
type_ints n ints.No t h = ap (λ (p : IntPart). record t { int = p }) h
type_ints n (ints.One i) t h = refl
type_ints n ints.Any t h = refl

type_strs : (n : ℕ) (p : StrPart) (t : HType) → str_in_range p ≡ true → t.str ≡ strs.No → type_from n (plains (str_atoms p)) t ≡ record t { str = p }
type_strs n strs.No t r h = ap (λ (p : StrPart). record t { str = p }) h
type_strs n (strs.One s) t r h = ap (λ (p : StrPart). record t { str = p }) (short_fits s r).back
type_strs n strs.Any t r h = refl

type_objs : (names : List Name) (n : ℕ) (p : ObjPart) (t : HType) → obj_classes p ≡ numbers n (length (obj_classes p)) → t.obj ≡ objs.No
    → type_from n (plains (obj_atoms names p)) t ≡ record t { obj = p }
type_objs names n objs.No t e h = ap (λ (p : ObjPart). record t { obj = p }) h
type_objs names n (objs.Exact c) t e h = ap (λ (k : ℕ). record t { obj = objs.Exact k }) (first_number c n e)
type_objs names n (objs.Sub c) t e h = ap (λ (k : ℕ). record t { obj = objs.Sub k }) (first_number c n e)
type_objs names n objs.Any t e h = refl

-- ---- the parts of a type

uninit_part : (b : Bool) → TypePart 0 (uninit_atoms b) 1 [] 0 never (record never { uninit = b })
uninit_part true = record { fits = (uninit_fits, tt); climbs = (lit≤ tt, lit≤ tt); classes = refl; is = refl }
uninit_part false = record { fits = tt; climbs = lit≤ tt; classes = refl; is = refl }

-- the parts that aren't containers
abbrev scalars_with : HType → HType → HType
scalars_with u t = record t { null = u.null; no = u.no; yes = u.yes; int = u.int; str = u.str; obj = u.obj }

scalars_part : (names : List Name) (u : HType) → int_in_range u.int ≡ true → str_in_range u.str ≡ true → obj_classes u.obj ≡ numbers 0 (length (obj_classes u.obj))
    → list_all is_word (written.obj_classes names u.obj) ≡ true
    → TypePart 1 (plains (scalar_atoms names u)) 6 (written.obj_classes names u.obj) 0 (record never { uninit = u.uninit }) (scalars_with u (record never { uninit = u.uninit }))
scalars_part names u int str numbered words =
    let s1 = switch_segment u.null Null refl refl in
    let s2 = bools_segment u.no u.yes in
    let s3 = ints_segment u.int int in
    let s4 = strs_segment u.str str in
    let ys4 = obj_atoms names u.obj in
    let ys3 = str_atoms u.str ++ ys4 in
    let ys2 = int_atoms u.int ++ ys3 in
    let ys1 = bool_atoms u.no u.yes ++ ys2 in
    let t0 : HType = record never { uninit = u.uninit } in
    let t1 : HType = record t0 { null = u.null } in
    let t2 : HType = record t1 { no = u.no; yes = u.yes } in
    let t3 : HType = record t2 { int = u.int } in
    let t4 : HType = record t3 { str = u.str } in
    let t5 : HType = record t4 { obj = u.obj } in
    plains_part 1 (scalar_atoms names u) 6 (written.obj_classes names u.obj) 0 t0 t5
    (segments s1 (segments s2 (segments s3 (segments s4 (objs_segment names u.obj words)))))
    (plains_after 0 (atom u.null Null) ys1 t0 t1 t5 s1.classes (type_null 0 u.null t0 refl)
    (plains_after 0 (bool_atoms u.no u.yes) ys2 t1 t2 t5 s2.classes (type_bools 0 u.no u.yes t1 refl refl)
    (plains_after 0 (int_atoms u.int) ys3 t2 t3 t5 s3.classes (type_ints 0 u.int t2 refl)
    (plains_after 0 (str_atoms u.str) ys4 t3 t4 t5 s4.classes (type_strs 0 u.str t3 str refl)
    (type_objs names 0 u.obj t4 numbered refl)))))

vec_part : (names : List Name) (n : ℕ) (o : Option Leaf) (t : HType) → where_there leaf_in_range o ≡ true → vec_classes o ≡ numbers n (length (vec_classes o))
    → list_all is_word (written.vec_classes names o) ≡ true → t.vec ≡ None → TypePart 6 (vec_atoms names o) 7 (written.vec_classes names o) n t (record t { vec = o })
vec_part names n None t range numbered words e = record { fits = tt; climbs = lit≤ tt; classes = refl; is = ap (λ (o : Option Leaf). record t { vec = o }) e }
vec_part names n (Some l) t range numbered words e = go (whole_leaf l) refl
  where
    go : (b : Bool) → whole_leaf l ≡ b
        → TypePart 6 ((if b then plain Vec else VecOf (written_leaf names l)) ∷ []) 7 (written.obj_classes names l.obj) n t (record t { vec = Some l })
    go true h =
        let same = leaf_is_cell l h in
        record {
          fits = (plain_fits Vec refl, tt);
          climbs = (lit≤ tt, lit≤ tt);
          classes = sym (ap (λ (m : Leaf). written.obj_classes names m.obj) same);
          is = ap (λ (m : Leaf). record t { vec = Some m }) (sym same);
        }
    go false h =
        let w = leaf_written names n l (record { range = range; numbered = numbered; words = words }) in
        record {
          fits = (vec_fits (written_leaf names l) w.spelled w.inner, tt);
          climbs = (lit≤ tt, lit≤ tt);
          classes = append-nil _ ∙ w.classes;
          is = ap (λ (m : Leaf). record t { vec = Some m }) w.is;
        }

dict_part : (names : List Name) (n : ℕ) (o : Option (Leaf × Leaf)) (t : HType) → where_there entry_in_range o ≡ true → dict_classes o ≡ numbers n (length (dict_classes o))
    → list_all is_word (written.dict_classes names o) ≡ true → t.dict ≡ None → TypePart 7 (dict_atoms names o) 8 (written.dict_classes names o) n t (record t { dict = o })
dict_part names n None t range numbered words e = record { fits = tt; climbs = lit≤ tt; classes = refl; is = ap (λ (o : Option (Leaf × Leaf)). record t { dict = o }) e }
dict_part names n (Some entry) t range numbered words e = go (whole_entry entry) refl
  where
    go : (b : Bool) → whole_entry entry ≡ b
        → TypePart 7 ((if b then plain Dict else DictOf (written_key entry.0) (written_leaf names entry.1)) ∷ []) 8 (written.obj_classes names entry.1.obj) n t (record t { dict = Some entry })
    go true h =
        let p = and_parts (key_in_range entry.0) (leaf_in_range entry.1) range in
        let q = and_parts (whole_key entry.0) (whole_leaf entry.1) h in
        let key = key_is_whole entry.0 p.0 q.0 in
        let leaf = leaf_is_cell entry.1 q.1 in
        record {
          fits = (plain_fits Dict refl, tt);
          climbs = (lit≤ tt, lit≤ tt);
          classes = sym (ap (λ (m : Leaf). written.obj_classes names m.obj) leaf);
          is = ap₂ (λ (k m : Leaf). record t { dict = Some (k, m) }) (sym key) (sym leaf);
        }
    go false h =
        let p = and_parts (key_in_range entry.0) (leaf_in_range entry.1) range in
        let k = key_written n entry.0 p.0 in
        let w = leaf_written names n entry.1 (record { range = p.1; numbered = numbered; words = words }) in
        record {
          fits = (dict_fits (written_key entry.0) (written_leaf names entry.1) k.spelled k.inner w.spelled w.inner, tt);
          climbs = (lit≤ tt, lit≤ tt);
          classes = append-nil _ ∙ ap₂ (λ (l m : List Name). l ++ m) k.classes w.classes;
          is = ap₂ (λ (k m : Leaf). record t { dict = Some (k, m) }) k.is w.is;
        }

keyset_part : (n : ℕ) (o : Option Leaf) (t : HType) → where_there key_in_range o ≡ true → t.keyset ≡ None → TypePart 8 (keyset_atoms o) 9 [] n t (record t { keyset = o })
keyset_part n None t range e = record { fits = tt; climbs = lit≤ tt; classes = refl; is = ap (λ (o : Option Leaf). record t { keyset = o }) e }
keyset_part n (Some k) t range e = go (whole_key k) refl
  where
    go : (b : Bool) → whole_key k ≡ b → TypePart 8 ((if b then plain Keyset else KeysetOf (written_key k)) ∷ []) 9 [] n t (record t { keyset = Some k })
    go true h = record {
      fits = (plain_fits Keyset refl, tt);
      climbs = (lit≤ tt, lit≤ tt);
      classes = refl;
      is = ap (λ (m : Leaf). record t { keyset = Some m }) (sym (key_is_whole k range h));
    }
    go false h =
        let w = key_written n k range in
        record {
          fits = (keyset_fits (written_key k) w.spelled w.inner, tt);
          climbs = (lit≤ tt, lit≤ tt);
          classes = append-nil _ ∙ w.classes;
          is = ap (λ (m : Leaf). record t { keyset = Some m }) w.is;
        }

-- ---- classes numbered as they come, and their names

-- the numbers in front, and those behind
numbers_parted : (n : ℕ) (xs ys : List ℕ) → xs ++ ys ≡ numbers n (length (xs ++ ys)) → (xs ≡ numbers n (length xs)) × (ys ≡ numbers (n + length xs) (length ys))
numbers_parted n [] ys h =
    let same : n ≡ n + 0 = omega arith in
    (refl, h ∙ ap (λ (m : ℕ). numbers m (length ys)) same)
numbers_parted n (x ∷ xs) ys h =
    let rest = numbers (suc n) (length (xs ++ ys)) in
    let p = numbers_parted (suc n) xs ys (same_rest x n (xs ++ ys) rest h) in
    let same : suc n + length xs ≡ n + suc (length xs) = omega arith in
    (ap₂ (λ (m : ℕ) (l : List ℕ). m ∷ l) (same_first x n (xs ++ ys) rest h) p.0, p.1 ∙ ap (λ (m : ℕ). numbers m (length ys)) same)

-- by their numbers, the names of a list are that list
names_later : (x : Name) (xs : List Name) (n k : ℕ) → map (class_name (x ∷ xs)) (numbers (suc n) k) ≡ map (class_name xs) (numbers n k)
names_later x xs n zero = refl
names_later x xs n (suc k) = ap (λ (l : List Name). class_name xs n ∷ l) (names_later x xs (suc n) k)

pub names_numbered : (xs : List Name) → map (class_name xs) (numbers 0 (length xs)) ≡ xs
names_numbered [] = refl
names_numbered (x ∷ xs) = ap (λ (l : List Name). x ∷ l) (names_later x xs 0 (length xs) ∙ names_numbered xs)

-- the names of a type's classes, in the order of its text
abbrev pub named_classes : List Name → HType → List Name
named_classes names t = written.obj_classes names t.obj ++ (written.vec_classes names t.vec ++ written.dict_classes names t.dict)

-- ---- types

-- what a type that fits is like
pub record TypeFits (t : TypeParts) : Type 0 where
  pub int : int_in_range t.t.int ≡ true
  pub str : str_in_range t.t.str ≡ true
  pub vec : where_there leaf_in_range t.t.vec ≡ true
  pub dict : where_there entry_in_range t.t.dict ≡ true
  pub keyset : where_there key_in_range t.t.keyset ≡ true
  pub numbered : classes_of t.t ≡ numbers 0 (length (classes_of t.t))
  pub named : named_classes t.classes t.t ≡ t.classes
  pub words : list_all is_word (named_classes t.classes t.t) ≡ true

pub type_facts : (t : TypeParts) → type_fits t ≡ true → TypeFits t
type_facts t h =
    let all = numbers 0 (length t.classes) in
    let p = and_parts (type_in_range t.t) (bytes_eq (classes_of t.t) all && list_all is_word t.classes) h in
    let q = and_parts (bytes_eq (classes_of t.t) all) (list_all is_word t.classes) p.1 in
    let parts = range_parts t.t p.0 in
    let numbered : classes_of t.t ≡ all = (bytes_eq-Decides (classes_of t.t) all).0 q.0 in
    let count : length t.classes ≡ length (classes_of t.t) = sym (ap (λ (l : List ℕ). length l) numbered ∙ numbers_length 0 (length t.classes)) in
    let named : named_classes t.classes t.t ≡ t.classes = classes_named t.classes t.t ∙ ap (map (class_name t.classes)) numbered ∙ names_numbered t.classes in
    record {
      int = parts.int;
      str = parts.str;
      vec = parts.vec;
      dict = parts.dict;
      keyset = parts.keyset;
      numbered = numbered ∙ ap (numbers 0) count;
      named = named;
      words = ap (list_all is_word) named ∙ q.1;
    }

-- the atoms of a type, in their order
abbrev pub atoms_of : List Name → HType → List TypeAtom
atoms_of names t = uninit_atoms t.uninit ++ (plains (scalar_atoms names t) ++ container_atoms names t)

pub type_part : (t : TypeParts) → TypeFits t → TypePart 0 (atoms_of t.classes t.t) 9 t.classes 0 never t.t
type_part t f =
    let names = t.classes in
    let u = t.t in
    let first = written.obj_classes names u.obj in
    let second = written.vec_classes names u.vec in
    let third = written.dict_classes names u.dict in
    let one = numbers_parted 0 (obj_classes u.obj) (vec_classes u.vec ++ dict_classes u.dict) f.numbered in
    let start : 0 + length (obj_classes u.obj) ≡ length first = let e = obj_count names u.obj in omega (arith, e) in
    let two = numbers_parted (0 + length (obj_classes u.obj)) (vec_classes u.vec) (dict_classes u.dict) one.1 in
    let next : (0 + length (obj_classes u.obj)) + length (vec_classes u.vec) ≡ length first + length second = let e = vec_count names u.vec in omega (arith, start, e) in
    let behind = all_back is_word first (second ++ third) f.words in
    let t1 : HType = record never { uninit = u.uninit } in
    let t2 : HType = scalars_with u t1 in
    let t3 : HType = record t2 { vec = u.vec } in
    let t4 : HType = record t3 { dict = u.dict } in
    let scalars = scalars_part names u f.int f.str one.0 (all_front is_word first (second ++ third) f.words) in
    let vec = vec_part names (length first) u.vec t2 f.vec (two.0 ∙ ap (λ (n : ℕ). numbers n (length (vec_classes u.vec))) start) (all_front is_word second third behind) refl in
    let dict = dict_part names (length first + length second) u.dict t3 f.dict (two.1 ∙ ap (λ (n : ℕ). numbers n (length (dict_classes u.dict))) next) (all_back is_word second third behind) refl in
    let keyset = keyset_part ((length first + length second) + length third) u.keyset t4 f.keyset refl in
    let starts : 0 + length first ≡ length first = omega arith in
    let all = both_parts (uninit_part u.uninit) refl (both_parts scalars starts (both_parts vec refl (both_parts dict refl keyset))) in
    record {
      fits = all.fits;
      climbs = all.climbs;
      classes = all.classes ∙ ap (λ (l : List Name). first ++ (second ++ l)) (append-nil third) ∙ f.named;
      is = all.is;
    }
