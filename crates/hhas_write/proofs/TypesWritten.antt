-- The tokens of a type spell its canonical text.
use Rattle.std.proofs.Common.{◌≡◌, ◌≤◌, ℕ, ◌+◌, arith, Bool, true, false, ◌&&◌, List, [], ◌∷◌, ◌++◌, map, length, Option, Some, None, option_map, slice_get, codes, refl, sym, ap, ◌∙◌, append_assoc, append-nil, if◌then◌else◌}
use Rattle.std.proofs.lemmas.List.{length-append}
use Rattle.std.specs.List.{flat_map}
use Rattle.std.specs.Fmt.{signed_decimal}
use Rattle.hack_values.specs.Literal.{literal_byte}
use Rattle.hhas_lex.specs.Spaced.{text_of}
use Rattle.hhas_lex.specs.Spelling.{spelling}
use Rattle.hhas_lex.specs.Tokens.{Token, Mark}
use Rattle.type_lattice.specs.declared.types.IntPart.{IntPart}
use Rattle.type_lattice.specs.declared.types.IntPart.TheVariants as ints
use Rattle.type_lattice.specs.declared.types.StrPart.{StrPart}
use Rattle.type_lattice.specs.declared.types.StrPart.TheVariants as strs
use Rattle.type_lattice.specs.declared.types.ObjPart.{ObjPart}
use Rattle.type_lattice.specs.declared.types.ObjPart.TheVariants as objs
use Rattle.type_lattice.specs.declared.types.Leaf.{Leaf}
use Rattle.type_lattice.specs.declared.types.HType.{HType}
use Rattle.type_lattice.specs.Types.{short_bytes}
use Rattle.type_lattice.specs.Whole.{whole_leaf, whole_key, whole_entry, is_whole, all_ints, all_strs, all_objs, part_is}
use Rattle.type_lattice.specs.TypeText as text
use Rattle.type_lattice.specs.TypeText.{class_name}
use Rattle.hhbc_repo.specs.LinkFaults.{Name}
use Rattle.hhbc_repo.specs.TypeSyntax.{Atom, Written, TypeAtom, WrittenType, atom_tokens}
use Rattle.hhbc_repo.specs.TypeSyntax as types
use Rattle.hhbc_repo.specs.WrittenTypes as written
use Rattle.hhbc_repo.specs.WrittenTypes.{written_type, canonical_type, obj_classes, obj_placed, vec_classes, dict_classes, leaf_placed, entry_placed}
use Rattle.hhbc_repo.specs.CanonicalText.{barred, joined, written_tokens, type_atom_tokens, type_tokens, type_pieces, behind_space}
use Rattle.hhas_write.proofs.Written.{tight_text}

spelled_append : (xs ys : List Token) → flat_map spelling (xs ++ ys) ≡ flat_map spelling xs ++ flat_map spelling ys
spelled_append [] ys = refl
spelled_append (x ∷ xs) ys = ap (λ l. spelling x ++ l) (spelled_append xs ys) ∙ sym (append_assoc (spelling x) (flat_map spelling xs) (flat_map spelling ys))

map_append : {A B : Type 0} (f : A → B) (xs ys : List A) → map f (xs ++ ys) ≡ map f xs ++ map f ys
map_append f [] ys = refl
map_append f (x ∷ xs) ys = ap (λ l. f x ∷ l) (map_append f xs ys)

both : {A B : Type 0} (f : A → B) (xs ys : List A) (us vs : List B) → map f xs ≡ us → map f ys ≡ vs → map f (xs ++ ys) ≡ us ++ vs
both f xs ys us vs h k = map_append f xs ys ∙ (ap (λ l. l ++ map f ys) h ∙ ap (λ l. us ++ l) k)

-- ---- lists of atoms with bars between them

barred_text : {A : Type 0} (f : A → List Token) (xs : List A) → flat_map spelling (flat_map barred (map f xs)) ≡ flat_map text.barred (map (λ x. flat_map spelling (f x)) xs)
barred_text f [] = refl
barred_text f (x ∷ xs) =
    ap (λ l. 124 ∷ l) (spelled_append (f x) (flat_map barred (map f xs)))
    ∙ ap (λ l. 124 ∷ (flat_map spelling (f x) ++ l)) (barred_text f xs)

joined_text : {A : Type 0} (f : A → List Token) (x : A) (xs : List A) → flat_map spelling (joined (map f (x ∷ xs))) ≡ text.joined (map (λ y. flat_map spelling (f y)) (x ∷ xs))
joined_text f x xs = spelled_append (f x) (flat_map barred (map f xs)) ∙ ap (λ l. flat_map spelling (f x) ++ l) (barred_text f xs)

-- ---- atoms

abbrev atom_text : Atom → List ℕ
atom_text a = flat_map spelling (atom_tokens a)

abbrev part_text : TypeAtom → List ℕ
part_text a = flat_map spelling (type_atom_tokens a)

flag_text : (b : Bool) (a : Atom) → map atom_text (written.atom b a) ≡ text.atom b (atom_text a)
flag_text true a = refl
flag_text false a = refl

bools_text : (no yes : Bool) → map atom_text (written.bool_atoms no yes) ≡ text.bool_atoms no yes
bools_text true true = refl
bools_text true false = refl
bools_text false true = refl
bools_text false false = refl

ints_text : (p : IntPart) → map atom_text (written.int_atoms p) ≡ text.int_atoms p
ints_text ints.No = refl
ints_text (ints.One i) = ap (λ l. (codes "Int=" ++ l) ∷ []) (append-nil (signed_decimal i))
ints_text ints.Any = refl

strs_text : (p : StrPart) → map atom_text (written.str_atoms p) ≡ text.str_atoms p
strs_text strs.No = refl
strs_text (strs.One s) = ap (λ l. (codes "Str=" ++ (34 ∷ l)) ∷ []) (append-nil (flat_map literal_byte (short_bytes s) ++ 34 ∷ []))
strs_text strs.Any = refl

objs_text : (names : List Name) (p : ObjPart) → map atom_text (written.obj_atoms names p) ≡ text.obj_atoms names p
objs_text names objs.No = refl
objs_text names (objs.Exact c) = ap (λ l. (codes "Obj=" ++ l) ∷ []) (append-nil (class_name names c))
objs_text names (objs.Sub c) = ap (λ l. (codes "Obj<=" ++ l) ∷ []) (append-nil (class_name names c))
objs_text names objs.Any = refl

kinds_text : (l : Leaf) → map atom_text (written.kind_atoms l) ≡ text.kind_atoms l
kinds_text l =
    both atom_text _ _ _ _ (flag_text l.vec types.Vec) (both atom_text _ _ _ _ (flag_text l.dict types.Dict) (flag_text l.keyset types.Keyset))

leaf_atoms_text : (names : List Name) (l : Leaf) → map atom_text (written.leaf_atoms names l) ≡ text.leaf_atoms names l
leaf_atoms_text names l =
    both atom_text _ _ _ _ (flag_text l.null types.Null)
    (both atom_text _ _ _ _ (bools_text l.no l.yes)
    (both atom_text _ _ _ _ (ints_text l.int)
    (both atom_text _ _ _ _ (strs_text l.str) (both atom_text _ _ _ _ (objs_text names l.obj) (kinds_text l)))))

scalars_text : (names : List Name) (t : HType) → map atom_text (written.scalar_atoms names t) ≡ text.scalar_atoms names t
scalars_text names t =
    both atom_text _ _ _ _ (flag_text t.null types.Null)
    (both atom_text _ _ _ _ (bools_text t.no t.yes)
    (both atom_text _ _ _ _ (ints_text t.int) (both atom_text _ _ _ _ (strs_text t.str) (objs_text names t.obj))))

-- ---- leaves and keys

atoms_text : (xs : List Atom) (us : List (List ℕ)) → map atom_text xs ≡ us → flat_map spelling (written_tokens (written.written_atoms xs)) ≡ text.joined us
atoms_text [] us h = ap text.joined h
atoms_text (x ∷ xs) us h = joined_text atom_tokens x xs ∙ ap text.joined h

leaf_case : (whole : Bool) (xs : List Atom) (us : List (List ℕ)) → map atom_text xs ≡ us
    → flat_map spelling (written_tokens (if whole then types.Cell else written.written_atoms xs)) ≡ (if whole then codes "Cell" else text.joined us)
leaf_case true xs us h = refl
leaf_case false xs us h = atoms_text xs us h

leaf_text : (names : List Name) (l : Leaf) → flat_map spelling (written_tokens (written.written_leaf names l)) ≡ text.leaf_text names l
leaf_text names l = leaf_case (whole_leaf l) _ _ (leaf_atoms_text names l)

key_text : (k : Leaf) → flat_map spelling (written_tokens (written.written_key k)) ≡ text.key_text k
key_text k = atoms_text _ _ (both atom_text _ _ _ _ (ints_text k.int) (strs_text k.str))

-- ---- containers

vec_case : (whole : Bool) (w : Written) (inner : List ℕ) → flat_map spelling (written_tokens w) ≡ inner
    → map part_text ((if whole then written.plain types.Vec else types.VecOf w) ∷ []) ≡ text.bracketed (codes "Vec") whole inner
vec_case true w inner h = refl
vec_case false w inner h =
    ap (λ l. (codes "Vec" ++ (60 ∷ l)) ∷ []) (spelled_append (written_tokens w) (Mark 62 ∷ []) ∙ ap (λ l. l ++ 62 ∷ []) h)

keyset_case : (whole : Bool) (w : Written) (inner : List ℕ) → flat_map spelling (written_tokens w) ≡ inner
    → map part_text ((if whole then written.plain types.Keyset else types.KeysetOf w) ∷ []) ≡ text.bracketed (codes "Keyset") whole inner
keyset_case true w inner h = refl
keyset_case false w inner h =
    ap (λ l. (codes "Keyset" ++ (60 ∷ l)) ∷ []) (spelled_append (written_tokens w) (Mark 62 ∷ []) ∙ ap (λ l. l ++ 62 ∷ []) h)

dict_case : (whole : Bool) (k w : Written) (key inner : List ℕ) → flat_map spelling (written_tokens k) ≡ key → flat_map spelling (written_tokens w) ≡ inner
    → map part_text ((if whole then written.plain types.Dict else types.DictOf k w) ∷ []) ≡ text.bracketed (codes "Dict") whole (key ++ (44 ∷ inner))
dict_case true k w key inner g h = refl
dict_case false k w key inner g h =
    ap (λ l. (codes "Dict" ++ (60 ∷ l)) ∷ [])
    (spelled_append (written_tokens k) (Mark 44 ∷ (written_tokens w ++ Mark 62 ∷ []))
    ∙ (ap (λ l. flat_map spelling (written_tokens k) ++ (44 ∷ l)) (spelled_append (written_tokens w) (Mark 62 ∷ []))
    ∙ (ap (λ l. l ++ (44 ∷ (flat_map spelling (written_tokens w) ++ 62 ∷ []))) g
    ∙ (ap (λ l. key ++ (44 ∷ (l ++ 62 ∷ []))) h ∙ sym (append_assoc key (44 ∷ inner) (62 ∷ []))))))

vec_text : (names : List Name) (o : Option Leaf) → map part_text (written.vec_atoms names o) ≡ text.vec_atoms names o
vec_text names None = refl
vec_text names (Some l) = vec_case (whole_leaf l) _ _ (leaf_text names l)

dict_text : (names : List Name) (o : Option (Leaf × Leaf)) → map part_text (written.dict_atoms names o) ≡ text.dict_atoms names o
dict_text names None = refl
dict_text names (Some e) = dict_case (whole_entry e) _ _ _ _ (key_text e.0) (leaf_text names e.1)

keyset_text : (o : Option Leaf) → map part_text (written.keyset_atoms o) ≡ text.keyset_atoms o
keyset_text None = refl
keyset_text (Some k) = keyset_case (whole_key k) _ _ (key_text k)

containers_text : (names : List Name) (t : HType) → map part_text (written.container_atoms names t) ≡ text.container_atoms names t
containers_text names t =
    both part_text _ _ _ _ (vec_text names t.vec) (both part_text _ _ _ _ (dict_text names t.dict) (keyset_text t.keyset))

-- ---- types

plains_text : (xs : List Atom) → map part_text (written.plains xs) ≡ map atom_text xs
plains_text [] = refl
plains_text (x ∷ xs) = ap (λ l. atom_text x ∷ l) (plains_text xs)

uninit_text : (u : Bool) → map part_text (written.uninit_atoms u) ≡ text.atom u (codes "Uninit")
uninit_text true = refl
uninit_text false = refl

parts_text : (xs : List TypeAtom) (us : List (List ℕ)) → map part_text xs ≡ us → flat_map spelling (type_tokens (written.written_type_atoms xs)) ≡ text.joined us
parts_text [] us h = ap text.joined h
parts_text (x ∷ xs) us h = joined_text type_atom_tokens x xs ∙ ap text.joined h

type_case : (whole uninit : Bool) (xs : List TypeAtom) (us : List (List ℕ)) → map part_text xs ≡ us
    → flat_map spelling (type_tokens (if whole then written.written_whole uninit else written.written_type_atoms (written.uninit_atoms uninit ++ xs)))
    ≡ text.joined (text.atom uninit (codes "Uninit") ++ (if whole then codes "Cell" ∷ [] else us))
type_case true true xs us h = refl
type_case true false xs us h = refl
type_case false uninit xs us h = parts_text _ _ (both part_text _ _ _ _ (uninit_text uninit) h)

pub type_spelled : (names : List Name) (t : HType) → flat_map spelling (type_tokens (written_type names t)) ≡ text.type_text names t
type_spelled names t =
    type_case (is_whole t) t.uninit _ _
    (both part_text _ _ _ _ (plains_text (written.scalar_atoms names t) ∙ scalars_text names t) (containers_text names t))

-- ---- the parts of a type are written as the type

name_at : (front back : List Name) (name : Name) → slice_get (front ++ name ∷ back) (length front) ≡ Some name
name_at [] back name = refl
name_at (x ∷ front) back name = name_at front back name

named_at : (front back : List Name) (name : Name) → class_name (front ++ name ∷ back) (length front) ≡ name
named_at front back name = ap text.named (name_at front back name)

placed_atoms : (names front back : List Name) (p : ObjPart) → written.obj_atoms (front ++ (obj_classes names p ++ back)) (obj_placed (length front) p) ≡ written.obj_atoms names p
placed_atoms names front back objs.No = refl
placed_atoms names front back (objs.Exact c) = ap (λ n. types.Exact n ∷ []) (named_at front back (class_name names c))
placed_atoms names front back (objs.Sub c) = ap (λ n. types.Sub n ∷ []) (named_at front back (class_name names c))
placed_atoms names front back objs.Any = refl

placed_all : (n : ℕ) (p : ObjPart) → all_objs (obj_placed n p) ≡ all_objs p
placed_all n objs.No = refl
placed_all n (objs.Exact c) = refl
placed_all n (objs.Sub c) = refl
placed_all n objs.Any = refl

abbrev whole_with : Leaf → Bool → Bool
whole_with l all = l.null && (l.no && (l.yes && (all_ints l.int && (all_strs l.str && (all && (l.vec && (l.dict && l.keyset)))))))

placed_whole : (n : ℕ) (l : Leaf) → whole_leaf (leaf_placed n l) ≡ whole_leaf l
placed_whole n l = ap (whole_with l) (placed_all n l.obj)

placed_leaf_atoms : (names cs : List Name) (n : ℕ) (l : Leaf) → written.obj_atoms cs (obj_placed n l.obj) ≡ written.obj_atoms names l.obj
    → written.leaf_atoms cs (leaf_placed n l) ≡ written.leaf_atoms names l
placed_leaf_atoms names cs n l h =
    ap (λ os. written.atom l.null types.Null ++ (written.bool_atoms l.no l.yes ++ (written.int_atoms l.int ++ (written.str_atoms l.str ++ (os ++ written.kind_atoms l))))) h

placed_leaf : (names cs : List Name) (n : ℕ) (l : Leaf) → written.obj_atoms cs (obj_placed n l.obj) ≡ written.obj_atoms names l.obj
    → written.written_leaf cs (leaf_placed n l) ≡ written.written_leaf names l
placed_leaf names cs n l h =
    ap (λ b. if b then types.Cell else written.written_atoms (written.leaf_atoms cs (leaf_placed n l))) (placed_whole n l)
    ∙ ap (λ xs. if whole_leaf l then types.Cell else written.written_atoms xs) (placed_leaf_atoms names cs n l h)

placed_vec : (names front back : List Name) (o : Option Leaf)
    → written.vec_atoms (front ++ (vec_classes names o ++ back)) (option_map (leaf_placed (length front)) o) ≡ written.vec_atoms names o
placed_vec names front back None = refl
placed_vec names front back (Some l) =
    let cs = front ++ (obj_classes names l.obj ++ back) in
    ap (λ b. (if b then written.plain types.Vec else types.VecOf (written.written_leaf cs (leaf_placed (length front) l))) ∷ []) (placed_whole (length front) l)
    ∙ ap (λ w. (if whole_leaf l then written.plain types.Vec else types.VecOf w) ∷ []) (placed_leaf names cs (length front) l (placed_atoms names front back l.obj))

placed_dict : (names front back : List Name) (o : Option (Leaf × Leaf))
    → written.dict_atoms (front ++ (dict_classes names o ++ back)) (option_map (entry_placed (length front)) o) ≡ written.dict_atoms names o
placed_dict names front back None = refl
placed_dict names front back (Some e) =
    let cs = front ++ (obj_classes names e.1.obj ++ back) in
    ap (λ b. (if whole_key e.0 && b then written.plain types.Dict else types.DictOf (written.written_key e.0) (written.written_leaf cs (leaf_placed (length front) e.1))) ∷ []) (placed_whole (length front) e.1)
    ∙ ap (λ w. (if whole_entry e then written.plain types.Dict else types.DictOf (written.written_key e.0) w) ∷ []) (placed_leaf names cs (length front) e.1 (placed_atoms names front back e.1.obj))

vec_whole : (n : ℕ) (o : Option Leaf) → part_is whole_leaf (option_map (leaf_placed n) o) ≡ part_is whole_leaf o
vec_whole n None = refl
vec_whole n (Some l) = placed_whole n l

dict_whole : (n : ℕ) (o : Option (Leaf × Leaf)) → part_is whole_entry (option_map (entry_placed n) o) ≡ part_is whole_entry o
dict_whole n None = refl
dict_whole n (Some e) = ap (λ b. whole_key e.0 && b) (placed_whole n e.1)

abbrev all_with : HType → Bool → Bool → Bool → Bool
all_with t objs_all vec_all dict_all =
    t.null && (t.no && (t.yes && (all_ints t.int && (all_strs t.str && (objs_all && (vec_all && (dict_all && part_is whole_key t.keyset)))))))

placed_is_whole : (t : HType) (m n : ℕ)
    → all_with t (all_objs (obj_placed 0 t.obj)) (part_is whole_leaf (option_map (leaf_placed m) t.vec)) (part_is whole_entry (option_map (entry_placed n) t.dict)) ≡ is_whole t
placed_is_whole t m n =
    ap (λ b. all_with t b (part_is whole_leaf (option_map (leaf_placed m) t.vec)) (part_is whole_entry (option_map (entry_placed n) t.dict))) (placed_all 0 t.obj)
    ∙ (ap (λ b. all_with t (all_objs t.obj) b (part_is whole_entry (option_map (entry_placed n) t.dict))) (vec_whole m t.vec)
    ∙ ap (λ b. all_with t (all_objs t.obj) (part_is whole_leaf t.vec) b) (dict_whole n t.dict))

placed_dict_last : (names os vs : List Name) (o : Option (Leaf × Leaf))
    → written.dict_atoms (os ++ (vs ++ dict_classes names o)) (option_map (entry_placed (length os + length vs)) o) ≡ written.dict_atoms names o
placed_dict_last names os vs o =
    let e : os ++ (vs ++ dict_classes names o) ≡ (os ++ vs) ++ (dict_classes names o ++ []) =
    sym (append_assoc os vs (dict_classes names o)) ∙ ap (λ l. (os ++ vs) ++ l) (sym (append-nil (dict_classes names o))) in
    ap (λ cs. written.dict_atoms cs (option_map (entry_placed (length os + length vs)) o)) e
    ∙ (ap (λ n. written.dict_atoms ((os ++ vs) ++ (dict_classes names o ++ [])) (option_map (entry_placed n) o)) (sym (length-append os vs))
    ∙ placed_dict names (os ++ vs) [] o)

placed_containers : (names : List Name) (t : HType)
    → written.container_atoms (canonical_type names t).classes (canonical_type names t).t ≡ written.container_atoms names t
placed_containers names t =
    let os = obj_classes names t.obj in
    let vs = vec_classes names t.vec in
    let ds = dict_classes names t.dict in
    ap (λ xs. xs ++ (written.dict_atoms (os ++ (vs ++ ds)) (option_map (entry_placed (length os + length vs)) t.dict) ++ written.keyset_atoms t.keyset)) (placed_vec names os ds t.vec)
    ∙ ap (λ xs. written.vec_atoms names t.vec ++ (xs ++ written.keyset_atoms t.keyset)) (placed_dict_last names os vs t.dict)

placed_scalars : (names : List Name) (t : HType)
    → written.scalar_atoms (canonical_type names t).classes (canonical_type names t).t ≡ written.scalar_atoms names t
placed_scalars names t =
    ap (λ os. written.atom t.null types.Null ++ (written.bool_atoms t.no t.yes ++ (written.int_atoms t.int ++ (written.str_atoms t.str ++ os))))
    (placed_atoms names [] (vec_classes names t.vec ++ dict_classes names t.dict) t.obj)

abbrev written_by : Bool → Bool → List Atom → List TypeAtom → WrittenType
written_by whole uninit scalars containers =
    if whole then written.written_whole uninit else written.written_type_atoms (written.uninit_atoms uninit ++ (written.plains scalars ++ containers))

pub parts_written : (names : List Name) (t : HType) → written_type (canonical_type names t).classes (canonical_type names t).t ≡ written_type names t
parts_written names t =
    let p = canonical_type names t in
    ap (λ b. written_by b t.uninit (written.scalar_atoms p.classes p.t) (written.container_atoms p.classes p.t))
    (placed_is_whole t (length (obj_classes names t.obj)) (length (obj_classes names t.obj) + length (vec_classes names t.vec)))
    ∙ (ap (λ xs. written_by (is_whole t) t.uninit xs (written.container_atoms p.classes p.t)) (placed_scalars names t)
    ∙ ap (λ xs. written_by (is_whole t) t.uninit (written.scalar_atoms names t) xs) (placed_containers names t))

-- ---- a space, and the tokens of a type

first_of : (ts : List Token) → 1 ≤ length ts → text_of (behind_space ts) ≡ 32 ∷ flat_map spelling ts
first_of [] h = absurd (omega arith)
first_of (t ∷ ts) h = ap (λ l. 32 ∷ (spelling t ++ l)) (tight_text ts)

some_atom : (a : Atom) → 1 ≤ length (atom_tokens a)
some_atom types.Null = omega arith
some_atom types.False = omega arith
some_atom types.True = omega arith
some_atom types.Bools = omega arith
some_atom types.Int = omega arith
some_atom (types.OneInt i) = omega arith
some_atom types.Str = omega arith
some_atom (types.OneStr s) = omega arith
some_atom types.Obj = omega arith
some_atom (types.Exact c) = omega arith
some_atom (types.Sub c) = omega arith
some_atom types.Vec = omega arith
some_atom types.Dict = omega arith
some_atom types.Keyset = omega arith

some_part : (a : TypeAtom) → 1 ≤ length (type_atom_tokens a)
some_part types.Uninit = omega arith
some_part (types.Plain a) = some_atom a
some_part (types.VecOf leaf) = omega arith
some_part (types.DictOf key leaf) = omega arith
some_part (types.KeysetOf key) = omega arith

part_first : (a : TypeAtom) (ts : List Token) → text_of (behind_space (type_atom_tokens a ++ ts)) ≡ 32 ∷ flat_map spelling (type_atom_tokens a ++ ts)
part_first a ts =
    let h = some_part a in let e = length-append (type_atom_tokens a) ts in first_of (type_atom_tokens a ++ ts) (omega arith)

parts_first : (xs : List TypeAtom) → text_of (behind_space (type_tokens (written.written_type_atoms xs))) ≡ 32 ∷ flat_map spelling (type_tokens (written.written_type_atoms xs))
parts_first [] = refl
parts_first (x ∷ xs) = part_first x (flat_map barred (map type_atom_tokens xs))

type_first : (whole uninit : Bool) (xs : List TypeAtom)
    → text_of (behind_space (type_tokens (if whole then written.written_whole uninit else written.written_type_atoms xs)))
    ≡ 32 ∷ flat_map spelling (type_tokens (if whole then written.written_whole uninit else written.written_type_atoms xs))
type_first true true xs = refl
type_first true false xs = refl
type_first false uninit xs = parts_first xs

pub spaced_type_text : (names : List Name) (t : HType) → text_of (type_pieces (canonical_type names t)) ≡ 32 ∷ text.type_text names t
spaced_type_text names t =
    ap (λ w. text_of (behind_space (type_tokens w))) (parts_written names t)
    ∙ (type_first (is_whole t) t.uninit (written.uninit_atoms t.uninit ++ (written.plains (written.scalar_atoms names t) ++ written.container_atoms names t))
    ∙ ap (λ l. 32 ∷ l) (type_spelled names t))

pub type_written : (names : List Name) (t : HType) (out one new : List ℕ) → one ≡ out ++ 32 ∷ [] → new ≡ one ++ text.type_text names t
    → new ≡ out ++ text_of (type_pieces (canonical_type names t))
type_written names t out one new k w =
    w ∙ (ap (λ l. l ++ text.type_text names t) k ∙ (append_assoc out (32 ∷ []) (text.type_text names t) ∙ ap (λ l. out ++ l) (sym (spaced_type_text names t))))
