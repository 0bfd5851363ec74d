-- The written form of a type or constraint that fits stands for it, and its tokens spell it.
use Rattle.std.proofs.Common.{◌≡◌, ℕ, suc, Bool, true, false, not, if◌then◌else◌, List, [], ◌∷◌, ◌++◌, map, Option, Some, None, refl, sym, ap, ap₂, subst, ◌∙◌}
use Rattle.std.specs.List.{list_all, flat_map}
use Rattle.std.proofs.lemmas.Bool.{and_from, and_parts}
use Rattle.hhas_lex.specs.Tokens.{Token}
use Rattle.type_lattice.specs.declared.types.IntPart.{IntPart}
use Rattle.type_lattice.specs.declared.types.IntPart.TheVariants as ints
use Rattle.type_lattice.specs.declared.types.StrPart.{StrPart}
use Rattle.type_lattice.specs.declared.types.StrPart.TheVariants as strs
use Rattle.type_lattice.specs.declared.types.ObjPart.{ObjPart}
use Rattle.type_lattice.specs.declared.types.ObjPart.TheVariants as objs
use Rattle.type_lattice.specs.declared.types.Leaf.{Leaf}
use Rattle.type_lattice.specs.declared.types.HType.{HType}
use Rattle.type_lattice.specs.Types.{never, cell, cell_leaf, key_leaf}
use Rattle.type_lattice.specs.Never.{is_never, is_absent}
use Rattle.type_lattice.specs.Whole.{all_ints, all_strs, all_objs, whole_leaf, whole_entry, whole_key, part_is, is_whole}
use Rattle.type_lattice.proofs.NeverLaws.{never_is_never}
use Rattle.type_lattice.specs.InRange.{where_there, leaf_in_range, has_keys_alone, key_in_range, entry_in_range}
use Rattle.type_lattice.specs.Keep.{agree, no_one_int, no_one_str, no_one_class, is_all_keys, is_all_entries, is_constraint}
use Rattle.type_lattice.proofs.Constraints.{ints_any, strs_any, objs_any, leaf_is_cell, WholeKinds, constraint_parts}
use Rattle.hhbc_repo.specs.CanonicalText.{barred, type_atom_tokens, type_tokens}
use Rattle.hhbc_repo.specs.LinkFaults.{Name}
use Rattle.hhbc_repo.specs.TypeFits.{type_fits, constraint_fits}
use Rattle.hhbc_repo.specs.TypeSyntax.{Atom, Vec, Dict, Keyset, Null, AnAtom, atom_tokens, line, is_broad, Cell, Of, TypeAtom, Plain, VecOf, DictOf, KeysetOf, ATypeAtom, type_line, WrittenType, NeverType, CellType, UninitCell, AtomsType, of_atoms, AType, AConstraint}
use Rattle.hhbc_repo.specs.WrittenTypes.{atom, bool_atoms, int_atoms, str_atoms, obj_atoms, plain, plains, vec_atoms, dict_atoms, keyset_atoms, uninit_atoms, scalar_atoms, container_atoms, written_leaf, written_key, written_type_atoms, written_whole, written_type}
use Rattle.hhbc_repo.specs.declared.parts.TypeParts.{TypeParts}
use Rattle.hhbc_repo.proofs.AtomsSpelled.{AllSpelled, separated_spelled, Climbs, climbs_ascend}
use Rattle.hhbc_repo.proofs.InnerTokens.{Inner, AllInner, inner_word, inner_joined, inner_both}
use Rattle.hhbc_repo.proofs.LeavesWritten.{key_is_whole}
use Rattle.hhbc_repo.proofs.SpelledTypes.{all_both}
use Rattle.hhbc_repo.proofs.TypesParted.{AllFit, TypePart, TypeFits, type_facts, named_classes, atoms_of, type_part, plains_both}

-- ---- lists of atoms

all_types_spelled : (xs : List TypeAtom) → AllFit xs → AllSpelled ATypeAtom type_atom_tokens xs
all_types_spelled [] h = tt
all_types_spelled (x ∷ xs) h = (h.0.spelled, all_types_spelled xs h.1)

all_types_inner : (xs : List TypeAtom) → AllFit xs → AllInner (map type_atom_tokens xs)
all_types_inner [] h = tt
all_types_inner (x ∷ xs) h = (h.0.inner, all_types_inner xs h.1)

-- a type is spelled by tokens that stand between marks
pub record TypeWritten (w : WrittenType) (t : TypeParts) : Type 0 where
  pub spelled : AType (type_tokens w) t
  pub inner : Inner (type_tokens w)

-- what atoms make
part_is_type : (xs : List TypeAtom) (t : TypeParts) → TypePart 0 xs 9 t.classes 0 never t.t → t ≡ of_atoms xs
part_is_type xs t p = ap₂ (λ (u : HType) (names : List Name). record { t = u; classes = names }) (sym p.is) (sym p.classes)

atoms_type : (xs : List TypeAtom) (t : TypeParts) → TypePart 0 xs 9 t.classes 0 never t.t → TypeWritten (written_type_atoms xs) t
atoms_type [] t p = record { spelled = record { value = NeverType; word = refl; is = part_is_type [] t p }; inner = inner_word _ refl }
atoms_type (x ∷ xs) t p = record {
  spelled = record {
    value = AtomsType (x ∷ xs);
    word = (separated_spelled ATypeAtom type_atom_tokens x xs p.fits.0.spelled (all_types_spelled xs p.fits.1), climbs_ascend type_line 0 (x ∷ xs) 9 p.climbs);
    is = part_is_type (x ∷ xs) t p;
  };
  inner = inner_joined (type_atom_tokens x) (map type_atom_tokens xs) p.fits.0.inner (all_types_inner xs p.fits.1);
}

-- ---- whole types

vec_whole : (o : Option Leaf) → part_is whole_leaf o ≡ true → o ≡ Some cell_leaf
vec_whole None h = absurd (cc)
vec_whole (Some l) h = ap (λ (m : Leaf). Some m) (leaf_is_cell l h)

dict_whole : (o : Option (Leaf × Leaf)) → where_there entry_in_range o ≡ true → part_is whole_entry o ≡ true → o ≡ Some (key_leaf, cell_leaf)
dict_whole None r h = absurd (cc)
dict_whole (Some e) r h =
    let p = and_parts (key_in_range e.0) (leaf_in_range e.1) r in
    let q = and_parts (whole_key e.0) (whole_leaf e.1) h in
    let key = key_is_whole e.0 p.0 q.0 in
    let leaf = leaf_is_cell e.1 q.1 in
    ap₂ (λ (k l : Leaf). Some (k, l)) key leaf

keyset_whole : (o : Option Leaf) → where_there key_in_range o ≡ true → part_is whole_key o ≡ true → o ≡ Some key_leaf
keyset_whole None r h = absurd (cc)
keyset_whole (Some k) r h = ap (λ (m : Leaf). Some m) (key_is_whole k r h)

-- Cell, or Uninit|Cell
abbrev cell_with : Bool → HType
cell_with b = record cell { uninit = b }

whole_is_cell : (t : TypeParts) → TypeFits t → is_whole t.t ≡ true → t.t ≡ cell_with t.t.uninit
whole_is_cell t f h =
    let u = t.t in
    let k1 = and_parts u.null _ h in
    let k2 = and_parts u.no _ k1.1 in
    let k3 = and_parts u.yes _ k2.1 in
    let k4 = and_parts (all_ints u.int) _ k3.1 in
    let k5 = and_parts (all_strs u.str) _ k4.1 in
    let k6 = and_parts (all_objs u.obj) _ k5.1 in
    let k7 = and_parts (part_is whole_leaf u.vec) _ k6.1 in
    let k8 = and_parts (part_is whole_entry u.dict) (part_is whole_key u.keyset) k7.1 in
    let int = ints_any u.int k4.0 in
    let str = strs_any u.str k5.0 in
    let obj = objs_any u.obj k6.0 in
    let vec = vec_whole u.vec k7.0 in
    let dict = dict_whole u.dict f.dict k8.0 in
    let keyset = keyset_whole u.keyset f.keyset k8.1 in
    λ i. record {
      uninit = u.uninit;
      null = k1.0 i;
      no = k2.0 i;
      yes = k3.0 i;
      int = int i;
      str = str i;
      obj = obj i;
      vec = vec i;
      dict = dict i;
      keyset = keyset i;
    }

-- without classes
whole_is : (t : TypeParts) → TypeFits t → is_whole t.t ≡ true → t ≡ record { t = cell_with t.t.uninit; classes = [] }
whole_is t f h =
    let e = whole_is_cell t f h in
    let none : t.classes ≡ [] = sym f.named ∙ ap (λ (u : HType). named_classes t.classes u) e in
    ap₂ (λ (u : HType) (names : List Name). record { t = u; classes = names }) e none

cell_written : (b : Bool) (t : TypeParts) → t ≡ record { t = cell_with b; classes = [] } → TypeWritten (written_whole b) t
cell_written true t e = record {
  spelled = record { value = UninitCell; word = refl; is = e };
  inner = inner_both 124 _ _ refl (λ w. refl) (inner_word _ refl) (inner_word _ refl);
}
cell_written false t e = record { spelled = record { value = CellType; word = refl; is = e }; inner = inner_word _ refl }

-- ---- types

pub type_written : (t : TypeParts) → type_fits t ≡ true → TypeWritten (written_type t.classes t.t) t
type_written t h = go (is_whole t.t) refl
  where
    go : (b : Bool) → is_whole t.t ≡ b → TypeWritten (if b then written_whole t.t.uninit else written_type_atoms (atoms_of t.classes t.t)) t
    go true w =
        let f = type_facts t h in
        cell_written t.t.uninit t (whole_is t f w)
    go false w = atoms_type (atoms_of t.classes t.t) t (type_part t (type_facts t h))

pub type_spelled : (t : TypeParts) → type_fits t ≡ true → AType (type_tokens (written_type t.classes t.t)) t
type_spelled t h = (type_written t h).spelled

-- ---- constraints: each container is whole, so that all atoms are plain

abbrev plain_atoms : List Name → HType → List Atom
plain_atoms names t =
    scalar_atoms names t ++ (atom (not (is_absent t.vec)) Vec ++ (atom (not (is_absent t.dict)) Dict ++ atom (not (is_absent t.keyset)) Keyset))

vec_plain : (names : List Name) (o : Option Leaf) → where_there whole_leaf o ≡ true → vec_atoms names o ≡ plains (atom (not (is_absent o)) Vec)
vec_plain names None h = refl
vec_plain names (Some l) h = ap (λ (b : Bool). (if b then plain Vec else VecOf (written_leaf names l)) ∷ []) h

dict_plain : (names : List Name) (o : Option (Leaf × Leaf)) → where_there is_all_entries o ≡ true → dict_atoms names o ≡ plains (atom (not (is_absent o)) Dict)
dict_plain names None h = refl
dict_plain names (Some e) h =
    let p = and_parts (is_all_keys e.0) (whole_leaf e.1) h in
    let whole : whole_entry e ≡ true = and_from (whole_key e.0) (whole_leaf e.1) (and_parts (has_keys_alone e.0) (whole_key e.0) p.0).1 p.1 in
    ap (λ (b : Bool). (if b then plain Dict else DictOf (written_key e.0) (written_leaf names e.1)) ∷ []) whole

keyset_plain : (o : Option Leaf) → where_there is_all_keys o ≡ true → keyset_atoms o ≡ plains (atom (not (is_absent o)) Keyset)
keyset_plain None h = refl
keyset_plain (Some k) h =
    ap (λ (b : Bool). (if b then plain Keyset else KeysetOf (written_key k)) ∷ []) (and_parts (has_keys_alone k) (whole_key k) h).1

all_plain : (names : List Name) (t : HType) → WholeKinds t → atoms_of names t ≡ plains (plain_atoms names t)
all_plain names t b =
    let vec = atom (not (is_absent t.vec)) Vec in
    let dict = atom (not (is_absent t.dict)) Dict in
    let keyset = atom (not (is_absent t.keyset)) Keyset in
    let join = λ (l m : List TypeAtom). l ++ m in
    let behind : dict_atoms names t.dict ++ keyset_atoms t.keyset ≡ plains (dict ++ keyset) =
    ap₂ join (dict_plain names t.dict b.dict) (keyset_plain t.keyset b.keyset) ∙ sym (plains_both dict keyset) in
    let containers : container_atoms names t ≡ plains (vec ++ (dict ++ keyset)) = ap₂ join (vec_plain names t.vec b.vec) behind ∙ sym (plains_both vec (dict ++ keyset)) in
    ap₂ (λ (u : Bool) (l : List TypeAtom). uninit_atoms u ++ (plains (scalar_atoms names t) ++ l)) b.uninit containers
    ∙ sym (plains_both (scalar_atoms names t) (vec ++ (dict ++ keyset)))

broad_bools : (no yes : Bool) → agree no yes ≡ true → list_all is_broad (bool_atoms no yes) ≡ true
broad_bools true true h = refl
broad_bools true false h = absurd (cc)
broad_bools false true h = absurd (cc)
broad_bools false false h = refl

broad_ints : (p : IntPart) → no_one_int p ≡ true → list_all is_broad (int_atoms p) ≡ true
broad_ints ints.No h = refl
broad_ints (ints.One i) h = absurd (cc)
broad_ints ints.Any h = refl

broad_strs : (p : StrPart) → no_one_str p ≡ true → list_all is_broad (str_atoms p) ≡ true
broad_strs strs.No h = refl
broad_strs (strs.One s) h = absurd (cc)
broad_strs strs.Any h = refl

broad_objs : (names : List Name) (p : ObjPart) → no_one_class p ≡ true → list_all is_broad (obj_atoms names p) ≡ true
broad_objs names objs.No h = refl
broad_objs names (objs.Exact c) h = absurd (cc)
broad_objs names (objs.Sub c) h = refl
broad_objs names objs.Any h = refl

broad_switch : (b : Bool) (a : Atom) → is_broad a ≡ true → list_all is_broad (atom b a) ≡ true
broad_switch true a h = and_from (is_broad a) true h refl
broad_switch false a h = refl

broad_atoms : (names : List Name) (t : HType) → WholeKinds t → list_all is_broad (plain_atoms names t) ≡ true
broad_atoms names t b =
    let null = atom t.null Null in
    let bools = bool_atoms t.no t.yes in
    let int = int_atoms t.int in
    let str = str_atoms t.str in
    let obj = obj_atoms names t.obj in
    let vec = atom (not (is_absent t.vec)) Vec in
    let dict = atom (not (is_absent t.dict)) Dict in
    let keyset = atom (not (is_absent t.keyset)) Keyset in
    all_both is_broad (scalar_atoms names t) (vec ++ (dict ++ keyset))
    (all_both is_broad null (bools ++ (int ++ (str ++ obj))) (broad_switch t.null Null refl)
    (all_both is_broad bools (int ++ (str ++ obj)) (broad_bools t.no t.yes b.bools)
    (all_both is_broad int (str ++ obj) (broad_ints t.int b.int) (all_both is_broad str obj (broad_strs t.str b.str) (broad_objs names t.obj b.obj)))))
    (all_both is_broad vec (dict ++ keyset) (broad_switch (not (is_absent t.vec)) Vec refl)
    (all_both is_broad dict keyset (broad_switch (not (is_absent t.dict)) Dict refl) (broad_switch (not (is_absent t.keyset)) Keyset refl)))

plains_spelled : (xs : List Atom) → AllFit (plains xs) → AllSpelled AnAtom atom_tokens xs
plains_spelled [] h = tt
plains_spelled (a ∷ xs) h = (h.0.spelled, plains_spelled xs h.1)

plains_climbed : (least : ℕ) (xs : List Atom) (most : ℕ) → Climbs type_line least (plains xs) most → Climbs line least xs most
plains_climbed least [] most h = h
plains_climbed least (a ∷ xs) most h = (h.0, plains_climbed (suc (line a)) xs most h.1)

plains_tokens : (xs : List Atom) → map type_atom_tokens (plains xs) ≡ map atom_tokens xs
plains_tokens [] = refl
plains_tokens (a ∷ xs) = ap (λ (l : List (List Token)). atom_tokens a ∷ l) (plains_tokens xs)

plains_mapped : (xs : List Atom) → plains xs ≡ map Plain xs
plains_mapped [] = refl
plains_mapped (a ∷ xs) = ap (λ (l : List TypeAtom). plain a ∷ l) (plains_mapped xs)

plains_constraint : (xs : List Atom) (t : TypeParts) → TypePart 0 (plains xs) 9 t.classes 0 never t.t → list_all is_broad xs ≡ true → is_never t.t ≡ false
    → AConstraint (type_tokens (written_type_atoms (plains xs))) t
plains_constraint [] t p b n =
    let none : is_never t.t ≡ true = (never_is_never t.t).1 (sym p.is) in
    let both : true ≡ false = sym none ∙ n in
    absurd (cc)
plains_constraint (a ∷ xs) t p b n =
    let ts = atom_tokens a ++ flat_map barred (map atom_tokens xs) in
    let same : atom_tokens a ++ flat_map barred (map type_atom_tokens (plains xs)) ≡ ts = ap (λ (l : List (List Token)). atom_tokens a ++ flat_map barred l) (plains_tokens xs) in
    subst (λ (l : List Token). AConstraint l t) (sym same) (record {
      value = Of (a ∷ xs);
      word = ((separated_spelled AnAtom atom_tokens a xs p.fits.0.spelled (plains_spelled xs p.fits.1), climbs_ascend line 0 (a ∷ xs) 9 (plains_climbed 0 (a ∷ xs) 9 p.climbs)), b);
      is = part_is_type (plains (a ∷ xs)) t p ∙ ap of_atoms (plains_mapped (a ∷ xs));
    })

cell_constraint : (b : Bool) (t : TypeParts) → b ≡ false → t ≡ record { t = cell_with b; classes = [] } → AConstraint (type_tokens (written_whole b)) t
cell_constraint true t h e = absurd (cc)
cell_constraint false t h e = record { value = Cell; word = refl; is = e }

pub constraint_spelled : (t : TypeParts) → constraint_fits t ≡ true → AConstraint (type_tokens (written_type t.classes t.t)) t
constraint_spelled t h = go (is_whole t.t) refl
  where
    go : (b : Bool) → is_whole t.t ≡ b → AConstraint (type_tokens (if b then written_whole t.t.uninit else written_type_atoms (atoms_of t.classes t.t))) t
    go true w =
        let p = and_parts (type_fits t) (is_constraint t.t) h in
        cell_constraint t.t.uninit t (constraint_parts t.t p.1).0.uninit (whole_is t (type_facts t p.0) w)
    go false w =
        let p = and_parts (type_fits t) (is_constraint t.t) h in
        let c = constraint_parts t.t p.1 in
        let b = c.0 in
        let xs = plain_atoms t.classes t.t in
        let same = all_plain t.classes t.t b in
        let part = subst (λ (l : List TypeAtom). TypePart 0 l 9 t.classes 0 never t.t) same (type_part t (type_facts t p.0)) in
        subst (λ (l : List TypeAtom). AConstraint (type_tokens (written_type_atoms l)) t) (sym same)
        (plains_constraint xs t part (broad_atoms t.classes t.t b) c.1)
