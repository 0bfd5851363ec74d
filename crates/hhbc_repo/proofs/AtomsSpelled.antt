-- Atoms of types that fit are spelled by their tokens, and lists of them whose lines climb are spelled with bars between them.
use Rattle.std.proofs.Common.{◌≡◌, ◌≤◌, ℕ, lit≤, suc, ◌-◌, Bool, true, false, ◌&&◌, ◌==◌, if◌then◌else◌, nat_le, List, [], ◌∷◌, ◌++◌, map, length, take, drop, replicate, refl, sym, ap, ap₂, subst, ◌∙◌, arith}
use Rattle.std.specs.List.{list_all, flat_map}
use Rattle.std.specs.Str.{bytes_eq}
use Rattle.std.proofs.lemmas.Bool.{and_from, and_parts, eqb-true, le-leb, leb-true}
use Rattle.std.proofs.lemmas.Grind.{flat_map-append}
use Rattle.std.proofs.lemmas.List.{append-nil, length-take-le, take-append-drop}
use Rattle.std.proofs.lemmas.Slice.Eq.{bytes_eq-Decides}
use Rattle.hhas_lex.specs.Tokens.{Token, Word, Mark, LessEqual, Integer}
use Rattle.hhas_lex.specs.Tokens as tokens
use Rattle.hhas_lex.specs.Shape.{is_int64}
use Rattle.hhas_lex.specs.Spelling.{is_byte, is_string, is_word}
use Rattle.type_lattice.specs.declared.types.IntPart.{IntPart}
use Rattle.type_lattice.specs.declared.types.IntPart.TheVariants as ints
use Rattle.type_lattice.specs.declared.types.StrPart.{StrPart}
use Rattle.type_lattice.specs.declared.types.StrPart.TheVariants as strs
use Rattle.type_lattice.specs.declared.types.ObjPart.{ObjPart}
use Rattle.type_lattice.specs.declared.types.ObjPart.TheVariants as objs
use Rattle.type_lattice.specs.declared.types.Short.{Short}
use Rattle.type_lattice.specs.Types.{short_bytes, str_part}
use Rattle.type_lattice.specs.InRange.{short_in_range, int_in_range, str_in_range}
use Rattle.hhbc_repo.specs.CanonicalText.{barred}
use Rattle.hhbc_repo.specs.Languages.{Lang, Separated}
use Rattle.hhbc_repo.specs.LinkFaults.{Name}
use Rattle.hhbc_repo.specs.TypeSyntax.{Atom, Null, False, True, Bools, Int, OneInt, Str, OneStr, Obj, Exact, Sub, Vec, Dict, Keyset, AnAtom, atom_tokens, line, Ascend, atom_classes}
use Rattle.hhbc_repo.specs.WrittenTypes.{atom, bool_atoms, int_atoms, str_atoms, obj_atoms}
use Rattle.hhbc_repo.specs.WrittenTypes as written
use Rattle.hhbc_repo.proofs.InnerTokens.{Inner, inner_word, inner_three}
use Rattle.hhbc_repo.proofs.SpelledTypes.{all_front, all_both}

-- ---- lines that climb

-- each is at least the number and above the one before it, and all are below the other number
abbrev pub Climbs : {V : Type 0} → (V → ℕ) → ℕ → List V → ℕ → Type 0
Climbs height least [] most = least ≤ most
Climbs height least (v ∷ vs) most = (least ≤ height v) × Climbs height (suc (height v)) vs most

pub climbs_sooner : {V : Type 0} (height : V → ℕ) (least later : ℕ) (vs : List V) (most : ℕ) → least ≤ later → Climbs height later vs most → Climbs height least vs most
climbs_sooner height least later [] most h k = omega (arith, h, k)
climbs_sooner height least later (v ∷ vs) most h k = (omega (arith, h, k.0), k.1)

pub climbs_both : {V : Type 0} (height : V → ℕ) (least : ℕ) (xs : List V) (middle : ℕ) (ys : List V) (most : ℕ) → Climbs height least xs middle → Climbs height middle ys most
    → Climbs height least (xs ++ ys) most
climbs_both height least [] middle ys most h k = climbs_sooner height least middle ys most h k
climbs_both height least (x ∷ xs) middle ys most h k = (h.0, climbs_both height (suc (height x)) xs middle ys most h.1 k)

pub climbs_ascend : {V : Type 0} (height : V → ℕ) (least : ℕ) (vs : List V) (most : ℕ) → Climbs height least vs most → Ascend least (map height vs)
climbs_ascend height least [] most h = tt
climbs_ascend height least (v ∷ vs) most h = (h.0, climbs_ascend height (suc (height v)) vs most h.1)

-- ---- with bars between them

abbrev pub AllSpelled : {V : Type 0} → Lang V → (V → List Token) → List V → Type 0
AllSpelled A tokens_of [] = Unit {0}
AllSpelled A tokens_of (v ∷ vs) = A (tokens_of v) v × AllSpelled A tokens_of vs

pub separated_spelled : {V : Type 0} (A : Lang V) (tokens_of : V → List Token) (v : V) (vs : List V) → A (tokens_of v) v → AllSpelled A tokens_of vs
    → Separated 124 A (tokens_of v ++ flat_map barred (map tokens_of vs)) (v ∷ vs)
separated_spelled A tokens_of v [] h k = subst (λ (ts : List Token). A ts v) (sym (append-nil (tokens_of v))) h
separated_spelled A tokens_of v (u ∷ us) h k = (tokens_of v, tokens_of u ++ flat_map barred (map tokens_of us), h, separated_spelled A tokens_of u us k.0 k.1, refl)

-- ---- single atoms

abbrev pub atom_fits : Atom → Bool
atom_fits (OneInt i) = is_int64 i
atom_fits (OneStr s) = is_string s && nat_le (length s) 32
atom_fits (Exact c) = is_word c
atom_fits (Sub c) = is_word c
atom_fits _ = true

pub atom_spelled : (a : Atom) → atom_fits a ≡ true → AnAtom (atom_tokens a) a
atom_spelled (OneStr s) h = (refl, leb-true (length s) 32 (and_parts (is_string s) (nat_le (length s) 32) h).1)
atom_spelled Null h = (refl, tt)
atom_spelled False h = (refl, tt)
atom_spelled True h = (refl, tt)
atom_spelled Bools h = (refl, tt)
atom_spelled Int h = (refl, tt)
atom_spelled (OneInt i) h = (refl, tt)
atom_spelled Str h = (refl, tt)
atom_spelled Obj h = (refl, tt)
atom_spelled (Exact c) h = (refl, tt)
atom_spelled (Sub c) h = (refl, tt)
atom_spelled Vec h = (refl, tt)
atom_spelled Dict h = (refl, tt)
atom_spelled Keyset h = (refl, tt)

pub atom_inner : (a : Atom) → atom_fits a ≡ true → Inner (atom_tokens a)
atom_inner (OneInt i) h = inner_three _ (Mark 61) (Integer i) refl refl refl h refl (λ m. refl)
atom_inner (OneStr s) h = inner_three _ (Mark 61) (tokens.Str s) refl refl refl (and_parts (is_string s) (nat_le (length s) 32) h).0 refl (λ m. refl)
atom_inner (Exact c) h = inner_three _ (Mark 61) (Word c) refl refl refl h refl (λ m. refl)
atom_inner (Sub c) h = inner_three _ LessEqual (Word c) refl refl refl h refl (λ m. refl)
atom_inner Null h = inner_word _ refl
atom_inner False h = inner_word _ refl
atom_inner True h = inner_word _ refl
atom_inner Bools h = inner_word _ refl
atom_inner Int h = inner_word _ refl
atom_inner Str h = inner_word _ refl
atom_inner Obj h = inner_word _ refl
atom_inner Vec h = inner_word _ refl
atom_inner Dict h = inner_word _ refl
atom_inner Keyset h = inner_word _ refl

pub atoms_spelled : (xs : List Atom) → list_all atom_fits xs ≡ true → AllSpelled AnAtom atom_tokens xs
atoms_spelled [] h = tt
atoms_spelled (a ∷ xs) h =
    let p = and_parts (atom_fits a) (list_all atom_fits xs) h in
    (atom_spelled a p.0, atoms_spelled xs p.1)

-- ---- strings of types

pub record ShortFits (s : Short) : Type 0 where
  pub fits : atom_fits (OneStr (short_bytes s)) ≡ true
  pub back : str_part (short_bytes s) ≡ strs.One s

pub short_fits : (s : Short) → short_in_range s ≡ true → ShortFits s
short_fits s h =
    let zeros : List ℕ = replicate (32 - s.len) 0 in
    let front : List ℕ = take s.len s.bytes in
    let behind : List ℕ = drop s.len s.bytes in
    let p = and_parts (nat_le s.len 32) ((length s.bytes == 32) && (list_all is_byte s.bytes && bytes_eq behind zeros)) h in
    let q = and_parts (length s.bytes == 32) (list_all is_byte s.bytes && bytes_eq behind zeros) p.1 in
    let r = and_parts (list_all is_byte s.bytes) (bytes_eq behind zeros) q.1 in
    let least : s.len ≤ 32 = leb-true s.len 32 p.0 in
    let all : length s.bytes ≡ 32 = eqb-true (length s.bytes) 32 q.0 in
    let size : length front ≡ s.len = length-take-le s.len s.bytes (omega (arith, least, all)) in
    let ends : behind ≡ zeros = (bytes_eq-Decides behind zeros).0 r.1 in
    let whole : front ++ behind ≡ s.bytes = take-append-drop s.len s.bytes in
    let bytes : list_all is_byte front ≡ true = all_front is_byte front behind (ap (list_all is_byte) whole ∙ r.0) in
    let short : nat_le (length front) 32 ≡ true = le-leb (length front) 32 (omega (arith, size, least)) in
    let long : nat_le (length front) 1048576 ≡ true = le-leb (length front) 1048576 (omega (arith, size, least)) in
    let one : StrPart = strs.One (record { len = length front; bytes = front ++ replicate (32 - length front) 0 }) in
    let same : front ++ replicate (32 - length front) 0 ≡ s.bytes = ap (λ (n : ℕ). front ++ replicate (32 - n) 0) size ∙ ap (λ (l : List ℕ). front ++ l) (sym ends) ∙ whole in
    record {
      fits = and_from (is_string front) (nat_le (length front) 32) (and_from (list_all is_byte front) (nat_le (length front) 1048576) bytes long) short;
      back = ap (λ (b : Bool). if b then one else strs.Any) short ∙ ap₂ (λ (n : ℕ) (l : List ℕ). strs.One (record { len = n; bytes = l })) size same;
    }

-- ---- atoms of some lines, with their classes

pub record Segment (least : ℕ) (xs : List Atom) (most : ℕ) (names : List Name) : Type 0 where
  pub fits : list_all atom_fits xs ≡ true
  pub climbs : Climbs line least xs most
  pub classes : flat_map atom_classes xs ≡ names

pub segments : {least middle most : ℕ} {xs ys : List Atom} {names more : List Name} → Segment least xs middle names → Segment middle ys most more → Segment least (xs ++ ys) most (names ++ more)
segments {least = least} {middle = middle} {most = most} {xs = xs} {ys = ys} h k = record {
  fits = all_both atom_fits xs ys h.fits k.fits;
  climbs = climbs_both line least xs middle ys most h.climbs k.climbs;
  classes = flat_map-append atom_classes xs ys ∙ ap₂ (λ (l m : List Name). l ++ m) h.classes k.classes;
}

-- an atom that is there or not
pub switch_segment : (b : Bool) (a : Atom) → atom_fits a ≡ true → atom_classes a ≡ [] → Segment (line a) (atom b a) (suc (line a)) []
switch_segment true a h k = record { fits = and_from (atom_fits a) true h refl; climbs = (omega arith, omega arith); classes = append-nil (atom_classes a) ∙ k }
switch_segment false a h k = record { fits = refl; climbs = omega arith; classes = refl }

pub bools_segment : (no yes : Bool) → Segment 2 (bool_atoms no yes) 3 []
bools_segment true true = record { fits = refl; climbs = (lit≤ tt, lit≤ tt); classes = refl }
bools_segment true false = record { fits = refl; climbs = (lit≤ tt, lit≤ tt); classes = refl }
bools_segment false true = record { fits = refl; climbs = (lit≤ tt, lit≤ tt); classes = refl }
bools_segment false false = record { fits = refl; climbs = lit≤ tt; classes = refl }

pub ints_segment : (p : IntPart) → int_in_range p ≡ true → Segment 3 (int_atoms p) 4 []
ints_segment ints.No h = record { fits = refl; climbs = lit≤ tt; classes = refl }
ints_segment (ints.One i) h = record { fits = and_from (is_int64 i) true h refl; climbs = (lit≤ tt, lit≤ tt); classes = refl }
ints_segment ints.Any h = record { fits = refl; climbs = (lit≤ tt, lit≤ tt); classes = refl }

pub strs_segment : (p : StrPart) → str_in_range p ≡ true → Segment 4 (str_atoms p) 5 []
strs_segment strs.No h = record { fits = refl; climbs = lit≤ tt; classes = refl }
strs_segment (strs.One s) h = record { fits = and_from (atom_fits (OneStr (short_bytes s))) true (short_fits s h).fits refl; climbs = (lit≤ tt, lit≤ tt); classes = refl }
strs_segment strs.Any h = record { fits = refl; climbs = (lit≤ tt, lit≤ tt); classes = refl }

pub objs_segment : (names : List Name) (p : ObjPart) → list_all is_word (written.obj_classes names p) ≡ true → Segment 5 (obj_atoms names p) 6 (written.obj_classes names p)
objs_segment names objs.No h = record { fits = refl; climbs = lit≤ tt; classes = refl }
objs_segment names (objs.Exact c) h = record { fits = h; climbs = (lit≤ tt, lit≤ tt); classes = refl }
objs_segment names (objs.Sub c) h = record { fits = h; climbs = (lit≤ tt, lit≤ tt); classes = refl }
objs_segment names objs.Any h = record { fits = refl; climbs = (lit≤ tt, lit≤ tt); classes = refl }
