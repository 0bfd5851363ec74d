-- Atoms of types of a line from one on.
use Rattle.std.proofs.Common.{◌≡◌, ◌≤◌, ◌<◌, suc, ℕ, true, false, List, [], ◌∷◌, ◌++◌, refl, sym, ap, ◌∙◌, subst, arith, lit≤, Err, inl, inr, codes}
use Rattle.hhas_lex.specs.Tokens.{Token, Word, Mark, front}
use Rattle.hhbc_repo.specs.Languages.{Lang, Says, Means}
use Rattle.hhbc_repo.specs.TypeSyntax.{ATypeAtom, type_line}
use Rattle.hhas_read.specs.declared.reader.Stop.{Stop}
use Rattle.hhas_read.specs.declared.atoms.Atom.TheVariants as atoms
use Rattle.hhas_read.specs.declared.atoms.Head.{Head}
use Rattle.hhas_read.specs.declared.atoms.Head.TheVariants as heads
use Rattle.hhas_read.specs.declared.types.TypeAtom.{TypeAtom}
use Rattle.hhas_read.specs.declared.types.TypeAtom.TheVariants as types
use Rattle.hhas_read.specs.Atoms.{Tail}
use Rattle.hhas_read.specs.LeafSyntax.{KeyAndLeaf, KeyTo, LeafTo, head_line}
use Rattle.hhas_read.specs.Lists.{More}
use Rattle.hhas_read.specs.Reading.{Placed, Past, Follow, Reads, StuckAt, Taken, next}
use Rattle.hhas_read.specs.TypeWords.{ATypeAtomOf, TypeTail, dict_of, type_atom_of}
use Rattle.hhas_read.specs.WholeTypes.{TypeAtomFrom, TypeAtomsBehind, TypeAtomsFrom}
use Rattle.hhas_read.specs.Written.{ends_atom, ends_type, head_name}
use Rattle.hhas_read.proofs.Apart.{to_both, to_key, to_leaf}
use Rattle.hhas_read.proofs.Following.{nothing_avoids}
use Rattle.hhas_read.proofs.Heads.{joined}
use Rattle.hhas_read.proofs.Lines.{line_of, none_after, tail_head, wider}
use Rattle.hhas_read.proofs.OneAtom.{nothing_same, right_same, tail_same}
use Rattle.hhas_read.proofs.Resuming.{Resumes, cancel, past_none}
use Rattle.hhas_read.proofs.Rising as rising
use Rattle.hhas_read.proofs.Rising.{Same}
use Rattle.hhas_read.proofs.TypeHeads.{type_resumes, type_split, uninit_resumes}

-- ---- an atom of a type stands apart from what follows it

means_same : {V W : Type 0} (F : Follow) (f : V → W) (A : Lang V) → Same F A → Same F (Means f A)
means_same F f A same a b x y v w n m o p e = let s = same a b x y n.value m.value n.word m.word o p e in (s.0, n.is ∙ ap f s.1 ∙ sym m.is)

type_tail_same : (h : Head) → Same ends_atom (TypeTail h)
type_tail_same heads.Null = means_same ends_atom types.Plain (Tail heads.Null) (tail_same heads.Null)
type_tail_same heads.False = means_same ends_atom types.Plain (Tail heads.False) (tail_same heads.False)
type_tail_same heads.True = means_same ends_atom types.Plain (Tail heads.True) (tail_same heads.True)
type_tail_same heads.Bools = means_same ends_atom types.Plain (Tail heads.Bools) (tail_same heads.Bools)
type_tail_same heads.Int = means_same ends_atom types.Plain (Tail heads.Int) (tail_same heads.Int)
type_tail_same heads.Str = means_same ends_atom types.Plain (Tail heads.Str) (tail_same heads.Str)
type_tail_same heads.Obj = means_same ends_atom types.Plain (Tail heads.Obj) (tail_same heads.Obj)
type_tail_same heads.Vec =
    right_same ends_atom (Says [] (types.Plain atoms.Vec)) (Mark 60) types.VecOf LeafTo (nothing_avoids ends_atom (types.Plain atoms.Vec) (Mark 60) refl)
    (nothing_same ends_atom (types.Plain atoms.Vec)) to_leaf
type_tail_same heads.Dict =
    right_same ends_atom (Says [] (types.Plain atoms.Dict)) (Mark 60) dict_of KeyAndLeaf (nothing_avoids ends_atom (types.Plain atoms.Dict) (Mark 60) refl)
    (nothing_same ends_atom (types.Plain atoms.Dict)) to_both
type_tail_same heads.Keyset =
    right_same ends_atom (Says [] (types.Plain atoms.Keyset)) (Mark 60) types.KeysetOf (KeyTo 62) (nothing_avoids ends_atom (types.Plain atoms.Keyset) (Mark 60) refl)
    (nothing_same ends_atom (types.Plain atoms.Keyset)) (to_key 62 refl refl)

pub type_atom_same : Same ends_atom ATypeAtomOf
type_atom_same a b x y v w n m o p e = by_last w m
  where
    headed : (w : TypeAtom) → (w ≡ types.Uninit → ⊥) → ATypeAtomOf b w → (a ≡ b) × (v ≡ w)
    headed w other m =
        let s = type_split b w other m in
        let t = (type_resumes ends_atom s.0 (s.1 ++ y)).back a v x (s.1 ++ y) n o refl (e ∙ ap (λ l. l ++ y) s.2) in
        let both = type_tail_same s.0 t.0 s.1 x y t.1 w t.2 s.3 o p
        (cancel (Word (head_name s.0) ∷ []) _ _ (sym (ap (λ l. l ++ x) t.3) ∙ e ∙ ap (λ l. l ++ y) s.2)) in
        (t.3 ∙ ap (λ l. Word (head_name s.0) ∷ l) both.0 ∙ sym s.2, t.4 ∙ both.1)

    by_last : (w : TypeAtom) → ATypeAtomOf b w → (a ≡ b) × (v ≡ w)
    by_last types.Uninit m =
        let t = (uninit_resumes ends_atom y).back a v x y n o refl (e ∙ ap (λ l. l ++ y) m) in
        (t.3 ∙ ap (λ l. Word (codes "Uninit") ∷ l) t.2.0 ∙ sym m, t.4 ∙ t.2.1)
    by_last (types.Plain c) m = headed (types.Plain c) (λ d. absurd (cc d)) m
    by_last (types.VecOf c) m = headed (types.VecOf c) (λ d. absurd (cc d)) m
    by_last (types.DictOf c d) m = headed (types.DictOf c d) (λ d. absurd (cc d)) m
    by_last (types.KeysetOf c) m = headed (types.KeysetOf c) (λ d. absurd (cc d)) m

-- ---- lines

plain_line : (h : Head) (ts : List Token) (a : TypeAtom) → Means types.Plain (Tail h) ts a → type_line (type_atom_of a) ≡ head_line h
plain_line h ts a m = ap (λ z. type_line (type_atom_of z)) m.is ∙ line_of m.value ∙ ap head_line (tail_head h ts m.value (joined h ts m.value m.word))

pub tail_line : (h : Head) (ts : List Token) (a : TypeAtom) → TypeTail h ts a → type_line (type_atom_of a) ≡ head_line h
tail_line heads.Null ts a m = plain_line heads.Null ts a m
tail_line heads.False ts a m = plain_line heads.False ts a m
tail_line heads.True ts a m = plain_line heads.True ts a m
tail_line heads.Bools ts a m = plain_line heads.Bools ts a m
tail_line heads.Int ts a m = plain_line heads.Int ts a m
tail_line heads.Str ts a m = plain_line heads.Str ts a m
tail_line heads.Obj ts a m = plain_line heads.Obj ts a m
tail_line heads.Vec ts a (inl m) = ap (λ z. type_line (type_atom_of z)) m.1
tail_line heads.Vec ts a (inr m) = ap (λ z. type_line (type_atom_of z)) m.word.is
tail_line heads.Dict ts a (inl m) = ap (λ z. type_line (type_atom_of z)) m.1
tail_line heads.Dict ts a (inr m) = ap (λ z. type_line (type_atom_of z)) m.word.is
tail_line heads.Keyset ts a (inl m) = ap (λ z. type_line (type_atom_of z)) m.1
tail_line heads.Keyset ts a (inr m) = ap (λ z. type_line (type_atom_of z)) m.word.is

pub type_from_resumes : (least : ℕ) (h : Head) (left : List Token) → least ≤ head_line h
    → Resumes ends_atom (TypeAtomFrom least) (Word (head_name h) ∷ []) (TypeTail h) (λ v. v) left
type_from_resumes least h left low = record {
  on = λ ts u m. ((type_resumes ends_atom h left).on ts u m, subst (λ k. least ≤ k) (sym (tail_line h ts u m)) low, refl);
  back = λ w v x y n o g e. (type_resumes ends_atom h left).back w v x y n.0 o g e;
}

-- from the first line on none is Uninit
pub no_uninit : (least : ℕ) (a : TypeAtom) → 1 ≤ least → least ≤ type_line (type_atom_of a) → a ≡ types.Uninit → ⊥
no_uninit least a some low is = let none = subst (λ z. least ≤ type_line (type_atom_of z)) is low in omega (arith, some, none)

pub type_from_stuck : (least : ℕ) (p : Placed) → 1 ≤ least → least ≤ 8 → ((h : Head) → next p ≡ Word (head_name h) → least ≤ head_line h → ⊥)
    → StuckAt ends_atom (TypeAtomFrom least) p p
type_from_stuck least p some high other = record {
  read = [];
  past = past_none p;
  viable = record { more = Word (codes "Keyset") ∷ []; value = types.Plain atoms.Keyset; word = ((refl, tt), high, refl); proper = refl };
  dead = λ w v x y n o e.
      let s = type_split w v (no_uninit least v some n.1) n.0 in
      other s.0 (ap front (sym e) ∙ ap front (ap (λ l. l ++ x) s.2)) (subst (λ k. least ≤ k) (tail_line s.0 s.1 v s.3) n.1);
}

pub type_from_same : (least : ℕ) → Same ends_atom (TypeAtomFrom least)
type_from_same least a b x y v w n m o p e = type_atom_same a b x y v w n.0 m.0 o p e

-- the last line is the last
pub none_of_types_after : (a : TypeAtom) → type_line (type_atom_of a) ≤ 8
none_of_types_after types.Uninit = lit≤ tt
none_of_types_after (types.Plain a) = none_after false a refl
none_of_types_after (types.VecOf a) = lit≤ tt
none_of_types_after (types.DictOf a b) = lit≤ tt
none_of_types_after (types.KeysetOf a) = lit≤ tt

-- ---- lists of them

-- what stands behind an atom
abbrev pub MoreTypes : ℕ → Lang (List TypeAtom)
MoreTypes = More type_atom_of ATypeAtom type_line (λ a. true)

module _ (first : List TypeAtom) where
  pub to_more_types : (least : ℕ) (start old mid : Placed) (out : List TypeAtom) (v : TypeAtom)
      → (inv : (used : List Token) × Past used start old × Resumes ends_type (TypeAtomsBehind first) used (TypeAtomsFrom least) (λ ys. out ++ ys) old.tokens)
      → Taken ends_atom (TypeAtomFrom least) old mid v
      → (used : List Token) × Past used start mid × Resumes ends_type (TypeAtomsBehind first) used (MoreTypes (suc (type_line (type_atom_of v)))) (λ us. out ++ (v ∷ us)) mid.tokens
  to_more_types least start old mid out v inv t =
      rising.to_more type_atom_of ATypeAtom type_line (λ a. true) ends_type ends_atom wider refl (TypeAtomsBehind first) least start old mid out v (type_from_same least) inv t

  pub one_more_type : (least : ℕ) (start mid new : Placed) (out more : List TypeAtom) (v : TypeAtom)
      → (far : (used : List Token) × Past used start mid × Resumes ends_type (TypeAtomsBehind first) used (MoreTypes least) (λ us. out ++ (v ∷ us)) mid.tokens)
      → next mid ≡ Mark 124 → Past (next mid ∷ []) mid new → more ≡ out ++ v ∷ []
      → (used : List Token) × Past used start new × Resumes ends_type (TypeAtomsBehind first) used (TypeAtomsFrom least) (λ ys. more ++ ys) new.tokens
  one_more_type = rising.one_more type_atom_of ATypeAtom type_line (λ a. true) ends_type ends_atom wider refl refl (TypeAtomsBehind first)

pub types_end : (least : ℕ) (p : Placed) → ends_type (next p) ≡ true → Taken ends_type (MoreTypes least) p p []
types_end = rising.more_ends type_atom_of ATypeAtom type_line (λ a. true) ends_type ends_atom wider refl

pub types_stuck : (least : ℕ) (p : Placed) → ends_type (next p) ≡ false → (next p ≡ Mark 124 → 8 < least) → StuckAt ends_type (MoreTypes least) p p
types_stuck least p f late =
    rising.more_stuck type_atom_of ATypeAtom type_line (λ a. true) ends_type ends_atom wider refl least p f
    (λ e a v n. let last = none_of_types_after v in let low = n.1 in let past = late e in omega (arith, last, low, past))

pub types_stop : (least : ℕ) (old new : Placed) (e : Stop) → Reads ends_atom (TypeAtomFrom least) old (Err e) new → Reads ends_type (TypeAtomsFrom least) old (Err e) new
types_stop = rising.first_stop type_atom_of ATypeAtom type_line (λ a. true) ends_type ends_atom wider refl
