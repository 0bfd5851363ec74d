-- Atoms of a line from one on.
use Rattle.std.proofs.Common.{◌≡◌, ◌≤◌, ◌<◌, ◌&&◌, not, nat_eq, suc, ℕ, Bool, true, false, List, [], ◌∷◌, ◌++◌, refl, sym, ap, ◌∙◌, subst, Err, arith, lit≤, codes}
use Rattle.hhas_lex.specs.Tokens as tokens
use Rattle.hhas_lex.specs.Tokens.{Token, Word, Mark, front}
use Rattle.hhbc_repo.specs.Languages.{Lang}
use Rattle.hhas_read.specs.Lists.{More}
use Rattle.hhas_read.proofs.Rising as rising
use Rattle.hhbc_repo.specs.TypeSyntax.{AnAtom, line}
use Rattle.hhas_read.specs.declared.atoms.Atom.{Atom}
use Rattle.hhas_read.specs.declared.atoms.Atom.TheVariants as atoms
use Rattle.hhas_read.specs.declared.atoms.Head.{Head}
use Rattle.hhas_read.specs.declared.reader.Stop.{Stop}
use Rattle.hhas_read.specs.Atoms.{Tail}
use Rattle.hhas_read.specs.LeafSyntax.{AtomFrom, AtomsFrom, among, head_among, head_line, last_line}
use Rattle.hhas_read.specs.Reading.{Placed, Past, Reads, StuckAt, Taken, Viable, next}
use Rattle.hhas_read.specs.Written.{AnAtomOf, atom_of, head_name, ends_atom, ends_type}
use Rattle.hhas_read.proofs.Heads.{head_of, head_resumes, same_head, split}
use Rattle.hhas_read.proofs.OneAtom.{atom_same}
use Rattle.hhas_read.proofs.Resuming.{Resumes, past_none}
use Rattle.hhas_read.proofs.Rising.{Same}
use Rattle.hhas_read.proofs.Reserved.{never_both}

pub line_of : (a : Atom) → line (atom_of a) ≡ head_line (head_of a)
line_of atoms.Null = refl
line_of atoms.False = refl
line_of atoms.True = refl
line_of atoms.Bools = refl
line_of atoms.Int = refl
line_of (atoms.OneInt i) = refl
line_of atoms.Str = refl
line_of (atoms.OneStr s) = refl
line_of atoms.Obj = refl
line_of (atoms.Exact c) = refl
line_of (atoms.Sub c) = refl
line_of atoms.Vec = refl
line_of atoms.Dict = refl
line_of atoms.Keyset = refl

among_of : (keys : Bool) (a : Atom) → among keys (atom_of a) ≡ head_among keys (head_of a)
among_of false a = refl
among_of true atoms.Null = refl
among_of true atoms.False = refl
among_of true atoms.True = refl
among_of true atoms.Bools = refl
among_of true atoms.Int = refl
among_of true (atoms.OneInt i) = refl
among_of true atoms.Str = refl
among_of true (atoms.OneStr s) = refl
among_of true atoms.Obj = refl
among_of true (atoms.Exact c) = refl
among_of true (atoms.Sub c) = refl
among_of true atoms.Vec = refl
among_of true atoms.Dict = refl
among_of true atoms.Keyset = refl

pub tail_head : (h : Head) (ts : List Token) (a : Atom) → AnAtomOf (Word (head_name h) ∷ ts) a → head_of a ≡ h
tail_head h ts a n = let s = split (Word (head_name h) ∷ ts) a n in same_head (head_of a) h (sym (ap front s.1))

pub from_resumes : (keys : Bool) (least : ℕ) (h : Head) (left : List Token) → least ≤ head_line h → head_among keys h ≡ true
    → Resumes ends_atom (AtomFrom keys least) (Word (head_name h) ∷ []) (Tail h) (λ v. v) left
from_resumes keys least h left low fits = record {
  on = λ ts u m.
      let n = (head_resumes ends_atom h left).on ts u m in
      let is = tail_head h ts u n in
      (n, subst (λ k. least ≤ k) (sym (line_of u ∙ ap head_line is)) low, among_of keys u ∙ ap (head_among keys) is ∙ fits);
  back = λ w v x y n o g e. (head_resumes ends_atom h left).back w v x y n.0 o g e;
}

-- some atom stands from a line on
pub from_some : (keys : Bool) (least : ℕ) → least ≤ last_line keys → Viable (AtomFrom keys least) []
from_some true least low = record { more = Word (codes "Str") ∷ []; value = atoms.Str; word = ((refl, tt), low, refl); proper = refl }
from_some false least low = record { more = Word (codes "Keyset") ∷ []; value = atoms.Keyset; word = ((refl, tt), low, refl); proper = refl }

pub from_stuck : (keys : Bool) (least : ℕ) (p : Placed) → least ≤ last_line keys
    → ((h : Head) → next p ≡ Word (head_name h) → least ≤ head_line h → head_among keys h ≡ true → ⊥) → StuckAt ends_atom (AtomFrom keys least) p p
from_stuck keys least p low other = record {
  read = [];
  past = past_none p;
  viable = from_some keys least low;
  dead = λ w v x y n o e.
      let s = split w v n.0 in
      other (head_of v) (ap front (sym e) ∙ ap front (ap (λ l. l ++ x) s.1)) (subst (λ k. least ≤ k) (line_of v) n.1) (sym (among_of keys v) ∙ n.2);
}

-- the head that is next may not stand here
pub head_stuck : (keys : Bool) (least : ℕ) (p : Placed) (h : Head) → least ≤ last_line keys → next p ≡ Word (head_name h)
    → (least ≤ head_line h → head_among keys h ≡ true → ⊥) → StuckAt ends_atom (AtomFrom keys least) p p
head_stuck keys least p h low is other =
    from_stuck keys least p low (λ k e. let same = same_head h k (sym is ∙ e) in subst (λ z. least ≤ head_line z → head_among keys z ≡ true → ⊥) same other)

pub from_same : (keys : Bool) (least : ℕ) → Same ends_atom (AtomFrom keys least)
from_same keys least a b x y v w n m o p e = atom_same a b x y v w n.0 m.0 o p e

-- the last line is the last
pub none_after : (keys : Bool) (a : Atom) → among keys (atom_of a) ≡ true → line (atom_of a) ≤ last_line keys
none_after false atoms.Null e = lit≤ tt
none_after false atoms.False e = lit≤ tt
none_after false atoms.True e = lit≤ tt
none_after false atoms.Bools e = lit≤ tt
none_after false atoms.Int e = lit≤ tt
none_after false (atoms.OneInt i) e = lit≤ tt
none_after false atoms.Str e = lit≤ tt
none_after false (atoms.OneStr s) e = lit≤ tt
none_after false atoms.Obj e = lit≤ tt
none_after false (atoms.Exact c) e = lit≤ tt
none_after false (atoms.Sub c) e = lit≤ tt
none_after false atoms.Vec e = lit≤ tt
none_after false atoms.Dict e = lit≤ tt
none_after false atoms.Keyset e = lit≤ tt
none_after true atoms.Int e = lit≤ tt
none_after true (atoms.OneInt i) e = lit≤ tt
none_after true atoms.Str e = lit≤ tt
none_after true (atoms.OneStr s) e = lit≤ tt
none_after true atoms.Null e = absurd (never_both (sym e))
none_after true atoms.False e = absurd (never_both (sym e))
none_after true atoms.True e = absurd (never_both (sym e))
none_after true atoms.Bools e = absurd (never_both (sym e))
none_after true atoms.Obj e = absurd (never_both (sym e))
none_after true (atoms.Exact c) e = absurd (never_both (sym e))
none_after true (atoms.Sub c) e = absurd (never_both (sym e))
none_after true atoms.Vec e = absurd (never_both (sym e))
none_after true atoms.Dict e = absurd (never_both (sym e))
none_after true atoms.Keyset e = absurd (never_both (sym e))

-- ---- lists of atoms

-- what goes on with no type goes on with no atom
pub wider : (t : Token) → ends_type t ≡ true → ends_atom t ≡ true
wider (tokens.Directive w) e = refl
wider (tokens.Word w) e = refl
wider (tokens.Local w) e = refl
wider (tokens.Integer w) e = refl
wider (tokens.Str w) e = refl
wider (tokens.Mark b) e = all_three (not (nat_eq b 61)) (not (nat_eq b 60)) (not (nat_eq b 124)) e
  where
    all_three : (x y z : Bool) → x && y && z ≡ true → x && y ≡ true
    all_three true true z e = refl
    all_three true false z e = e
    all_three false y z e = e
wider tokens.LessEqual e = e
wider tokens.End e = refl
wider tokens.Bad e = refl

module _ (keys : Bool) where
  -- what stands behind an atom
  abbrev pub MoreAtoms : ℕ → Lang (List Atom)
  MoreAtoms = More atom_of AnAtom line (among keys)

  pub to_more_atoms : (least : ℕ) (start old mid : Placed) (out : List Atom) (v : Atom)
      → (inv : (used : List Token) × Past used start old × Resumes ends_type (AtomsFrom keys 0) used (AtomsFrom keys least) (λ ys. out ++ ys) old.tokens)
      → Taken ends_atom (AtomFrom keys least) old mid v
      → (used : List Token) × Past used start mid × Resumes ends_type (AtomsFrom keys 0) used (MoreAtoms (suc (line (atom_of v)))) (λ us. out ++ (v ∷ us)) mid.tokens
  to_more_atoms least start old mid out v inv t =
      rising.to_more atom_of AnAtom line (among keys) ends_type ends_atom wider refl (AtomsFrom keys 0) least start old mid out v (from_same keys least) inv t

  pub one_more_atom : (least : ℕ) (start mid new : Placed) (out more : List Atom) (v : Atom)
      → (far : (used : List Token) × Past used start mid × Resumes ends_type (AtomsFrom keys 0) used (MoreAtoms least) (λ us. out ++ (v ∷ us)) mid.tokens)
      → next mid ≡ Mark 124 → Past (next mid ∷ []) mid new → more ≡ out ++ v ∷ []
      → (used : List Token) × Past used start new × Resumes ends_type (AtomsFrom keys 0) used (AtomsFrom keys least) (λ ys. more ++ ys) new.tokens
  one_more_atom = rising.one_more atom_of AnAtom line (among keys) ends_type ends_atom wider refl refl (AtomsFrom keys 0)

  pub atoms_end : (least : ℕ) (p : Placed) → ends_type (next p) ≡ true → Taken ends_type (MoreAtoms least) p p []
  atoms_end = rising.more_ends atom_of AnAtom line (among keys) ends_type ends_atom wider refl

  pub atoms_stuck : (least : ℕ) (p : Placed) → ends_type (next p) ≡ false → (next p ≡ Mark 124 → last_line keys < least) → StuckAt ends_type (MoreAtoms least) p p
  atoms_stuck least p f late =
      rising.more_stuck atom_of AnAtom line (among keys) ends_type ends_atom wider refl least p f
      (λ e a v n. let last = none_after keys v n.2 in let low = n.1 in let past = late e in omega (arith, last, low, past))

  pub atom_stop : (least : ℕ) (old new : Placed) (e : Stop) → Reads ends_atom (AtomFrom keys least) old (Err e) new → Reads ends_type (AtomsFrom keys least) old (Err e) new
  atom_stop = rising.first_stop atom_of AnAtom line (among keys) ends_type ends_atom wider refl
