-- Atoms by the words that they begin with.
use Rattle.std.proofs.Common.{◌≡◌, ℕ, List, [], ◌∷◌, ◌++◌, if◌then◌else◌, nat_eq, refl, sym, ap, ◌∙◌, subst, inl, inr}
use Rattle.hhas_lex.specs.Tokens.{Token, Word, Mark, LessEqual, front}
use Rattle.hhas_read.specs.declared.atoms.Atom.{Atom}
use Rattle.hhas_read.specs.declared.atoms.Atom.TheVariants as atoms
use Rattle.hhas_read.specs.declared.atoms.Head.{Head}
use Rattle.hhas_read.specs.declared.atoms.Head.TheVariants as heads
use Rattle.hhas_read.specs.Atoms.{Tail}
use Rattle.hhas_read.specs.Reading.{Follow, Placed, StuckAt, next}
use Rattle.hhas_read.specs.Written.{AnAtomOf, head_name}
use Rattle.hhas_read.proofs.Resuming.{Resumes, past_none}
use Rattle.hhas_read.proofs.Said.{same_word}

-- ---- the first letters of the words differ

abbrev by_letter : List ℕ → Head
by_letter [] = heads.Null
by_letter (n ∷ w) =
    if nat_eq n 78
    then heads.Null
    else if nat_eq n 70
    then heads.False
    else if nat_eq n 84
    then heads.True
    else if nat_eq n 66
    then heads.Bools
    else if nat_eq n 73
    then heads.Int
    else if nat_eq n 83
    then heads.Str
    else if nat_eq n 79
    then heads.Obj
    else if nat_eq n 86
    then heads.Vec
    else if nat_eq n 68
    then heads.Dict
    else heads.Keyset

letter_of : (h : Head) → by_letter (head_name h) ≡ h
letter_of heads.Null = refl
letter_of heads.False = refl
letter_of heads.True = refl
letter_of heads.Bools = refl
letter_of heads.Int = refl
letter_of heads.Str = refl
letter_of heads.Obj = refl
letter_of heads.Vec = refl
letter_of heads.Dict = refl
letter_of heads.Keyset = refl

pub same_head : (h k : Head) → Word (head_name h) ≡ Word (head_name k) → h ≡ k
same_head h k e = sym (letter_of h) ∙ ap by_letter (same_word (head_name h) (head_name k) e) ∙ letter_of k

-- ---- the head of an atom, and what is behind it

abbrev pub head_of : Atom → Head
head_of atoms.Null = heads.Null
head_of atoms.False = heads.False
head_of atoms.True = heads.True
head_of atoms.Bools = heads.Bools
head_of atoms.Int = heads.Int
head_of (atoms.OneInt i) = heads.Int
head_of atoms.Str = heads.Str
head_of (atoms.OneStr s) = heads.Str
head_of atoms.Obj = heads.Obj
head_of (atoms.Exact c) = heads.Obj
head_of (atoms.Sub c) = heads.Obj
head_of atoms.Vec = heads.Vec
head_of atoms.Dict = heads.Dict
head_of atoms.Keyset = heads.Keyset

pub split : (w : List Token) (a : Atom) → AnAtomOf w a → (rest : List Token) × (w ≡ Word (head_name (head_of a)) ∷ rest) × Tail (head_of a) rest a
split w atoms.Null n = ([], n.0, (refl, refl))
split w atoms.False n = ([], n.0, (refl, refl))
split w atoms.True n = ([], n.0, (refl, refl))
split w atoms.Bools n = ([], n.0, (refl, refl))
split w atoms.Int n = ([], n.0, inl (refl, refl))
split w (atoms.OneInt i) n = (_, n.0, inr (record { rest = _; word = record { value = i; word = refl; is = refl }; tokens = refl }))
split w atoms.Str n = ([], n.0, inl (refl, refl))
split w (atoms.OneStr s) n = (_, n.0, inr (record { rest = _; word = record { value = s; word = (refl, n.1); is = refl }; tokens = refl }))
split w atoms.Obj n = ([], n.0, inl (inl (refl, refl)))
split w (atoms.Exact c) n = (_, n.0, inl (inr (record { rest = _; word = record { value = c; word = refl; is = refl }; tokens = refl })))
split w (atoms.Sub c) n = (_, n.0, inr (record { rest = _; word = record { value = c; word = refl; is = refl }; tokens = refl }))
split w atoms.Vec n = ([], n.0, (refl, refl))
split w atoms.Dict n = ([], n.0, (refl, refl))
split w atoms.Keyset n = ([], n.0, (refl, refl))

spelled : (h : Head) (ts rest : List Token) (a b : Atom) → a ≡ b → ts ≡ rest → AnAtomOf (Word (head_name h) ∷ rest) b → AnAtomOf (Word (head_name h) ∷ ts) a
spelled h ts rest a b is e n = subst (λ z. AnAtomOf (Word (head_name h) ∷ ts) z) (sym is) (subst (λ z. AnAtomOf (Word (head_name h) ∷ z) b) (sym e) n)

pub joined : (h : Head) (ts : List Token) (a : Atom) → Tail h ts a → AnAtomOf (Word (head_name h) ∷ ts) a
joined heads.Null ts a m = spelled heads.Null ts [] a atoms.Null m.1 m.0 (refl, tt)
joined heads.False ts a m = spelled heads.False ts [] a atoms.False m.1 m.0 (refl, tt)
joined heads.True ts a m = spelled heads.True ts [] a atoms.True m.1 m.0 (refl, tt)
joined heads.Bools ts a m = spelled heads.Bools ts [] a atoms.Bools m.1 m.0 (refl, tt)
joined heads.Int ts a (inl m) = spelled heads.Int ts [] a atoms.Int m.1 m.0 (refl, tt)
joined heads.Int ts a (inr m) =
    spelled heads.Int ts _ a (atoms.OneInt m.word.value) m.word.is (m.tokens ∙ ap (λ l. Mark 61 ∷ l) m.word.word) (refl, tt)
joined heads.Str ts a (inl m) = spelled heads.Str ts [] a atoms.Str m.1 m.0 (refl, tt)
joined heads.Str ts a (inr m) =
    spelled heads.Str ts _ a (atoms.OneStr m.word.value) m.word.is (m.tokens ∙ ap (λ l. Mark 61 ∷ l) m.word.word.0) (refl, m.word.word.1)
joined heads.Obj ts a (inl (inl m)) = spelled heads.Obj ts [] a atoms.Obj m.1 m.0 (refl, tt)
joined heads.Obj ts a (inl (inr m)) =
    spelled heads.Obj ts _ a (atoms.Exact m.word.value) m.word.is (m.tokens ∙ ap (λ l. Mark 61 ∷ l) m.word.word) (refl, tt)
joined heads.Obj ts a (inr m) =
    spelled heads.Obj ts _ a (atoms.Sub m.word.value) m.word.is (m.tokens ∙ ap (λ l. LessEqual ∷ l) m.word.word) (refl, tt)
joined heads.Vec ts a m = spelled heads.Vec ts [] a atoms.Vec m.1 m.0 (refl, tt)
joined heads.Dict ts a m = spelled heads.Dict ts [] a atoms.Dict m.1 m.0 (refl, tt)
joined heads.Keyset ts a m = spelled heads.Keyset ts [] a atoms.Keyset m.1 m.0 (refl, tt)

-- two words begin alike
pub heads_same : (F : Follow) (h : Head) (w : List Token) (a : Atom) (x y : List Token) → AnAtomOf w a → w ++ x ≡ Word (head_name h) ∷ y
    → (rest : List Token) × (w ≡ Word (head_name h) ∷ rest) × Tail h rest a
heads_same F h w a x y n e =
    let s = split w a n in
    let is : head_of a ≡ h = same_head (head_of a) h (ap front (sym (ap (λ l. l ++ x) s.1)) ∙ ap front e) in
    (s.0, s.1 ∙ ap (λ k. Word (head_name k) ∷ s.0) is, subst (λ k. Tail k s.0 a) is s.2)

pub head_resumes : (F : Follow) (h : Head) (left : List Token) → Resumes F AnAtomOf (Word (head_name h) ∷ []) (Tail h) (λ v. v) left
head_resumes F h left = record {
  on = λ ts u m. joined h ts u m;
  back = λ w v x y n o g e. let s = heads_same F h w v x y n e in (s.0, v, s.2, s.1, refl);
}

pub atom_stuck : (F : Follow) (p : Placed) → ((h : Head) → next p ≡ Word (head_name h) → ⊥) → StuckAt F AnAtomOf p p
atom_stuck F p other = record {
  read = [];
  past = past_none p;
  viable = record { more = Word (head_name heads.Null) ∷ []; value = atoms.Null; word = (refl, tt); proper = refl };
  dead = λ w v x y n o e. let s = split w v n in other (head_of v) (ap front (sym e) ∙ ap front (ap (λ l. l ++ x) s.1));
}
