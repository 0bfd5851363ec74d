-- Leaves and keys: a word of their own, or atoms.
use Rattle.std.proofs.Common.{◌≡◌, ℕ, true, false, List, [], ◌∷◌, ◌++◌, map, refl, sym, ap, ◌∙◌, subst, codes}
use Rattle.std.specs.List.{list_all}
use Rattle.std.specs.Str.{bytes_eq}
use Rattle.std.proofs.lemmas.Slice.Eq.{bytes_eq-Decides}
use Rattle.hhas_lex.specs.Tokens.{Token, Word, Mark, front}
use Rattle.hhbc_repo.specs.Languages.{Says, Separated}
use Rattle.hhbc_repo.specs.TypeSyntax.{AnAtom}
use Rattle.hhas_read.specs.declared.atoms.Atom.{Atom}
use Rattle.hhas_read.specs.declared.atoms.Head.{Head}
use Rattle.hhas_read.specs.declared.atoms.Head.TheVariants as heads
use Rattle.hhas_read.specs.declared.leaves.Written.{Written}
use Rattle.hhas_read.specs.declared.leaves.Written.TheVariants as written
use Rattle.hhas_read.specs.LeafSyntax.{ALeafOf, AKeyOf, AtomsFrom, among}
use Rattle.hhas_read.specs.Reading.{Follow}
use Rattle.hhas_read.specs.Written.{atom_of, head_name}
use Rattle.hhas_read.proofs.Heads.{head_of, split}
use Rattle.hhas_read.proofs.Reserved.{never_both}
use Rattle.hhas_read.proofs.Resuming.{Resumes}
use Rattle.hhas_read.proofs.Said.{same_word}

pub apart : (a b : List ℕ) → bytes_eq a b ≡ false → Word a ≡ Word b → ⊥
apart a b f e = never_both (sym ((bytes_eq-Decides a b).1 (same_word a b e)) ∙ f)

pub never_head : (h : Head) → Word (head_name h) ≡ Word (codes "Never") → ⊥
never_head heads.Null = apart (codes "Null") (codes "Never") refl
never_head heads.False = apart (codes "False") (codes "Never") refl
never_head heads.True = apart (codes "True") (codes "Never") refl
never_head heads.Bools = apart (codes "Bool") (codes "Never") refl
never_head heads.Int = apart (codes "Int") (codes "Never") refl
never_head heads.Str = apart (codes "Str") (codes "Never") refl
never_head heads.Obj = apart (codes "Obj") (codes "Never") refl
never_head heads.Vec = apart (codes "Vec") (codes "Never") refl
never_head heads.Dict = apart (codes "Dict") (codes "Never") refl
never_head heads.Keyset = apart (codes "Keyset") (codes "Never") refl

pub cell_head : (h : Head) → Word (head_name h) ≡ Word (codes "Cell") → ⊥
cell_head heads.Null = apart (codes "Null") (codes "Cell") refl
cell_head heads.False = apart (codes "False") (codes "Cell") refl
cell_head heads.True = apart (codes "True") (codes "Cell") refl
cell_head heads.Bools = apart (codes "Bool") (codes "Cell") refl
cell_head heads.Int = apart (codes "Int") (codes "Cell") refl
cell_head heads.Str = apart (codes "Str") (codes "Cell") refl
cell_head heads.Obj = apart (codes "Obj") (codes "Cell") refl
cell_head heads.Vec = apart (codes "Vec") (codes "Cell") refl
cell_head heads.Dict = apart (codes "Dict") (codes "Cell") refl
cell_head heads.Keyset = apart (codes "Keyset") (codes "Cell") refl

-- atoms begin with the word of one
pub first_head : (w : List Token) (xs : List Atom) (x : List Token) → Separated 124 AnAtom w (map atom_of xs) → (h : Head) × (front (w ++ x) ≡ Word (head_name h))
first_head w [] x n = absurd n
first_head w (a ∷ []) x n = let s = split w a n in (head_of a, ap front (ap (λ l. l ++ x) s.1))
first_head w (a ∷ b ∷ bs) x n = let s = split n.0 a n.2 in (head_of a, ap front (ap (λ l. l ++ x) (n.4 ∙ ap (λ l. l ++ Mark 124 ∷ n.1) s.1)))

all_true : (xs : List Atom) → list_all (among false) (map atom_of xs) ≡ true
all_true [] = refl
all_true (a ∷ xs) = all_true xs

pub at_front : (t : Token) (w x y left : List Token) → w ≡ t ∷ [] → w ++ x ≡ y → front y ≡ front left → front left ≡ t
at_front t w x y left n e h = sym h ∙ ap front (sym e) ∙ ap (λ l. front (l ++ x)) n

module _ (F : Follow) (left : List Token) where
  pub never_leaf : Resumes F ALeafOf (Word (codes "Never") ∷ []) (Says [] written.Never) (λ v. v) left
  never_leaf = record {
    on = λ ts u m. subst (λ z. ALeafOf (Word (codes "Never") ∷ ts) z) (sym m.1) (ap (λ l. Word (codes "Never") ∷ l) m.0);
    back = λ w v x y n o h e. back w v x y n e;
  }
    where
      back : (w : List Token) (v : Written) (x y : List Token) → ALeafOf w v → w ++ x ≡ Word (codes "Never") ∷ y
          → (ts : List Token) × (u : Written) × Says [] written.Never ts u × (w ≡ Word (codes "Never") ∷ ts) × (v ≡ u)
      back w written.Never x y n e = ([], written.Never, (refl, refl), n, refl)
      back w written.Cell x y n e = absurd (apart (codes "Cell") (codes "Never") refl (ap front (sym (ap (λ l. l ++ x) n) ∙ e)))
      back w (written.Of xs) x y n e = let f = first_head w xs x n.0 in absurd (never_head f.0 (sym f.1 ∙ ap front e))

  pub cell_leaf : Resumes F ALeafOf (Word (codes "Cell") ∷ []) (Says [] written.Cell) (λ v. v) left
  cell_leaf = record {
    on = λ ts u m. subst (λ z. ALeafOf (Word (codes "Cell") ∷ ts) z) (sym m.1) (ap (λ l. Word (codes "Cell") ∷ l) m.0);
    back = λ w v x y n o h e. back w v x y n e;
  }
    where
      back : (w : List Token) (v : Written) (x y : List Token) → ALeafOf w v → w ++ x ≡ Word (codes "Cell") ∷ y
          → (ts : List Token) × (u : Written) × Says [] written.Cell ts u × (w ≡ Word (codes "Cell") ∷ ts) × (v ≡ u)
      back w written.Cell x y n e = ([], written.Cell, (refl, refl), n, refl)
      back w written.Never x y n e = absurd (apart (codes "Never") (codes "Cell") refl (ap front (sym (ap (λ l. l ++ x) n) ∙ e)))
      back w (written.Of xs) x y n e = let f = first_head w xs x n.0 in absurd (cell_head f.0 (sym f.1 ∙ ap front e))

  pub atoms_leaf : (front left ≡ Word (codes "Never") → ⊥) → (front left ≡ Word (codes "Cell") → ⊥) → Resumes F ALeafOf [] (AtomsFrom false 0) written.Of left
  atoms_leaf no_never no_cell = record { on = λ ts u m. (m.0, m.1); back = λ w v x y n o h e. back w v x y n h e }
    where
      back : (w : List Token) (v : Written) (x y : List Token) → ALeafOf w v → front y ≡ front left → w ++ x ≡ y
          → (ts : List Token) × (u : List Atom) × AtomsFrom false 0 ts u × (w ≡ ts) × (v ≡ written.Of u)
      back w written.Never x y n h e = absurd (no_never (at_front (Word (codes "Never")) w x y left n e h))
      back w written.Cell x y n h e = absurd (no_cell (at_front (Word (codes "Cell")) w x y left n e h))
      back w (written.Of xs) x y n h e = (w, xs, (n.0, n.1, all_true xs), refl, refl)

  pub never_key : Resumes F AKeyOf (Word (codes "Never") ∷ []) (Says [] written.Never) (λ v. v) left
  never_key = record {
    on = λ ts u m. subst (λ z. AKeyOf (Word (codes "Never") ∷ ts) z) (sym m.1) (ap (λ l. Word (codes "Never") ∷ l) m.0);
    back = λ w v x y n o h e. back w v x y n e;
  }
    where
      back : (w : List Token) (v : Written) (x y : List Token) → AKeyOf w v → w ++ x ≡ Word (codes "Never") ∷ y
          → (ts : List Token) × (u : Written) × Says [] written.Never ts u × (w ≡ Word (codes "Never") ∷ ts) × (v ≡ u)
      back w written.Never x y n e = ([], written.Never, (refl, refl), n, refl)
      back w written.Cell x y n e = absurd n
      back w (written.Of xs) x y n e = let f = first_head w xs x n.0.0 in absurd (never_head f.0 (sym f.1 ∙ ap front e))

  pub atoms_key : (front left ≡ Word (codes "Never") → ⊥) → Resumes F AKeyOf [] (AtomsFrom true 0) written.Of left
  atoms_key no_never = record { on = λ ts u m. ((m.0, m.1), m.2); back = λ w v x y n o h e. back w v x y n h e }
    where
      back : (w : List Token) (v : Written) (x y : List Token) → AKeyOf w v → front y ≡ front left → w ++ x ≡ y
          → (ts : List Token) × (u : List Atom) × AtomsFrom true 0 ts u × (w ≡ ts) × (v ≡ written.Of u)
      back w written.Never x y n h e = absurd (no_never (at_front (Word (codes "Never")) w x y left n e h))
      back w written.Cell x y n h e = absurd n
      back w (written.Of xs) x y n h e = (w, xs, (n.0.0, n.0.1, n.1), refl, refl)
