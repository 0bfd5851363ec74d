-- Constraints: Cell, or atoms that name no value.
use Rattle.std.proofs.Common.{◌≡◌, ◌≤◌, ◌<◌, suc, ℕ, true, false, List, [], ◌∷◌, ◌++◌, refl, sym, ap, ◌∙◌, subst, Err, arith, inl, inr, codes}
use Rattle.hhas_lex.specs.Tokens.{Token, Word, Mark, LessEqual, front}
use Rattle.hhbc_repo.specs.CodeSyntax.{AWord}
use Rattle.hhbc_repo.specs.Languages.{Lang, Says}
use Rattle.hhbc_repo.specs.TypeSyntax.{AnAtom, is_broad, line}
use Rattle.hhas_read.specs.declared.atoms.Atom.{Atom}
use Rattle.hhas_read.specs.declared.atoms.Atom.TheVariants as atoms
use Rattle.hhas_read.specs.declared.atoms.Head.{Head}
use Rattle.hhas_read.specs.declared.atoms.Head.TheVariants as heads
use Rattle.hhas_read.specs.declared.leaves.Written.{Written}
use Rattle.hhas_read.specs.declared.leaves.Written.TheVariants as written
use Rattle.hhas_read.specs.declared.reader.Stop.{Stop}
use Rattle.hhas_read.specs.Atoms.{Tail}
use Rattle.hhas_read.specs.Constraints.{AConstraintOf, BroadFrom, BroadTail, BroadsFrom, broad_head}
use Rattle.hhas_read.specs.LeafSyntax.{head_line}
use Rattle.hhas_read.specs.Lists.{More}
use Rattle.hhas_read.specs.Reading.{Follow, Placed, Past, Reads, StuckAt, Taken, next}
use Rattle.hhas_read.specs.Written.{atom_of, ends_atom, ends_type, head_name}
use Rattle.hhas_read.proofs.Following.{nothing_avoids, right_resumes}
use Rattle.hhas_read.proofs.Heads.{head_of, head_resumes, split}
use Rattle.hhas_read.proofs.LeafWords.{at_front, cell_head, first_head}
use Rattle.hhas_read.proofs.Lines.{line_of, none_after, tail_head, wider}
use Rattle.hhas_read.proofs.OneAtom.{atom_same}
use Rattle.hhas_read.proofs.Reserved.{never_both}
use Rattle.hhas_read.proofs.Resuming.{Resumes, past_none}
use Rattle.hhas_read.proofs.Rising as rising
use Rattle.hhas_read.proofs.Rising.{Same}

-- ---- one atom

says_broad : (ts : List Token) (a b : Atom) → is_broad (atom_of b) ≡ true → Says [] b ts a → is_broad (atom_of a) ≡ true
says_broad ts a b e m = ap (λ z. is_broad (atom_of z)) m.1 ∙ e

broad_in : (h : Head) (ts : List Token) (a : Atom) → broad_head h ≡ true → BroadTail h ts a → Tail h ts a × (is_broad (atom_of a) ≡ true)
broad_in heads.Null ts a e m = (m, says_broad ts a atoms.Null refl m)
broad_in heads.False ts a e m = absurd (never_both (sym e))
broad_in heads.True ts a e m = absurd (never_both (sym e))
broad_in heads.Bools ts a e m = (m, says_broad ts a atoms.Bools refl m)
broad_in heads.Int ts a e m = (inl m, says_broad ts a atoms.Int refl m)
broad_in heads.Str ts a e m = (inl m, says_broad ts a atoms.Str refl m)
broad_in heads.Obj ts a e (inl m) = (inl (inl m), says_broad ts a atoms.Obj refl m)
broad_in heads.Obj ts a e (inr m) = (inr m, ap (λ z. is_broad (atom_of z)) m.word.is)
broad_in heads.Vec ts a e m = (m, says_broad ts a atoms.Vec refl m)
broad_in heads.Dict ts a e m = (m, says_broad ts a atoms.Dict refl m)
broad_in heads.Keyset ts a e m = (m, says_broad ts a atoms.Keyset refl m)

broad_out : (h : Head) (ts : List Token) (a : Atom) → is_broad (atom_of a) ≡ true → Tail h ts a → BroadTail h ts a
broad_out heads.Null ts a e m = m
broad_out heads.False ts a e m = m
broad_out heads.True ts a e m = m
broad_out heads.Bools ts a e m = m
broad_out heads.Int ts a e (inl m) = m
broad_out heads.Int ts a e (inr m) = absurd (never_both (sym e ∙ ap (λ z. is_broad (atom_of z)) m.word.is))
broad_out heads.Str ts a e (inl m) = m
broad_out heads.Str ts a e (inr m) = absurd (never_both (sym e ∙ ap (λ z. is_broad (atom_of z)) m.word.is))
broad_out heads.Obj ts a e (inl (inl m)) = inl m
broad_out heads.Obj ts a e (inl (inr m)) = absurd (never_both (sym e ∙ ap (λ z. is_broad (atom_of z)) m.word.is))
broad_out heads.Obj ts a e (inr m) = inr m
broad_out heads.Vec ts a e m = m
broad_out heads.Dict ts a e m = m
broad_out heads.Keyset ts a e m = m

broad_of : (a : Atom) → is_broad (atom_of a) ≡ true → broad_head (head_of a) ≡ true
broad_of atoms.Null e = refl
broad_of atoms.False e = e
broad_of atoms.True e = e
broad_of atoms.Bools e = refl
broad_of atoms.Int e = refl
broad_of (atoms.OneInt i) e = refl
broad_of atoms.Str e = refl
broad_of (atoms.OneStr s) e = refl
broad_of atoms.Obj e = refl
broad_of (atoms.Exact c) e = refl
broad_of (atoms.Sub c) e = refl
broad_of atoms.Vec e = refl
broad_of atoms.Dict e = refl
broad_of atoms.Keyset e = refl

pub broad_resumes : (least : ℕ) (h : Head) (left : List Token) → least ≤ head_line h → broad_head h ≡ true
    → Resumes ends_atom (BroadFrom least) (Word (head_name h) ∷ []) (BroadTail h) (λ v. v) left
broad_resumes least h left low fits = record {
  on = λ ts u m.
      let both = broad_in h ts u fits m in
      let n = (head_resumes ends_atom h left).on ts u both.0 in
      (n, subst (λ k. least ≤ k) (sym (line_of u ∙ ap head_line (tail_head h ts u n))) low, both.1);
  back = λ w v x y n o g e.
      let s = (head_resumes ends_atom h left).back w v x y n.0 o g e in
      (s.0, s.1, broad_out h s.0 s.1 (ap (λ z. is_broad (atom_of z)) (sym s.4) ∙ n.2) s.2, s.3, s.4);
}

pub broad_stuck : (least : ℕ) (p : Placed) → least ≤ 8 → ((h : Head) → next p ≡ Word (head_name h) → least ≤ head_line h → broad_head h ≡ true → ⊥)
    → StuckAt ends_atom (BroadFrom least) p p
broad_stuck least p high other = record {
  read = [];
  past = past_none p;
  viable = record { more = Word (codes "Keyset") ∷ []; value = atoms.Keyset; word = ((refl, tt), high, refl); proper = refl };
  dead = λ w v x y n o e.
      let s = split w v n.0 in
      other (head_of v) (ap front (sym e) ∙ ap front (ap (λ l. l ++ x) s.1)) (subst (λ k. least ≤ k) (line_of v) n.1) (broad_of v n.2);
}

broad_same : (least : ℕ) → Same ends_atom (BroadFrom least)
broad_same least a b x y v w n m o p e = atom_same a b x y v w n.0 m.0 o p e

-- ---- lists of them

-- what stands behind an atom
abbrev pub MoreBroads : ℕ → Lang (List Atom)
MoreBroads = More atom_of AnAtom line is_broad

pub to_more_broads : (least : ℕ) (start old mid : Placed) (out : List Atom) (v : Atom)
    → (inv : (used : List Token) × Past used start old × Resumes ends_type (BroadsFrom 0) used (BroadsFrom least) (λ ys. out ++ ys) old.tokens)
    → Taken ends_atom (BroadFrom least) old mid v
    → (used : List Token) × Past used start mid × Resumes ends_type (BroadsFrom 0) used (MoreBroads (suc (line (atom_of v)))) (λ us. out ++ (v ∷ us)) mid.tokens
to_more_broads least start old mid out v inv t =
    rising.to_more atom_of AnAtom line is_broad ends_type ends_atom wider refl (BroadsFrom 0) least start old mid out v (broad_same least) inv t

pub one_more_broad : (least : ℕ) (start mid new : Placed) (out more : List Atom) (v : Atom)
    → (far : (used : List Token) × Past used start mid × Resumes ends_type (BroadsFrom 0) used (MoreBroads least) (λ us. out ++ (v ∷ us)) mid.tokens)
    → next mid ≡ Mark 124 → Past (next mid ∷ []) mid new → more ≡ out ++ v ∷ []
    → (used : List Token) × Past used start new × Resumes ends_type (BroadsFrom 0) used (BroadsFrom least) (λ ys. more ++ ys) new.tokens
one_more_broad = rising.one_more atom_of AnAtom line is_broad ends_type ends_atom wider refl refl (BroadsFrom 0)

pub broads_end : (least : ℕ) (p : Placed) → ends_type (next p) ≡ true → Taken ends_type (MoreBroads least) p p []
broads_end = rising.more_ends atom_of AnAtom line is_broad ends_type ends_atom wider refl

pub broads_stuck : (least : ℕ) (p : Placed) → ends_type (next p) ≡ false → (next p ≡ Mark 124 → 8 < least) → StuckAt ends_type (MoreBroads least) p p
broads_stuck least p f late =
    rising.more_stuck atom_of AnAtom line is_broad ends_type ends_atom wider refl least p f
    (λ e a v n. let last = none_after false v refl in let low = n.1 in let past = late e in omega (arith, last, low, past))

pub broads_stop : (least : ℕ) (old new : Placed) (e : Stop) → Reads ends_atom (BroadFrom least) old (Err e) new → Reads ends_type (BroadsFrom least) old (Err e) new
broads_stop = rising.first_stop atom_of AnAtom line is_broad ends_type ends_atom wider refl

-- ---- constraints

module _ (F : Follow) (left : List Token) where
  pub cell_constraint : Resumes F AConstraintOf (Word (codes "Cell") ∷ []) (Says [] written.Cell) (λ v. v) left
  cell_constraint = record {
    on = λ ts u m. subst (λ z. AConstraintOf (Word (codes "Cell") ∷ ts) z) (sym m.1) (ap (λ l. Word (codes "Cell") ∷ l) m.0);
    back = λ w v x y n o h e. back w v x y n e;
  }
    where
      back : (w : List Token) (v : Written) (x y : List Token) → AConstraintOf w v → w ++ x ≡ Word (codes "Cell") ∷ y
          → (ts : List Token) × (u : Written) × Says [] written.Cell ts u × (w ≡ Word (codes "Cell") ∷ ts) × (v ≡ u)
      back w written.Never x y n e = absurd n
      back w written.Cell x y n e = ([], written.Cell, (refl, refl), n, refl)
      back w (written.Of xs) x y n e = let f = first_head w xs x n.0.0 in absurd (cell_head f.0 (sym f.1 ∙ ap front e))

  pub atoms_constraint : (front left ≡ Word (codes "Cell") → ⊥) → Resumes F AConstraintOf [] (BroadsFrom 0) written.Of left
  atoms_constraint no_cell = record { on = λ ts u m. ((m.0, m.1), m.2); back = λ w v x y n o h e. back w v x y n h e }
    where
      back : (w : List Token) (v : Written) (x y : List Token) → AConstraintOf w v → front y ≡ front left → w ++ x ≡ y
          → (ts : List Token) × (u : List Atom) × BroadsFrom 0 ts u × (w ≡ ts) × (v ≡ written.Of u)
      back w written.Never x y n h e = absurd n
      back w written.Cell x y n h e = absurd (no_cell (at_front (Word (codes "Cell")) w x y left n e h))
      back w (written.Of xs) x y n h e = (w, xs, (n.0.0, n.0.1, n.1), refl, refl)

-- ---- behind Obj

pub sub_broad : (F : Follow) (left : List Token) → F LessEqual ≡ false → Resumes F (BroadTail heads.Obj) (LessEqual ∷ []) AWord atoms.Sub left
sub_broad F left ends = right_resumes F (Says [] atoms.Obj) LessEqual atoms.Sub AWord left (nothing_avoids F atoms.Obj LessEqual ends)
