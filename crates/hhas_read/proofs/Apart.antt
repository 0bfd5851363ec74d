-- Leaves and keys stand apart from what follows them, and each has one value.
use Rattle.std.proofs.Common.{◌≡◌, ℕ, ◌&&◌, true, false, List, [], ◌∷◌, ◌++◌, map, refl, sym, ap, ◌∙◌, append_assoc, codes}
use Rattle.hhas_lex.specs.Tokens.{Token, Word, Mark, front}
use Rattle.hhas_lex.specs.Spelling.{is_proper}
use Rattle.hhbc_repo.specs.Languages.{Lang, Separated}
use Rattle.hhbc_repo.specs.TypeSyntax.{AnAtom}
use Rattle.hhas_read.specs.declared.atoms.Atom.{Atom}
use Rattle.hhas_read.specs.declared.leaves.Written.TheVariants as written
use Rattle.hhas_read.specs.LeafSyntax.{ALeafOf, AKeyOf, KeyAndLeaf, KeyTo, LeafTo}
use Rattle.hhas_read.specs.Reading.{Follow, any}
use Rattle.hhas_read.specs.Written.{atom_of, ends_atom, ends_type}
use Rattle.hhas_read.proofs.Joining.{Lawful, both_lawful, ended_lawful}
use Rattle.hhas_read.proofs.LeafWords.{apart, cell_head, first_head, never_head}
use Rattle.hhas_read.proofs.Lines.{wider}
use Rattle.hhas_read.proofs.OneAtom.{atom_same}
use Rattle.hhas_read.proofs.Resuming.{cancel}
use Rattle.hhas_read.proofs.Reserved.{never_both}
use Rattle.hhas_read.proofs.Rising.{Same}

-- ---- lists with bars

module _ {V W : Type 0} (g : V → W) (A : Lang W) (F G : Follow) (wide : (t : Token) → F t ≡ true → G t ≡ true) (bar : G (Mark 124) ≡ true) (no_bar : F (Mark 124) ≡ false) where
  abbrev One : Lang V
  One ts v = A ts (g v)

  abbrev Barred : Lang (List V)
  Barred ts vs = Separated 124 A ts (map g vs)

  pub barred_same : Same G One → Same F Barred
  barred_same one a b x y [] ws n m o p e = absurd n
  barred_same one a b x y (v ∷ vs) [] n m o p e = absurd m
  barred_same one a b x y (v ∷ []) (w ∷ []) n m o p e =
      let s = one a b x y v w n m (wide (front x) o) (wide (front y) p) e in (s.0, ap (λ z. z ∷ []) s.1)
  barred_same one a b x y (v ∷ []) (w ∷ w2 ∷ ws) n m o p e =
      let joined = e ∙ ap (λ l. l ++ y) m.4 ∙ append_assoc m.0 (Mark 124 ∷ m.1) y in
      let s = one a m.0 x (Mark 124 ∷ (m.1 ++ y)) v w n m.2 (wide (front x) o) bar joined in
      let rest : x ≡ Mark 124 ∷ (m.1 ++ y) = cancel m.0 _ _ (ap (λ l. l ++ x) (sym s.0) ∙ joined) in
      absurd (never_both (sym o ∙ ap F (ap front rest) ∙ no_bar))
  barred_same one a b x y (v ∷ v2 ∷ vs) (w ∷ []) n m o p e =
      let joined = sym (append_assoc n.0 (Mark 124 ∷ n.1) x) ∙ ap (λ l. l ++ x) (sym n.4) ∙ e in
      let s = one n.0 b (Mark 124 ∷ (n.1 ++ x)) y v w n.2 m bar (wide (front y) p) joined in
      let rest : Mark 124 ∷ (n.1 ++ x) ≡ y = cancel b _ _ (ap (λ l. l ++ (Mark 124 ∷ (n.1 ++ x))) (sym s.0) ∙ joined) in
      absurd (never_both (sym p ∙ ap F (ap front (sym rest)) ∙ no_bar))
  barred_same one a b x y (v ∷ v2 ∷ vs) (w ∷ w2 ∷ ws) n m o p e =
      let joined = sym (append_assoc n.0 (Mark 124 ∷ n.1) x) ∙ ap (λ l. l ++ x) (sym n.4) ∙ e ∙ ap (λ l. l ++ y) m.4 ∙ append_assoc m.0 (Mark 124 ∷ m.1) y in
      let s = one n.0 m.0 (Mark 124 ∷ (n.1 ++ x)) (Mark 124 ∷ (m.1 ++ y)) v w n.2 m.2 bar bar joined in
      let rest : Mark 124 ∷ (n.1 ++ x) ≡ Mark 124 ∷ (m.1 ++ y) = cancel m.0 _ _ (ap (λ l. l ++ (Mark 124 ∷ (n.1 ++ x))) (sym s.0) ∙ joined) in
      let r = barred_same one n.1 m.1 x y (v2 ∷ vs) (w2 ∷ ws) n.3 m.3 o p (cancel (Mark 124 ∷ []) (n.1 ++ x) (m.1 ++ y) rest) in
      (n.4 ∙ (λ i. s.0 i ++ (Mark 124 ∷ r.0 i)) ∙ sym m.4, λ i. s.1 i ∷ r.1 i)

-- ---- leaves and keys

pub atoms_same : Same ends_type (λ ts (xs : List Atom). Separated 124 AnAtom ts (map atom_of xs))
atoms_same = barred_same atom_of AnAtom ends_type ends_atom wider refl refl atom_same

fronts : (a b x y : List Token) (t : Token) → a ++ x ≡ b ++ y → b ≡ t ∷ [] → front (a ++ x) ≡ t
fronts a b x y t e is = ap front e ∙ ap (λ l. front (l ++ y)) is

never_cell : {A : Type 0} (a b x y : List Token) → a ≡ Word (codes "Never") ∷ [] → b ≡ Word (codes "Cell") ∷ [] → a ++ x ≡ b ++ y → A
never_cell a b x y n m e = absurd (apart (codes "Never") (codes "Cell") refl (sym (fronts a a x x (Word (codes "Never")) refl n) ∙ fronts a b x y (Word (codes "Cell")) e m))

atoms_never : {A : Type 0} (a b x y : List Token) (xs : List Atom) → Separated 124 AnAtom a (map atom_of xs) → b ≡ Word (codes "Never") ∷ [] → a ++ x ≡ b ++ y → A
atoms_never a b x y xs n m e = let f = first_head a xs x n in absurd (never_head f.0 (sym f.1 ∙ fronts a b x y (Word (codes "Never")) e m))

pub atoms_cell : {A : Type 0} (a b x y : List Token) (xs : List Atom) → Separated 124 AnAtom a (map atom_of xs) → b ≡ Word (codes "Cell") ∷ [] → a ++ x ≡ b ++ y → A
atoms_cell a b x y xs n m e = let f = first_head a xs x n in absurd (cell_head f.0 (sym f.1 ∙ fronts a b x y (Word (codes "Cell")) e m))

leaf_same : Same ends_type ALeafOf
leaf_same a b x y written.Never written.Never n m o p e = (n ∙ sym m, refl)
leaf_same a b x y written.Never written.Cell n m o p e = never_cell a b x y n m e
leaf_same a b x y written.Never (written.Of ws) n m o p e = atoms_never b a y x ws m.0 n (sym e)
leaf_same a b x y written.Cell written.Never n m o p e = never_cell b a y x m n (sym e)
leaf_same a b x y written.Cell written.Cell n m o p e = (n ∙ sym m, refl)
leaf_same a b x y written.Cell (written.Of ws) n m o p e = atoms_cell b a y x ws m.0 n (sym e)
leaf_same a b x y (written.Of vs) written.Never n m o p e = atoms_never a b x y vs n.0 m e
leaf_same a b x y (written.Of vs) written.Cell n m o p e = atoms_cell a b x y vs n.0 m e
leaf_same a b x y (written.Of vs) (written.Of ws) n m o p e = let s = atoms_same a b x y vs ws n.0 m.0 o p e in (s.0, ap written.Of s.1)

key_same : Same ends_type AKeyOf
key_same a b x y written.Never written.Never n m o p e = (n ∙ sym m, refl)
key_same a b x y written.Never written.Cell n m o p e = absurd m
key_same a b x y written.Never (written.Of ws) n m o p e = atoms_never b a y x ws m.0.0 n (sym e)
key_same a b x y written.Cell w n m o p e = absurd n
key_same a b x y (written.Of vs) written.Never n m o p e = atoms_never a b x y vs n.0.0 m e
key_same a b x y (written.Of vs) written.Cell n m o p e = absurd m
key_same a b x y (written.Of vs) (written.Of ws) n m o p e = let s = atoms_same a b x y vs ws n.0.0 m.0.0 o p e in (s.0, ap written.Of s.1)

pub leaf_lawful : Lawful ends_type ALeafOf
leaf_lawful = record { same = leaf_same; some = record { more = Word (codes "Never") ∷ []; value = written.Never; word = refl; proper = refl } }

pub key_lawful : Lawful ends_type AKeyOf
key_lawful = record { same = key_same; some = record { more = Word (codes "Never") ∷ []; value = written.Never; word = refl; proper = refl } }

-- ---- in brackets

pub to_leaf : Lawful any LeafTo
to_leaf = ended_lawful any ends_type ALeafOf (Mark 62) [] refl refl leaf_lawful

pub to_key : (end : ℕ) → ends_type (Mark end) ≡ true → is_proper (Mark end) ≡ true → Lawful any (KeyTo end)
to_key end follows stands = ended_lawful any ends_type AKeyOf (Mark end) [] follows (ap (λ c. c && true) stands) key_lawful

pub to_both : Lawful any KeyAndLeaf
to_both = both_lawful any any (KeyTo 44) LeafTo (λ b v x n o. refl) (to_key 44 refl refl) to_leaf
