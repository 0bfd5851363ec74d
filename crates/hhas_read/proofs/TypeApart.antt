-- Types stand apart from what follows them, and each has one value.
use Rattle.std.proofs.Common.{◌≡◌, true, List, [], ◌∷◌, ◌++◌, map, refl, sym, ap, ◌∙◌, codes}
use Rattle.hhas_lex.specs.Tokens.{Token, Word, Mark, front}
use Rattle.hhbc_repo.specs.Languages.{Separated}
use Rattle.hhbc_repo.specs.TypeSyntax.{ATypeAtom}
use Rattle.hhas_read.specs.declared.types.TypeAtom.{TypeAtom}
use Rattle.hhas_read.specs.declared.whole_types.WrittenType.{WrittenType}
use Rattle.hhas_read.specs.declared.whole_types.WrittenType.TheVariants as whole
use Rattle.hhas_read.specs.TypeWords.{type_atom_of}
use Rattle.hhas_read.specs.WholeTypes.{AWrittenTypeOf}
use Rattle.hhas_read.specs.Written.{ends_atom, ends_type}
use Rattle.hhas_read.proofs.Apart.{barred_same}
use Rattle.hhas_read.proofs.Joining.{Lawful}
use Rattle.hhas_read.proofs.Lines.{wider}
use Rattle.hhas_read.proofs.Resuming.{cancel}
use Rattle.hhas_read.proofs.Rising.{Same}
use Rattle.hhas_read.proofs.TypeForms.{bar_resumes, cell_more, cell_only, never_only, uninit_type}
use Rattle.hhas_read.proofs.TypeLines.{type_atom_same}

uninit_cell_only : (w x y : List Token) (v : WrittenType) → AWrittenTypeOf w v → ends_type (front x) ≡ true
    → w ++ x ≡ Word (codes "Uninit") ∷ Mark 124 ∷ Word (codes "Cell") ∷ y → (w ≡ Word (codes "Uninit") ∷ Mark 124 ∷ Word (codes "Cell") ∷ []) × (v ≡ whole.UninitCell)
uninit_cell_only w x y v n o e =
    let one = (uninit_type ends_type (Mark 124 ∷ Word (codes "Cell") ∷ y)).back w v x (Mark 124 ∷ Word (codes "Cell") ∷ y) n o refl e in
    let e2 : one.0 ++ x ≡ Mark 124 ∷ Word (codes "Cell") ∷ y = cancel (Word (codes "Uninit") ∷ []) _ _ (sym (ap (λ l. l ++ x) one.3) ∙ e) in
    let two = (bar_resumes ends_type (Word (codes "Cell") ∷ y) refl).back one.0 one.1 x (Word (codes "Cell") ∷ y) one.2 o refl e2 in
    let e3 : two.0 ++ x ≡ Word (codes "Cell") ∷ y = cancel (Mark 124 ∷ []) _ _ (sym (ap (λ l. l ++ x) two.3) ∙ e2) in
    let three = (cell_more ends_type y).back two.0 two.1 x y two.2 o refl e3 in (
      one.3 ∙ ap (λ l. Word (codes "Uninit") ∷ l) (two.3 ∙ ap (λ l. Mark 124 ∷ l) (three.3 ∙ ap (λ l. Word (codes "Cell") ∷ l) three.2.0)),
      one.4 ∙ two.4 ∙ three.4 ∙ three.2.1,
    )

type_atoms_same : Same ends_type (λ ts (xs : List TypeAtom). Separated 124 ATypeAtom ts (map type_atom_of xs))
type_atoms_same = barred_same type_atom_of ATypeAtom ends_type ends_atom wider refl refl type_atom_same

type_same : Same ends_type AWrittenTypeOf
type_same a b x y v whole.Never n m o p e = let s = never_only a v x n (ap front e ∙ ap (λ l. front (l ++ y)) m) in (s.0 ∙ sym m, s.1)
type_same a b x y v whole.Cell n m o p e = let s = cell_only a v x n (ap front e ∙ ap (λ l. front (l ++ y)) m) in (s.0 ∙ sym m, s.1)
type_same a b x y v whole.UninitCell n m o p e = let s = uninit_cell_only a x y v n o (e ∙ ap (λ l. l ++ y) m) in (s.0 ∙ sym m, s.1)
type_same a b x y whole.Never (whole.Atoms ws) n m o p e =
    let s = never_only b (whole.Atoms ws) y m (ap front (sym e) ∙ ap (λ l. front (l ++ x)) n) in (n ∙ sym s.0, sym s.1)
type_same a b x y whole.Cell (whole.Atoms ws) n m o p e =
    let s = cell_only b (whole.Atoms ws) y m (ap front (sym e) ∙ ap (λ l. front (l ++ x)) n) in (n ∙ sym s.0, sym s.1)
type_same a b x y whole.UninitCell (whole.Atoms ws) n m o p e =
    let s = uninit_cell_only b y x (whole.Atoms ws) m p (sym e ∙ ap (λ l. l ++ x) n) in (n ∙ sym s.0, sym s.1)
type_same a b x y (whole.Atoms vs) (whole.Atoms ws) n m o p e = let s = type_atoms_same a b x y vs ws n.0 m.0 o p e in (s.0, ap whole.Atoms s.1)

pub type_lawful : Lawful ends_type AWrittenTypeOf
type_lawful = record { same = type_same; some = record { more = Word (codes "Never") ∷ []; value = whole.Never; word = refl; proper = refl } }
