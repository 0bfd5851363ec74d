-- What stands behind the word of objects.
use Rattle.std.proofs.Common.{◌≡◌, ℕ, List, [], ◌∷◌, refl, sym, ◌∙◌}
use Rattle.hhas_lex.specs.Tokens.{Token, Mark, LessEqual, front}
use Rattle.hhbc_repo.specs.CodeSyntax.{AWord}
use Rattle.hhbc_repo.specs.Languages.{Lang, Says, Behind, Either, Means}
use Rattle.hhas_read.specs.declared.atoms.Atom.{Atom}
use Rattle.hhas_read.specs.declared.atoms.Atom.TheVariants as atoms
use Rattle.hhas_read.specs.declared.atoms.Head.TheVariants as heads
use Rattle.hhas_read.specs.Atoms.{Tail}
use Rattle.hhas_read.specs.Reading.{Placed, Past, next}
use Rattle.hhas_read.specs.Written.{ends_atom}
use Rattle.hhas_read.proofs.Following.{behind_avoids, either_avoids, left_resumes, nothing_avoids, right_resumes}
use Rattle.hhas_read.proofs.Resuming.{Resumes, resumes_then}

abbrev Whole : Lang Atom
Whole = Says [] atoms.Obj

abbrev OfClass : Lang Atom
OfClass = Behind (Mark 61 ∷ []) (Means atoms.Exact AWord)

abbrev OfBelow : Lang Atom
OfBelow = Behind (LessEqual ∷ []) (Means atoms.Sub AWord)

no_mark : {A : Type 0} (b : ℕ) → Mark b ≡ LessEqual → A
no_mark b e = absurd (cc e)

pub exact_resumes : (old mid : Placed) → next old ≡ Mark 61 → Past (Mark 61 ∷ []) old mid → Resumes ends_atom (Tail heads.Obj) (Mark 61 ∷ []) AWord atoms.Exact mid.tokens
exact_resumes old mid is p =
    resumes_then ends_atom (Tail heads.Obj) (Either Whole OfClass) AWord [] (Mark 61 ∷ []) old.tokens mid.tokens (λ v. v) atoms.Exact
    (left_resumes ends_atom (Either Whole OfClass) OfBelow old.tokens (behind_avoids ends_atom LessEqual [] (Means atoms.Sub AWord) (next old) (λ e. no_mark 61 (sym is ∙ e))))
    (right_resumes ends_atom Whole (Mark 61) atoms.Exact AWord mid.tokens (nothing_avoids ends_atom atoms.Obj (Mark 61) refl)) p.tokens

pub sub_resumes : (left : List Token) → Resumes ends_atom (Tail heads.Obj) (LessEqual ∷ []) AWord atoms.Sub left
sub_resumes left =
    right_resumes ends_atom (Either Whole OfClass) LessEqual atoms.Sub AWord left
    (either_avoids ends_atom Whole OfClass LessEqual (nothing_avoids ends_atom atoms.Obj LessEqual refl)
    (behind_avoids ends_atom (Mark 61) [] (Means atoms.Exact AWord) LessEqual (λ e. no_mark 61 (sym e))))

pub whole_resumes : (left : List Token) → (front left ≡ Mark 61 → ⊥) → (front left ≡ LessEqual → ⊥) → Resumes ends_atom (Tail heads.Obj) [] Whole (λ v. v) left
whole_resumes left no_class no_below =
    resumes_then ends_atom (Tail heads.Obj) (Either Whole OfClass) Whole [] [] left left (λ v. v) (λ v. v)
    (left_resumes ends_atom (Either Whole OfClass) OfBelow left (behind_avoids ends_atom LessEqual [] (Means atoms.Sub AWord) (front left) no_below))
    (left_resumes ends_atom Whole OfClass left (behind_avoids ends_atom (Mark 61) [] (Means atoms.Exact AWord) (front left) no_class)) refl
