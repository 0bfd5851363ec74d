-- An atom stands apart from what follows it, and has one value.
use Rattle.std.proofs.Common.{[], ◌∷◌, ◌++◌, refl, sym, ap, ◌∙◌, inl, inr, codes, pos}
use Rattle.hhas_lex.specs.Tokens.{Token, Mark, Word, Integer, LessEqual, front}
use Rattle.hhbc_repo.specs.CodeSyntax.{AWord, AnInteger}
use Rattle.hhbc_repo.specs.Languages.{Lang, Says, Behind, Either, Means}
use Rattle.hhas_read.specs.declared.atoms.Atom.TheVariants as atoms
use Rattle.hhas_read.specs.declared.atoms.Head.{Head}
use Rattle.hhas_read.specs.declared.atoms.Head.TheVariants as heads
use Rattle.hhas_read.specs.Atoms.{Tail, ShortString}
use Rattle.hhas_read.specs.Reading.{Follow, any}
use Rattle.hhas_read.specs.Written.{AnAtomOf, ends_atom, head_name}
use Rattle.hhas_read.proofs.Following.{Avoids, behind_avoids, either_avoids, nothing_avoids}
use Rattle.hhas_read.proofs.Heads.{heads_same, head_of, split}
use Rattle.hhas_read.proofs.Joining.{Lawful}
use Rattle.hhas_read.proofs.OneToken.{single_lawful}
use Rattle.hhas_read.proofs.Resuming.{cancel}
use Rattle.hhas_read.proofs.Rising.{Same}
use Rattle.hhas_read.proofs.Said.{same_integer, same_word}
use Rattle.hhas_read.proofs.Short.{short_lawful}

pub nothing_same : {V : Type 0} (F : Follow) (v : V) → Same F (Says [] v)
nothing_same F v a b x y u w n m o p e = (n.0 ∙ sym m.0, n.1 ∙ sym m.1)

pub right_same : {V W : Type 0} (F : Follow) (A : Lang V) (t : Token) (f : W → V) (B : Lang W) → Avoids F A t → Same F A → Lawful any B
    → Same F (Either A (Behind (t ∷ []) (Means f B)))
right_same F A t f B never same law a b x y v w (inl n) (inl m) o p e = same a b x y v w n m o p e
right_same F A t f B never same law a b x y v w (inl n) (inr m) o p e = absurd (never a v x n o (ap front e ∙ ap front (ap (λ l. l ++ y) m.tokens)))
right_same F A t f B never same law a b x y v w (inr n) (inl m) o p e = absurd (never b w y m p (ap front (sym e) ∙ ap front (ap (λ l. l ++ x) n.tokens)))
right_same F A t f B never same law a b x y v w (inr n) (inr m) o p e =
    let s = law.same n.rest m.rest x y n.word.value m.word.value n.word.word m.word.word refl refl
    (cancel (t ∷ []) _ _ (sym (ap (λ l. l ++ x) n.tokens) ∙ e ∙ ap (λ l. l ++ y) m.tokens)) in
    (n.tokens ∙ ap (λ l. t ∷ l) s.0 ∙ sym m.tokens, n.word.is ∙ ap f s.1 ∙ sym m.word.is)

pub a_word : Lawful any AWord
a_word = single_lawful Word any (codes "a") refl same_word

pub tail_same : (h : Head) → Same ends_atom (Tail h)
tail_same heads.Null = nothing_same ends_atom atoms.Null
tail_same heads.False = nothing_same ends_atom atoms.False
tail_same heads.True = nothing_same ends_atom atoms.True
tail_same heads.Bools = nothing_same ends_atom atoms.Bools
tail_same heads.Int =
    right_same ends_atom (Says [] atoms.Int) (Mark 61) atoms.OneInt AnInteger (nothing_avoids ends_atom atoms.Int (Mark 61) refl) (nothing_same ends_atom atoms.Int)
    (single_lawful Integer any (pos 0) refl same_integer)
tail_same heads.Str =
    right_same ends_atom (Says [] atoms.Str) (Mark 61) atoms.OneStr ShortString (nothing_avoids ends_atom atoms.Str (Mark 61) refl) (nothing_same ends_atom atoms.Str) short_lawful
tail_same heads.Obj =
    right_same ends_atom (Either (Says [] atoms.Obj) (Behind (Mark 61 ∷ []) (Means atoms.Exact AWord))) LessEqual atoms.Sub AWord
    (either_avoids ends_atom (Says [] atoms.Obj) (Behind (Mark 61 ∷ []) (Means atoms.Exact AWord)) LessEqual (nothing_avoids ends_atom atoms.Obj LessEqual refl)
    (behind_avoids ends_atom (Mark 61) [] (Means atoms.Exact AWord) LessEqual (λ e. absurd (cc e))))
    (right_same ends_atom (Says [] atoms.Obj) (Mark 61) atoms.Exact AWord (nothing_avoids ends_atom atoms.Obj (Mark 61) refl) (nothing_same ends_atom atoms.Obj) a_word) a_word
tail_same heads.Vec = nothing_same ends_atom atoms.Vec
tail_same heads.Dict = nothing_same ends_atom atoms.Dict
tail_same heads.Keyset = nothing_same ends_atom atoms.Keyset

pub atom_same : Same ends_atom AnAtomOf
atom_same a b x y v w n m o p e =
    let s = split b w m in
    let t = heads_same ends_atom (head_of w) a v x (s.0 ++ y) n (e ∙ ap (λ l. l ++ y) s.1) in
    let both = tail_same (head_of w) t.0 s.0 x y v w t.2 s.2 o p (cancel (Word (head_name (head_of w)) ∷ []) _ _ (sym (ap (λ l. l ++ x) t.1) ∙ e ∙ ap (λ l. l ++ y) s.1)) in
    (t.1 ∙ ap (λ l. Word (head_name (head_of w)) ∷ l) both.0 ∙ sym s.1, both.1)
