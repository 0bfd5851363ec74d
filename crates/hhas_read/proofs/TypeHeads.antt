-- Atoms of types by the words that they begin with.
use Rattle.std.proofs.Common.{◌≡◌, List, [], ◌∷◌, ◌++◌, refl, sym, ap, ◌∙◌, subst, inl, inr, codes}
use Rattle.hhas_lex.specs.Tokens.{Token, Word, Mark, front}
use Rattle.hhbc_repo.specs.Languages.{Says, Means}
use Rattle.hhas_read.specs.declared.atoms.Atom.{Atom}
use Rattle.hhas_read.specs.declared.atoms.Atom.TheVariants as atoms
use Rattle.hhas_read.specs.declared.atoms.Head.{Head}
use Rattle.hhas_read.specs.declared.atoms.Head.TheVariants as heads
use Rattle.hhas_read.specs.declared.types.TypeAtom.{TypeAtom}
use Rattle.hhas_read.specs.declared.types.TypeAtom.TheVariants as types
use Rattle.hhas_read.specs.Atoms.{Tail}
use Rattle.hhas_read.specs.Reading.{Follow, Placed, StuckAt, next}
use Rattle.hhas_read.specs.TypeWords.{ATypeAtomOf, TypeTail}
use Rattle.hhas_read.specs.Written.{head_name}
use Rattle.hhas_read.proofs.Heads.{head_of, joined, same_head, split}
use Rattle.hhas_read.proofs.LeafWords.{apart}
use Rattle.hhas_read.proofs.Resuming.{Resumes, past_none}

-- an atom without brackets
plain_tail : (h : Head) (ts : List Token) (a : Atom) → Tail h ts a → TypeTail h ts (types.Plain a)
plain_tail heads.Null ts a m = record { value = a; word = m; is = refl }
plain_tail heads.False ts a m = record { value = a; word = m; is = refl }
plain_tail heads.True ts a m = record { value = a; word = m; is = refl }
plain_tail heads.Bools ts a m = record { value = a; word = m; is = refl }
plain_tail heads.Int ts a m = record { value = a; word = m; is = refl }
plain_tail heads.Str ts a m = record { value = a; word = m; is = refl }
plain_tail heads.Obj ts a m = record { value = a; word = m; is = refl }
plain_tail heads.Vec ts a m = inl (m.0, ap types.Plain m.1)
plain_tail heads.Dict ts a m = inl (m.0, ap types.Plain m.1)
plain_tail heads.Keyset ts a m = inl (m.0, ap types.Plain m.1)

plain_joined : (h : Head) (ts : List Token) (a : TypeAtom) → Means types.Plain (Tail h) ts a → ATypeAtomOf (Word (head_name h) ∷ ts) a
plain_joined h ts a m = subst (λ z. ATypeAtomOf (Word (head_name h) ∷ ts) z) (sym m.is) (joined h ts m.value m.word)

whole_joined : (h : Head) (ts : List Token) (a : TypeAtom) (p : Atom) → Tail h [] p → Says [] (types.Plain p) ts a → ATypeAtomOf (Word (head_name h) ∷ ts) a
whole_joined h ts a p m n = subst (λ z. ATypeAtomOf (Word (head_name h) ∷ ts) z) (sym n.1) (subst (λ z. ATypeAtomOf (Word (head_name h) ∷ z) (types.Plain p)) (sym n.0) (joined h [] p m))

type_joined : (h : Head) (ts : List Token) (a : TypeAtom) → TypeTail h ts a → ATypeAtomOf (Word (head_name h) ∷ ts) a
type_joined heads.Null ts a m = plain_joined heads.Null ts a m
type_joined heads.False ts a m = plain_joined heads.False ts a m
type_joined heads.True ts a m = plain_joined heads.True ts a m
type_joined heads.Bools ts a m = plain_joined heads.Bools ts a m
type_joined heads.Int ts a m = plain_joined heads.Int ts a m
type_joined heads.Str ts a m = plain_joined heads.Str ts a m
type_joined heads.Obj ts a m = plain_joined heads.Obj ts a m
type_joined heads.Vec ts a (inl m) = whole_joined heads.Vec ts a atoms.Vec (refl, refl) m
type_joined heads.Vec ts a (inr m) = let w = m.word.word in
    subst (λ z. ATypeAtomOf (Word (codes "Vec") ∷ ts) z) (sym m.word.is)
    (record { rest = m.rest; word = record { first = w.first; word = w.word; tokens = w.tokens }; tokens = ap (λ l. Word (codes "Vec") ∷ l) m.tokens })
type_joined heads.Dict ts a (inl m) = whole_joined heads.Dict ts a atoms.Dict (refl, refl) m
type_joined heads.Dict ts a (inr m) = let w = m.word.word in
    subst (λ z. ATypeAtomOf (Word (codes "Dict") ∷ ts) z) (sym m.word.is)
    (record {
      rest = m.rest;
      word = record {
        first = w.first;
        second = w.second;
        left = record { first = w.left.first; word = w.left.word; tokens = w.left.tokens };
        right = record { first = w.right.first; word = w.right.word; tokens = w.right.tokens };
        tokens = w.tokens;
      };
      tokens = ap (λ l. Word (codes "Dict") ∷ l) m.tokens;
    })
type_joined heads.Keyset ts a (inl m) = whole_joined heads.Keyset ts a atoms.Keyset (refl, refl) m
type_joined heads.Keyset ts a (inr m) = let w = m.word.word in
    subst (λ z. ATypeAtomOf (Word (codes "Keyset") ∷ ts) z) (sym m.word.is)
    (record { rest = m.rest; word = record { first = w.first; word = w.word; tokens = w.tokens }; tokens = ap (λ l. Word (codes "Keyset") ∷ l) m.tokens })

-- Uninit, or a head and what is behind it
pub type_split : (w : List Token) (a : TypeAtom) → (a ≡ types.Uninit → ⊥) → ATypeAtomOf w a → (h : Head) × (rest : List Token) × (w ≡ Word (head_name h) ∷ rest) × TypeTail h rest a
type_split w types.Uninit other n = absurd (other refl)
type_split w (types.Plain p) other n = let s = split w p n in (head_of p, s.0, s.1, plain_tail (head_of p) s.0 p s.2)
type_split w (types.VecOf leaf) other n = (
  heads.Vec,
  Mark 60 ∷ n.rest,
  n.tokens,
  inr (record { rest = n.rest; word = record { value = leaf; word = record { first = n.word.first; word = n.word.word; tokens = n.word.tokens }; is = refl }; tokens = refl }),
)
type_split w (types.DictOf key leaf) other n = (
  heads.Dict,
  Mark 60 ∷ n.rest,
  n.tokens,
  inr
      (record {
        rest = n.rest;
        word = record {
          value = (key, leaf);
          word = record {
            first = n.word.first;
            second = n.word.second;
            left = record { first = n.word.left.first; word = n.word.left.word; tokens = n.word.left.tokens };
            right = record { first = n.word.right.first; word = n.word.right.word; tokens = n.word.right.tokens };
            tokens = n.word.tokens;
          };
          is = refl;
        };
        tokens = refl;
      }),
)
type_split w (types.KeysetOf key) other n = (
  heads.Keyset,
  Mark 60 ∷ n.rest,
  n.tokens,
  inr (record { rest = n.rest; word = record { value = key; word = record { first = n.word.first; word = n.word.word; tokens = n.word.tokens }; is = refl }; tokens = refl }),
)

uninit_head : (h : Head) → Word (codes "Uninit") ≡ Word (head_name h) → ⊥
uninit_head heads.Null = apart (codes "Uninit") (codes "Null") refl
uninit_head heads.False = apart (codes "Uninit") (codes "False") refl
uninit_head heads.True = apart (codes "Uninit") (codes "True") refl
uninit_head heads.Bools = apart (codes "Uninit") (codes "Bool") refl
uninit_head heads.Int = apart (codes "Uninit") (codes "Int") refl
uninit_head heads.Str = apart (codes "Uninit") (codes "Str") refl
uninit_head heads.Obj = apart (codes "Uninit") (codes "Obj") refl
uninit_head heads.Vec = apart (codes "Uninit") (codes "Vec") refl
uninit_head heads.Dict = apart (codes "Uninit") (codes "Dict") refl
uninit_head heads.Keyset = apart (codes "Uninit") (codes "Keyset") refl

-- which of them, by what it begins with
by_front : (w : List Token) (a : TypeAtom) (x : List Token) → ATypeAtomOf w a → (front (w ++ x) ≡ Word (codes "Uninit") → ⊥)
    → (h : Head) × (rest : List Token) × (w ≡ Word (head_name h) ∷ rest) × TypeTail h rest a
by_front w a x n other = type_split w a (λ e. other (ap (λ l. front (l ++ x)) (subst (λ z. ATypeAtomOf w z) e n))) n

pub type_resumes : (F : Follow) (h : Head) (left : List Token) → Resumes F ATypeAtomOf (Word (head_name h) ∷ []) (TypeTail h) (λ v. v) left
type_resumes F h left = record {
  on = λ ts u m. type_joined h ts u m;
  back = λ w v x y n o g e.
      let s = by_front w v x n (λ d. uninit_head h (sym d ∙ ap front e)) in
      let is : s.0 ≡ h = same_head s.0 h (ap front (sym (ap (λ l. l ++ x) s.2)) ∙ ap front e) in
      (s.1, v, subst (λ k. TypeTail k s.1 v) is s.3, s.2 ∙ ap (λ k. Word (head_name k) ∷ s.1) is, refl);
}

pub uninit_resumes : (F : Follow) (left : List Token) → Resumes F ATypeAtomOf (Word (codes "Uninit") ∷ []) (Says [] types.Uninit) (λ v. v) left
uninit_resumes F left = record {
  on = λ ts u m. subst (λ z. ATypeAtomOf (Word (codes "Uninit") ∷ ts) z) (sym m.1) (ap (λ l. Word (codes "Uninit") ∷ l) m.0);
  back = λ w v x y n o g e. back w v x y n e;
}
  where
    differs : {A : Type 0} (w : List Token) (v : TypeAtom) (x y : List Token) → (v ≡ types.Uninit → ⊥) → ATypeAtomOf w v → w ++ x ≡ Word (codes "Uninit") ∷ y → A
    differs w v x y other n e = let s = type_split w v other n in absurd (uninit_head s.0 (sym (ap front e) ∙ ap front (ap (λ l. l ++ x) s.2)))

    back : (w : List Token) (v : TypeAtom) (x y : List Token) → ATypeAtomOf w v → w ++ x ≡ Word (codes "Uninit") ∷ y
        → (ts : List Token) × (u : TypeAtom) × Says [] types.Uninit ts u × (w ≡ Word (codes "Uninit") ∷ ts) × (v ≡ u)
    back w types.Uninit x y n e = ([], types.Uninit, (refl, refl), n, refl)
    back w (types.Plain a) x y n e = differs w (types.Plain a) x y (λ d. absurd (cc d)) n e
    back w (types.VecOf a) x y n e = differs w (types.VecOf a) x y (λ d. absurd (cc d)) n e
    back w (types.DictOf a b) x y n e = differs w (types.DictOf a b) x y (λ d. absurd (cc d)) n e
    back w (types.KeysetOf a) x y n e = differs w (types.KeysetOf a) x y (λ d. absurd (cc d)) n e

pub type_stuck : (F : Follow) (p : Placed) → (next p ≡ Word (codes "Uninit") → ⊥) → ((h : Head) → next p ≡ Word (head_name h) → ⊥) → StuckAt F ATypeAtomOf p p
type_stuck F p no_uninit other = record {
  read = [];
  past = past_none p;
  viable = record { more = Word (codes "Uninit") ∷ []; value = types.Uninit; word = refl; proper = refl };
  dead = λ w v x y n o e.
      let s = by_front w v x n (λ d. no_uninit (sym (ap front e) ∙ d)) in other s.0 (ap front (sym e) ∙ ap front (ap (λ l. l ++ x) s.2));
}
