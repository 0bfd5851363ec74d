-- Whole types, by what they begin with.
use Rattle.std.proofs.Common.{◌≡◌, ◌≤◌, ◌⊎◌, ℕ, suc, true, false, List, [], ◌∷◌, ◌++◌, map, refl, sym, ap, ◌∙◌, append_assoc, subst, lit≤, inl, inr, codes, arith}
use Rattle.std.specs.List.{list_all}
use Rattle.hhas_lex.specs.Tokens.{Token, Word, Mark, front}
use Rattle.hhbc_repo.specs.Languages.{Says, Separated}
use Rattle.hhbc_repo.specs.TypeSyntax as grammar
use Rattle.hhbc_repo.specs.TypeSyntax.{ATypeAtom, Ascend, type_line}
use Rattle.hhas_read.specs.declared.atoms.Head.{Head}
use Rattle.hhas_read.specs.declared.atoms.Head.TheVariants as heads
use Rattle.hhas_read.specs.declared.types.TypeAtom.{TypeAtom}
use Rattle.hhas_read.specs.declared.types.TypeAtom.TheVariants as types
use Rattle.hhas_read.specs.declared.whole_types.WrittenType.{WrittenType}
use Rattle.hhas_read.specs.declared.whole_types.WrittenType.TheVariants as whole
use Rattle.hhas_read.specs.LeafSyntax.{head_line}
use Rattle.hhas_read.specs.Reading.{Follow, any}
use Rattle.hhas_read.specs.TypeWords.{ATypeAtomOf, type_atom_of}
use Rattle.hhas_read.specs.WholeTypes.{AWrittenTypeOf, TypeAtomsBehind, UninitMore, UninitTail}
use Rattle.hhas_read.specs.Written.{head_name}
use Rattle.hhas_read.proofs.LeafWords.{apart, cell_head, never_head}
use Rattle.hhas_read.proofs.Reserved.{never_both}
use Rattle.hhas_read.proofs.Resuming.{Resumes}
use Rattle.hhas_read.proofs.TypeHeads.{type_split, uninit_resumes}
use Rattle.hhas_read.proofs.TypeLines.{tail_line}

-- ---- what atoms of types begin with

abbrev Begins : Token → Type 0
Begins t = (t ≡ Word (codes "Uninit")) ⊎ ((h : Head) × (t ≡ Word (head_name h)))

begins_one : (w : List Token) (a : TypeAtom) (x : List Token) → ATypeAtomOf w a → Begins (front (w ++ x))
begins_one w types.Uninit x n = inl (ap (λ l. front (l ++ x)) n)
begins_one w (types.Plain a) x n = let s = type_split w (types.Plain a) (λ d. absurd (cc d)) n in inr (s.0, ap (λ l. front (l ++ x)) s.2)
begins_one w (types.VecOf a) x n = let s = type_split w (types.VecOf a) (λ d. absurd (cc d)) n in inr (s.0, ap (λ l. front (l ++ x)) s.2)
begins_one w (types.DictOf a b) x n = let s = type_split w (types.DictOf a b) (λ d. absurd (cc d)) n in inr (s.0, ap (λ l. front (l ++ x)) s.2)
begins_one w (types.KeysetOf a) x n = let s = type_split w (types.KeysetOf a) (λ d. absurd (cc d)) n in inr (s.0, ap (λ l. front (l ++ x)) s.2)

-- the first of several
in_front : (w a b x : List Token) → w ≡ a ++ Mark 124 ∷ b → front (w ++ x) ≡ front (a ++ (Mark 124 ∷ (b ++ x)))
in_front w a b x e = ap (λ l. front (l ++ x)) e ∙ ap front (append_assoc a (Mark 124 ∷ b) x)

begins : (w : List Token) (xs : List TypeAtom) (x : List Token) → Separated 124 ATypeAtom w (map type_atom_of xs) → Begins (front (w ++ x))
begins w [] x n = absurd n
begins w (a ∷ []) x n = begins_one w a x n
begins w (a ∷ b ∷ bs) x n = subst Begins (sym (in_front w n.0 n.1 x n.4)) (begins_one n.0 a (Mark 124 ∷ (n.1 ++ x)) n.2)

not_never : (t : Token) → Begins t → t ≡ Word (codes "Never") → ⊥
not_never t (inl b) e = apart (codes "Uninit") (codes "Never") refl (sym b ∙ e)
not_never t (inr b) e = never_head b.0 (sym b.1 ∙ e)

not_cell : (t : Token) → Begins t → t ≡ Word (codes "Cell") → ⊥
not_cell t (inl b) e = apart (codes "Uninit") (codes "Cell") refl (sym b ∙ e)
not_cell t (inr b) e = cell_head b.0 (sym b.1 ∙ e)

-- ---- lines

some_line : (h : Head) → 1 ≤ head_line h
some_line heads.Null = lit≤ tt
some_line heads.False = lit≤ tt
some_line heads.True = lit≤ tt
some_line heads.Bools = lit≤ tt
some_line heads.Int = lit≤ tt
some_line heads.Str = lit≤ tt
some_line heads.Obj = lit≤ tt
some_line heads.Vec = lit≤ tt
some_line heads.Dict = lit≤ tt
some_line heads.Keyset = lit≤ tt

above : (w : List Token) (a : TypeAtom) (x : List Token) → ATypeAtomOf w a → (front (w ++ x) ≡ Word (codes "Uninit") → ⊥) → 1 ≤ type_line (type_atom_of a)
above w a x n other =
    let s = type_split w a (λ d. other (ap (λ l. front (l ++ x)) (subst (λ z. ATypeAtomOf w z) d n))) n in
    subst (λ k. 1 ≤ k) (sym (tail_line s.0 s.1 a s.3)) (some_line s.0)

without_uninit : (w : List Token) (xs : List TypeAtom) (x : List Token) → Separated 124 ATypeAtom w (map type_atom_of xs)
    → (front (w ++ x) ≡ Word (codes "Uninit") → ⊥) → Ascend 0 (map type_line (map type_atom_of xs)) → Ascend 1 (map type_line (map type_atom_of xs))
without_uninit w [] x n other up = tt
without_uninit w (a ∷ []) x n other up = (above w a x n other, up.1)
without_uninit w (a ∷ b ∷ bs) x n other up = (above n.0 a (Mark 124 ∷ (n.1 ++ x)) n.2 (λ e. other (in_front w n.0 n.1 x n.4 ∙ e)), up.1)

from_zero : (xs : List TypeAtom) → Ascend 1 (map type_line (map type_atom_of xs)) → Ascend 0 (map type_line (map type_atom_of xs))
from_zero [] up = tt
from_zero (a ∷ xs) up = (zero_low (type_line (type_atom_of a)), up.1)
  where
    zero_low : (n : ℕ) → 0 ≤ n
    zero_low n = omega (arith)

all_fit : (xs : List grammar.TypeAtom) → list_all (λ a. true) xs ≡ true
all_fit [] = refl
all_fit (a ∷ xs) = all_fit xs

-- ---- types

at_front : (t : Token) (ts w x y left : List Token) → w ≡ t ∷ ts → w ++ x ≡ y → front y ≡ front left → front left ≡ t
at_front t ts w x y left n e h = sym h ∙ ap front (sym e) ∙ ap (λ l. front (l ++ x)) n

pub never_only : (w : List Token) (v : WrittenType) (x : List Token) → AWrittenTypeOf w v → front (w ++ x) ≡ Word (codes "Never") → (w ≡ Word (codes "Never") ∷ []) × (v ≡ whole.Never)
never_only w whole.Never x n e = (n, refl)
never_only w whole.Cell x n e = absurd (apart (codes "Cell") (codes "Never") refl (sym (ap (λ l. front (l ++ x)) n) ∙ e))
never_only w whole.UninitCell x n e = absurd (apart (codes "Uninit") (codes "Never") refl (sym (ap (λ l. front (l ++ x)) n) ∙ e))
never_only w (whole.Atoms xs) x n e = absurd (not_never (front (w ++ x)) (begins w xs x n.0) e)

pub cell_only : (w : List Token) (v : WrittenType) (x : List Token) → AWrittenTypeOf w v → front (w ++ x) ≡ Word (codes "Cell") → (w ≡ Word (codes "Cell") ∷ []) × (v ≡ whole.Cell)
cell_only w whole.Never x n e = absurd (apart (codes "Never") (codes "Cell") refl (sym (ap (λ l. front (l ++ x)) n) ∙ e))
cell_only w whole.Cell x n e = (n, refl)
cell_only w whole.UninitCell x n e = absurd (apart (codes "Uninit") (codes "Cell") refl (sym (ap (λ l. front (l ++ x)) n) ∙ e))
cell_only w (whole.Atoms xs) x n e = absurd (not_cell (front (w ++ x)) (begins w xs x n.0) e)

module _ (F : Follow) (left : List Token) where
  pub never_type : Resumes F AWrittenTypeOf (Word (codes "Never") ∷ []) (Says [] whole.Never) (λ v. v) left
  never_type = record {
    on = λ ts u m. subst (λ z. AWrittenTypeOf (Word (codes "Never") ∷ ts) z) (sym m.1) (ap (λ l. Word (codes "Never") ∷ l) m.0);
    back = λ w v x y n o h e. let s = never_only w v x n (ap front e) in ([], whole.Never, (refl, refl), s.0, s.1);
  }

  pub cell_type : Resumes F AWrittenTypeOf (Word (codes "Cell") ∷ []) (Says [] whole.Cell) (λ v. v) left
  cell_type = record {
    on = λ ts u m. subst (λ z. AWrittenTypeOf (Word (codes "Cell") ∷ ts) z) (sym m.1) (ap (λ l. Word (codes "Cell") ∷ l) m.0);
    back = λ w v x y n o h e. let s = cell_only w v x n (ap front e) in ([], whole.Cell, (refl, refl), s.0, s.1);
  }

  pub atoms_type : (front left ≡ Word (codes "Never") → ⊥) → (front left ≡ Word (codes "Cell") → ⊥) → (front left ≡ Word (codes "Uninit") → ⊥)
      → Resumes F AWrittenTypeOf [] (TypeAtomsBehind []) whole.Atoms left
  atoms_type no_never no_cell no_uninit = record {
    on = λ ts u m. subst (λ z. AWrittenTypeOf ts (whole.Atoms z)) (sym m.is) (m.word.0, from_zero m.value m.word.1);
    back = λ w v x y n o h e. back w v x y n h e;
  }
    where
      back : (w : List Token) (v : WrittenType) (x y : List Token) → AWrittenTypeOf w v → front y ≡ front left → w ++ x ≡ y
          → (ts : List Token) × (u : List TypeAtom) × TypeAtomsBehind [] ts u × (w ≡ ts) × (v ≡ whole.Atoms u)
      back w whole.Never x y n h e = absurd (no_never (at_front (Word (codes "Never")) [] w x y left n e h))
      back w whole.Cell x y n h e = absurd (no_cell (at_front (Word (codes "Cell")) [] w x y left n e h))
      back w whole.UninitCell x y n h e = absurd (no_uninit (at_front (Word (codes "Uninit")) (Mark 124 ∷ Word (codes "Cell") ∷ []) w x y left n e h))
      back w (whole.Atoms xs) x y n h e = (
        w,
        xs,
        record { value = xs; word = (n.0, without_uninit w xs x n.0 (λ d. no_uninit (sym h ∙ ap front (sym e) ∙ d)) n.1, all_fit (map type_atom_of xs)); is = refl },
        refl,
        refl,
      )

  -- ---- behind Uninit

  pub uninit_type : Resumes F AWrittenTypeOf (Word (codes "Uninit") ∷ []) UninitTail (λ v. v) left
  uninit_type = record { on = λ ts u m. on ts u m; back = λ w v x y n o h e. back w v x y n e }
    where
      more : (ts : List Token) (xs : List TypeAtom) → TypeAtomsBehind (types.Uninit ∷ []) ts xs → AWrittenTypeOf (Word (codes "Uninit") ∷ Mark 124 ∷ ts) (whole.Atoms xs)
      more ts xs m = subst (λ z. AWrittenTypeOf (Word (codes "Uninit") ∷ Mark 124 ∷ ts) (whole.Atoms z)) (sym m.is) (by_value m.value m.word)
        where
          by_value : (us : List TypeAtom) → Separated 124 ATypeAtom ts (map type_atom_of us) × Ascend 1 (map type_line (map type_atom_of us)) × (list_all (λ a. true) (map type_atom_of us) ≡ true)
              → AWrittenTypeOf (Word (codes "Uninit") ∷ Mark 124 ∷ ts) (whole.Atoms (types.Uninit ∷ us))
          by_value [] n = absurd n.0
          by_value (u ∷ us) n = ((Word (codes "Uninit") ∷ [], ts, refl, n.0, refl), (lit≤ tt, n.1))

      on : (ts : List Token) (u : WrittenType) → UninitTail ts u → AWrittenTypeOf (Word (codes "Uninit") ∷ ts) u
      on ts u (inl m) =
          subst (λ z. AWrittenTypeOf (Word (codes "Uninit") ∷ ts) z) (sym m.1) (ap (λ l. Word (codes "Uninit") ∷ l) m.0, (lit≤ tt, tt))
      on ts u (inr m) = elim m.word [
        | inl q ↦ subst (λ z. AWrittenTypeOf (Word (codes "Uninit") ∷ ts) z) (sym q.is)
            (subst (λ l. AWrittenTypeOf (Word (codes "Uninit") ∷ l) (whole.Atoms q.value)) (sym m.tokens) (more m.rest q.value q.word))
        | inr q ↦ subst (λ z. AWrittenTypeOf (Word (codes "Uninit") ∷ ts) z) (sym q.1)
            (ap (λ l. Word (codes "Uninit") ∷ l) (m.tokens ∙ ap (λ l. Mark 124 ∷ l) q.0))
      ]

      back : (w : List Token) (v : WrittenType) (x y : List Token) → AWrittenTypeOf w v → w ++ x ≡ Word (codes "Uninit") ∷ y
          → (ts : List Token) × (u : WrittenType) × UninitTail ts u × (w ≡ Word (codes "Uninit") ∷ ts) × (v ≡ u)
      back w whole.Never x y n e = absurd (apart (codes "Never") (codes "Uninit") refl (sym (ap (λ l. front (l ++ x)) n) ∙ ap front e))
      back w whole.Cell x y n e = absurd (apart (codes "Cell") (codes "Uninit") refl (sym (ap (λ l. front (l ++ x)) n) ∙ ap front e))
      back w whole.UninitCell x y n e = (
        Mark 124 ∷ Word (codes "Cell") ∷ [],
        whole.UninitCell,
        inr (record { rest = Word (codes "Cell") ∷ []; word = inr (refl, refl); tokens = refl }),
        n,
        refl,
      )
      back w (whole.Atoms []) x y n e = absurd n.0
      back w (whole.Atoms (a ∷ [])) x y n e =
          let t = (uninit_resumes any y).back w a x y n.0 refl refl e in
          ([], whole.Atoms (types.Uninit ∷ []), inl (refl, refl), t.3 ∙ ap (λ l. Word (codes "Uninit") ∷ l) t.2.0, ap (λ z. whole.Atoms (z ∷ [])) (t.4 ∙ t.2.1))
      back w (whole.Atoms (a ∷ b ∷ bs)) x y n e =
          let first = n.0.0 in let rest = n.0.1 in
          let joined = sym (append_assoc first (Mark 124 ∷ rest) x) ∙ ap (λ l. l ++ x) (sym n.0.4) ∙ e in
          let t = (uninit_resumes any y).back first a (Mark 124 ∷ (rest ++ x)) y n.0.2 refl refl joined in
          let is = t.4 ∙ t.2.1 in
          let up = subst (λ z. Ascend (suc (type_line (type_atom_of z))) (map type_line (map type_atom_of (b ∷ bs)))) is n.1.1 in (
            Mark 124 ∷ rest,
            whole.Atoms (types.Uninit ∷ b ∷ bs),
            inr
                (record {
                  rest = rest;
                  word = inl
                      (record {
                        value = types.Uninit ∷ b ∷ bs;
                        word = record { value = b ∷ bs; word = (n.0.3, up, all_fit (map type_atom_of (b ∷ bs))); is = refl };
                        is = refl;
                      });
                  tokens = refl;
                }),
            n.0.4 ∙ ap (λ l. l ++ (Mark 124 ∷ rest)) (t.3 ∙ ap (λ l. Word (codes "Uninit") ∷ l) t.2.0),
            ap (λ z. whole.Atoms (z ∷ b ∷ bs)) is,
          )

  pub bar_resumes : F (Mark 124) ≡ false → Resumes F UninitTail (Mark 124 ∷ []) UninitMore (λ v. v) left
  bar_resumes no_bar = record {
    on = λ ts u m. inr (record { rest = ts; word = m; tokens = refl });
    back = λ w v x y n o h e. elim n [
      | inl l ↦ absurd (never_both (sym o ∙ ap F (ap front (sym (ap (λ z. z ++ x) l.0) ∙ e)) ∙ no_bar))
      | inr r ↦ (r.rest, v, r.word, r.tokens, refl)
    ];
  }

  pub cell_more : Resumes F UninitMore (Word (codes "Cell") ∷ []) (Says [] whole.UninitCell) (λ v. v) left
  cell_more = record {
    on = λ ts u m. inr (ap (λ l. Word (codes "Cell") ∷ l) m.0, m.1);
    back = λ w v x y n o h e. elim n [
      | inl q ↦ absurd (not_cell (front (w ++ x)) (begins w q.word.value x q.word.word.0) (ap front e))
      | inr q ↦ ([], whole.UninitCell, (refl, refl), q.0, q.1)
    ];
  }

  pub atoms_more : (front left ≡ Word (codes "Cell") → ⊥) → Resumes F UninitMore [] (TypeAtomsBehind (types.Uninit ∷ [])) whole.Atoms left
  atoms_more no_cell = record {
    on = λ ts u m. inl (record { value = u; word = m; is = refl });
    back = λ w v x y n o h e. elim n [
      | inl q ↦ (w, q.value, q.word, refl, q.is)
      | inr q ↦ absurd (no_cell (at_front (Word (codes "Cell")) [] w x y left q.0 e h))
    ];
  }
