-- Scalars and initial values stand apart from what follows, and have one value.
use Rattle.std.proofs.Common.{◌≡◌, ℕ, Bool, true, false, List, [], ◌∷◌, ◌++◌, refl, sym, ap, ◌∙◌, codes}
use Rattle.std.specs.Str.{bytes_eq}
use Rattle.hhas_lex.specs.Tokens as tokens
use Rattle.hhas_lex.specs.Tokens.{Token, Word, Integer, front}
use Rattle.hack_values.specs.declared.cell.Cell.{Cell}
use Rattle.hack_values.specs.declared.cell.Cell.TheVariants as cells
use Rattle.hhbc_repo.specs.Languages.{Lang}
use Rattle.hhbc_repo.specs.TextSyntax.{AScalar, AnInitial}
use Rattle.hhas_read.specs.Reading.{Viable, any}
use Rattle.hhas_read.proofs.Joining.{Lawful}

-- ---- words of one token that tells the value

abbrev pub Told : {V : Type 0} → (Token → V) → Lang V → Type 0
Told {V} value A = (w : List Token) (v : V) → A w v → (t : Token) × (w ≡ t ∷ []) × (v ≡ value t)

pub told_lawful : {V : Type 0} (value : Token → V) (A : Lang V) → Told value A → Viable A [] → Lawful any A
told_lawful value A told some = record {
  same = λ a b x y v w n m o p d.
      let s = told a v n in let t = told b w m in
      let one : s.0 ≡ t.0 = ap front (ap (λ l. l ++ x) (sym s.1) ∙ d ∙ ap (λ l. l ++ y) t.1) in
      (s.1 ∙ ap (λ z. z ∷ []) one ∙ sym t.1, s.2 ∙ ap value one ∙ sym t.2);
  some = some;
}

-- ---- the value of a token

abbrev choose : Bool → Cell → Cell → Cell
choose true a b = a
choose false a b = b

abbrev named : List ℕ → Cell
named w =
    choose (bytes_eq w (codes "True")) (cells.Bool true) (choose (bytes_eq w (codes "False")) (cells.Bool false) (choose (bytes_eq w (codes "Vec")) (cells.Vec [])
    (choose (bytes_eq w (codes "Dict")) (cells.Dict []) (choose (bytes_eq w (codes "Keyset")) (cells.Keyset []) cells.Null))))

abbrev value_of : Token → Cell
value_of (Word w) = named w
value_of (Integer i) = cells.Int i
value_of (tokens.Str s) = cells.Str s
value_of t = cells.Null

scalar_told : Told value_of AScalar
scalar_told w cells.Null n = (Word (codes "Null"), n, refl)
scalar_told w (cells.Bool true) n = (Word (codes "True"), n, refl)
scalar_told w (cells.Bool false) n = (Word (codes "False"), n, refl)
scalar_told w (cells.Int i) n = (Integer i, n, refl)
scalar_told w (cells.Str s) n = (tokens.Str s, n, refl)
scalar_told w (cells.Vec l) n = absurd n
scalar_told w (cells.Dict l) n = absurd n
scalar_told w (cells.Keyset l) n = absurd n
scalar_told w (cells.Obj l) n = absurd n

initial_told : Told value_of AnInitial
initial_told w cells.Null n = (Word (codes "Null"), n, refl)
initial_told w (cells.Bool true) n = (Word (codes "True"), n, refl)
initial_told w (cells.Bool false) n = (Word (codes "False"), n, refl)
initial_told w (cells.Int i) n = (Integer i, n, refl)
initial_told w (cells.Str s) n = (tokens.Str s, n, refl)
initial_told w (cells.Vec []) n = (Word (codes "Vec"), n, refl)
initial_told w (cells.Vec (c ∷ cs)) n = absurd n
initial_told w (cells.Dict []) n = (Word (codes "Dict"), n, refl)
initial_told w (cells.Dict (c ∷ cs)) n = absurd n
initial_told w (cells.Keyset []) n = (Word (codes "Keyset"), n, refl)
initial_told w (cells.Keyset (c ∷ cs)) n = absurd n
initial_told w (cells.Obj l) n = absurd n

pub scalar_law : Lawful any AScalar
scalar_law = told_lawful value_of AScalar scalar_told (record { more = Word (codes "Null") ∷ []; value = cells.Null; word = refl; proper = refl })

pub initial_law : Lawful any AnInitial
initial_law = told_lawful value_of AnInitial initial_told (record { more = Word (codes "Null") ∷ []; value = cells.Null; word = refl; proper = refl })
