-- Which languages spell the operands of each kind.
use Rattle.std.proofs.Common.{◌≡◌, ℕ, ℤ, List, [], ◌∷◌, refl, sym, subst, Option, Result, Ok, Err, MatchResult, IsOkAnd}
use Rattle.hhas_lex.specs.Tokens.{Token, Mark}
use Rattle.hhbc_ops.specs.declared.words.ImmKind.{ImmKind}
use Rattle.hhbc_ops.specs.declared.words.ImmKind.TheVariants as kinds
use Rattle.hhbc_ops.specs.declared.words.SetOpOp.{SetOpOp}
use Rattle.hhbc_ops.specs.declared.words.IncDecOp.{IncDecOp}
use Rattle.hhbc_ops.specs.declared.words.IsTypeOp.{IsTypeOp}
use Rattle.hhbc_repo.specs.declared.parts.ArmParts.{ArmParts}
use Rattle.hhbc_repo.specs.declared.parts.ImmParts.{ImmParts}
use Rattle.hhbc_repo.specs.declared.parts.ImmParts.TheVariants as imms
use Rattle.hhbc_repo.specs.declared.parts.TypeParts.{TypeParts}
use Rattle.hhbc_repo.specs.Languages.{Lang, Behind}
use Rattle.hhbc_repo.specs.CodeSyntax.{AChange, ALabel, ALocal, AnIndex, AnInteger, ASetOp, AString, AWord, IterLocals, Operand}
use Rattle.hhbc_repo.specs.TypeSyntax.{AConstraint}
use Rattle.hhas_read.specs.Arms.{ArmsToEnd, StringArmsToEnd}
use Rattle.hhas_read.specs.OneWord.{AnIsType}
use Rattle.hhas_read.specs.declared.reader.Stop.{Stop}
use Rattle.hhas_read.specs.Kinds.{after}
use Rattle.hhas_read.specs.Reading.{Follow, Placed, Reads, Taken}
use Rattle.hhas_read.proofs.Resuming.{Resumes, past_none, stop_lifts, taken_lifts}
use Rattle.hhas_read.proofs.Joining.{Lawful}
use Rattle.hhas_read.proofs.Making.{made_lawful}

-- the operands of the kind are the words of A
abbrev pub Spelled : {V : Type 0} → ImmKind → Lang V → (V → ImmParts) → Type 0
Spelled {V} kind A f = ((w : List Token) (v : V) → A w v → Operand kind w (f v)) × ((w : List Token) (m : ImmParts) → Operand kind w m → (v : V) × A w v × (m ≡ f v))

spelled_resumes : {V : Type 0} (F : Follow) (kind : ImmKind) (A : Lang V) (f : V → ImmParts) → Spelled kind A f → (left : List Token) → Resumes F (Operand kind) [] A f left
spelled_resumes F kind A f s left = record { on = λ ts u m. s.0 ts u m; back = λ w v x y n o h d. let b = s.1 w v n in (w, b.0, b.1, refl, b.2) }

-- an operand of a kind that is this one
pub kind_stops : {V : Type 0} (kind one : ImmKind) → kind ≡ one → (A : Lang V) (f : V → ImmParts) → Spelled one A f → (old new : Placed) (e : Stop)
    → Reads (after one) A old (Err e) new → Reads (after kind) (Operand kind) old (Err e) new
kind_stops kind one is A f s old new e r =
    subst (λ k. Reads (after k) (Operand k) old (Err e) new) (sym is)
    (stop_lifts (after one) (Operand one) A old old new [] f e (spelled_resumes (after one) one A f s old.tokens) (past_none old) r)

-- an operand of the kind, made of what was read
pub kind_made : {V : Type 0} (kind one : ImmKind) → kind ≡ one → (A : Lang V) (f : V → ImmParts) → Spelled one A f → (old new : Placed) (r : Result V Stop) (m : Result ImmParts Stop)
    → MatchResult r (λ v. IsOkAnd m (λ x. x ≡ f v)) (λ e. m ≡ Err e) → Reads (after one) A old r new → Reads (after kind) (Operand kind) old m new
kind_made kind one is A f s old new (Ok v) (Ok x) c t =
    subst (λ k. Taken (after k) (Operand k) old new x) (sym is)
    (subst (λ z. Taken (after one) (Operand one) old new z) (sym c)
    (taken_lifts (after one) (Operand one) A old old new [] f v (spelled_resumes (after one) one A f s old.tokens) (past_none old) t))
kind_made kind one is A f s old new (Ok v) (Err e) c t = absurd c
kind_made kind one is A f s old new (Err e) m c t =
    subst (λ z. Reads (after kind) (Operand kind) old z new) (sym c) (kind_stops kind one is A f s old new e t)

pub spelled_lawful : {V : Type 0} (F : Follow) (kind : ImmKind) (A : Lang V) (f : V → ImmParts) → Spelled kind A f → Lawful F A → Lawful F (Operand kind)
spelled_lawful F kind A f s law =
    made_lawful F (Operand kind) A f (spelled_resumes F kind A f s) law

pub int : Spelled kinds.Int AnInteger imms.Int
int = (λ w v n. n, back)
  where
    back : (w : List Token) (m : ImmParts) → Operand kinds.Int w m → (v : ℤ) × AnInteger w v × (m ≡ imms.Int v)
    back w (imms.Int v) n = (v, n, refl)
    back w _ n = absurd n

pub count : Spelled kinds.Count AnIndex imms.Count
count = (λ w v n. n, back)
  where
    back : (w : List Token) (m : ImmParts) → Operand kinds.Count w m → (v : ℕ) × AnIndex w v × (m ≡ imms.Count v)
    back w (imms.Count v) n = (v, n, refl)
    back w _ n = absurd n

pub text : Spelled kinds.Str AString imms.Str
text = (λ w v n. n, back)
  where
    back : (w : List Token) (m : ImmParts) → Operand kinds.Str w m → (v : List ℕ) × AString w v × (m ≡ imms.Str v)
    back w (imms.Str v) n = (v, n, refl)
    back w _ n = absurd n

pub name : Spelled kinds.Name AWord imms.Name
name = (λ w v n. n, back)
  where
    back : (w : List Token) (m : ImmParts) → Operand kinds.Name w m → (v : List ℕ) × AWord w v × (m ≡ imms.Name v)
    back w (imms.Name v) n = (v, n, refl)
    back w _ n = absurd n

pub variable : Spelled kinds.Local ALocal imms.Local
variable = (λ w v n. n, back)
  where
    back : (w : List Token) (m : ImmParts) → Operand kinds.Local w m → (v : List ℕ) × ALocal w v × (m ≡ imms.Local v)
    back w (imms.Local v) n = (v, n, refl)
    back w _ n = absurd n

pub iter : Spelled kinds.Iter AnIndex imms.Iter
iter = (λ w v n. n, back)
  where
    back : (w : List Token) (m : ImmParts) → Operand kinds.Iter w m → (v : ℕ) × AnIndex w v × (m ≡ imms.Iter v)
    back w (imms.Iter v) n = (v, n, refl)
    back w _ n = absurd n

pub target : Spelled kinds.Label ALabel imms.Pos
target = (λ w v n. n, back)
  where
    back : (w : List Token) (m : ImmParts) → Operand kinds.Label w m → (v : List ℕ) × ALabel w v × (m ≡ imms.Pos v)
    back w (imms.Pos v) n = (v, n, refl)
    back w _ n = absurd n

pub class : Spelled kinds.Class AWord imms.Class
class = (λ w v n. n, back)
  where
    back : (w : List Token) (m : ImmParts) → Operand kinds.Class w m → (v : List ℕ) × AWord w v × (m ≡ imms.Class v)
    back w (imms.Class v) n = (v, n, refl)
    back w _ n = absurd n

pub change : Spelled kinds.IncDec AChange imms.IncDec
change = (λ w v n. n, back)
  where
    back : (w : List Token) (m : ImmParts) → Operand kinds.IncDec w m → (v : IncDecOp) × AChange w v × (m ≡ imms.IncDec v)
    back w (imms.IncDec v) n = (v, n, refl)
    back w _ n = absurd n

pub set_op : Spelled kinds.SetOp ASetOp imms.SetOp
set_op = (λ w v n. n, back)
  where
    back : (w : List Token) (m : ImmParts) → Operand kinds.SetOp w m → (v : SetOpOp) × ASetOp w v × (m ≡ imms.SetOp v)
    back w (imms.SetOp v) n = (v, n, refl)
    back w _ n = absurd n

pub is_type : Spelled kinds.IsType AnIsType imms.IsType
is_type = (λ w v n. n, back)
  where
    back : (w : List Token) (m : ImmParts) → Operand kinds.IsType w m → (v : IsTypeOp) × AnIsType w v × (m ≡ imms.IsType v)
    back w (imms.IsType v) n = (v, n, refl)
    back w _ n = absurd n

pub switch : Spelled kinds.Switch (Behind (Mark 60 ∷ []) ArmsToEnd) imms.Arms
switch = (λ w v n. n, back)
  where
    back : (w : List Token) (m : ImmParts) → Operand kinds.Switch w m → (v : List ArmParts) × Behind (Mark 60 ∷ []) ArmsToEnd w v × (m ≡ imms.Arms v)
    back w (imms.Arms v) n = (v, n, refl)
    back w _ n = absurd n

pub string_switch : Spelled kinds.SSwitch (Behind (Mark 60 ∷ []) StringArmsToEnd) imms.Arms
string_switch = (λ w v n. n, back)
  where
    back : (w : List Token) (m : ImmParts) → Operand kinds.SSwitch w m → (v : List ArmParts) × Behind (Mark 60 ∷ []) StringArmsToEnd w v × (m ≡ imms.Arms v)
    back w (imms.Arms v) n = (v, n, refl)
    back w _ n = absurd n

abbrev pub iter_operand : Option (List ℕ) × List ℕ → ImmParts
iter_operand p = imms.IterLocals p.0 p.1

pub locals : Spelled kinds.IterLocals IterLocals iter_operand
locals = (λ w v n. n, back)
  where
    back : (w : List Token) (m : ImmParts) → Operand kinds.IterLocals w m → (v : Option (List ℕ) × List ℕ) × IterLocals w v × (m ≡ iter_operand v)
    back w (imms.IterLocals k v) n = ((k, v), n, refl)
    back w _ n = absurd n

pub constraint : Spelled kinds.Constraint AConstraint imms.Constraint
constraint = (λ w v n. n, back)
  where
    back : (w : List Token) (m : ImmParts) → Operand kinds.Constraint w m → (v : TypeParts) × AConstraint w v × (m ≡ imms.Constraint v)
    back w (imms.Constraint v) n = (v, n, refl)
    back w _ n = absurd n
