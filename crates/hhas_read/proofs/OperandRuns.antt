-- The operands of an instruction, in order.
use Rattle.std.proofs.Common.{◌≡◌, true, false, List, [], ◌∷◌, ◌++◌, refl, sym, ap, ◌∙◌, append_assoc, append-nil, subst, Err}
use Rattle.hhas_lex.specs.Tokens.{Token, front}
use Rattle.hhbc_ops.specs.declared.words.ImmKind.{ImmKind}
use Rattle.hhbc_ops.specs.declared.words.ImmKind.TheVariants as kinds
use Rattle.hhbc_ops.specs.declared.op.Op.{Op}
use Rattle.hhbc_ops.specs.declared.op.Op.TheVariants as ops
use Rattle.hhbc_ops.specs.Ops.{kinds_of}
use Rattle.hhbc_repo.specs.declared.parts.ImmParts.{ImmParts}
use Rattle.hhbc_repo.specs.Languages.{Both, Says}
use Rattle.hhbc_repo.specs.CodeSyntax.{Operand, Operands}
use Rattle.hhas_read.specs.declared.reader.Stop.{Stop}
use Rattle.hhas_read.specs.Kinds.{after, constraint_last}
use Rattle.hhas_read.specs.Reading.{Placed, Past, Reads, StuckAt, Taken, next}
use Rattle.hhas_read.specs.Written.{ends_type}
use Rattle.hhas_read.proofs.Resuming.{Resumes, past_none, past_on, resumes_same, resumes_start, resumes_then, stop_lifts, stuck_lifts, taken_lifts}
use Rattle.hhas_read.proofs.Joining.{Lawful, LeadsOn, both_lawful, both_resumes, both_stop, says_taken}
use Rattle.hhas_read.proofs.Following.{unended}
use Rattle.hhas_read.proofs.Making.{made_lawful}
use Rattle.hhas_read.proofs.OperandLaws.{operand_law}

-- ---- a constraint stands last

pub kinds_last : (op : Op) → constraint_last (kinds_of op) ≡ true
kinds_last ops.Nop = refl
kinds_last _ = refl

pub last_behind : (k : ImmKind) (ks : List ImmKind) → constraint_last (k ∷ ks) ≡ true → constraint_last ks ≡ true
last_behind k [] e = refl
last_behind kinds.Constraint (l ∷ ks) e = absurd (cc e)
last_behind _ (l ∷ ks) e = e

end_follows : (k : ImmKind) (t : Token) → ends_type t ≡ true → after k t ≡ true
end_follows kinds.Constraint t e = e
end_follows _ t e = refl

operand_leads : (k : ImmKind) (ks : List ImmKind) → constraint_last (k ∷ ks) ≡ true → LeadsOn ends_type (Operands ks) (after k)
operand_leads k [] e b [] x n o = end_follows k (front (b ++ x)) (ap ends_type (ap (λ l. front (l ++ x)) n) ∙ o)
operand_leads k [] e b (m ∷ ms) x n o = absurd n
operand_leads kinds.Constraint (l ∷ ks) e b v x n o = absurd (cc e)
operand_leads _ (l ∷ ks) e b v x n o = refl

-- ---- the first of the operands, and the others

abbrev pub with_first : ImmParts × List ImmParts → List ImmParts
with_first p = p.0 ∷ p.1

pub split_resumes : (k : ImmKind) (ks : List ImmKind) (left : List Token) → Resumes ends_type (Operands (k ∷ ks)) [] (Both (Operand k) (Operands ks)) with_first left
split_resumes k ks left = record { on = λ ts u m. (m.first, m.second, m.left, m.right, m.tokens); back = λ w v x y n o h e. back w v n }
  where
    back : (w : List Token) (v : List ImmParts) → Operands (k ∷ ks) w v → (ts : List Token) × (u : ImmParts × List ImmParts) × Both (Operand k) (Operands ks) ts u × (w ≡ ts) × (v ≡ with_first u)
    back w [] n = absurd n
    back w (m ∷ ms) n = (w, (m, ms), record { first = n.0; second = n.1; left = n.2; right = n.3; tokens = n.4 }, refl, refl)

none_resumes : (left : List Token) → Resumes ends_type (Operands []) [] (Says [] []) (λ ms. ms) left
none_resumes left = record { on = λ ts u m. on ts u m.0 m.1; back = λ w v x y n o h e. back w v n }
  where
    on : (ts : List Token) (u : List ImmParts) → ts ≡ [] → u ≡ [] → Operands [] ts u
    on ts u e f = subst (Operands [] ts) (sym f) e

    back : (w : List Token) (v : List ImmParts) → Operands [] w v → (ts : List Token) × (u : List ImmParts) × Says [] [] ts u × (w ≡ ts) × (v ≡ u)
    back w [] n = (w, [], (n, refl), refl, refl)
    back w (m ∷ ms) n = absurd n

none_lawful : Lawful ends_type (Operands [])
none_lawful = made_lawful ends_type (Operands []) (Says [] []) (λ ms. ms) none_resumes (record {
  same = λ a b x y v w n m o p d. (n.0 ∙ sym m.0, n.1 ∙ sym m.1);
  some = record { more = []; value = []; word = (refl, refl); proper = refl };
})

pub operands_lawful : (ks : List ImmKind) → constraint_last ks ≡ true → Lawful ends_type (Operands ks)
operands_lawful [] e = none_lawful
operands_lawful (k ∷ ks) e =
    made_lawful ends_type (Operands (k ∷ ks)) (Both (Operand k) (Operands ks)) with_first (split_resumes k ks)
    (both_lawful ends_type (after k) (Operand k) (Operands ks) (operand_leads k ks e) (operand_law k) (operands_lawful ks (last_behind k ks e)))

-- ---- the loop

-- operands were taken, and those of the other kinds are left
pub record OperandsTaken (whole rest : List ImmKind) (start now : Placed) (out : List ImmParts) : Type 0 where
  pub last : constraint_last rest ≡ true
  pub used : List Token
  pub past : Past used start now
  pub left : Resumes ends_type (Operands whole) used (Operands rest) (λ ms. out ++ ms) now.tokens

pub no_operands : (whole : List ImmKind) (start : Placed) → constraint_last whole ≡ true → OperandsTaken whole whole start start []
no_operands whole start e = record { last = e; used = []; past = past_none start; left = resumes_start ends_type (Operands whole) start.tokens }

module _ (whole : List ImmKind) (start : Placed) (k : ImmKind) (ks : List ImmKind) (out : List ImmParts) where
  next_operand : (old : Placed) → (inv : OperandsTaken whole (k ∷ ks) start old out)
      → Resumes ends_type (Operands whole) (inv.used ++ []) (Both (Operand k) (Operands ks)) (λ p. out ++ with_first p) old.tokens
  next_operand old inv =
      resumes_then ends_type (Operands whole) (Operands (k ∷ ks)) (Both (Operand k) (Operands ks)) inv.used [] old.tokens old.tokens (λ ms. out ++ ms) with_first
      inv.left (split_resumes k ks old.tokens) refl

  -- an operand goes wrong
  pub operand_wrong : (old new : Placed) (e : Stop) → OperandsTaken whole (k ∷ ks) start old out → Reads (after k) (Operand k) old (Err e) new
      → Reads ends_type (Operands whole) start (Err e) new
  operand_wrong old new e inv s =
      stop_lifts ends_type (Operands whole) (Both (Operand k) (Operands ks)) start old new (inv.used ++ []) (λ p. out ++ with_first p) e
      (next_operand old inv) (past_on inv.past (past_none old))
      (both_stop ends_type (after k) (Operand k) (Operands ks) (operand_leads k ks inv.last) old new e (operands_lawful ks (last_behind k ks inv.last)).some s)

  -- an operand was taken
  pub operand_taken : (old mid : Placed) (more : List ImmParts) (m : ImmParts) → OperandsTaken whole (k ∷ ks) start old out → Taken (after k) (Operand k) old mid m
      → more ≡ out ++ m ∷ [] → OperandsTaken whole ks start mid more
  operand_taken old mid more m inv t pushed =
      let step = resumes_then ends_type (Operands whole) (Both (Operand k) (Operands ks)) (Operands ks) (inv.used ++ []) t.used old.tokens mid.tokens
      (λ p. out ++ with_first p) (λ ms. (m, ms)) (next_operand old inv)
      (both_resumes ends_type (after k) (Operand k) (Operands ks) (operand_leads k ks inv.last) old mid m (operand_law k) t) t.past.tokens in record {
        last = last_behind k ks inv.last;
        used = (inv.used ++ []) ++ t.used;
        past = past_on (past_on inv.past (past_none old)) t.past;
        left = resumes_same ends_type (Operands whole) (Operands ks) ((inv.used ++ []) ++ t.used) mid.tokens (λ ms. out ++ (m ∷ ms)) (λ ms. more ++ ms)
            (λ ms. sym (ap (λ l. l ++ ms) pushed ∙ append_assoc out (m ∷ []) ms)) step;
      }

-- all operands were taken
module _ (whole : List ImmKind) (start now : Placed) (out : List ImmParts) where
  all_taken : (inv : OperandsTaken whole [] start now out) → Resumes ends_type (Operands whole) (inv.used ++ []) (Says [] []) (λ ms. out ++ ms) now.tokens
  all_taken inv =
      resumes_then ends_type (Operands whole) (Operands []) (Says [] []) inv.used [] now.tokens now.tokens (λ ms. out ++ ms) (λ ms. ms) inv.left (none_resumes now.tokens) refl

  pub operands_end : OperandsTaken whole [] start now out → ends_type (next now) ≡ true → Taken ends_type (Operands whole) start now out
  operands_end inv e =
      subst (Taken ends_type (Operands whole) start now) (append-nil out)
      (taken_lifts ends_type (Operands whole) (Says [] []) start now now (inv.used ++ []) (λ ms. out ++ ms) [] (all_taken inv) (past_on inv.past (past_none now))
      (says_taken ends_type [] now e))

  pub operands_unended : OperandsTaken whole [] start now out → ends_type (next now) ≡ false → StuckAt ends_type (Operands whole) start now
  operands_unended inv e =
      stuck_lifts ends_type (Operands whole) (Says [] []) start now now (inv.used ++ []) (λ ms. out ++ ms) (all_taken inv) (past_on inv.past (past_none now))
      (unended ends_type [] now e)
