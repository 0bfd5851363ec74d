-- Assertions, by the words that they begin with.
use Rattle.std.proofs.Common.{◌≡◌, ℕ, true, false, List, [], ◌∷◌, ◌++◌, inl, inr, refl, sym, ap, ◌∙◌, codes, subst, suc, length, ◌+◌, ◌<◌, arith, length-append, Result, Err}
use Rattle.hhas_lex.specs.Tokens.{Token, Word, front}
use Rattle.hhbc_repo.specs.declared.parts.AssertParts.{AssertParts}
use Rattle.hhbc_repo.specs.declared.parts.AssertParts.TheVariants as claims
use Rattle.hhbc_repo.specs.declared.parts.TypeParts.{TypeParts}
use Rattle.hhbc_repo.specs.Languages.{Lang, Behind, Both, Means}
use Rattle.hhbc_repo.specs.BodySyntax.{AnAssert}
use Rattle.hhbc_repo.specs.CodeSyntax.{ALocal, AnIndex}
use Rattle.hhbc_repo.specs.TypeSyntax.{AType}
use Rattle.hhas_read.specs.declared.reader.Stop.{Stop}
use Rattle.hhas_read.specs.Assertions.{IsAssertionNext, of_local, of_stack}
use Rattle.hhas_read.specs.Reading.{Follow, Placed, Reads, StuckAt, Taken, Viable, any, next}
use Rattle.hhas_read.specs.Written.{ends_type}
use Rattle.hhas_read.proofs.Resuming.{past_none, past_on, stop_lifts}
use Rattle.hhas_read.proofs.Joining.{Lawful, LeadsOn, behind_lawful, behind_some, both_lawful, both_resumes, both_stop, means_resumes}
use Rattle.hhas_read.proofs.FirstWord.{Form}
use Rattle.hhas_read.proofs.Following.{Avoids}
use Rattle.hhas_read.proofs.FormLaws.{form_same_before, local_lawful}
use Rattle.hhas_read.proofs.Operands.{index_lawful}
use Rattle.hhas_read.proofs.TypeLaws.{type_law}

-- the word that an assertion begins with
abbrev pub assertion_word : AssertParts → List ℕ
assertion_word (claims.Local name t) = codes "AssertRATL"
assertion_word (claims.Stack n t) = codes "AssertRATStk"

pub assertion_begins : (w : List Token) (v : AssertParts) (x : List Token) → AnAssert w v → front (w ++ x) ≡ Word (assertion_word v)
assertion_begins w (claims.Local name t) x m = ap (λ l. front (l ++ x)) m.tokens
assertion_begins w (claims.Stack n t) x m = ap (λ l. front (l ++ x)) m.tokens

pub assertion_split : (w : List Token) (v : AssertParts) → AnAssert w v → (rest : List Token) × (w ≡ Word (assertion_word v) ∷ rest)
assertion_split w (claims.Local name t) m = (m.rest, m.tokens)
assertion_split w (claims.Stack n t) m = (m.rest, m.tokens)

pub local_form : Form assertion_word of_local (codes "AssertRATL")
local_form (claims.Local name t) = inl ((name, t), refl)
local_form (claims.Stack n t) = inr refl

pub stack_form : Form assertion_word of_stack (codes "AssertRATStk")
stack_form (claims.Local name t) = inr refl
stack_form (claims.Stack n t) = inl ((n, t), refl)

-- ---- what stands behind the words

pub local_and_type : Lawful ends_type (Both ALocal AType)
local_and_type = both_lawful ends_type any ALocal AType (λ b v x n o. refl) local_lawful type_law

pub index_and_type : Lawful ends_type (Both AnIndex AType)
index_and_type = both_lawful ends_type any AnIndex AType (λ b v x n o. refl) index_lawful type_law

module _ {V : Type 0} (A : Lang V) (f : V × TypeParts → AssertParts) where
  pub typed_taken : (old mid new : Placed) (v : V) (t : TypeParts) → Taken any A old mid v → Taken ends_type AType mid new t → Taken ends_type (Means f (Both A AType)) old new (f (v, t))
  typed_taken old mid new v t a b = record {
    used = a.used ++ b.used;
    past = past_on a.past b.past;
    word = record { value = (v, t); word = record { first = a.used; second = b.used; left = a.word; right = b.word; tokens = refl }; is = refl };
    follows = b.follows;
  }

  pub untyped_stops : (old new : Placed) (e : Stop) (r : Result AssertParts Stop) → r ≡ Err e → Reads any A old (Err e) new → Reads ends_type (Means f (Both A AType)) old r new
  untyped_stops old new e r is s =
      subst (λ r. Reads ends_type (Means f (Both A AType)) old r new) (sym is)
      (stop_lifts ends_type (Means f (Both A AType)) (Both A AType) old old new [] f e (means_resumes ends_type f (Both A AType) old.tokens) (past_none old)
      (both_stop ends_type any A AType (λ b v x n o. refl) old new e type_law.some s))

  pub typed_stops : Lawful any A → (old mid new : Placed) (v : V) (e : Stop) (r : Result AssertParts Stop) → r ≡ Err e → Taken any A old mid v
      → Reads ends_type AType mid (Err e) new → Reads ends_type (Means f (Both A AType)) old r new
  typed_stops law old mid new v e r is t s =
      subst (λ r. Reads ends_type (Means f (Both A AType)) old r new) (sym is)
      (stop_lifts ends_type (Means f (Both A AType)) (Both A AType) old old new [] f e (means_resumes ends_type f (Both A AType) old.tokens) (past_none old)
      (stop_lifts ends_type (Both A AType) AType old mid new t.used (λ b. (v, b)) e (both_resumes ends_type any A AType (λ b u x n o. refl) old mid v law t) t.past s))

pub some_assertion : Viable AnAssert []
some_assertion =
    let b = behind_some (Word (codes "AssertRATL") ∷ []) (Both ALocal AType) refl local_and_type.some in
    record { more = b.more; value = of_local b.value; word = b.word; proper = b.proper }

-- ---- what follows

-- no assertion begins where the word of none is next
pub no_assertion : (F : Follow) (p : Placed) → IsAssertionNext p false → Avoids F AnAssert (next p)
no_assertion F p other w (claims.Local name t) x m o e = other.0 (sym e ∙ assertion_begins w (claims.Local name t) x m)
no_assertion F p other w (claims.Stack n t) x m o e = other.1 (sym e ∙ assertion_begins w (claims.Stack n t) x m)

pub assertion_stuck : (F : Follow) (p : Placed) → IsAssertionNext p false → StuckAt F AnAssert p p
assertion_stuck F p other = record {
  read = [];
  past = past_none p;
  viable = some_assertion;
  dead = λ w v x y n o e. no_assertion F p other w v x n o (ap front e);
}

-- an assertion may follow a type
pub assertion_leads : LeadsOn ends_type AnAssert ends_type
assertion_leads w v x n o = ap ends_type (assertion_begins w v x n)

-- ---- assertions stand apart from what follows, and each has one value

assertion_same : (a b x y : List Token) (v w : AssertParts) → AnAssert a v → AnAssert b w → ends_type (front x) ≡ true → ends_type (front y) ≡ true
    → a ++ x ≡ b ++ y → (a ≡ b) × (v ≡ w)
assertion_same a b x y (claims.Local name t) w n m o p e =
    form_same_before ends_type AnAssert assertion_word (Behind (Word (codes "AssertRATL") ∷ []) (Both ALocal AType)) of_local (codes "AssertRATL") assertion_begins local_form (λ w u n. n)
    (behind_lawful ends_type (Word (codes "AssertRATL") ∷ []) (Both ALocal AType) refl local_and_type) a b x y (name, t) w refl n m o p e
assertion_same a b x y (claims.Stack k t) w n m o p e =
    form_same_before ends_type AnAssert assertion_word (Behind (Word (codes "AssertRATStk") ∷ []) (Both AnIndex AType)) of_stack (codes "AssertRATStk") assertion_begins stack_form (λ w u n. n)
    (behind_lawful ends_type (Word (codes "AssertRATStk") ∷ []) (Both AnIndex AType) refl index_and_type) a b x y (k, t) w refl n m o p e

pub assertion_law : Lawful ends_type AnAssert
assertion_law = record { same = assertion_same; some = some_assertion }

-- it isn't without tokens
pub assertion_shortens : (old new : Placed) (v : AssertParts) → Taken ends_type AnAssert old new v → length new.tokens < length old.tokens
assertion_shortens old new v t =
    let s = assertion_split t.used v t.word in
    let whole : old.tokens ≡ Word (assertion_word v) ∷ (s.0 ++ new.tokens) = t.past.tokens ∙ ap (λ l. l ++ new.tokens) s.1 in
    let more : length old.tokens ≡ suc (length s.0 + length new.tokens) = ap length whole ∙ ap suc (length-append s.0 new.tokens) in
    omega (arith, more)
