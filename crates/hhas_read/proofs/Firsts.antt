-- What stands behind one token.
use Rattle.std.proofs.Common.{◌≡◌, List, [], ◌∷◌, ◌++◌, refl, ap, subst, Result, Err}
use Rattle.hhas_lex.specs.Tokens.{Token, front}
use Rattle.hhbc_repo.specs.Languages.{Lang, Behind, Says}
use Rattle.hhas_read.specs.declared.reader.Stop.{Stop}
use Rattle.hhas_read.specs.Reading.{Placed, Past, Follow, Just, Reads, Taken, Viable, any}
use Rattle.hhas_read.proofs.Resuming.{Resumes, past_none, reads_on, stop_lifts}
use Rattle.hhas_read.proofs.Joining.{behind_resumes}
use Rattle.hhas_read.proofs.Tags.{behind_stop}

pub just_resumes : (F : Follow) (t : Token) (left : List Token) → Resumes F (Says (t ∷ []) (tt {0})) [] (Just t) (λ u. u) left
just_resumes F t left = record { on = λ ts u m. (m, refl); back = λ w u x y n o h e. (w, tt, n.0, refl, refl) }

-- the token was taken
pub first_reads : {V : Type 0} (F : Follow) (t : Token) (A : Lang V) (old mid new : Placed) (r : Result V Stop)
    → Taken any (Just t) old mid (tt {0}) → Reads F A mid r new → Reads F (Behind (t ∷ []) A) old r new
first_reads F t A old mid new r k s =
    reads_on F (Behind (t ∷ []) A) A old mid new (t ∷ []) r (behind_resumes F (t ∷ []) A mid.tokens) (subst (λ l. Past l old mid) k.word k.past) s

-- it isn't there
pub first_stop : {V : Type 0} (F : Follow) (t : Token) (A : Lang V) (old new : Placed) (e : Stop) → Viable A []
    → Reads any (Just t) old (Err e) new → Reads F (Behind (t ∷ []) A) old (Err e) new
first_stop F t A old new e some s =
    behind_stop F (t ∷ []) A old new e some
    (stop_lifts any (Says (t ∷ []) (tt {0})) (Just t) old old new [] (λ u. u) e (just_resumes any t old.tokens) (past_none old) s)

-- of values whose words begin with the token, and others
pub begun_resumes : {V W : Type 0} (F : Follow) (N : Lang V) (t : Token) (M : Lang W) (f : W → V) (left : List Token)
    → ((ts : List Token) (u : W) → M ts u → N (t ∷ ts) (f u))
    → ((w : List Token) (v : V) (x : List Token) → N w v → front (w ++ x) ≡ t → (ts : List Token) × (u : W) × M ts u × (w ≡ t ∷ ts) × (v ≡ f u))
    → Resumes F N (t ∷ []) M f left
begun_resumes F N t M f left on off = record { on = on; back = λ w v x y n o h e. off w v x n (ap front e) }
