-- Rules that are read one part after the other.
use Rattle.std.proofs.Common.{List, [], ◌++◌, refl, Err}
use Rattle.hhas_lex.specs.Tokens.{Token}
use Rattle.hhbc_repo.specs.Languages.{Lang, Both}
use Rattle.hhas_read.specs.declared.reader.Stop.{Stop}
use Rattle.hhas_read.specs.Reading.{Placed, Past, Follow, Viable, Taken, Reads}
use Rattle.hhas_read.proofs.Resuming.{Resumes, past_none, past_on, resumes_start, resumes_then, stop_lifts, taken_lifts}
use Rattle.hhas_read.proofs.Joining.{Lawful, LeadsOn, both_resumes, both_stop}

-- what was read from a start on, and what is left of the rule
pub record Onward {V W : Type 0} (F : Follow) (N : Lang V) (M : Lang W) (f : W → V) (start now : Placed) : Type 0 where
  pub used : List Token
  pub past : Past used start now
  pub left : Resumes F N used M f now.tokens

pub at_start : {V : Type 0} (F : Follow) (N : Lang V) (start : Placed) → Onward F N N (λ v. v) start start
at_start F N start = record { used = []; past = past_none start; left = resumes_start F N start.tokens }

-- what is left, otherwise
pub turned : {V W U : Type 0} {F : Follow} {N : Lang V} {M : Lang W} {f : W → V} {start now : Placed} (P : Lang U) (g : U → W)
    → Onward F N M f start now → Resumes F M [] P g now.tokens → Onward F N P (λ u. f (g u)) start now
turned {V} {W} {U} {F} {N} {M} {f} {start} {now} P g o r = record {
  used = o.used ++ [];
  past = past_on o.past (past_none now);
  left = resumes_then F N M P o.used [] now.tokens now.tokens f g o.left r refl;
}

-- the first part was taken
pub part_taken : {V W U : Type 0} {F : Follow} {N : Lang V} {A : Lang W} {B : Lang U} {f : W × U → V} {start old : Placed} (G : Follow) → LeadsOn F B G → Lawful G A
    → (mid : Placed) (a : W) → Onward F N (Both A B) f start old → Taken G A old mid a → Onward F N B (λ b. f (a, b)) start mid
part_taken {V} {W} {U} {F} {N} {A} {B} {f} {start} {old} G leads law mid a o t = record {
  used = o.used ++ t.used;
  past = past_on o.past t.past;
  left = resumes_then F N (Both A B) B o.used t.used old.tokens mid.tokens f (λ b. (a, b)) o.left (both_resumes F G A B leads old mid a law t) t.past.tokens;
}

-- the first part isn't there
pub part_fails : {V W U : Type 0} {F : Follow} {N : Lang V} {A : Lang W} {B : Lang U} {f : W × U → V} {start old : Placed} (G : Follow) → LeadsOn F B G → Viable B []
    → (new : Placed) (e : Stop) → Onward F N (Both A B) f start old → Reads G A old (Err e) new → Reads F N start (Err e) new
part_fails {V} {W} {U} {F} {N} {A} {B} {f} {start} {old} G leads some new e o s =
    stop_lifts F N (Both A B) start old new o.used f e o.left o.past (both_stop F G A B leads old new e some s)

pub last_taken : {V W : Type 0} {F : Follow} {N : Lang V} {M : Lang W} {f : W → V} {start old : Placed} (new : Placed) (u : W)
    → Onward F N M f start old → Taken F M old new u → Taken F N start new (f u)
last_taken {V} {W} {F} {N} {M} {f} {start} {old} new u o t = taken_lifts F N M start old new o.used f u o.left o.past t

pub last_fails : {V W : Type 0} {F : Follow} {N : Lang V} {M : Lang W} {f : W → V} {start old : Placed} (new : Placed) (e : Stop)
    → Onward F N M f start old → Reads F M old (Err e) new → Reads F N start (Err e) new
last_fails {V} {W} {F} {N} {M} {f} {start} {old} new e o s = stop_lifts F N M start old new o.used f e o.left o.past s
