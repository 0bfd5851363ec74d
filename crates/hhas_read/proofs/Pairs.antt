-- One after the other, what is read in steps.
use Rattle.std.proofs.Common.{◌≡◌, [], ◌++◌, refl, sym, subst, Result, Err}
use Rattle.hhbc_repo.specs.Languages.{Lang, Both, Means}
use Rattle.hhas_read.specs.declared.reader.Stop.{Stop}
use Rattle.hhas_read.specs.Reading.{Placed, Viable, Taken, Reads, any}
use Rattle.hhas_read.proofs.Resuming.{past_none, past_on, stop_lifts}
use Rattle.hhas_read.proofs.Joining.{Lawful, both_resumes, both_stop, means_resumes}

module _ {T U : Type 0} (A : Lang T) (B : Lang U) where
  pub both_taken : (old mid new : Placed) (a : T) (b : U) → Taken any A old mid a → Taken any B mid new b → Taken any (Both A B) old new (a, b)
  both_taken old mid new a b s t = record {
    used = s.used ++ t.used;
    past = past_on s.past t.past;
    word = record { first = s.used; second = t.used; left = s.word; right = t.word; tokens = refl };
    follows = refl;
  }

  pub first_stops : Viable B [] → (old new : Placed) (e : Stop) → Reads any A old (Err e) new → Reads any (Both A B) old (Err e) new
  first_stops some old new e s = both_stop any any A B (λ b v x m o. refl) old new e some s

  pub second_stops : Lawful any A → (old mid new : Placed) (a : T) (e : Stop) → Taken any A old mid a → Reads any B mid (Err e) new → Reads any (Both A B) old (Err e) new
  second_stops law old mid new a e t s =
      stop_lifts any (Both A B) B old mid new t.used (λ b. (a, b)) e (both_resumes any any A B (λ b v x m o. refl) old mid a law t) t.past s

-- with another value
pub means_taken : {V W : Type 0} (f : V → W) (A : Lang V) (old new : Placed) (v : V) → Taken any A old new v → Taken any (Means f A) old new (f v)
means_taken f A old new v t = record { used = t.used; past = t.past; word = record { value = v; word = t.word; is = refl }; follows = t.follows }

pub means_stops : {V W : Type 0} (f : V → W) (A : Lang V) (old new : Placed) (e : Stop) (r : Result W Stop) → r ≡ Err e → Reads any A old (Err e) new → Reads any (Means f A) old r new
means_stops f A old new e r is s =
    subst (λ r. Reads any (Means f A) old r new) (sym is) (stop_lifts any (Means f A) A old old new [] f e (means_resumes any f A old.tokens) (past_none old) s)
