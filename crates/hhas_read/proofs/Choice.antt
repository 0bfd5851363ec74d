-- One of two languages.
use Rattle.std.proofs.Common.{◌≡◌, List, [], ◌∷◌, ◌++◌, sym, ap, ◌∙◌, Result, Ok, Err, inl, inr}
use Rattle.hhas_lex.specs.Tokens.{Token, front}
use Rattle.hhbc_repo.specs.Languages.{Lang, Either}
use Rattle.hhas_read.specs.declared.reader.Stop.{Stop}
use Rattle.hhas_read.specs.declared.reader.Stop.TheVariants.{Syntax, NoMemory}
use Rattle.hhas_read.specs.Reading.{Placed, Follow, Reads, next}
use Rattle.hhas_read.proofs.Joining.{NeverBegins}

pub first_is : (l read m : List Token) → l ≡ read ++ m → (y : List Token) → (z : List Token) × ((read ++ front m ∷ []) ++ y ≡ front l ∷ z)
first_is l [] m e y = (y, ap (λ l. front l ∷ y) (sym e))
first_is l (t ∷ read) m e y = ((read ++ front m ∷ []) ++ y, ap (λ l. front l ∷ ((read ++ front m ∷ []) ++ y)) (sym e))

-- where no word of A begins with the next token, a word of either is one of B
pub reads_right : {V : Type 0} (F : Follow) (A B : Lang V) (old new : Placed) (r : Result V Stop) → NeverBegins F A (next old) → Reads F B old r new → Reads F (Either A B) old r new
reads_right F A B old new (Ok v) never t = record { used = t.used; past = t.past; word = inr t.word; follows = t.follows }
reads_right F A B old new (Err Syntax) never s = record {
  read = s.read;
  past = s.past;
  viable = record { more = s.viable.more; value = s.viable.value; word = inr s.viable.word; proper = s.viable.proper };
  dead = λ w v x y n o d. elim n [
    | inl a ↦ let z = first_is old.tokens s.read new.tokens s.past.tokens y in never w v x z.0 a o (d ∙ z.1)
    | inr b ↦ s.dead w v x y b o d
  ];
}
reads_right F A B old new (Err NoMemory) never t = tt
