-- Fixed tokens, one after the other.
use Rattle.std.proofs.Common.{◌≡◌, true, List, [], ◌∷◌, ◌++◌, refl, sym, ap, ◌∙◌, append_assoc, subst, Result, Ok, Err}
use Rattle.std.specs.List.{list_all}
use Rattle.hhas_lex.specs.Tokens.{Token}
use Rattle.hhbc_repo.specs.Languages.{Says}
use Rattle.hhas_read.specs.declared.reader.Stop.{Stop}
use Rattle.hhas_read.specs.declared.reader.Stop.TheVariants.{Syntax, NoMemory}
use Rattle.hhas_lex.specs.Spelling.{is_proper}
use Rattle.hhas_read.specs.Reading.{Placed, Past, Taken, Reads, Just, any}
use Rattle.hhas_read.proofs.Joining.{all_append, says_first}
use Rattle.hhas_read.proofs.Resuming.{reads_on}

-- a token that was read stands for itself
pub just_says : (t : Token) (old new : Placed) (r : Result (Unit {0}) Stop) → Reads any (Just t) old r new → Reads any (Says (t ∷ []) (tt {0})) old r new
just_says t old new (Ok u) k = record { used = k.used; past = k.past; word = (k.word, refl); follows = k.follows }
just_says t old new (Err Syntax) s = record {
  read = s.read;
  past = s.past;
  viable = record { more = s.viable.more; value = tt; word = (s.viable.word, refl); proper = s.viable.proper };
  dead = λ w v x y n o d. s.dead w v x y n.0 o d;
}
just_says t old new (Err NoMemory) s = tt

module _ (t : Token) (words : List Token) where
  -- the first of them isn't there
  pub first_stop : list_all is_proper words ≡ true → (old new : Placed) (e : Stop) → Reads any (Just t) old (Err e) new → Reads any (Says (t ∷ words) (tt {0})) old (Err e) new
  first_stop proper old new Syntax s = record {
    read = s.read;
    past = s.past;
    viable = record {
      more = s.viable.more ++ words;
      value = tt;
      word = (sym (append_assoc s.read s.viable.more words) ∙ ap (λ l. l ++ words) s.viable.word, refl);
      proper = all_append s.viable.more words s.viable.proper proper;
    };
    dead = λ w v x y n o d. s.dead (t ∷ []) tt (words ++ x) y refl refl (sym (ap (λ l. l ++ x) n.0) ∙ d);
  }
  first_stop proper old new NoMemory s = tt

  -- the first was taken
  pub first_on : (old mid new : Placed) (u : Unit {0}) (r : Result (Unit {0}) Stop) → Taken any (Just t) old mid u → Reads any (Says words (tt {0})) mid r new
      → Reads any (Says (t ∷ words) (tt {0})) old r new
  first_on old mid new u r k s =
      reads_on any (Says (t ∷ words) tt) (Says words tt) old mid new (t ∷ []) r (says_first any t words tt mid.tokens) (subst (λ l. Past l old mid) k.word k.past) s
