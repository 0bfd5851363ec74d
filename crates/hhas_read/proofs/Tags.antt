-- Words with a colon behind them, and what follows.
use Rattle.std.proofs.Common.{ℕ, List, [], ◌∷◌, ◌++◌, refl, sym, ap, ◌∙◌, append_assoc, subst, Result, Err}
use Rattle.hhas_lex.specs.Tokens.{Token, Word, Mark}
use Rattle.hhbc_repo.specs.Languages.{Lang, Says, Behind}
use Rattle.hhas_read.specs.declared.reader.Stop.{Stop}
use Rattle.hhas_read.specs.declared.reader.Stop.TheVariants.{Syntax, NoMemory}
use Rattle.hhas_read.specs.Reading.{Placed, Past, Follow, Viable, Taken, Reads, Just, Tag, any}
use Rattle.hhas_read.proofs.Resuming.{Resumes, reads_on}
use Rattle.hhas_read.proofs.Joining.{behind_resumes, all_append}

-- the first token of a tag isn't there
pub tag_stop : (name : List ℕ) (old new : Placed) (e : Stop) → Reads any (Just (Word name)) old (Err e) new → Reads any (Tag name) old (Err e) new
tag_stop name old new Syntax s = record {
  read = s.read;
  past = s.past;
  viable = record {
    more = s.viable.more ++ (Mark 58 ∷ []);
    value = tt;
    word = (sym (append_assoc s.read s.viable.more (Mark 58 ∷ [])) ∙ ap (λ l. l ++ (Mark 58 ∷ [])) s.viable.word, refl);
    proper = all_append s.viable.more (Mark 58 ∷ []) s.viable.proper refl;
  };
  dead = λ w v x y n o d. s.dead (Word name ∷ []) tt (Mark 58 ∷ x) y refl refl (sym (ap (λ l. l ++ x) n.0) ∙ d);
}
tag_stop name old new NoMemory s = tt

pub tag_resumes : (name : List ℕ) (left : List Token) → Resumes any (Tag name) (Word name ∷ []) (Just (Mark 58)) (λ v. v) left
tag_resumes name left = record {
  on = λ ts u m. (ap (λ l. Word name ∷ l) m, refl);
  back = λ w v x y n o h e. (Mark 58 ∷ [], tt, refl, n.0, refl);
}

-- fixed tokens aren't there, and so nothing behind them
pub behind_stop : {V : Type 0} (F : Follow) (words : List Token) (A : Lang V) (old new : Placed) (e : Stop) → Viable A []
    → Reads any (Says words (tt {0})) old (Err e) new → Reads F (Behind words A) old (Err e) new
behind_stop F words A old new Syntax some s = record {
  read = s.read;
  past = s.past;
  viable = record {
    more = s.viable.more ++ some.more;
    value = some.value;
    word = record { rest = some.more; word = some.word; tokens = sym (append_assoc s.read s.viable.more some.more) ∙ ap (λ l. l ++ some.more) s.viable.word.0 };
    proper = all_append s.viable.more some.more s.viable.proper some.proper;
  };
  dead = λ w v x y n o d. s.dead words (tt {0}) (n.rest ++ x) y (refl, refl) refl (sym (append_assoc words n.rest x) ∙ ap (λ l. l ++ x) (sym n.tokens) ∙ d);
}
behind_stop F words A old new NoMemory some s = tt

-- behind fixed tokens that were taken
pub behind_reads : {V : Type 0} (F : Follow) (words : List Token) (A : Lang V) (old mid new : Placed) (r : Result V Stop)
    → Taken any (Says words (tt {0})) old mid (tt {0}) → Reads F A mid r new → Reads F (Behind words A) old r new
behind_reads F words A old mid new r t s =
    reads_on F (Behind words A) A old mid new words r (behind_resumes F words A mid.tokens) (subst (λ l. Past l old mid) t.word.0 t.past) s

pub tag_on : (name : List ℕ) (old mid new : Placed) (r : Result (Unit {0}) Stop) → Taken any (Just (Word name)) old mid (tt {0}) → Reads any (Just (Mark 58)) mid r new
    → Reads any (Tag name) old r new
tag_on name old mid new r t s =
    reads_on any (Tag name) (Just (Mark 58)) old mid new (Word name ∷ []) r (tag_resumes name mid.tokens) (subst (λ l. Past l old mid) t.word t.past) s
