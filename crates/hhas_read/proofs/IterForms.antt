-- The locals of an iterator.
use Rattle.std.proofs.Common.{◌≡◌, ℕ, List, [], ◌∷◌, ◌++◌, refl, sym, ap, ◌∙◌, codes}
use Rattle.std.proofs.lemmas.Slice.Eq.{bytes_eq-Decides}
use Rattle.hhas_lex.specs.Tokens.{Token, Word, Local, Mark, front}
use Rattle.hhbc_repo.specs.CodeSyntax.{ALocal}
use Rattle.hhas_read.specs.Reading.{Tagged, Viable}
use Rattle.hhas_read.proofs.Reserved.{never_both}
use Rattle.hhas_read.proofs.Said.{same_word}

pub key_begins : (w : List Token) (v : List ℕ) (x : List Token) → Tagged (codes "K") ALocal w v → front (w ++ x) ≡ Word (codes "K")
key_begins w v x n = ap (λ l. front (l ++ x)) n.tokens

pub value_never : (w : List Token) (v : List ℕ) (x : List Token) → Tagged (codes "V") ALocal w v → front (w ++ x) ≡ Word (codes "K") → ⊥
value_never w v x n e =
    absurd (never_both (sym ((bytes_eq-Decides (codes "K") (codes "V")).1 (same_word (codes "K") (codes "V") (sym e ∙ ap (λ l. front (l ++ x)) n.tokens)))))

pub some_value : Viable (Tagged (codes "V") ALocal) []
some_value = record {
  more = Word (codes "V") ∷ Mark 58 ∷ Local (codes "a") ∷ [];
  value = codes "a";
  word = record { rest = Local (codes "a") ∷ []; word = refl; tokens = refl };
  proper = refl;
}
