-- What it is to read a word of a language from the front of tokens, and to stop at the first token at which the tokens so far
-- are the front of no word.
use Rattle.std.specs.Prelude.{◌≡◌, ℕ, Bool, true, false, List, [], ◌∷◌, ◌++◌, length, drop, Result, Ok, Err}
use Rattle.std.specs.List.{list_all}
use Rattle.hhas_lex.specs.Tokens.{Token, Mark, Word, front}
use Rattle.hhas_lex.specs.Spelling.{is_proper}
use Rattle.hhbc_repo.specs.CodeSyntax.{ALocal}
use Rattle.hhbc_repo.specs.Languages.{Lang, Behind, Ended, Says, Separated}
use Rattle.hhas_read.specs.declared.reader.Stop.{Stop}
use Rattle.hhas_read.specs.declared.reader.Stop.TheVariants.{Syntax, NoMemory}

-- tokens, and the places where they begin
pub record Placed : Type 0 where
  pub tokens : List Token
  pub places : List ℕ

abbrev pub next : Placed → Token
next p = front p.tokens

-- tokens at the front were taken
pub record Past (used : List Token) (old new : Placed) : Type 0 where
  pub tokens : old.tokens ≡ used ++ new.tokens
  pub places : new.places ≡ drop (length used) old.places

-- which tokens may follow a word
abbrev pub Follow : Type 0
Follow = Token → Bool

abbrev pub any : Follow
any t = true

-- tokens lead on from these to a word
pub record Viable {V : Type 0} (N : Lang V) (ts : List Token) : Type 0 where
  pub more : List Token
  pub value : V
  pub word : N (ts ++ more) value
  pub proper : list_all is_proper more ≡ true

-- no word, followed as it may be, begins with the tokens
abbrev pub Dead : {V : Type 0} → Follow → Lang V → List Token → Type 0
Dead {V} F N ts = (w : List Token) (v : V) (x y : List Token) → N w v → F (front x) ≡ true → w ++ x ≡ ts ++ y → ⊥

-- the first token that is left is the first at which the tokens so far are the front of no word
pub record StuckAt {V : Type 0} (F : Follow) (N : Lang V) (old new : Placed) : Type 0 where
  pub read : List Token
  pub past : Past read old new
  pub viable : Viable N read
  pub dead : Dead F N (read ++ next new ∷ [])

-- a word was taken, and what is left may follow it
pub record Taken {V : Type 0} (F : Follow) (N : Lang V) (old new : Placed) (v : V) : Type 0 where
  pub used : List Token
  pub past : Past used old new
  pub word : N used v
  pub follows : F (next new) ≡ true

-- one token, without a value
abbrev pub Just : Token → Lang (Unit {0})
Just t ts u = ts ≡ t ∷ []

-- whether the next token is this one
abbrev pub IsNext : Token → Placed → Bool → Type 0
IsNext t p true = next p ≡ t
IsNext t p false = next p ≡ t → ⊥

abbrev pub Reads : {V : Type 0} → Follow → Lang V → Placed → Result V Stop → Placed → Type 0
Reads F N old (Ok v) new = Taken F N old new v
Reads F N old (Err Syntax) new = StuckAt F N old new
Reads F N old (Err NoMemory) new = Unit {0}

-- locals with commas between them, and the mark at their end
abbrev pub LocalsTo : ℕ → Lang (List (List ℕ))
LocalsTo end = Ended (Separated 44 ALocal) (Mark end ∷ [])

-- a word with a colon behind it
abbrev pub Tag : List ℕ → Lang (Unit {0})
Tag name = Says (Word name ∷ Mark 58 ∷ []) tt

-- and what follows it
abbrev pub Tagged : {V : Type 0} → List ℕ → Lang V → Lang V
Tagged name A = Behind (Word name ∷ Mark 58 ∷ []) A
