-- Which spaced tokens may stand behind every token.
use Rattle.std.proofs.Common.{◌≡◌, ℕ, Bool, true, false, not, ◌&&◌, ◌==◌, List, [], ◌∷◌, ◌++◌, refl, ap, ◌∙◌}
use Rattle.std.specs.List.{list_all, flat_map}
use Rattle.hhas_lex.specs.Spaced.{Spaced}
use Rattle.hhas_lex.specs.Spelling.{is_proper, is_set_off, is_equals, touches}
use Rattle.hhas_lex.specs.Tokens.{Token, Directive, Word, Local, Integer, Str, Mark, LessEqual, End, Bad}
use Rattle.hhbc_repo.specs.CanonicalText.{line, spaced, tight}
use Rattle.hhbc_repo.proofs.Clearing.{Clear, clear_none, clear_both, clear_each}
use Rattle.hhbc_repo.proofs.PiecesClear as pieces

not_both : (a : Bool) → not (a && false) ≡ true
not_both true = refl
not_both false = refl

-- what is set off and is no equals sign touches each token
touches_all : (t u : Token) → is_set_off u ≡ true → is_equals u ≡ false → touches t u ≡ true
touches_all (Directive w) u h k = h
touches_all (Word w) u h k = h
touches_all (Local w) u h k = h
touches_all (Integer i) u h k = h
touches_all (Str s) u h k = refl
touches_all (Mark b) u h k = ap (λ c. not (b == 60 && c)) k ∙ not_both (b == 60)
touches_all LessEqual u h k = refl
touches_all End u h k = refl
touches_all Bad u h k = refl

-- clear behind every token, as a record: the list is inferred from it
pub record IsClear (ss : List Spaced) : Type 0 where
  pub behind : Clear ss

pub none_clear : IsClear []
none_clear = record { behind = clear_none }

pub both_clear : (ss more : List Spaced) → IsClear ss → IsClear more → IsClear (ss ++ more)
both_clear ss more h k = record { behind = clear_both ss more h.behind k.behind }

pub each_clear : {V : Type 0} (f : V → List Spaced) (test : V → Bool) → ((v : V) → test v ≡ true → IsClear (f v)) → (vs : List V) → list_all test vs ≡ true → IsClear (flat_map f vs)
each_clear f test each vs h = record { behind = clear_each f test (λ v k. (each v k).behind) vs h }

pub line_clear : (depth : ℕ) (u : Token) (ss : List Spaced) → is_proper u ≡ true → IsClear ss → IsClear (line depth u ∷ ss)
line_clear depth u ss p c = record { behind = pieces.line_clear depth u ss p (c.behind u) }

pub spaced_clear : (u : Token) (ss : List Spaced) → is_proper u ≡ true → IsClear ss → IsClear (spaced u ∷ ss)
spaced_clear u ss p c = record { behind = pieces.spaced_clear u ss p (c.behind u) }

pub tight_clear : (u : Token) (ss : List Spaced) → is_proper u ≡ true → is_set_off u ≡ true → is_equals u ≡ false → IsClear ss → IsClear (tight u ∷ ss)
tight_clear u ss p h k c = record { behind = λ t. pieces.tight_clear t u ss (touches_all t u h k) p (c.behind u) }
