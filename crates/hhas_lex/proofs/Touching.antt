-- Tokens that stand side by side and are told apart.
use Rattle.std.proofs.Common.{◌≡◌, ℕ, zero, suc, ◌^◌, refl, sym, ap, subst, ◌∙◌, Bool, true, false, not, ◌&&◌, ◌==◌, nat_le, List, [], ◌∷◌, ◌++◌, length, pos, negsuc, arith}
use Rattle.std.specs.List.{list_all}
use Rattle.std.proofs.lemmas.Bool.{leb-true}
use Rattle.std.proofs.lemmas.Bool.Decides.{nat_tests}
use Rattle.std.proofs.lemmas.Fmt.{decimal_digit}
use Rattle.hhas_lex.specs.Bytes.{is_white, is_lower, is_word_start, is_word_byte, is_digit, is_mark, is_name}
use Rattle.hhas_lex.specs.Tokens.{Token, Directive, Word, Local, Integer, Str, Mark, LessEqual, End, Bad}
use Rattle.hhas_lex.specs.Spelling.{is_proper, spelling, Stops, Apart, is_set_off, is_equals, touches}
use Rattle.hhas_lex.proofs.ByteTests.{both, at_byte, white_byte, mark_byte}
use Rattle.hhas_lex.proofs.Fronts.{split}
use Rattle.hhas_lex.proofs.Spelled.{decimals}

-- a byte that goes on with no word, directive or integer
abbrev Sets : ℕ → Type 0
Sets b = (is_word_byte b ≡ false) × (is_lower b ≡ false) × (is_digit b ≡ false)

mark-sets : (b : ℕ) → is_mark b ≡ true → Sets b
mark-sets =
    mark_byte Sets (refl, refl, refl) (refl, refl, refl) (refl, refl, refl) (refl, refl, refl) (refl, refl, refl) (refl, refl, refl) (refl, refl, refl) (refl, refl, refl) (refl, refl, refl)
    (refl, refl, refl) (refl, refl, refl)

white-sets : (b : ℕ) → is_white b ≡ true → Sets b × ((b == 61) ≡ false)
white-sets = white_byte (λ b. Sets b × ((b == 61) ≡ false)) ((refl, refl, refl), refl) ((refl, refl, refl), refl) ((refl, refl, refl), refl) ((refl, refl, refl), refl)

and-false : (a b : Bool) → b ≡ false → a && b ≡ false
and-false true b e = e
and-false false b e = refl

pub white-apart : (t : Token) (b : ℕ) (rest : List ℕ) → is_white b ≡ true → Apart t (b ∷ rest)
white-apart (Directive w) b rest h = (white-sets b h).0.1
white-apart (Word w) b rest h = (white-sets b h).0.0
white-apart (Local w) b rest h = (white-sets b h).0.0
white-apart (Integer i) b rest h = (white-sets b h).0.2
white-apart (Str s) b rest h = tt
white-apart (Mark m) b rest h = and-false (m == 60) (b == 61) (white-sets b h).1
white-apart LessEqual b rest h = tt
white-apart End b rest h = tt
white-apart Bad b rest h = tt

-- what is set off begins with such a byte
record SetsOff (bytes : List ℕ) : Type 0 where
  pub word : Stops is_word_byte bytes
  pub lower : Stops is_lower bytes
  pub digit : Stops is_digit bytes

sets-off : (u : Token) (rest : List ℕ) → is_proper u ≡ true → is_set_off u ≡ true → SetsOff (spelling u ++ rest)
sets-off (Directive w) rest h k = record { word = refl; lower = refl; digit = refl }
sets-off (Local w) rest h k = record { word = refl; lower = refl; digit = refl }
sets-off (Str w) rest h k = record { word = refl; lower = refl; digit = refl }
sets-off LessEqual rest h k = record { word = refl; lower = refl; digit = refl }
sets-off (Mark b) rest h k = let s = mark-sets b h in record { word = s.0; lower = s.1; digit = s.2 }
sets-off (Word w) rest h k = absurd (cc)
sets-off (Integer i) rest h k = absurd (cc)
sets-off End rest h k = absurd (cc)
sets-off Bad rest h k = absurd (cc)

-- no token but `=` begins with that byte
no-equals : (u : Token) (rest : List ℕ) → is_proper u ≡ true → is_equals u ≡ false → Stops (λ c. c == 61) (spelling u ++ rest)
no-equals (Directive w) rest h k = refl
no-equals (Local w) rest h k = refl
no-equals (Str w) rest h k = refl
no-equals LessEqual rest h k = refl
no-equals (Mark b) rest h k = k
no-equals (Word []) rest h k = absurd (cc)
no-equals (Word (b ∷ w)) rest h k =
    let e = both (is_name is_word_start is_word_byte (b ∷ w)) (nat_le (length (b ∷ w)) 100) h in
    let f = both (is_word_start b) (list_all is_word_byte w) e.0 in
    split (b == 61)
    (λ g. absurd (let n : is_word_start b ≡ false = at_byte (λ c. is_word_start c ≡ false) b 61 refl g in (cc)))
    (λ g. g)
no-equals (Integer (pos zero)) rest h k =
    subst (λ l. Stops (λ c. c == 61) (l ++ rest)) (sym (decimal_digit 0 (omega arith))) refl
no-equals (Integer (pos (suc n))) rest h k =
    let small = leb-true (suc (suc n)) (2 ^ 63) h in
    let d = decimals (suc n) (omega arith) (omega (arith, small)) in
    let e : (d.first == 61) ≡ false = grind (arith, nat_tests, d.high) in
    subst (λ l. Stops (λ c. c == 61) (l ++ rest)) (sym d.are) e
no-equals (Integer (negsuc n)) rest h k = refl
no-equals End rest h k = absurd (cc)
no-equals Bad rest h k = absurd (cc)

stops-and : (a : Bool) (bytes : List ℕ) → Stops (λ c. c == 61) bytes → Stops (λ c. a && c == 61) bytes
stops-and a [] h = tt
stops-and a (c ∷ bytes) h = and-false a (c == 61) h

stops-not : (a : Bool) (bytes : List ℕ) → a ≡ false → Stops (λ c. a && c == 61) bytes
stops-not a [] h = tt
stops-not a (c ∷ bytes) h = ap (λ z. z && c == 61) h

mark-apart : (m : ℕ) (u : Token) (rest : List ℕ) → is_proper u ≡ true → not (m == 60 && is_equals u) ≡ true → Stops (λ c. m == 60 && c == 61) (spelling u ++ rest)
mark-apart m u rest h k =
    split (is_equals u)
    (λ e. split (m == 60)
    (λ f. absurd (let g : not (m == 60 && is_equals u) ≡ false = ap (λ c. not (c && is_equals u)) f ∙ ap not e in (cc)))
    (λ f. stops-not (m == 60) (spelling u ++ rest) f))
    (λ e. stops-and (m == 60) (spelling u ++ rest) (no-equals u rest h e))

pub touching-apart : (t u : Token) (rest : List ℕ) → is_proper u ≡ true → touches t u ≡ true → Apart t (spelling u ++ rest)
touching-apart (Directive w) u rest h k = (sets-off u rest h k).lower
touching-apart (Word w) u rest h k = (sets-off u rest h k).word
touching-apart (Local w) u rest h k = (sets-off u rest h k).word
touching-apart (Integer i) u rest h k = (sets-off u rest h k).digit
touching-apart (Str s) u rest h k = tt
touching-apart (Mark m) u rest h k = mark-apart m u rest h k
touching-apart LessEqual u rest h k = tt
touching-apart End u rest h k = tt
touching-apart Bad u rest h k = tt

pub end-apart : (t : Token) → Apart t []
end-apart (Directive w) = tt
end-apart (Word w) = tt
end-apart (Local w) = tt
end-apart (Integer i) = tt
end-apart (Str s) = tt
end-apart (Mark m) = tt
end-apart LessEqual = tt
end-apart End = tt
end-apart Bad = tt
