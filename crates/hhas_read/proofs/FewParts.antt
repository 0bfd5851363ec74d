-- A text has no more tokens than bytes, but the one that ends it, so the lists that it spells aren't long.
use Rattle.std.proofs.Common.{◌≡◌, ◌≤◌, ◌<◌, ◌+◌, ◌^◌, ℕ, zero, suc, true, List, ◌∷◌, [], ◌++◌, length, drop, ap, sym, subst, arith, length-append, codes, pos}
use Rattle.hhas_lex.specs.Tokens.{Token, Directive, Word, Local, Integer, Str, Mark, LessEqual, End, Bad, first, followed, past_first, tokens, tokens_within}
use Rattle.hhbc_repo.specs.Languages.{Many}
use Rattle.hhbc_repo.specs.LinkFaults.{Whole, properties}
use Rattle.hhbc_repo.specs.LookUps.{total}
use Rattle.hhbc_repo.specs.Lengths.{parts_fewer}
use Rattle.hhbc_repo.specs.TextSyntax.{ADeclaration, Declaration, Spells, classes_of, functions_of}

followed_few : (t x : Token) (xs : List Token) → length (followed t x xs) ≤ suc (length xs)
followed_few (Directive w) x xs = omega arith
followed_few (Word w) x xs = omega arith
followed_few (Local w) x xs = omega arith
followed_few (Integer i) x xs = omega arith
followed_few (Str s) x xs = omega arith
followed_few (Mark m) x xs = omega arith
followed_few LessEqual x xs = omega arith
followed_few End x xs = omega arith
followed_few Bad x xs = omega arith

within_few : (n : ℕ) (bytes : List ℕ) → length (tokens_within n bytes) ≤ n
within_few zero bytes = omega arith
within_few (suc n) bytes =
    let a = followed_few (first bytes) (first bytes) (tokens_within n (drop (past_first bytes) bytes)) in let b = within_few n (drop (past_first bytes) bytes) in omega (arith, a, b)

tokens_few : (bytes : List ℕ) → length (tokens bytes) ≤ suc (length bytes)
unfolding tokens
tokens_few bytes = within_few (suc (length bytes)) bytes

abbrev whole : List Declaration → Whole
whole ds = record { functions = functions_of ds; classes = classes_of ds }

-- the declarations of a text, and how many tokens they have
record Declared (bytes : List ℕ) (w : Whole) : Type 0 where
  tokens : List Token
  declared : List Declaration
  word : Many ADeclaration tokens declared
  is : w ≡ whole declared
  few : length tokens + 3 ≤ length bytes

declared_in : (bytes : List ℕ) (w : Whole) → Spells bytes w → Declared bytes w
declared_in bytes w s =
    let b = s.word in
    let e = b.word in
    let all = ap (λ (l : List Token). length l) b.tokens in
    let back = length-append (Directive (codes "profile") ∷ Integer (pos 1) ∷ Mark 59 ∷ []) b.rest in
    let inner = ap (λ (l : List Token). length l) e.tokens in
    let end = length-append e.first (End ∷ []) in
    let few = tokens_few bytes in
    record {
      tokens = e.first;
      declared = s.declared;
      word = e.word;
      is = λ i. record { functions = s.functions i; classes = s.classes i };
      few = omega (arith, all, back, inner, end, few);
    }

pub few_lists : ((n : ℕ) (ts : List Token) (ds : List Declaration) → Many ADeclaration ts ds → length ts < n → parts_fewer n (whole ds) ≡ true)
    → (bytes : List ℕ) (w : Whole) → length bytes < 2 ^ 32 → Spells bytes w → parts_fewer (2 ^ 32) w ≡ true
few_lists law bytes w h s =
    let d = declared_in bytes w s in
    let k = d.few in
    subst (λ (v : Whole). parts_fewer (2 ^ 32) v ≡ true) (sym d.is) (law (2 ^ 32) d.tokens d.declared d.word (omega (arith, k, h)))

pub few_properties : ((n : ℕ) (ts : List Token) (ds : List Declaration) → Many ADeclaration ts ds → length ts + 2 < n → total (properties (whole ds)) + 1 < n)
    → (bytes : List ℕ) (w : Whole) → length bytes < 2 ^ 32 → Spells bytes w → total (properties w) + 1 < 2 ^ 32
few_properties law bytes w h s =
    let d = declared_in bytes w s in
    let k = d.few in
    subst (λ (v : Whole). total (properties v) + 1 < 2 ^ 32) (sym d.is) (law (2 ^ 32) d.tokens d.declared d.word (omega (arith, k, h)))
