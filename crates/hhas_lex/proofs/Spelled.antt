-- What a token's spelling begins is read as that token.
use Rattle.std.proofs.Common.{◌≡◌, ℕ, zero, suc, ◌+◌, ◌-◌, ◌*◌, ◌/◌, ◌%◌, ◌^◌, ◌<◌, ◌≤◌, refl, sym, ap, subst, ◌∙◌, Bool, true, false, if◌then◌else◌, ◌&&◌, ◌||◌, ◌==◌, nat_lt, nat_le, List, [], ◌∷◌, ◌++◌, length, take, drop, get_or, fold, None, Some, pos, negsuc, neg_ℤ, append_assoc, append-nil, length-append, arith, inl, inr}
use Rattle.std.specs.List.{list_all, flat_map}
use Rattle.std.specs.Fmt.{decimal}
use Rattle.std.proofs.lemmas.List.{take_at, drop_at}
use Rattle.std.proofs.lemmas.Bool.{leb-true, le-leb}
use Rattle.std.proofs.lemmas.Str.Parse.{IsNumeralModel, IsDigitsTest, numerals_by_fold}
use Rattle.std.proofs.lemmas.Fmt.{decimal_digit, digits_decimal, digits_value-decimal, first_decimal}
use Rattle.hack_values.specs.Literal.{hex_digit, literal_byte}
use Rattle.hhas_lex.specs.declared.token.TokenKind.{TokenKind}
use Rattle.hhas_lex.specs.declared.token.TokenKind.TheVariants as kinds
use Rattle.hhas_lex.specs.declared.strings.Mode.TheVariants.{Plain, Closed}
use Rattle.hhas_lex.specs.Bytes.{is_white, is_lower, is_word_start, is_word_byte, is_digit, is_mark, is_plain, is_name, hex_value, run_of, number_from}
use Rattle.hhas_lex.specs.Fronts.{LongestFront}
use Rattle.hhas_lex.specs.Shape.{scan, Scanned}
use Rattle.hhas_lex.specs.Strings.{step, closes, is_closed, value_from, value_of}
use Rattle.hhas_lex.specs.Tokens.{Token, Directive, Word, Local, Integer, Str, Mark, LessEqual, End, Bad, token_of, token_in, length_in, gap, gap_within, first, past_first, tokens}
use Rattle.hhas_lex.specs.Spelling.{is_word, is_byte, is_string, is_proper, spelling, Stops, Apart}
use Rattle.hhas_lex.proofs.ByteTests.{both, either, at_byte, white_byte, mark_no_word, mark_no_digit, digit_no_word, digit_tests}
use Rattle.hhas_lex.proofs.Fronts.{split, run_of-yes, run_of-no}
use Rattle.hhas_lex.proofs.Scanning.{answer, number-first, word_scan, local-scan, directive_scan, suc-not-zero, zero_scan, positive_scan, negative-scan, string-scan, last-mark-scan, mark-scan, other-scan}
use Rattle.hhas_lex.proofs.Pieced.{Stands, plain-stands, hex-stands}
use Rattle.hhas_lex.proofs.Quotes.{closed-on}
use Rattle.hhas_lex.proofs.Following.{is_last, tokens-on, tokens-last}

-- ---- runs

run_of-append : (p : ℕ → Bool) (w rest : List ℕ) → list_all p w ≡ true → Stops p rest → run_of p (w ++ rest) ≡ length w
run_of-append p [] [] h s = refl
run_of-append p [] (b ∷ bs) h s = run_of-no p b bs s
run_of-append p (b ∷ w) rest h s =
    let e = both (p b) (list_all p w) h in
    run_of-yes p b (w ++ rest) e.0 ∙ ap suc (run_of-append p w rest e.1 s)

-- ---- where a spelling stands, its token is scanned

record Read (t : Token) (rest : List ℕ) : Type 0 where
  pub kind : TokenKind
  pub scanned : scan (spelling t ++ rest) ≡ Some (kind, length (spelling t))
  pub token : token_of kind (spelling t) ≡ t

sized : (n m : ℕ) → n ≡ m → nat_le m 100 ≡ true → (kind : TokenKind) → answer (nat_le n 100) kind n ≡ Some (kind, m)
sized n m e f kind = ap (λ z. answer (nat_le z 100) kind z) e ∙ ap (λ c. answer c kind m) f

word-read : (w rest : List ℕ) → is_word w ≡ true → Stops is_word_byte rest → scan (w ++ rest) ≡ Some (kinds.Word, length w)
word-read [] rest h s = absurd (cc)
word-read (b ∷ w) rest h s =
    let e = both (is_name is_word_start is_word_byte (b ∷ w)) (nat_le (length (b ∷ w)) 100) h in
    let f = both (is_word_start b) (list_all is_word_byte w) e.0 in
    let r = run_of-append is_word_byte w rest f.1 s in
    word_scan b (w ++ rest) f.0 ∙ sized (1 + run_of is_word_byte (w ++ rest)) (suc (length w)) (omega arith) e.1 kinds.Word

local-read : (w rest : List ℕ) → is_word w ≡ true → Stops is_word_byte rest → scan (36 ∷ (w ++ rest)) ≡ Some (kinds.Local, suc (length w))
local-read [] rest h s = absurd (cc)
local-read (b ∷ w) rest h s =
    let e = both (is_name is_word_start is_word_byte (b ∷ w)) (nat_le (length (b ∷ w)) 100) h in
    let f = both (is_word_start b) (list_all is_word_byte w) e.0 in
    let n = run_of is_word_byte (w ++ rest) in
    let r : n ≡ length w = run_of-append is_word_byte w rest f.1 s in
    local-scan b (w ++ rest)
    ∙ ap (λ c. if c then answer (nat_le (1 + n) 100) kinds.Local (2 + n) else None) f.0
    ∙ ap (λ z. answer (nat_le z 100) kinds.Local (2 + n)) (omega arith)
    ∙ ap (λ c. answer c kinds.Local (2 + n)) e.1
    ∙ ap (λ z. answer true kinds.Local z) (omega arith)

directive-read : (w rest : List ℕ) → is_name is_lower is_lower w ≡ true → Stops is_lower rest → scan (46 ∷ (w ++ rest)) ≡ Some (kinds.Directive, suc (length w))
directive-read [] rest h s = absurd (cc)
directive-read (b ∷ w) rest h s =
    let r : run_of is_lower (b ∷ (w ++ rest)) ≡ suc (length w) = run_of-append is_lower (b ∷ w) rest h s in
    directive_scan (b ∷ (w ++ rest))
    ∙ ap (λ (n : ℕ). if n == 0 then None else Some (kinds.Directive, 1 + n)) r
    ∙ ap (λ c. if c then None else Some (kinds.Directive, 1 + suc (length w))) (suc-not-zero (length w))
    ∙ ap (λ z. answer true kinds.Directive z) (omega arith)

-- ---- numbers

digit-range : (c : ℕ) → is_digit c ≡ true → (48 ≤ c) × (c ≤ 57)
digit-range c h = let e = both (nat_le 48 c) (nat_le c 57) h in (leb-true 48 c e.0, leb-true c 57 e.1)

range-digit : (c : ℕ) → 48 ≤ c → c ≤ 57 → is_digit c ≡ true
range-digit c low high = ap (λ z. z && nat_le c 57) (le-leb 48 c low) ∙ le-leb c 57 high

all-digits : IsDigitsTest (λ ds. list_all is_digit ds ≡ true)
all-digits = record {
  empty = refl;
  parts = λ c cs h. let e = both (is_digit c) (list_all is_digit cs) h in (digit-range c e.0, e.1);
  more = λ c cs r h. ap (λ z. z && list_all is_digit cs) (range-digit c r.0 r.1) ∙ h;
}

own : IsNumeralModel (λ ds. list_all is_digit ds ≡ true) (number_from 0)
own = numerals_by_fold _ all-digits number_from (record { empty = λ n. refl; more = λ n c cs r. ap (λ z. number_from z cs) (omega arith) })

-- the digits of a number but 0
pub record Decimal (ds : List ℕ) (n : ℕ) : Type 0 where
  pub first : ℕ
  pub more : List ℕ
  pub are : ds ≡ first ∷ more
  pub low : 48 < first
  pub high : first ≤ 57
  pub digits : list_all is_digit more ≡ true
  pub value : number_from (first - 48) more ≡ n

decimal-from : (ds : List ℕ) (n : ℕ) → list_all is_digit ds ≡ true → 48 < get_or ds 0 0 → number_from 0 ds ≡ n → Decimal ds n
decimal-from [] n a f v = absurd (omega arith)
decimal-from (b ∷ ds) n a f v =
    let e = both (is_digit b) (list_all is_digit ds) a in
    record { first = b; more = ds; are = refl; low = f; high = (digit-range b e.0).1; digits = e.1; value = sym (number-first b ds) ∙ v }

pub decimals : (n : ℕ) → 0 < n → n < 2 ^ 64 → Decimal (decimal n) n
decimals n p h = decimal-from (decimal n) n (digits_decimal own n h) (first_decimal n p h) (digits_value-decimal own n h)

positive-read : (ds rest : List ℕ) (n : ℕ) → Decimal ds n → n < 2 ^ 63 → Stops is_digit rest → scan (ds ++ rest) ≡ Some (kinds.Integer (pos n), length ds)
positive-read ds rest n d small s =
    let b = d.first in
    let m = d.more in
    let t = digit_tests b d.low d.high in
    let read : ℕ → List ℕ → Scanned = λ v l. answer (nat_lt v (2 ^ 63)) (kinds.Integer (pos v)) (1 + length l) in
    ap (λ l. scan (l ++ rest)) d.are
    ∙ positive_scan b (m ++ rest) (digit_no_word b (omega (arith, d.low)) d.high) t.0 t.2
    ∙ ap (λ k. answer (nat_lt (number_from (b - 48) (take k (m ++ rest))) (2 ^ 63)) (kinds.Integer (pos (number_from (b - 48) (take k (m ++ rest))))) (1 + k))
    (run_of-append is_digit m rest d.digits s)
    ∙ ap (λ l. read (number_from (b - 48) l) m) (take_at m rest (length m) refl)
    ∙ ap (λ v. read v m) d.value
    ∙ ap (λ c. answer c (kinds.Integer (pos n)) (1 + length m)) (le-leb (suc n) (2 ^ 63) small)
    ∙ ap (λ z. answer true (kinds.Integer (pos n)) z) (omega (arith, ap length d.are))

negative-read : (ds rest : List ℕ) (n : ℕ) → Decimal ds (suc n) → n < 2 ^ 63 → Stops is_digit rest → scan (45 ∷ (ds ++ rest)) ≡ Some (kinds.Integer (negsuc n), suc (length ds))
negative-read ds rest n d small s =
    let b = d.first in
    let m = d.more in
    let t = digit_tests b d.low d.high in
    let read : ℕ → ℕ → Scanned = λ v k. answer (nat_le v (2 ^ 63)) (kinds.Integer (neg_ℤ (pos v))) (2 + k) in
    ap (λ l. scan (45 ∷ (l ++ rest))) d.are
    ∙ negative-scan b (m ++ rest)
    ∙ ap (λ c. if c then read (number_from (b - 48) (take (run_of is_digit (m ++ rest)) (m ++ rest))) (run_of is_digit (m ++ rest)) else None) t.1
    ∙ ap (λ k. read (number_from (b - 48) (take k (m ++ rest))) k) (run_of-append is_digit m rest d.digits s)
    ∙ ap (λ l. read (number_from (b - 48) l) (length m)) (take_at m rest (length m) refl)
    ∙ ap (λ v. read v (length m)) d.value
    ∙ ap (λ c. answer c (kinds.Integer (negsuc n)) (2 + length m)) (le-leb (suc n) (2 ^ 63) small)
    ∙ ap (λ z. answer true (kinds.Integer (negsuc n)) z) (omega (arith, ap length d.are))

-- ---- strings

hex-back : (d : ℕ) → d < 16 → hex_value (hex_digit d) ≡ Some d
hex-back zero h = refl
hex-back (suc zero) h = refl
hex-back (suc (suc zero)) h = refl
hex-back (suc (suc (suc zero))) h = refl
hex-back (suc (suc (suc (suc zero)))) h = refl
hex-back (suc (suc (suc (suc (suc zero))))) h = refl
hex-back (suc (suc (suc (suc (suc (suc zero)))))) h = refl
hex-back (suc (suc (suc (suc (suc (suc (suc zero))))))) h = refl
hex-back (suc (suc (suc (suc (suc (suc (suc (suc zero)))))))) h = refl
hex-back (suc (suc (suc (suc (suc (suc (suc (suc (suc zero))))))))) h = refl
hex-back (suc (suc (suc (suc (suc (suc (suc (suc (suc (suc zero)))))))))) h = refl
hex-back (suc (suc (suc (suc (suc (suc (suc (suc (suc (suc (suc zero))))))))))) h = refl
hex-back (suc (suc (suc (suc (suc (suc (suc (suc (suc (suc (suc (suc zero)))))))))))) h = refl
hex-back (suc (suc (suc (suc (suc (suc (suc (suc (suc (suc (suc (suc (suc zero))))))))))))) h = refl
hex-back (suc (suc (suc (suc (suc (suc (suc (suc (suc (suc (suc (suc (suc (suc zero)))))))))))))) h = refl
hex-back (suc (suc (suc (suc (suc (suc (suc (suc (suc (suc (suc (suc (suc (suc (suc zero))))))))))))))) h = refl
hex-back (suc (suc (suc (suc (suc (suc (suc (suc (suc (suc (suc (suc (suc (suc (suc (suc d)))))))))))))))) h = absurd (omega arith)

hex-byte : (b : ℕ) (xs : List ℕ) → is_byte b ≡ true → Stands (92 ∷ 120 ∷ hex_digit (b / 16) ∷ hex_digit (b % 16) ∷ []) b xs
hex-byte b xs h =
    let e : 16 * (b / 16) + b % 16 ≡ b = omega arith in
    let high = hex-back (b / 16) (omega (arith, leb-true (suc b) 256 h)) in
    let low = hex-back (b % 16) (omega arith) in
    subst (λ z. Stands (92 ∷ 120 ∷ hex_digit (b / 16) ∷ hex_digit (b % 16) ∷ []) z xs) e
    (hex-stands (hex_digit (b / 16)) (hex_digit (b % 16)) xs (Some (b / 16)) (Some (b % 16)) high low refl)

byte-stands : (b : ℕ) (xs : List ℕ) → is_byte b ≡ true → Stands (literal_byte b) b xs
byte-stands b xs h =
    split (b == 10) (λ e. at_byte (λ c. Stands (literal_byte c) c xs) b 10 (record { mode = refl; value = refl }) e)
    (λ e1. split (b == 34 || b == 92)
    (λ e. elim (either (b == 34) (b == 92) e) [
      | inl p ↦ at_byte (λ c. Stands (literal_byte c) c xs) b 34 (record { mode = refl; value = refl }) p
      | inr p ↦ at_byte (λ c. Stands (literal_byte c) c xs) b 92 (record { mode = refl; value = refl }) p
    ])
    (λ e2. split (is_plain b)
    (λ e3. let s : literal_byte b ≡ b ∷ [] = rw (e1, e2, e3) refl in subst (λ l. Stands l b xs) (sym s) (plain-stands b xs e3 e2))
    (λ e3. let s : literal_byte b ≡ 92 ∷ 120 ∷ hex_digit (b / 16) ∷ hex_digit (b % 16) ∷ [] = rw (e1, e2, e3) refl in
    subst (λ l. Stands l b xs) (sym s) (hex-byte b xs h))))

record AllStand (s xs : List ℕ) : Type 0 where
  pub mode : fold step Plain (flat_map literal_byte s ++ xs) ≡ fold step Plain xs
  pub value : value_from Plain (flat_map literal_byte s ++ xs) ≡ s ++ value_from Plain xs

all-stand : (s xs : List ℕ) → list_all is_byte s ≡ true → AllStand s xs
all-stand [] xs h = record { mode = refl; value = refl }
all-stand (b ∷ s) xs h =
    let e = both (is_byte b) (list_all is_byte s) h in
    let w = byte-stands b (flat_map literal_byte s ++ xs) e.0 in
    let r = all-stand s xs e.1 in
    let g = append_assoc (literal_byte b) (flat_map literal_byte s) xs in
    record {
      mode = ap (fold step Plain) g ∙ w.mode ∙ r.mode;
      value = ap (value_from Plain) g ∙ w.value ∙ ap (λ l. b ∷ l) r.value;
    }

-- the spelling behind the opening quote
abbrev quoted : List ℕ → List ℕ
quoted s = flat_map literal_byte s ++ 34 ∷ []

quoted-value : (s : List ℕ) → list_all is_byte s ≡ true → value_of (quoted s) ≡ s
quoted-value s h = (all-stand s (34 ∷ []) h).value ∙ append-nil s

quoted-front : (s rest : List ℕ) → list_all is_byte s ≡ true → LongestFront closes (quoted s ++ rest) (length (quoted s))
quoted-front s rest h =
    let w = quoted s in
    let n = length w in
    let closed : fold step Plain (take n (w ++ rest)) ≡ Closed = ap (fold step Plain) (take_at w rest n refl) ∙ (all-stand s (34 ∷ []) h).mode in
    record {
      inside = omega (arith, length-append w rest);
      passes = ap is_closed closed;
      longest = λ m lt le. ap is_closed (closed-on Plain (w ++ rest) n m lt le closed);
    }

string-read : (s rest : List ℕ) → is_string s ≡ true → scan (34 ∷ (quoted s ++ rest)) ≡ Some (kinds.Str, suc (length (quoted s)))
string-read s rest h =
    let e = both (list_all is_byte s) (nat_le (length s) 1048576) h in
    let w = quoted s in
    let n = length w in
    string-scan (w ++ rest) n (quoted-front s rest e.0)
    ∙ ap (λ l. answer (nat_le (length (value_of l)) 1048576) kinds.Str (1 + n)) (take_at w rest n refl)
    ∙ ap (λ v. answer (nat_le (length v) 1048576) kinds.Str (1 + n)) (quoted-value s e.0)
    ∙ ap (λ c. answer c kinds.Str (1 + n)) e.1
    ∙ ap (λ z. answer true kinds.Str z) (omega arith)

-- ---- every token

mark-read : (b : ℕ) (rest : List ℕ) → is_mark b ≡ true → Stops (λ c. b == 60 && c == 61) rest → scan (b ∷ rest) ≡ Some (kinds.Mark b, 1)
mark-read b [] h s = last-mark-scan b (mark_no_word b h) (mark_no_digit b h) h
mark-read b (c ∷ bs) h s =
    mark-scan b c bs (mark_no_word b h) (mark_no_digit b h) h ∙ ap (λ t. if t then Some (kinds.LessEqual, 2) else Some (kinds.Mark b, 1)) s

read : (t : Token) (rest : List ℕ) → is_proper t ≡ true → Apart t rest → Read t rest
read (Directive w) rest h a = record { kind = kinds.Directive; scanned = directive-read w rest h a; token = refl }
read (Word w) rest h a = record { kind = kinds.Word; scanned = word-read w rest h a; token = refl }
read (Local w) rest h a = record { kind = kinds.Local; scanned = local-read w rest h a; token = refl }
read (Integer (pos zero)) rest h a =
    let d : decimal 0 ≡ 48 ∷ [] = decimal_digit 0 (omega arith) in
    record {
      kind = kinds.Integer (pos 0);
      scanned = ap (λ l. scan (l ++ rest)) d ∙ zero_scan rest ∙ ap (λ n. Some (kinds.Integer (pos 0), n)) (sym (ap length d));
      token = refl;
    }
read (Integer (pos (suc n))) rest h a =
    let small = leb-true (suc (suc n)) (2 ^ 63) h in
    record {
      kind = kinds.Integer (pos (suc n));
      scanned = positive-read (decimal (suc n)) rest (suc n) (decimals (suc n) (omega arith) (omega (arith, small))) small a;
      token = refl;
    }
read (Integer (negsuc n)) rest h a =
    let small = leb-true (suc n) (2 ^ 63) h in
    record {
      kind = kinds.Integer (negsuc n);
      scanned = negative-read (decimal (suc n)) rest n (decimals (suc n) (omega arith) (omega (arith, small))) small a;
      token = refl;
    }
read (Str s) rest h a = record {
  kind = kinds.Str;
  scanned = string-read s rest h;
  token = ap Str (quoted-value s (both (list_all is_byte s) (nat_le (length s) 1048576) h).0);
}
read (Mark b) rest h a = record { kind = kinds.Mark b; scanned = mark-read b rest h a; token = refl }
read LessEqual rest h a = record { kind = kinds.LessEqual; scanned = mark-scan 60 61 rest refl refl refl; token = refl }
read End rest h a = absurd (cc)
read Bad rest h a = absurd (cc)

proper-not-last : (t : Token) → is_proper t ≡ true → is_last t ≡ false
proper-not-last (Directive w) h = refl
proper-not-last (Word w) h = refl
proper-not-last (Local w) h = refl
proper-not-last (Integer i) h = refl
proper-not-last (Str s) h = refl
proper-not-last (Mark b) h = refl
proper-not-last LessEqual h = refl
proper-not-last End h = absurd (cc)
proper-not-last Bad h = absurd (cc)

-- where a token begins there is no gap
gap-free : (bytes : List ℕ) (k : TokenKind) (n : ℕ) → scan bytes ≡ Some (k, n) → gap bytes ≡ 0
gap-free [] k n e = refl
gap-free (b ∷ bs) k n e =
    let none : scan (b ∷ bs) ≡ None → gap (b ∷ bs) ≡ 0 = λ f. absurd (cc) in
    split (is_white b)
    (λ e1. none (white_byte (λ c. scan (c ∷ bs) ≡ None)
    (other-scan 32 bs refl refl refl refl refl refl refl) (other-scan 9 bs refl refl refl refl refl refl refl)
    (other-scan 10 bs refl refl refl refl refl refl refl) (other-scan 13 bs refl refl refl refl refl refl refl) b e1))
    (λ e1. split (b == 35)
    (λ e2. none (at_byte (λ c. scan (c ∷ bs) ≡ None) b 35 (other-scan 35 bs refl refl refl refl refl refl refl) e2))
    (λ e2. rw (e1, e2) refl))

pub spelled-read : (t : Token) (rest : List ℕ) → is_proper t ≡ true → Apart t rest → tokens (spelling t ++ rest) ≡ t ∷ tokens rest
spelled-read t rest h a =
    let r = read t rest h a in
    let w = spelling t in
    let bytes = w ++ rest in
    let g = gap-free bytes r.kind (length w) r.scanned in
    let f : first bytes ≡ t =
    ap (λ z. token_in (scan (drop z bytes)) (drop z bytes)) g ∙ ap (λ (o : Scanned). token_in o bytes) r.scanned
    ∙ ap (token_of r.kind) (take_at w rest (length w) refl) ∙ r.token in
    let p : past_first bytes ≡ length w =
    ap (λ z. z + length_in (scan (drop z bytes))) g ∙ ap (λ (o : Scanned). 0 + length_in o) r.scanned ∙ omega arith in
    let d : drop (past_first bytes) bytes ≡ rest = ap (λ z. drop z bytes) p ∙ drop_at w rest (length w) refl in
    tokens-on bytes (ap is_last f ∙ proper-not-last t h) ∙ ap (λ (z : Token). z ∷ tokens (drop (past_first bytes) bytes)) f ∙ ap (λ l. t ∷ tokens l) d

pub white-skipped : (b : ℕ) (bs : List ℕ) → is_white b ≡ true → tokens (b ∷ bs) ≡ tokens bs
white-skipped b bs e =
    let bytes = b ∷ bs in
    let g : gap bytes ≡ suc (gap bs) = ap (λ c. if c then suc (gap_within false bs) else (if b == 35 then suc (gap_within true bs) else 0)) e in
    let f : first bytes ≡ first bs = ap (λ z. token_in (scan (drop z bytes)) (drop z bytes)) g in
    let p : past_first bytes ≡ suc (past_first bs) = ap (λ z. z + length_in (scan (drop z bytes))) g ∙ omega arith in
    let d : drop (past_first bytes) bytes ≡ drop (past_first bs) bs = ap (λ z. drop z bytes) p in
    split (is_last (first bs))
    (λ l. tokens-last bytes (ap is_last f ∙ l) ∙ ap (λ (z : Token). z ∷ []) f ∙ sym (tokens-last bs l))
    (λ l. tokens-on bytes (ap is_last f ∙ l) ∙ ap (λ (z : Token). z ∷ tokens (drop (past_first bytes) bytes)) f ∙ ap (λ x. first bs ∷ tokens x) d ∙ sym (tokens-on bs l))
