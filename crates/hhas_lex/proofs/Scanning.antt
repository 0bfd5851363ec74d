-- The token at the front, for each kind of first byte.
use Rattle.std.proofs.Common.{◌≡◌, ℕ, zero, suc, ◌+◌, ◌-◌, ◌<◌, ◌≤◌, ◌^◌, refl, sym, ap, ◌∙◌, subst, Bool, true, false, ◌&&◌, if◌then◌else◌, ◌==◌, nat_lt, nat_le, List, [], ◌∷◌, length, get_or, take, drop, Option, None, Some, pos, neg_ℤ, arith}
use Rattle.std.specs.List.{list_all}
use Rattle.std.proofs.lemmas.List.{length-take-le, take_rest}
use Rattle.std.proofs.lemmas.Bool.Decides.{nat_tests}
use Rattle.hhas_lex.specs.declared.token.TokenKind.{TokenKind}
use Rattle.hhas_lex.specs.declared.token.TokenKind.TheVariants as kinds
use Rattle.hhas_lex.specs.Bytes.{is_lower, is_word_start, is_word_byte, is_digit, is_leading_digit, is_mark, is_name, run_of, number_from, number_of}
use Rattle.hhas_lex.specs.Strings.{closes, value_of}
use Rattle.hhas_lex.specs.Fronts.{LongestFront, NoFront}
use Rattle.hhas_lex.specs.Shape.{shape, when, is_empty, mark_shape, longest, scan, Scanned, kept, front_of_length, fits, is_int64}
use Rattle.hhas_lex.proofs.Numbers.{is_int64-neg}
use Rattle.hhas_lex.proofs.Fronts.{split, run_of-yes, run_of-no, front-on, name-none, name-not, run-front, empty-front}
use Rattle.hhas_lex.proofs.Searching.{longest-at, scan-front, scan-none}

pub end_scan : (bytes : List ℕ) → length bytes < 1 → scan bytes ≡ Some (kinds.End, 0)
unfolding scan
end_scan [] h = refl
end_scan (b ∷ bs) h = absurd (omega arith)

abbrev pub answer : Bool → TokenKind → ℕ → Scanned
answer t kind n = if t then Some (kind, n) else None

-- the same test and length in another form
answered : (t u : Bool) (kind : TokenKind) (n m : ℕ) → t ≡ u → n ≡ m → answer t kind n ≡ answer u kind m
answered t u kind n m e h = ap (λ c. answer c kind n) e ∙ ap (λ k. answer u kind k) h

chosen : (c : Bool) (x y : Scanned) → c ≡ true → x ≡ (if c then x else y)
chosen c x y e = sym (ap (λ (z : Bool). if z then x else y) e)

passed : (c : Bool) (x y : Scanned) → c ≡ false → y ≡ (if c then x else y)
passed c x y e = sym (ap (λ (z : Bool). if z then x else y) e)

-- a word's limit, by its run
word-limit : (bs : List ℕ) → nat_le (suc (length (take (run_of is_word_byte bs) bs))) 100 ≡ nat_le (1 + run_of is_word_byte bs) 100
word-limit bs =
    let w = run-front is_word_byte bs in
    ap (λ n. nat_le n 100) (omega (arith, length-take-le (run_of is_word_byte bs) bs w.inside))

pub shape-word : (b : ℕ) → is_word_start b ≡ true → (xs : List ℕ) → shape (b ∷ xs) ≡ when (list_all is_word_byte xs) kinds.Word
unfolding shape
shape-word b e xs = rw e refl

pub word_scan : (b : ℕ) (bs : List ℕ) → is_word_start b ≡ true
    → scan (b ∷ bs) ≡ (if nat_le (1 + run_of is_word_byte bs) 100 then Some (kinds.Word, 1 + run_of is_word_byte bs) else None)
word_scan b bs e =
    scan-front b bs (list_all is_word_byte) (λ xs. kinds.Word) (run_of is_word_byte bs) (shape-word b e) (run-front is_word_byte bs)
    ∙ answered _ _ kinds.Word _ _ (word-limit bs) (omega arith)

pub shape-local : (xs : List ℕ) → shape (36 ∷ xs) ≡ when (is_name is_word_start is_word_byte xs) kinds.Local
unfolding shape
shape-local xs = refl

dollar-scan : scan (36 ∷ []) ≡ None
dollar-scan = scan-none 36 [] (is_name is_word_start is_word_byte) (λ xs. kinds.Local) shape-local (name-none is_word_start is_word_byte)

pub local-scan : (b : ℕ) (bs : List ℕ)
    → scan (36 ∷ b ∷ bs) ≡ (if is_word_start b then (if nat_le (1 + run_of is_word_byte bs) 100 then Some (kinds.Local, 2 + run_of is_word_byte bs) else None) else None)
local-scan b bs =
    let n = run_of is_word_byte bs in
    split (is_word_start b)
    (λ e. scan-front 36 (b ∷ bs) (is_name is_word_start is_word_byte) (λ xs. kinds.Local) (suc n) shape-local (front-on is_word_start is_word_byte b bs n e (run-front is_word_byte bs))
    ∙ answered _ (nat_le (1 + n) 100) kinds.Local (suc (suc n)) (2 + n) (word-limit bs) (omega arith)
    ∙ chosen (is_word_start b) (answer (nat_le (1 + n) 100) kinds.Local (2 + n)) None e)
    (λ e. scan-none 36 (b ∷ bs) (is_name is_word_start is_word_byte) (λ xs. kinds.Local) shape-local (name-not is_word_start is_word_byte b bs e)
    ∙ passed (is_word_start b) (answer (nat_le (1 + n) 100) kinds.Local (2 + n)) None e)

pub shape-directive : (xs : List ℕ) → shape (46 ∷ xs) ≡ when (is_name is_lower is_lower xs) kinds.Directive
unfolding shape
shape-directive xs = refl

pub suc-not-zero : (n : ℕ) → (suc n == 0) ≡ false
suc-not-zero n = grind (arith, nat_tests)

pub directive_scan : (bs : List ℕ) → scan (46 ∷ bs) ≡ (if run_of is_lower bs == 0 then None else Some (kinds.Directive, 1 + run_of is_lower bs))
directive_scan [] = scan-none 46 [] (is_name is_lower is_lower) (λ xs. kinds.Directive) shape-directive (name-none is_lower is_lower)
directive_scan (b ∷ bs) =
    let n = run_of is_lower bs in
    let P : ℕ → Type 0 = λ m. scan (46 ∷ b ∷ bs) ≡ (if m == 0 then None else Some (kinds.Directive, 1 + m)) in
    split (is_lower b)
    (λ e. subst P (sym (run_of-yes is_lower b bs e))
    (scan-front 46 (b ∷ bs) (is_name is_lower is_lower) (λ xs. kinds.Directive) (suc n) shape-directive (front-on is_lower is_lower b bs n e (run-front is_lower bs))
    ∙ answered true true kinds.Directive (suc (suc n)) (1 + suc n) refl (omega arith)
    ∙ passed (suc n == 0) None (Some (kinds.Directive, 1 + suc n)) (suc-not-zero n)))
    (λ e. subst P (sym (run_of-no is_lower b bs e))
    (scan-none 46 (b ∷ bs) (is_name is_lower is_lower) (λ xs. kinds.Directive) shape-directive (name-not is_lower is_lower b bs e)))

shape-zero : (xs : List ℕ) → shape (48 ∷ xs) ≡ when (is_empty xs) (kinds.Integer (pos (number_of (48 ∷ xs))))
unfolding shape
shape-zero xs = refl

pub zero_scan : (bs : List ℕ) → scan (48 ∷ bs) ≡ Some (kinds.Integer (pos 0), 1)
zero_scan bs = scan-front 48 bs is_empty (λ xs. kinds.Integer (pos (number_of (48 ∷ xs)))) 0 shape-zero (empty-front bs)

shape-positive : (b : ℕ) → is_word_start b ≡ false → is_digit b ≡ true → (b == 48) ≡ false
    → (xs : List ℕ) → shape (b ∷ xs) ≡ when (list_all is_digit xs) (kinds.Integer (pos (number_of (b ∷ xs))))
unfolding shape
shape-positive b e1 e2 e3 xs = rw (e1, e2, e3) refl

-- a number by its first digit and the others
pub number-first : (b : ℕ) (ds : List ℕ) → number_of (b ∷ ds) ≡ number_from (b - 48) ds
number-first b ds = ap (λ n. number_from n ds) (omega arith)

pub positive_scan : (b : ℕ) (bs : List ℕ) → is_word_start b ≡ false → is_digit b ≡ true → (b == 48) ≡ false
    → scan (b ∷ bs)
    ≡ (if nat_lt (number_from (b - 48) (take (run_of is_digit bs) bs)) (2 ^ 63)
    then Some (kinds.Integer (pos (number_from (b - 48) (take (run_of is_digit bs) bs))), 1 + run_of is_digit bs)
    else None)
positive_scan b bs e1 e2 e3 =
    let n = run_of is_digit bs in
    scan-front b bs (list_all is_digit) (λ xs. kinds.Integer (pos (number_of (b ∷ xs)))) n (shape-positive b e1 e2 e3) (run-front is_digit bs)
    ∙ ap (λ v. answer (nat_lt v (2 ^ 63)) (kinds.Integer (pos v)) (suc n)) (number-first b (take n bs))
    ∙ ap (λ m. answer (nat_lt (number_from (b - 48) (take n bs)) (2 ^ 63)) (kinds.Integer (pos (number_from (b - 48) (take n bs)))) m) (omega arith)

pub shape-negative : (xs : List ℕ) → shape (45 ∷ xs) ≡ when (is_name is_leading_digit is_digit xs) (kinds.Integer (neg_ℤ (pos (number_of xs))))
unfolding shape
shape-negative xs = refl

minus-scan : scan (45 ∷ []) ≡ None
minus-scan = scan-none 45 [] (is_name is_leading_digit is_digit) (λ xs. kinds.Integer (neg_ℤ (pos (number_of xs)))) shape-negative (name-none is_leading_digit is_digit)

pub negative-scan : (b : ℕ) (bs : List ℕ)
    → scan (45 ∷ b ∷ bs)
    ≡ (if is_leading_digit b
    then (if nat_le (number_from (b - 48) (take (run_of is_digit bs) bs)) (2 ^ 63)
    then Some (kinds.Integer (neg_ℤ (pos (number_from (b - 48) (take (run_of is_digit bs) bs)))), 2 + run_of is_digit bs)
    else None)
    else None)
negative-scan b bs =
    let n = run_of is_digit bs in
    let kind : List ℕ → TokenKind = λ xs. kinds.Integer (neg_ℤ (pos (number_of xs))) in
    let v = number_from (b - 48) (take n bs) in
    let read = answer (nat_le v (2 ^ 63)) (kinds.Integer (neg_ℤ (pos v))) (2 + n) in
    split (is_leading_digit b)
    (λ e. scan-front 45 (b ∷ bs) (is_name is_leading_digit is_digit) kind (suc n) shape-negative (front-on is_leading_digit is_digit b bs n e (run-front is_digit bs))
    ∙ ap (λ u. answer (is_int64 (neg_ℤ (pos u))) (kinds.Integer (neg_ℤ (pos u))) (suc (suc n))) (number-first b (take n bs))
    ∙ answered _ (nat_le v (2 ^ 63)) (kinds.Integer (neg_ℤ (pos v))) (suc (suc n)) (2 + n) (is_int64-neg v) (omega arith)
    ∙ chosen (is_leading_digit b) read None e)
    (λ e. scan-none 45 (b ∷ bs) (is_name is_leading_digit is_digit) kind shape-negative (name-not is_leading_digit is_digit b bs e)
    ∙ passed (is_leading_digit b) read None e)

pub shape-string : (xs : List ℕ) → shape (34 ∷ xs) ≡ when (closes xs) kinds.Str
unfolding shape
shape-string xs = refl

pub string-scan : (bs : List ℕ) (n : ℕ) → LongestFront closes bs n
    → scan (34 ∷ bs) ≡ (if nat_le (length (value_of (take n bs))) 1048576 then Some (kinds.Str, 1 + n) else None)
string-scan bs n w =
    scan-front 34 bs closes (λ xs. kinds.Str) n shape-string w
    ∙ answered (nat_le (length (value_of (take n bs))) 1048576) (nat_le (length (value_of (take n bs))) 1048576) kinds.Str (suc n) (1 + n) refl (omega arith)

pub quote_scan : (bs : List ℕ) → NoFront closes bs → scan (34 ∷ bs) ≡ None
quote_scan bs w = scan-none 34 bs closes (λ xs. kinds.Str) shape-string w

pub shape-mark : (b : ℕ) → is_word_start b ≡ false → is_digit b ≡ false → is_mark b ≡ true → (xs : List ℕ) → shape (b ∷ xs) ≡ mark_shape b xs
unfolding shape
shape-mark b e1 e2 e3 xs = rw (e1, e2, e3) refl

-- what is longest decides
scan-longest : (b : ℕ) (bs : List ℕ) (n : ℕ) (kind : TokenKind) → longest (length (b ∷ bs)) (b ∷ bs) ≡ n → shape (take n (b ∷ bs)) ≡ Some kind → fits kind (take n (b ∷ bs)) ≡ true
    → scan (b ∷ bs) ≡ Some (kind, n)
unfolding scan
scan-longest b bs n kind l s f =
    ap (front_of_length (b ∷ bs)) l ∙ ap (λ (o : Option TokenKind). kept o (b ∷ bs) n) s ∙ ap (λ t. answer t kind n) f

pub last-mark-scan : (b : ℕ) → is_word_start b ≡ false → is_digit b ≡ false → is_mark b ≡ true → scan (b ∷ []) ≡ Some (kinds.Mark b, 1)
last-mark-scan b e1 e2 e3 =
    scan-longest b [] 1 (kinds.Mark b)
    (longest-at 1 1 (b ∷ []) (kinds.Mark b) (omega arith) (shape-mark b e1 e2 e3 []) (λ m lt le. absurd (omega arith)))
    (shape-mark b e1 e2 e3 []) refl

pub one-mark : (b c : ℕ) (bs : List ℕ) → ((xs : List ℕ) → shape (b ∷ xs) ≡ mark_shape b xs) → (b == 60 && c == 61) ≡ false → scan (b ∷ c ∷ bs) ≡ Some (kinds.Mark b, 1)
one-mark b c bs s e =
    scan-longest b (c ∷ bs) 1 (kinds.Mark b)
    (longest-at (suc (suc (length bs))) 1 (b ∷ c ∷ bs) (kinds.Mark b) (omega arith) (s []) longer)
    (s []) refl
  where
    longer : (m : ℕ) → 1 < m → m ≤ suc (suc (length bs)) → shape (take m (b ∷ c ∷ bs)) ≡ None
    longer zero lt le = absurd (omega arith)
    longer (suc zero) lt le = absurd (omega arith)
    longer (suc (suc m)) lt le = s (c ∷ take m bs) ∙ ap (λ t. when (t && is_empty (take m bs)) kinds.LessEqual) e

two-marks : (b c : ℕ) (bs : List ℕ) → ((xs : List ℕ) → shape (b ∷ xs) ≡ mark_shape b xs) → (b == 60 && c == 61) ≡ true → scan (b ∷ c ∷ bs) ≡ Some (kinds.LessEqual, 2)
two-marks b c bs s e =
    let two : shape (b ∷ c ∷ []) ≡ Some kinds.LessEqual = s (c ∷ []) ∙ ap (λ t. when (t && true) kinds.LessEqual) e in
    scan-longest b (c ∷ bs) 2 kinds.LessEqual
    (longest-at (suc (suc (length bs))) 2 (b ∷ c ∷ bs) kinds.LessEqual (omega arith) two (longer bs))
    two refl
  where
    longer : (ds : List ℕ) (m : ℕ) → 2 < m → m ≤ suc (suc (length ds)) → shape (take m (b ∷ c ∷ ds)) ≡ None
    longer ds zero lt le = absurd (omega arith)
    longer ds (suc zero) lt le = absurd (omega arith)
    longer ds (suc (suc zero)) lt le = absurd (omega arith)
    longer [] (suc (suc (suc m))) lt le = absurd (omega arith)
    longer (d ∷ ds) (suc (suc (suc m))) lt le = s (c ∷ d ∷ take m ds) ∙ ap (λ t. when (t && false) kinds.LessEqual) e

pub mark-scan : (b c : ℕ) (bs : List ℕ) → is_word_start b ≡ false → is_digit b ≡ false → is_mark b ≡ true
    → scan (b ∷ c ∷ bs) ≡ (if b == 60 && c == 61 then Some (kinds.LessEqual, 2) else Some (kinds.Mark b, 1))
mark-scan b c bs e1 e2 e3 =
    let t = b == 60 && c == 61 in
    split t
    (λ e. two-marks b c bs (shape-mark b e1 e2 e3) e ∙ chosen t (Some (kinds.LessEqual, 2)) (Some (kinds.Mark b, 1)) e)
    (λ e. one-mark b c bs (shape-mark b e1 e2 e3) e ∙ passed t (Some (kinds.LessEqual, 2)) (Some (kinds.Mark b, 1)) e)

pub shape-other : (b : ℕ) → is_word_start b ≡ false → is_digit b ≡ false → is_mark b ≡ false → (b == 46) ≡ false → (b == 36) ≡ false → (b == 45) ≡ false → (b == 34) ≡ false
    → (xs : List ℕ) → shape (b ∷ xs) ≡ when false kinds.End
unfolding shape
shape-other b e1 e2 e3 e4 e5 e6 e7 xs = rw (e1, e2, e3, e4, e5, e6, e7) refl

pub other-scan : (b : ℕ) (bs : List ℕ) → is_word_start b ≡ false → is_digit b ≡ false → is_mark b ≡ false
    → (b == 46) ≡ false → (b == 36) ≡ false → (b == 45) ≡ false → (b == 34) ≡ false → scan (b ∷ bs) ≡ None
other-scan b bs e1 e2 e3 e4 e5 e6 e7 =
    scan-none b bs (λ xs. false) (λ xs. kinds.End) (shape-other b e1 e2 e3 e4 e5 e6 e7) (record { none = λ m le. refl })

-- The same by what the code reads of a list.

-- what it calls the others behind the first
abbrev pub others : List ℕ → List ℕ
others bytes = take (length bytes - 1) (drop 1 bytes)

others-cons : (b : ℕ) (bs : List ℕ) → bs ≡ others (b ∷ bs)
others-cons b bs = sym (take_rest (b ∷ bs) 1)

pub no_local_scan : (bytes : List ℕ) → length bytes < 1 → scan (36 ∷ bytes) ≡ None
no_local_scan [] h = dollar-scan
no_local_scan (b ∷ bs) h = absurd (omega arith)

pub local_scan : (bytes : List ℕ) → 1 ≤ length bytes
    → scan (36 ∷ bytes)
    ≡ (if is_word_start (get_or bytes 0 0)
    then (if nat_le (1 + run_of is_word_byte (others bytes)) 100 then Some (kinds.Local, 1 + (1 + run_of is_word_byte (others bytes))) else None)
    else None)
local_scan [] h = absurd (omega arith)
local_scan (b ∷ bs) h =
    local-scan b bs
    ∙ ap (λ m. if is_word_start b then answer (nat_le (1 + run_of is_word_byte bs) 100) kinds.Local m else None) (omega arith)
    ∙ ap (λ (r : List ℕ). if is_word_start b then answer (nat_le (1 + run_of is_word_byte r) 100) kinds.Local (1 + (1 + run_of is_word_byte r)) else None) (others-cons b bs)

pub no_negative_scan : (bytes : List ℕ) → length bytes < 1 → scan (45 ∷ bytes) ≡ None
no_negative_scan [] h = minus-scan
no_negative_scan (b ∷ bs) h = absurd (omega arith)

abbrev negative-answer : ℕ → List ℕ → Scanned
negative-answer b r =
    if is_leading_digit b
    then answer (nat_le (number_from (b - 48) (take (run_of is_digit r) r)) (2 ^ 63)) (kinds.Integer (neg_ℤ (pos (number_from (b - 48) (take (run_of is_digit r) r))))) (2 + run_of is_digit r)
    else None

pub negative_scan : (bytes : List ℕ) → 1 ≤ length bytes
    → scan (45 ∷ bytes)
    ≡ (if is_leading_digit (get_or bytes 0 0)
    then (if nat_le (number_from (get_or bytes 0 0 - 48) (take (run_of is_digit (others bytes)) (others bytes))) (2 ^ 63)
    then Some (kinds.Integer (neg_ℤ (pos (number_from (get_or bytes 0 0 - 48) (take (run_of is_digit (others bytes)) (others bytes))))), 2 + run_of is_digit (others bytes))
    else None)
    else None)
negative_scan [] h = absurd (omega arith)
negative_scan (b ∷ bs) h = negative-scan b bs ∙ ap (negative-answer b) (others-cons b bs)

pub last_mark_scan : (b : ℕ) (bytes : List ℕ) → is_word_start b ≡ false → is_digit b ≡ false → is_mark b ≡ true → length bytes < 1 → scan (b ∷ bytes) ≡ Some (kinds.Mark b, 1)
last_mark_scan b [] e1 e2 e3 h = last-mark-scan b e1 e2 e3
last_mark_scan b (c ∷ bs) e1 e2 e3 h = absurd (omega arith)

pub mark_scan : (b : ℕ) (bytes : List ℕ) → is_word_start b ≡ false → is_digit b ≡ false → is_mark b ≡ true → 1 ≤ length bytes
    → scan (b ∷ bytes) ≡ (if b == 60 && get_or bytes 0 0 == 61 then Some (kinds.LessEqual, 2) else Some (kinds.Mark b, 1))
mark_scan b [] e1 e2 e3 h = absurd (omega arith)
mark_scan b (c ∷ bs) e1 e2 e3 h = mark-scan b c bs e1 e2 e3

pub other_scan : (bytes : List ℕ) → 1 ≤ length bytes → is_word_start (get_or bytes 0 0) ≡ false → is_digit (get_or bytes 0 0) ≡ false → is_mark (get_or bytes 0 0) ≡ false
    → (get_or bytes 0 0 ≡ 46 → ⊥) → (get_or bytes 0 0 ≡ 36 → ⊥) → (get_or bytes 0 0 ≡ 45 → ⊥) → (get_or bytes 0 0 ≡ 34 → ⊥) → scan bytes ≡ None
other_scan [] h e1 e2 e3 n4 n5 n6 n7 = absurd (omega arith)
other_scan (b ∷ bs) h e1 e2 e3 n4 n5 n6 n7 = other-scan b bs e1 e2 e3 (not-same b 46 n4) (not-same b 36 n5) (not-same b 45 n6) (not-same b 34 n7)
  where
    not-same : (b c : ℕ) → (b ≡ c → ⊥) → (b == c) ≡ false
    not-same b c n = grind (arith, nat_tests)

pub long_string_scan : (bytes : List ℕ) (n size : ℕ) → LongestFront closes bytes n × (size ≡ length (value_of (take n bytes))) → 1048576 < size → scan (34 ∷ bytes) ≡ None
long_string_scan bytes n size w h =
    let e : nat_le (length (value_of (take n bytes))) 1048576 ≡ false = grind (arith, nat_tests, w.1) in
    string-scan bytes n w.0 ∙ ap (λ t. answer t kinds.Str (1 + n)) e

pub string_scan : (bytes : List ℕ) (n size : ℕ) → LongestFront closes bytes n × (size ≡ length (value_of (take n bytes))) → size ≤ 1048576 → scan (34 ∷ bytes) ≡ Some (kinds.Str, 1 + n)
string_scan bytes n size w h =
    let e : nat_le (length (value_of (take n bytes))) 1048576 ≡ true = grind (arith, nat_tests, w.1) in
    string-scan bytes n w.0 ∙ ap (λ t. answer t kinds.Str (1 + n)) e
