-- L and a number is a word, and no reserved one.
use Rattle.std.proofs.Common.{◌≡◌, ◌<◌, ◌≤◌, ◌^◌, ◌+◌, ◌%◌, ℕ, Bool, true, false, not, ◌&&◌, ◌||◌, ◌==◌, nat_le, List, [], ◌∷◌, length, Option, Some, None, is_some, if◌then◌else◌, refl, ap, ◌∙◌, arith}
use Rattle.std.specs.List.{list_all, list_any}
use Rattle.std.specs.Fmt.{decimal}
use Rattle.std.specs.Str.{bytes_eq}
use Rattle.std.proofs.lemmas.Bool.{and_from, and_parts, or_from, or_parts, or_left, or_right, both_ways, false_from_ne_true, le-leb}
use Rattle.std.proofs.lemmas.Fmt.{decimal_by_steps, decimal_nonempty, length-decimal-le}
use Rattle.std.proofs.lemmas.List.Folds.{list_all-append}
use Rattle.std.proofs.lemmas.Slice.Eq.{bytes_eq-Decides}
use Rattle.hhas_lex.specs.Bytes.{is_digit, is_name, is_word_byte, is_word_start}
use Rattle.hhas_lex.specs.Spelling.{is_word}
use Rattle.hhbc_ops.specs.declared.op.Op.{Op}
use Rattle.hhbc_ops.specs.declared.op.Op.TheVariants as ops
use Rattle.hhbc_ops.specs.Names.{first_named}
use Rattle.hhbc_ops.specs.Ops.{op_name, op_called, of_length}
use Rattle.hhbc_repo.specs.CodeSyntax.{is_reserved, other_names}
use Rattle.hhbc_repo.specs.Fits.{is_label}
use Rattle.hhbc_repo.specs.Canonical.{label_called}

-- ---- names that fail a test differ from a word that passes it

unequal : (test : List ℕ → Bool) (xs ys : List ℕ) → test xs ≡ false → test ys ≡ true → bytes_eq xs ys ≡ false
unequal test xs ys fails passes = false_from_ne_true (bytes_eq xs ys) (λ e. both_ways (test xs) fails (ap test ((bytes_eq-Decides xs ys).0 e) ∙ passes))

none_named : {A : Type 0} (name_of : A → List ℕ) (test : List ℕ → Bool) → ((x : A) → test (name_of x) ≡ false) → (xs : List A) (word : List ℕ) → test word ≡ true
    → first_named name_of xs word ≡ None
none_named name_of test fails [] word passes = refl
none_named name_of test fails (x ∷ more) word passes =
    ap (λ (b : Bool). if b then Some x else first_named name_of more word) (unequal test (name_of x) word (fails x) passes)
    ∙ none_named name_of test fails more word passes

none_equal : (test : List ℕ → Bool) (xs : List (List ℕ)) (word : List ℕ) → list_any test xs ≡ false → test word ≡ true → list_any (λ (other : List ℕ). bytes_eq other word) xs ≡ false
none_equal test [] word fails passes = refl
none_equal test (x ∷ xs) word fails passes =
    let parts = or_parts (test x) (list_any test xs) fails in
    or_from (bytes_eq x word) (list_any (λ (other : List ℕ). bytes_eq other word) xs) (unequal test x word parts.0 passes) (none_equal test xs word parts.1 passes)

-- ---- words that begin with L and a digit

abbrev is_numbered : List ℕ → Bool
is_numbered [] = false
is_numbered (l ∷ []) = false
is_numbered (l ∷ d ∷ more) = l == 76 && is_digit d

op_unnumbered : (op : Op) → is_numbered (op_name op) ≡ false
op_unnumbered ops.Nop = refl
op_unnumbered _ = refl

others_unnumbered : list_any is_numbered other_names ≡ false
unfolding other_names
others_unnumbered = refl

numbered_unreserved : (word : List ℕ) → is_numbered word ≡ true → is_reserved word ≡ false
numbered_unreserved word h =
    or_from (is_some (op_called word)) (list_any (λ (other : List ℕ). bytes_eq other word) other_names)
    (ap (λ (o : Option Op). is_some o) (none_named op_name is_numbered op_unnumbered (of_length (length word)) word h))
    (none_equal is_numbered other_names word others_unnumbered h)

-- ---- the digits of numbers

digit_at : (n : ℕ) → n < 10 → is_digit (48 + n) && true ≡ true
digit_at n h =
    and_from (is_digit (48 + n)) true
    (and_from (nat_le 48 (48 + n)) (nat_le (48 + n) 57) (le-leb 48 (48 + n) (omega arith)) (le-leb (48 + n) 57 (omega arith))) refl

decimal_digits : (n : ℕ) → n < 2 ^ 64 → list_all is_digit (decimal n) ≡ true
decimal_digits = decimal_by_steps (λ n ds. list_all is_digit ds ≡ true) digit_at
    (λ n ds h all. list_all-append is_digit ds ((48 + n % 10) ∷ []) ∙ and_from (list_all is_digit ds) (is_digit (48 + n % 10) && true) all (digit_at (n % 10) (omega arith)))

digits_word : (ds : List ℕ) → list_all is_digit ds ≡ true → list_all is_word_byte ds ≡ true
digits_word [] h = refl
digits_word (d ∷ ds) h =
    let parts = and_parts (is_digit d) (list_all is_digit ds) h in
    and_from (is_word_byte d) (list_all is_word_byte ds)
    (or_left (is_word_start d || is_digit d) (d == 92) (or_right (is_word_start d) (is_digit d) parts.0))
    (digits_word ds parts.1)

-- ---- L and digits

word_fits : (ds : List ℕ) → list_all is_digit ds ≡ true → length ds ≤ 99 → is_word (76 ∷ ds) ≡ true
word_fits ds h short =
    and_from (is_name is_word_start is_word_byte (76 ∷ ds)) (nat_le (length (76 ∷ ds)) 100) (digits_word ds h) (le-leb (length (76 ∷ ds)) 100 (omega (arith, short)))

digits_numbered : (ds : List ℕ) → list_all is_digit ds ≡ true → 0 < length ds → is_numbered (76 ∷ ds) ≡ true
digits_numbered [] h some = absurd (omega arith)
digits_numbered (d ∷ ds) h some = (and_parts (is_digit d) (list_all is_digit ds) h).0

pub called_fits : (n : ℕ) → n ≤ 65535 → is_label (label_called n) ≡ true
called_fits n h =
    let small : n < 2 ^ 64 = omega arith in
    let digits = decimal_digits n small in
    let short : length (decimal n) ≤ 5 = length-decimal-le 5 n (omega arith) (omega arith) small in
    and_from (is_word (label_called n)) (not (is_reserved (label_called n)))
    (word_fits (decimal n) digits (omega (arith, short)))
    (ap not (numbered_unreserved (label_called n) (digits_numbered (decimal n) digits (decimal_nonempty n small))))
