-- What spells a token within the limits is a proper token.
use Rattle.std.proofs.Common.{◌≡◌, ◌≢◌, ℕ, suc, ◌+◌, ◌-◌, ◌*◌, ◌<◌, ◌≤◌, refl, sym, ap, subst, ◌∙◌, Bool, true, false, if◌then◌else◌, ◌&&◌, ◌||◌, ◌==◌, nat_le, List, [], ◌∷◌, ◌++◌, length, take, fold, Option, None, Some, pos, neg_ℤ, arith, inl, inr, lit<}
use Rattle.std.specs.List.{list_all}
use Rattle.std.specs.Option.{option_map, option_to_list}
use Rattle.std.proofs.lemmas.Bool.{leb-true, le-leb}
use Rattle.hhas_lex.specs.declared.token.TokenKind.{TokenKind}
use Rattle.hhas_lex.specs.declared.token.TokenKind.TheVariants as kinds
use Rattle.hhas_lex.specs.declared.strings.Mode.{Mode}
use Rattle.hhas_lex.specs.declared.strings.Mode.TheVariants.{Plain, Escaped, High, Low, Closed, Broken}
use Rattle.hhas_lex.specs.Bytes.{is_between, is_lower, is_word_start, is_word_byte, is_digit, is_leading_digit, is_mark, is_plain, is_name, hex_value, number_of}
use Rattle.hhas_lex.specs.Shape.{shape, when, is_empty, mark_shape, fits, IsTokenAt}
use Rattle.hhas_lex.specs.Strings.{IsSmall, low_after, plain_after, step, given, is_closed, closes, value_from, value_of}
use Rattle.hhas_lex.specs.Tokens.{token_of}
use Rattle.hhas_lex.specs.Spelling.{is_byte, is_proper}
use Rattle.hhas_lex.proofs.ByteTests.{both, either, neither, at_byte}
use Rattle.hhas_lex.proofs.Quotes.{broken-stays}
use Rattle.hhas_lex.proofs.Fronts.{split}

-- ---- the bytes of a string's value

hex-small : (b d : ℕ) → hex_value b ≡ Some d → d < 16
hex-small b d e =
    split (is_digit b)
    (λ f. let r = both (nat_le 48 b) (nat_le b 57) f in
    let g : Some (b - 48) ≡ Some d = sym (ap (λ (c : Bool). if c then Some (b - 48) else (if is_between 97 102 b then Some (b - 87) else if is_between 65 70 b then Some (b - 55) else None)) f) ∙ e in
    let h : b - 48 ≡ d = cc in omega (arith, leb-true b 57 r.1))
    (λ f1. split (is_between 97 102 b)
    (λ f. let r = both (nat_le 97 b) (nat_le b 102) f in
    let g : hex_value b ≡ Some (b - 87) = rw (f1, f) refl in
    let h : b - 87 ≡ d = cc in omega (arith, leb-true b 102 r.1))
    (λ f2. split (is_between 65 70 b)
    (λ f. let r = both (nat_le 65 b) (nat_le b 70) f in
    let g : hex_value b ≡ Some (b - 55) = rw (f1, f2, f) refl in
    let h : b - 55 ≡ d = cc in omega (arith, leb-true b 70 r.1))
    (λ f3. let g : hex_value b ≡ None = rw (f1, f2, f3) refl in absurd (cc))))

if-small : (c : Bool) (m n : Mode) → IsSmall m → IsSmall n → IsSmall (if c then m else n)
if-small true m n h k = h
if-small false m n h k = k

low-small : (b : ℕ) (o : Option ℕ) → hex_value b ≡ o → IsSmall (low_after o)
low-small b None e = tt
low-small b (Some d) e = hex-small b d e

plain-small : (o : Option ℕ) → IsSmall (plain_after o)
plain-small None = tt
plain-small (Some d) = tt

step-small : (m : Mode) (b : ℕ) → IsSmall (step m b)
step-small Plain b =
    if-small (b == 34) Closed (if b == 92 then Escaped else if is_plain b then Plain else Broken) tt
    (if-small (b == 92) Escaped (if is_plain b then Plain else Broken) tt (if-small (is_plain b) Plain Broken tt tt))
step-small Escaped b = if-small (b == 34 || b == 92 || b == 110) Plain (if b == 120 then High else Broken) tt (if-small (b == 120) High Broken tt tt)
step-small High b = low-small b (hex_value b) refl
step-small (Low high) b = plain-small (hex_value b)
step-small Closed b = tt
step-small Broken b = tt

abbrev AllBytes : List ℕ → Type 0
AllBytes bytes = list_all is_byte bytes ≡ true

small-byte : (b n : ℕ) → b ≤ n → n < 256 → AllBytes (b ∷ [])
small-byte b n h k = ap (λ c. c && true) (le-leb (suc b) 256 (omega arith))

low-byte : (high b : ℕ) (o : Option ℕ) → high < 16 → hex_value b ≡ o → AllBytes (option_to_list (option_map (λ low. 16 * high + low) o))
low-byte high b None h e = refl
low-byte high b (Some low) h e = let s = hex-small b low e in small-byte (16 * high + low) 255 (omega arith) (lit< tt)

given-byte : (m : Mode) (b : ℕ) → IsSmall m → (step m b ≡ Broken → ⊥) → AllBytes (option_to_list (given m b))
given-byte Plain b s n =
    split (b == 34 || b == 92) (λ e. rw e refl)
    (λ e. let f = neither (b == 34) (b == 92) e in
    split (is_plain b)
    (λ g. rw e (small-byte b 126 (leb-true b 126 (both (nat_le 32 b) (nat_le b 126) g).1) (lit< tt)))
    (λ g. absurd (n (rw (f.0, f.1, g) refl))))
given-byte Escaped b s n =
    split (b == 120) (λ e. rw e refl)
    (λ e1. split (b == 110) (λ e. rw (e1, e) refl)
    (λ e2. split (b == 34 || b == 92)
    (λ e. rw (e1, e2) (elim (either (b == 34) (b == 92) e) [ inl p ↦ at_byte (λ c. AllBytes (c ∷ [])) b 34 refl p | inr p ↦ at_byte (λ c. AllBytes (c ∷ [])) b 92 refl p ]))
    (λ e. absurd (n (rw (e, e2, e1) refl)))))
given-byte High b s n = refl
given-byte (Low high) b s n = low-byte high b (hex_value b) s refl
given-byte Closed b s n = refl
given-byte Broken b s n = refl

all-append : (xs ys : List ℕ) → AllBytes xs → AllBytes ys → AllBytes (xs ++ ys)
all-append [] ys h k = k
all-append (x ∷ xs) ys h k =
    let e = both (is_byte x) (list_all is_byte xs) h in
    ap (λ c. c && list_all is_byte (xs ++ ys)) e.0 ∙ all-append xs ys e.1 k

value-bytes : (m : Mode) (bs : List ℕ) → IsSmall m → is_closed (fold step m bs) ≡ true → AllBytes (value_from m bs)
value-bytes m [] s h = refl
value-bytes m (b ∷ bs) s h =
    let unbroken : step m b ≡ Broken → ⊥ = λ e. let k : is_closed (fold step (step m b) bs) ≡ false = ap (λ (z : Mode). is_closed (fold step z bs)) e ∙ ap is_closed (broken-stays bs) in absurd (cc) in
    all-append (option_to_list (given m b)) (value_from (step m b) bs) (given-byte m b s unbroken) (value-bytes (step m b) bs (step-small m b) h)

-- ---- each kind

and-true : (a b : Bool) → a ≡ true → b ≡ true → a && b ≡ true
and-true a b e f = ap (λ c. c && b) e ∙ f

pub when-some : (t : Bool) (j k : TokenKind) → when t j ≡ Some k → (t ≡ true) × (j ≡ k)
when-some true j k e = (refl, cc)
when-some false j k e = absurd (cc)

-- a kind is read as a proper token of these bytes
record Proper (bytes : List ℕ) (k : TokenKind) : Type 0 where
  pub proper : fits k bytes ≡ true → is_proper (token_of k bytes) ≡ true

by-when : (bytes : List ℕ) (t : Bool) (j k : TokenKind) → when t j ≡ Some k → (t ≡ true → fits j bytes ≡ true → is_proper (token_of j bytes) ≡ true) → Proper bytes k
by-when bytes t j k e h = let w = when-some t j k e in subst (Proper bytes) w.1 (record { proper = h w.0 })

mark-proper : (b : ℕ) (xs : List ℕ) (k : TokenKind) → is_mark b ≡ true → mark_shape b xs ≡ Some k → Proper (b ∷ xs) k
mark-proper b [] k m e = let f : kinds.Mark b ≡ k = cc in subst (Proper (b ∷ [])) f (record { proper = λ h. m })
mark-proper b (c ∷ xs) k m e = by-when (b ∷ c ∷ xs) (b == 60 && c == 61 && is_empty xs) kinds.LessEqual k e (λ t h. refl)

shape-proper : (bytes : List ℕ) (k : TokenKind) → shape bytes ≡ Some k → Proper bytes k
unfolding shape
shape-proper [] k e = absurd (cc)
shape-proper (b ∷ xs) k e =
    let bytes = b ∷ xs in
    split (is_word_start b)
    (λ e1. by-when bytes (list_all is_word_byte xs) kinds.Word k (rw e1 at e) (λ t h. and-true (is_name is_word_start is_word_byte bytes) (nat_le (length bytes) 100) (and-true (is_word_start b) (list_all is_word_byte xs) e1 t) h))
    (λ e1. split (is_digit b)
    (λ e2. by-when bytes (if b == 48 then is_empty xs else list_all is_digit xs) (kinds.Integer (pos (number_of bytes))) k (rw (e1, e2) at e) (λ t h. h))
    (λ e2. split (is_mark b)
    (λ e3. mark-proper b xs k e3 (rw (e1, e2, e3) at e))
    (λ e3. split (b == 46)
    (λ e4. by-when bytes (is_name is_lower is_lower xs) kinds.Directive k (rw (e1, e2, e3, e4) at e) (λ t h. t))
    (λ e4. split (b == 36)
    (λ e5. by-when bytes (is_name is_word_start is_word_byte xs) kinds.Local k (rw (e1, e2, e3, e4, e5) at e) (λ t h. and-true (is_name is_word_start is_word_byte xs) (nat_le (length xs) 100) t h))
    (λ e5. split (b == 45)
    (λ e6. by-when bytes (is_name is_leading_digit is_digit xs) (kinds.Integer (neg_ℤ (pos (number_of xs)))) k (rw (e1, e2, e3, e4, e5, e6) at e) (λ t h. h))
    (λ e6. split (b == 34)
    (λ e7. by-when bytes (closes xs) kinds.Str k (rw (e1, e2, e3, e4, e5, e6, e7) at e)
    (λ t h. and-true (list_all is_byte (value_of xs)) (nat_le (length (value_of xs)) 1048576) (value-bytes Plain xs tt t) h))
    (λ e7. absurd (let f = rw (e1, e2, e3, e4, e5, e6, e7) at e in (cc)))))))))

pub token-proper : (bytes : List ℕ) (k : TokenKind) (n : ℕ) → IsTokenAt bytes k n → k ≢ kinds.End → is_proper (token_of k (take n bytes)) ≡ true
token-proper [] k n h e = absurd (e h.0)
token-proper (b ∷ bs) k n h e = (shape-proper (take n (b ∷ bs)) k h.0.spelled).proper h.1
