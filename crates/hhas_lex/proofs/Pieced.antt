-- What closes a string is made of pieces, and pieces close it.
use Rattle.std.proofs.Common.{◌≡◌, ℕ, ◌+◌, ◌*◌, refl, sym, ap, subst, ◌∙◌, Bool, true, false, not, if◌then◌else◌, ◌&&◌, ◌||◌, ◌==◌, List, [], ◌∷◌, ◌++◌, drop, map, fold, Option, None, Some, append_assoc, append-nil, pos, neg_ℤ}
use Rattle.std.specs.List.{list_all, flat_map}
use Rattle.std.specs.Option.{option_map, option_to_list, is_some, unwrap_or}
use Rattle.std.proofs.lemmas.Bool.Decides.{Decides-eqb}
use Rattle.hhas_lex.specs.declared.token.TokenKind.{TokenKind}
use Rattle.hhas_lex.specs.declared.token.TokenKind.TheVariants as kinds
use Rattle.hhas_lex.specs.declared.strings.Mode.{Mode}
use Rattle.hhas_lex.specs.declared.strings.Mode.TheVariants.{Plain, Escaped, High, Low, Closed, Broken}
use Rattle.hhas_lex.specs.Bytes.{is_plain, hex_value, is_lower, is_word_start, is_word_byte, is_digit, is_leading_digit, is_mark, is_name, number_of}
use Rattle.hhas_lex.specs.Pieces.{Piece, AsIs, Quote, Backslash, Newline, Hex, is_piece, piece_spelling, piece_value, IsString}
use Rattle.hhas_lex.specs.Shape.{shape, when, is_empty, mark_shape}
use Rattle.hhas_lex.specs.Strings.{low_after, plain_after, step, given, is_closed, closes, value_from, value_of}
use Rattle.hhas_lex.proofs.ByteTests.{both, neither, at_byte}
use Rattle.hhas_lex.proofs.Fronts.{split}
use Rattle.hhas_lex.proofs.Proper.{when-some}
use Rattle.hhas_lex.proofs.Quotes.{broken-stays}
use Rattle.hhas_lex.proofs.Searching.{shape-nil}

-- ---- pieces close a string

-- the bytes are read as this byte of the value
pub record Stands (bytes : List ℕ) (b : ℕ) (xs : List ℕ) : Type 0 where
  pub mode : fold step Plain (bytes ++ xs) ≡ fold step Plain xs
  pub value : value_from Plain (bytes ++ xs) ≡ b ∷ value_from Plain xs

pub not-true : (a : Bool) → not a ≡ true → a ≡ false
not-true true h = absurd (cc)
not-true false h = refl

pub plain-stands : (b : ℕ) (xs : List ℕ) → is_plain b ≡ true → (b == 34 || b == 92) ≡ false → Stands (b ∷ []) b xs
plain-stands b xs f e =
    let n = neither (b == 34) (b == 92) e in
    let s : step Plain b ≡ Plain = rw (n.0, n.1, f) refl in
    record {
      mode = ap (λ (m : Mode). fold step m xs) s;
      value = ap (λ (t : Bool). option_to_list (if t then None else Some b) ++ value_from (step Plain b) xs) e ∙ ap (λ (m : Mode). b ∷ value_from m xs) s;
    }

pub hex-stands : (high low : ℕ) (xs : List ℕ) (o p : Option ℕ) → hex_value high ≡ o → hex_value low ≡ p → is_some o && is_some p ≡ true
    → Stands (92 ∷ 120 ∷ high ∷ low ∷ []) (16 * unwrap_or o 0 + unwrap_or p 0) xs
hex-stands high low xs None p e f h = absurd (cc)
hex-stands high low xs (Some c) None e f h = absurd (cc)
hex-stands high low xs (Some c) (Some d) e f h = record {
  mode = ap (λ (o : Option ℕ). fold step (step (low_after o) low) xs) e ∙ ap (λ (o : Option ℕ). fold step (plain_after o) xs) f;
  value =
      ap (λ (o : Option ℕ). option_to_list (given (low_after o) low) ++ value_from (step (low_after o) low) xs) e
      ∙ ap (λ (o : Option ℕ). option_to_list (option_map (λ z. 16 * c + z) o) ++ value_from (plain_after o) xs) f;
}

piece-stands : (p : Piece) (xs : List ℕ) → is_piece p ≡ true → Stands (piece_spelling p) (piece_value p) xs
piece-stands (AsIs b) xs h =
    let e = both (is_plain b) (not (b == 34 || b == 92)) h in
    plain-stands b xs e.0 (not-true (b == 34 || b == 92) e.1)
piece-stands Quote xs h = record { mode = refl; value = refl }
piece-stands Backslash xs h = record { mode = refl; value = refl }
piece-stands Newline xs h = record { mode = refl; value = refl }
piece-stands (Hex high low) xs h = hex-stands high low xs (hex_value high) (hex_value low) refl refl h

record AllStand (ps : List Piece) (xs : List ℕ) : Type 0 where
  pub mode : fold step Plain (flat_map piece_spelling ps ++ xs) ≡ fold step Plain xs
  pub value : value_from Plain (flat_map piece_spelling ps ++ xs) ≡ map piece_value ps ++ value_from Plain xs

all-stand : (ps : List Piece) (xs : List ℕ) → list_all is_piece ps ≡ true → AllStand ps xs
all-stand [] xs h = record { mode = refl; value = refl }
all-stand (p ∷ ps) xs h =
    let e = both (is_piece p) (list_all is_piece ps) h in
    let w = piece-stands p (flat_map piece_spelling ps ++ xs) e.0 in
    let r = all-stand ps xs e.1 in
    let g = append_assoc (piece_spelling p) (flat_map piece_spelling ps) xs in
    record {
      mode = ap (fold step Plain) g ∙ w.mode ∙ r.mode;
      value = ap (value_from Plain) g ∙ w.value ∙ ap (λ l. piece_value p ∷ l) r.value;
    }

shape-quote : (xs : List ℕ) → closes xs ≡ true → shape (34 ∷ xs) ≡ Some kinds.Str
unfolding shape
shape-quote xs h = ap (λ t. if t then Some kinds.Str else None) h

pub pieces-close : (bytes value : List ℕ) → IsString bytes value → (shape bytes ≡ Some kinds.Str) × (value_of (drop 1 bytes) ≡ value)
pieces-close bytes value w =
    let xs = flat_map piece_spelling w.pieces ++ 34 ∷ [] in
    let r = all-stand w.pieces (34 ∷ []) w.proper in (
      ap shape w.spelled ∙ shape-quote xs (ap is_closed r.mode),
      ap (λ l. value_of (drop 1 l)) w.spelled ∙ r.value ∙ append-nil (map piece_value w.pieces) ∙ sym w.value_is,
    )

-- ---- what closes a string is made of pieces

record Parsed (bytes value : List ℕ) : Type 0 where
  pub pieces : List Piece
  pub proper : list_all is_piece pieces ≡ true
  pub spelled : bytes ≡ flat_map piece_spelling pieces ++ 34 ∷ []
  pub value_is : value ≡ map piece_value pieces

one-more : (p : Piece) (bytes value : List ℕ) → is_piece p ≡ true → Parsed bytes value → Parsed (piece_spelling p ++ bytes) (piece_value p ∷ value)
one-more p bytes value h w = record {
  pieces = p ∷ w.pieces;
  proper = ap (λ c. c && list_all is_piece w.pieces) h ∙ w.proper;
  spelled = ap (λ l. piece_spelling p ++ l) w.spelled ∙ sym (append_assoc (piece_spelling p) (flat_map piece_spelling w.pieces) (34 ∷ []));
  value_is = ap (λ l. piece_value p ∷ l) w.value_is;
}

-- nothing follows the closing quote
closed-end : (bs : List ℕ) → is_closed (fold step Closed bs) ≡ true → Parsed (34 ∷ bs) (value_from Closed bs)
closed-end [] h = record { pieces = []; proper = refl; spelled = refl; value_is = refl }
closed-end (b ∷ bs) h = absurd (let e : is_closed (fold step Broken bs) ≡ false = ap is_closed (broken-stays bs) in (cc))

unbroken : {P : Type 0} (m : Mode) (bs : List ℕ) → is_closed (fold step m bs) ≡ true → m ≡ Broken → P
unbroken m bs h e = absurd (let f : is_closed (fold step m bs) ≡ false = ap (λ (z : Mode). is_closed (fold step z bs)) e ∙ ap is_closed (broken-stays bs) in (cc))

-- what has been read of a piece, of which the byte is the digit
abbrev begun : Mode → ℕ → List ℕ
begun Plain a = []
begun Escaped a = 92 ∷ []
begun High a = 92 ∷ 120 ∷ []
begun (Low high) a = 92 ∷ 120 ∷ a ∷ []
begun Closed a = []
begun Broken a = []

abbrev Reading : Mode → ℕ → Type 0
Reading Plain a = Unit {0}
Reading Escaped a = Unit {0}
Reading High a = Unit {0}
Reading (Low high) a = hex_value a ≡ Some high
Reading Closed a = ⊥
Reading Broken a = ⊥

-- how the rest of a string is parsed
Rest : List ℕ → Type 0
Rest bs = (m : Mode) (a : ℕ) → Reading m a → is_closed (fold step m bs) ≡ true → Parsed (begun m a ++ bs) (value_from m bs)

plain-more : (b : ℕ) (bs : List ℕ) → Rest bs → is_closed (fold step Plain (b ∷ bs)) ≡ true → Parsed (b ∷ bs) (value_from Plain (b ∷ bs))
unfolding Rest
plain-more b bs rest h =
    let P : ℕ → Type 0 = λ c. is_closed (fold step Plain (c ∷ bs)) ≡ true → Parsed (c ∷ bs) (value_from Plain (c ∷ bs)) in
    split (b == 34) (λ e. at_byte P b 34 (λ k. closed-end bs k) e h)
    (λ e1. split (b == 92) (λ e. at_byte P b 92 (λ k. rest Escaped 0 tt k) e h)
    (λ e2. split (is_plain b)
    (λ e3.
    let s : step Plain b ≡ Plain = rw (e1, e2, e3) refl in
    let f : (b == 34 || b == 92) ≡ false = ap (λ c. c || b == 92) e1 ∙ e2 in
    let v : value_from Plain (b ∷ bs) ≡ b ∷ value_from Plain bs = (plain-stands b bs e3 f).value in
    let p : is_piece (AsIs b) ≡ true = ap (λ c. c && not (b == 34 || b == 92)) e3 ∙ ap not f in
    subst (Parsed (b ∷ bs)) (sym v) (one-more (AsIs b) bs (value_from Plain bs) p (rest Plain 0 tt (ap (λ (m : Mode). is_closed (fold step m bs)) (sym s) ∙ h))))
    (λ e3. let s : step Plain b ≡ Broken = rw (e1, e2, e3) refl in unbroken (step Plain b) bs h s)))

escaped-more : (b : ℕ) (bs : List ℕ) → Rest bs → is_closed (fold step Escaped (b ∷ bs)) ≡ true → Parsed (92 ∷ b ∷ bs) (value_from Escaped (b ∷ bs))
unfolding Rest
escaped-more b bs rest h =
    let P : ℕ → Type 0 = λ c. is_closed (fold step Escaped (c ∷ bs)) ≡ true → Parsed (92 ∷ c ∷ bs) (value_from Escaped (c ∷ bs)) in
    let again : (p : Piece) → is_piece p ≡ true → is_closed (fold step Plain bs) ≡ true → Parsed (piece_spelling p ++ bs) (piece_value p ∷ value_from Plain bs) =
    λ p q k. one-more p bs (value_from Plain bs) q (rest Plain 0 tt k) in
    split (b == 34) (λ e. at_byte P b 34 (again Quote refl) e h)
    (λ e1. split (b == 92) (λ e. at_byte P b 92 (again Backslash refl) e h)
    (λ e2. split (b == 110) (λ e. at_byte P b 110 (again Newline refl) e h)
    (λ e3. split (b == 120) (λ e. at_byte P b 120 (λ k. rest High 0 tt k) e h)
    (λ e4. let s : step Escaped b ≡ Broken = rw (e1, e2, e3, e4) refl in unbroken (step Escaped b) bs h s))))

high-more : (b : ℕ) (bs : List ℕ) (o : Option ℕ) → hex_value b ≡ o → Rest bs → is_closed (fold step (low_after o) bs) ≡ true → Parsed (92 ∷ 120 ∷ b ∷ bs) (value_from (low_after o) bs)
unfolding Rest
high-more b bs None e rest h = unbroken Broken bs h refl
high-more b bs (Some d) e rest h = rest (Low d) b e h

low-more : (a high b : ℕ) (bs : List ℕ) (o : Option ℕ) → hex_value a ≡ Some high → hex_value b ≡ o → Rest bs → is_closed (fold step (plain_after o) bs) ≡ true
    → Parsed (92 ∷ 120 ∷ a ∷ b ∷ bs) (option_to_list (option_map (λ z. 16 * high + z) o) ++ value_from (plain_after o) bs)
unfolding Rest
low-more a high b bs None e f rest h = unbroken Broken bs h refl
low-more a high b bs (Some d) e f rest h =
    let p : is_piece (Hex a b) ≡ true = ap (λ (o : Option ℕ). is_some o && is_some (hex_value b)) e ∙ ap (λ (o : Option ℕ). is_some o) f in
    let v : piece_value (Hex a b) ≡ 16 * high + d = ap (λ (o : Option ℕ). 16 * unwrap_or o 0 + unwrap_or (hex_value b) 0) e ∙ ap (λ (o : Option ℕ). 16 * high + unwrap_or o 0) f in
    subst (λ z. Parsed (92 ∷ 120 ∷ a ∷ b ∷ bs) (z ∷ value_from Plain bs)) v (one-more (Hex a b) bs (value_from Plain bs) p (rest Plain 0 tt h))

parse : (bs : List ℕ) (m : Mode) (a : ℕ) → Reading m a → is_closed (fold step m bs) ≡ true → Parsed (begun m a ++ bs) (value_from m bs)
unfolding Rest
parse [] Plain a r h = absurd (cc)
parse [] Escaped a r h = absurd (cc)
parse [] High a r h = absurd (cc)
parse [] (Low high) a r h = absurd (cc)
parse [] Closed a r h = absurd r
parse [] Broken a r h = absurd r
parse (b ∷ bs) Plain a r h = plain-more b bs (parse bs) h
parse (b ∷ bs) Escaped a r h = escaped-more b bs (parse bs) h
parse (b ∷ bs) High a r h = high-more b bs (hex_value b) refl (parse bs) h
parse (b ∷ bs) (Low high) a r h = low-more a high b bs (hex_value b) r refl (parse bs) h
parse (b ∷ bs) Closed a r h = absurd r
parse (b ∷ bs) Broken a r h = absurd r

-- ---- strings alone have the shape of a string

record Quoted (b : ℕ) (xs : List ℕ) : Type 0 where
  pub quote : (b == 34) ≡ true
  pub closed : closes xs ≡ true

other-kind : (b : ℕ) (xs : List ℕ) (t : Bool) (k : TokenKind) → (k ≡ kinds.Str → ⊥) → when t k ≡ Some kinds.Str → Quoted b xs
other-kind b xs t k n e = absurd (n (when-some t k kinds.Str e).1)

no-mark : (b c : ℕ) (xs ys : List ℕ) → mark_shape c ys ≡ Some kinds.Str → Quoted b xs
no-mark b c xs [] e = absurd (let f : kinds.Mark c ≡ kinds.Str = cc in (cc))
no-mark b c xs (y ∷ ys) e = other-kind b xs (c == 60 && y == 61 && is_empty ys) kinds.LessEqual (λ f. absurd (cc)) e

string-shape : (b : ℕ) (xs : List ℕ) → shape (b ∷ xs) ≡ Some kinds.Str → Quoted b xs
unfolding shape
string-shape b xs e =
    split (is_word_start b)
    (λ e1. other-kind b xs (list_all is_word_byte xs) kinds.Word (λ f. absurd (cc)) (rw e1 at e))
    (λ e1. split (is_digit b)
    (λ e2. other-kind b xs (if b == 48 then is_empty xs else list_all is_digit xs) (kinds.Integer (pos (number_of (b ∷ xs)))) (λ f. absurd (cc)) (rw (e1, e2) at e))
    (λ e2. split (is_mark b)
    (λ e3. no-mark b b xs xs (rw (e1, e2, e3) at e))
    (λ e3. split (b == 46)
    (λ e4. other-kind b xs (is_name is_lower is_lower xs) kinds.Directive (λ f. absurd (cc)) (rw (e1, e2, e3, e4) at e))
    (λ e4. split (b == 36)
    (λ e5. other-kind b xs (is_name is_word_start is_word_byte xs) kinds.Local (λ f. absurd (cc)) (rw (e1, e2, e3, e4, e5) at e))
    (λ e5. split (b == 45)
    (λ e6. other-kind b xs (is_name is_leading_digit is_digit xs) (kinds.Integer (neg_ℤ (pos (number_of xs)))) (λ f. absurd (cc)) (rw (e1, e2, e3, e4, e5, e6) at e))
    (λ e6. split (b == 34)
    (λ e7. record { quote = e7; closed = (when-some (closes xs) kinds.Str kinds.Str (rw (e1, e2, e3, e4, e5, e6, e7) at e)).0 })
    (λ e7. absurd (let f = rw (e1, e2, e3, e4, e5, e6, e7) at e in (cc)))))))))

pub strings-pieced : (bytes : List ℕ) → shape bytes ≡ Some kinds.Str → IsString bytes (value_of (drop 1 bytes))
strings-pieced [] e = absurd (let f : None ≡ Some kinds.Str = sym shape-nil ∙ e in (cc))
strings-pieced (b ∷ xs) e =
    let q = string-shape b xs e in
    let p = parse xs Plain 0 tt q.closed in
    record {
      pieces = p.pieces;
      proper = p.proper;
      spelled = ap (λ c. c ∷ xs) ((Decides-eqb b 34).0 q.quote) ∙ ap (λ l. 34 ∷ l) p.spelled;
      value_is = p.value_is;
    }
