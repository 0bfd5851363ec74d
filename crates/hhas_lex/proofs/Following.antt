-- What stands at the front of a text's tokens, and what behind it.
use Rattle.std.proofs.Common.{◌≡◌, ℕ, zero, suc, ◌+◌, ◌-◌, ◌<◌, refl, sym, ◌∙◌, ap, subst, Bool, true, false, List, [], ◌∷◌, length, drop, take, Some, None, arith}
use Rattle.std.proofs.lemmas.List.{length-drop, drop-drop, take_rest}
use Rattle.hhas_lex.specs.declared.token.TokenKind.{TokenKind}
use Rattle.hhas_lex.specs.declared.token.TokenKind.TheVariants as kinds
use Rattle.hhas_lex.specs.Shape.{Scanned, scan, IsTokenAt, NoToken}
use Rattle.hhas_lex.specs.Tokens.{Token, Directive, Word, Local, Integer, Str, Mark, LessEqual, End, Bad, token_of, meaning, token_in, length_in, gap, first, past_first, followed, tokens, tokens_within, places, places_within, front, front_place, behind, left, left_places}
use Rattle.hhas_lex.proofs.Fronts.{split}
use Rattle.hhas_lex.proofs.Exact.{scan-some, scan-nothing}
use Rattle.hhas_lex.proofs.Grows.{is_end, scan-grows, scan-end}

-- nothing follows this token
abbrev pub is_last : Token → Bool
is_last End = true
is_last Bad = true
is_last (Directive s) = false
is_last (Word s) = false
is_last (Local s) = false
is_last (Integer i) = false
is_last (Str s) = false
is_last (Mark b) = false
is_last LessEqual = false

pub followed-last : {A : Type 0} (t : Token) (x : A) (xs : List A) → is_last t ≡ true → followed t x xs ≡ x ∷ []
followed-last End x xs e = refl
followed-last Bad x xs e = refl
followed-last (Directive s) x xs e = absurd (cc)
followed-last (Word s) x xs e = absurd (cc)
followed-last (Local s) x xs e = absurd (cc)
followed-last (Integer i) x xs e = absurd (cc)
followed-last (Str s) x xs e = absurd (cc)
followed-last (Mark b) x xs e = absurd (cc)
followed-last LessEqual x xs e = absurd (cc)

pub followed-on : {A : Type 0} (t : Token) (x : A) (xs : List A) → is_last t ≡ false → followed t x xs ≡ x ∷ xs
followed-on End x xs e = absurd (cc)
followed-on Bad x xs e = absurd (cc)
followed-on (Directive s) x xs e = refl
followed-on (Word s) x xs e = refl
followed-on (Local s) x xs e = refl
followed-on (Integer i) x xs e = refl
followed-on (Str s) x xs e = refl
followed-on (Mark b) x xs e = refl
followed-on LessEqual x xs e = refl

is_last-of : (k : TokenKind) (bs : List ℕ) → is_last (token_of k bs) ≡ is_end k
is_last-of kinds.Directive bs = refl
is_last-of kinds.Word bs = refl
is_last-of kinds.Local bs = refl
is_last-of (kinds.Integer i) bs = refl
is_last-of kinds.Str bs = refl
is_last-of (kinds.Mark b) bs = refl
is_last-of kinds.LessEqual bs = refl
is_last-of kinds.End bs = refl

record Moves (r : List ℕ) (s : Scanned) : Type 0 where
  pub there : 0 < length r
  pub moves : 0 < length_in s

scanned-moves : (r : List ℕ) (s : Scanned) → scan r ≡ s → is_last (token_in s r) ≡ false → Moves r s
scanned-moves [] s e f = absurd (let g : is_last (token_in (scan []) []) ≡ false = rw e f in let h : true ≡ false = rw scan-end at g in (cc))
scanned-moves (b ∷ bs) None e f = absurd (cc)
scanned-moves (b ∷ bs) (Some (k, n)) e f = record { there = omega arith; moves = (rw e at (scan-grows b bs)).grown.0 }

shorter : (bytes : List ℕ) → is_last (first bytes) ≡ false → length (drop (past_first bytes) bytes) < length bytes
shorter bytes e =
    let m = scanned-moves (drop (gap bytes) bytes) (scan (drop (gap bytes) bytes)) refl e in
    omega (arith, m.there, m.moves, length-drop (gap bytes) bytes, length-drop (past_first bytes) bytes)

-- the number given for a bound doesn't matter
tokens-bound : (k j : ℕ) (bytes : List ℕ) → length bytes < k → length bytes < j → tokens_within k bytes ≡ tokens_within j bytes
tokens-bound zero j bytes h i = absurd (omega arith)
tokens-bound (suc k) zero bytes h i = absurd (omega arith)
tokens-bound (suc k) (suc j) bytes h i =
    split (is_last (first bytes))
    (λ e. followed-last (first bytes) (first bytes) _ e ∙ sym (followed-last (first bytes) (first bytes) _ e))
    (λ e. let less = shorter bytes e in
    ap (λ z. followed (first bytes) (first bytes) z) (tokens-bound k j (drop (past_first bytes) bytes) (omega arith) (omega arith)))

places-bound : (k j at : ℕ) (bytes : List ℕ) → length bytes < k → length bytes < j → places_within k at bytes ≡ places_within j at bytes
places-bound zero j at bytes h i = absurd (omega arith)
places-bound (suc k) zero at bytes h i = absurd (omega arith)
places-bound (suc k) (suc j) at bytes h i =
    split (is_last (first bytes))
    (λ e. followed-last (first bytes) (at + gap bytes) _ e ∙ sym (followed-last (first bytes) (at + gap bytes) _ e))
    (λ e. let less = shorter bytes e in
    ap (λ z. followed (first bytes) (at + gap bytes) z) (places-bound k j (at + past_first bytes) (drop (past_first bytes) bytes) (omega arith) (omega arith)))

pub tokens-last : (bytes : List ℕ) → is_last (first bytes) ≡ true → tokens bytes ≡ first bytes ∷ []
unfolding tokens
tokens-last bytes e = followed-last (first bytes) (first bytes) _ e

pub tokens-on : (bytes : List ℕ) → is_last (first bytes) ≡ false → tokens bytes ≡ first bytes ∷ tokens (drop (past_first bytes) bytes)
unfolding tokens
tokens-on bytes e =
    let less = shorter bytes e in
    followed-on (first bytes) (first bytes) _ e
    ∙ ap (λ z. first bytes ∷ z) (tokens-bound (length bytes) (suc (length (drop (past_first bytes) bytes))) (drop (past_first bytes) bytes) less (omega arith))

places-last : (at : ℕ) (bytes : List ℕ) → is_last (first bytes) ≡ true → places at bytes ≡ (at + gap bytes) ∷ []
unfolding places
places-last at bytes e = followed-last (first bytes) (at + gap bytes) _ e

places-on : (at : ℕ) (bytes : List ℕ) → is_last (first bytes) ≡ false → places at bytes ≡ (at + gap bytes) ∷ places (at + past_first bytes) (drop (past_first bytes) bytes)
unfolding places
places-on at bytes e =
    let less = shorter bytes e in
    followed-on (first bytes) (at + gap bytes) _ e
    ∙ ap (λ z. (at + gap bytes) ∷ z) (places-bound (length bytes) (suc (length (drop (past_first bytes) bytes))) (at + past_first bytes) (drop (past_first bytes) bytes) less (omega arith))

behind-on : {A : Type 0} (x y : A) (xs : List A) → behind (x ∷ y ∷ xs) ≡ y ∷ xs
behind-on x y xs = refl

pub tokens-front : (bytes : List ℕ) → front (tokens bytes) ≡ first bytes
tokens-front bytes = split (is_last (first bytes)) (λ e. ap front (tokens-last bytes e)) (λ e. ap front (tokens-on bytes e))

pub tokens-behind-on : (bytes : List ℕ) → is_last (first bytes) ≡ false → behind (tokens bytes) ≡ tokens (drop (past_first bytes) bytes)
tokens-behind-on bytes e =
    let r = drop (past_first bytes) bytes in
    split (is_last (first r))
    (λ f. ap behind (tokens-on bytes e ∙ ap (λ z. first bytes ∷ z) (tokens-last r f)) ∙ sym (tokens-last r f))
    (λ f. ap behind (tokens-on bytes e ∙ ap (λ z. first bytes ∷ z) (tokens-on r f)) ∙ sym (tokens-on r f))

places-behind-on : (at : ℕ) (bytes : List ℕ) → is_last (first bytes) ≡ false → behind (places at bytes) ≡ places (at + past_first bytes) (drop (past_first bytes) bytes)
places-behind-on at bytes e =
    let r = drop (past_first bytes) bytes in
    let p = at + past_first bytes in
    split (is_last (first r))
    (λ f. ap behind (places-on at bytes e ∙ ap (λ z. (at + gap bytes) ∷ z) (places-last p r f)) ∙ sym (places-last p r f))
    (λ f. ap behind (places-on at bytes e ∙ ap (λ z. (at + gap bytes) ∷ z) (places-on p r f)) ∙ sym (places-on p r f))

-- the end comes at the end alone
end-there : (r : List ℕ) (k : TokenKind) (n : ℕ) → scan r ≡ Some (k, n) → is_end k ≡ true → r ≡ []
end-there [] k n e f = refl
end-there (b ∷ bs) k n e f = absurd (let g = (rw e at (scan-grows b bs)).grown.1 in (cc))

-- a token stands at the front, and the lexer has gone behind it
pub record Taken (text : List ℕ) (at start : ℕ) (k : TokenKind) (n : ℕ) : Type 0 where
  pub front_is : front (left (record { text = text; at = at })) ≡ meaning text (record { kind = k; start = start; end = start + n })
  pub behind_is : left (record { text = text; at = start + n }) ≡ behind (left (record { text = text; at = at }))
  pub place_is : front_place (left_places (record { text = text; at = at })) ≡ start
  pub places_behind : left_places (record { text = text; at = start + n }) ≡ behind (left_places (record { text = text; at = at }))

record Found (text : List ℕ) (at start : ℕ) (k : TokenKind) (n : ℕ) : Type 0 where
  pub rest : drop (gap (drop at text)) (drop at text) ≡ drop start text
  pub token : first (drop at text) ≡ token_of k (take n (drop start text))
  pub past : past_first (drop at text) ≡ gap (drop at text) + n
  pub new : drop (start + n) text ≡ drop (past_first (drop at text)) (drop at text)

found : (text : List ℕ) (at start : ℕ) (k : TokenKind) (n : ℕ) → start ≡ at + gap (drop at text) → scan (drop start text) ≡ Some (k, n) → Found text at start k n
found text at start k n s e =
    let g = gap (drop at text) in
    let r : drop g (drop at text) ≡ drop start text = drop-drop g at text ∙ ap (λ z. drop z text) (sym s) in
    let t : scan (drop g (drop at text)) ≡ Some (k, n) = ap scan r ∙ e in
    let p : past_first (drop at text) ≡ g + n = ap (λ z. g + length_in z) t in
    record {
      rest = r;
      token = ap (λ z. token_in z (drop g (drop at text))) t ∙ ap (λ z. token_of k (take n z)) r;
      past = p;
      new = sym (drop-drop (past_first (drop at text)) at text ∙ ap (λ z. drop z text) (omega arith));
    }

place-front : (at : ℕ) (bytes : List ℕ) → front_place (places at bytes) ≡ at + gap bytes
place-front at bytes = split (is_last (first bytes)) (λ e. ap front_place (places-last at bytes e)) (λ e. ap front_place (places-on at bytes e))

pub tokens-nil : tokens [] ≡ End ∷ []
tokens-nil = tokens-last [] (ap (λ z. is_last (token_in z [])) scan-end) ∙ ap (λ z. token_in z [] ∷ []) scan-end

places-nil : (at : ℕ) → places at [] ≡ at ∷ []
places-nil at = places-last at [] (ap (λ z. is_last (token_in z [])) scan-end) ∙ ap (λ z. z ∷ []) (omega arith)

record Behind (text : List ℕ) (at new : ℕ) : Type 0 where
  pub tokens_left : left (record { text = text; at = new }) ≡ behind (left (record { text = text; at = at }))
  pub places_left : left_places (record { text = text; at = new }) ≡ behind (left_places (record { text = text; at = at }))

behind-on-token : (text : List ℕ) (at start : ℕ) (k : TokenKind) (n : ℕ) → start ≡ at + gap (drop at text) → Found text at start k n → is_end k ≡ false → Behind text at (start + n)
behind-on-token text at start k n s w e =
    let f : is_last (first (drop at text)) ≡ false = ap is_last w.token ∙ is_last-of k (take n (drop start text)) ∙ e in
    let q : start + n ≡ at + past_first (drop at text) = omega (arith, w.past) in
    record {
      tokens_left = ap tokens w.new ∙ sym (tokens-behind-on (drop at text) f);
      places_left = ap (λ z. places z (drop (start + n) text)) q ∙ ap (places (at + past_first (drop at text))) w.new ∙ sym (places-behind-on at (drop at text) f);
    }

behind-end : (text : List ℕ) (at start : ℕ) (k : TokenKind) (n : ℕ) → start ≡ at + gap (drop at text) → scan (drop start text) ≡ Some (k, n) → Found text at start k n → is_end k ≡ true → Behind text at (start + n)
behind-end text at start k n s h w e =
    let f : is_last (first (drop at text)) ≡ true = ap is_last w.token ∙ is_last-of k (take n (drop start text)) ∙ e in
    let r : drop start text ≡ [] = end-there (drop start text) k n h e in
    let no : 0 ≡ n = ap length_in (sym scan-end ∙ ap scan (sym r) ∙ h) in
    let d : drop (start + n) text ≡ [] = ap (λ m. drop m text) (omega arith) ∙ r in
    let t : first (drop at text) ≡ End = ap (λ m. token_in (scan m) m) (w.rest ∙ r) ∙ ap (λ m. token_in m []) scan-end in
    record {
      tokens_left = ap tokens d ∙ tokens-nil ∙ ap (λ m. m ∷ []) (sym t) ∙ ap behind (sym (tokens-last (drop at text) f));
      places_left = ap (places (start + n)) d ∙ places-nil (start + n) ∙ ap (λ m. m ∷ []) (omega arith) ∙ ap behind (sym (places-last at (drop at text) f));
    }

pub taken : (text : List ℕ) (at start : ℕ) (k : TokenKind) (n : ℕ) → start ≡ at + gap (drop at text) → scan (drop start text) ≡ Some (k, n) → Taken text at start k n
taken text at start k n s h =
    let w = found text at start k n s h in
    let b : Behind text at (start + n) = split (is_end k) (λ e. behind-end text at start k n s h w e) (λ e. behind-on-token text at start k n s w e) in
    record {
      front_is = tokens-front (drop at text) ∙ w.token ∙ ap (λ m. token_of k (take m (drop start text))) (omega arith);
      behind_is = b.tokens_left;
      place_is = place-front at (drop at text) ∙ sym s;
      places_behind = b.places_left;
    }

-- what the lexer has seen: how long the gap is, and what was scanned behind it
pub record Seen (text : List ℕ) (at g : ℕ) (s : Scanned) : Type 0 where
  pub gap_is : g ≡ gap (drop at text)
  pub scan_is : scan (drop (at + g) text) ≡ s

pub seen : (text : List ℕ) (at g : ℕ) (r s : Scanned) → g ≡ gap (take (length text - at) (drop at text)) → r ≡ scan (take (length text - (at + g)) (drop (at + g) text)) → r ≡ s
    → Seen text at g s
seen text at g r s e h i = record {
  gap_is = e ∙ ap gap (take_rest text at);
  scan_is = ap scan (sym (take_rest text (at + g))) ∙ sym h ∙ i;
}

pub seen-taken : (text : List ℕ) (at g : ℕ) (k : TokenKind) (n : ℕ) → Seen text at g (Some (k, n)) → Taken text at (at + g) k n
seen-taken text at g k n w = taken text at (at + g) k n (ap (λ z. at + z) w.gap_is) w.scan_is

-- no token begins there
pub record Fails (text : List ℕ) (at start : ℕ) : Type 0 where
  pub front_is : front (left (record { text = text; at = at })) ≡ Bad
  pub place_is : front_place (left_places (record { text = text; at = at })) ≡ start

pub seen-fails : (text : List ℕ) (at g : ℕ) → Seen text at g None → Fails text at (at + g)
seen-fails text at g w =
    let h = gap (drop at text) in
    let s : at + g ≡ at + h = ap (λ z. at + z) w.gap_is in
    let r : drop h (drop at text) ≡ drop (at + g) text = drop-drop h at text ∙ ap (λ z. drop z text) (sym s) in
    record {
      front_is = tokens-front (drop at text) ∙ ap (λ z. token_in (scan z) z) r ∙ ap (λ z. token_in z (drop (at + g) text)) w.scan_is;
      place_is = place-front at (drop at text) ∙ sym s;
    }

pub seen-longest : (text : List ℕ) (at g : ℕ) (k : TokenKind) (n : ℕ) → Seen text at g (Some (k, n)) → IsTokenAt (drop (at + g) text) k (at + g + n - (at + g))
seen-longest text at g k n w =
    let m : n ≡ at + g + n - (at + g) = omega arith in
    subst (λ (z : ℕ). IsTokenAt (drop (at + g) text) k z) m (scan-some (drop (at + g) text) k n w.scan_is)

pub seen-nothing : (text : List ℕ) (at g : ℕ) → Seen text at g None → NoToken (drop (at + g) text)
seen-nothing text at g w = scan-nothing (drop (at + g) text) w.scan_is
