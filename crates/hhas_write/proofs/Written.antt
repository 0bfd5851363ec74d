-- Texts of lists of tokens.
use Rattle.std.proofs.lemmas.List.{flat_map_more, take_all, take_more}
use Rattle.std.proofs.Common.{◌≡◌, ◌≤◌, take, length, ℕ, zero, suc, ◌+◌, List, [], ◌∷◌, ◌++◌, map, refl, sym, ap, ◌∙◌, append_assoc, add-one, ◌<◌, get_or}
use Rattle.std.specs.List.{flat_map}
use Rattle.hhas_lex.specs.Spaced.{Spaced, spaced_text, text_of}
use Rattle.hhas_lex.specs.Spelling.{spelling}
use Rattle.hhas_lex.specs.Tokens.{Token}
use Rattle.hhbc_repo.specs.CanonicalText.{indent, tight}

pub text_append : (xs ys : List Spaced) → text_of (xs ++ ys) ≡ text_of xs ++ text_of ys
text_append [] ys = refl
text_append (x ∷ xs) ys = ap (λ l. spaced_text x ++ l) (text_append xs ys) ∙ sym (append_assoc (spaced_text x) (text_of xs) (text_of ys))

-- of each item of a list, in other words, one after the other
pub mapped_text : {A B : Type 0} (f : B → List Spaced) (g : A → B) (xs : List A) → text_of (flat_map f (map g xs)) ≡ flat_map (λ x. text_of (f (g x))) xs
mapped_text f g [] = refl
mapped_text f g (x ∷ xs) = text_append (f (g x)) (flat_map f (map g xs)) ∙ ap (λ l. text_of (f (g x)) ++ l) (mapped_text f g xs)

-- of each item of a list, one after the other
pub listed_text : {A : Type 0} (f : A → List Spaced) (xs : List A) → text_of (flat_map f xs) ≡ flat_map (λ x. text_of (f x)) xs
listed_text f [] = refl
listed_text f (x ∷ xs) = text_append (f x) (flat_map f xs) ∙ ap (λ l. text_of (f x) ++ l) (listed_text f xs)

-- one token for each item
pub single_text : {A B : Type 0} (f : B → Spaced) (g : A → B) (xs : List A) → text_of (map f (map g xs)) ≡ flat_map (λ x. spaced_text (f (g x))) xs
single_text f g [] = refl
single_text f g (x ∷ xs) = ap (λ l. spaced_text (f (g x)) ++ l) (single_text f g xs)

-- tokens without space between them
pub tight_text : (ts : List Token) → text_of (map tight ts) ≡ flat_map spelling ts
tight_text [] = refl
tight_text (t ∷ ts) = ap (λ l. spelling t ++ l) (tight_text ts)

indent_suc : (n : ℕ) → indent (suc n) ≡ indent n ++ 32 ∷ 32 ∷ []
indent_suc zero = refl
indent_suc (suc n) = ap (λ l. 32 ∷ 32 ∷ l) (indent_suc n)

pub indent_more : (n : ℕ) → indent (n + 1) ≡ indent n ++ 32 ∷ 32 ∷ []
indent_more n = rw add-one (indent_suc n)

-- ---- what a loop over a list has written in the end

pub written_mapped : {A B : Type 0} (f : B → List Spaced) (g : A → B) (xs : List A) (i : ℕ) (old out : List ℕ)
    → out ≡ old ++ flat_map (λ x. text_of (f (g x))) (take i xs) → length xs ≤ i → out ≡ old ++ text_of (flat_map f (map g xs))
written_mapped f g xs i old out h k =
    h ∙ (ap (λ l. old ++ flat_map (λ x. text_of (f (g x))) l) (take_all i xs k) ∙ ap (λ l. old ++ l) (sym (mapped_text f g xs)))

pub written_listed : {A : Type 0} (f : A → List Spaced) (xs : List A) (i : ℕ) (old out : List ℕ)
    → out ≡ old ++ flat_map (λ x. text_of (f x)) (take i xs) → length xs ≤ i → out ≡ old ++ text_of (flat_map f xs)
written_listed f xs i old out h k =
    h ∙ (ap (λ l. old ++ flat_map (λ x. text_of (f x)) l) (take_all i xs k) ∙ ap (λ l. old ++ l) (sym (listed_text f xs)))

pub written_single : {A B : Type 0} (f : B → Spaced) (g : A → B) (xs : List A) (i : ℕ) (old out : List ℕ)
    → out ≡ old ++ flat_map (λ x. spaced_text (f (g x))) (take i xs) → length xs ≤ i → out ≡ old ++ text_of (map f (map g xs))
written_single f g xs i old out h k =
    h ∙ (ap (λ l. old ++ flat_map (λ x. spaced_text (f (g x))) l) (take_all i xs k) ∙ ap (λ l. old ++ l) (sym (single_text f g xs)))

-- ---- a step of such a loop

pub written_more : {A : Type 0} (f : A → List ℕ) (xs : List A) (i : ℕ) (x : A) (old out new : List ℕ)
    → out ≡ old ++ flat_map f (take i xs) → i < length xs → x ≡ get_or xs i x → new ≡ out ++ f x → new ≡ old ++ flat_map f (take (i + 1) xs)
written_more f xs i x old out new h k is e =
    let more = take_more xs i x k ∙ ap (λ y. take i xs ++ y ∷ []) (sym is) in
    e ∙ (ap (λ l. l ++ f x) h ∙ (flat_map_more f old (take i xs) x ∙ ap (λ ys. old ++ flat_map f ys) (sym more)))

-- ---- pieces one after the other

pub two_written : (a b : List Spaced) (old one new : List ℕ) → one ≡ old ++ text_of a → new ≡ one ++ text_of b → new ≡ old ++ text_of (a ++ b)
two_written a b old one new x y =
    y ∙ (ap (λ l. l ++ text_of b) x ∙ (append_assoc old (text_of a) (text_of b) ∙ ap (λ l. old ++ l) (sym (text_append a b))))

pub three_written : (a b c : List Spaced) (old one two new : List ℕ) → one ≡ old ++ text_of a → two ≡ one ++ text_of b → new ≡ two ++ text_of c
    → new ≡ old ++ text_of (a ++ (b ++ c))
three_written a b c old one two new x y z = two_written a (b ++ c) old one new x (two_written b c one two new y z)
