-- The items of a body stand apart from what follows their closing brace, and are spelled by one list of tokens each.
use Rattle.std.proofs.Common.{◌≡◌, ℕ, true, false, List, [], ◌∷◌, ◌++◌, refl, sym, ap, ◌∙◌, append_assoc, codes, subst}
use Rattle.std.specs.Str.{bytes_eq}
use Rattle.std.proofs.lemmas.Slice.Eq.{bytes_eq-Decides}
use Rattle.hhas_lex.specs.Tokens.{Token, Directive, Word, Mark, front}
use Rattle.hhbc_repo.specs.declared.parts.ItemParts.{ItemParts}
use Rattle.hhbc_repo.specs.declared.parts.PositionParts.{PositionParts}
use Rattle.hhbc_repo.specs.BodySyntax as body
use Rattle.hhbc_repo.specs.BodySyntax.{AnItemList, Items, ItemsOf, parts_of}
use Rattle.hhbc_repo.specs.Languages.{Ended}
use Rattle.hhas_read.specs.Reading.{any}
use Rattle.hhas_read.specs.Written.{ends_type}
use Rattle.hhas_read.proofs.Joining.{Lawful}
use Rattle.hhas_read.proofs.Nesting.{Begins, at_brace, brace, no_directive, no_mark, no_word, other_word, type_ends}
use Rattle.hhas_read.proofs.NextTry.{all_tokens, opens, try_tokens, turns}
use Rattle.hhas_read.proofs.Reserved.{never_both}
use Rattle.hhas_read.proofs.Resuming.{cancel}
use Rattle.hhas_read.proofs.Said.{same_directive, same_word}
use Rattle.hhas_read.proofs.PositionLaws.{position_law}

-- ---- by their first tokens

-- items of one form
abbrev Alike : Items → Items → Type 0
Alike body.Done body.Done = Unit {0}
Alike (body.Label w r) (body.Label z q) = Unit {0}
Alike (body.Position v r) (body.Position w q) = Unit {0}
Alike (body.Try a b r) (body.Try c d q) = Unit {0}
Alike i j = ⊥

alike : (i j : Items) (t : Token) → Begins i brace t → Begins j brace t → Alike i j
alike body.Done body.Done t m n = tt
alike body.Done (body.Label w r) t m n = no_word 125 w (sym m ∙ n.0)
alike body.Done (body.Position p r) t m n = no_word 125 n.0 (sym m ∙ n.1)
alike body.Done (body.Try a b r) t m n = no_mark (codes "try") 125 (sym n ∙ m)
alike (body.Label w r) body.Done t m n = no_word 125 w (sym n ∙ m.0)
alike (body.Label w r) (body.Label z q) t m n = tt
alike (body.Label w r) (body.Position p q) t m n = other_word n.0 w n.2 m.1 (sym n.1 ∙ m.0)
alike (body.Label w r) (body.Try a b q) t m n = no_directive (codes "try") w (sym n ∙ m.0)
alike (body.Position p r) body.Done t m n = no_word 125 m.0 (sym n ∙ m.1)
alike (body.Position p r) (body.Label w q) t m n = other_word m.0 w m.2 n.1 (sym m.1 ∙ n.0)
alike (body.Position p r) (body.Position v q) t m n = tt
alike (body.Position p r) (body.Try a b q) t m n = no_directive (codes "try") m.0 (sym n ∙ m.1)
alike (body.Try a b r) body.Done t m n = no_mark (codes "try") 125 (sym m ∙ n)
alike (body.Try a b r) (body.Label w q) t m n = no_directive (codes "try") w (sym m ∙ n.0)
alike (body.Try a b r) (body.Position p q) t m n = no_directive (codes "try") n.0 (sym m ∙ n.1)
alike (body.Try a b r) (body.Try c d q) t m n = tt

-- items whose tokens begin alike are of one form
both_alike : (i j : Items) (s t x y : List Token) → ItemsOf s i → ItemsOf t j → front x ≡ brace → front y ≡ brace → s ++ x ≡ t ++ y → Alike i j
both_alike i j s t x y n m g h e =
    alike i j (front (t ++ y)) (subst (λ k. Begins i brace k) (ap front e) (at_brace i s x n g)) (at_brace j t y m h)

-- ---- one value each

after_position : (a b c d x y : List Token) (v w : PositionParts) → body.APosition a v → body.APosition b w → ends_type (front (c ++ x)) ≡ true → ends_type (front (d ++ y)) ≡ true
    → (a ++ c) ++ x ≡ (b ++ d) ++ y → (a ≡ b) × (v ≡ w) × (c ++ x ≡ d ++ y)
after_position a b c d x y v w n m o p e =
    let joined = sym (append_assoc a c x) ∙ e ∙ append_assoc b d y in
    let s = position_law.same a b (c ++ x) (d ++ y) v w n m o p joined in
    (s.0, s.1, cancel b (c ++ x) (d ++ y) (ap (λ l. l ++ (c ++ x)) (sym s.0) ∙ joined))

try_split : (a b r x c d q y s t : List Token) → s ≡ try_tokens a b r → t ≡ try_tokens c d q → s ++ x ≡ t ++ y
    → a ++ (turns ++ (b ++ (brace ∷ (r ++ x)))) ≡ c ++ (turns ++ (d ++ (brace ∷ (q ++ y))))
try_split a b r x c d q y s t n m e =
    cancel opens (a ++ (turns ++ (b ++ (brace ∷ (r ++ x))))) (c ++ (turns ++ (d ++ (brace ∷ (q ++ y)))))
    (all_tokens a b r x ∙ ap (λ l. l ++ x) (sym n) ∙ e ∙ ap (λ l. l ++ y) m ∙ sym (all_tokens c d q y))

-- what stands behind what is the same
behind_same : (words a b x y : List Token) → a ≡ b → a ++ (words ++ x) ≡ b ++ (words ++ y) → x ≡ y
behind_same words a b x y s e = cancel words x y (cancel b (words ++ x) (words ++ y) (ap (λ l. l ++ (words ++ x)) (sym s) ∙ e))

pub items_same : (i j : Items) (s t x y : List Token) → ItemsOf s i → ItemsOf t j → front x ≡ brace → front y ≡ brace → s ++ x ≡ t ++ y → (s ≡ t) × (i ≡ j)
items_same body.Done body.Done s t x y n m g h e = (n ∙ sym m, refl)
items_same (body.Label w r) (body.Label z q) s t x y n m g h e =
    let joined : Word w ∷ Mark 58 ∷ (n.1.0 ++ x) ≡ Word z ∷ Mark 58 ∷ (m.1.0 ++ y) = ap (λ l. l ++ x) (sym n.1.2) ∙ e ∙ ap (λ l. l ++ y) m.1.2 in
    let one : w ≡ z = same_word w z (ap front joined) in
    let more = items_same r q n.1.0 m.1.0 x y n.1.1 m.1.1 g h (cc joined) in
    (n.1.2 ∙ (λ i. Word (one i) ∷ Mark 58 ∷ more.0 i) ∙ sym m.1.2, λ i. body.Label (one i) (more.1 i))
items_same (body.Position v r) (body.Position w q) s t x y n m g h e =
    let one = after_position n.0 m.0 n.1 m.1 x y v w n.2 m.2 (type_ends r (front (n.1 ++ x)) (at_brace r n.1 x n.3 g)) (type_ends q (front (m.1 ++ y)) (at_brace q m.1 y m.3 h)) (ap (λ l. l ++ x) (sym n.4) ∙ e ∙ ap (λ l. l ++ y) m.4) in
    let more = items_same r q n.1 m.1 x y n.3 m.3 g h one.2 in
    (n.4 ∙ (λ i. one.0 i ++ more.0 i) ∙ sym m.4, λ i. body.Position (one.1 i) (more.1 i))
items_same (body.Try a b r) (body.Try c d q) s t x y n m g h e =
    let k = n.2 in let l = m.2 in
    let joined = try_split k.0 k.1 k.2 x l.0 l.1 l.2 y s t k.6 l.6 e in
    let one = items_same a c k.0 l.0 (turns ++ (k.1 ++ (brace ∷ (k.2 ++ x)))) (turns ++ (l.1 ++ (brace ∷ (l.2 ++ y)))) k.3 l.3 refl refl joined in
    let rest = behind_same turns k.0 l.0 (k.1 ++ (brace ∷ (k.2 ++ x))) (l.1 ++ (brace ∷ (l.2 ++ y))) one.0 joined in
    let two = items_same b d k.1 l.1 (brace ∷ (k.2 ++ x)) (brace ∷ (l.2 ++ y)) k.4 l.4 refl refl rest in
    let three = items_same r q k.2 l.2 x y k.5 l.5 g h (behind_same (brace ∷ []) k.1 l.1 (k.2 ++ x) (l.2 ++ y) two.0 rest) in
    (k.6 ∙ (λ i. try_tokens (one.0 i) (two.0 i) (three.0 i)) ∙ sym l.6, λ i. body.Try (one.1 i) (two.1 i) (three.1 i))
items_same i j s t x y n m g h e = absurd (both_alike i j s t x y n m g h e)

pub items_law : Lawful any (Ended AnItemList (Mark 125 ∷ []))
items_law = record {
  same = λ a b x y v w n m o p e.
      let joined = sym (append_assoc n.first (brace ∷ []) x) ∙ ap (λ l. l ++ x) (sym n.tokens) ∙ e ∙ ap (λ l. l ++ y) m.tokens ∙ append_assoc m.first (brace ∷ []) y in
      let s = items_same n.word.nested m.word.nested n.first m.first (brace ∷ x) (brace ∷ y) n.word.word m.word.word refl refl joined in
      (n.tokens ∙ ap (λ l. l ++ (brace ∷ [])) s.0 ∙ sym m.tokens, n.word.parts ∙ ap parts_of s.1 ∙ sym m.word.parts);
  some = record { more = brace ∷ []; value = []; word = record { first = []; word = record { nested = body.Done; word = refl; parts = refl }; tokens = refl }; proper = refl };
}

-- ---- no declarations at their front

no_head : (d : List ℕ) → bytes_eq (codes "try") d ≡ false → (i : Items) (t : Token) → Begins i brace t → t ≡ Directive d → ⊥
no_head d f body.Done t h is = no_mark d 125 (sym is ∙ h)
no_head d f (body.Label w r) t h is = no_directive d w (sym is ∙ h.0)
no_head d f (body.Position p r) t h is = no_directive d h.0 (sym is ∙ h.1)
no_head d f (body.Try a b r) t h is = never_both (sym ((bytes_eq-Decides (codes "try") d).1 (same_directive (codes "try") d (sym h ∙ is))) ∙ f)

pub items_no_head : (w : List Token) (is : List ItemParts) (x : List Token) → Ended AnItemList (Mark 125 ∷ []) w is
    → (front (w ++ x) ≡ Directive (codes "declvars") → ⊥) × (front (w ++ x) ≡ Directive (codes "numiters") → ⊥)
items_no_head w is x n =
    let i = n.word.nested in
    let first : Begins i brace (front (w ++ x)) =
    subst (λ l. Begins i brace (front l)) (sym (append_assoc n.first (brace ∷ []) x) ∙ ap (λ l. l ++ x) (sym n.tokens)) (at_brace i n.first (brace ∷ x) n.word.word refl) in
    (no_head (codes "declvars") refl i (front (w ++ x)) first, no_head (codes "numiters") refl i (front (w ++ x)) first)
