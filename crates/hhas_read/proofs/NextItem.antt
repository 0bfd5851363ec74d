-- What is left of a block, by its next token.
use Rattle.std.proofs.Common.{◌≡◌, ℕ, Bool, true, false, List, [], ◌∷◌, ◌++◌, refl, sym, ap, ◌∙◌, append_assoc, codes, subst}
use Rattle.hhas_lex.specs.Tokens.{Token, Directive, Word, Mark, front}
use Rattle.hhbc_repo.specs.declared.parts.ItemParts.{ItemParts}
use Rattle.hhbc_repo.specs.declared.parts.ItemParts.TheVariants as parts
use Rattle.hhbc_repo.specs.declared.parts.PositionParts.{PositionParts}
use Rattle.hhbc_repo.specs.BodySyntax as body
use Rattle.hhbc_repo.specs.BodySyntax.{APosition, Items, ItemsOf, has_code, parts_of}
use Rattle.hhbc_repo.specs.CodeSyntax.{ALabel, is_reserved}
use Rattle.hhbc_repo.specs.Languages.{Lang, Both, Ended}
use Rattle.hhas_read.specs.Reading.{any}
use Rattle.hhas_read.specs.Written.{ends_type}
use Rattle.hhas_read.proofs.Joining.{LeadsOn}
use Rattle.hhas_read.proofs.Nesting.{Begins, Block, Braced, at_brace, brace, no_directive, no_word, other_word, type_ends}
use Rattle.hhas_read.proofs.Resuming.{Resumes}

-- a label and its colon
abbrev pub ALabelled : Lang (List ℕ)
ALabelled = Ended ALabel (Mark 58 ∷ [])

module _ (needed : Bool) (K : Lang (List ItemParts)) (braced : Braced K) where
  -- the first token of a block
  pub block_begins : (ts : List Token) (xs : List ItemParts) (x : List Token) → (b : Block needed K ts xs) → Begins b.nested brace (front (ts ++ x))
  block_begins ts xs x b =
      subst (λ l. Begins b.nested brace (front l)) (sym (append_assoc b.first b.rest x) ∙ ap (λ l. l ++ x) (sym b.tokens))
      (at_brace b.nested b.first (b.rest ++ x) b.word (braced b.rest b.more x b.behind))

  pub leads_on : LeadsOn any (Block needed K) ends_type
  leads_on ts xs x b o = type_ends b.nested (front (ts ++ x)) (block_begins ts xs x b)

  -- a label is next
  pub label_next : (w : List ℕ) (left : List Token) → front left ≡ Word w → is_reserved w ≡ false
      → Resumes any (Block needed K) [] (Both ALabelled (Block needed K)) (λ p. parts.Label p.0 ∷ p.1) left
  label_next w left is free = record {
    on = λ ts u m. record {
      nested = body.Label u.0 m.right.nested;
      first = Word u.0 ∷ Mark 58 ∷ m.right.first;
      rest = m.right.rest;
      more = m.right.more;
      word = (m.left.word.1, (m.right.first, m.right.word, refl));
      code = m.right.code;
      behind = m.right.behind;
      tokens = m.tokens ∙ ap (λ l. l ++ m.second) (m.left.tokens ∙ ap (λ l. l ++ (Mark 58 ∷ [])) m.left.word.0) ∙ ap (λ l. Word u.0 ∷ Mark 58 ∷ l) m.right.tokens;
      told = ap (λ l. parts.Label u.0 ∷ l) m.right.told;
    };
    back = λ v xs x y b o h e. back b.nested b.first b.rest b.more v xs b.word b.code b.behind b.tokens b.told (front (v ++ x)) (block_begins v xs x b) (ap front e ∙ h ∙ is);
  }
    where
      back : (i : Items) (first rest : List Token) (more : List ItemParts) (v : List Token) (xs : List ItemParts) → ItemsOf first i → (needed ≡ true → has_code i ≡ true) → K rest more
          → v ≡ first ++ rest → xs ≡ parts_of i ++ more → (t : Token) → Begins i brace t → t ≡ Word w
          → (ts : List Token) × (u : List ℕ × List ItemParts) × Both ALabelled (Block needed K) ts u × (v ≡ ts) × (xs ≡ parts.Label u.0 ∷ u.1)
      back body.Done first rest more v xs n c k e f t h is = absurd (no_word 125 w (sym h ∙ is))
      back (body.Label z r) first rest more v xs n c k e f t h is = (
        v,
        (z, parts_of r ++ more),
        record {
          first = Word z ∷ Mark 58 ∷ [];
          second = n.1.0 ++ rest;
          left = record { first = Word z ∷ []; word = (refl, n.0); tokens = refl };
          right = record { nested = r; first = n.1.0; rest = rest; more = more; word = n.1.1; code = c; behind = k; tokens = refl; told = refl };
          tokens = e ∙ ap (λ l. l ++ rest) n.1.2;
        },
        refl,
        f,
      )
      back (body.Position p r) first rest more v xs n c k e f t h is = absurd (other_word h.0 w h.2 free (sym h.1 ∙ is))
      back (body.Try a b r) first rest more v xs n c k e f t h is = absurd (no_directive (codes "try") w (sym h ∙ is))

  -- a position is next
  pub position_next : (w : List ℕ) (left : List Token) → front left ≡ Word w → is_reserved w ≡ true
      → Resumes any (Block needed K) [] (Both APosition (Block false K)) (λ p. parts.Position p.0 ∷ p.1) left
  position_next w left is taken = record {
    on = λ ts u m. record {
      nested = body.Position u.0 m.right.nested;
      first = m.first ++ m.right.first;
      rest = m.right.rest;
      more = m.right.more;
      word = (m.first, m.right.first, m.left, m.right.word, refl);
      code = λ e. refl;
      behind = m.right.behind;
      tokens = m.tokens ∙ ap (λ l. m.first ++ l) m.right.tokens ∙ sym (append_assoc m.first m.right.first m.right.rest);
      told = ap (λ l. parts.Position u.0 ∷ l) m.right.told;
    };
    back = λ v xs x y b o h e. back b.nested b.first b.rest b.more v xs b.word b.behind b.tokens b.told (front (v ++ x)) (block_begins v xs x b) (ap front e ∙ h ∙ is);
  }
    where
      back : (i : Items) (first rest : List Token) (more : List ItemParts) (v : List Token) (xs : List ItemParts) → ItemsOf first i → K rest more
          → v ≡ first ++ rest → xs ≡ parts_of i ++ more → (t : Token) → Begins i brace t → t ≡ Word w
          → (ts : List Token) × (u : PositionParts × List ItemParts) × Both APosition (Block false K) ts u × (v ≡ ts) × (xs ≡ parts.Position u.0 ∷ u.1)
      back body.Done first rest more v xs n k e f t h is = absurd (no_word 125 w (sym h ∙ is))
      back (body.Label z r) first rest more v xs n k e f t h is = absurd (other_word w z taken h.1 (sym is ∙ h.0))
      back (body.Position p r) first rest more v xs n k e f t h is = (
        v,
        (p, parts_of r ++ more),
        record {
          first = n.0;
          second = n.1 ++ rest;
          left = n.2;
          right = record { nested = r; first = n.1; rest = rest; more = more; word = n.3; code = λ d. absurd (cc d); behind = k; tokens = refl; told = refl };
          tokens = e ∙ ap (λ l. l ++ rest) n.4 ∙ append_assoc n.0 n.1 rest;
        },
        refl,
        f,
      )
      back (body.Try a b r) first rest more v xs n k e f t h is = absurd (no_directive (codes "try") w (sym h ∙ is))

  -- neither a word nor a try is next
  pub ends_block : (left : List Token) → ((w : List ℕ) → front left ≡ Word w → ⊥) → (front left ≡ Directive (codes "try") → ⊥)
      → (ts : List Token) (xs : List ItemParts) (x y : List Token) → Block needed K ts xs → front y ≡ front left → ts ++ x ≡ y → (needed ≡ false) × K ts xs
  ends_block left other no_try ts xs x y b h e = go b.nested b.first b.rest b.more b.word b.code b.behind b.tokens b.told (front (ts ++ x)) (block_begins ts xs x b) (ap front e ∙ h)
    where
      lacks : (n : Bool) → (n ≡ true → false ≡ true) → n ≡ false
      lacks false c = refl
      lacks true c = sym (c refl)

      go : (i : Items) (first rest : List Token) (more : List ItemParts) → ItemsOf first i → (needed ≡ true → has_code i ≡ true) → K rest more → ts ≡ first ++ rest → xs ≡ parts_of i ++ more
          → (t : Token) → Begins i brace t → t ≡ front left → (needed ≡ false) × K ts xs
      go body.Done first rest more n c k e f t g is =
          (lacks needed c, subst (λ l. K l xs) (sym (e ∙ ap (λ l. l ++ rest) n)) (subst (λ l. K rest l) (sym f) k))
      go (body.Label z r) first rest more n c k e f t g is = absurd (other z (sym is ∙ g.0))
      go (body.Position p r) first rest more n c k e f t g is = absurd (other g.0 (sym is ∙ g.1))
      go (body.Try a b r) first rest more n c k e f t g is = absurd (no_try (sym is ∙ g))
