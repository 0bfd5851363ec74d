-- Tokens that stand between marks without white space, and are told apart there.
use Rattle.std.proofs.Common.{◌≡◌, ℕ, true, Bool, ◌&&◌, List, [], ◌∷◌, ◌++◌, map, refl, sym, subst, append_assoc}
use Rattle.std.specs.List.{flat_map}
use Rattle.std.proofs.lemmas.Bool.{and_from}
use Rattle.std.proofs.lemmas.List.{append-nil}
use Rattle.hhas_lex.specs.Bytes.{is_mark}
use Rattle.hhas_lex.specs.Spaced.{is_clear}
use Rattle.hhas_lex.specs.Spelling.{is_proper, is_word, touches}
use Rattle.hhas_lex.specs.Tokens.{Token, Word, Mark}
use Rattle.hhbc_repo.specs.CanonicalText.{tight, barred}

-- proper tokens without white space, told apart behind a token
abbrev pub touching : Token → List Token → Bool
touching t ts = is_clear t (map tight ts)

-- each word may stand directly behind the token
abbrev pub BeforeWord : Token → Type 0
BeforeWord t = (w : List ℕ) → touches t (Word w) ≡ true

-- so may each mark
abbrev pub BeforeMark : Token → Type 0
BeforeMark t = (m : ℕ) → touches t (Mark m) ≡ true

-- tokens that may stand behind each token behind which a mark may stand
pub record Closing (more : List Token) : Type 0 where
  pub clear : (t : Token) → BeforeMark t → touching t more ≡ true

-- tokens that may stand behind each token behind which a word may stand, and before those that close
pub record Inner (ts : List Token) : Type 0 where
  pub clear : (t : Token) (more : List Token) → BeforeWord t → Closing more → touching t (ts ++ more) ≡ true

pub closing_none : Closing []
closing_none = record { clear = λ t b. refl }

pub closing_mark : (m : ℕ) (more : List Token) → is_mark m ≡ true → touching (Mark m) more ≡ true → Closing (Mark m ∷ more)
closing_mark m more h k = record {
  clear = λ t b. and_from (is_mark m) (touches t (Mark m) && touching (Mark m) more) h (and_from (touches t (Mark m)) (touching (Mark m) more) (b m) k);
}

pub inner_word : (w : List ℕ) → is_word w ≡ true → Inner (Word w ∷ [])
inner_word w h = record {
  clear = λ t more b c. and_from (is_word w) (touches t (Word w) && touching (Word w) more) h
      (and_from (touches t (Word w)) (touching (Word w) more) (b w) (c.clear (Word w) (λ m. refl)));
}

-- a word, a sign and a token
pub inner_three : (w : List ℕ) (sign u : Token) → is_word w ≡ true → is_proper sign ≡ true → touches (Word w) sign ≡ true → is_proper u ≡ true
    → touches sign u ≡ true → BeforeMark u → Inner (Word w ∷ sign ∷ u ∷ [])
inner_three w sign u proper_word proper_sign first proper second last = record {
  clear = λ t more b c.
      let rest = touching u more in
      let third = is_proper u && (touches sign u && rest) in
      let after = is_proper sign && (touches (Word w) sign && third) in
      and_from (is_word w) (touches t (Word w) && after) proper_word
      (and_from (touches t (Word w)) after (b w)
      (and_from (is_proper sign) (touches (Word w) sign && third) proper_sign
      (and_from (touches (Word w) sign) third first
      (and_from (is_proper u) (touches sign u && rest) proper
      (and_from (touches sign u) rest second (c.clear u last))))));
}

-- a mark between two
pub inner_both : (m : ℕ) (ts us : List Token) → is_mark m ≡ true → BeforeWord (Mark m) → Inner ts → Inner us → Inner (ts ++ Mark m ∷ us)
inner_both m ts us h b left right = record {
  clear = λ t more before c. subst (λ (l : List Token). touching t l ≡ true) (sym (append_assoc ts (Mark m ∷ us) more))
      (left.clear t (Mark m ∷ (us ++ more)) before (closing_mark m (us ++ more) h (right.clear (Mark m) more b c)));
}

abbrev pub AllInner : List (List Token) → Type 0
AllInner [] = Unit {0}
AllInner (ts ∷ more) = Inner ts × AllInner more

-- bars between them
pub inner_joined : (ts : List Token) (more : List (List Token)) → Inner ts → AllInner more → Inner (ts ++ flat_map barred more)
inner_joined ts [] h k = subst Inner (sym (append-nil ts)) h
inner_joined ts (us ∷ more) h k = inner_both 124 ts (us ++ flat_map barred more) refl (λ w. refl) h (inner_joined us more k.0 k.1)

-- within angle brackets, behind a word
pub inner_bracketed : (w : List ℕ) (ts : List Token) → is_word w ≡ true → Inner ts → Inner (Word w ∷ Mark 60 ∷ (ts ++ Mark 62 ∷ []))
inner_bracketed w ts h inside = record {
  clear = λ t more b c. and_from (is_word w) (touches t (Word w) && touching (Mark 60) ((ts ++ Mark 62 ∷ []) ++ more)) h
      (and_from (touches t (Word w)) (touching (Mark 60) ((ts ++ Mark 62 ∷ []) ++ more)) (b w)
      (subst (λ (l : List Token). touching (Mark 60) l ≡ true) (sym (append_assoc ts (Mark 62 ∷ []) more))
      (inside.clear (Mark 60) (Mark 62 ∷ more) (λ v. refl) (closing_mark 62 more refl (c.clear (Mark 62) (λ m. refl))))));
}
