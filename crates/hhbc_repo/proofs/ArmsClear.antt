-- The tokens of switches that fit are clear in their canonical text.
use Rattle.std.proofs.Common.{◌≡◌, ℕ, Bool, true, false, not, ◌&&◌, List, [], ◌∷◌, ◌++◌, map, Option, Some, None, refl}
use Rattle.std.specs.List.{list_all, flat_map}
use Rattle.std.proofs.lemmas.Bool.{and_from, and_parts, false≢true}
use Rattle.hhas_lex.specs.Spaced.{Spaced, is_clear}
use Rattle.hhas_lex.specs.Spelling.{is_proper, is_word}
use Rattle.hhas_lex.specs.Tokens.{Word, Str, Mark}
use Rattle.hhbc_repo.specs.declared.parts.ArmParts.{ArmParts}
use Rattle.hhbc_repo.specs.CodeSyntax.{is_reserved}
use Rattle.hhbc_repo.specs.CanonicalText.{tight, label_piece, arms_pieces, arm_token, more_arm, text_arms_pieces, switch_pieces}
use Rattle.hhbc_repo.specs.Fits.{is_label, has_no_text, has_text, arm_fits, text_arm_fits, arms_fit, text_arms_fit}
use Rattle.hhbc_repo.proofs.Clearing.{Clear}
use Rattle.hhbc_repo.proofs.PiecesClear.{spaced_clear}

-- its label is a word, and its string, if there is one, is within its range
abbrev pub arm_proper : ArmParts → Bool
arm_proper a = is_word a.target && is_proper (arm_token a.text)

pub label_word : (w : List ℕ) → is_label w ≡ true → is_word w ≡ true
label_word w h = (and_parts (is_word w) (not (is_reserved w)) h).0

no_text_proper : (o : Option (List ℕ)) → has_no_text o ≡ true → is_proper (arm_token o) ≡ true
no_text_proper None h = refl
no_text_proper (Some s) h = absurd (false≢true h)

text_proper : (o : Option (List ℕ)) → has_text o ≡ true → is_proper (arm_token o) ≡ true
text_proper None h = absurd (false≢true h)
text_proper (Some s) h = h

an_arm : (a : ArmParts) → arm_fits a ≡ true → arm_proper a ≡ true
an_arm a h =
    let x = and_parts (is_label a.target) (has_no_text a.text) h in
    and_from (is_word a.target) (is_proper (arm_token a.text)) (label_word a.target x.0) (no_text_proper a.text x.1)

a_text_arm : (a : ArmParts) → text_arm_fits a ≡ true → arm_proper a ≡ true
a_text_arm a h =
    let x = and_parts (is_label a.target) (has_text a.text) h in
    and_from (is_word a.target) (is_proper (arm_token a.text)) (label_word a.target x.0) (text_proper a.text x.1)

each_arm : (arms : List ArmParts) → list_all arm_fits arms ≡ true → list_all arm_proper arms ≡ true
each_arm [] h = refl
each_arm (a ∷ more) h =
    let x = and_parts (arm_fits a) (list_all arm_fits more) h in
    and_from (arm_proper a) (list_all arm_proper more) (an_arm a x.0) (each_arm more x.1)

pub arms_proper : (arms : List ArmParts) → arms_fit arms ≡ true → list_all arm_proper arms ≡ true
arms_proper [] h = absurd (false≢true h)
arms_proper (a ∷ more) h = each_arm (a ∷ more) h

pub text_arms_proper : (arms : List ArmParts) → text_arms_fit arms ≡ true → list_all arm_proper arms ≡ true
text_arms_proper [] h = absurd (false≢true h)
text_arms_proper (a ∷ []) h = and_from (arm_proper a) true (an_arm a h) refl
text_arms_proper (a ∷ b ∷ more) h =
    let x = and_parts (text_arm_fits a) (text_arms_fit (b ∷ more)) h in
    and_from (arm_proper a) (list_all arm_proper (b ∷ more)) (a_text_arm a x.0) (text_arms_proper (b ∷ more) x.1)

-- the mark > closes arms
abbrev closing : List Spaced
closing = tight (Mark 62) ∷ []

labels_clear : (w : List ℕ) (arms : List ArmParts) → list_all arm_proper arms ≡ true → is_clear (Word w) (map label_piece arms ++ closing) ≡ true
labels_clear w [] h = refl
labels_clear w (a ∷ more) h =
    let x = and_parts (arm_proper a) (list_all arm_proper more) h in
    let y = and_parts (is_word a.target) (is_proper (arm_token a.text)) x.0 in
    spaced_clear (Word a.target) (map label_piece more ++ closing) y.0 (labels_clear a.target more x.1) (Word w)

arms_clear : (arms : List ArmParts) → list_all arm_proper arms ≡ true → is_clear (Mark 60) (arms_pieces arms ++ closing) ≡ true
arms_clear [] h = refl
arms_clear (a ∷ more) h =
    let x = and_parts (arm_proper a) (list_all arm_proper more) h in
    let y = and_parts (is_word a.target) (is_proper (arm_token a.text)) x.0 in
    and_from (is_word a.target) (is_clear (Word a.target) (map label_piece more ++ closing)) y.0 (labels_clear a.target more x.1)

-- what stands behind the string of an arm, or its default
target_clear : (o : Option (List ℕ)) (w : List ℕ) (ss : List Spaced) → is_word w ≡ true → is_clear (Word w) ss ≡ true
    → is_clear (arm_token o) (tight (Mark 58) ∷ tight (Word w) ∷ ss) ≡ true
target_clear None w ss h k = and_from (is_word w) (is_clear (Word w) ss) h k
target_clear (Some s) w ss h k = and_from (is_word w) (is_clear (Word w) ss) h k

more_arms_clear : (w : List ℕ) (arms : List ArmParts) → list_all arm_proper arms ≡ true → is_clear (Word w) (flat_map more_arm arms ++ closing) ≡ true
more_arms_clear w [] h = refl
more_arms_clear w (a ∷ more) h =
    let x = and_parts (arm_proper a) (list_all arm_proper more) h in
    let y = and_parts (is_word a.target) (is_proper (arm_token a.text)) x.0 in
    let behind = flat_map more_arm more ++ closing in
    spaced_clear (arm_token a.text) (tight (Mark 58) ∷ tight (Word a.target) ∷ behind) y.1
    (target_clear a.text a.target behind y.0 (more_arms_clear a.target more x.1)) (Mark 44)

-- a string or the word of the default may stand directly behind the mark <
first_clear : (o : Option (List ℕ)) (ss : List Spaced) → is_proper (arm_token o) ≡ true → is_clear (arm_token o) ss ≡ true → is_clear (Mark 60) (tight (arm_token o) ∷ ss) ≡ true
first_clear None ss h k = k
first_clear (Some s) ss h k = and_from (is_proper (Str s)) (is_clear (Str s) ss) h k

text_arms_clear : (arms : List ArmParts) → list_all arm_proper arms ≡ true → is_clear (Mark 60) (text_arms_pieces arms ++ closing) ≡ true
text_arms_clear [] h = refl
text_arms_clear (a ∷ more) h =
    let x = and_parts (arm_proper a) (list_all arm_proper more) h in
    let y = and_parts (is_word a.target) (is_proper (arm_token a.text)) x.0 in
    let behind = flat_map more_arm more ++ closing in
    first_clear a.text (tight (Mark 58) ∷ tight (Word a.target) ∷ behind) y.1 (target_clear a.text a.target behind y.0 (more_arms_clear a.target more x.1))

pub switch_clear : (by_text : Bool) (arms : List ArmParts) → list_all arm_proper arms ≡ true → Clear (switch_pieces by_text arms)
switch_clear true arms h u = text_arms_clear arms h
switch_clear false arms h u = arms_clear arms h
