-- Labels, and switches that fit, are spelled by the tokens of their canonical text.
use Rattle.std.proofs.Common.{◌≡◌, ℕ, Bool, true, false, not, List, [], ◌∷◌, ◌++◌, map, Option, Some, None, refl, sym, ap}
use Rattle.std.specs.List.{list_all}
use Rattle.std.proofs.lemmas.Bool.{and_parts, not-true, false≢true}
use Rattle.hhas_lex.specs.Spelling.{is_word}
use Rattle.hhas_lex.specs.Tokens.{Word, Mark}
use Rattle.hhbc_repo.specs.declared.parts.ArmParts.{ArmParts}
use Rattle.hhbc_repo.specs.Languages.{Behind, Ended, Many}
use Rattle.hhbc_repo.specs.CodeSyntax.{is_reserved, ALabel, AnArm, AStringArm, ADefault, Arms, StringArms}
use Rattle.hhbc_repo.specs.CanonicalText.{tight, label_piece, arms_pieces, arm_token, text_arms_pieces, switch_pieces}
use Rattle.hhbc_repo.specs.Fits.{is_label, has_no_text, has_text, arm_fits, text_arm_fits, arms_fit, text_arms_fit}
use Rattle.hhbc_repo.proofs.Clearing.{tokens_in}
use Rattle.hhbc_repo.proofs.PiecesSpelled.{spelled_behind, pieces_ended}

pub label_spelled : (w : List ℕ) → is_label w ≡ true → ALabel (Word w ∷ []) w
label_spelled w h = (refl, not-true (is_reserved w) (and_parts (is_word w) (not (is_reserved w)) h).1)

textless : (o : Option (List ℕ)) → has_no_text o ≡ true → o ≡ None
textless None h = refl
textless (Some s) h = absurd (false≢true h)

arm_spelled : (a : ArmParts) → arm_fits a ≡ true → AnArm (Word a.target ∷ []) a
arm_spelled a h =
    let x = and_parts (is_label a.target) (has_no_text a.text) h in
    (label_spelled a.target x.0, textless a.text x.1)

labels_spelled : (arms : List ArmParts) → list_all arm_fits arms ≡ true → Many AnArm (tokens_in (map label_piece arms)) arms
labels_spelled [] h = refl
labels_spelled (a ∷ more) h =
    let x = and_parts (arm_fits a) (list_all arm_fits more) h in
    (Word a.target ∷ [], tokens_in (map label_piece more), arm_spelled a x.0, labels_spelled more x.1, refl)

arms_spelled : (arms : List ArmParts) → arms_fit arms ≡ true → Arms (tokens_in (arms_pieces arms)) arms
arms_spelled [] h = absurd (false≢true h)
arms_spelled (a ∷ more) h = labels_spelled (a ∷ more) h

text_arm : (a : ArmParts) (o : Option (List ℕ)) → a.text ≡ o → has_text o ≡ true → is_label a.target ≡ true
    → AStringArm (arm_token a.text ∷ Mark 58 ∷ Word a.target ∷ Mark 44 ∷ []) a
text_arm a None e h l = absurd (false≢true h)
text_arm a (Some s) e h l = (
  s,
  (
    e,
    record {
      rest = Word a.target ∷ Mark 44 ∷ [];
      word = record { first = Word a.target ∷ []; word = label_spelled a.target l; tokens = refl };
      tokens = ap (λ o. arm_token o ∷ Mark 58 ∷ Word a.target ∷ Mark 44 ∷ []) e;
    },
  ),
)

default_arm : (a : ArmParts) → arm_fits a ≡ true → ADefault (arm_token a.text ∷ Mark 58 ∷ Word a.target ∷ []) a
default_arm a h =
    let x = and_parts (is_label a.target) (has_no_text a.text) h in
    let e = textless a.text x.1 in (
      record { rest = Word a.target ∷ []; word = label_spelled a.target x.0; tokens = ap (λ o. arm_token o ∷ Mark 58 ∷ Word a.target ∷ []) e },
      e,
    )

text_arms_spelled : (arms : List ArmParts) → text_arms_fit arms ≡ true → StringArms (tokens_in (text_arms_pieces arms)) arms
text_arms_spelled [] h = absurd (false≢true h)
text_arms_spelled (a ∷ []) h = default_arm a h
text_arms_spelled (a ∷ b ∷ more) h =
    let x = and_parts (text_arm_fits a) (text_arms_fit (b ∷ more)) h in
    let y = and_parts (is_label a.target) (has_text a.text) x.0 in
    (arm_token a.text ∷ Mark 58 ∷ Word a.target ∷ Mark 44 ∷ [], tokens_in (text_arms_pieces (b ∷ more)), text_arm a a.text refl y.1 y.0, text_arms_spelled (b ∷ more) x.1, refl)

-- arms between the marks < and >
pub switch_spelled : (by_text : Bool) (arms : List ArmParts) → by_text ≡ false → arms_fit arms ≡ true
    → Behind (Mark 60 ∷ []) (Ended Arms (Mark 62 ∷ [])) (tokens_in (switch_pieces by_text arms)) arms
switch_spelled true arms b h = absurd (false≢true (sym b))
switch_spelled false arms b h =
    spelled_behind (Mark 60 ∷ []) (tokens_in (arms_pieces arms ++ tight (Mark 62) ∷ [])) (Ended Arms (Mark 62 ∷ [])) arms
    (pieces_ended Arms (arms_pieces arms) (tight (Mark 62) ∷ []) arms (arms_spelled arms h))

pub text_switch_spelled : (by_text : Bool) (arms : List ArmParts) → by_text ≡ true → text_arms_fit arms ≡ true
    → Behind (Mark 60 ∷ []) (Ended StringArms (Mark 62 ∷ [])) (tokens_in (switch_pieces by_text arms)) arms
text_switch_spelled true arms b h =
    spelled_behind (Mark 60 ∷ []) (tokens_in (text_arms_pieces arms ++ tight (Mark 62) ∷ [])) (Ended StringArms (Mark 62 ∷ [])) arms
    (pieces_ended StringArms (text_arms_pieces arms) (tight (Mark 62) ∷ []) arms (text_arms_spelled arms h))
text_switch_spelled false arms b h = absurd (false≢true b)
