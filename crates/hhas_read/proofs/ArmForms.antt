-- The arms of switches.
use Rattle.std.proofs.Common.{◌≡◌, ℕ, List, [], ◌∷◌, ◌++◌, refl, sym, ap, ◌∙◌, append_assoc, codes, subst, None}
use Rattle.hhas_lex.specs.Tokens.{Token, Word, Mark, front}
use Rattle.hhbc_repo.specs.declared.parts.ArmParts.{ArmParts}
use Rattle.hhbc_repo.specs.Languages.{Lang, Both}
use Rattle.hhbc_repo.specs.CodeSyntax.{ALabel, AnArm}
use Rattle.hhas_read.specs.Arms.{ArmsToEnd}
use Rattle.hhas_read.specs.Reading.{Placed, Past, Taken, Viable, Just, any, next}
use Rattle.hhas_read.proofs.Resuming.{Resumes, past_none, past_on, resumes_same, resumes_then, taken_lifts}
use Rattle.hhas_read.proofs.Joining.{Lawful, both_resumes}
use Rattle.hhas_read.proofs.OneToken.{just_lawful, just_taken}
use Rattle.hhas_read.proofs.Following.{Avoids}
use Rattle.hhas_read.proofs.Said.{same_word}
use Rattle.hhas_read.proofs.Reserved.{a_label}
use Rattle.hhas_read.proofs.Runs.{Run, first_of, run_ends, run_next, run_some}

pub label_lawful : Lawful any ALabel
label_lawful = record {
  same = λ a b x y u w n m o p d.
      let s = same_word u w (ap front (sym (ap (λ l. l ++ x) n.0) ∙ d ∙ ap (λ l. l ++ y) m.0)) in
      (n.0 ∙ ap (λ z. Word z ∷ []) s ∙ sym m.0, s);
  some = record { more = Word (codes "a") ∷ []; value = codes "a"; word = (refl, a_label); proper = refl };
}

-- ---- arms without strings

abbrev pub plain_arm : List ℕ → ArmParts
plain_arm target = record { text = None; target = target }

pub arm_resumes : (left : List Token) → Resumes any AnArm [] ALabel plain_arm left
arm_resumes left = record {
  on = λ ts u m. (m, refl);
  back = λ w v x y n o h e. (w, v.target, n.0, refl, λ i. record { text = n.1 i; target = v.target });
}

pub arm_lawful : Lawful any AnArm
arm_lawful = record {
  same = λ a b x y v w n m o p d.
      let s = label_lawful.same a b x y v.target w.target n.0 m.0 o p d in
      (s.0, λ i. record { text = (n.1 ∙ sym m.1) i; target = s.1 i });
  some = record { more = Word (codes "a") ∷ []; value = plain_arm (codes "a"); word = ((refl, a_label), refl); proper = refl };
}

abbrev pub AngleEnd : Lang (Unit {0})
AngleEnd = Just (Mark 62)

-- arms, none perhaps, and the end
abbrev pub ArmsLeft : Lang (List ArmParts × Unit {0})
ArmsLeft = Run AnArm AngleEnd

pub some_left : Viable ArmsLeft []
some_left = run_some AnArm AngleEnd (just_lawful any (Mark 62) refl).some

abbrev pub all_of : ArmParts × (List ArmParts × Unit {0}) → List ArmParts
all_of p = p.0 ∷ p.1.0

pub arms_resume : (left : List Token) → Resumes any ArmsToEnd [] (Both AnArm ArmsLeft) all_of left
arms_resume left = record { on = λ ts u m. on ts u.0 u.1.0 m; back = λ w v x y n o h e. back w v n }
  where
    on : (ts : List Token) (a : ArmParts) (more : List ArmParts) → Both AnArm ArmsLeft ts (a, (more, tt)) → ArmsToEnd ts (a ∷ more)
    on ts a more m = record {
      first = m.first ++ m.right.first;
      word = (m.first, m.right.first, m.left, m.right.left, refl);
      tokens = m.tokens ∙ ap (λ l. m.first ++ l) (m.right.tokens ∙ ap (λ l. m.right.first ++ l) m.right.right) ∙ sym (append_assoc m.first m.right.first (Mark 62 ∷ []));
    }

    back : (w : List Token) (v : List ArmParts) → ArmsToEnd w v
        → (ts : List Token) × (u : ArmParts × (List ArmParts × Unit {0})) × Both AnArm ArmsLeft ts u × (w ≡ ts) × (v ≡ all_of u)
    back w [] n = absurd n.word
    back w (a ∷ more) n =
        let m = n.word in (
          w,
          (a, (more, tt)),
          record {
            first = m.0;
            second = m.1 ++ (Mark 62 ∷ []);
            left = m.2;
            right = record { first = m.1; second = Mark 62 ∷ []; left = m.3; right = refl; tokens = refl };
            tokens = n.tokens ∙ ap (λ z. z ++ (Mark 62 ∷ [])) m.4 ∙ append_assoc m.0 m.1 (Mark 62 ∷ []);
          },
          refl,
          refl,
        )

-- arms were taken, and one at least is left
abbrev pub ArmNext : Placed → Placed → List ArmParts → Type 0
ArmNext start now arms = (used : List Token) × Past used start now × Resumes any ArmsToEnd used (Both AnArm ArmsLeft) (λ p. arms ++ (p.0 ∷ p.1.0)) now.tokens

pub first_arm : (start : Placed) → ArmNext start start []
first_arm start = ([], past_none start, arms_resume start.tokens)

-- one more was taken
pub arm_taken : (start old mid : Placed) (arms : List ArmParts) (a : ArmParts) → ArmNext start old arms → Taken any AnArm old mid a
    → (used : List Token) × Past used start mid × Resumes any ArmsToEnd used ArmsLeft (λ p. arms ++ (a ∷ p.0)) mid.tokens
arm_taken start old mid arms a inv t = (
  inv.0 ++ t.used,
  past_on inv.1 t.past,
  resumes_then any ArmsToEnd (Both AnArm ArmsLeft) ArmsLeft inv.0 t.used old.tokens mid.tokens (λ p. arms ++ (p.0 ∷ p.1.0)) (λ p. (a, p))
      inv.2 (both_resumes any any AnArm ArmsLeft (λ b v y m o. refl) old mid a arm_lawful t) t.past.tokens,
)

no_end : (t : Token) → (t ≡ Mark 62 → ⊥) → Avoids any AngleEnd t
no_end t other w v x n o e = other (sym e ∙ ap (λ l. front (l ++ x)) n)

no_arm : (t : Token) → t ≡ Mark 62 → Avoids any AnArm t
no_arm t is w v x n o e = absurd (cc (sym is ∙ sym e ∙ ap (λ l. front (l ++ x)) n.0.0))

-- and the end isn't next
pub arm_next : (start old mid : Placed) (arms more : List ArmParts) (a : ArmParts) → ArmNext start old arms → Taken any AnArm old mid a
    → (next mid ≡ Mark 62 → ⊥) → more ≡ arms ++ a ∷ [] → ArmNext start mid more
arm_next start old mid arms more a inv t other pushed =
    let far = arm_taken start old mid arms a inv t in
    let step = resumes_then any ArmsToEnd ArmsLeft (Both AnArm ArmsLeft) far.0 [] mid.tokens mid.tokens (λ p. arms ++ (a ∷ p.0)) (first_of AnArm AngleEnd)
    far.2 (run_next any AnArm AngleEnd mid.tokens (no_end (next mid) other)) refl in (
      far.0 ++ [],
      past_on far.1 (past_none mid),
      resumes_same any ArmsToEnd (Both AnArm ArmsLeft) (far.0 ++ []) mid.tokens (λ p. arms ++ (a ∷ (p.0 ∷ p.1.0))) (λ p. more ++ (p.0 ∷ p.1.0))
          (λ p. sym (ap (λ l. l ++ (p.0 ∷ p.1.0)) pushed ∙ append_assoc arms (a ∷ []) (p.0 ∷ p.1.0))) step,
    )

-- and the end is next
pub arms_end : (start old mid new : Placed) (arms more : List ArmParts) (a : ArmParts) → ArmNext start old arms → Taken any AnArm old mid a
    → next mid ≡ Mark 62 → Past (next mid ∷ []) mid new → more ≡ arms ++ a ∷ [] → Taken any ArmsToEnd start new more
arms_end start old mid new arms more a inv t is past pushed =
    let far = arm_taken start old mid arms a inv t in
    let step = resumes_then any ArmsToEnd ArmsLeft AngleEnd far.0 [] mid.tokens mid.tokens (λ p. arms ++ (a ∷ p.0)) (λ u. ([], u))
    far.2 (run_ends any any AnArm AngleEnd (λ b v x n o. refl) mid.tokens (no_arm (next mid) is)) refl in
    subst (Taken any ArmsToEnd start new) (sym pushed)
    (taken_lifts any ArmsToEnd AngleEnd start mid new (far.0 ++ []) (λ u. arms ++ (a ∷ [])) tt step (past_on far.1 (past_none mid))
    (just_taken any (Mark 62) mid new is past refl))

pub some_arms : Viable ArmsToEnd []
some_arms = record {
  more = Word (codes "a") ∷ Mark 62 ∷ [];
  value = plain_arm (codes "a") ∷ [];
  word = record { first = Word (codes "a") ∷ []; word = (Word (codes "a") ∷ [], [], ((refl, a_label), refl), refl, refl); tokens = refl };
  proper = refl;
}
