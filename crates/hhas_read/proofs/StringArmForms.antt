-- The arms of switches on strings.
use Rattle.std.proofs.Common.{◌≡◌, ℕ, true, ◌&&◌, List, [], ◌∷◌, ◌++◌, refl, sym, ap, ◌∙◌, append_assoc, codes, subst, Some, Err}
use Rattle.hhas_lex.specs.Tokens.{Token, Word, Str, Mark, front}
use Rattle.hhas_lex.specs.Spelling.{is_proper}
use Rattle.hhbc_repo.specs.declared.parts.ArmParts.{ArmParts}
use Rattle.hhbc_repo.specs.Languages.{Lang, Behind, Both, Ended}
use Rattle.hhbc_repo.specs.CodeSyntax.{ALabel, AString, AStringArm}
use Rattle.hhas_read.specs.declared.reader.Stop.{Stop}
use Rattle.hhas_read.specs.Arms.{StringArmsToEnd, TargetTo}
use Rattle.hhas_read.specs.Reading.{Placed, Past, Reads, Taken, Viable, any, next}
use Rattle.hhas_read.proofs.Resuming.{Resumes, past_none, past_on, resumes_same, resumes_then, stop_lifts}
use Rattle.hhas_read.proofs.Joining.{Lawful, behind_lawful, behind_resumes, both_lawful, both_resumes, ended_lawful}
use Rattle.hhas_read.proofs.OneToken.{single_lawful}
use Rattle.hhas_read.proofs.Following.{Avoids}
use Rattle.hhas_read.proofs.Pairs.{first_stops}
use Rattle.hhas_read.proofs.Said.{same_string}
use Rattle.hhas_read.proofs.Reserved.{a_label}
use Rattle.hhas_read.proofs.ArmForms.{label_lawful, plain_arm}
use Rattle.hhas_read.proofs.Runs.{Run, first_of, run_ends, run_next, run_some}

pub target_lawful : (end : ℕ) → is_proper (Mark end) ≡ true → Lawful any (TargetTo end)
target_lawful end e =
    behind_lawful any (Mark 58 ∷ []) (Ended ALabel (Mark end ∷ [])) refl (ended_lawful any any ALabel (Mark end) [] refl (ap (λ c. c && true) e) label_lawful)

pub string_lawful : Lawful any AString
string_lawful = single_lawful Str any [] refl same_string

-- ---- an arm

abbrev pub TextAndTarget : Lang (List ℕ × List ℕ)
TextAndTarget = Both AString (TargetTo 44)

abbrev pub text_arm : List ℕ × List ℕ → ArmParts
text_arm p = record { text = Some p.0; target = p.1 }

pair_lawful : Lawful any TextAndTarget
pair_lawful = both_lawful any any AString (TargetTo 44) (λ b v x n o. refl) string_lawful (target_lawful 44 refl)

pair_of : (w : List Token) (v : ArmParts) → (n : AStringArm w v) → TextAndTarget w (n.0, v.target) × (v ≡ text_arm (n.0, v.target))
pair_of w v n =
    let m = n.1.1 in (
      record { first = Str n.0 ∷ []; second = Mark 58 ∷ m.rest; left = refl; right = record { rest = m.rest; word = m.word; tokens = refl }; tokens = m.tokens },
      λ i. record { text = n.1.0 i; target = v.target },
    )

arm_of : (w : List Token) (p : List ℕ × List ℕ) → TextAndTarget w p → AStringArm w (text_arm p)
arm_of w p m = (p.0, (refl, record { rest = m.right.rest; word = m.right.word; tokens = m.tokens ∙ (λ i. m.left i ++ m.right.tokens i) }))

pub text_resumes : (left : List Token) → Resumes any AStringArm [] TextAndTarget text_arm left
text_resumes left = record {
  on = arm_of;
  back = λ w v x y n o h e. let p = pair_of w v n in (w, (n.0, v.target), p.0, refl, p.1);
}

pub string_arm_lawful : Lawful any AStringArm
string_arm_lawful = record {
  same = λ a b x y v w n m o p d.
      let f = pair_of a v n in let g = pair_of b w m in
      let s = pair_lawful.same a b x y (n.0, v.target) (m.0, w.target) f.0 g.0 o p d in
      (s.0, f.1 ∙ ap text_arm s.1 ∙ sym g.1);
  some = record {
    more = Str [] ∷ Mark 58 ∷ Word (codes "a") ∷ Mark 44 ∷ [];
    value = text_arm ([], codes "a");
    word = ([], (refl, record { rest = Word (codes "a") ∷ Mark 44 ∷ []; word = record { first = Word (codes "a") ∷ []; word = (refl, a_label); tokens = refl }; tokens = refl }));
    proper = refl;
  };
}

-- ---- arms, and the default

-- the default, and the end
abbrev pub Default : Lang (List ℕ)
Default = Behind (Word (codes "default") ∷ []) (TargetTo 62)

abbrev pub Texts : Lang (List ArmParts × List ℕ)
Texts = Run AStringArm Default

some_default : Viable Default []
some_default = record {
  more = Word (codes "default") ∷ Mark 58 ∷ Word (codes "a") ∷ Mark 62 ∷ [];
  value = codes "a";
  word = record {
    rest = Mark 58 ∷ Word (codes "a") ∷ Mark 62 ∷ [];
    word = record { rest = Word (codes "a") ∷ Mark 62 ∷ []; word = record { first = Word (codes "a") ∷ []; word = (refl, a_label); tokens = refl }; tokens = refl };
    tokens = refl;
  };
  proper = refl;
}

pub some_texts : Viable Texts []
some_texts = run_some AStringArm Default some_default

abbrev pub with_default : List ArmParts × List ℕ → List ArmParts
with_default p = p.0 ++ plain_arm p.1 ∷ []

one_more : (a b : List Token) (v : ArmParts) (vs : List ArmParts) → AStringArm a v → StringArmsToEnd b vs → StringArmsToEnd (a ++ b) (v ∷ vs)
one_more a b v [] n m = absurd m.word
one_more a b v (w ∷ ws) n m = record {
  first = a ++ m.first;
  word = (a, m.first, n, m.word, refl);
  tokens = ap (λ l. a ++ l) m.tokens ∙ sym (append_assoc a m.first (Mark 62 ∷ []));
}

texts_on : (ts : List Token) (vs : List ArmParts) (b : List ℕ) → Texts ts (vs, b) → StringArmsToEnd ts (with_default (vs, b))
texts_on ts [] b m =
    let d = m.right in let t = d.word in record {
      first = Word (codes "default") ∷ Mark 58 ∷ t.word.first;
      word = (record { rest = t.word.first; word = t.word.word; tokens = refl }, refl);
      tokens = m.tokens ∙ ap (λ l. l ++ m.second) m.left ∙ d.tokens ∙ ap (λ l. Word (codes "default") ∷ l) (t.tokens ∙ ap (λ l. Mark 58 ∷ l) t.word.tokens);
    }
texts_on ts (v ∷ vs) b m =
    let l = m.left in
    subst (λ z. StringArmsToEnd z (v ∷ with_default (vs, b))) (sym (m.tokens ∙ ap (λ z. z ++ m.second) l.4 ∙ append_assoc l.0 l.1 m.second))
    (one_more l.0 (l.1 ++ m.second) v (with_default (vs, b)) l.2
    (texts_on (l.1 ++ m.second) vs b (record { first = l.1; second = m.second; left = l.3; right = m.right; tokens = refl })))

texts_back : (w : List Token) (v : List ArmParts) → StringArmsToEnd w v → (u : List ArmParts × List ℕ) × Texts w u × (v ≡ with_default u)
texts_back w [] n = absurd n.word
texts_back w (a ∷ []) n =
    let m = n.word.0 in (
      ([], a.target),
      record {
        first = [];
        second = w;
        left = refl;
        right = record {
          rest = Mark 58 ∷ (m.rest ++ (Mark 62 ∷ []));
          word = record { rest = m.rest ++ (Mark 62 ∷ []); word = record { first = m.rest; word = m.word; tokens = refl }; tokens = refl };
          tokens = n.tokens ∙ ap (λ l. l ++ (Mark 62 ∷ [])) m.tokens;
        };
        tokens = refl;
      },
      λ i. record { text = n.word.1 i; target = a.target } ∷ [],
    )
texts_back w (a ∷ b ∷ more) n =
    let m = n.word in
    let r = texts_back (m.1 ++ (Mark 62 ∷ [])) (b ∷ more) (record { first = m.1; word = m.3; tokens = refl }) in
    let t = r.1 in (
      (a ∷ r.0.0, r.0.1),
      record {
        first = m.0 ++ t.first;
        second = t.second;
        left = (m.0, t.first, m.2, t.left, refl);
        right = t.right;
        tokens = n.tokens ∙ ap (λ l. l ++ (Mark 62 ∷ [])) m.4 ∙ append_assoc m.0 m.1 (Mark 62 ∷ []) ∙ ap (λ l. m.0 ++ l) t.tokens ∙ sym (append_assoc m.0 t.first t.second);
      },
      ap (λ l. a ∷ l) r.2,
    )

pub texts_resume : (left : List Token) → Resumes any StringArmsToEnd [] Texts with_default left
texts_resume left = record {
  on = λ ts u m. texts_on ts u.0 u.1 m;
  back = λ w v x y n o h e. let r = texts_back w v n in (w, r.0, r.1, refl, r.2);
}

-- ---- the loop

-- arms with strings were taken
abbrev pub TextsTaken : Placed → Placed → List ArmParts → Type 0
TextsTaken start now arms = (used : List Token) × Past used start now × Resumes any StringArmsToEnd used Texts (λ p. arms ++ with_default p) now.tokens

pub no_texts : (start : Placed) → TextsTaken start start []
no_texts start = ([], past_none start, texts_resume start.tokens)

no_default : (t : Token) → (t ≡ Word (codes "default") → ⊥) → Avoids any Default t
no_default t other w v x n o e = other (sym e ∙ ap (λ l. front (l ++ x)) n.tokens)

no_text : (t : Token) → t ≡ Word (codes "default") → Avoids any AStringArm t
no_text t is w v x n o e = absurd (cc (sym is ∙ sym e ∙ ap (λ l. front (l ++ x)) n.1.1.tokens))

text_next : (start old : Placed) (arms : List ArmParts) → (inv : TextsTaken start old arms) → (next old ≡ Word (codes "default") → ⊥)
    → Resumes any StringArmsToEnd (inv.0 ++ []) (Both AStringArm Texts) (λ p. arms ++ (p.0 ∷ with_default p.1)) old.tokens
text_next start old arms inv other =
    resumes_then any StringArmsToEnd Texts (Both AStringArm Texts) inv.0 [] old.tokens old.tokens (λ p. arms ++ with_default p) (first_of AStringArm Default)
    inv.2 (run_next any AStringArm Default old.tokens (no_default (next old) other)) refl

-- an arm goes wrong
pub text_stops : (start old new : Placed) (arms : List ArmParts) (e : Stop) → TextsTaken start old arms → (next old ≡ Word (codes "default") → ⊥)
    → Reads any AStringArm old (Err e) new → Reads any StringArmsToEnd start (Err e) new
text_stops start old new arms e inv other s =
    stop_lifts any StringArmsToEnd (Both AStringArm Texts) start old new (inv.0 ++ []) (λ p. arms ++ (p.0 ∷ with_default p.1)) e
    (text_next start old arms inv other) (past_on inv.1 (past_none old)) (first_stops AStringArm Texts some_texts old new e s)

-- an arm was taken
pub text_taken : (start old mid : Placed) (arms more : List ArmParts) (a : ArmParts) → TextsTaken start old arms → (next old ≡ Word (codes "default") → ⊥)
    → Taken any AStringArm old mid a → more ≡ arms ++ a ∷ [] → TextsTaken start mid more
text_taken start old mid arms more a inv other t pushed =
    let step = resumes_then any StringArmsToEnd (Both AStringArm Texts) Texts (inv.0 ++ []) t.used old.tokens mid.tokens (λ p. arms ++ (p.0 ∷ with_default p.1)) (λ p. (a, p))
    (text_next start old arms inv other) (both_resumes any any AStringArm Texts (λ b v y m o. refl) old mid a string_arm_lawful t) t.past.tokens in (
      (inv.0 ++ []) ++ t.used,
      past_on (past_on inv.1 (past_none old)) t.past,
      resumes_same any StringArmsToEnd Texts ((inv.0 ++ []) ++ t.used) mid.tokens (λ p. arms ++ (a ∷ with_default p)) (λ p. more ++ with_default p)
          (λ p. sym (ap (λ l. l ++ with_default p) pushed ∙ append_assoc arms (a ∷ []) (with_default p))) step,
    )

-- the default is next
pub default_next : (start old mid : Placed) (arms : List ArmParts) → TextsTaken start old arms → next old ≡ Word (codes "default") → Past (next old ∷ []) old mid
    → (used : List Token) × Past used start mid × Resumes any StringArmsToEnd used (TargetTo 62) (λ b. arms ++ plain_arm b ∷ []) mid.tokens
default_next start old mid arms inv is past =
    let here : Past (Word (codes "default") ∷ []) old mid = subst (λ t. Past (t ∷ []) old mid) is past in
    let one = resumes_then any StringArmsToEnd Texts Default inv.0 [] old.tokens old.tokens (λ p. arms ++ with_default p) (λ b. ([], b))
    inv.2 (run_ends any any AStringArm Default (λ b v x n o. refl) old.tokens (no_text (next old) is)) refl in (
      (inv.0 ++ []) ++ (Word (codes "default") ∷ []),
      past_on (past_on inv.1 (past_none old)) here,
      resumes_then any StringArmsToEnd Default (TargetTo 62) (inv.0 ++ []) (Word (codes "default") ∷ []) old.tokens mid.tokens (λ b. arms ++ plain_arm b ∷ []) (λ b. b)
          one (behind_resumes any (Word (codes "default") ∷ []) (TargetTo 62) mid.tokens) here.tokens,
    )

pub some_label_to : (end : ℕ) → is_proper (Mark end) ≡ true → Viable (Ended ALabel (Mark end ∷ [])) []
some_label_to end e = record {
  more = Word (codes "a") ∷ Mark end ∷ [];
  value = codes "a";
  word = record { first = Word (codes "a") ∷ []; word = (refl, a_label); tokens = refl };
  proper = ap (λ c. c && true) e;
}

pub some_target : (end : ℕ) → is_proper (Mark end) ≡ true → Viable (TargetTo end) []
some_target end e = record {
  more = Mark 58 ∷ Word (codes "a") ∷ Mark end ∷ [];
  value = codes "a";
  word = record { rest = Word (codes "a") ∷ Mark end ∷ []; word = record { first = Word (codes "a") ∷ []; word = (refl, a_label); tokens = refl }; tokens = refl };
  proper = ap (λ c. c && true) e;
}

pub some_string_arms : Viable StringArmsToEnd []
some_string_arms = record {
  more = Word (codes "default") ∷ Mark 58 ∷ Word (codes "a") ∷ Mark 62 ∷ [];
  value = plain_arm (codes "a") ∷ [];
  word = record {
    first = Word (codes "default") ∷ Mark 58 ∷ Word (codes "a") ∷ [];
    word = (record { rest = Word (codes "a") ∷ []; word = (refl, a_label); tokens = refl }, refl);
    tokens = refl;
  };
  proper = refl;
}
