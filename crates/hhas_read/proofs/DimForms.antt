-- Keys with Dim, up to a final.
use Rattle.std.proofs.Common.{◌≡◌, Bool, false, true, ◌||◌, List, [], ◌∷◌, ◌++◌, refl, sym, ap, ◌∙◌, codes, subst, append_assoc, append-nil, Err}
use Rattle.std.specs.List.{list_any}
use Rattle.std.specs.Str.{bytes_eq}
use Rattle.std.proofs.lemmas.Slice.Eq.{bytes_eq-Decides}
use Rattle.hhas_lex.specs.Tokens.{Token, Word, front}
use Rattle.hhbc_repo.specs.declared.parts.FinalParts.{FinalParts}
use Rattle.hhbc_repo.specs.declared.parts.FinalParts.TheVariants as finals
use Rattle.hhbc_repo.specs.declared.parts.MemberKeyParts.{MemberKeyParts}
use Rattle.hhbc_repo.specs.CodeSyntax.{ADim, is_nullsafe, is_query}
use Rattle.hhas_read.specs.declared.reader.Stop.{Stop}
use Rattle.hhas_read.specs.declared.reader.Stop.TheVariants.{Syntax, NoMemory}
use Rattle.hhas_read.specs.Reading.{Placed, Past, Taken, Reads, next, any}
use Rattle.hhas_read.specs.Sequences.{DimsAfter, FinalAfter}
use Rattle.hhas_read.proofs.Resuming.{Resumes, past_on, resumes_same, resumes_then}
use Rattle.hhas_read.proofs.Joining.{all_append}
use Rattle.hhas_read.proofs.Choice.{first_is}
use Rattle.hhas_read.proofs.Reserved.{never_both}
use Rattle.hhas_read.proofs.Said.{same_word}
use Rattle.hhas_read.proofs.FinalForms.{final_word, final_begins, some_final}
use Rattle.hhas_read.proofs.FormLaws.{dim_lawful}

abbrev pub Sequel : Type 0
Sequel = List MemberKeyParts × FinalParts

-- with a key before
abbrev pub with_key : MemberKeyParts → Sequel → Sequel
with_key k p = (k ∷ p.0, p.1)

or_join : (a b c d : Bool) → (a || (b || c) ≡ true → d ≡ true) → (a || b) || c ≡ true → d ≡ true
or_join true b c d h e = h refl
or_join false b c d h e = h e

or_split : (a b c d : Bool) → ((a || b) || c ≡ true → d ≡ true) → a || (b || c) ≡ true → d ≡ true
or_split true b c d h e = h refl
or_split false b c d h e = h e

or_none : (a d : Bool) → (a ≡ true → d ≡ true) → a || false ≡ true → d ≡ true
or_none true d h e = h refl
or_none false d h e = h e

none_or : (a d : Bool) → (a || false ≡ true → d ≡ true) → a ≡ true → d ≡ true
none_or true d h e = h refl
none_or false d h e = absurd (cc e)

dim_begins : (w : List Token) (k : MemberKeyParts) (x : List Token) → ADim w k → front (w ++ x) ≡ Word (codes "Dim")
dim_begins w k x n = ap (λ l. front (l ++ x)) n.tokens

-- no final begins with Dim
no_dim : {A : Type 0} (f : FinalParts) → Word (final_word f) ≡ Word (codes "Dim") → A
no_dim f e = absurd (never_both (sym ((bytes_eq-Decides (final_word f) (codes "Dim")).1 (same_word (final_word f) (codes "Dim") e)) ∙ differs f))
  where
    differs : (f : FinalParts) → bytes_eq (final_word f) (codes "Dim") ≡ false
    differs (finals.Query n mode k) = refl
    differs _ = refl

-- no keys are left where Dim isn't next
pub dims_end : (nullsafe : Bool) (left : List Token) → (front left ≡ Word (codes "Dim") → ⊥) → Resumes any (DimsAfter nullsafe) [] (FinalAfter nullsafe) (λ f. ([], f)) left
dims_end nullsafe left other = record {
  on = λ ts f m. (record { first = []; second = ts; left = refl; right = m.0; tokens = refl }, or_none nullsafe (is_query f) m.1);
  back = λ w v x y n o h e. back w v.0 v.1 x y n h e;
}
  where
    back : (w : List Token) (ks : List MemberKeyParts) (f : FinalParts) (x y : List Token) → DimsAfter nullsafe w (ks, f) → front y ≡ front left → w ++ x ≡ y
        → (ts : List Token) × (u : FinalParts) × FinalAfter nullsafe ts u × (w ≡ ts) × ◌≡◌ {A = Sequel} (ks, f) ([], u)
    back w [] f x y n h e = (n.0.second, f, (n.0.right, none_or nullsafe (is_query f) n.1), n.0.tokens ∙ ap (λ l. l ++ n.0.second) n.0.left, refl)
    back w (k ∷ ks) f x y n h e =
        let l = n.0.left in
        absurd (other (sym h ∙ ap front (sym e) ∙ ap (λ z. front (z ++ x)) (n.0.tokens ∙ ap (λ z. z ++ n.0.second) (l.4 ∙ ap (λ z. z ++ l.1) l.2.tokens))))

-- a key was taken
pub dims_more : (nullsafe : Bool) (old mid : Placed) (k : MemberKeyParts) → (t : Taken any ADim old mid k)
    → Resumes any (DimsAfter nullsafe) t.used (DimsAfter (nullsafe || is_nullsafe k)) (with_key k) mid.tokens
dims_more nullsafe old mid k t = record { on = λ ts p m. on ts p.0 p.1 m; back = λ w v x y n o h e. back w v.0 v.1 x y n e }
  where
    on : (ts : List Token) (ks : List MemberKeyParts) (f : FinalParts) → DimsAfter (nullsafe || is_nullsafe k) ts (ks, f) → DimsAfter nullsafe (t.used ++ ts) (k ∷ ks, f)
    on ts ks f m = (
      record {
        first = t.used ++ m.0.first;
        second = m.0.second;
        left = (t.used, m.0.first, t.word, m.0.left, refl);
        right = m.0.right;
        tokens = ap (λ l. t.used ++ l) m.0.tokens ∙ sym (append_assoc t.used m.0.first m.0.second);
      },
      or_split nullsafe (is_nullsafe k) (list_any is_nullsafe ks) (is_query f) m.1,
    )

    back : (w : List Token) (ks : List MemberKeyParts) (f : FinalParts) (x y : List Token) → DimsAfter nullsafe w (ks, f) → w ++ x ≡ t.used ++ y
        → (ts : List Token) × (u : Sequel) × DimsAfter (nullsafe || is_nullsafe k) ts u × (w ≡ t.used ++ ts) × ◌≡◌ {A = Sequel} (ks, f) (with_key k u)
    back w [] f x y n e =
        no_dim f (sym (final_begins n.0.second f x n.0.right) ∙ ap (λ l. front (l ++ x)) (sym (n.0.tokens ∙ ap (λ l. l ++ n.0.second) n.0.left)) ∙ ap front e ∙ dim_begins t.used k y t.word)
    back w (l ∷ ks) f x y n e =
        let m = n.0.left in
        let whole : w ≡ m.0 ++ (m.1 ++ n.0.second) = n.0.tokens ∙ ap (λ z. z ++ n.0.second) m.4 ∙ append_assoc m.0 m.1 n.0.second in
        let s = dim_lawful.same m.0 t.used ((m.1 ++ n.0.second) ++ x) y l k m.2 t.word refl refl
        (sym (append_assoc m.0 (m.1 ++ n.0.second) x) ∙ ap (λ z. z ++ x) (sym whole) ∙ e) in (
          m.1 ++ n.0.second,
          (ks, f),
          (
            record { first = m.1; second = n.0.second; left = m.3; right = n.0.right; tokens = refl },
            subst (λ z. (nullsafe || is_nullsafe z) || list_any is_nullsafe ks ≡ true → is_query f ≡ true) s.1
                (or_join nullsafe (is_nullsafe l) (list_any is_nullsafe ks) (is_query f) n.1),
          ),
          whole ∙ ap (λ z. z ++ (m.1 ++ n.0.second)) s.0,
          λ i. (s.1 i ∷ ks, f),
        )

-- a key goes wrong
pub dim_stops : (nullsafe : Bool) (old new : Placed) (e : Stop) → next old ≡ Word (codes "Dim") → Reads any ADim old (Err e) new → Reads any (DimsAfter nullsafe) old (Err e) new
dim_stops nullsafe old new Syntax is s =
    let end = some_final true in record {
      read = s.read;
      past = s.past;
      viable = record {
        more = s.viable.more ++ end.more;
        value = (s.viable.value ∷ [], end.value);
        word = (
          record {
            first = s.read ++ s.viable.more;
            second = end.more;
            left = (s.read ++ s.viable.more, [], s.viable.word, refl, sym (append-nil (s.read ++ s.viable.more)));
            right = end.word.0;
            tokens = sym (append_assoc s.read s.viable.more end.more);
          },
          λ h. end.word.1 refl,
        );
        proper = all_append s.viable.more end.more s.viable.proper end.proper;
      };
      dead = λ w v x y n o d. dead w v.0 v.1 x y n d;
    }
  where
    dead : (w : List Token) (ks : List MemberKeyParts) (f : FinalParts) (x y : List Token) → DimsAfter nullsafe w (ks, f) → w ++ x ≡ (s.read ++ next new ∷ []) ++ y → ⊥
    dead w [] f x y n d =
        let z = first_is old.tokens s.read new.tokens s.past.tokens y in
        no_dim f (sym (final_begins n.0.second f x n.0.right) ∙ ap (λ l. front (l ++ x)) (sym (n.0.tokens ∙ ap (λ l. l ++ n.0.second) n.0.left)) ∙ ap front (d ∙ z.1) ∙ is)
    dead w (l ∷ ks) f x y n d =
        let m = n.0.left in
        let whole : w ≡ m.0 ++ (m.1 ++ n.0.second) = n.0.tokens ∙ ap (λ z. z ++ n.0.second) m.4 ∙ append_assoc m.0 m.1 n.0.second in
        s.dead m.0 l ((m.1 ++ n.0.second) ++ x) y m.2 refl (sym (append_assoc m.0 (m.1 ++ n.0.second) x) ∙ ap (λ z. z ++ x) (sym whole) ∙ d)
dim_stops nullsafe old new NoMemory is s = tt

-- ---- the loop

-- with keys before
abbrev pub behind_keys : List MemberKeyParts → Sequel → Sequel
behind_keys ks p = (ks ++ p.0, p.1)

-- where the keys so far were taken
abbrev pub KeysTaken : Placed → Placed → Bool → List MemberKeyParts → Type 0
KeysTaken start now nullsafe ks = (used : List Token) × Past used start now × Resumes any (DimsAfter false) used (DimsAfter nullsafe) (behind_keys ks) now.tokens

pub one_more_key : (start old mid : Placed) (nullsafe : Bool) (ks more : List MemberKeyParts) (k : MemberKeyParts) → KeysTaken start old nullsafe ks → Taken any ADim old mid k
    → more ≡ ks ++ k ∷ [] → KeysTaken start mid (nullsafe || is_nullsafe k) more
one_more_key start old mid nullsafe ks more k inv t pushed =
    let step = resumes_then any (DimsAfter false) (DimsAfter nullsafe) (DimsAfter (nullsafe || is_nullsafe k)) inv.0 t.used old.tokens mid.tokens (behind_keys ks) (with_key k)
    inv.2 (dims_more nullsafe old mid k t) t.past.tokens in (
      inv.0 ++ t.used,
      past_on inv.1 t.past,
      resumes_same any (DimsAfter false) (DimsAfter (nullsafe || is_nullsafe k)) (inv.0 ++ t.used) mid.tokens (λ p. behind_keys ks (with_key k p)) (behind_keys more)
          (λ p. ap (λ l. (l, p.1)) (sym (ap (λ l. l ++ p.0) pushed ∙ append_assoc ks (k ∷ []) p.0))) step,
    )

-- the final is next
pub final_next : (start old : Placed) (nullsafe : Bool) (ks : List MemberKeyParts) → (next old ≡ Word (codes "Dim") → ⊥) → (inv : KeysTaken start old nullsafe ks)
    → Resumes any (DimsAfter false) (inv.0 ++ []) (FinalAfter nullsafe) (λ f. (ks, f)) old.tokens
final_next start old nullsafe ks other inv =
    let step = resumes_then any (DimsAfter false) (DimsAfter nullsafe) (FinalAfter nullsafe) inv.0 [] old.tokens old.tokens (behind_keys ks) (λ f. ([], f))
    inv.2 (dims_end nullsafe old.tokens other) refl in
    resumes_same any (DimsAfter false) (FinalAfter nullsafe) (inv.0 ++ []) old.tokens (λ f. (ks ++ [], f)) (λ f. (ks, f)) (λ f. ap (λ l. (l, f)) (append-nil ks)) step
