-- The directive of a member of a class tells its kind.
use Rattle.std.proofs.Common.{◌≡◌, ℕ, false, List, [], ◌∷◌, ◌++◌, refl, sym, ap, ◌∙◌, codes, subst}
use Rattle.std.specs.Str.{bytes_eq}
use Rattle.std.proofs.lemmas.Slice.Eq.{bytes_eq-Decides}
use Rattle.hhas_lex.specs.Tokens.{Token, Directive, front}
use Rattle.hhbc_repo.specs.declared.repo.Const.{Const}
use Rattle.hhbc_repo.specs.declared.parts.BodyParts.{BodyParts}
use Rattle.hhbc_repo.specs.declared.parts.PropertyParts.{PropertyParts}
use Rattle.hhbc_repo.specs.Languages.{Behind, Both}
use Rattle.hhbc_repo.specs.BodySyntax.{ABody}
use Rattle.hhbc_repo.specs.CodeSyntax.{AWord}
use Rattle.hhbc_repo.specs.TextSyntax as grammar
use Rattle.hhbc_repo.specs.TextSyntax.{AMember}
use Rattle.hhas_read.specs.declared.class_members.Member.{Member}
use Rattle.hhas_read.specs.declared.class_members.Member.TheVariants as members
use Rattle.hhas_read.specs.ClassMembers.{AMemberOf, ConstTail, ConstValue, PropertyTail, PropertyValue, const_of, member_of, property_of}
use Rattle.hhas_read.specs.Reading.{Placed, StuckAt, Viable, any, next}
use Rattle.hhas_read.proofs.Reserved.{never_both}
use Rattle.hhas_read.proofs.Resuming.{Resumes, past_none}
use Rattle.hhas_read.proofs.Joining.{Lawful, behind_lawful}
use Rattle.hhas_read.proofs.ClassParts.{const_law, property_law}
use Rattle.hhas_read.proofs.Firsts.{begun_resumes}
use Rattle.hhas_read.proofs.Said.{same_directive}
use Rattle.hhas_read.proofs.BodyLaws.{body_law}

-- directives of other names differ
pub differ : (a b : List ℕ) → bytes_eq a b ≡ false → Directive a ≡ Directive b → ⊥
differ a b e same = never_both (sym ((bytes_eq-Decides a b).1 (same_directive a b same)) ∙ e)

abbrev kind : grammar.Member → List ℕ
kind (grammar.AsConst c) = codes "const"
kind (grammar.AsProperty p) = codes "property"
kind (grammar.AsMethod b) = codes "method"

pub kind_first : (w : List Token) (m : grammar.Member) (x : List Token) → AMember w m → front (w ++ x) ≡ Directive (kind m)
kind_first w (grammar.AsConst c) x n = ap (λ l. front (l ++ x)) n.tokens
kind_first w (grammar.AsProperty p) x n = ap (λ l. front (l ++ x)) n.tokens
kind_first w (grammar.AsMethod b) x n = ap (λ l. front (l ++ x)) n.tokens

other : (name : List ℕ) (w : List Token) (m : grammar.Member) (x : List Token) → bytes_eq (kind m) name ≡ false → AMember w m → front (w ++ x) ≡ Directive name → ⊥
other name w m x d n is = differ (kind m) name d (sym (kind_first w m x n) ∙ is)

-- ---- what stands behind the directive

pub const_resumes : (left : List Token) → Resumes any AMemberOf (Directive (codes "const") ∷ []) ConstTail members.Const left
const_resumes left = begun_resumes any AMemberOf (Directive (codes "const")) ConstTail members.Const left on off
  where
    on : (ts : List Token) (u : Const) → ConstTail ts u → AMemberOf (Directive (codes "const") ∷ ts) (members.Const u)
    on ts u m = subst (λ c. AMemberOf (Directive (codes "const") ∷ ts) (members.Const c)) (sym m.is) (record { rest = ts; word = m.word; tokens = refl })

    off : (w : List Token) (v : Member) (x : List Token) → AMemberOf w v → front (w ++ x) ≡ Directive (codes "const")
        → (ts : List Token) × (u : Const) × ConstTail ts u × (w ≡ Directive (codes "const") ∷ ts) × (v ≡ members.Const u)
    off w (members.Const c) x n is = (n.rest, c, record { value = (c.name, c.value); word = n.word; is = refl }, n.tokens, refl)
    off w (members.Property p) x n is = absurd (other (codes "const") w (member_of (members.Property p)) x refl n is)
    off w (members.Method b) x n is = absurd (other (codes "const") w (member_of (members.Method b)) x refl n is)

pub property_resumes : (left : List Token) → Resumes any AMemberOf (Directive (codes "property") ∷ []) PropertyTail members.Property left
property_resumes left = begun_resumes any AMemberOf (Directive (codes "property")) PropertyTail members.Property left on off
  where
    on : (ts : List Token) (u : PropertyParts) → PropertyTail ts u → AMemberOf (Directive (codes "property") ∷ ts) (members.Property u)
    on ts u m = subst (λ c. AMemberOf (Directive (codes "property") ∷ ts) (members.Property c)) (sym m.is) (record { rest = ts; word = m.word; tokens = refl })

    off : (w : List Token) (v : Member) (x : List Token) → AMemberOf w v → front (w ++ x) ≡ Directive (codes "property")
        → (ts : List Token) × (u : PropertyParts) × PropertyTail ts u × (w ≡ Directive (codes "property") ∷ ts) × (v ≡ members.Property u)
    off w (members.Const c) x n is = absurd (other (codes "property") w (member_of (members.Const c)) x refl n is)
    off w (members.Property p) x n is = (n.rest, p, record { value = (p.name, (p.initial, p.stated)); word = n.word; is = refl }, n.tokens, refl)
    off w (members.Method b) x n is = absurd (other (codes "property") w (member_of (members.Method b)) x refl n is)

pub method_resumes : (left : List Token) → Resumes any AMemberOf (Directive (codes "method") ∷ []) ABody members.Method left
method_resumes left = begun_resumes any AMemberOf (Directive (codes "method")) ABody members.Method left (λ ts u m. record { rest = ts; word = m; tokens = refl }) off
  where
    off : (w : List Token) (v : Member) (x : List Token) → AMemberOf w v → front (w ++ x) ≡ Directive (codes "method")
        → (ts : List Token) × (u : BodyParts) × ABody ts u × (w ≡ Directive (codes "method") ∷ ts) × (v ≡ members.Method u)
    off w (members.Const c) x n is = absurd (other (codes "method") w (member_of (members.Const c)) x refl n is)
    off w (members.Property p) x n is = absurd (other (codes "method") w (member_of (members.Property p)) x refl n is)
    off w (members.Method b) x n is = (n.rest, b, n.word, n.tokens, refl)

-- ---- none of them

const_behind : Lawful any (Behind (Directive (codes "const") ∷ []) (Both AWord ConstValue))
const_behind = behind_lawful any (Directive (codes "const") ∷ []) (Both AWord ConstValue) refl const_law

pub some_member : Viable AMemberOf []
some_member = let s = const_behind.some in record { more = s.more; value = members.Const (const_of s.value); word = s.word; proper = s.proper }

pub member_stuck : (p : Placed) → (next p ≡ Directive (codes "const") → ⊥) → (next p ≡ Directive (codes "property") → ⊥) → (next p ≡ Directive (codes "method") → ⊥)
    → StuckAt any AMemberOf p p
member_stuck p no_const no_property no_method = record { read = []; past = past_none p; viable = some_member; dead = λ w v x y n o d. dead w v x (sym (ap front d) ∙ kind_first w (member_of v) x n) }
  where
    dead : (w : List Token) (v : Member) (x : List Token) → next p ≡ Directive (kind (member_of v)) → ⊥
    dead w (members.Const c) x is = no_const is
    dead w (members.Property c) x is = no_property is
    dead w (members.Method c) x is = no_method is

-- ---- members stand apart from what follows them

property_behind : Lawful any (Behind (Directive (codes "property") ∷ []) (Both AWord PropertyValue))
property_behind = behind_lawful any (Directive (codes "property") ∷ []) (Both AWord PropertyValue) refl property_law

method_behind : Lawful any (Behind (Directive (codes "method") ∷ []) ABody)
method_behind = behind_lawful any (Directive (codes "method") ∷ []) ABody refl body_law

kinds_same : (a b x y : List Token) (v w : grammar.Member) → AMember a v → AMember b w → a ++ x ≡ b ++ y → Directive (kind v) ≡ Directive (kind w)
kinds_same a b x y v w n m e = sym (kind_first a v x n) ∙ ap front e ∙ kind_first b w y m

member_same : (a b x y : List Token) (v w : grammar.Member) → AMember a v → AMember b w → a ++ x ≡ b ++ y → Directive (kind v) ≡ Directive (kind w) → (a ≡ b) × (v ≡ w)
member_same a b x y (grammar.AsConst c) (grammar.AsConst d) n m e k =
    let s = const_behind.same a b x y (c.name, c.value) (d.name, d.value) n m refl refl e in (s.0, ap (λ p. grammar.AsConst (const_of p)) s.1)
member_same a b x y (grammar.AsConst c) (grammar.AsProperty d) n m e k = absurd (differ (codes "const") (codes "property") refl k)
member_same a b x y (grammar.AsConst c) (grammar.AsMethod d) n m e k = absurd (differ (codes "const") (codes "method") refl k)
member_same a b x y (grammar.AsProperty c) (grammar.AsConst d) n m e k = absurd (differ (codes "property") (codes "const") refl k)
member_same a b x y (grammar.AsProperty c) (grammar.AsProperty d) n m e k =
    let s = property_behind.same a b x y (c.name, (c.initial, c.stated)) (d.name, (d.initial, d.stated)) n m refl refl e in (s.0, ap (λ p. grammar.AsProperty (property_of p)) s.1)
member_same a b x y (grammar.AsProperty c) (grammar.AsMethod d) n m e k = absurd (differ (codes "property") (codes "method") refl k)
member_same a b x y (grammar.AsMethod c) (grammar.AsConst d) n m e k = absurd (differ (codes "method") (codes "const") refl k)
member_same a b x y (grammar.AsMethod c) (grammar.AsProperty d) n m e k = absurd (differ (codes "method") (codes "property") refl k)
member_same a b x y (grammar.AsMethod c) (grammar.AsMethod d) n m e k =
    let s = method_behind.same a b x y c d n m refl refl e in (s.0, ap grammar.AsMethod s.1)

pub member_law : Lawful any AMember
member_law = record {
  same = λ a b x y v w n m o p e. member_same a b x y v w n m e (kinds_same a b x y v w n m e);
  some = record { more = some_member.more; value = member_of some_member.value; word = some_member.word; proper = some_member.proper };
}
