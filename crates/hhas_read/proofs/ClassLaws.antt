-- Classes stand apart from what follows them, and have one value; and how their members are read one after the other.
use Rattle.std.proofs.Common.{◌≡◌, ℕ, true, List, [], ◌∷◌, ◌++◌, refl, sym, ap, ◌∙◌, append-nil, codes, subst, Err}
use Rattle.hhas_lex.specs.Tokens.{Token, Directive, Word, Mark, front}
use Rattle.hhbc_repo.specs.declared.repo.Const.{Const}
use Rattle.hhbc_repo.specs.declared.parts.BodyParts.{BodyParts}
use Rattle.hhbc_repo.specs.declared.parts.ClassParts.{ClassParts}
use Rattle.hhbc_repo.specs.declared.parts.PropertyParts.{PropertyParts}
use Rattle.hhbc_repo.specs.Languages.{Lang, Behind, Both, Many, Means, Perhaps}
use Rattle.hhbc_repo.specs.CodeSyntax.{AWord}
use Rattle.hhbc_repo.specs.TextSyntax as grammar
use Rattle.hhbc_repo.specs.TextSyntax.{AClass, AMember, consts_of, methods_of, props_of}
use Rattle.hhas_read.specs.declared.class_members.Member.{Member}
use Rattle.hhas_read.specs.declared.class_members.Member.TheVariants as members
use Rattle.hhas_read.specs.declared.classes.Members.{Members}
use Rattle.hhas_read.specs.declared.reader.Stop.{Stop}
use Rattle.hhas_read.specs.ClassMembers.{AMemberOf, AParent, Braced, ClassTail, MembersToEnd, ParentAndMembers, class_of, member_of, members_of, only_mark, with_member}
use Rattle.hhas_read.specs.Reading.{Placed, Past, Reads, Taken, any, next}
use Rattle.hhas_read.proofs.Carried.{carried_lawful, carried_resumes, means_lawful}
use Rattle.hhas_read.proofs.ClassMemberForms.{kind_first, member_law}
use Rattle.hhas_read.proofs.OneAtom.{a_word}
use Rattle.hhas_read.proofs.ClassParts.{not_only, perhaps_parent_law}
use Rattle.hhas_read.proofs.Closing.{closed, closed_stop}
use Rattle.hhas_read.proofs.Joining.{Lawful, behind_lawful, both_lawful, ended_lawful, means_resumes}
use Rattle.hhas_read.proofs.Repeated.{ManyTaken, all_taken, many_lawful, many_stops, none_taken, one_taken}
use Rattle.hhas_read.proofs.Reserved.{never_both}
use Rattle.hhas_read.proofs.Resuming.{Resumes, past_none, stop_lifts, taken_lifts}

-- ---- members

pub member_apart : (w : List Token) (m : grammar.Member) (x : List Token) → AMember w m → only_mark 125 (front (w ++ x)) ≡ true → ⊥
member_apart w m x n is = never_both (sym is ∙ ap (only_mark 125) (kind_first w m x n))

abbrev pub AllMembers : Lang Members
AllMembers = Means members_of (Many AMember)

pub all_members_law : Lawful (only_mark 125) AllMembers
all_members_law = means_lawful (only_mark 125) members_of (Many AMember) (many_lawful (only_mark 125) AMember member_apart member_law)

pub members_law : Lawful any MembersToEnd
members_law = ended_lawful any (only_mark 125) AllMembers (Mark 125) [] refl refl all_members_law

pub braced_law : Lawful any Braced
braced_law = behind_lawful any (Mark 123 ∷ []) MembersToEnd refl members_law

-- ---- one after the other

-- the reader's members are those of the grammar
from_member : (w : List Token) (m : grammar.Member) → AMember w m → (u : Member) × AMemberOf w u × (m ≡ member_of u)
from_member w (grammar.AsConst c) n = (members.Const c, n, refl)
from_member w (grammar.AsProperty p) n = (members.Property p, n, refl)
from_member w (grammar.AsMethod b) n = (members.Method b, n, refl)

member_resumes : (left : List Token) → Resumes any AMember [] AMemberOf member_of left
member_resumes left = carried_resumes any AMember AMemberOf member_of (λ w u m. m) from_member left

consts_more : (ms : List grammar.Member) (m : grammar.Member) → consts_of (ms ++ m ∷ []) ≡ consts_of ms ++ consts_of (m ∷ [])
consts_more [] m = refl
consts_more (grammar.AsConst c ∷ ms) m = ap (λ l. c ∷ l) (consts_more ms m)
consts_more (grammar.AsProperty p ∷ ms) m = consts_more ms m
consts_more (grammar.AsMethod b ∷ ms) m = consts_more ms m

props_more : (ms : List grammar.Member) (m : grammar.Member) → props_of (ms ++ m ∷ []) ≡ props_of ms ++ props_of (m ∷ [])
props_more [] m = refl
props_more (grammar.AsConst c ∷ ms) m = props_more ms m
props_more (grammar.AsProperty p ∷ ms) m = ap (λ l. p ∷ l) (props_more ms m)
props_more (grammar.AsMethod b ∷ ms) m = props_more ms m

methods_more : (ms : List grammar.Member) (m : grammar.Member) → methods_of (ms ++ m ∷ []) ≡ methods_of ms ++ methods_of (m ∷ [])
methods_more [] m = refl
methods_more (grammar.AsConst c ∷ ms) m = methods_more ms m
methods_more (grammar.AsProperty p ∷ ms) m = methods_more ms m
methods_more (grammar.AsMethod b ∷ ms) m = ap (λ l. b ∷ l) (methods_more ms m)

made : (a d : List Const) (b e : List PropertyParts) (c f : List BodyParts) → a ≡ d → b ≡ e → c ≡ f
    → ◌≡◌ {A = Members} (record { consts = a; props = b; methods = c }) (record { consts = d; props = e; methods = f })
made a d b e c f p q r = λ i. record { consts = p i; props = q i; methods = r i }

members_more : (ms : List grammar.Member) (m : grammar.Member) → members_of (ms ++ m ∷ []) ≡ with_member m (members_of ms)
members_more ms (grammar.AsConst c) =
    made _ _ _ _ _ _ (consts_more ms (grammar.AsConst c)) (props_more ms (grammar.AsConst c) ∙ append-nil (props_of ms)) (methods_more ms (grammar.AsConst c) ∙ append-nil (methods_of ms))
members_more ms (grammar.AsProperty p) =
    made _ _ _ _ _ _ (consts_more ms (grammar.AsProperty p) ∙ append-nil (consts_of ms)) (props_more ms (grammar.AsProperty p)) (methods_more ms (grammar.AsProperty p) ∙ append-nil (methods_of ms))
members_more ms (grammar.AsMethod b) =
    made _ _ _ _ _ _ (consts_more ms (grammar.AsMethod b) ∙ append-nil (consts_of ms)) (props_more ms (grammar.AsMethod b) ∙ append-nil (props_of ms)) (methods_more ms (grammar.AsMethod b))

-- members were taken
abbrev pub MembersTaken : Placed → Placed → Members → Type 0
MembersTaken start now members = (done : List grammar.Member) × ManyTaken (only_mark 125) AMember start now done × (members ≡ members_of done)

pub no_members : (start : Placed) → MembersTaken start start (members_of [])
no_members start = ([], none_taken (only_mark 125) AMember start, refl)

-- the next one goes wrong
pub member_stops : (start old new : Placed) (members : Members) (e : Stop) → MembersTaken start old members → (next old ≡ Mark 125 → ⊥)
    → Reads any AMemberOf old (Err e) new → Reads any MembersToEnd start (Err e) new
member_stops start old new members e inv other s =
    let one = stop_lifts any AMember AMemberOf old old new [] member_of e (member_resumes old.tokens) (past_none old) s in
    let many = many_stops (only_mark 125) AMember start old new inv.0 e inv.1 (not_only 125 (next old) other) one in
    closed_stop (only_mark 125) AllMembers (Mark 125) refl refl start new e
    (stop_lifts (only_mark 125) AllMembers (Many AMember) start start new [] members_of e (means_resumes (only_mark 125) members_of (Many AMember) start.tokens) (past_none start) many)

-- and one more
pub member_taken : (start old mid : Placed) (members more : Members) (m : Member) → MembersTaken start old members → (next old ≡ Mark 125 → ⊥)
    → Taken any AMemberOf old mid m → more ≡ with_member (member_of m) members → MembersTaken start mid more
member_taken start old mid members more m inv other t pushed =
    let one = taken_lifts any AMember AMemberOf old old mid [] member_of m (member_resumes old.tokens) (past_none old) t in (
      inv.0 ++ member_of m ∷ [],
      one_taken (only_mark 125) AMember member_law start old mid inv.0 (member_of m) inv.1 (not_only 125 (next old) other) one,
      pushed ∙ ap (with_member (member_of m)) inv.2 ∙ sym (members_more inv.0 (member_of m)),
    )

-- the end is next
pub members_end : (start old new : Placed) (members : Members) → MembersTaken start old members → next old ≡ Mark 125 → Past (next old ∷ []) old new
    → Taken any MembersToEnd start new members
members_end start old new members inv is past =
    let many = all_taken (only_mark 125) AMember start old inv.0 inv.1 (ap (only_mark 125) is) in
    let all = taken_lifts (only_mark 125) AllMembers (Many AMember) start start old [] members_of inv.0
    (means_resumes (only_mark 125) members_of (Many AMember) start.tokens) (past_none start) many in
    closed (only_mark 125) AllMembers (Mark 125) refl refl all_members_law start old new members (subst (Taken (only_mark 125) AllMembers start old) (sym inv.2) all) is past

-- ---- classes

pub parent_begins : (w : List Token) (v : List ℕ) (x : List Token) → AParent w v → front (w ++ x) ≡ Word (codes "extends")
parent_begins w v x n = ap (λ l. front (l ++ x)) n.tokens

mark_is_no_word : (b : ℕ) (w : List ℕ) → Mark b ≡ Word w → ⊥
mark_is_no_word b w e = absurd (cc e)

pub braced_never : (w : List Token) (v : Members) (x : List Token) → Braced w v → front (w ++ x) ≡ Word (codes "extends") → ⊥
braced_never w v x n e = mark_is_no_word 123 (codes "extends") (sym (ap (λ l. front (l ++ x)) n.tokens) ∙ e)

pub parent_members_law : Lawful any ParentAndMembers
parent_members_law = both_lawful any (only_mark 123) (Perhaps AParent) Braced (λ b v x n o. ap (λ l. only_mark 123 (front (l ++ x))) n.tokens) perhaps_parent_law braced_law

pub class_tail_law : Lawful any ClassTail
class_tail_law =
    means_lawful any class_of (Both AWord ParentAndMembers) (both_lawful any any AWord ParentAndMembers (λ b v x n o. refl) a_word parent_members_law)

abbrev pub AWholeClass : Lang ClassParts
AWholeClass = Behind (Directive (codes "class") ∷ []) ClassTail

class_on : (w : List Token) (c : ClassParts) → AWholeClass w c → AClass w c
class_on w c m =
    let b = m.word.word in let r = b.right in let d = r.right in let e = d.word in let q = e.word in
    subst (AClass w) (sym m.word.is) (record {
      members = q.value;
      word = record {
        rest = m.rest;
        word = record {
          first = b.first;
          second = b.second;
          left = b.left;
          right = record {
            first = r.first;
            second = r.second;
            left = r.left;
            right = record { rest = d.rest; word = record { first = e.first; word = q.word; tokens = e.tokens }; tokens = d.tokens };
            tokens = r.tokens;
          };
          tokens = b.tokens;
        };
        tokens = m.tokens;
      };
      consts = ap (λ z. z.consts) q.is;
      props = ap (λ z. z.props) q.is;
      methods = ap (λ z. z.methods) q.is;
    })

class_off : (w : List Token) (c : ClassParts) → AClass w c → (u : ClassParts) × AWholeClass w u × (c ≡ u)
class_off w c n =
    let m = n.word in let b = m.word in let r = b.right in let d = r.right in let e = d.word in (
      class_of (c.name, (c.parent, members_of n.members)),
      record {
        rest = m.rest;
        word = record {
          value = (c.name, (c.parent, members_of n.members));
          word = record {
            first = b.first;
            second = b.second;
            left = b.left;
            right = record {
              first = r.first;
              second = r.second;
              left = r.left;
              right = record {
                rest = d.rest;
                word = record { first = e.first; word = record { value = n.members; word = e.word; is = refl }; tokens = e.tokens };
                tokens = d.tokens;
              };
              tokens = r.tokens;
            };
            tokens = b.tokens;
          };
          is = refl;
        };
        tokens = m.tokens;
      },
      λ i. record { name = c.name; parent = c.parent; consts = n.consts i; props = n.props i; methods = n.methods i },
    )

pub class_resumes : (left : List Token) → Resumes any AClass [] AWholeClass (λ c. c) left
class_resumes left = carried_resumes any AClass AWholeClass (λ c. c) class_on class_off left

pub class_law : Lawful any AClass
class_law = carried_lawful any AClass AWholeClass (λ c. c) class_on class_off (behind_lawful any (Directive (codes "class") ∷ []) ClassTail refl class_tail_law)
