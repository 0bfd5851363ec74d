-- Functions and classes, and how they are read one after the other.
use Rattle.std.proofs.Common.{◌≡◌, true, false, List, [], ◌∷◌, ◌++◌, refl, sym, ap, ◌∙◌, append-nil, codes, subst, Err}
use Rattle.hhas_lex.specs.Tokens.{Token, Directive, front}
use Rattle.hhbc_repo.specs.declared.parts.BodyParts.{BodyParts}
use Rattle.hhbc_repo.specs.declared.parts.ClassParts.{ClassParts}
use Rattle.hhbc_repo.specs.Languages.{Lang, Behind, Many, Means}
use Rattle.hhbc_repo.specs.LinkFaults.{Whole}
use Rattle.hhbc_repo.specs.BodySyntax.{ABody}
use Rattle.hhbc_repo.specs.TextSyntax as grammar
use Rattle.hhbc_repo.specs.TextSyntax.{AClass, ADeclaration, classes_of, functions_of}
use Rattle.hhas_read.specs.declared.declarations.Declaration.{Declaration}
use Rattle.hhas_read.specs.declared.declarations.Declaration.TheVariants as declarations
use Rattle.hhas_read.specs.declared.reader.Stop.{Stop}
use Rattle.hhas_read.specs.Declarations.{ADeclarationOf, declaration_of, parts_of, with_declaration}
use Rattle.hhas_read.specs.Reading.{Placed, Reads, Taken, any, next}
use Rattle.hhas_read.specs.TextWithoutEnd.{is_end}
use Rattle.hhas_read.proofs.Carried.{carried_resumes, means_lawful}
use Rattle.hhas_read.proofs.ClassLaws.{class_law}
use Rattle.hhas_read.proofs.ClassMemberForms.{differ}
use Rattle.hhas_read.proofs.Firsts.{begun_resumes}
use Rattle.hhas_read.proofs.Joining.{Lawful, behind_lawful, means_resumes}
use Rattle.hhas_read.proofs.Repeated.{ManyTaken, all_taken, many_lawful, many_stops, none_taken, one_taken}
use Rattle.hhas_read.proofs.Reserved.{never_both}
use Rattle.hhas_read.proofs.Resuming.{Resumes, past_none, stop_lifts, taken_lifts}
use Rattle.hhas_read.proofs.BodyLaws.{body_law}

class_first : (w : List Token) (c : ClassParts) (x : List Token) → AClass w c → front (w ++ x) ≡ Directive (codes "class")
class_first w c x n = ap (λ l. front (l ++ x)) n.word.tokens

-- ---- what stands behind the first token

pub function_resumes : (left : List Token) → Resumes any ADeclarationOf (Directive (codes "function") ∷ []) ABody declarations.Function left
function_resumes left =
    begun_resumes any ADeclarationOf (Directive (codes "function")) ABody declarations.Function left (λ ts u m. record { rest = ts; word = m; tokens = refl }) off
  where
    off : (w : List Token) (v : Declaration) (x : List Token) → ADeclarationOf w v → front (w ++ x) ≡ Directive (codes "function")
        → (ts : List Token) × (u : BodyParts) × ABody ts u × (w ≡ Directive (codes "function") ∷ ts) × (v ≡ declarations.Function u)
    off w (declarations.Function b) x n is = (n.rest, b, n.word, n.tokens, refl)
    off w (declarations.Class c) x n is = absurd (differ (codes "class") (codes "function") refl (sym (class_first w c x n) ∙ is))

-- where no function is next, a class is
pub only_class : (left : List Token) → (front left ≡ Directive (codes "function") → ⊥) → Resumes any ADeclarationOf [] AClass declarations.Class left
only_class left other = record { on = λ ts u m. m; back = λ w v x y n o h e. back w v x y n h e }
  where
    back : (w : List Token) (v : Declaration) (x y : List Token) → ADeclarationOf w v → front y ≡ front left → w ++ x ≡ y
        → (ts : List Token) × (u : ClassParts) × AClass ts u × (w ≡ ts) × (v ≡ declarations.Class u)
    back w (declarations.Function b) x y n h e = absurd (other (sym h ∙ ap front (sym e) ∙ ap (λ l. front (l ++ x)) n.tokens))
    back w (declarations.Class c) x y n h e = (w, c, n, refl, refl)

-- ---- they stand apart from what follows them

function_law : Lawful any (Behind (Directive (codes "function") ∷ []) ABody)
function_law = behind_lawful any (Directive (codes "function") ∷ []) ABody refl body_law

declaration_same : (a b x y : List Token) (v w : grammar.Declaration) → ADeclaration a v → ADeclaration b w → a ++ x ≡ b ++ y → (a ≡ b) × (v ≡ w)
declaration_same a b x y (grammar.AsFunction f) (grammar.AsFunction g) n m e =
    let s = function_law.same a b x y f g n m refl refl e in (s.0, ap grammar.AsFunction s.1)
declaration_same a b x y (grammar.AsFunction f) (grammar.AsClass d) n m e =
    absurd (differ (codes "function") (codes "class") refl (sym (ap (λ l. front (l ++ x)) n.tokens) ∙ ap front e ∙ class_first b d y m))
declaration_same a b x y (grammar.AsClass c) (grammar.AsFunction g) n m e =
    absurd (differ (codes "class") (codes "function") refl (sym (class_first a c x n) ∙ ap front e ∙ ap (λ l. front (l ++ y)) m.tokens))
declaration_same a b x y (grammar.AsClass c) (grammar.AsClass d) n m e =
    let s = class_law.same a b x y c d n m refl refl e in (s.0, ap grammar.AsClass s.1)

pub declaration_law : Lawful any ADeclaration
declaration_law = record {
  same = λ a b x y v w n m o p e. declaration_same a b x y v w n m e;
  some = let s = class_law.some in record { more = s.more; value = grammar.AsClass s.value; word = s.word; proper = s.proper };
}

not_at_end : (w : List Token) (d : grammar.Declaration) (x : List Token) → ADeclaration w d → is_end (front (w ++ x)) ≡ true → ⊥
not_at_end w (grammar.AsFunction b) x n is = never_both (sym is ∙ ap (λ l. is_end (front (l ++ x))) n.tokens)
not_at_end w (grammar.AsClass c) x n is = never_both (sym is ∙ ap is_end (class_first w c x n))

abbrev pub AllDeclared : Lang Whole
AllDeclared = Means parts_of (Many ADeclaration)

pub all_declared_law : Lawful is_end AllDeclared
all_declared_law = means_lawful is_end parts_of (Many ADeclaration) (many_lawful is_end ADeclaration not_at_end declaration_law)

-- ---- one after the other

from_declaration : (w : List Token) (d : grammar.Declaration) → ADeclaration w d → (u : Declaration) × ADeclarationOf w u × (d ≡ declaration_of u)
from_declaration w (grammar.AsFunction b) n = (declarations.Function b, n, refl)
from_declaration w (grammar.AsClass c) n = (declarations.Class c, n, refl)

declaration_resumes : (left : List Token) → Resumes any ADeclaration [] ADeclarationOf declaration_of left
declaration_resumes left = carried_resumes any ADeclaration ADeclarationOf declaration_of (λ w u m. m) from_declaration left

functions_more : (ds : List grammar.Declaration) (d : grammar.Declaration) → functions_of (ds ++ d ∷ []) ≡ functions_of ds ++ functions_of (d ∷ [])
functions_more [] d = refl
functions_more (grammar.AsFunction b ∷ ds) d = ap (λ l. b ∷ l) (functions_more ds d)
functions_more (grammar.AsClass c ∷ ds) d = functions_more ds d

classes_more : (ds : List grammar.Declaration) (d : grammar.Declaration) → classes_of (ds ++ d ∷ []) ≡ classes_of ds ++ classes_of (d ∷ [])
classes_more [] d = refl
classes_more (grammar.AsFunction b ∷ ds) d = classes_more ds d
classes_more (grammar.AsClass c ∷ ds) d = ap (λ l. c ∷ l) (classes_more ds d)

made : (a c : List BodyParts) (b d : List ClassParts) → a ≡ c → b ≡ d → ◌≡◌ {A = Whole} (record { functions = a; classes = b }) (record { functions = c; classes = d })
made a c b d p q = λ i. record { functions = p i; classes = q i }

parts_more : (ds : List grammar.Declaration) (d : grammar.Declaration) → parts_of (ds ++ d ∷ []) ≡ with_declaration d (parts_of ds)
parts_more ds (grammar.AsFunction b) = made _ _ _ _ (functions_more ds (grammar.AsFunction b)) (classes_more ds (grammar.AsFunction b) ∙ append-nil (classes_of ds))
parts_more ds (grammar.AsClass c) = made _ _ _ _ (functions_more ds (grammar.AsClass c) ∙ append-nil (functions_of ds)) (classes_more ds (grammar.AsClass c))

-- functions and classes were taken
abbrev pub PartsTaken : Placed → Placed → Whole → Type 0
PartsTaken start now parts = (done : List grammar.Declaration) × ManyTaken is_end ADeclaration start now done × (parts ≡ parts_of done)

pub nothing_declared : (start : Placed) → PartsTaken start start (parts_of [])
nothing_declared start = ([], none_taken is_end ADeclaration start, refl)

-- the next one goes wrong
pub declaration_stops : (start old new : Placed) (parts : Whole) (e : Stop) → PartsTaken start old parts → is_end (next old) ≡ false
    → Reads any ADeclarationOf old (Err e) new → Reads is_end AllDeclared start (Err e) new
declaration_stops start old new parts e inv other s =
    let one = stop_lifts any ADeclaration ADeclarationOf old old new [] declaration_of e (declaration_resumes old.tokens) (past_none old) s in
    stop_lifts is_end AllDeclared (Many ADeclaration) start start new [] parts_of e (means_resumes is_end parts_of (Many ADeclaration) start.tokens) (past_none start)
    (many_stops is_end ADeclaration start old new inv.0 e inv.1 other one)

-- and one more
pub declaration_taken : (start old mid : Placed) (parts more : Whole) (d : Declaration) → PartsTaken start old parts → is_end (next old) ≡ false
    → Taken any ADeclarationOf old mid d → more ≡ with_declaration (declaration_of d) parts → PartsTaken start mid more
declaration_taken start old mid parts more d inv other t pushed =
    let one = taken_lifts any ADeclaration ADeclarationOf old old mid [] declaration_of d (declaration_resumes old.tokens) (past_none old) t in (
      inv.0 ++ declaration_of d ∷ [],
      one_taken is_end ADeclaration declaration_law start old mid inv.0 (declaration_of d) inv.1 other one,
      pushed ∙ ap (with_declaration (declaration_of d)) inv.2 ∙ sym (parts_more inv.0 (declaration_of d)),
    )

-- the end is next
pub all_declared : (start now : Placed) (parts : Whole) → PartsTaken start now parts → is_end (next now) ≡ true → Taken is_end AllDeclared start now parts
all_declared start now parts inv ends =
    subst (Taken is_end AllDeclared start now) (sym inv.2)
    (taken_lifts is_end AllDeclared (Many ADeclaration) start start now [] parts_of inv.0 (means_resumes is_end parts_of (Many ADeclaration) start.tokens) (past_none start)
    (all_taken is_end ADeclaration start now inv.0 inv.1 ends))
