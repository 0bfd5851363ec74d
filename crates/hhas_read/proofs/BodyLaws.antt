-- Bodies and their parts stand apart from what follows, and each has one value.
use Rattle.std.proofs.Common.{◌≡◌, ℕ, Bool, true, false, ◌&&◌, List, [], ◌∷◌, ◌++◌, inl, inr, refl, sym, ap, ◌∙◌, codes}
use Rattle.hhas_lex.specs.Tokens.{Token, Directive, Local, Mark, front}
use Rattle.hhbc_repo.specs.BodySyntax.{ABody, Declared, Inner, Iterators, Params, Returns}
use Rattle.hhbc_repo.specs.CodeSyntax.{ALocal, AWord, UpTo}
use Rattle.hhbc_repo.specs.Languages.{Both}
use Rattle.hhbc_repo.specs.TypeSyntax.{AType}
use Rattle.hhas_read.specs.Directives.{no_directive}
use Rattle.hhas_read.specs.Reading.{LocalsTo, any}
use Rattle.hhas_read.specs.Written.{ends_type}
use Rattle.hhas_read.proofs.BodyForms.{Braced, Count, Counted, ItemsToEnd, Named, Stated, StatedToBrace, a_result, after_stated, body_named, body_of, itself, not_again, some_count, some_locals}
use Rattle.hhas_read.proofs.FormLaws.{local_lawful}
use Rattle.hhas_read.proofs.Joining.{Lawful, LeadsOn, behind_lawful, both_lawful, ended_lawful}
use Rattle.hhas_read.proofs.Listed.{listed_split}
use Rattle.hhas_read.proofs.ListedLaws.{listed_lawful}
use Rattle.hhas_read.proofs.Making.{made_lawful}
use Rattle.hhas_read.proofs.OneAtom.{a_word}
use Rattle.hhas_read.proofs.Operands.{number_lawful}
use Rattle.hhas_read.proofs.Optional.{optional_lawful}
use Rattle.hhas_read.proofs.Resuming.{cancel}
use Rattle.hhas_read.proofs.ItemLaws.{items_law, items_no_head}
use Rattle.hhas_read.proofs.TypeLaws.{type_law}

-- ---- locals in parentheses

pub locals_to_parenthesis : Lawful any (LocalsTo 41)
locals_to_parenthesis = listed_lawful 44 ALocal (Mark 41) local_lawful (λ e. absurd (cc e)) refl

pub locals_to_semicolon : Lawful any (LocalsTo 59)
locals_to_semicolon = listed_lawful 44 ALocal (Mark 59) local_lawful (λ e. absurd (cc e)) refl

local_first : (w : List Token) (v : List ℕ) (vs : List (List ℕ)) (x : List Token) → LocalsTo 41 w (v ∷ vs) → front (w ++ x) ≡ Local v
local_first w v vs x n =
    let m = listed_split 44 ALocal (Mark 41) w v vs n in ap (λ l. front (l ++ x)) (m.tokens ∙ ap (λ l. l ++ m.second) m.left)

empty_apart : {A : Type 0} (a b x y : List Token) (v : List ℕ) (vs : List (List ℕ)) → Params a [] → Params b (v ∷ vs) → a ++ x ≡ b ++ y → A
empty_apart a b x y v vs n m e =
    let rest : Mark 41 ∷ x ≡ m.rest ++ y = cancel (Mark 40 ∷ []) _ _ (sym (ap (λ l. l ++ x) n) ∙ e ∙ ap (λ l. l ++ y) m.tokens) in
    let mark : Mark 41 ≡ Local v = ap front rest ∙ local_first m.rest v vs y m.word in
    absurd (cc mark)

params_same : (a b x y : List Token) (v w : List (List ℕ)) → Params a v → Params b w → a ++ x ≡ b ++ y → (a ≡ b) × (v ≡ w)
params_same a b x y [] [] n m e = (n ∙ sym m, refl)
params_same a b x y [] (w ∷ ws) n m e = empty_apart a b x y w ws n m e
params_same a b x y (v ∷ vs) [] n m e = empty_apart b a y x v vs m n (sym e)
params_same a b x y (v ∷ vs) (w ∷ ws) n m e =
    (behind_lawful any (Mark 40 ∷ []) (LocalsTo 41) refl locals_to_parenthesis).same a b x y (v ∷ vs) (w ∷ ws) n m refl refl e

pub params_law : Lawful any Params
params_law = record {
  same = λ a b x y v w n m o p e. params_same a b x y v w n m e;
  some = record { more = Mark 40 ∷ Mark 41 ∷ []; value = []; word = refl; proper = refl };
}

-- ---- what is stated of a result

first_true : (a b : Bool) → a && b ≡ true → a ≡ true
first_true true b e = refl
first_true false b e = e

pub returns_law : Lawful after_stated Returns
returns_law =
    optional_lawful after_stated ends_type Returns (Directive (codes "returns")) AType _ _ a_result refl
    (λ s e. first_true (ends_type s) (no_directive (codes "returns") s) e) type_law

pub stated_law : Lawful any StatedToBrace
stated_law = ended_lawful any after_stated Returns (Mark 123) [] refl refl returns_law

-- ---- between the braces

pub declared_locals_law : Lawful (no_directive (codes "declvars")) Declared
declared_locals_law =
    optional_lawful (no_directive (codes "declvars")) any Declared (Directive (codes "declvars")) (LocalsTo 59) (λ v. v) [] some_locals (itself (codes "declvars"))
    (λ s e. refl) locals_to_semicolon

pub count_law : Lawful any Count
count_law = ended_lawful any any (UpTo 65535) (Mark 59) [] refl refl (number_lawful 65535)

pub iterators_law : Lawful (no_directive (codes "numiters")) Iterators
iterators_law =
    optional_lawful (no_directive (codes "numiters")) any Iterators (Directive (codes "numiters")) Count (λ v. v) 0 some_count (itself (codes "numiters"))
    (λ s e. refl) count_law

-- items begin with neither directive
pub items_lead : LeadsOn any ItemsToEnd (no_directive (codes "numiters"))
items_lead b v x n o = not_again (codes "numiters") (front (b ++ x)) ((items_no_head b v x n).1)

pub counted_law : Lawful any Counted
counted_law = both_lawful any (no_directive (codes "numiters")) Iterators ItemsToEnd items_lead iterators_law items_law

pub counted_leads : LeadsOn any Counted (no_directive (codes "declvars"))
counted_leads b v x n o = elim n.left [
  | inl m ↦ ap (λ l. no_directive (codes "declvars") (front (l ++ x))) (n.tokens ∙ ap (λ l. l ++ n.second) m.tokens)
  | inr m ↦ ap (λ l. no_directive (codes "declvars") (front (l ++ x))) (n.tokens ∙ ap (λ l. l ++ n.second) m.0)
      ∙ not_again (codes "declvars") (front (n.second ++ x)) ((items_no_head n.second v.1 x n.right).0)
]

pub inner_law : Lawful any Inner
inner_law = both_lawful any (no_directive (codes "declvars")) Declared Counted counted_leads declared_locals_law counted_law

-- ---- the whole

pub braced_leads : LeadsOn any Braced after_stated
braced_leads b v x n o = ap (λ l. after_stated (front (l ++ x))) n.tokens

pub stated_and_inner_law : Lawful any Stated
stated_and_inner_law = both_lawful any after_stated Returns Braced braced_leads returns_law (behind_lawful any (Mark 123 ∷ []) Inner refl inner_law)

pub params_on_law : Lawful any (Both Params Stated)
params_on_law = both_lawful any any Params Stated (λ b v x n o. refl) params_law stated_and_inner_law

pub body_law : Lawful any ABody
body_law = made_lawful any ABody Named body_of body_named (both_lawful any any AWord (Both Params Stated) (λ b v x n o. refl) a_word params_on_law)
