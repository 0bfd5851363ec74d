-- The parts of which classes are made stand apart from what follows them, and each has one value.
use Rattle.std.proofs.Common.{◌≡◌, ℕ, Bool, true, false, List, [], ◌∷◌, refl, sym, ap, codes, Some, None}
use Rattle.std.proofs.lemmas.Bool.{eqb-true}
use Rattle.hhas_lex.specs.Tokens.{Token, Directive, Word, Local, Integer, Str, Mark, LessEqual, End, Bad}
use Rattle.hhbc_repo.specs.Languages.{Behind, Both, Ended, Perhaps}
use Rattle.hhbc_repo.specs.CodeSyntax.{AWord}
use Rattle.hhbc_repo.specs.TextSyntax.{AScalar, AnInitial}
use Rattle.hhbc_repo.specs.TypeSyntax.{AType}
use Rattle.hhas_read.specs.ClassMembers.{AParent, ConstValue, HeldToEnd, PropertyValue, only_mark}
use Rattle.hhas_read.specs.Reading.{any}
use Rattle.hhas_read.specs.Written.{ends_type}
use Rattle.hhas_read.proofs.Reserved.{never_both}
use Rattle.hhas_read.proofs.Joining.{Lawful, behind_lawful, both_lawful, ended_lawful}
use Rattle.hhas_read.proofs.OneAtom.{a_word}
use Rattle.hhas_read.proofs.Optional.{optional_lawful, perhaps}
use Rattle.hhas_read.proofs.TypeLaws.{type_law}
use Rattle.hhas_read.proofs.ValueLaws.{initial_law, scalar_law}

pub mark_is_no_directive : (b : ℕ) (w : List ℕ) → Mark b ≡ Directive w → ⊥
mark_is_no_directive b w e = absurd (cc e)

-- only a mark follows
pub only_is : (b : ℕ) (t : Token) → only_mark b t ≡ true → t ≡ Mark b
only_is b (Mark c) e = ap Mark (eqb-true c b e)
only_is b (Directive w) e = absurd (never_both (sym e))
only_is b (Word w) e = absurd (never_both (sym e))
only_is b (Local w) e = absurd (never_both (sym e))
only_is b (Integer i) e = absurd (never_both (sym e))
only_is b (Str s) e = absurd (never_both (sym e))
only_is b LessEqual e = absurd (never_both (sym e))
only_is b End e = absurd (never_both (sym e))
only_is b Bad e = absurd (never_both (sym e))

pub not_only : (b : ℕ) (t : Token) → (t ≡ Mark b → ⊥) → only_mark b t ≡ false
not_only b t other = by (only_mark b t) refl
  where
    by : (r : Bool) → only_mark b t ≡ r → only_mark b t ≡ false
    by true e = absurd (other (only_is b t e))
    by false e = e

-- ---- constants

pub scalar_end_law : Lawful any (Ended AScalar (Mark 59 ∷ []))
scalar_end_law = ended_lawful any any AScalar (Mark 59) [] refl refl scalar_law

pub const_value_law : Lawful any ConstValue
const_value_law = behind_lawful any (Mark 61 ∷ []) (Ended AScalar (Mark 59 ∷ [])) refl scalar_end_law

pub const_law : Lawful any (Both AWord ConstValue)
const_law = both_lawful any any AWord ConstValue (λ b v x n o. refl) a_word const_value_law

-- ---- properties

pub held_law : Lawful any HeldToEnd
held_law =
    let holds = Directive (codes "holds") in
    ended_lawful any (only_mark 59) (Perhaps (Behind (holds ∷ []) AType)) (Mark 59) [] refl refl
    (optional_lawful (only_mark 59) ends_type (Perhaps (Behind (holds ∷ []) AType)) holds AType Some None (perhaps holds AType) refl
    (λ t e. ap ends_type (only_is 59 t e)) type_law)

pub initial_held_law : Lawful any (Both AnInitial HeldToEnd)
initial_held_law = both_lawful any any AnInitial HeldToEnd (λ b v x n o. refl) initial_law held_law

pub property_value_law : Lawful any PropertyValue
property_value_law = behind_lawful any (Mark 61 ∷ []) (Both AnInitial HeldToEnd) refl initial_held_law

pub property_law : Lawful any (Both AWord PropertyValue)
property_law = both_lawful any any AWord PropertyValue (λ b v x n o. refl) a_word property_value_law

-- ---- parents

pub parent_law : Lawful any AParent
parent_law = behind_lawful any (Word (codes "extends") ∷ []) AWord refl a_word

pub perhaps_parent_law : Lawful (only_mark 123) (Perhaps AParent)
perhaps_parent_law =
    let extends = Word (codes "extends") in
    optional_lawful (only_mark 123) any (Perhaps AParent) extends AWord Some None (perhaps extends AWord) refl (λ t e. refl) a_word
