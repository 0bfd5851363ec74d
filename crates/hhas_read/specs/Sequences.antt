-- What member sequences are made of.
use Rattle.std.specs.Prelude.{◌≡◌, ℕ, Bool, true, ◌||◌, List}
use Rattle.std.specs.List.{list_any}
use Rattle.hhbc_ops.specs.declared.words.QueryMode.{QueryMode}
use Rattle.hhbc_ops.specs.declared.words.SetOpOp.{SetOpOp}
use Rattle.hhbc_ops.specs.declared.words.IncDecOp.{IncDecOp}
use Rattle.hhbc_repo.specs.declared.parts.MemberKeyParts.{MemberKeyParts}
use Rattle.hhbc_repo.specs.declared.parts.FinalParts.{FinalParts}
use Rattle.hhbc_repo.specs.declared.parts.FinalParts.TheVariants as finals
use Rattle.hhbc_repo.specs.Languages.{Lang, Both, Many, Means}
use Rattle.hhbc_repo.specs.CodeSyntax.{AChange, ADim, AFinal, AMode, AnIndex, ASetOp, ChangeKey, QueryKey, SetKey, is_nullsafe, is_query}

abbrev pub query : ℕ × (QueryMode × MemberKeyParts) → FinalParts
query p = finals.Query p.0 p.1.0 p.1.1

abbrev pub set : ℕ × MemberKeyParts → FinalParts
set p = finals.Set p.0 p.1

abbrev pub set_op : ℕ × (SetOpOp × MemberKeyParts) → FinalParts
set_op p = finals.SetOp p.0 p.1.0 p.1.1

abbrev pub inc_dec : ℕ × (IncDecOp × MemberKeyParts) → FinalParts
inc_dec p = finals.IncDec p.0 p.1.0 p.1.1

abbrev pub unset : ℕ × MemberKeyParts → FinalParts
unset p = finals.Unset p.0 p.1

-- what stands behind the word of each final
abbrev pub QueryOperands : Lang FinalParts
QueryOperands = Means query (Both AnIndex (Both AMode QueryKey))

abbrev pub SetOperands : Lang FinalParts
SetOperands = Means set (Both AnIndex SetKey)

abbrev pub SetOpOperands : Lang FinalParts
SetOpOperands = Means set_op (Both AnIndex (Both ASetOp ChangeKey))

abbrev pub IncDecOperands : Lang FinalParts
IncDecOperands = Means inc_dec (Both AnIndex (Both AChange ChangeKey))

abbrev pub UnsetOperands : Lang FinalParts
UnsetOperands = Means unset (Both AnIndex ChangeKey)

-- a final behind keys, with whether one of them is null-safe
abbrev pub FinalAfter : Bool → Lang FinalParts
FinalAfter nullsafe ts f = AFinal ts f × (nullsafe ≡ true → is_query f ≡ true)

-- keys with Dim and a final, behind keys of which one is null-safe or none
abbrev pub DimsAfter : Bool → Lang (List MemberKeyParts × FinalParts)
DimsAfter nullsafe ts p = Both (Many ADim) AFinal ts p × (nullsafe || list_any is_nullsafe p.0 ≡ true → is_query p.1 ≡ true)
