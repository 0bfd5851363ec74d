use Rattle.std.proofs.Common.{refl}
use Rattle.hhbc_semantics.specs.PlainTypes as types
use Rattle.hhbbc_top.proofs.Fitting.{only-str}
use Rattle.hhbbc_top.proofs.form.is_named.Goals as goal

pub returns-then-is_never : goal.returns-then-is_never
returns-then-is_never c = ((λ h. (types.Never, c.if-is_never.ensures.0 refl)), λ h. refl)

pub returns-then-is_cell : goal.returns-then-is_cell
returns-then-is_cell c = ((λ h. (types.Cell, c.if-is_cell.ensures.0 refl)), λ h. refl)

pub returns-then-is_uninit : goal.returns-then-is_uninit
returns-then-is_uninit c = ((λ h. (types.Uninit, c.if-is_uninit.ensures.0 refl)), λ h. refl)

pub returns-then-is_null : goal.returns-then-is_null
returns-then-is_null c = ((λ h. (types.Null, c.if-is_null.ensures.0 refl)), λ h. refl)

pub returns-then-is_false : goal.returns-then-is_false
returns-then-is_false c = ((λ h. (types.False, c.if-is_false.ensures.0 refl)), λ h. refl)

pub returns-then-is_true : goal.returns-then-is_true
returns-then-is_true c = ((λ h. (types.True, c.if-is_true.ensures.0 refl)), λ h. refl)

pub returns-then-is_bool : goal.returns-then-is_bool
returns-then-is_bool c = ((λ h. (types.Bool, c.if-is_bool.ensures.0 refl)), λ h. refl)

pub returns-then-is_int : goal.returns-then-is_int
returns-then-is_int c = ((λ h. (types.Int, c.if-is_int.ensures.0 refl)), λ h. refl)

pub returns : goal.returns
returns c = (
  (λ h. (types.Str, c.is_str.ensures.0 h)),
  (λ h. only-str c.args.t.now c.is_str.result c.if-is_never.ensures c.if-is_cell.ensures c.if-is_uninit.ensures c.if-is_null.ensures c.if-is_false.ensures c.if-is_true.ensures c.if-is_bool.ensures c.if-is_int.ensures c.is_str.ensures h),
)
