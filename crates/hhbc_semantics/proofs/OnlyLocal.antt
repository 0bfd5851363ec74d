-- Where all codes are those of constants and locals.
use Rattle.std.proofs.Common.{◌≡◌, ℕ, zero, suc, refl, sym, subst, Option, Some, None, List, slice_get, length}
use Rattle.hhbc_ops.specs.declared.op.Op.{Op}
use Rattle.hhbc_ops.specs.declared.op.Op.TheVariants as ops
use Rattle.hhbc_repo.specs.declared.code.Code.{Code}
use Rattle.hhbc_repo.specs.declared.code.Code.TheVariants as kinds
use Rattle.hhbc_repo.specs.declared.code.Imm.{Imm}
use Rattle.hhbc_repo.specs.declared.body.Body.{Body}
use Rattle.hhbc_repo.specs.declared.body.Position.{Position}
use Rattle.hhbc_repo.specs.Linked.{Linked}
use Rattle.hhbc_repo.specs.Bodies.{code_of, code_at}
use Rattle.hhbc_repo.specs.Bare.{bare}
use Rattle.hhbc_semantics.specs.Form.{FitsOperands, FitsCode, IsSecondBody, IsSecondForm}
use Rattle.hhbc_semantics.specs.LocalCodes.{IsLocalOp, IsLocalCode, OnlyLocalCodes}
use Rattle.hhbc_semantics.proofs.FirstForm.{only, second_is}
use Rattle.hhbc_semantics.proofs.ShapeTables.{body_bare, code_of_bare}
use Rattle.hhbc_semantics.proofs.Walking.{claimed_at}

fitting_op : (count : ℕ) (op : Op) (is : List Imm) → FitsOperands count op is → IsLocalOp op
fitting_op count ops.Null is h = tt
fitting_op count ops.True is h = tt
fitting_op count ops.False is h = tt
fitting_op count ops.Int is h = tt
fitting_op count ops.PopC is h = tt
fitting_op count ops.SetL is h = tt
fitting_op count ops.CGetL is h = tt
fitting_op count ops.RetC is h = tt
fitting_op count _ is h = absurd h

fitting_code : (count : ℕ) (c : Code) → FitsCode count c → IsLocalCode c
fitting_code count (kinds.Plain i) h = fitting_op count i.op i.imms h
fitting_code count (kinds.Member m) h = absurd h

module _ (b : Body) (form : IsSecondBody b) where
  local_at : (p : ℕ) (c : Code) (o : Option Position) → slice_get b.positions p ≡ o → code_of o ≡ Some c → IsLocalCode c
  local_at p c None at e = absurd (cc)
  local_at p c (Some q) at e =
      let k : q.code ≡ c = cc in
      subst (λ c. IsLocalCode c) k (fitting_code (length b.locals) q.code (claimed_at (length b.locals) b.positions p q form.positions at).fits)

  only_is_local : OnlyLocalCodes (only b)
  only_is_local zero c is p x at =
      let k : b ≡ c = cc in
      local_at p x (slice_get b.positions p) refl (subst (λ c. code_at c p ≡ Some x) (sym k) at)
  only_is_local (suc n) c is p x at = absurd (cc)

-- the forms that are read have no other codes
pub second_is_local : (r : Linked) → IsSecondForm r → OnlyLocalCodes r
second_is_local r form = subst (λ r. OnlyLocalCodes r) (sym (second_is r form)) (only_is_local form.body form.second)

-- a repository has the same codes without its claims
pub bare_is_local : (r : Linked) → OnlyLocalCodes r → OnlyLocalCodes (bare r)
bare_is_local r local n b is p c at =
    let x = body_bare r n b is in
    local n x.0 x.1 p c (code_of_bare x.0 p c (subst (λ b. code_at b p ≡ Some c) (sym x.2) at))
