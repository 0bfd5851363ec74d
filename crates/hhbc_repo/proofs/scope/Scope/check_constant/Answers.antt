use Rattle.std.proofs.Common.{◌≡◌, ℕ, Bool, Option, Some, None, true, false, refl, sym, ap, ◌∙◌, subst}
use Rattle.type_lattice.specs.Classes.{chain}
use Rattle.hhbc_repo.specs.Checks.{TellsFirst}
use Rattle.hhbc_repo.specs.LinkFaults.{Whole, class_of, constant_faults, constants, along, parents, names}
use Rattle.hhbc_repo.specs.LinkFaults.{known as known_faults}
use Rattle.hhbc_repo.specs.declared.link_fault.LinkKind.TheVariants as kinds
use Rattle.hhbc_repo.proofs.Checking.{check_passes}
use Rattle.hhbc_repo.proofs.scope.Scope.check_constant.Goals as goal

pub returns-then-has_constant : goal.returns-then-has_constant
returns-then-has_constant c =
    let p = c.args.self.now in
    let name = c.args.name.now in
    let class = c.args.class.now in
    let number = c.in-Some.number in
    let at : class_of p.whole class ≡ Some number = ap (λ (w : Whole). class_of w class) (sym (c.listed.ensures ∙ c.known.ensures)) ∙ sym c.class_of.ensures ∙ c.in-Some.is in
    let has : names (along (constants p.whole) (chain (parents p.whole) number)) name ≡ true =
    ap (λ (w : Whole). names (along (constants w) (chain (parents w) number)) name) (sym c.known-in-Some.ensures) ∙ sym c.has_constant.ensures ∙ c.if-has_constant.true in
    (ap (λ (o : Option ℕ). constant_faults p name class o) at ∙ check_passes (names (along (constants p.whole) (chain (parents p.whole) number)) name) kinds.UnknownName p.owner name 0 has, refl)

pub returns-else-has_constant : goal.returns-else-has_constant
returns-else-has_constant c =
    let p = c.args.self.now in
    let name = c.args.name.now in
    let class = c.args.class.now in
    let number = c.in-Some.number in
    let at : class_of p.whole class ≡ Some number = ap (λ (w : Whole). class_of w class) (sym (c.listed.ensures ∙ c.known.ensures)) ∙ sym c.class_of.ensures ∙ c.in-Some.is in
    let has : names (along (constants p.whole) (chain (parents p.whole) number)) name ≡ false =
    ap (λ (w : Whole). names (along (constants w) (chain (parents w) number)) name) (sym c.known-in-Some.ensures) ∙ sym c.has_constant.ensures ∙ c.if-has_constant.false in
    subst (λ (o : Option ℕ). TellsFirst (constant_faults p name class o) c.missing.result) (sym at)
    (subst (λ (b : Bool). TellsFirst (known_faults b p.owner name) c.missing.result) (sym has) c.missing.ensures)

pub returns-in-None : goal.returns-in-None
returns-in-None c =
    let p = c.args.self.now in
    let name = c.args.name.now in
    let class = c.args.class.now in
    let at : class_of p.whole class ≡ None = ap (λ (w : Whole). class_of w class) (sym (c.listed.ensures ∙ c.known.ensures)) ∙ sym c.class_of.ensures ∙ c.in-None.is in
    subst (λ (o : Option ℕ). TellsFirst (constant_faults p name class o) c.missing-in-None.result) (sym at) c.missing-in-None.ensures
