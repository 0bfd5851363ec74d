use Rattle.std.proofs.Common.{◌≡◌, ◌+◌, ◌++◌, ◌∷◌, [], suc, drop, List, ℕ, sym, ap, ◌∙◌, arith, rules}
use Rattle.std.proofs.Math.Seq.{drop-cons}
use Rattle.hhbc_repo.specs.declared.repo.Class.{Class}
use Rattle.hhbc_repo.specs.declared.body.Body.{Body}
use Rattle.hhbc_repo.specs.MemberNames.{MemberNames}
use Rattle.hhbc_repo.specs.LookUps.{method_names, no_names, function_names}
use Rattle.hhbc_repo.proofs.Numbered.{listed-more}
use Rattle.hhbc_repo.proofs.members.methods_of.Goals as goal

pub loop-class-preserved : goal.loop-class-preserved
loop-class-preserved c =
    let classes = c.args.classes.now in
    let at = c.loop-class.class-index in
    let class = c.class-item.result in
    let one : suc at ≡ at + 1 = omega arith in
    let left : drop at classes ≡ class ∷ drop (at + 1) classes =
    rw (sym one) (drop-cons classes at class c.loop-class-test.true ∙ ap (λ (k : Class). k ∷ drop (suc at) classes) (sym c.class-item.is)) in
    (search rules, listed-more (λ (c : Class). function_names c.methods) c.args.first (([] ∷ no_names) ++ method_names c.args.classes.now) c.loop-class.members.names _ class (drop at classes) (drop (at + 1) classes) left (ap (λ (m : MemberNames). m.names) c.in_ok-add.ensures ∙ ap (λ (n : List (List ℕ)). c.loop-class.members.names ++ n ∷ []) (c.in_ok-table_of_bodies.ensures ∙ ap (λ (bs : List Body). function_names bs) c.as_slice-methods.ensures)) c.loop-class.invariant.1)
