use Rattle.std.proofs.Common.{◌≡◌, ◌+◌, ◌++◌, ◌∷◌, [], suc, drop, map, codes, List, ℕ, sym, ap, ◌∙◌, arith, rules}
use Rattle.std.proofs.Math.Seq.{drop-cons}
use Rattle.hhbc_repo.specs.declared.repo.Class.{Class}
use Rattle.hhbc_repo.specs.declared.repo.Property.{Property}
use Rattle.hhbc_repo.specs.MemberNames.{MemberNames}
use Rattle.hhbc_repo.specs.LookUps.{property_names, no_names}
use Rattle.hhbc_repo.proofs.Numbered.{listed-more}
use Rattle.hhbc_repo.proofs.members.properties_of.Goals as goal

pub loop-class-preserved : goal.loop-class-preserved
loop-class-preserved c =
    let classes = c.args.classes.now in
    let at = c.loop-class.class-index in
    let class = c.class-item.result in
    let one : suc at ≡ at + 1 = omega arith in
    let left : drop at classes ≡ class ∷ drop (at + 1) classes =
    rw (sym one) (drop-cons classes at class c.loop-class-test.true ∙ ap (λ (k : Class). k ∷ drop (suc at) classes) (sym c.class-item.is)) in
    (search rules, listed-more (λ (c : Class). map (λ (p : Property). p.name) c.props) 0 (((codes "message" ∷ []) ∷ no_names) ++ property_names c.args.classes.now) c.loop-class.members.names _ class (drop at classes) (drop (at + 1) classes) left (ap (λ (m : MemberNames). m.names) c.in_ok-add-2.ensures ∙ ap (λ (n : List (List ℕ)). c.loop-class.members.names ++ n ∷ []) (c.in_ok-table_of_properties.ensures ∙ ap (λ (ps : List Property). map (λ (p : Property). p.name) ps) c.as_slice-properties.ensures)) c.loop-class.invariant.1)
