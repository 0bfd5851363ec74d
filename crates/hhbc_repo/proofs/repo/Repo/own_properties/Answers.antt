use Rattle.std.proofs.Common.{◌≡◌, ◌<◌, ℕ, List, Some, length, slice_get, ap, ap₂, sym, subst, ◌∙◌, arith}
use Rattle.hhbc_repo.specs.Bodies.{class_names, numbers, own_from}
use Rattle.hhbc_repo.specs.Linked.{Linked}
use Rattle.hhbc_repo.specs.LookUps.{all_properties}
use Rattle.hhbc_repo.specs.MemberNames.{MemberNames}
use Rattle.hhbc_repo.specs.Members.{starts}
use Rattle.hhbc_repo.specs.LinkFaults.{at_class}
use Rattle.hhbc_repo.proofs.Placed.{counts_are, own_begins, tables_count}
use Rattle.hhbc_repo.proofs.repo.Repo.own_properties.Goals as goal

pub returns : goal.returns
returns c =
    let r = c.args.self.now in
    let m : c.self.inside.properties ≡ record { first = 0; names = all_properties r } = c.self.invariant.properties_are ∙ ap (λ (l : Linked). record { first = 0; names = all_properties l }) c.self.view_is in
    let begins : slice_get (starts 0 (all_properties r)) c.args.class ≡ Some c.first_of.result = ap (λ (t : MemberNames). slice_get (starts t.first t.names) c.args.class) (sym m) ∙ c.first_of.ensures in
    let count : c.count_of.result ≡ length (at_class (slice_get (all_properties r) c.args.class)) = c.count_of.ensures ∙ ap (λ (t : MemberNames). length (at_class (slice_get t.names c.args.class))) m in
    ap (λ (ns : List ℕ). own_from 0 ns c.args.class) (sym (counts_are r))
    ∙ own_begins 0 (all_properties r) c.args.class c.first_of.result begins
    ∙ ap (numbers c.first_of.result) (sym count)

pub first_of-requires : goal.first_of-requires
first_of-requires c =
    let r = c.args.self.now in
    let m = c.self.invariant.properties_are ∙ ap (λ (l : Linked). record { first = 0; names = all_properties l }) c.self.view_is in
    let e = ap (λ (t : MemberNames). length t.names) m in
    let k = tables_count r in
    let h = c.requires in
    omega (arith, e, k, h)
