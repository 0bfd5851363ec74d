use Rattle.std.proofs.Common.{◌≡◌, ◌^◌, ◌++◌, ◌∷◌, [], true, List, ap, sym, subst, subst₂, ◌∙◌}
use Rattle.hhbc_repo.specs.declared.body.Body.{Body}
use Rattle.hhbc_repo.specs.declared.repo.Class.{Class}
use Rattle.hhbc_repo.specs.Linked.{Linked}
use Rattle.hhbc_repo.specs.Lengths.{lists_fewer}
use Rattle.hhbc_repo.specs.LookUps.{Sound}
use Rattle.hhbc_repo.specs.Ranges.{few_iterators}
use Rattle.hhbc_repo.specs.Spelled.{HasSpelling}
use Rattle.hhbc_repo.proofs.OneFunction.{one_function}
use Rattle.hhbbc_top.proofs.ShortLists.{annotated_short}
use Rattle.hhbbc_top.proofs.annotation.annotated.Goals as goal

one_pushed : (P : Linked → Type 0) (before now : List Body) (classes : List Class) (b : Body) → now ≡ before ++ b ∷ [] → before ≡ [] → classes ≡ []
    → P (record { functions = b ∷ []; classes = [] }) → P (record { functions = now; classes = classes })
one_pushed P before now classes b n e k h =
    subst₂ (λ (fs : List Body) (cs : List Class). P (record { functions = fs; classes = cs })) (sym (n ∙ ap (λ (fs : List Body). fs ++ b ∷ []) e)) (sym k) h

pub new-requires-2 : goal.new-requires-2
new-requires-2 c =
    let of = λ (P : Linked → Type 0) (h : P (record { functions = c.in_ok-body.body ∷ []; classes = [] })).
    one_pushed P c.new-functions.result c.push.new.self c.new.result c.in_ok-body.body c.in_ok-push.ensures.ok c.new-functions.ensures c.new.ensures h in
    record {
      sound = of Sound (one_function c.in_ok-body.body c.in_ok-body.ensures.few
          (subst (λ (r : Linked). lists_fewer (2 ^ 32) r ≡ true) (sym c.in_ok-body.ensures.is) (annotated_short c.linked_bodies_keep_to_ranges.ensures c.args.main c.requires)));
      spelled = of HasSpelling (subst HasSpelling (sym c.in_ok-body.ensures.is) c.requires);
    }
