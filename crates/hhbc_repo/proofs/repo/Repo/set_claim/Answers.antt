use Rattle.std.proofs.Common.{◌≡◌, ◌<◌, ◌^◌, ℕ, List, Some, None, true, length, slice_get, get_or, ap, sym, subst, ◌∙◌}
use Rattle.std.proofs.lemmas.Option.{slice_get-get_or}
use Rattle.hhbc_repo.specs.declared.body.Body.{Body}
use Rattle.hhbc_repo.specs.declared.repo.Class.{Class}
use Rattle.hhbc_repo.specs.declared.homes.Home.{Home}
use Rattle.hhbc_repo.specs.Linked.{Linked}
use Rattle.hhbc_repo.specs.Bodies.{bodies, body_at, class_names}
use Rattle.hhbc_repo.specs.ChangedClaims.{claimed}
use Rattle.hhbc_repo.specs.Claims.{body_claims_within, changed_body}
use Rattle.hhbc_repo.specs.Homes.{homes_of}
use Rattle.hhbc_repo.specs.Kept.{Kept}
use Rattle.hhbc_repo.specs.Lengths.{body_fewer}
use Rattle.hhbc_repo.proofs.ClaimsSet.{claim_kept, when_function, when_method}
use Rattle.hhbc_repo.proofs.HomesFound.{listed}
use Rattle.hhbc_repo.proofs.repo.Repo.set_claim.Goals as goal

abbrev repo : List Body → List Class → Linked
repo fs cs = record { functions = fs; classes = cs }

abbrev nowhere : Home
nowhere = record { class = None; place = 0 }

in_range : (n : ℕ) (r s : Linked) → r ≡ s → n < length (bodies s) → n < length (bodies r)
in_range n r s e h = subst (λ (l : Linked). n < length (bodies l)) (sym e) h

at_home : (r : Linked) (homes : List Home) (n : ℕ) → homes ≡ homes_of r.functions r.classes → n < length (bodies r) → slice_get (homes_of r.functions r.classes) n ≡ Some (get_or homes n nowhere)
at_home r homes n e h = ap (λ (hs : List Home). slice_get hs n) (sym e) ∙ slice_get-get_or homes n nowhere (listed r homes e n nowhere h)

pub bounds-as_slice-body : goal.bounds-as_slice-body
bounds-as_slice-body c =
    let r = repo c.self.inside.functions c.self.inside.classes in
    listed r c.as_slice.result.now (c.as_slice.ensures ∙ c.self.invariant.homes_are) c.args.body nowhere (in_range c.args.body r c.args.self.now c.self.view_is c.requires.within)

pub overflow_sub-class : goal.overflow_sub-class
overflow_sub-class c =
    let r = repo c.self.inside.functions c.self.inside.classes in
    let there = at_home r c.as_slice.result.now c.args.body (c.as_slice.ensures ∙ c.self.invariant.homes_are) (in_range c.args.body r c.args.self.now c.self.view_is c.requires.within) in
    (when_method (claimed c.args.claim) r c.args.body c.in-Some.class (get_or c.as_slice.result.now c.args.body nowhere) there c.in-Some.is).0

function_is : (c : goal.After-claim_body) → repo c.claim_body.new.bodies c.self.inside.classes ≡ changed_body (claimed c.args.claim) c.args.body (repo c.self.inside.functions c.self.inside.classes)
function_is c =
    let r = repo c.self.inside.functions c.self.inside.classes in
    let there = at_home r c.as_slice.result.now c.args.body (c.as_slice.ensures ∙ c.self.invariant.homes_are) (in_range c.args.body r c.args.self.now c.self.view_is c.requires.within) in
    ap (λ (bs : List Body). repo bs c.self.inside.classes) c.claim_body.ensures
    ∙ sym (when_function (claimed c.args.claim) r c.args.body (get_or c.as_slice.result.now c.args.body nowhere) there c.in-None.is)

method_is : (c : goal.After-claim_method) → repo c.self.inside.functions c.claim_method.new.classes ≡ changed_body (claimed c.args.claim) c.args.body (repo c.self.inside.functions c.self.inside.classes)
method_is c =
    let r = repo c.self.inside.functions c.self.inside.classes in
    let there = at_home r c.as_slice.result.now c.args.body (c.as_slice.ensures ∙ c.self.invariant.homes_are) (in_range c.args.body r c.args.self.now c.self.view_is c.requires.within) in
    ap (λ (cs : List Class). repo c.self.inside.functions cs) c.claim_method.ensures
    ∙ sym (when_method (claimed c.args.claim) r c.args.body c.in-Some.class (get_or c.as_slice.result.now c.args.body nowhere) there c.in-Some.is).1

pub invariant_of-self : goal.invariant_of-self
invariant_of-self c =
    let i = c.self.inside in
    let r = repo i.functions i.classes in
    let fits = subst (λ (l : Linked). (b : Body) → body_at l c.args.body ≡ Some b → (body_claims_within (length (class_names l)) (claimed c.args.claim b) ≡ true) × (body_fewer (2 ^ 32) (claimed c.args.claim b) ≡ true)) (sym c.self.view_is) c.requires.fits in
    subst (λ (l : Linked). Kept l i.function_table i.class_table i.class_list i.methods i.properties i.tree i.homes i.owners i.named_methods i.named_properties) (sym (function_is c))
    (claim_kept i.function_table i.class_table i.class_list i.methods i.properties i.tree i.homes i.owners i.named_methods i.named_properties c.args.claim c.args.body r fits c.self.invariant)

pub invariant_of-self-in-Some : goal.invariant_of-self-in-Some
invariant_of-self-in-Some c =
    let i = c.self.inside in
    let r = repo i.functions i.classes in
    let fits = subst (λ (l : Linked). (b : Body) → body_at l c.args.body ≡ Some b → (body_claims_within (length (class_names l)) (claimed c.args.claim b) ≡ true) × (body_fewer (2 ^ 32) (claimed c.args.claim b) ≡ true)) (sym c.self.view_is) c.requires.fits in
    subst (λ (l : Linked). Kept l i.function_table i.class_table i.class_list i.methods i.properties i.tree i.homes i.owners i.named_methods i.named_properties) (sym (method_is c))
    (claim_kept i.function_table i.class_table i.class_list i.methods i.properties i.tree i.homes i.owners i.named_methods i.named_properties c.args.claim c.args.body r fits c.self.invariant)

pub returns-in-None : goal.returns-in-None
returns-in-None c = function_is c ∙ ap (changed_body (claimed c.args.claim) c.args.body) c.self.view_is

pub returns-in-Some : goal.returns-in-Some
returns-in-Some c = method_is c ∙ ap (changed_body (claimed c.args.claim) c.args.body) c.self.view_is
