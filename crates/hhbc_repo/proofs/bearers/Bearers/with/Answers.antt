use Rattle.std.proofs.Common.{◌≡◌, ◌<◌, ◌++◌, ℕ, Bool, List, [], ◌∷◌, None, Some, length, ap, sym, subst, ◌∙◌}
use Rattle.hhbc_repo.specs.Bearers.{Bearers, borne}
use Rattle.hhbc_repo.specs.LinkFaults.{is_name, place_in}
use Rattle.hhbc_repo.proofs.Borne.{grown, if_ok, longer, perhaps}
use Rattle.hhbc_repo.proofs.Elements.{slice_inside}
use Rattle.hhbc_repo.proofs.NumbersPut.{absent_names, place_inside}
use Rattle.hhbc_repo.proofs.bearers.Bearers.with.Goals as goal

paired : (t s : Bearers) → t ≡ s → length t.names ≡ length t.numbers → length s.names ≡ length s.numbers
paired t s e h = subst (λ (u : Bearers). length u.names ≡ length u.numbers) e h

pub longer-requires : goal.longer-requires
longer-requires c =
    let there : place_in c.args.self.names c.args.name.now ≡ Some c.in-Some.place = ap (λ (t : Bearers). place_in t.names c.args.name.now) (sym c.self.view_is) ∙ sym c.find.ensures ∙ c.in-Some.is in
    subst (λ (n : ℕ). c.in-Some.place < n) (paired _ c.args.self c.self.view_is c.self.invariant) (place_inside c.args.self.names c.args.name.now c.in-Some.place there)

pub grown-requires : goal.grown-requires
grown-requires c =
    absent_names c.args.self.names c.args.name.now (ap (λ (t : Bearers). place_in t.names c.args.name.now) (sym c.self.view_is) ∙ sym c.find.ensures ∙ c.in-None.is)

pub returns-in-Some : goal.returns-in-Some
returns-in-Some c =
    let t = c.args.self in
    let q = c.args.name.now in
    let pairs = paired _ t c.self.view_is c.self.invariant in
    let there : place_in t.names q ≡ Some c.in-Some.place = ap (λ (u : Bearers). place_in u.names q) (sym c.self.view_is) ∙ sym c.find.ensures ∙ c.in-Some.is in
    let v = slice_inside t.numbers c.in-Some.place (subst (λ (n : ℕ). c.in-Some.place < n) pairs (place_inside t.names q c.in-Some.place there)) in
    if_ok c.longer.result _ _ (λ u h other. ap (λ (x : Bearers). borne x other) (h v.0 v.1) ∙ longer t.names t.numbers pairs q c.args.number c.in-Some.place v.0 there v.1 other) c.longer.ensures

pub returns-in-None : goal.returns-in-None
returns-in-None c =
    let t = c.args.self in
    let q = c.args.name.now in
    let absent : place_in t.names q ≡ None = ap (λ (u : Bearers). place_in u.names q) (sym c.self.view_is) ∙ sym c.find.ensures ∙ c.in-None.is in
    if_ok c.grown.result _ _ (λ u h other. ap (λ (x : Bearers). borne x other) h ∙ grown t.names t.numbers (paired _ t c.self.view_is c.self.invariant) q c.args.number absent other) c.grown.ensures
