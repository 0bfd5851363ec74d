-- Repositories of the second form, by what they are without their claims.
use Rattle.std.proofs.Common.{◌≡◌, ℕ, suc, sym, ◌∙◌, ap, subst, List, [], ◌∷◌, map}
use Rattle.hhbc_repo.specs.Linked.{Linked}
use Rattle.hhbc_repo.specs.declared.body.Body.{Body}
use Rattle.hhbc_repo.specs.declared.body.Position.{Position}
use Rattle.hhbc_repo.specs.Bare.{bare, bare_body, bare_position}
use Rattle.hhbc_semantics.specs.Form.{IsSecondForm}
use Rattle.hhbc_semantics.proofs.Stripped.{bare_again, bare_is_first_form}
use Rattle.func_analyze.specs.Rounds.{IsFacts, AreLeast}
use Rattle.func_analyze.specs.Annotated.{annotated, IsAnnotated}
use Rattle.func_analyze.specs.Chain.{annotated_by}
use Rattle.func_analyze.specs.Laws.{AreWords, BareChainAnnotates, SecondIsUnique}
use Rattle.func_analyze.proofs.ChainAnnotated.{chain_annotates}
use Rattle.func_analyze.proofs.Unique.{annotated_is_unique}

-- annotation asks only for what is left without claims
same_bare : (n : ℕ) (r s a : Linked) → bare r ≡ bare s → IsAnnotated n r a → IsAnnotated n s a
same_bare n r s a h w = record {
  facts = w.facts;
  after = subst (λ (x : Linked). IsFacts x n w.facts) h w.after;
  tables = w.tables;
  least = subst (λ (x : Linked). AreLeast x w.facts w.tables) h w.least;
  is = w.is ∙ ap (λ (x : Linked). annotated x w.facts w.tables) h;
}

pub bare_words : (ps : List Position) → AreWords ps → AreWords (map bare_position ps)
bare_words [] h = tt
bare_words (p ∷ ps) h = (h.0, bare_words ps h.1)

-- the ints of the first form that it is without claims are those that it had
first_words : (r : Linked) (form : IsSecondForm r) → AreWords form.body.positions → AreWords (bare_is_first_form r form).0.body.positions
first_words r form words =
    let first = (bare_is_first_form r form).0 in
    let e : first.body ∷ [] ≡ bare_body form.body ∷ [] = sym first.functions ∙ ap (λ (bs : List Body). map bare_body bs) form.functions in
    let same : first.body ≡ bare_body form.body = cc in
    subst (λ (b : Body). AreWords b.positions) (sym same) (bare_words form.body.positions words)

pub bare_chain_annotates : BareChainAnnotates
bare_chain_annotates r form words n =
    same_bare (suc n) (bare r) r (annotated_by (bare r)) (bare_again r) (chain_annotates (bare r) (bare_is_first_form r form).0 (first_words r form words) n)

pub second_is_unique : SecondIsUnique
second_is_unique r a form words n w =
    annotated_is_unique (bare r) a (bare_is_first_form r form).0 (first_words r form words) n (same_bare (suc n) r (bare r) a (sym (bare_again r)) w)
