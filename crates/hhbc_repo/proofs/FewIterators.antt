-- The iterators of one of several bodies.
use Rattle.std.proofs.Common.{◌≡◌, ◌≤◌, ℕ, zero, suc, true, List, [], ◌∷◌, Some, slice_get, ap, ◌∙◌, sym}
use Rattle.std.specs.List.{list_all}
use Rattle.std.proofs.lemmas.Bool.{and_parts, leb-true}
use Rattle.hhbc_repo.specs.declared.body.Body.{Body}
use Rattle.hhbc_repo.specs.Ranges.{few_iterators}

pub few_at : (bs : List Body) (n : ℕ) (b : Body) → list_all few_iterators bs ≡ true → slice_get bs n ≡ Some b → b.iters ≤ 32
few_at [] n b h e = absurd (cc)
few_at (x ∷ bs) zero b h e =
    let same : x ≡ b = cc in
    leb-true b.iters 32 (ap few_iterators (sym same) ∙ (and_parts (few_iterators x) (list_all few_iterators bs) h).0)
few_at (x ∷ bs) (suc n) b h e = few_at bs n b (and_parts (few_iterators x) (list_all few_iterators bs) h).1 e
