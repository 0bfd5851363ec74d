-- Slots that are taken away, cells first.
use Rattle.std.proofs.Common.{◌≡◌, refl, sym, ℕ, zero, suc, true, false, ◌&&◌, ◌∙◌, ap, List, [], ◌∷◌, ◌++◌, take, drop}
use Rattle.hhbc_ops.specs.declared.words.Flavour.{Flavour}
use Rattle.hhbc_ops.specs.declared.words.Flavour.TheVariants.{C, U}
use Rattle.hhbc_repo.specs.Codes.{some_cells}
use Rattle.hhbc_repo.specs.Shapes.{agree}
use Rattle.stack_verify.specs.Effects.{only_cells}

agree_none : (xs : List Flavour) → agree xs [] ≡ true
agree_none [] = refl
agree_none (x ∷ xs) = refl

agree_cells : (n : ℕ) (below stack : List Flavour) → agree (some_cells n ++ below) stack ≡ (only_cells (take n stack) && agree below (drop n stack))
agree_cells zero below stack = refl
agree_cells (suc n) below [] = sym (agree_none below)
agree_cells (suc n) below (C ∷ stack) = agree_cells n below stack
agree_cells (suc n) below (U ∷ stack) = refl

-- where the first are cells, the others decide
pub agree_first : (n : ℕ) (below stack : List Flavour) → only_cells (take n stack) ≡ true → agree below (drop n stack) ≡ agree (some_cells n ++ below) stack
agree_first n below stack h = sym (agree_cells n below stack ∙ ap (λ b. b && agree below (drop n stack)) h)

-- where one of the first isn't a cell, they don't agree
pub agree_not : (n : ℕ) (below stack : List Flavour) → only_cells (take n stack) ≡ false → false ≡ agree (some_cells n ++ below) stack
agree_not n below stack h = sym (agree_cells n below stack ∙ ap (λ b. b && agree below (drop n stack)) h)
