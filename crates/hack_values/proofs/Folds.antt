-- Loops over items that are given away one by one, whose result is a fold.
use Rattle.std.proofs.Common.{◌≡◌, ℕ, ◌+◌, List, [], ◌∷◌, length, refl, ap, sym, ◌∙◌, arith}
use Rattle.std.specs.List.{fold}

-- one more item
pub fold_goes : {A B : Type 0} (f : B → A → B) (whole now next : B) (rest more : List A) (x : A) → rest ≡ x ∷ more → fold f now rest ≡ whole → next ≡ f now x → fold f next more ≡ whole
fold_goes f whole now next rest more x is so_far made = ap (λ b. fold f b more) made ∙ ap (fold f now) (sym is) ∙ so_far

-- no item is left
pub fold_ends : {A B : Type 0} (f : B → A → B) (whole now : B) (rest : List A) → rest ≡ [] → fold f now rest ≡ whole → now ≡ whole
fold_ends f whole now rest none so_far = ap (fold f now) (sym none) ∙ so_far

nothing_left : {X : Type 0} (l : List X) → length l ≡ 0 → l ≡ []
nothing_left [] h = refl
nothing_left (x ∷ l) h = absurd (omega arith)

-- of as many as are left
pub fewer_left : {X : Type 0} (rest more : List X) (x : X) (before after : ℕ) → rest ≡ x ∷ more → after + 1 ≡ before → before ≡ length rest → after ≡ length more
fewer_left rest more x before after is less count = let fewer = ap length is in omega arith

pub none_left : {X : Type 0} (rest : List X) (left : ℕ) → left ≡ 0 → left ≡ length rest → rest ≡ []
none_left rest left none count = nothing_left rest (sym count ∙ none)
