-- Loops of checks: what is left of them.
use Rattle.std.proofs.Common.{◌≡◌, ℕ, ◌+◌, ◌<◌, List, [], ◌∷◌, ◌++◌, length, map, take, drop, get_or, sym, ap, ap₂, ◌∙◌, subst}
use Rattle.std.proofs.lemmas.List.{at_drop_more, map_more}
use Rattle.hhbc_repo.specs.declared.link_fault.LinkFault.{LinkFault}
use Rattle.hhbc_repo.specs.declared.link_fault.LinkError.{LinkError}
use Rattle.hhbc_repo.specs.Checks.{TellsFirst}
use Rattle.hhbc_repo.proofs.Checking.{checks_first}

-- what is left begins with the next item
next : {X : Type 0} (F : List X → List LinkFault) (xs : List X) (i : ℕ) (x d : X) (all : List LinkFault)
    → i < length xs → x ≡ get_or xs i d → F (drop i xs) ≡ all → all ≡ F (x ∷ drop (i + 1) xs)
next F xs i x d all h is left = sym left ∙ at_drop_more F xs i d h ∙ ap (λ y. F (y ∷ drop (i + 1) xs)) (sym is)

-- where checks of the next item come first and fail, their first fault is the first of all
pub loop_tells : {X : Type 0} (F : List X → List LinkFault) (xs : List X) (i : ℕ) (x d : X) (fs more all : List LinkFault) (e : LinkError)
    → i < length xs → x ≡ get_or xs i d → F (drop i xs) ≡ all → F (x ∷ drop (i + 1) xs) ≡ fs ++ more → TellsFirst fs e → TellsFirst all e
loop_tells F xs i x d fs more all e h is left step told =
    subst (λ (l : List LinkFault). TellsFirst l e) (sym (next F xs i x d all h is left ∙ step)) (checks_first fs more e told)

-- ---- each item by itself

-- the checks of a list are those of its first item and those of the others
abbrev pub ByItem : {X : Type 0} → (List X → List LinkFault) → (X → List LinkFault) → Type 0
ByItem {X} F f = (y : X) (ys : List X) → F (y ∷ ys) ≡ f y ++ F ys

-- where the item's checks fail, their first fault is the first of all
pub item_tells : {X : Type 0} (F : List X → List LinkFault) (f : X → List LinkFault) (xs : List X) (i : ℕ) (x d : X) (e : LinkError)
    → ByItem F f → i < length xs → x ≡ get_or xs i d → F xs ≡ F (drop i xs) → TellsFirst (f x) e → TellsFirst (F xs) e
item_tells F f xs i x d e step h is left told = loop_tells F xs i x d (f x) (F (drop (i + 1) xs)) (F xs) e h is (sym left) (step x (drop (i + 1) xs)) told

-- what a loop made of the items that it went over
pub collected : {X Y : Type 0} (g : X → Y) (xs : List X) (i : ℕ) (x d : X) (before after : List Y) (y : Y)
    → i < length xs → x ≡ get_or xs i d → before ≡ map g (take i xs) → after ≡ before ++ y ∷ [] → y ≡ g x → after ≡ map g (take (i + 1) xs)
collected g xs i x d before after y h is so_far pushed made = pushed ∙ ap₂ (λ l z. l ++ z ∷ []) so_far (made ∙ ap g is) ∙ sym (map_more g xs i d h)
