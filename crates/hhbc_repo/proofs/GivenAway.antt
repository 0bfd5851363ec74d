-- Loops over items that are given away one by one: what is left of their checks, and what they made so far.
use Rattle.std.proofs.Common.{◌≡◌, ℕ, ◌+◌, List, [], ◌∷◌, ◌++◌, length, map, refl, sym, ap, ◌∙◌, subst, append_assoc, append-nil, arith}
use Rattle.hhbc_repo.specs.declared.link_fault.LinkFault.{LinkFault}
use Rattle.hhbc_repo.specs.declared.link_fault.LinkError.{LinkError}
use Rattle.hhbc_repo.specs.Checks.{TellsFirst}
use Rattle.hhbc_repo.proofs.Checking.{checks_first}
use Rattle.hhbc_repo.proofs.CheckLoops.{ByItem}

nothing_left : {X : Type 0} (l : List X) → length l ≡ 0 → l ≡ []
nothing_left [] h = refl
nothing_left (x ∷ l) h = absurd (omega arith)

module _ {X : Type 0} (F : List X → List LinkFault) (f : X → List LinkFault) (whole rest more : List X) (x : X)
    (step : ByItem F f) (is : rest ≡ x ∷ more) (left : F whole ≡ F rest) where
  -- the item's checks, and those of the items behind it
  split : F whole ≡ f x ++ F more
  split = left ∙ ap F is ∙ step x more

  -- where the item's checks fail, their first fault is the first of all
  pub given_tells : (e : LinkError) → TellsFirst (f x) e → TellsFirst (F whole) e
  given_tells e told = subst (λ (l : List LinkFault). TellsFirst l e) (sym split) (checks_first (f x) (F more) e told)

  -- where they pass, it comes to the others
  pub given_passes : f x ≡ [] → F whole ≡ F more
  given_passes none = split ∙ ap (λ (l : List LinkFault). l ++ F more) none

-- of as many as are left
pub given_count : {X : Type 0} (rest more : List X) (x : X) (before after : ℕ) → rest ≡ x ∷ more → after + 1 ≡ before → before ≡ length rest → after ≡ length more
given_count rest more x before after is less count = let fewer = ap length is in omega arith

pub none_given : {X : Type 0} (rest : List X) (left : ℕ) → left ≡ 0 → left ≡ length rest → rest ≡ []
none_given rest left none count = nothing_left rest (sym count ∙ none)

-- one more is made
pub given_made : {X Y : Type 0} (g : X → Y) (whole : List Y) (rest more : List X) (x : X) (before after : List Y) (y : Y)
    → rest ≡ x ∷ more → before ++ map g rest ≡ whole → after ≡ before ++ y ∷ [] → y ≡ g x → after ++ map g more ≡ whole
given_made g whole rest more x before after y is so_far pushed made =
    ap (λ (l : List _). l ++ map g more) pushed
    ∙ append_assoc before (y ∷ []) (map g more)
    ∙ ap (λ (z : _). before ++ z ∷ map g more) made
    ∙ ap (λ (l : List _). before ++ map g l) (sym is)
    ∙ so_far

-- all are made
pub given_all : {X Y : Type 0} (g : X → Y) (whole : List Y) (rest : List X) (all : List Y) → rest ≡ [] → all ++ map g rest ≡ whole → all ≡ whole
given_all g whole rest all none so_far = sym (append-nil all) ∙ ap (λ (l : List _). all ++ map g l) (sym none) ∙ so_far
