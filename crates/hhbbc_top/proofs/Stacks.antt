-- Lists of types from both ends.
use Rattle.std.proofs.Common.{◌≡◌, refl, ◌∙◌, ap, Bool, true, false, not, ◌&&◌, List, [], ◌∷◌, ◌++◌, append-nil, reverse}
use Rattle.std.proofs.lemmas.List.{reverse-append}
use Rattle.type_lattice.specs.declared.types.HType.{HType}
use Rattle.type_lattice.specs.Never.{is_never, all_alive}
use Rattle.hhbc_repo.specs.declared.body.Assert.{Assert}

and_swaps : (a b c : Bool) → (a && (b && c)) ≡ (b && (a && c))
and_swaps true b c = refl
and_swaps false true c = refl
and_swaps false false c = refl

alive_behind : (ts : List HType) (t : HType) → all_alive (ts ++ t ∷ []) ≡ (not (is_never t) && all_alive ts)
alive_behind [] t = refl
alive_behind (u ∷ us) t = ap (λ b. not (is_never u) && b) (alive_behind us t) ∙ and_swaps (not (is_never u)) (not (is_never t)) (all_alive us)

pub all_alive-reverse : (ts : List HType) → all_alive (reverse ts) ≡ all_alive ts
all_alive-reverse [] = refl
all_alive-reverse (t ∷ ts) = ap all_alive (reverse-append (t ∷ []) ts) ∙ alive_behind (reverse ts) t ∙ ap (λ b. not (is_never t) && b) (all_alive-reverse ts)

pub ruleset all_alive_reverse = (all_alive-reverse)

pub append_nil : (claims : List Assert) → claims ++ [] ≡ claims
append_nil claims = append-nil claims
