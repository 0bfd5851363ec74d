-- Straight-line codes that find on the stack what they take away.
use Rattle.std.specs.Prelude.{◌≡◌, ◌↔◌, ◌+◌, ◌-◌, ℕ, Bool, true, ◌&&◌, nat_le, List, [], ◌∷◌, length}
use Rattle.hhbc_repo.specs.declared.body.Position.{Position}
use Rattle.hhbc_repo.specs.Codes.{pops, pushes}
use Rattle.hhbc_semantics.specs.Form.{IsFirstForm, IsSecondForm}
use Rattle.hhbc_repo.specs.Linked.{Linked}
use Rattle.hhbc_repo.specs.Shapes.{Types, reaches}

-- each of the codes, from so many slots on the stack on, finds as many as it takes away
abbrev pub walks : ℕ → List Position → Bool
walks depth [] = true
walks depth (p ∷ ps) = nat_le (length (pops p.code)) depth && walks (length (pushes p.code) + (depth - length (pops p.code))) ps

-- a repository of the first form keeps to its shapes exactly where its codes do
abbrev pub TypesWhereItWalks : Type 0
TypesWhereItWalks = (r : Linked) (form : IsFirstForm r) → (walks 0 form.body.positions ≡ true) ↔ Types r

-- the same, where each assertion finds its slot too
abbrev pub walks_asserted : ℕ → List Position → Bool
walks_asserted depth [] = true
walks_asserted depth (p ∷ ps) =
    (reaches p.asserts depth && nat_le (length (pops p.code)) depth)
    && walks_asserted (length (pushes p.code) + (depth - length (pops p.code))) ps

-- a repository of the second form keeps to its shapes exactly where its codes and its assertions do
abbrev pub TypesWhereAssertedWalks : Type 0
TypesWhereAssertedWalks = (r : Linked) (form : IsSecondForm r) → (walks_asserted 0 form.body.positions ≡ true) ↔ Types r
