-- Tables of the first labels of each name.
use Rattle.std.specs.Prelude.{◌≡◌, ◌+◌, ℕ, suc, List, [], ◌∷◌, Option, Some, None, if◌then◌else◌, length}
use Rattle.std.specs.List.{flat_map}
use Rattle.hhbc_repo.specs.declared.parts.ItemParts.{ItemParts}
use Rattle.hhbc_repo.specs.declared.parts.ItemParts.TheVariants as items
use Rattle.hhbc_repo.specs.LinkFaults.{Name, is_name, position_in}
use Rattle.hhbc_repo.specs.LookUps.{or_else}
use Rattle.hhbc_repo.specs.FirstNumbers.{Numbers, number_of}

-- how many positions stand before the first label of a name, counted from so many
abbrev pub first_label : ℕ → List ItemParts → Name → Option ℕ
first_label n [] name = None
first_label n (items.Label other ∷ more) name = if is_name name other then Some n else first_label n more name
first_label n (items.Position p ∷ more) name = first_label (suc n) more name
first_label n (items.Try ∷ more) name = first_label n more name
first_label n (items.Catch ∷ more) name = first_label n more name
first_label n (items.End ∷ more) name = first_label n more name

-- each label is found with its number
abbrev pub FindsLabels : Numbers → List ItemParts → Type 0
FindsLabels t items = (name : Name) → number_of t name ≡ first_label 0 items name

-- the labels of a part of the items are in the table, with so many positions before the rest
pub record Seen (t : Numbers) (here : ℕ) (rest all : List ItemParts) : Type 0 where
  pub count : here + length (flat_map position_in rest) ≡ length (flat_map position_in all)
  pub numbers : (name : Name) → or_else (number_of t name) (first_label here rest name) ≡ first_label 0 all name
  pub paired : length t.known ≡ length t.firsts
