-- Writing level by level: over the different types at each key. So code may look at each of them once, though many ways lead to it.
use Rattle.std.specs.Prelude.{◌≡◌, ◌⊎◌, ◌||◌, ℕ, Bool, false, List, [], ◌∷◌, Option, map, cond}
use Rattle.std.specs.List.{flat_map}
use Rattle.type_lattice.specs.declared.types.HType.{HType}
use Rattle.type_lattice.specs.Classes.{has}
use Rattle.type_lattice.specs.Types.{never}
use Rattle.type_lattice.specs.Join.{join}
use Rattle.hhbc_repo.specs.Linked.{Linked}
use Rattle.hhbc_repo.specs.Bodies.{tree_of}
use Rattle.hhbc_repo.specs.LookUps.{Sound}
use Rattle.class_index.specs.declared.keys.TypeKey.{TypeKey}
use Rattle.class_index.specs.Leaves.{joins}
use Rattle.class_index.specs.Named.{key_names, given, fact}
use Rattle.class_index.specs.Writing.{inner, base_under, write_base, write_effect}

abbrev pub Among : HType → List HType → Type 0
Among t [] = ⊥
Among t (u ∷ us) = (t ≡ u) ⊎ Among t us

-- what is written in a property from all types of a level
abbrev pub effect_of_all : Linked → List HType → Option HType → List HType → TypeKey → List TypeKey → ℕ → HType
effect_of_all r props v ts k rest q = joins (tree_of r) (map (λ t. write_effect r props v t k rest q) ts)

-- the key gives the property in objects of some type of the level
abbrev pub some_gives : Linked → List HType → TypeKey → ℕ → Bool
some_gives r [] k q = false
some_gives r (t ∷ ts) k q = has q (given r t.obj (key_names k)) || some_gives r ts k q

-- the types of the next level
abbrev pub next_level : Linked → List HType → List HType → TypeKey → List HType
next_level r props ts k = flat_map (λ t. inner r props t k) ts

-- what is written from a level is what its key itself writes, with what is written from the next level
abbrev pub EffectsByLevels : Type 0
EffectsByLevels =
    (r : Linked) → Sound r → (props : List HType) (v : Option HType) (ts : List HType) (k l : TypeKey) (rest : List TypeKey) (q : ℕ)
    → effect_of_all r props v ts k (l ∷ rest) q
    ≡ join (tree_of r) (cond (some_gives r ts k q) (write_base r props v (fact props q) l rest) never) (effect_of_all r props v (next_level r props ts k) l rest q)

-- how often a type stands in a level makes no difference, nor in which order
abbrev pub LevelsAreSets : Type 0
LevelsAreSets =
    (r : Linked) → Sound r → (props : List HType) (v : Option HType) (ts us : List HType) (k : TypeKey) (rest : List TypeKey) (q : ℕ)
    → ((t : HType) → Among t ts → Among t us) → ((t : HType) → Among t us → Among t ts)
    → effect_of_all r props v ts k rest q ≡ effect_of_all r props v us k rest q

-- what is left of a base asks for the types of the next level alone
abbrev pub BaseByLevels : Type 0
BaseByLevels =
    (r : Linked) (props : List HType) (next more : HType → HType) (t : HType) (k : TypeKey) → ((i : HType) → Among i (inner r props t k) → next i ≡ more i)
    → base_under r props next t k ≡ base_under r props more t k
