-- What a class has by name, on the way up to its ancestors.
use Rattle.std.proofs.Common.{◌≡◌, ◌≤◌, ◌++◌, ◌-◌, ℕ, zero, suc, List, Some, None, refl, arith, ap, ◌∙◌, slice_get, option_map}
use Rattle.std.proofs.lemmas.Option.{slice_get-map}
use Rattle.type_lattice.specs.Classes.{Tree, Forest, flat, parent_of}
use Rattle.type_lattice.proofs.Chains.{chain_step, chain_up, chain_root}
use Rattle.hhbc_repo.specs.declared.repo.Class.{Class}
use Rattle.hhbc_repo.specs.LinkFaults.{Name}
use Rattle.hhbc_repo.specs.Bodies.{built_in_tree}
use Rattle.hhbc_repo.specs.LookUps.{inherited, own_number, parents_of_classes}

-- all built-in classes but the first descend from it
pub built_in_parent : (rest : Tree) (c : ℕ) → 1 ≤ c → c ≤ 5 → parent_of (built_in_tree ++ rest) c ≡ Some 0
built_in_parent rest zero low high = absurd (omega arith)
built_in_parent rest (suc zero) low high = refl
built_in_parent rest (suc (suc zero)) low high = refl
built_in_parent rest (suc (suc (suc zero))) low high = refl
built_in_parent rest (suc (suc (suc (suc zero)))) low high = refl
built_in_parent rest (suc (suc (suc (suc (suc zero))))) low high = refl
built_in_parent rest (suc (suc (suc (suc (suc (suc c)))))) low high = absurd (omega arith)

pub behind : (rest : Tree) (c : ℕ) → 6 ≤ c → parent_of (built_in_tree ++ rest) c ≡ flat (slice_get rest (c - 6))
behind rest zero low = absurd (omega arith)
behind rest (suc zero) low = absurd (omega arith)
behind rest (suc (suc zero)) low = absurd (omega arith)
behind rest (suc (suc (suc zero))) low = absurd (omega arith)
behind rest (suc (suc (suc (suc zero)))) low = absurd (omega arith)
behind rest (suc (suc (suc (suc (suc zero))))) low = absurd (omega arith)
behind rest (suc (suc (suc (suc (suc (suc c)))))) low = let e : suc (suc (suc (suc (suc (suc c))))) - 6 ≡ c = omega arith in rw e refl

-- the others state theirs
pub declared_parent : (cs : List Class) (c : ℕ) → 6 ≤ c → parent_of (built_in_tree ++ parents_of_classes cs) c ≡ flat (option_map (λ (k : Class). k.parent) (slice_get cs (c - 6)))
declared_parent cs c low = behind (parents_of_classes cs) c low ∙ ap flat (slice_get-map (λ (k : Class). k.parent) cs (c - 6))

module _ (t : Tree) (forest : Forest t) (first : ℕ) (table : List (List Name)) (name : Name) where
  pub inherited_here : (c n : ℕ) → own_number first table name c ≡ Some n → inherited first table t c name ≡ Some n
  inherited_here c n e = rw (chain_step t forest c, e) refl

  pub inherited_root : (c : ℕ) → own_number first table name c ≡ None → parent_of t c ≡ None → inherited first table t c name ≡ None
  inherited_root c e p = rw (chain_root t forest c p, e) refl

  pub inherited_up : (c d : ℕ) → own_number first table name c ≡ None → parent_of t c ≡ Some d → inherited first table t c name ≡ inherited first table t d name
  inherited_up c d e p = rw (chain_up t forest c d p, e) refl
