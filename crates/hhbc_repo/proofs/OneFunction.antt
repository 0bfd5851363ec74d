-- A repository of one function without classes is sound, where it has few iterators and no long lists.
use Rattle.std.proofs.Common.{◌≡◌, ◌^◌, zero, suc, true, [], ◌∷◌, refl, arith}
use Rattle.std.proofs.lemmas.Bool.{and_from}
use Rattle.type_lattice.specs.Walks.{AllEnded}
use Rattle.type_lattice.proofs.Made.{is_forest}
use Rattle.hhbc_repo.specs.declared.body.Body.{Body}
use Rattle.hhbc_repo.specs.Bodies.{built_in_tree}
use Rattle.hhbc_repo.specs.Lengths.{lists_fewer}
use Rattle.hhbc_repo.specs.LookUps.{Sound}
use Rattle.hhbc_repo.specs.Ranges.{few_iterators}

ended : AllEnded built_in_tree 6
ended zero h = refl
ended (suc zero) h = refl
ended (suc (suc zero)) h = refl
ended (suc (suc (suc zero))) h = refl
ended (suc (suc (suc (suc zero)))) h = refl
ended (suc (suc (suc (suc (suc zero))))) h = refl
ended (suc (suc (suc (suc (suc (suc c)))))) h = absurd (omega arith)

pub one_function : (b : Body) → few_iterators b ≡ true → lists_fewer (2 ^ 32) (record { functions = b ∷ []; classes = [] }) ≡ true → Sound (record { functions = b ∷ []; classes = [] })
one_function b h few = record {
  functions = refl;
  names = refl;
  methods = refl;
  properties = refl;
  forest = is_forest built_in_tree refl ended;
  body_count = omega arith;
  class_count = omega arith;
  property_count = omega arith;
  lists = few;
  iterators = and_from (few_iterators b) true h refl;
}
