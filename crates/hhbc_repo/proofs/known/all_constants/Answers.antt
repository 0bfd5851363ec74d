use Rattle.std.proofs.Common.{◌++◌, ◌∷◌, [], ℕ, List, map, ap, ◌∙◌}
use Rattle.hhbc_repo.specs.declared.parts.ClassParts.{ClassParts}
use Rattle.hhbc_repo.specs.declared.repo.Const.{Const}
use Rattle.hhbc_repo.specs.Once.{once, constant_tables}
use Rattle.hhbc_repo.proofs.FoundByName.{next_listed}
use Rattle.hhbc_repo.proofs.known.all_constants.Goals as goal

abbrev declared : ClassParts → List (List ℕ)
declared c = once (map (λ (k : Const). k.name) c.consts)

pub loop-class-init : goal.loop-class-init
loop-class-init c =
    ap (λ (l : List (List (List ℕ))). l ++ map declared c.args.classes.now) (c.in_ok-all.ensures ∙ ap (λ (n : List (List ℕ)). n ∷ [] ∷ [] ∷ [] ∷ [] ∷ [] ∷ []) c.new.ensures)

pub loop-class-preserved : goal.loop-class-preserved
loop-class-preserved c =
    next_listed declared c.loop-class.all (constant_tables c.args.classes.now) c.push.new.self c.args.classes.now c.loop-class.class-index c.class-item.result c.in_ok-constant_names.field-0
    c.loop-class-test.true c.class-item.is (c.in_ok-constant_names.ensures ∙ ap (λ (ks : List Const). once (map (λ (k : Const). k.name) ks)) c.as_slice.ensures) c.in_ok-push.ensures.ok c.loop-class.invariant
