use Rattle.std.proofs.Common.{◌++◌, ◌∷◌, [], ℕ, List, map, ap, ◌∙◌}
use Rattle.hhbc_repo.specs.declared.parts.ClassParts.{ClassParts}
use Rattle.hhbc_repo.specs.declared.parts.PropertyParts.{PropertyParts}
use Rattle.hhbc_repo.specs.LinkFaults.{property_names}
use Rattle.hhbc_repo.specs.Once.{once, property_tables}
use Rattle.hhbc_repo.proofs.FoundByName.{next_listed}
use Rattle.hhbc_repo.proofs.known.all_properties.Goals as goal

abbrev declared : ClassParts → List (List ℕ)
declared c = once (property_names c)

pub loop-class-init : goal.loop-class-init
loop-class-init c =
    ap (λ (l : List (List (List ℕ))). l ++ map declared c.args.classes.now) (c.in_ok-all.ensures ∙ ap (λ (n : List (List ℕ)). n ∷ [] ∷ [] ∷ [] ∷ [] ∷ [] ∷ []) c.in_ok-message_table.ensures)

pub loop-class-preserved : goal.loop-class-preserved
loop-class-preserved c =
    next_listed declared c.loop-class.all (property_tables c.args.classes.now) c.push.new.self c.args.classes.now c.loop-class.class-index c.class-item.result c.in_ok-property_names.field-0
    c.loop-class-test.true c.class-item.is (c.in_ok-property_names.ensures ∙ ap (λ (ps : List PropertyParts). once (map (λ (p : PropertyParts). p.name) ps)) c.as_slice.ensures) c.in_ok-push.ensures.ok c.loop-class.invariant
