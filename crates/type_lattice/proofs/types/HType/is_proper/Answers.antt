use Rattle.std.proofs.Common.{Bool, ◌&&◌, sym, ap, ◌∙◌, length}
use Rattle.std.specs.Prelude.{nat_lt}
use Rattle.std.specs.List.{list_all}
use Rattle.type_lattice.specs.InRange.{classes_of}
use Rattle.type_lattice.proofs.Ranges.{is_proper-means}
use Rattle.type_lattice.proofs.types.HType.is_proper.Goals as goal

pub returns-then-is_in_range-clause-meaning : goal.returns-then-is_in_range-clause-meaning
returns-then-is_in_range-clause-meaning c =
    is_proper-means c.args.tree.now c.args.self.now c.has_its_classes.result
    (c.has_its_classes.ensures ∙ ap (λ (b : Bool). b && list_all (λ k. nat_lt k (length c.args.tree.now)) (classes_of c.args.self.now)) (sym c.if-is_in_range.true ∙ c.is_in_range.ensures))

pub returns-else-is_in_range-clause-meaning : goal.returns-else-is_in_range-clause-meaning
returns-else-is_in_range-clause-meaning c =
    is_proper-means c.args.tree.now c.args.self.now c.is_in_range.result
    (c.if-is_in_range.false ∙ ap (λ (b : Bool). b && list_all (λ k. nat_lt k (length c.args.tree.now)) (classes_of c.args.self.now)) (sym c.if-is_in_range.false ∙ c.is_in_range.ensures))
