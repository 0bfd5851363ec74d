use Rattle.std.proofs.Common.{sym, ◌∙◌, ap}
use Rattle.std.proofs.lemmas.List.{take_rest}
use Rattle.hhbc_repo.specs.Shapes.{agree}
use Rattle.stack_verify.proofs.Flavours.{agree_first, agree_not}
use Rattle.stack_verify.proofs.checks.takes_agree.Goals as goal

pub returns-then-are_only_cells : goal.returns-then-are_only_cells
returns-then-are_only_cells c =
    let n = c.args.effect.cells in
    let below = c.args.effect.below.now in
    let stack = c.args.stack.now in
    c.agrees.ensures
    ∙ ap (λ rest. agree below rest) (take_rest stack n)
    ∙ agree_first n below stack (sym c.are_only_cells.ensures ∙ c.if-are_only_cells.true)

pub returns-else-are_only_cells : goal.returns-else-are_only_cells
returns-else-are_only_cells c =
    c.if-are_only_cells.false
    ∙ agree_not c.args.effect.cells c.args.effect.below.now c.args.stack.now (sym c.are_only_cells.ensures ∙ c.if-are_only_cells.false)
