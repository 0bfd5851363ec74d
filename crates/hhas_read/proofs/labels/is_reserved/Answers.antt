use Rattle.std.proofs.Common.{◌≡◌, ◌∙◌, ◌||◌, ap, sym, false, is_some}
use Rattle.std.specs.List.{list_any}
use Rattle.std.specs.Str.{bytes_eq}
use Rattle.hhbc_ops.specs.Ops.{op_called}
use Rattle.hhbc_repo.specs.CodeSyntax.{other_names}
use Rattle.hhas_read.proofs.Reserved.{named_called}
use Rattle.hhas_read.proofs.labels.is_reserved.Goals as goal

pub returns-else-is_some : goal.returns-else-is_some
returns-else-is_some c =
    let name = c.args.name.now in
    let none : is_some (op_called name) ≡ false = sym (named_called name c.op_named.result c.op_named.ensures.only) ∙ sym c.is_some.ensures ∙ c.if-is_some.false in
    c.is_other_name.ensures ∙ ap (λ b. b || list_any (λ other. bytes_eq other name) other_names) (sym none)
