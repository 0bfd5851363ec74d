use Rattle.std.proofs.Common.{ℕ, List, length, ap, sym, ◌∙◌}
use Rattle.hhbc_repo.proofs.Keyed.{bytes_count}
use Rattle.hhbc_repo.proofs.name_table.NameTable.len.Goals as goal

pub returns : goal.returns
returns c = c.len.ensures.len ∙ sym (bytes_count c.self.inside.keys.keys) ∙ ap (λ (l : List (List ℕ)). length l) c.self.view_is
