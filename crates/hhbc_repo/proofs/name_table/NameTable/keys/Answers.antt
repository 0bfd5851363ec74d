use Rattle.std.proofs.Common.{ap, ◌∙◌}
use Rattle.hhbc_repo.specs.Names.{bytes_of}
use Rattle.hhbc_repo.proofs.name_table.NameTable.keys.Goals as goal

pub returns : goal.returns
returns c = ap bytes_of c.as_slice.ensures.keys ∙ c.self.view_is
