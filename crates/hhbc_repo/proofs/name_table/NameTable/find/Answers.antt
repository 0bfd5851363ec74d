use Rattle.std.proofs.Common.{◌∙◌, ap}
use Rattle.hhbc_repo.specs.LinkFaults.{place_in}
use Rattle.hhbc_repo.proofs.Keyed.{place-bytes}
use Rattle.hhbc_repo.proofs.name_table.NameTable.find.Goals as goal

pub returns : goal.returns
returns c = c.get_index_of.ensures.index ∙ place-bytes c.args.name.now c.self.inside.keys.keys ∙ ap (λ all. place_in all c.args.name.now) c.self.view_is
