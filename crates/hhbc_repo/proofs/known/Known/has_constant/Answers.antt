use Rattle.std.proofs.Common.{ℕ, List, ap, ap₂, ◌∙◌}
use Rattle.type_lattice.specs.Classes.{Tree, chain}
use Rattle.hhbc_repo.specs.LinkFaults.{Whole, along, names, parents}
use Rattle.hhbc_repo.specs.Once.{constant_tables}
use Rattle.hhbc_repo.proofs.FoundByName.{along_constants}
use Rattle.hhbc_repo.proofs.known.Known.has_constant.Goals as goal

pub returns : goal.returns
returns c =
    c.declares.ensures
    ∙ ap₂ (λ (ts : List (List (List ℕ))) (t : Tree). names (along ts (chain t c.args.class)) c.args.name.now)
    (c.as_slice.ensures ∙ c.self.invariant.constants_are ∙ ap (λ (w : Whole). constant_tables w.classes) c.self.view_is)
    (c.as_slice-2.ensures ∙ c.self.invariant.tree_is ∙ ap parents c.self.view_is)
    ∙ along_constants c.args.self.now (chain (parents c.args.self.now) c.args.class) c.args.name.now
