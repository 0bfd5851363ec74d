use Rattle.hhbc_semantics.proofs.Walking.{types_where_asserted_walks}
use Rattle.hhbc_semantics.proofs.laws.types_where_asserted_walks.Goals as goal

pub returns : goal.returns
returns c = types_where_asserted_walks
