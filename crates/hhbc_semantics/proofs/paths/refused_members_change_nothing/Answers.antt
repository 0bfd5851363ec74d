use Rattle.hhbc_semantics.proofs.RefusedMembers.{refused_members_change_nothing}
use Rattle.hhbc_semantics.proofs.paths.refused_members_change_nothing.Goals as goal

pub returns : goal.returns
returns c = refused_members_change_nothing
