use Rattle.hhbc_semantics.proofs.LocalCodes.{local_codes_never_stick}
use Rattle.hhbc_semantics.proofs.laws.local_codes_never_stick.Goals as goal

pub returns : goal.returns
returns c = local_codes_never_stick
