-- A body with another claim.
use Rattle.hhbc_repo.specs.declared.body.Body.{Body}
use Rattle.hhbc_repo.specs.declared.claims.Claim.{Claim}
use Rattle.hhbc_repo.specs.declared.claims.Claim.TheVariants as claims
use Rattle.hhbc_repo.specs.Claims.{asserting, returning}

abbrev pub claimed : Claim → Body → Body
claimed (claims.Returns stated) b = returning stated b
claimed (claims.Asserts p asserts) b = asserting p asserts b
