-- What linking sees to in each body, as a test.
use Rattle.std.specs.Prelude.{Bool, nat_le}
use Rattle.hhbc_repo.specs.declared.body.Body.{Body}

-- the numbers of iterators are those of a set of 32
abbrev pub few_iterators : Body → Bool
few_iterators b = nat_le b.iters 32
