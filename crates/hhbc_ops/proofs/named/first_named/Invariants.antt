use Rattle.std.proofs.Common.{◌≡◌, drop}
use Rattle.hhbc_ops.specs.Names.{first_named}
use Rattle.hhbc_ops.proofs.named.first_named.Given as goal

-- those that are left decide
abbrev pub invariant-loop-one : goal.invariant-loop-one
invariant-loop-one g l = first_named g.T.Named.spelling (drop l.one-index l.all) l.fn.name ≡ first_named g.T.Named.spelling l.fn.all l.fn.name
