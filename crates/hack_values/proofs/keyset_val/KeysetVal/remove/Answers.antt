use Rattle.std.proofs.Common.{ap, arith, sym, ◌∙◌}
use Rattle.hack_values.specs.Keys.{keys_weight}
use Rattle.hack_values.proofs.KeyLaws.{distinct-remove, keys_weight-remove}
use Rattle.hack_values.proofs.keyset_val.KeysetVal.remove.Goals as goal

pub weight_without-self-inside-requires : goal.weight_without-self-inside-requires
weight_without-self-inside-requires c =
    let ks = c.self.inside.items in
    let gone = keys_weight-remove ks c.in-Some.at c.in-Some-take_at.gone (sym c.take_at.ensures.taken ∙ c.in-Some-take_at.is) in
    let seen = ap keys_weight c.as_slice.ensures.keys in
    let rest = ap keys_weight c.take_at.ensures.rest in
    omega (arith, gone, seen, rest, c.self.invariant.1)

pub invariant_of-self : goal.invariant_of-self
invariant_of-self c =
    let seen = ap keys_weight c.as_slice.ensures.keys in
    let rest = ap keys_weight c.take_at.ensures.rest in
    rw (c.take_at.ensures.rest) (distinct-remove c.self.inside.items c.in-Some.at c.self.invariant.0, omega (arith, seen, rest, c.weight_without-self-inside.ensures))

pub invariant_of-self-in-Some-take_at-2 : goal.invariant_of-self-in-Some-take_at-2
invariant_of-self-in-Some-take_at-2 c =
    let seen = ap keys_weight c.as_slice.ensures.keys in
    let rest = ap keys_weight c.take_at.ensures.rest in
    rw (c.take_at.ensures.rest) (distinct-remove c.self.inside.items c.in-Some.at c.self.invariant.0, omega (arith, seen, rest, c.weight_without-self-inside.ensures))
