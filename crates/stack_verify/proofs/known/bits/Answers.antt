use Rattle.std.proofs.Common.{◌≡◌, ◌≤◌, length, drop, arith}
use Rattle.std.proofs.lemmas.List.{length-drop}
use Rattle.stack_verify.specs.Kept.{bits_of}
use Rattle.stack_verify.proofs.Flags.{bits_below}
use Rattle.stack_verify.proofs.known.bits.Goals as goal

pub overflow_mul-bits : goal.overflow_mul-bits
overflow_mul-bits c =
    let n = c.loop-at.at in
    let e = length-drop n c.args.live.now in
    let h : length (drop n c.args.live.now) ≤ 31 = omega (arith, e) in
    let i = bits_below (drop n c.args.live.now) 31 h in
    let j : c.loop-at.bits ≡ bits_of (drop n c.args.live.now) = c.loop-at.invariant in
    omega (arith, i, j)

pub overflow_add-bits : goal.overflow_add-bits
overflow_add-bits c =
    let n = c.loop-at.at in
    let e = length-drop n c.args.live.now in
    let h : length (drop n c.args.live.now) ≤ 31 = omega (arith, e) in
    let i = bits_below (drop n c.args.live.now) 31 h in
    let j : c.loop-at.bits ≡ bits_of (drop n c.args.live.now) = c.loop-at.invariant in
    let k = c.from.ensures in
    grind (arith, i, j, k)
