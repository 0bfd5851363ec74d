use Rattle.std.proofs.Common.{◌<◌, ◌+◌, ◌^◌, length, subst₂, sym, refl, arith, ℕ, List}
use Rattle.hhbc_repo.specs.declared.members.Row.{Row}
use Rattle.hhbc_repo.specs.Members.{Counted}
use Rattle.hhbc_repo.proofs.Numbered.{counted-more}
use Rattle.hhbc_repo.proofs.members.Members.add.Goals as goal

pub invariant_of-self-2 : goal.invariant_of-self-2
invariant_of-self-2 c =
    let i = c.self.inside in
    let row : Row = record { names = c.args.names; first = i.next } in
    let fits : i.next + length c.args.names < 2 ^ 32 = let f = c.requires.fits in let n = c.requires.counted in let l = c.self.invariant.last in let v = c.self.view_is in grind (arith, f, n, l, v) in
    subst₂ (λ (n : ℕ) (rows : List Row). Counted i.start (i.next + n) rows) c.requires.counted (sym c.in_ok-push.ensures.ok) (counted-more i.start i.next i.rows row c.self.invariant refl fits)
