-- Where the checks of limits pass, the body is within them.
use Rattle.std.proofs.Common.{◌≡◌, ◌≤◌, ◌<◌, ◌+◌, ◌^◌, arith, List, [], ◌++◌, Result, Ok, Err, length, codes, subst}
use Rattle.hhbc_repo.specs.declared.link_fault.LinkFault.{LinkFault}
use Rattle.hhbc_repo.specs.declared.link_fault.LinkError.{LinkError}
use Rattle.hhbc_repo.specs.BodyLimits.{InLimits}
use Rattle.hhbc_repo.specs.Checks.{Checks, TellsFirst}
use Rattle.hhbc_repo.specs.LinkFaults.{Place, Whole, places, count_faults, within, limit_faults, locals_of, positions_of, nesting}
use Rattle.hhbc_repo.proofs.NoFaults.{empty_left, empty_right, fits_within}

pub passed : {V : Type 0} (fs : List LinkFault) (v x : V) (r : Result V LinkError) → r ≡ Ok x → Checks fs v r → fs ≡ []
passed fs v x r is c = (subst (λ q. Checks fs v q) is c).0

pub told : {V : Type 0} (fs : List LinkFault) (v : V) (e : LinkError) (r : Result V LinkError) → r ≡ Err e → Checks fs v r → TellsFirst fs e
told fs v e r is c = subst (λ q. Checks fs v q) is c

pub limits_hold : (p : Place) → limit_faults p ≡ [] → InLimits p.body
limits_hold p e =
    let locals = within 255 (length (locals_of p.body)) p.owner (codes "locals") in
    let iters = within 32 p.body.iters p.owner (codes "iterators") in
    let positions = within 65535 (length (positions_of p.body)) p.owner (codes "positions") in
    let deep = within 64 (nesting p.body) p.owner (codes "nesting") in
    let rest = empty_right locals (iters ++ (positions ++ deep)) e in
    record {
      locals = fits_within 255 (length (locals_of p.body)) p.owner (codes "locals") (empty_left locals (iters ++ (positions ++ deep)) e);
      iters = fits_within 32 p.body.iters p.owner (codes "iterators") (empty_left iters (positions ++ deep) rest);
      positions = fits_within 65535 (length (positions_of p.body)) p.owner (codes "positions") (empty_left positions deep (empty_right iters (positions ++ deep) rest));
    }

pub few_classes : (w : Whole) → count_faults w ≡ [] → 6 + length w.classes < 2 ^ 32
few_classes w e =
    let n = length w.classes in
    let few : n ≤ 16384 = fits_within 16384 n [] (codes "classes") (empty_right (within 65535 (length (places w)) [] (codes "functions")) (within 16384 n [] (codes "classes")) e) in omega (arith, few)
