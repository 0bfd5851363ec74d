use Rattle.std.proofs.Common.{◌≡◌, ◌++◌, List, ℕ, drop}
use Rattle.std.specs.List.{flat_map}
use Rattle.hhbc_repo.specs.Codes as codes
use Rattle.hhbc_repo.specs.EachOnce.{joined}
use Rattle.hhbc_repo.proofs.code_facts.add_key_locals.Given as goal

abbrev pub invariant-loop-key : goal.invariant-loop-key
invariant-loop-key l =
    (more : List ℕ)
    → joined l.locals (flat_map codes.key_locals (drop l.key-index l.keys) ++ more) ≡ joined l.initial.locals (flat_map codes.key_locals l.keys ++ more)
