use Rattle.std.proofs.Common.{◌≡◌, ◌++◌, take}
use Rattle.std.specs.List.{flat_map}
use Rattle.hhas_lex.specs.Spaced.{text_of}
use Rattle.hhbc_repo.specs.Canonical.{canonical_assert}
use Rattle.hhbc_repo.specs.CanonicalText.{assert_pieces}
use Rattle.hhbc_repo.specs.declared.body.Assert.{Assert}
use Rattle.hhas_write.proofs.assertions.push_assertions.Given as goal

abbrev pub invariant-loop-claim : goal.invariant-loop-claim
invariant-loop-claim l = l.out ≡ l.fn.out ++ flat_map (λ (a : Assert). text_of (assert_pieces l.depth (canonical_assert l.scope.classes l.scope.body a))) (take l.claim-index l.claims)
