use Rattle.std.proofs.Common.{◌≡◌, ◌++◌, take}
use Rattle.std.specs.List.{flat_map}
use Rattle.hhas_lex.specs.Spaced.{text_of}
use Rattle.hhbc_repo.specs.Canonical.{canonical_key}
use Rattle.hhbc_repo.specs.CanonicalText.{dim_pieces}
use Rattle.hhbc_repo.specs.declared.code.MemberKey.{MemberKey}
use Rattle.hhas_write.proofs.members.push_dims.Given as goal

abbrev pub invariant-loop-key : goal.invariant-loop-key
invariant-loop-key l = l.out ≡ l.fn.out ++ flat_map (λ (k : MemberKey). text_of (dim_pieces l.depth (canonical_key l.scope.body k))) (take l.key-index l.dims)
