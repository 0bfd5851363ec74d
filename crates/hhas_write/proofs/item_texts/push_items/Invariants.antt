use Rattle.std.proofs.Common.{◌≡◌, ◌++◌, drop}
use Rattle.hhas_lex.specs.Spaced.{text_of}
use Rattle.hhbc_repo.specs.Canonical.{items_from}
use Rattle.hhbc_repo.specs.CanonicalText.{item_pieces}
use Rattle.hhas_write.proofs.item_texts.push_items.Given as goal

abbrev pub invariant-loop-place : goal.invariant-loop-place
invariant-loop-place l =
    l.fn.out ++ text_of (item_pieces l.fn.depth (items_from l.scope.classes l.scope.body 0 l.scope.body.positions))
    ≡ l.out ++ text_of (item_pieces l.inner (items_from l.scope.classes l.scope.body l.place (drop l.place l.scope.body.positions)))
