use Rattle.std.proofs.Common.{◌∙◌, ap, sym, append_assoc, ◌∷◌, ◌++◌, [], ℕ, List}
use Rattle.hhbc_repo.specs.CanonicalText.{indent}
use Rattle.hhas_write.proofs.Written.{indent_more}
use Rattle.hhas_write.proofs.pieces.push_line.Goals as goal

pub loop-preserved : goal.loop-preserved
loop-preserved c =
    c.in_ok-append-2.ensures.ok ∙ ap (λ (l : List ℕ). l ++ 32 ∷ 32 ∷ []) c.loop.invariant ∙ append_assoc c.args.out.now (10 ∷ indent c.loop.counter) (32 ∷ 32 ∷ [])
    ∙ ap (λ l. c.args.out.now ++ 10 ∷ l) (sym (indent_more c.loop.counter))
