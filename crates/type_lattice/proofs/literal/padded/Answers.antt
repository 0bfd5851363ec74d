use Rattle.std.proofs.Common.{ap, ◌∙◌, ◌++◌, drop, length, replicate, ℕ, List}
use Rattle.std.proofs.lemmas.List.{drop-replicate}
use Rattle.type_lattice.proofs.literal.padded.Goals as goal

pub returns : goal.returns
returns c =
    ap (λ (front : List ℕ). front ++ drop (length c.args.text.now) (replicate 32 0)) c.copy_from_slice.ensures.after
    ∙ ap (λ (rest : List ℕ). c.args.text.now ++ rest) (drop-replicate (length c.args.text.now) 32 0)
