use Rattle.std.proofs.Common.{◌++◌, [], ◌∷◌, Bool, if◌then◌else◌, ◌∙◌, ap}
use Rattle.hack_values.proofs.KeyLaws.{any-no_place}
use Rattle.hack_values.proofs.key.push_key.Goals as goal

pub returns-clause-ok : goal.returns-clause-ok
returns-clause-ok c =
    let keys = c.args.keys.now.keys in
    c.in_ok-insert.ensures.keys ∙ ap (λ (b : Bool). if b then keys else keys ++ c.args.key ∷ []) (any-no_place c.args.key keys c.requires)
