use Rattle.std.proofs.Common.{◌∷◌, [], ◌++◌, refl, sym, ap, ◌∙◌}
use Rattle.std.specs.List.{flat_map}
use Rattle.std.proofs.lemmas.Grind.{flat_map-append}
use Rattle.hhbc_repo.specs.Codes as codes
use Rattle.hhbc_repo.proofs.KeptOnce.{joined_three}
use Rattle.hhbc_repo.proofs.code_facts.sequence_locals.Goals as goal

pub returns : goal.returns
returns c =
    joined_three c.add_once.new.locals c.add_key_locals.new.locals c.add_once-2.new.locals
    (codes.base_locals c.args.sequence.now.base) (flat_map codes.key_locals c.args.sequence.now.dims)
    (codes.key_locals (codes.last_key c.args.sequence.now.last)) _
    (λ more. c.in_ok-add_once.ensures more ∙ rw (c.new-locals.ensures, c.base_local.ensures) refl)
    (λ more. c.in_ok-add_key_locals.ensures more ∙ rw c.as_slice.ensures refl)
    (λ more. c.in_ok-add_once-2.ensures more ∙ rw (c.key_local.ensures, c.last_key.ensures) refl)
    (ap (λ l. codes.base_locals c.args.sequence.now.base ++ l)
    (sym (flat_map-append codes.key_locals c.args.sequence.now.dims (codes.last_key c.args.sequence.now.last ∷ []))))
