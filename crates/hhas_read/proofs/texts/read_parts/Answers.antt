use Rattle.std.proofs.Common.{subst, sym, Err}
use Rattle.hhbc_repo.specs.TextSyntax.{FirstFault, Spells}
use Rattle.hhas_read.specs.declared.reader.Stop.{Stop}
use Rattle.hhas_read.specs.Reading.{Reads}
use Rattle.hhas_read.specs.TextWithoutEnd.{DeclaredText, is_end}
use Rattle.hhas_read.proofs.FirstFaults.{stuck_faults, taken_spells}
use Rattle.hhas_read.proofs.FittingTexts.{spelled_fits}
use Rattle.hhas_read.proofs.texts.read_parts.Goals as goal

pub into_parts-requires : goal.into_parts-requires
into_parts-requires c =
    spelled_fits c.spelled_parts_fit.ensures c.args.text.now c.in-Ok.parts
    (taken_spells c.args.text.now c.new-reader.result c.declarations.new.self c.in-Ok.parts c.new-reader.ensures.tokens c.in-Ok.ensures)

pub returns-in-Ok-clause-parts : goal.returns-in-Ok-clause-parts
returns-in-Ok-clause-parts c =
    subst (Spells c.args.text.now) c.into_parts.ensures
    (taken_spells c.args.text.now c.new-reader.result c.declarations.new.self c.in-Ok.parts c.new-reader.ensures.tokens c.in-Ok.ensures)

pub returns-in-Err-Syntax-clause-fault : goal.returns-in-Err-Syntax-clause-fault
returns-in-Err-Syntax-clause-fault c =
    let old = c.new-reader.result in
    let new = c.declarations.new.self in
    let stuck = subst (λ (s : Stop). Reads is_end DeclaredText old (Err s) new) c.in-Err-Syntax.field-0-is c.in-Err-Syntax.ensures in
    subst (FirstFault c.args.text.now) (sym c.place.ensures.place)
    (stuck_faults c.args.text.now old new c.new-reader.ensures.tokens c.new-reader.ensures.places c.place.ensures.some stuck)
