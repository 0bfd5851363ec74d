use Rattle.std.proofs.Common.{[], ◌∷◌, codes, subst, Err}
use Rattle.hhas_lex.specs.Tokens.{Word}
use Rattle.hhbc_repo.specs.Languages.{Says}
use Rattle.hhas_read.specs.declared.types.TypeAtom.TheVariants.{Uninit}
use Rattle.hhas_read.specs.declared.whole_types.WrittenType.TheVariants as whole
use Rattle.hhas_read.specs.Reading.{Past, Reads, Taken}
use Rattle.hhas_read.specs.WholeTypes.{TypeAtomsBehind, UninitMore}
use Rattle.hhas_read.specs.Written.{ends_type}
use Rattle.hhas_read.proofs.Resuming.{past_none, reads_on, stop_lifts, taken_lifts}
use Rattle.hhas_read.proofs.TypeForms.{atoms_more, cell_more}
use Rattle.hhas_read.proofs.reader.Reader.uninit_more.Goals as goal

pub returns-then-is_word : goal.returns-then-is_word
returns-then-is_word c =
    let old = c.args.self.now in let mid = c.skip.new.self in
    reads_on ends_type UninitMore (Says [] whole.UninitCell) old mid mid (Word (codes "Cell") ∷ []) c.type_ended.result (cell_more ends_type mid.tokens)
    (subst (λ t. Past (t ∷ []) old mid) c.if-is_word.ensures c.skip.ensures) c.type_ended.ensures

pub returns-in-Ok : goal.returns-in-Ok
returns-in-Ok c =
    let old = c.args.self.now in
    taken_lifts ends_type UninitMore (TypeAtomsBehind (Uninit ∷ [])) old old c.type_atoms.new.self [] whole.Atoms c.in-Ok.atoms
    (atoms_more ends_type old.tokens c.if-is_word.ensures) (past_none old)
    (subst (λ l. Taken ends_type (TypeAtomsBehind l) old c.type_atoms.new.self c.in-Ok.atoms) c.requires c.in-Ok.ensures)

pub returns-in-Err : goal.returns-in-Err
returns-in-Err c =
    let old = c.args.self.now in
    stop_lifts ends_type UninitMore (TypeAtomsBehind (Uninit ∷ [])) old old c.type_atoms.new.self [] whole.Atoms c.in-Err.stop
    (atoms_more ends_type old.tokens c.if-is_word.ensures) (past_none old)
    (subst (λ l. Reads ends_type (TypeAtomsBehind l) old (Err c.in-Err.stop) c.type_atoms.new.self) c.requires c.in-Err.ensures)
