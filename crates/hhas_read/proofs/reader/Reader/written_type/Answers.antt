use Rattle.std.proofs.Common.{[], ◌∷◌, codes, subst, Err}
use Rattle.hhas_lex.specs.Tokens.{Word}
use Rattle.hhbc_repo.specs.Languages.{Says}
use Rattle.hhas_read.specs.declared.whole_types.WrittenType.TheVariants as whole
use Rattle.hhas_read.specs.WholeTypes.{AWrittenTypeOf, TypeAtomsBehind, UninitTail}
use Rattle.hhas_read.specs.Reading.{Past, Reads, Taken}
use Rattle.hhas_read.specs.Written.{ends_type}
use Rattle.hhas_read.proofs.TypeForms.{never_type, cell_type, atoms_type, uninit_type}
use Rattle.hhas_read.proofs.Resuming.{past_none, reads_on, stop_lifts, taken_lifts}
use Rattle.hhas_read.proofs.reader.Reader.written_type.Goals as goal

pub returns-then-is_word : goal.returns-then-is_word
returns-then-is_word c =
    let old = c.args.self.now in let mid = c.skip.new.self in
    reads_on ends_type AWrittenTypeOf (Says [] whole.Never) old mid mid (Word (codes "Never") ∷ []) c.type_ended.result (never_type ends_type mid.tokens)
    (subst (λ t. Past (t ∷ []) old mid) c.if-is_word.ensures c.skip.ensures) c.type_ended.ensures

pub returns-then-is_word-2 : goal.returns-then-is_word-2
returns-then-is_word-2 c =
    let old = c.args.self.now in let mid = c.skip-then-is_word-2.new.self in
    reads_on ends_type AWrittenTypeOf (Says [] whole.Cell) old mid mid (Word (codes "Cell") ∷ []) c.type_ended-then-is_word-2.result (cell_type ends_type mid.tokens)
    (subst (λ t. Past (t ∷ []) old mid) c.if-is_word-2.ensures c.skip-then-is_word-2.ensures) c.type_ended-then-is_word-2.ensures

pub returns-then-is_word-3 : goal.returns-then-is_word-3
returns-then-is_word-3 c =
    let old = c.args.self.now in let mid = c.skip-then-is_word-3.new.self in
    reads_on ends_type AWrittenTypeOf UninitTail old mid c.behind_uninit.new.self (Word (codes "Uninit") ∷ []) c.behind_uninit.result (uninit_type ends_type mid.tokens)
    (subst (λ t. Past (t ∷ []) old mid) c.if-is_word-3.ensures c.skip-then-is_word-3.ensures) c.behind_uninit.ensures

pub returns-in-Err : goal.returns-in-Err
returns-in-Err c =
    let old = c.args.self.now in
    stop_lifts ends_type AWrittenTypeOf (TypeAtomsBehind []) old old c.type_atoms.new.self [] whole.Atoms c.in-Err.stop
    (atoms_type ends_type old.tokens c.if-is_word.ensures c.if-is_word-2.ensures c.if-is_word-3.ensures) (past_none old)
    (subst (λ l. Reads ends_type (TypeAtomsBehind l) old (Err c.in-Err.stop) c.type_atoms.new.self) c.new.ensures c.in-Err.ensures)

pub returns-in-Ok : goal.returns-in-Ok
returns-in-Ok c =
    let old = c.args.self.now in
    taken_lifts ends_type AWrittenTypeOf (TypeAtomsBehind []) old old c.type_atoms.new.self [] whole.Atoms c.in-Ok.atoms
    (atoms_type ends_type old.tokens c.if-is_word.ensures c.if-is_word-2.ensures c.if-is_word-3.ensures) (past_none old)
    (subst (λ l. Taken ends_type (TypeAtomsBehind l) old c.type_atoms.new.self c.in-Ok.atoms) c.new.ensures c.in-Ok.ensures)
