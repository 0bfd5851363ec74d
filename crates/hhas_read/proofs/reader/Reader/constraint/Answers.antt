use Rattle.std.proofs.Common.{[], ◌∷◌, codes, subst}
use Rattle.hhas_lex.specs.Tokens.{Word}
use Rattle.hhbc_repo.specs.Languages.{Says}
use Rattle.hhas_read.specs.declared.leaves.Written.TheVariants as written
use Rattle.hhas_read.specs.Constraints.{AConstraintOf, BroadsFrom}
use Rattle.hhas_read.specs.Reading.{Past}
use Rattle.hhas_read.specs.Written.{ends_type}
use Rattle.hhas_read.proofs.Broad.{cell_constraint, atoms_constraint}
use Rattle.hhas_read.proofs.Resuming.{past_none, reads_on, stop_lifts}
use Rattle.hhas_read.proofs.reader.Reader.constraint.Goals as goal

pub returns-then-is_word : goal.returns-then-is_word
returns-then-is_word c =
    let old = c.args.self.now in let mid = c.skip.new.self in
    reads_on ends_type AConstraintOf (Says [] written.Cell) old mid mid (Word (codes "Cell") ∷ []) c.leaf_ended.result (cell_constraint ends_type mid.tokens)
    (subst (λ t. Past (t ∷ []) old mid) c.if-is_word.ensures c.skip.ensures) c.leaf_ended.ensures

pub returns-in-Err : goal.returns-in-Err
returns-in-Err c =
    let old = c.args.self.now in
    stop_lifts ends_type AConstraintOf (BroadsFrom 0) old old c.broad_atoms.new.self [] written.Of c.in-Err.stop
    (atoms_constraint ends_type old.tokens c.if-is_word.ensures) (past_none old) c.in-Err.ensures
