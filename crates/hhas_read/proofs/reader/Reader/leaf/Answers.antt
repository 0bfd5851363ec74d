use Rattle.std.proofs.Common.{[], ◌∷◌, codes, subst, false}
use Rattle.hhas_lex.specs.Tokens.{Word}
use Rattle.hhbc_repo.specs.Languages.{Says}
use Rattle.hhas_read.specs.declared.leaves.Written.TheVariants as written
use Rattle.hhas_read.specs.LeafSyntax.{ALeafOf, AtomsFrom}
use Rattle.hhas_read.specs.Reading.{Past}
use Rattle.hhas_read.specs.Written.{ends_type}
use Rattle.hhas_read.proofs.LeafWords.{never_leaf, cell_leaf, atoms_leaf}
use Rattle.hhas_read.proofs.Resuming.{past_none, reads_on, stop_lifts}
use Rattle.hhas_read.proofs.reader.Reader.leaf.Goals as goal

pub returns-then-is_word : goal.returns-then-is_word
returns-then-is_word c =
    let old = c.args.self.now in let mid = c.skip.new.self in
    reads_on ends_type ALeafOf (Says [] written.Never) old mid mid (Word (codes "Never") ∷ []) c.leaf_ended.result (never_leaf ends_type mid.tokens)
    (subst (λ t. Past (t ∷ []) old mid) c.if-is_word.ensures c.skip.ensures) c.leaf_ended.ensures

pub returns-then-is_word-2 : goal.returns-then-is_word-2
returns-then-is_word-2 c =
    let old = c.args.self.now in let mid = c.skip-then-is_word-2.new.self in
    reads_on ends_type ALeafOf (Says [] written.Cell) old mid mid (Word (codes "Cell") ∷ []) c.leaf_ended-then-is_word-2.result (cell_leaf ends_type mid.tokens)
    (subst (λ t. Past (t ∷ []) old mid) c.if-is_word-2.ensures c.skip-then-is_word-2.ensures) c.leaf_ended-then-is_word-2.ensures

pub returns-in-Err : goal.returns-in-Err
returns-in-Err c =
    let old = c.args.self.now in
    stop_lifts ends_type ALeafOf (AtomsFrom false 0) old old c.atoms.new.self [] written.Of c.in-Err.stop
    (atoms_leaf ends_type old.tokens c.if-is_word.ensures c.if-is_word-2.ensures) (past_none old) c.in-Err.ensures
