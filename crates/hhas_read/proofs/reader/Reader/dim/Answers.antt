use Rattle.std.proofs.Common.{[], ◌∷◌, refl, codes, subst}
use Rattle.hhas_lex.specs.Tokens.{Word}
use Rattle.hhbc_repo.specs.CodeSyntax.{ADim, QueryKey}
use Rattle.hhas_read.specs.Reading.{Past, any}
use Rattle.hhas_read.proofs.Resuming.{reads_on}
use Rattle.hhas_read.proofs.Joining.{behind_resumes, behind_stuck}
use Rattle.hhas_read.proofs.KeyForms.{some_query_key}
use Rattle.hhas_read.proofs.reader.Reader.dim.Goals as goal

pub returns-then-not-is_word : goal.returns-then-not-is_word
returns-then-not-is_word c = behind_stuck any (Word (codes "Dim")) [] QueryKey c.args.self.now refl some_query_key c.if-not-is_word.ensures

pub returns : goal.returns
returns c =
    let old = c.args.self.now in let mid = c.skip.new.self in
    reads_on any ADim QueryKey old mid c.query_key.new.self (Word (codes "Dim") ∷ []) c.query_key.result (behind_resumes any (Word (codes "Dim") ∷ []) QueryKey mid.tokens)
    (subst (λ t. Past (t ∷ []) old mid) c.if-not-is_word.ensures c.skip.ensures) c.query_key.ensures
