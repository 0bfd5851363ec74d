use Rattle.std.proofs.Common.{[], ◌∷◌, refl, subst, pos, rules}
use Rattle.hhas_lex.specs.Tokens.{Mark, Integer}
use Rattle.hhbc_repo.specs.CodeSyntax.{AnInteger}
use Rattle.hhbc_repo.specs.Languages.{Says, Behind, Means}
use Rattle.hhas_read.specs.declared.atoms.Atom.TheVariants as atoms
use Rattle.hhas_read.specs.declared.atoms.Head.TheVariants as heads
use Rattle.hhas_read.specs.Atoms.{Tail}
use Rattle.hhas_read.specs.Reading.{Past, Reads, next}
use Rattle.hhas_read.specs.Written.{ends_atom}
use Rattle.hhas_read.proofs.Following.{behind_avoids, ends_on, left_resumes, nothing_avoids, right_resumes, stops_on}
use Rattle.hhas_read.proofs.OneToken.{single_lawful}
use Rattle.hhas_read.proofs.Resuming.{past_none, reads_on}
use Rattle.hhas_read.proofs.Said.{same_integer}
use Rattle.hhas_read.proofs.reader.Reader.int_atom.Goals as goal

pub returns-then-not-is_mark : goal.returns-then-not-is_mark
returns-then-not-is_mark c =
    let old = c.args.self.now in
    reads_on ends_atom (Tail heads.Int) (Says [] atoms.Int) old old old [] c.ended.result
    (left_resumes ends_atom (Says [] atoms.Int) (Behind (Mark 61 ∷ []) (Means atoms.OneInt AnInteger)) old.tokens
    (behind_avoids ends_atom (Mark 61) [] (Means atoms.OneInt AnInteger) (next old) c.if-not-is_mark.ensures)) (past_none old) c.ended.ensures

pub returns-in-Ok : goal.returns-in-Ok
returns-in-Ok c =
    let old = c.args.self.now in let mid = c.skip.new.self in let new = c.integer.new.self in
    let done : Reads ends_atom (Says [] (atoms.OneInt c.in-Ok.number)) new c.ended-in-Ok.result new = search rules in
    ends_on ends_atom (Tail heads.Int) AnInteger old mid c.integer.new.self (Mark 61 ∷ []) atoms.OneInt c.in-Ok.number c.ended-in-Ok.result
    (single_lawful Integer _ (pos 0) refl same_integer)
    (right_resumes ends_atom (Says [] atoms.Int) (Mark 61) atoms.OneInt AnInteger mid.tokens (nothing_avoids ends_atom atoms.Int (Mark 61) refl))
    (subst (λ t. Past (t ∷ []) old mid) c.if-not-is_mark.ensures c.skip.ensures) c.in-Ok.ensures done

pub returns-in-Err : goal.returns-in-Err
returns-in-Err c =
    let old = c.args.self.now in let mid = c.skip.new.self in
    stops_on ends_atom (Tail heads.Int) AnInteger old mid c.integer.new.self (Mark 61 ∷ []) atoms.OneInt c.in-Err.stop
    (right_resumes ends_atom (Says [] atoms.Int) (Mark 61) atoms.OneInt AnInteger mid.tokens (nothing_avoids ends_atom atoms.Int (Mark 61) refl))
    (subst (λ t. Past (t ∷ []) old mid) c.if-not-is_mark.ensures c.skip.ensures) c.in-Err.ensures
