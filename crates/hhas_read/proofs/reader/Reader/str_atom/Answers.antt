use Rattle.std.proofs.Common.{[], ◌∷◌, refl, subst}
use Rattle.hhas_lex.specs.Tokens.{Mark}
use Rattle.hhbc_repo.specs.Languages.{Says, Behind, Means}
use Rattle.hhas_read.specs.declared.atoms.Atom.TheVariants as atoms
use Rattle.hhas_read.specs.declared.atoms.Head.TheVariants as heads
use Rattle.hhas_read.specs.Atoms.{Tail, ShortString}
use Rattle.hhas_read.specs.Reading.{Past, next}
use Rattle.hhas_read.specs.Written.{ends_atom}
use Rattle.hhas_read.proofs.Following.{behind_avoids, ends_on, left_resumes, nothing_avoids, right_resumes, stops_on}
use Rattle.hhas_read.proofs.Short.{short_lawful}
use Rattle.hhas_read.proofs.Resuming.{past_none, reads_on}
use Rattle.hhas_read.proofs.reader.Reader.str_atom.Goals as goal

pub returns-then-not-is_mark : goal.returns-then-not-is_mark
returns-then-not-is_mark c =
    let old = c.args.self.now in
    reads_on ends_atom (Tail heads.Str) (Says [] atoms.Str) old old old [] c.ended.result
    (left_resumes ends_atom (Says [] atoms.Str) (Behind (Mark 61 ∷ []) (Means atoms.OneStr ShortString)) old.tokens
    (behind_avoids ends_atom (Mark 61) [] (Means atoms.OneStr ShortString) (next old) c.if-not-is_mark.ensures)) (past_none old) c.ended.ensures

pub returns-in-Ok : goal.returns-in-Ok
returns-in-Ok c =
    let old = c.args.self.now in let mid = c.skip.new.self in
    ends_on ends_atom (Tail heads.Str) ShortString old mid c.short_string.new.self (Mark 61 ∷ []) atoms.OneStr c.in-Ok.text c.ended-in-Ok.result short_lawful
    (right_resumes ends_atom (Says [] atoms.Str) (Mark 61) atoms.OneStr ShortString mid.tokens (nothing_avoids ends_atom atoms.Str (Mark 61) refl))
    (subst (λ t. Past (t ∷ []) old mid) c.if-not-is_mark.ensures c.skip.ensures) c.in-Ok.ensures c.ended-in-Ok.ensures

pub returns-in-Err : goal.returns-in-Err
returns-in-Err c =
    let old = c.args.self.now in let mid = c.skip.new.self in
    stops_on ends_atom (Tail heads.Str) ShortString old mid c.short_string.new.self (Mark 61 ∷ []) atoms.OneStr c.in-Err.stop
    (right_resumes ends_atom (Says [] atoms.Str) (Mark 61) atoms.OneStr ShortString mid.tokens (nothing_avoids ends_atom atoms.Str (Mark 61) refl))
    (subst (λ t. Past (t ∷ []) old mid) c.if-not-is_mark.ensures c.skip.ensures) c.in-Err.ensures
