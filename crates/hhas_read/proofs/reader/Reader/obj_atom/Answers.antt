use Rattle.std.proofs.Common.{[], ◌∷◌, refl, subst, codes}
use Rattle.hhas_lex.specs.Tokens.{Mark, LessEqual, Word}
use Rattle.hhbc_repo.specs.CodeSyntax.{AWord}
use Rattle.hhbc_repo.specs.Languages.{Says}
use Rattle.hhas_read.specs.declared.atoms.Atom.TheVariants as atoms
use Rattle.hhas_read.specs.declared.atoms.Head.TheVariants as heads
use Rattle.hhas_read.specs.Atoms.{Tail}
use Rattle.hhas_read.specs.Reading.{Past, any, next}
use Rattle.hhas_read.specs.Written.{ends_atom}
use Rattle.hhas_read.proofs.Following.{ends_on, stops_on}
use Rattle.hhas_read.proofs.Joining.{Lawful}
use Rattle.hhas_read.proofs.Objects.{exact_resumes, sub_resumes, whole_resumes}
use Rattle.hhas_read.proofs.OneToken.{single_lawful}
use Rattle.hhas_read.proofs.Resuming.{past_none, reads_on}
use Rattle.hhas_read.proofs.Said.{not_less_equal, same_word}
use Rattle.hhas_read.proofs.reader.Reader.obj_atom.Goals as goal

lawful : Lawful any AWord
lawful = single_lawful Word any (codes "a") refl same_word

pub returns-in-Ok : goal.returns-in-Ok
returns-in-Ok c =
    let old = c.args.self.now in let mid = c.skip.new.self in let past = subst (λ t. Past (t ∷ []) old mid) c.if-is_mark.ensures c.skip.ensures in
    ends_on ends_atom (Tail heads.Obj) AWord old mid c.word.new.self (Mark 61 ∷ []) atoms.Exact c.in-Ok.class c.ended.result lawful
    (exact_resumes old mid c.if-is_mark.ensures past) past c.in-Ok.ensures c.ended.ensures

pub returns-in-Err : goal.returns-in-Err
returns-in-Err c =
    let old = c.args.self.now in let mid = c.skip.new.self in let past = subst (λ t. Past (t ∷ []) old mid) c.if-is_mark.ensures c.skip.ensures in
    stops_on ends_atom (Tail heads.Obj) AWord old mid c.word.new.self (Mark 61 ∷ []) atoms.Exact c.in-Err.stop
    (exact_resumes old mid c.if-is_mark.ensures past) past c.in-Err.ensures

pub returns-in-Ok-word : goal.returns-in-Ok-word
returns-in-Ok-word c =
    let old = c.args.self.now in let mid = c.skip-in-LessEqual.new.self in
    ends_on ends_atom (Tail heads.Obj) AWord old mid c.word-in-LessEqual.new.self (LessEqual ∷ []) atoms.Sub c.in-Ok-word.class c.ended-in-Ok-word.result lawful
    (sub_resumes mid.tokens) (subst (λ t. Past (t ∷ []) old mid) c.in-LessEqual.ensures c.skip-in-LessEqual.ensures) c.in-Ok-word.ensures c.ended-in-Ok-word.ensures

pub returns-in-Err-word : goal.returns-in-Err-word
returns-in-Err-word c =
    let old = c.args.self.now in let mid = c.skip-in-LessEqual.new.self in
    stops_on ends_atom (Tail heads.Obj) AWord old mid c.word-in-LessEqual.new.self (LessEqual ∷ []) atoms.Sub c.in-Err-word.stop
    (sub_resumes mid.tokens) (subst (λ t. Past (t ∷ []) old mid) c.in-LessEqual.ensures c.skip-in-LessEqual.ensures) c.in-Err-word.ensures

pub returns : goal.returns
returns c =
    let old = c.args.self.now in
    reads_on ends_atom (Tail heads.Obj) (Says [] atoms.Obj) old old old [] c.ended-2.result
    (whole_resumes old.tokens c.if-is_mark.ensures (not_less_equal c.peek.result (next old) c.peek.ensures c.in_default.not-LessEqual))
    (past_none old) c.ended-2.ensures
