use Rattle.std.proofs.Common.{[], ◌∷◌, refl, subst}
use Rattle.hhas_lex.specs.Tokens.{LessEqual}
use Rattle.hhbc_repo.specs.CodeSyntax.{AWord}
use Rattle.hhbc_repo.specs.Languages.{Says, Behind, Means}
use Rattle.hhas_read.specs.declared.atoms.Atom.TheVariants as atoms
use Rattle.hhas_read.specs.declared.atoms.Head.TheVariants as heads
use Rattle.hhas_read.specs.Constraints.{BroadTail}
use Rattle.hhas_read.specs.Reading.{Past, next}
use Rattle.hhas_read.specs.Written.{ends_atom}
use Rattle.hhas_read.proofs.Broad.{sub_broad}
use Rattle.hhas_read.proofs.Following.{behind_avoids, ends_on, left_resumes, stops_on}
use Rattle.hhas_read.proofs.OneAtom.{a_word}
use Rattle.hhas_read.proofs.Resuming.{past_none, reads_on}
use Rattle.hhas_read.proofs.Said.{not_less_equal}
use Rattle.hhas_read.proofs.reader.Reader.broad_obj.Goals as goal

pub returns-in-Ok : goal.returns-in-Ok
returns-in-Ok c =
    let old = c.args.self.now in let mid = c.skip.new.self in
    ends_on ends_atom (BroadTail heads.Obj) AWord old mid c.word.new.self (LessEqual ∷ []) atoms.Sub c.in-Ok.class c.ended.result a_word
    (sub_broad ends_atom mid.tokens refl) (subst (λ t. Past (t ∷ []) old mid) c.in-LessEqual.ensures c.skip.ensures) c.in-Ok.ensures c.ended.ensures

pub returns-in-Err : goal.returns-in-Err
returns-in-Err c =
    let old = c.args.self.now in let mid = c.skip.new.self in
    stops_on ends_atom (BroadTail heads.Obj) AWord old mid c.word.new.self (LessEqual ∷ []) atoms.Sub c.in-Err.stop
    (sub_broad ends_atom mid.tokens refl) (subst (λ t. Past (t ∷ []) old mid) c.in-LessEqual.ensures c.skip.ensures) c.in-Err.ensures

pub returns : goal.returns
returns c =
    let old = c.args.self.now in
    reads_on ends_atom (BroadTail heads.Obj) (Says [] atoms.Obj) old old old [] c.ended-2.result
    (left_resumes ends_atom (Says [] atoms.Obj) (Behind (LessEqual ∷ []) (Means atoms.Sub AWord)) old.tokens
    (behind_avoids ends_atom LessEqual [] (Means atoms.Sub AWord) (next old) (not_less_equal c.peek.result (next old) c.peek.ensures c.in_default.not-LessEqual)))
    (past_none old) c.ended-2.ensures
