use Rattle.std.proofs.Common.{[], ◌∷◌, ◌++◌, ap, ◌∙◌, refl, subst}
use Rattle.hhas_lex.specs.Tokens.{Mark}
use Rattle.hhbc_repo.specs.Languages.{Says, Behind}
use Rattle.hhas_read.specs.declared.types.TypeAtom.TheVariants.{Uninit}
use Rattle.hhas_read.specs.declared.whole_types.WrittenType.TheVariants as whole
use Rattle.hhas_read.specs.Reading.{Past, Reads, next}
use Rattle.hhas_read.specs.WholeTypes.{UninitMore, UninitTail}
use Rattle.hhas_read.specs.Written.{ends_type}
use Rattle.hhas_read.proofs.Following.{behind_avoids, left_resumes}
use Rattle.hhas_read.proofs.Resuming.{past_none, reads_on}
use Rattle.hhas_read.proofs.TypeForms.{bar_resumes}
use Rattle.hhas_read.proofs.reader.Reader.behind_uninit.Goals as goal

pub returns-then-not-is_mark : goal.returns-then-not-is_mark
returns-then-not-is_mark c =
    let old = c.args.self.now in
    reads_on ends_type UninitTail (Says [] (whole.Atoms (Uninit ∷ []))) old old old [] c.type_ended.result
    (left_resumes ends_type (Says [] (whole.Atoms (Uninit ∷ []))) (Behind (Mark 124 ∷ []) UninitMore) old.tokens
    (behind_avoids ends_type (Mark 124) [] UninitMore (next old) c.if-not-is_mark.ensures)) (past_none old)
    (subst (λ l. Reads ends_type (Says [] (whole.Atoms l)) old c.type_ended.result old) (c.in_ok-push.ensures.ok ∙ ap (λ l. l ++ Uninit ∷ []) c.new-first.ensures) c.type_ended.ensures)

pub returns : goal.returns
returns c =
    let old = c.args.self.now in let mid = c.skip.new.self in
    reads_on ends_type UninitTail UninitMore old mid c.uninit_more.new.self (Mark 124 ∷ []) c.uninit_more.result (bar_resumes ends_type mid.tokens refl)
    (subst (λ t. Past (t ∷ []) old mid) c.if-not-is_mark.ensures c.skip.ensures) c.uninit_more.ensures
