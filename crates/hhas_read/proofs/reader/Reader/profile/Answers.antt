use Rattle.std.proofs.Common.{[], ◌∷◌, codes, pos, subst}
use Rattle.hhas_lex.specs.Tokens.{Directive, Integer, Mark}
use Rattle.hhbc_repo.specs.Languages.{Says}
use Rattle.hhas_read.specs.Declarations.{Profile}
use Rattle.hhas_read.specs.Reading.{Just, Past, any}
use Rattle.hhas_read.proofs.Firsts.{just_resumes}
use Rattle.hhas_read.proofs.Joining.{says_first}
use Rattle.hhas_read.proofs.Resuming.{past_none, reads_on}
use Rattle.hhas_read.proofs.reader.Reader.profile.Goals as goal

pub returns : goal.returns
returns c =
    let old = c.args.self.now in let mid = c.skip.new.self in let last = c.skip-2.new.self in let new = c.mark.new.self in let r = c.mark.result in
    let profile = Directive (codes "profile") in let one = Integer (pos 1) in
    reads_on any Profile (Says (one ∷ Mark 59 ∷ []) (tt {0})) old mid new (profile ∷ []) r (says_first any profile (one ∷ Mark 59 ∷ []) tt mid.tokens)
    (subst (λ t. Past (t ∷ []) old mid) c.if-not-is_directive.ensures c.skip.ensures)
    (reads_on any (Says (one ∷ Mark 59 ∷ []) (tt {0})) (Says (Mark 59 ∷ []) (tt {0})) mid last new (one ∷ []) r (says_first any one (Mark 59 ∷ []) tt last.tokens)
    (subst (λ t. Past (t ∷ []) mid last) c.if-not-is_one.ensures c.skip-2.ensures)
    (reads_on any (Says (Mark 59 ∷ []) (tt {0})) (Just (Mark 59)) last last new [] r (just_resumes any (Mark 59) last.tokens) (past_none last) c.mark.ensures))
