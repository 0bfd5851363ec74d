use Rattle.std.proofs.Common.{[], ◌∷◌, refl, sym, subst, inl}
use Rattle.hhas_lex.specs.Tokens.{Mark}
use Rattle.hhbc_repo.specs.BodySyntax.{Params}
use Rattle.hhas_read.specs.Reading.{LocalsTo, Past, Taken, any, next}
use Rattle.hhas_read.proofs.Resuming.{reads_on, taken_lifts}
use Rattle.hhas_read.proofs.Choice.{reads_right}
use Rattle.hhas_read.proofs.Parens.{Closed, Opened, opened_resumes, never_closed, params_stuck}
use Rattle.hhas_read.proofs.reader.Reader.params.Goals as goal

pub returns-then-not-is_mark : goal.returns-then-not-is_mark
returns-then-not-is_mark c = params_stuck c.args.self.now c.if-not-is_mark.ensures

pub returns-then-is_mark : goal.returns-then-is_mark
returns-then-is_mark c =
    let old = c.args.self.now in let mid = c.skip.new.self in let new = c.skip-then-is_mark.new.self in
    let opened : Past (Mark 40 ∷ []) old mid = subst (λ t. Past (t ∷ []) old mid) c.if-not-is_mark.ensures c.skip.ensures in
    let closed : Past (Mark 41 ∷ []) mid new = subst (λ t. Past (t ∷ []) mid new) c.if-is_mark.ensures c.skip-then-is_mark.ensures in
    subst (Taken any Params old new) (sym c.new.ensures)
    (taken_lifts any Params Opened old mid new (Mark 40 ∷ []) (λ v. v) [] (opened_resumes mid.tokens) opened
    (record { used = Mark 41 ∷ []; past = closed; word = inl (refl, refl); follows = refl }))

pub returns : goal.returns
returns c =
    let old = c.args.self.now in let mid = c.skip.new.self in let new = c.locals_to.new.self in
    let opened : Past (Mark 40 ∷ []) old mid = subst (λ t. Past (t ∷ []) old mid) c.if-not-is_mark.ensures c.skip.ensures in
    reads_on any Params Opened old mid new (Mark 40 ∷ []) c.locals_to.result (opened_resumes mid.tokens) opened
    (reads_right any Closed (LocalsTo 41) mid new c.locals_to.result (never_closed (next mid) c.if-is_mark.ensures) c.locals_to.ensures)
