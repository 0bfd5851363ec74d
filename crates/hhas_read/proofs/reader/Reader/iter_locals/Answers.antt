use Rattle.std.proofs.Common.{◌≡◌, [], refl, sym, subst, codes, rules, Some, None, Err}
use Rattle.hhas_lex.specs.Tokens.{Word}
use Rattle.hhbc_repo.specs.CodeSyntax.{ALocal, IterLocals}
use Rattle.hhas_read.specs.Reading.{Reads, Tagged, any}
use Rattle.hhas_read.proofs.Resuming.{past_none, stop_lifts, taken_lifts}
use Rattle.hhas_read.proofs.Maybe.{perhaps_none, perhaps_some, perhaps_stops}
use Rattle.hhas_read.proofs.IterForms.{key_begins, value_never, some_value}
use Rattle.hhas_read.proofs.FormLaws.{local_lawful, tagged_lawful}
use Rattle.hhas_read.proofs.reader.Reader.iter_locals.Goals as goal

pub returns-in_err-value : goal.returns-in_err-value
returns-in_err-value c =
    let old = c.args.self.now in let new = c.tagged_local.new.self in let e = c.in_err-value.field-0.0 in let is : c.from_residual.result ≡ Err e = search rules in
    subst (λ r. Reads any IterLocals old r new) (sym is)
    (stop_lifts any IterLocals (Tagged (codes "V") ALocal) old old new [] (λ v. (None, v)) e (perhaps_none (Tagged (codes "K") ALocal) (Tagged (codes "V") ALocal) (Word (codes "K")) key_begins value_never old.tokens c.if-not-is_word.ensures) (past_none old) c.in_err-value.ensures)

pub returns-in_err-key : goal.returns-in_err-key
returns-in_err-key c =
    let old = c.args.self.now in let new = c.tagged_local-2.new.self in let e = c.in_err-key.field-0.0 in let is : c.from_residual-in_err-key.result ≡ Err e = search rules in
    subst (λ r. Reads any IterLocals old r new) (sym is) (perhaps_stops (Tagged (codes "K") ALocal) (Tagged (codes "V") ALocal) (Word (codes "K")) key_begins value_never some_value old new e c.if-not-is_word.ensures c.in_err-key.ensures)

pub returns-in_err-value-2 : goal.returns-in_err-value-2
returns-in_err-value-2 c =
    let old = c.args.self.now in let mid = c.tagged_local-2.new.self in let new = c.tagged_local-3.new.self in let k = c.in_ok-key.key in let t = c.in_ok-key.ensures in
    let e = c.in_err-value-2.field-0.0 in let is : c.from_residual-in_err-value-2.result ≡ Err e = search rules in
    subst (λ r. Reads any IterLocals old r new) (sym is)
    (stop_lifts any IterLocals (Tagged (codes "V") ALocal) old mid new t.used (λ v. (Some k, v)) e
    (perhaps_some (Tagged (codes "K") ALocal) (Tagged (codes "V") ALocal) (Word (codes "K")) key_begins value_never (tagged_lawful (codes "K") ALocal refl local_lawful) old mid k t) t.past c.in_err-value-2.ensures)

pub returns : goal.returns
returns c =
    let old = c.args.self.now in let mid = c.tagged_local-2.new.self in let new = c.tagged_local-3.new.self in let k = c.in_ok-key.key in let t = c.in_ok-key.ensures in
    taken_lifts any IterLocals (Tagged (codes "V") ALocal) old mid new t.used (λ v. (Some k, v)) c.in_ok-value-2.value
    (perhaps_some (Tagged (codes "K") ALocal) (Tagged (codes "V") ALocal) (Word (codes "K")) key_begins value_never (tagged_lawful (codes "K") ALocal refl local_lawful) old mid k t) t.past c.in_ok-value-2.ensures
