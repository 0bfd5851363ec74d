use Rattle.std.proofs.Common.{◌≡◌, refl, codes, rules, Err}
use Rattle.hhbc_repo.specs.declared.parts.MemberKeyParts.TheVariants as keys
use Rattle.hhbc_repo.specs.CodeSyntax.{ChangeKey, QueryKey, AWord}
use Rattle.hhas_read.specs.Reading.{Tagged, any}
use Rattle.hhas_read.proofs.FirstWord.{form_stop, reads_wider}
use Rattle.hhas_read.proofs.KeyForms.{key_word, query_begins, query_narrow, nullsafe_name}
use Rattle.hhas_read.proofs.reader.Reader.query_key.Goals as goal

pub returns-in_err-tagged_word : goal.returns-in_err-tagged_word
returns-in_err-tagged_word c =
    let is : c.from_residual.result ≡ Err c.in_err-tagged_word.field-0.0 = search rules in
    form_stop QueryKey key_word (Tagged (codes "QT") AWord) keys.NullsafeName (codes "QT") query_begins nullsafe_name (λ w u m. (m, refl)) (λ w u n. n.0)
    any c.args.self.now c.tagged_word.new.self c.in_err-tagged_word.field-0.0 c.from_residual.result c.if-is_word.ensures is c.in_err-tagged_word.ensures

pub returns : goal.returns
returns c =
    reads_wider any ChangeKey QueryKey c.args.self.now c.change_key.new.self c.change_key.result (λ w k n. (n.0, n.1)) (query_narrow c.args.self.now c.if-is_word.ensures) c.change_key.ensures
