use Rattle.std.proofs.Common.{◌≡◌, refl, codes, rules, Err}
use Rattle.hhbc_repo.specs.declared.parts.MemberKeyParts.TheVariants as keys
use Rattle.hhbc_repo.specs.CodeSyntax.{ChangeKey, ALocal, AnIndex, AString, AnInteger, AWord}
use Rattle.hhas_read.specs.Reading.{Tagged, any}
use Rattle.hhas_read.proofs.FirstWord.{form_stop}
use Rattle.hhas_read.proofs.KeyForms.{key_word, change_begins, change_stuck, elem_stack, elem_local, elem_text, elem_int, prop_stack, prop_local, prop_name}
use Rattle.hhas_read.proofs.reader.Reader.change_key.Goals as goal

pub returns-in_err-tagged_index : goal.returns-in_err-tagged_index
returns-in_err-tagged_index c =
    let is : c.from_residual.result ≡ Err c.in_err-tagged_index.field-0.0 = search rules in
    form_stop ChangeKey key_word (Tagged (codes "EC") AnIndex) keys.ElemStack (codes "EC") change_begins elem_stack (λ w u m. (m, refl, refl)) (λ w u n. n.0)
    any c.args.self.now c.tagged_index.new.self c.in_err-tagged_index.field-0.0 c.from_residual.result c.if-is_word.ensures is c.in_err-tagged_index.ensures

pub returns-in_err-tagged_local : goal.returns-in_err-tagged_local
returns-in_err-tagged_local c =
    let is : c.from_residual-in_err-tagged_local.result ≡ Err c.in_err-tagged_local.field-0.0 = search rules in
    form_stop ChangeKey key_word (Tagged (codes "EL") ALocal) keys.ElemLocal (codes "EL") change_begins elem_local (λ w u m. (m, refl, refl)) (λ w u n. n.0)
    any c.args.self.now c.tagged_local.new.self c.in_err-tagged_local.field-0.0 c.from_residual-in_err-tagged_local.result c.if-is_word-2.ensures is c.in_err-tagged_local.ensures

pub returns-in_err-tagged_string : goal.returns-in_err-tagged_string
returns-in_err-tagged_string c =
    let is : c.from_residual-in_err-tagged_string.result ≡ Err c.in_err-tagged_string.field-0.0 = search rules in
    form_stop ChangeKey key_word (Tagged (codes "ET") AString) keys.ElemText (codes "ET") change_begins elem_text (λ w u m. (m, refl, refl)) (λ w u n. n.0)
    any c.args.self.now c.tagged_string.new.self c.in_err-tagged_string.field-0.0 c.from_residual-in_err-tagged_string.result c.if-is_word-3.ensures is c.in_err-tagged_string.ensures

pub returns-in_err-tagged_integer : goal.returns-in_err-tagged_integer
returns-in_err-tagged_integer c =
    let is : c.from_residual-in_err-tagged_integer.result ≡ Err c.in_err-tagged_integer.field-0.0 = search rules in
    form_stop ChangeKey key_word (Tagged (codes "EI") AnInteger) keys.ElemInt (codes "EI") change_begins elem_int (λ w u m. (m, refl, refl)) (λ w u n. n.0)
    any c.args.self.now c.tagged_integer.new.self c.in_err-tagged_integer.field-0.0 c.from_residual-in_err-tagged_integer.result c.if-is_word-4.ensures is c.in_err-tagged_integer.ensures

pub returns-in_err-tagged_index-2 : goal.returns-in_err-tagged_index-2
returns-in_err-tagged_index-2 c =
    let is : c.from_residual-in_err-tagged_index-2.result ≡ Err c.in_err-tagged_index-2.field-0.0 = search rules in
    form_stop ChangeKey key_word (Tagged (codes "PC") AnIndex) keys.PropStack (codes "PC") change_begins prop_stack (λ w u m. (m, refl, refl)) (λ w u n. n.0)
    any c.args.self.now c.tagged_index-then-is_word-5.new.self c.in_err-tagged_index-2.field-0.0 c.from_residual-in_err-tagged_index-2.result c.if-is_word-5.ensures is c.in_err-tagged_index-2.ensures

pub returns-in_err-tagged_local-2 : goal.returns-in_err-tagged_local-2
returns-in_err-tagged_local-2 c =
    let is : c.from_residual-in_err-tagged_local-2.result ≡ Err c.in_err-tagged_local-2.field-0.0 = search rules in
    form_stop ChangeKey key_word (Tagged (codes "PL") ALocal) keys.PropLocal (codes "PL") change_begins prop_local (λ w u m. (m, refl, refl)) (λ w u n. n.0)
    any c.args.self.now c.tagged_local-then-is_word-6.new.self c.in_err-tagged_local-2.field-0.0 c.from_residual-in_err-tagged_local-2.result c.if-is_word-6.ensures is c.in_err-tagged_local-2.ensures

pub returns-in_err-tagged_word : goal.returns-in_err-tagged_word
returns-in_err-tagged_word c =
    let is : c.from_residual-in_err-tagged_word.result ≡ Err c.in_err-tagged_word.field-0.0 = search rules in
    form_stop ChangeKey key_word (Tagged (codes "PT") AWord) keys.PropName (codes "PT") change_begins prop_name (λ w u m. (m, refl, refl)) (λ w u n. n.0)
    any c.args.self.now c.tagged_word.new.self c.in_err-tagged_word.field-0.0 c.from_residual-in_err-tagged_word.result c.if-is_word-7.ensures is c.in_err-tagged_word.ensures

pub returns : goal.returns
returns c = change_stuck c.args.self.now c.if-is_word.ensures c.if-is_word-2.ensures c.if-is_word-3.ensures c.if-is_word-4.ensures c.if-is_word-5.ensures c.if-is_word-6.ensures c.if-is_word-7.ensures
