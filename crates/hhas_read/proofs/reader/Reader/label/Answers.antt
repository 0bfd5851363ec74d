use Rattle.std.proofs.Common.{◌≡◌, ◌∙◌, refl, ap, sym, codes, false}
use Rattle.hhas_lex.specs.Tokens.{Word}
use Rattle.hhbc_repo.specs.CodeSyntax.{is_reserved}
use Rattle.hhas_read.specs.Reading.{any, next}
use Rattle.hhas_read.proofs.OneToken.{guarded_stuck}
use Rattle.hhas_read.proofs.Said.{not_word, same_word}
use Rattle.hhas_read.proofs.Reserved.{a_label, never_both}
use Rattle.hhas_read.proofs.reader.Reader.label.Goals as goal

pub returns-in_default : goal.returns-in_default
returns-in_default c =
    guarded_stuck Word (λ w. is_reserved w ≡ false) any (codes "a") refl a_label c.args.self.now
    (λ w e f. not_word c.peek.result (next c.args.self.now) c.peek.ensures c.in_default.not-Word w e)

pub returns-then-is_reserved : goal.returns-then-is_reserved
returns-then-is_reserved c =
    let name = c.in-Word.name.now in
    guarded_stuck Word (λ w. is_reserved w ≡ false) any (codes "a") refl a_label c.args.self.now
    (λ w e f. never_both (sym c.if-is_reserved.true ∙ c.is_reserved.ensures ∙ ap is_reserved (same_word name w (sym c.in-Word.ensures ∙ e)) ∙ f))
