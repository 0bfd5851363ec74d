use Rattle.std.proofs.Common.{◌≡◌, ◌≤◌, refl, sym, ◌∙◌, pos, arith, rules}
use Rattle.hhas_lex.specs.Tokens.{Integer}
use Rattle.hhas_read.specs.Reading.{any, next}
use Rattle.hhas_read.proofs.OneToken.{guarded_stuck}
use Rattle.hhas_read.proofs.Said.{not_integer, same_integer}
use Rattle.hhas_read.proofs.reader.Reader.number.Goals as goal

pub returns-in_default : goal.returns-in_default
returns-in_default c =
    guarded_stuck (λ n. Integer (pos n)) (λ n. n ≤ c.args.most) any 0 refl (omega arith) c.args.self.now
    (λ n e f. not_integer c.peek.result (next c.args.self.now) c.peek.ensures c.in_default.not-Integer (pos n) e)

pub returns-in_default-within : goal.returns-in_default-within
returns-in_default-within c =
    guarded_stuck (λ n. Integer (pos n)) (λ n. n ≤ c.args.most) any 0 refl (omega arith) c.args.self.now
    (λ n e f.
    let same : c.in-Integer.number ≡ pos n = same_integer c.in-Integer.number (pos n) (sym c.in-Integer.ensures ∙ e) in
    c.in_default-within.ensures n (search rules) f)
