use Rattle.std.proofs.Common.{◌≡◌, ℕ, ◌≤◌, ◌<◌, List, [], Option, length, refl, sym, ◌∙◌, subst, lit≤, arith}
use Rattle.hhas_lex.specs.Tokens.{Str}
use Rattle.hhas_read.specs.Reading.{any, next}
use Rattle.hhas_read.specs.Pieces.{IsValue}
use Rattle.hhas_read.proofs.OneToken.{guarded_stuck}
use Rattle.hhas_read.proofs.Said.{same_string}
use Rattle.hhas_read.proofs.reader.Reader.short_string.Goals as goal

pub returns-in_default : goal.returns-in_default
returns-in_default c =
    guarded_stuck Str (λ s. length s ≤ 32) any [] refl (lit≤ tt) c.args.self.now
    (λ s e f. subst (λ (o : Option (List ℕ)). IsValue o (next c.args.self.now)) c.in_default.is c.in_ok-value.ensures s e)

pub returns-then-bytes-gt32 : goal.returns-then-bytes-gt32
returns-then-bytes-gt32 c =
    guarded_stuck Str (λ s. length s ≤ 32) any [] refl (lit≤ tt) c.args.self.now
    (λ s e f.
    let is : next c.args.self.now ≡ Str c.in-Some.value = subst (λ (o : Option (List ℕ)). IsValue o (next c.args.self.now)) c.in-Some.is c.in_ok-value.ensures in
    let long : 32 < length s = subst (λ (l : List ℕ). 32 < length l) (c.bytes.ensures ∙ same_string c.in-Some.value s (sym is ∙ e)) c.if-bytes-gt32.true in
    omega (arith, long, f))
