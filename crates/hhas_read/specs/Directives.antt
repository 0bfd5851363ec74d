-- What may follow where a directive was looked for.
use Rattle.std.specs.Prelude.{ℕ, true, List, not}
use Rattle.std.specs.Str.{bytes_eq}
use Rattle.hhas_lex.specs.Tokens.{Directive}
use Rattle.hhas_read.specs.Reading.{Follow}

-- each token but the directive of the name
abbrev pub no_directive : List ℕ → Follow
no_directive name (Directive letters) = not (bytes_eq letters name)
no_directive name t = true
