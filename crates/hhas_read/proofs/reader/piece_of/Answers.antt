use Rattle.std.proofs.Common.{drop, ap}
use Rattle.hhas_lex.specs.declared.token.TokenKind.{TokenKind}
use Rattle.hhas_lex.specs.Strings.{value_of}
use Rattle.hhas_lex.specs.Tokens.{token_of}
use Rattle.hhas_read.proofs.reader.piece_of.Goals as goal

pub returns-in-Str : goal.returns-in-Str
returns-in-Str c =
    let spelling = c.args.spelling.now in
    (value_of (drop 1 spelling), ap (λ (k : TokenKind). token_of k spelling) c.in-Str.is)
