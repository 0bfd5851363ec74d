use Rattle.std.proofs.Common.{refl, sym, subst}
use Rattle.hhas_lex.specs.Tokens.{Word}
use Rattle.hhas_read.specs.Pieces.{IsInner}
use Rattle.hhas_read.specs.Reading.{any}
use Rattle.hhas_read.proofs.OneToken.{just_stuck, just_taken}
use Rattle.hhas_read.proofs.reader.Reader.keyword.Goals as goal

pub returns-then-not-is_word : goal.returns-then-not-is_word
returns-then-not-is_word c = just_stuck any (Word c.args.name.now) c.requires c.args.self.now c.if-not-is_word.ensures

pub skip-requires : goal.skip-requires
skip-requires c = subst IsInner (sym c.if-not-is_word.ensures) tt

pub returns : goal.returns
returns c = just_taken any (Word c.args.name.now) c.args.self.now c.skip.new.self c.if-not-is_word.ensures c.skip.ensures refl
