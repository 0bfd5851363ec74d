use Rattle.std.proofs.Common.{refl, sym, subst}
use Rattle.hhas_lex.specs.Tokens.{Mark}
use Rattle.hhas_read.specs.Pieces.{IsInner}
use Rattle.hhas_read.specs.Reading.{any}
use Rattle.hhas_read.proofs.OneToken.{just_stuck, just_taken}
use Rattle.hhas_read.proofs.reader.Reader.mark.Goals as goal

pub returns-then-not-is_mark : goal.returns-then-not-is_mark
returns-then-not-is_mark c = just_stuck any (Mark c.args.byte) c.requires c.args.self.now c.if-not-is_mark.ensures

pub skip-requires : goal.skip-requires
skip-requires c = subst IsInner (sym c.if-not-is_mark.ensures) tt

pub returns : goal.returns
returns c = just_taken any (Mark c.args.byte) c.args.self.now c.skip.new.self c.if-not-is_mark.ensures c.skip.ensures refl
