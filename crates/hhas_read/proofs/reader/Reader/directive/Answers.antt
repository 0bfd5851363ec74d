use Rattle.std.proofs.Common.{refl, sym, subst}
use Rattle.hhas_lex.specs.Tokens.{Directive}
use Rattle.hhas_read.specs.Pieces.{IsInner}
use Rattle.hhas_read.specs.Reading.{any}
use Rattle.hhas_read.proofs.OneToken.{just_stuck, just_taken}
use Rattle.hhas_read.proofs.reader.Reader.directive.Goals as goal

pub returns-then-not-is_directive : goal.returns-then-not-is_directive
returns-then-not-is_directive c = just_stuck any (Directive c.args.name.now) c.requires c.args.self.now c.if-not-is_directive.ensures

pub skip-requires : goal.skip-requires
skip-requires c = subst IsInner (sym c.if-not-is_directive.ensures) tt

pub returns : goal.returns
returns c = just_taken any (Directive c.args.name.now) c.args.self.now c.skip.new.self c.if-not-is_directive.ensures c.skip.ensures refl
