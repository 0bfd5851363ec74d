use Rattle.std.proofs.Common.{◌≡◌, ◌++◌, drop, Some}
use Rattle.hhbbc_top.specs.Forms.{state_of, if_reached}
use Rattle.hhbbc_top.proofs.Along.{stated, end_of}
use Rattle.hhbbc_top.proofs.annotation.positions.Given as goal

abbrev pub invariant-loop-line : goal.invariant-loop-line
invariant-loop-line l = record {
  claims : l.done ++ stated (drop l.line-index l.codes) (if_reached l.reached (state_of l.ts)) ≡ stated l.codes (Some (state_of l.initial.ts));
  returns : end_of l.last (drop l.line-index l.codes) (if_reached l.reached (state_of l.ts)) ≡ end_of l.initial.last l.codes (Some (state_of l.initial.ts));
}
