-- What one turn of a frame does.
use Rattle.std.specs.Prelude.{Option, Some, None}
use Rattle.hhbc_repo.specs.declared.code.Code.{Code}
use Rattle.hhbc_repo.specs.declared.code.Code.TheVariants as kinds
use Rattle.hhbc_repo.specs.declared.body.Body.{Body}
use Rattle.hhbc_repo.specs.Bodies.{body_at, code_at}
use Rattle.hhbc_semantics.specs.Setting.{Setting}
use Rattle.hhbc_semantics.specs.Outcome.{Underflow}
use Rattle.hhbc_semantics.specs.Frames.{World, Frame, Turn, Ends, Sticks}
use Rattle.hhbc_semantics.specs.Rows.{perform}
use Rattle.hhbc_semantics.specs.MemberSequences.{member}

-- a position that isn't there counts as an underflow
abbrev pub perform_code : Setting → Option Code → Body → Frame → World → Turn
perform_code S None b f w = Ends (Sticks Underflow) w
perform_code S (Some (kinds.Plain i)) b f w = perform S i.op i.imms b f w
perform_code S (Some (kinds.Member m)) b f w = member S m b f w

abbrev pub turn_in : Setting → Option Body → Frame → World → Turn
turn_in S None f w = Ends (Sticks Underflow) w
turn_in S (Some b) f w = perform_code S (code_at b f.position) b f w

-- what the code at the frame's position does
abbrev pub turn : Setting → Frame → World → Turn
turn S f w = turn_in S (body_at S.repo f.body) f w
