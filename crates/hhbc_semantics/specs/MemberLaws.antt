-- What a member sequence leaves that doesn't come to its end.
use Rattle.std.specs.Prelude.{◌≡◌, ℕ, List, [], ◌∷◌, ◌++◌}
use Rattle.hhbc_repo.specs.declared.code.MemberSeq.{MemberSeq}
use Rattle.hhbc_repo.specs.declared.body.Body.{Body}
use Rattle.hhbc_semantics.specs.Setting.{Setting}
use Rattle.hhbc_semantics.specs.Frames.{World, Frame, Turn, Goes, Calls, Returns, Raises, Ends}
use Rattle.hhbc_semantics.specs.Exceptions.{exception}
use Rattle.hhbc_semantics.specs.MemberSequences.{member}

-- the world with one exception more
pub record IsRaisedIn (v w : World) : Type 0 where
  pub class : ℕ
  pub message : List ℕ
  pub raised : w ≡ record v { heap = v.heap ++ exception class message ∷ [] }

-- where the turn raises, an exception is made and nothing else; where it ends the run, nothing is
abbrev pub ChangesNothing : World → Turn → Type 0
ChangesNothing w (Goes g v) = Unit {0}
ChangesNothing w (Calls g v) = Unit {0}
ChangesNothing w (Returns c v) = Unit {0}
ChangesNothing w (Raises e v) = IsRaisedIn w v
ChangesNothing w (Ends end v) = v ≡ w

abbrev pub RefusedMembersChangeNothing : Type 0
RefusedMembersChangeNothing = (S : Setting) (m : MemberSeq) (b : Body) (f : Frame) (w : World) → ChangesNothing w (member S m b f w)
