use Rattle.std.proofs.Common.{[]}
use Rattle.hhbc_repo.specs.Languages.{Means}
use Rattle.hhas_read.specs.declared.types.TypeAtom.TheVariants as types
use Rattle.hhas_read.specs.Atoms.{Tail}
use Rattle.hhas_read.specs.Written.{ends_atom}
use Rattle.hhas_read.proofs.Joining.{means_resumes}
use Rattle.hhas_read.proofs.Resuming.{past_none, stop_lifts, taken_lifts}
use Rattle.hhas_read.proofs.reader.Reader.plain_atom.Goals as goal

pub returns-in-Err : goal.returns-in-Err
returns-in-Err c =
    let old = c.args.self.now in
    stop_lifts ends_atom (Means types.Plain (Tail c.args.head)) (Tail c.args.head) old old c.behind_head.new.self [] types.Plain c.in-Err.stop
    (means_resumes ends_atom types.Plain (Tail c.args.head) old.tokens) (past_none old) c.in-Err.ensures

pub returns-in-Ok : goal.returns-in-Ok
returns-in-Ok c =
    let old = c.args.self.now in
    taken_lifts ends_atom (Means types.Plain (Tail c.args.head)) (Tail c.args.head) old old c.behind_head.new.self [] types.Plain c.in-Ok.atom
    (means_resumes ends_atom types.Plain (Tail c.args.head) old.tokens) (past_none old) c.in-Ok.ensures
