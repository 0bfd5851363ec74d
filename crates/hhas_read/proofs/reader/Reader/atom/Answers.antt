use Rattle.std.proofs.Common.{[], ◌∷◌, subst}
use Rattle.hhas_lex.specs.Tokens.{Word}
use Rattle.hhas_read.specs.Atoms.{Tail}
use Rattle.hhas_read.specs.Reading.{Past}
use Rattle.hhas_read.specs.Written.{AnAtomOf, ends_atom, head_name}
use Rattle.hhas_read.proofs.Heads.{atom_stuck, head_resumes}
use Rattle.hhas_read.proofs.Resuming.{reads_on}
use Rattle.hhas_read.proofs.reader.Reader.atom.Goals as goal

pub returns-in_default : goal.returns-in_default
returns-in_default c = atom_stuck ends_atom c.args.self.now c.in_default.ensures

pub returns : goal.returns
returns c =
    let old = c.args.self.now in let mid = c.skip.new.self in let head = c.in-Some.head in
    reads_on ends_atom AnAtomOf (Tail head) old mid c.behind_head.new.self (Word (head_name head) ∷ []) c.behind_head.result
    (head_resumes ends_atom head mid.tokens) (subst (λ t. Past (t ∷ []) old mid) c.in-Some.ensures c.skip.ensures) c.behind_head.ensures
