use Rattle.std.proofs.Common.{[], ◌∷◌, refl, subst}
use Rattle.hhas_lex.specs.Tokens.{Mark}
use Rattle.hhbc_repo.specs.Languages.{Says, Behind, Means}
use Rattle.hhas_read.specs.declared.atoms.Atom.TheVariants as atoms
use Rattle.hhas_read.specs.declared.atoms.Head.TheVariants as heads
use Rattle.hhas_read.specs.declared.types.TypeAtom.TheVariants as types
use Rattle.hhas_read.specs.LeafSyntax.{LeafTo}
use Rattle.hhas_read.specs.Reading.{Past, next}
use Rattle.hhas_read.specs.TypeWords.{TypeTail}
use Rattle.hhas_read.specs.Written.{ends_atom}
use Rattle.hhas_read.proofs.Apart.{to_leaf}
use Rattle.hhas_read.proofs.Following.{behind_avoids, ends_on, left_resumes, nothing_avoids, right_resumes, stops_on}
use Rattle.hhas_read.proofs.Resuming.{past_none, reads_on}
use Rattle.hhas_read.proofs.reader.Reader.vec_atom.Goals as goal

pub returns-then-not-is_mark : goal.returns-then-not-is_mark
returns-then-not-is_mark c =
    let old = c.args.self.now in
    reads_on ends_atom (TypeTail heads.Vec) (Says [] (types.Plain atoms.Vec)) old old old [] c.type_atom_ended.result
    (left_resumes ends_atom (Says [] (types.Plain atoms.Vec)) (Behind (Mark 60 ∷ []) (Means types.VecOf LeafTo)) old.tokens
    (behind_avoids ends_atom (Mark 60) [] (Means types.VecOf LeafTo) (next old) c.if-not-is_mark.ensures)) (past_none old) c.type_atom_ended.ensures

pub returns-in-Ok : goal.returns-in-Ok
returns-in-Ok c =
    let old = c.args.self.now in let mid = c.skip.new.self in
    ends_on ends_atom (TypeTail heads.Vec) LeafTo old mid c.closed_leaf.new.self (Mark 60 ∷ []) types.VecOf c.in-Ok.leaf c.type_atom_ended-in-Ok.result to_leaf
    (right_resumes ends_atom (Says [] (types.Plain atoms.Vec)) (Mark 60) types.VecOf LeafTo mid.tokens (nothing_avoids ends_atom (types.Plain atoms.Vec) (Mark 60) refl))
    (subst (λ t. Past (t ∷ []) old mid) c.if-not-is_mark.ensures c.skip.ensures) c.in-Ok.ensures c.type_atom_ended-in-Ok.ensures

pub returns-in-Err : goal.returns-in-Err
returns-in-Err c =
    let old = c.args.self.now in let mid = c.skip.new.self in
    stops_on ends_atom (TypeTail heads.Vec) LeafTo old mid c.closed_leaf.new.self (Mark 60 ∷ []) types.VecOf c.in-Err.stop
    (right_resumes ends_atom (Says [] (types.Plain atoms.Vec)) (Mark 60) types.VecOf LeafTo mid.tokens (nothing_avoids ends_atom (types.Plain atoms.Vec) (Mark 60) refl))
    (subst (λ t. Past (t ∷ []) old mid) c.if-not-is_mark.ensures c.skip.ensures) c.in-Err.ensures
