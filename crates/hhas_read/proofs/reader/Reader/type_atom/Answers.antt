use Rattle.std.proofs.Common.{[], ◌∷◌, subst, codes}
use Rattle.hhas_lex.specs.Tokens.{Word}
use Rattle.hhbc_repo.specs.Languages.{Says}
use Rattle.hhas_read.specs.declared.types.TypeAtom.TheVariants as types
use Rattle.hhas_read.specs.Reading.{Past}
use Rattle.hhas_read.specs.TypeWords.{ATypeAtomOf, TypeTail}
use Rattle.hhas_read.specs.Written.{ends_atom, head_name}
use Rattle.hhas_read.proofs.TypeHeads.{type_resumes, type_stuck, uninit_resumes}
use Rattle.hhas_read.proofs.Resuming.{reads_on}
use Rattle.hhas_read.proofs.reader.Reader.type_atom.Goals as goal

pub returns-then-is_word : goal.returns-then-is_word
returns-then-is_word c =
    let old = c.args.self.now in let mid = c.skip.new.self in
    reads_on ends_atom ATypeAtomOf (Says [] types.Uninit) old mid mid (Word (codes "Uninit") ∷ []) c.type_atom_ended.result (uninit_resumes ends_atom mid.tokens)
    (subst (λ t. Past (t ∷ []) old mid) c.if-is_word.ensures c.skip.ensures) c.type_atom_ended.ensures

pub returns-in_default : goal.returns-in_default
returns-in_default c = type_stuck ends_atom c.args.self.now c.if-is_word.ensures c.in_default.ensures

pub returns : goal.returns
returns c =
    let old = c.args.self.now in let mid = c.skip-2.new.self in let head = c.in-Some.head in
    reads_on ends_atom ATypeAtomOf (TypeTail head) old mid c.behind_type_head.new.self (Word (head_name head) ∷ []) c.behind_type_head.result
    (type_resumes ends_atom head mid.tokens) (subst (λ t. Past (t ∷ []) old mid) c.in-Some.ensures c.skip-2.ensures) c.behind_type_head.ensures
