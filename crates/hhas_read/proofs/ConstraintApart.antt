-- Constraints stand apart from what follows them, and each has one value.
use Rattle.std.proofs.Common.{[], ◌∷◌, refl, sym, ap, ◌∙◌, codes}
use Rattle.hhas_lex.specs.Tokens.{Word}
use Rattle.hhas_read.specs.declared.leaves.Written.TheVariants as written
use Rattle.hhas_read.specs.Constraints.{AConstraintOf}
use Rattle.hhas_read.specs.Written.{ends_type}
use Rattle.hhas_read.proofs.Apart.{atoms_cell, atoms_same}
use Rattle.hhas_read.proofs.Joining.{Lawful}
use Rattle.hhas_read.proofs.Rising.{Same}

constraint_same : Same ends_type AConstraintOf
constraint_same a b x y written.Never w n m o p e = absurd n
constraint_same a b x y written.Cell written.Never n m o p e = absurd m
constraint_same a b x y written.Cell written.Cell n m o p e = (n ∙ sym m, refl)
constraint_same a b x y written.Cell (written.Of ws) n m o p e = atoms_cell b a y x ws m.0.0 n (sym e)
constraint_same a b x y (written.Of vs) written.Never n m o p e = absurd m
constraint_same a b x y (written.Of vs) written.Cell n m o p e = atoms_cell a b x y vs n.0.0 m e
constraint_same a b x y (written.Of vs) (written.Of ws) n m o p e = let s = atoms_same a b x y vs ws n.0.0 m.0.0 o p e in (s.0, ap written.Of s.1)

pub constraint_lawful : Lawful ends_type AConstraintOf
constraint_lawful = record { same = constraint_same; some = record { more = Word (codes "Cell") ∷ []; value = written.Cell; word = refl; proper = refl } }
