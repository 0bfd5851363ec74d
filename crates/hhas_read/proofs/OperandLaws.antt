-- Operands of every kind stand apart from what follows, and have one value.
use Rattle.std.proofs.Common.{◌≡◌, [], ◌∷◌, ◌∙◌, refl, sym, codes, pos}
use Rattle.hhas_lex.specs.Tokens.{Integer, Word, Str, Mark}
use Rattle.hhbc_ops.specs.declared.words.ImmKind.{ImmKind}
use Rattle.hhbc_ops.specs.declared.words.ImmKind.TheVariants as kinds
use Rattle.hhbc_ops.specs.declared.words.IsTypeOp.{IsTypeOp}
use Rattle.hhbc_ops.specs.declared.words.IsTypeOp.TheVariants as types
use Rattle.hhbc_ops.specs.Words.{is_type_name}
use Rattle.hhbc_ops.proofs.Names.{is_type_found}
use Rattle.hhbc_repo.specs.declared.parts.ImmParts.TheVariants as imms
use Rattle.hhbc_repo.specs.Languages.{Behind}
use Rattle.hhbc_repo.specs.CodeSyntax.{AChange, ALabel, ALocal, AnIndex, AnInteger, ASetOp, AString, AWord, IterLocals, Operand}
use Rattle.hhbc_repo.specs.TypeSyntax.{AConstraint}
use Rattle.hhas_read.specs.Arms.{ArmsToEnd, StringArmsToEnd}
use Rattle.hhas_read.specs.Kinds.{after}
use Rattle.hhas_read.specs.OneWord.{AnIsType}
use Rattle.hhas_read.specs.Reading.{Tagged, any}
use Rattle.hhas_read.specs.Written.{ends_type}
use Rattle.hhas_read.proofs.Joining.{Lawful}
use Rattle.hhas_read.proofs.OneAtom.{a_word}
use Rattle.hhas_read.proofs.OneToken.{single_lawful}
use Rattle.hhas_read.proofs.Said.{same_integer, same_word, same_string}
use Rattle.hhas_read.proofs.Operands.{index_lawful, set_op_lawful, change_lawful, same_some}
use Rattle.hhas_read.proofs.FormLaws.{local_lawful, tagged_lawful}
use Rattle.hhas_read.proofs.IterForms.{key_begins, value_never}
use Rattle.hhas_read.proofs.MaybeLaws.{maybe_lawful}
use Rattle.hhas_read.proofs.ArmForms.{label_lawful}
use Rattle.hhas_read.proofs.ArmLaws.{arms_lawful, string_arms_lawful}
use Rattle.hhas_read.proofs.OperandForms.{spelled_lawful, iter_operand, int, count, text, name, variable, iter, target, class, change, set_op, is_type, switch, string_switch, locals, constraint}
use Rattle.hhas_read.proofs.TypeLaws.{constraint_law}

same_is_type : (a b : IsTypeOp) → Word (is_type_name a) ≡ Word (is_type_name b) → a ≡ b
same_is_type a b e =
    same_some a b (sym (is_type_found a (is_type_name b) (same_word (is_type_name a) (is_type_name b) e)) ∙ is_type_found b (is_type_name b) refl)

is_type_lawful : Lawful any AnIsType
is_type_lawful = single_lawful (λ op. Word (is_type_name op)) any types.Null refl same_is_type

iter_locals_lawful : Lawful any IterLocals
iter_locals_lawful =
    maybe_lawful (Tagged (codes "K") ALocal) (Tagged (codes "V") ALocal) (Word (codes "K")) key_begins value_never
    (tagged_lawful (codes "K") ALocal refl local_lawful) (tagged_lawful (codes "V") ALocal refl local_lawful)

pub operand_law : (kind : ImmKind) → Lawful (after kind) (Operand kind)
operand_law kinds.Int = spelled_lawful any kinds.Int AnInteger imms.Int int (single_lawful Integer any (pos 0) refl same_integer)
operand_law kinds.Count = spelled_lawful any kinds.Count AnIndex imms.Count count index_lawful
operand_law kinds.Str = spelled_lawful any kinds.Str AString imms.Str text (single_lawful Str any [] refl same_string)
operand_law kinds.Name = spelled_lawful any kinds.Name AWord imms.Name name a_word
operand_law kinds.Local = spelled_lawful any kinds.Local ALocal imms.Local variable local_lawful
operand_law kinds.Iter = spelled_lawful any kinds.Iter AnIndex imms.Iter iter index_lawful
operand_law kinds.Label = spelled_lawful any kinds.Label ALabel imms.Pos target label_lawful
operand_law kinds.Class = spelled_lawful any kinds.Class AWord imms.Class class a_word
operand_law kinds.IncDec = spelled_lawful any kinds.IncDec AChange imms.IncDec change change_lawful
operand_law kinds.SetOp = spelled_lawful any kinds.SetOp ASetOp imms.SetOp set_op set_op_lawful
operand_law kinds.IsType = spelled_lawful any kinds.IsType AnIsType imms.IsType is_type is_type_lawful
operand_law kinds.Constraint = spelled_lawful ends_type kinds.Constraint AConstraint imms.Constraint constraint constraint_law
operand_law kinds.Switch = spelled_lawful any kinds.Switch (Behind (Mark 60 ∷ []) ArmsToEnd) imms.Arms switch arms_lawful
operand_law kinds.SSwitch = spelled_lawful any kinds.SSwitch (Behind (Mark 60 ∷ []) StringArmsToEnd) imms.Arms string_switch string_arms_lawful
operand_law kinds.IterLocals = spelled_lawful any kinds.IterLocals IterLocals iter_operand locals iter_locals_lawful
