-- The words that name instructions.
use Rattle.std.proofs.Common.{◌≡◌, ◌≢◌, List, ℕ, Option, Some, None, MatchOption, is_some, refl, sym, ap, codes, true, false, ◌||◌}
use Rattle.std.specs.List.{list_any}
use Rattle.std.specs.Str.{bytes_eq}
use Rattle.hhbc_ops.specs.declared.op.Op.{Op}
use Rattle.hhbc_ops.specs.Ops.{op_name, op_called}
use Rattle.hhbc_repo.specs.CodeSyntax.{is_reserved, other_names}
use Rattle.hhbc_ops.proofs.Names.{op_only}

same : (name : List ℕ) (r o : Option Op) → MatchOption r ((op : Op) → op_name op ≢ name) (λ op. op_name op ≡ name)
    → MatchOption o ((op : Op) → op_name op ≢ name) (λ op. op_name op ≡ name) → is_some r ≡ is_some o
same name None None m n = refl
same name None (Some o) m n = absurd (m o n)
same name (Some r) None m n = absurd (n r m)
same name (Some r) (Some o) m n = refl

pub named_called : (name : List ℕ) (r : Option Op) → MatchOption r ((op : Op) → op_name op ≢ name) (λ op. op_name op ≡ name) → is_some r ≡ is_some (op_called name)
named_called name r m = same name r (op_called name) m (op_only name)

-- the word of an instruction is reserved, and another is where it is among the other words
pub named_reserved : (name : List ℕ) (op : Op) → op_name op ≡ name → is_reserved name ≡ true
named_reserved name op e = ap (λ b. b || list_any (λ other. bytes_eq other name) other_names) (sym (named_called name (Some op) e))

pub unnamed_reserved : (name : List ℕ) → ((op : Op) → op_name op ≢ name) → is_reserved name ≡ list_any (λ other. bytes_eq other name) other_names
unnamed_reserved name none = ap (λ b. b || list_any (λ other. bytes_eq other name) other_names) (sym (named_called name None none))

pub a_label : is_reserved (codes "a") ≡ false
unfolding Rattle.hhbc_repo.specs.CodeSyntax.other_names
a_label = refl

pub never_both : true ≡ false → ⊥
never_both e = absurd (cc e)
