-- What the table of instructions says of each code.
use Rattle.std.specs.Prelude.{ℕ, ℤ, pos, Bool, true, ◌==◌, List, [], ◌∷◌, ◌++◌, map, flat_map, replicate, Option, Some, None, if◌then◌else◌}
use Rattle.hhbc_ops.specs.declared.op.Op.{Op}
pub use Rattle.hhbc_ops.specs.declared.words.Flavour.{Flavour}
pub use Rattle.hhbc_ops.specs.declared.words.Flavour.TheVariants.{C, U}
use Rattle.hhbc_ops.specs.declared.words.OperandUse.{OperandUse}
use Rattle.hhbc_ops.specs.declared.words.OperandUse.TheVariants as uses
use Rattle.hhbc_ops.specs.Ops.{slots_popped, slots_pushed, operand_use}
use Rattle.hhbc_ops.specs.Stacks.{Pops, Fixed, Counted}
pub use Rattle.hhbc_ops.specs.Ops.{op_throws, op_goes_on}
use Rattle.hhbc_repo.specs.declared.code.Code.{Code}
use Rattle.hhbc_repo.specs.declared.code.Code.TheVariants as kinds
use Rattle.hhbc_repo.specs.declared.code.Arm.{Arm}
use Rattle.hhbc_repo.specs.declared.code.Imm.{Imm}
use Rattle.hhbc_repo.specs.declared.code.Imm.TheVariants as imms
use Rattle.hhbc_repo.specs.declared.code.MemberSeq.{MemberSeq}
use Rattle.hhbc_repo.specs.declared.code.Base.{Base}
use Rattle.hhbc_repo.specs.declared.code.Base.TheVariants as bases
use Rattle.hhbc_repo.specs.declared.code.MemberKey.{MemberKey}
use Rattle.hhbc_repo.specs.declared.code.MemberKey.TheVariants as keys
use Rattle.hhbc_repo.specs.declared.code.Final.{Final}
use Rattle.hhbc_repo.specs.declared.code.Final.TheVariants as finals

-- the operand that is a local
abbrev pub local_of : List Imm → ℕ
local_of (imms.Local l ∷ _) = l
local_of _ = 0

-- the operand that is an int
abbrev pub int_of : List Imm → ℤ
int_of (imms.Int i ∷ _) = i
int_of _ = pos 0

-- the operand that is a count
abbrev pub count_of : List Imm → ℕ
count_of (imms.Count n ∷ _) = n
count_of _ = 0

-- the slots that an instruction takes away, and those that it puts there, the topmost first
pub record Stack : Type 0 where
  pub pops : List Flavour
  pub pushes : List Flavour

abbrev pub some_cells : ℕ → List Flavour
some_cells n = replicate n C

abbrev pub takes : List Flavour → Stack
takes pops = record { pops = pops; pushes = [] }

abbrev pub turns : List Flavour → List Flavour → Stack
turns pops pushes = record { pops = pops; pushes = pushes }

abbrev pub to_cell : List Flavour → Stack
to_cell pops = turns pops (C ∷ [])

-- the slots that an instruction with these operands takes away
abbrev pub popped_by : Pops → List Imm → List Flavour
popped_by (Fixed flavours) is = flavours
popped_by (Counted flavours) is = some_cells (count_of is) ++ flavours

abbrev pub op_stack : Op → List Imm → Stack
op_stack op is = turns (popped_by (slots_popped op) is) (slots_pushed op)

abbrev pub op_pops : Op → List Imm → List Flavour
op_pops op is = (op_stack op is).pops

abbrev pub op_pushes : Op → List Imm → List Flavour
op_pushes op is = (op_stack op is).pushes

-- the locals that it reads or tests, in order
abbrev pub read_by : OperandUse → List Imm → List ℕ
read_by uses.Nothing is = []
read_by uses.ReadsLocal is = local_of is ∷ []
read_by uses.SetsLocal is = []
read_by uses.BeginsIter is = []
read_by uses.AdvancesIter is = []
read_by uses.FreesIter is = []

abbrev pub op_reads : Op → List Imm → List ℕ
op_reads op is = read_by (operand_use op) is

-- the operand that is an iterator
abbrev pub iter_of : List Imm → ℕ
iter_of (imms.Iter i ∷ _) = i
iter_of _ = 0

-- what a code does with an iterator: it begins it at a first element, takes its next element, or ends it
pub data IterUse : Type 0 where
  Begin : ℕ → IterUse
  Advance : ℕ → IterUse
  Free : ℕ → IterUse

abbrev pub iter_used_by : OperandUse → List Imm → Option IterUse
iter_used_by uses.Nothing is = None
iter_used_by uses.ReadsLocal is = None
iter_used_by uses.SetsLocal is = None
iter_used_by uses.BeginsIter is = Some (Begin (iter_of is))
iter_used_by uses.AdvancesIter is = Some (Advance (iter_of is))
iter_used_by uses.FreesIter is = Some (Free (iter_of is))

abbrev pub op_iter : Op → List Imm → Option IterUse
op_iter op is = iter_used_by (operand_use op) is

-- the slots that a member sequence takes away, the value to be set on top, and what it puts there
abbrev pub final_stack : Final → Stack
final_stack (finals.Query n mode k) = to_cell (some_cells n)
final_stack (finals.Set n k) = to_cell (C ∷ some_cells n)
final_stack (finals.SetOp n op k) = to_cell (C ∷ some_cells n)
final_stack (finals.IncDec n op k) = to_cell (some_cells n)
final_stack (finals.Unset n k) = takes (some_cells n)

abbrev pub last_key : Final → MemberKey
last_key (finals.Query n mode k) = k
last_key (finals.Set n k) = k
last_key (finals.SetOp n op k) = k
last_key (finals.IncDec n op k) = k
last_key (finals.Unset n k) = k

-- the keys of a member sequence, in order
abbrev pub keys_of : MemberSeq → List MemberKey
keys_of m = m.dims ++ last_key m.last ∷ []

-- the slots that are read by their places from the top, before the code
abbrev pub base_slots : Base → List ℕ
base_slots (bases.Local l) = []
base_slots (bases.Stack i) = i ∷ []
base_slots bases.This = []

abbrev pub key_slots : MemberKey → List ℕ
key_slots (keys.ElemStack i) = i ∷ []
key_slots (keys.PropStack i) = i ∷ []
key_slots _ = []

-- the locals that are read
abbrev pub base_locals : Base → List ℕ
base_locals (bases.Local l) = l ∷ []
base_locals (bases.Stack i) = []
base_locals bases.This = []

abbrev pub key_locals : MemberKey → List ℕ
key_locals (keys.ElemLocal l) = l ∷ []
key_locals (keys.PropLocal l) = l ∷ []
key_locals _ = []

-- a list without a number
abbrev pub without : ℕ → List ℕ → List ℕ
without n [] = []
without n (m ∷ ms) = if n == m then without n ms else m ∷ without n ms

-- each number once, at its first place
abbrev pub each_once : List ℕ → List ℕ
each_once [] = []
each_once (n ∷ ns) = n ∷ without n (each_once ns)

-- the slots that a code takes away, the topmost first, and those that it puts there
abbrev pub pops : Code → List Flavour
pops (kinds.Plain i) = op_pops i.op i.imms
pops (kinds.Member m) = (final_stack m.last).pops

abbrev pub pushes : Code → List Flavour
pushes (kinds.Plain i) = op_pushes i.op i.imms
pushes (kinds.Member m) = (final_stack m.last).pushes

-- the slots that a code reads by their places from the top, which are to be cells
abbrev pub slots_read : Code → List ℕ
slots_read (kinds.Plain i) = []
slots_read (kinds.Member m) = base_slots m.base ++ flat_map key_slots (keys_of m)

-- a member sequence may throw and goes on
abbrev pub throws : Code → Bool
throws (kinds.Plain i) = op_throws i.op
throws (kinds.Member m) = true

abbrev pub goes_on : Code → Bool
goes_on (kinds.Plain i) = op_goes_on i.op
goes_on (kinds.Member m) = true

-- the locals that a code reads, in order, each once
abbrev pub reads_locals : Code → List ℕ
reads_locals (kinds.Plain i) = op_reads i.op i.imms
reads_locals (kinds.Member m) = each_once (base_locals m.base ++ flat_map key_locals (keys_of m))

abbrev pub iter_use : Code → Option IterUse
iter_use (kinds.Plain i) = op_iter i.op i.imms
iter_use (kinds.Member m) = None

-- the positions that an operand names
abbrev pub labels_in : Imm → List ℕ
labels_in (imms.Pos p) = p ∷ []
labels_in (imms.Arms arms) = map (λ (a : Arm). a.target) arms
labels_in _ = []

abbrev pub labels : Code → List ℕ
labels (kinds.Plain i) = flat_map labels_in i.imms
labels (kinds.Member m) = []
