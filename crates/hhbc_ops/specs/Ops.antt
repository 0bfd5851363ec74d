-- The table of instructions: all that is said of an instruction but what it does with its values.
use Rattle.std.specs.Prelude.{◌≡◌, ℕ, Bool, true, false, ◌==◌, List, [], ◌∷◌, length, Option, if◌then◌else◌, codes}
use Rattle.hhbc_ops.specs.declared.op.Op.{Op}
use Rattle.hhbc_ops.specs.declared.op.Op.TheVariants as ops
use Rattle.hhbc_ops.specs.declared.table.Row.{Row as Entry}
use Rattle.hhbc_ops.specs.declared.words.Flavour.{Flavour}
use Rattle.hhbc_ops.specs.declared.words.Flavour.TheVariants.{C, U}
use Rattle.hhbc_ops.specs.declared.words.ImmKind.{ImmKind}
use Rattle.hhbc_ops.specs.declared.words.ImmKind.TheVariants as kinds
use Rattle.hhbc_ops.specs.declared.words.OperandUse.{OperandUse}
use Rattle.hhbc_ops.specs.declared.words.OperandUse.TheVariants as uses
use Rattle.hhbc_ops.specs.Names.{first_named}
use Rattle.hhbc_ops.specs.Stacks.{Pops, Fixed, Counted, stack_pops, stack_pushes}

-- a row: the name of an instruction as texts spell it, the kinds of its operands in order, whether it may raise an
-- exception, whether the position behind it may come next, the slots that it takes off the stack, those that it puts
-- there, the topmost first, and what it does with the local or the iterator that is its first operand
pub record Row : Type 0 where
  pub name : List ℕ
  pub kinds : List ImmKind
  pub throws : Bool
  pub next : Bool
  pub pops : Pops
  pub pushes : List Flavour
  pub operand : OperandUse

-- the row that the program keeps is this one
abbrev pub IsRow : Entry → Row → Type 0
IsRow e r =
    (e.name.now ≡ r.name)
    × (e.kinds.now ≡ r.kinds)
    × (e.throws ≡ r.throws)
    × (e.next ≡ r.next)
    × (stack_pops e.stack ≡ r.pops)
    × (stack_pushes e.stack ≡ r.pushes)
    × (e.operand ≡ r.operand)

-- goes on, and raises nothing
abbrev pub plain : List ℕ → List ImmKind → Pops → List Flavour → OperandUse → Row
plain name kinds pops pushes operand =
    record { name = name; kinds = kinds; throws = false; next = true; pops = pops; pushes = pushes; operand = operand }

-- goes on, or raises an exception
abbrev pub throwing : List ℕ → List ImmKind → Pops → List Flavour → OperandUse → Row
throwing name kinds pops pushes operand =
    record { name = name; kinds = kinds; throws = true; next = true; pops = pops; pushes = pushes; operand = operand }

-- never goes on to the position behind it
abbrev pub ending : List ℕ → List ImmKind → Pops → List Flavour → OperandUse → Row
ending name kinds pops pushes operand =
    record { name = name; kinds = kinds; throws = false; next = false; pops = pops; pushes = pushes; operand = operand }

-- raises an exception in any case
abbrev pub raising : List ℕ → List ImmKind → Pops → List Flavour → OperandUse → Row
raising name kinds pops pushes operand =
    record { name = name; kinds = kinds; throws = true; next = false; pops = pops; pushes = pushes; operand = operand }

abbrev pub table : Op → Row
table ops.Nop = plain (codes "Nop") [] (Fixed []) [] uses.Nothing
table ops.Null = plain (codes "Null") [] (Fixed []) (C ∷ []) uses.Nothing
table ops.True = plain (codes "True") [] (Fixed []) (C ∷ []) uses.Nothing
table ops.False = plain (codes "False") [] (Fixed []) (C ∷ []) uses.Nothing
table ops.Int = plain (codes "Int") (kinds.Int ∷ []) (Fixed []) (C ∷ []) uses.Nothing
table ops.String = plain (codes "String") (kinds.Str ∷ []) (Fixed []) (C ∷ []) uses.Nothing
table ops.NullUninit = plain (codes "NullUninit") [] (Fixed []) (U ∷ []) uses.Nothing
table ops.PopC = plain (codes "PopC") [] (Fixed (C ∷ [])) [] uses.Nothing
table ops.PopU = plain (codes "PopU") [] (Fixed (U ∷ [])) [] uses.Nothing
table ops.Dup = plain (codes "Dup") [] (Fixed (C ∷ [])) (C ∷ C ∷ []) uses.Nothing
table ops.PopL = plain (codes "PopL") (kinds.Local ∷ []) (Fixed (C ∷ [])) [] uses.SetsLocal
table ops.SetL = plain (codes "SetL") (kinds.Local ∷ []) (Fixed (C ∷ [])) (C ∷ []) uses.SetsLocal
table ops.CGetL = throwing (codes "CGetL") (kinds.Local ∷ []) (Fixed []) (C ∷ []) uses.ReadsLocal
table ops.CGetQuietL = plain (codes "CGetQuietL") (kinds.Local ∷ []) (Fixed []) (C ∷ []) uses.ReadsLocal
table ops.CGetL2 = throwing (codes "CGetL2") (kinds.Local ∷ []) (Fixed (C ∷ [])) (C ∷ C ∷ []) uses.ReadsLocal
table ops.PushL = throwing (codes "PushL") (kinds.Local ∷ []) (Fixed []) (C ∷ []) uses.ReadsLocal
table ops.UnsetL = plain (codes "UnsetL") (kinds.Local ∷ []) (Fixed []) [] uses.SetsLocal
table ops.SetOpL = throwing (codes "SetOpL") (kinds.Local ∷ kinds.SetOp ∷ []) (Fixed (C ∷ [])) (C ∷ []) uses.ReadsLocal
table ops.IncDecL = throwing (codes "IncDecL") (kinds.Local ∷ kinds.IncDec ∷ []) (Fixed []) (C ∷ []) uses.ReadsLocal
table ops.Concat = throwing (codes "Concat") [] (Fixed (C ∷ C ∷ [])) (C ∷ []) uses.Nothing
table ops.Add = throwing (codes "Add") [] (Fixed (C ∷ C ∷ [])) (C ∷ []) uses.Nothing
table ops.Sub = throwing (codes "Sub") [] (Fixed (C ∷ C ∷ [])) (C ∷ []) uses.Nothing
table ops.Mul = throwing (codes "Mul") [] (Fixed (C ∷ C ∷ [])) (C ∷ []) uses.Nothing
table ops.Mod = throwing (codes "Mod") [] (Fixed (C ∷ C ∷ [])) (C ∷ []) uses.Nothing
table ops.BitAnd = throwing (codes "BitAnd") [] (Fixed (C ∷ C ∷ [])) (C ∷ []) uses.Nothing
table ops.BitOr = throwing (codes "BitOr") [] (Fixed (C ∷ C ∷ [])) (C ∷ []) uses.Nothing
table ops.BitXor = throwing (codes "BitXor") [] (Fixed (C ∷ C ∷ [])) (C ∷ []) uses.Nothing
table ops.Shl = throwing (codes "Shl") [] (Fixed (C ∷ C ∷ [])) (C ∷ []) uses.Nothing
table ops.Shr = throwing (codes "Shr") [] (Fixed (C ∷ C ∷ [])) (C ∷ []) uses.Nothing
table ops.Same = plain (codes "Same") [] (Fixed (C ∷ C ∷ [])) (C ∷ []) uses.Nothing
table ops.NSame = plain (codes "NSame") [] (Fixed (C ∷ C ∷ [])) (C ∷ []) uses.Nothing
table ops.Lt = throwing (codes "Lt") [] (Fixed (C ∷ C ∷ [])) (C ∷ []) uses.Nothing
table ops.Lte = throwing (codes "Lte") [] (Fixed (C ∷ C ∷ [])) (C ∷ []) uses.Nothing
table ops.Gt = throwing (codes "Gt") [] (Fixed (C ∷ C ∷ [])) (C ∷ []) uses.Nothing
table ops.Gte = throwing (codes "Gte") [] (Fixed (C ∷ C ∷ [])) (C ∷ []) uses.Nothing
table ops.Cmp = throwing (codes "Cmp") [] (Fixed (C ∷ C ∷ [])) (C ∷ []) uses.Nothing
table ops.BitNot = throwing (codes "BitNot") [] (Fixed (C ∷ [])) (C ∷ []) uses.Nothing
table ops.CastInt = throwing (codes "CastInt") [] (Fixed (C ∷ [])) (C ∷ []) uses.Nothing
table ops.CastString = throwing (codes "CastString") [] (Fixed (C ∷ [])) (C ∷ []) uses.Nothing
table ops.Not = plain (codes "Not") [] (Fixed (C ∷ [])) (C ∷ []) uses.Nothing
table ops.CastBool = plain (codes "CastBool") [] (Fixed (C ∷ [])) (C ∷ []) uses.Nothing
table ops.IsTypeC = plain (codes "IsTypeC") (kinds.IsType ∷ []) (Fixed (C ∷ [])) (C ∷ []) uses.Nothing
table ops.IsTypeL = throwing (codes "IsTypeL") (kinds.Local ∷ kinds.IsType ∷ []) (Fixed []) (C ∷ []) uses.ReadsLocal
table ops.InstanceOfD = plain (codes "InstanceOfD") (kinds.Class ∷ []) (Fixed (C ∷ [])) (C ∷ []) uses.Nothing
table ops.NewVec = plain (codes "NewVec") (kinds.Count ∷ []) (Counted []) (C ∷ []) uses.Nothing
table ops.NewKeysetArray = throwing (codes "NewKeysetArray") (kinds.Count ∷ []) (Counted []) (C ∷ []) uses.Nothing
table ops.NewDictArray = plain (codes "NewDictArray") (kinds.Count ∷ []) (Fixed []) (C ∷ []) uses.Nothing
table ops.AddElemC = throwing (codes "AddElemC") [] (Fixed (C ∷ C ∷ C ∷ [])) (C ∷ []) uses.Nothing
table ops.AddNewElemC = throwing (codes "AddNewElemC") [] (Fixed (C ∷ C ∷ [])) (C ∷ []) uses.Nothing
table ops.Jmp = ending (codes "Jmp") (kinds.Label ∷ []) (Fixed []) [] uses.Nothing
table ops.JmpZ = plain (codes "JmpZ") (kinds.Label ∷ []) (Fixed (C ∷ [])) [] uses.Nothing
table ops.JmpNZ = plain (codes "JmpNZ") (kinds.Label ∷ []) (Fixed (C ∷ [])) [] uses.Nothing
table ops.Switch = ending (codes "Switch") (kinds.Int ∷ kinds.Switch ∷ []) (Fixed (C ∷ [])) [] uses.Nothing
table ops.SSwitch = ending (codes "SSwitch") (kinds.SSwitch ∷ []) (Fixed (C ∷ [])) [] uses.Nothing
table ops.RetC = ending (codes "RetC") [] (Fixed (C ∷ [])) [] uses.Nothing
table ops.Throw = raising (codes "Throw") [] (Fixed (C ∷ [])) [] uses.Nothing
table ops.Fatal = ending (codes "Fatal") [] (Fixed (C ∷ [])) [] uses.Nothing
table ops.ClsCnsD = plain (codes "ClsCnsD") (kinds.Name ∷ kinds.Class ∷ []) (Fixed []) (C ∷ []) uses.Nothing
table ops.FCallFuncD = throwing (codes "FCallFuncD") (kinds.Count ∷ kinds.Name ∷ []) (Counted (U ∷ U ∷ [])) (C ∷ []) uses.Nothing
table ops.FCallObjMethodD = throwing (codes "FCallObjMethodD") (kinds.Count ∷ kinds.Name ∷ []) (Counted (U ∷ C ∷ [])) (C ∷ []) uses.Nothing
table ops.FCallClsMethodD = throwing (codes "FCallClsMethodD") (kinds.Count ∷ kinds.Name ∷ kinds.Class ∷ []) (Counted (U ∷ U ∷ [])) (C ∷ []) uses.Nothing
table ops.NewObjD = plain (codes "NewObjD") (kinds.Class ∷ []) (Fixed []) (C ∷ []) uses.Nothing
table ops.FCallCtor = throwing (codes "FCallCtor") (kinds.Count ∷ []) (Counted (U ∷ C ∷ [])) (C ∷ []) uses.Nothing
table ops.LockObj = throwing (codes "LockObj") [] (Fixed (C ∷ [])) (C ∷ []) uses.Nothing
table ops.This = throwing (codes "This") [] (Fixed []) (C ∷ []) uses.Nothing
table ops.BareThis = plain (codes "BareThis") [] (Fixed []) (C ∷ []) uses.Nothing
table ops.CheckThis = throwing (codes "CheckThis") [] (Fixed []) [] uses.Nothing
table ops.IterInit = throwing (codes "IterInit") (kinds.Iter ∷ kinds.IterLocals ∷ kinds.Label ∷ []) (Fixed (C ∷ [])) [] uses.BeginsIter
table ops.IterNext = plain (codes "IterNext") (kinds.Iter ∷ kinds.IterLocals ∷ kinds.Label ∷ []) (Fixed []) [] uses.AdvancesIter
table ops.IterFree = plain (codes "IterFree") (kinds.Iter ∷ []) (Fixed []) [] uses.FreesIter
table ops.VerifyParamType = throwing (codes "VerifyParamType") (kinds.Local ∷ kinds.Constraint ∷ []) (Fixed []) [] uses.ReadsLocal
table ops.VerifyRetTypeC = throwing (codes "VerifyRetTypeC") (kinds.Constraint ∷ []) (Fixed (C ∷ [])) (C ∷ []) uses.Nothing
table ops.Print = throwing (codes "Print") [] (Fixed (C ∷ [])) (C ∷ []) uses.Nothing

abbrev pub op_name : Op → List ℕ
op_name op = (table op).name

abbrev pub kinds_of : Op → List ImmKind
kinds_of op = (table op).kinds

abbrev pub op_throws : Op → Bool
op_throws op = (table op).throws

abbrev pub op_goes_on : Op → Bool
op_goes_on op = (table op).next

abbrev pub slots_popped : Op → Pops
slots_popped op = (table op).pops

abbrev pub slots_pushed : Op → List Flavour
slots_pushed op = (table op).pushes

abbrev pub operand_use : Op → OperandUse
operand_use op = (table op).operand

-- the instructions whose names have so many bytes
abbrev pub of_length : ℕ → List Op
of_length n =
    if n == 2 then ops.Lt ∷ ops.Gt ∷ []
    else if n == 3 then ops.Nop ∷ ops.Int ∷ ops.Dup ∷ ops.Add ∷ ops.Sub ∷ ops.Mul ∷ ops.Mod ∷ ops.Shl ∷ ops.Shr ∷ ops.Lte ∷ ops.Gte ∷ ops.Cmp ∷ ops.Not ∷ ops.Jmp ∷ []
    else if n == 4 then ops.Null ∷ ops.True ∷ ops.PopC ∷ ops.PopU ∷ ops.PopL ∷ ops.SetL ∷ ops.Same ∷ ops.JmpZ ∷ ops.RetC ∷ ops.This ∷ []
    else if n == 5 then ops.False ∷ ops.CGetL ∷ ops.PushL ∷ ops.BitOr ∷ ops.NSame ∷ ops.JmpNZ ∷ ops.Throw ∷ ops.Fatal ∷ ops.Print ∷ []
    else if n == 6 then ops.String ∷ ops.CGetL2 ∷ ops.UnsetL ∷ ops.SetOpL ∷ ops.Concat ∷ ops.BitAnd ∷ ops.BitXor ∷ ops.BitNot ∷ ops.NewVec ∷ ops.Switch ∷ []
    else if n == 7 then ops.IncDecL ∷ ops.CastInt ∷ ops.IsTypeC ∷ ops.IsTypeL ∷ ops.SSwitch ∷ ops.ClsCnsD ∷ ops.NewObjD ∷ ops.LockObj ∷ []
    else if n == 8 then ops.CastBool ∷ ops.AddElemC ∷ ops.BareThis ∷ ops.IterInit ∷ ops.IterNext ∷ ops.IterFree ∷ []
    else if n == 9 then ops.FCallCtor ∷ ops.CheckThis ∷ []
    else if n == 10 then ops.NullUninit ∷ ops.CGetQuietL ∷ ops.CastString ∷ ops.FCallFuncD ∷ []
    else if n == 11 then ops.InstanceOfD ∷ ops.AddNewElemC ∷ []
    else if n == 12 then ops.NewDictArray ∷ []
    else if n == 14 then ops.NewKeysetArray ∷ ops.VerifyRetTypeC ∷ []
    else if n == 15 then ops.FCallObjMethodD ∷ ops.FCallClsMethodD ∷ ops.VerifyParamType ∷ []
    else []

-- the instruction of a name
abbrev pub op_called : List ℕ → Option Op
op_called name = first_named op_name (of_length (length name)) name
