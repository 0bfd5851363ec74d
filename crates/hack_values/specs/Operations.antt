-- The operators, one row each. `a` is the left operand, below `b` on the stack.
use Rattle.std.specs.Prelude.{◌≡◌, ◌≢◌, ℕ, ◌+◌, ◌++◌, Bool, true, false, not, cond, nat_lt, List, length, Option, Some, None, Result, Ok, Err, MatchResult, ℤ, pos, negsuc, ◌+ℤ◌, ◌-ℤ◌, ◌*ℤ◌, unsigned_abs, int_rem}
use Rattle.std.specs.Int.{w64, int_wrap, int_rem_euclid, int_bit_and, int_bit_or, int_bit_xor, int_bit_not, int_shl, int_shr}
use Rattle.std.specs.declared.cmp.Ordering.{Ordering}
use Rattle.std.specs.declared.cmp.Ordering.TheVariants.{Less, Equal, Greater}
use Rattle.std.specs.Ordering.{is_lt, is_le, is_gt, is_ge, int_eq}
use Rattle.hack_values.specs.declared.cell.Cell.{Cell}
use Rattle.hack_values.specs.declared.cell.Cell.TheVariants.{Int, Str, Bool as BoolCell}
use Rattle.hack_values.specs.declared.operators.OpFault.{OpFault}
use Rattle.hack_values.specs.declared.operators.OpFault.TheVariants.{BadOperand, DivisionByZero, TooLarge, NoMemory}
use Rattle.hack_values.specs.declared.operators.BinOp.{BinOp}
use Rattle.hack_values.specs.declared.operators.BinOp.TheVariants.{Add, Sub, Mul, Mod, BitAnd, BitOr, BitXor, Shl, Shr, Concat, Same, NSame, Lt, Lte, Gt, Gte, Cmp}
use Rattle.hack_values.specs.declared.operators.UnOp.{UnOp}
use Rattle.hack_values.specs.declared.operators.UnOp.TheVariants.{Not, BitNot, CastBool, CastInt, CastString}
use Rattle.hack_values.specs.Limits.{max_text}
use Rattle.hack_values.specs.Same.{is_same}
use Rattle.hack_values.specs.Casts.{text_of, int_of, truth, order_of}

abbrev pub on_ints : (ℤ → ℤ → Result Cell OpFault) → Cell → Cell → Result Cell OpFault
on_ints f (Int a) (Int b) = f a b
on_ints f _ _ = Err BadOperand

-- the remainder with the sign of a
abbrev pub remainder : ℤ → ℤ → Result Cell OpFault
remainder a b = cond (int_eq b (pos 0)) (Err DivisionByZero) (Ok (Int (int_rem a b)))

-- a shift goes by b modulo 64
abbrev pub shift : ℤ → ℕ
shift b = unsigned_abs (int_rem_euclid b (pos 64))

abbrev pub joined : Option (List ℕ) → Option (List ℕ) → Result Cell OpFault
joined (Some s) (Some t) = cond (nat_lt max_text (length s + length t)) (Err TooLarge) (Ok (Str (s ++ t)))
joined _ _ = Err BadOperand

abbrev pub compared : (Ordering → Cell) → Option Ordering → Result Cell OpFault
compared f None = Err BadOperand
compared f (Some o) = Ok (f o)

-- -1, 0 or 1
abbrev pub sign_of : Ordering → ℤ
sign_of Less = negsuc 0
sign_of Equal = pos 0
sign_of Greater = pos 1

abbrev pub op2 : BinOp → Cell → Cell → Result Cell OpFault
op2 Add a b = on_ints (λ x y. Ok (Int (int_wrap w64 (x +ℤ y)))) a b
op2 Sub a b = on_ints (λ x y. Ok (Int (int_wrap w64 (x -ℤ y)))) a b
op2 Mul a b = on_ints (λ x y. Ok (Int (int_wrap w64 (x *ℤ y)))) a b
op2 Mod a b = on_ints remainder a b
op2 BitAnd a b = on_ints (λ x y. Ok (Int (int_bit_and w64 x y))) a b
op2 BitOr a b = on_ints (λ x y. Ok (Int (int_bit_or w64 x y))) a b
op2 BitXor a b = on_ints (λ x y. Ok (Int (int_bit_xor w64 x y))) a b
op2 Shl a b = on_ints (λ x y. Ok (Int (int_shl w64 x (shift y)))) a b
op2 Shr a b = on_ints (λ x y. Ok (Int (int_shr x (shift y)))) a b
op2 Concat a b = joined (text_of a) (text_of b)
op2 Same a b = Ok (BoolCell (is_same a b))
op2 NSame a b = Ok (BoolCell (not (is_same a b)))
op2 Lt a b = compared (λ o. BoolCell (is_lt o)) (order_of a b)
op2 Lte a b = compared (λ o. BoolCell (is_le o)) (order_of a b)
op2 Gt a b = compared (λ o. BoolCell (is_gt o)) (order_of a b)
op2 Gte a b = compared (λ o. BoolCell (is_ge o)) (order_of a b)
op2 Cmp a b = compared (λ o. Int (sign_of o)) (order_of a b)

-- the operators that take two ints alone
abbrev pub takes_ints : BinOp → Bool
takes_ints Add = true
takes_ints Sub = true
takes_ints Mul = true
takes_ints Mod = true
takes_ints BitAnd = true
takes_ints BitOr = true
takes_ints BitXor = true
takes_ints Shl = true
takes_ints Shr = true
takes_ints _ = false

-- the operators that compare
abbrev pub compares : BinOp → Bool
compares Lt = true
compares Lte = true
compares Gt = true
compares Gte = true
compares Cmp = true
compares _ = false

abbrev pub complement : Cell → Result Cell OpFault
complement (Int a) = Ok (Int (int_bit_not w64 a))
complement _ = Err BadOperand

-- the cell of what is there
abbrev pub or_bad_operand : {X : Type 0} → (X → Cell) → Option X → Result Cell OpFault
or_bad_operand f None = Err BadOperand
or_bad_operand f (Some x) = Ok (f x)

abbrev pub op1 : UnOp → Cell → Result Cell OpFault
op1 Not a = Ok (BoolCell (not (truth a)))
op1 BitNot a = complement a
op1 CastBool a = Ok (BoolCell (truth a))
op1 CastInt a = or_bad_operand Int (int_of a)
op1 CastString a = or_bad_operand Str (text_of a)

-- a call's answer is the table's, want of memory aside
abbrev pub IsAnswer : Result Cell OpFault → Result Cell OpFault → Type 0
IsAnswer result row = MatchResult result (λ c. row ≡ Ok c) (λ fault. fault ≢ NoMemory → row ≡ Err fault)
