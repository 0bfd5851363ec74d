-- The text of a value, the number that a text spells, truth and order.
use Rattle.std.specs.Prelude.{ℕ, ◌+◌, ◌-◌, ◌*◌, ◌^◌, min, Bool, true, false, not, cond, ◌&&◌, ◌==◌, nat_lt, nat_le, List, [], ◌∷◌, Option, Some, None, ℤ, pos, neg_ℤ}
use Rattle.std.specs.declared.cmp.Ordering.{Ordering}
use Rattle.std.specs.Ordering.{nat_cmp, int_cmp, int_eq}
use Rattle.std.specs.Cmp.Lexicographic.{slice_cmp}
use Rattle.std.specs.Fmt.{signed_decimal}
use Rattle.hack_values.specs.declared.cell.Cell.{Cell}
use Rattle.hack_values.specs.declared.cell.Cell.TheVariants.{Null, Bool as BoolCell, Int, Str, Vec, Dict, Keyset, Obj}

-- the text that stands for a value, where there is one
abbrev pub text_of : Cell → Option (List ℕ)
text_of Null = Some []
text_of (BoolCell false) = Some []
text_of (BoolCell true) = Some (49 ∷ [])
text_of (Int n) = Some (signed_decimal n)
text_of (Str s) = Some s
text_of _ = None

abbrev pub is_digit : ℕ → Bool
is_digit c = nat_le 48 c && nat_le c 57

-- n, followed by further digits
abbrev pub number_after : ℕ → List ℕ → Option ℕ
number_after n [] = Some n
number_after n (c ∷ cs) = cond (is_digit c) (number_after (10 * n + (c - 48)) cs) None

-- a digit 1 to 9, and further digits
abbrev pub natural_of : List ℕ → Option ℕ
natural_of [] = None
natural_of (c ∷ cs) = cond (c == 48) None (number_after 0 (c ∷ cs))

-- a number as a u64, which stays at its greatest value
abbrev pub capped_u64 : ℕ → ℕ
capped_u64 n = min n (2 ^ 64 - 1)

abbrev pub within_u64 : Option ℕ → Option ℕ
within_u64 None = None
within_u64 (Some n) = Some (capped_u64 n)

abbrev pub positive : Option ℕ → Option ℤ
positive None = None
positive (Some n) = cond (nat_lt n (2 ^ 63)) (Some (pos n)) None

abbrev pub negative : Option ℕ → Option ℤ
negative None = None
negative (Some n) = cond (nat_le n (2 ^ 63)) (Some (neg_ℤ (pos n))) None

-- zero, where nothing follows
abbrev pub zero_alone : List ℕ → Option ℤ
zero_alone [] = Some (pos 0)
zero_alone (c ∷ cs) = None

-- the number that an integer token spells: `0`, or an optional `-`, a digit 1 to 9 and further digits, from -2^63 to 2^63 - 1
abbrev pub integer_of : List ℕ → Option ℤ
integer_of [] = None
integer_of (c ∷ cs) = cond (c == 48) (zero_alone cs) (cond (c == 45) (negative (natural_of cs)) (positive (natural_of (c ∷ cs))))

-- the number that a value is cast to, where there is one
abbrev pub int_of : Cell → Option ℤ
int_of Null = Some (pos 0)
int_of (BoolCell false) = Some (pos 0)
int_of (BoolCell true) = Some (pos 1)
int_of (Int n) = Some n
int_of (Str s) = integer_of s
int_of _ = None

abbrev pub is_empty : {X : Type 0} → List X → Bool
is_empty [] = true
is_empty (x ∷ xs) = false

-- a text is true but for the empty one and `0`
abbrev pub is_true_text : List ℕ → Bool
is_true_text [] = false
is_true_text (c ∷ []) = not (c == 48)
is_true_text _ = true

-- truth: all but null, false, 0, the empty text, the text `0` and the empty containers
abbrev pub truth : Cell → Bool
truth Null = false
truth (BoolCell b) = b
truth (Int n) = not (int_eq n (pos 0))
truth (Str s) = is_true_text s
truth (Vec vs) = not (is_empty vs)
truth (Dict es) = not (is_empty es)
truth (Keyset ks) = not (is_empty ks)
truth (Obj n) = true

-- the order of two ints, or of two texts by their bytes
abbrev pub order_of : Cell → Cell → Option Ordering
order_of (Int a) (Int b) = Some (int_cmp a b)
order_of (Str a) (Str b) = Some (slice_cmp nat_cmp a b)
order_of _ _ = None
