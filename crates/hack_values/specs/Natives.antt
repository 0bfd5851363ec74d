-- The value of each native at its arguments: none where it throws, as it does for every other name and every other list of arguments.
use Rattle.std.specs.Prelude.{ℕ, zero, suc, ◌*◌, nat_lt, cond, codes, List, [], ◌∷◌, ◌++◌, length, Option, Some, None, pos, unsigned_abs}
use Rattle.std.specs.Int.{w64, cast_signed, int_min, int_max}
use Rattle.std.specs.Str.{bytes_eq}
use Rattle.hack_values.specs.declared.cell.Cell.{Cell}
use Rattle.hack_values.specs.declared.cell.Cell.TheVariants.{Int, Str, Vec, Dict, Keyset}
use Rattle.hack_values.specs.Limits.{max_text}

-- the number of a text's bytes
abbrev pub strlen_value : List Cell → Option Cell
strlen_value (Str s ∷ []) = Some (Int (pos (length s)))
strlen_value _ = None

abbrev pub repeated : ℕ → List ℕ → List ℕ
repeated zero s = []
repeated (suc n) s = s ++ repeated n s

-- a text so often, within the limit of a text
abbrev pub str_repeat_value : List Cell → Option Cell
str_repeat_value (Str s ∷ Int (pos n) ∷ []) = cond (nat_lt max_text (n * length s)) None (Some (Str (repeated n s)))
str_repeat_value _ = None

-- the absolute value; -2^63 stays
abbrev pub abs_value : List Cell → Option Cell
abs_value (Int a ∷ []) = Some (Int (cast_signed w64 (unsigned_abs a)))
abs_value _ = None

-- the lesser and the greater of two ints
abbrev pub min_value : List Cell → Option Cell
min_value (Int a ∷ Int b ∷ []) = Some (Int (int_min a b))
min_value _ = None

abbrev pub max_value : List Cell → Option Cell
max_value (Int a ∷ Int b ∷ []) = Some (Int (int_max a b))
max_value _ = None

-- how many elements a container has
abbrev pub count_value : List Cell → Option Cell
count_value (Vec vs ∷ []) = Some (Int (pos (length vs)))
count_value (Dict es ∷ []) = Some (Int (pos (length es)))
count_value (Keyset ks ∷ []) = Some (Int (pos (length ks)))
count_value _ = None

abbrev pub native_value : List ℕ → List Cell → Option Cell
native_value name args =
    cond (bytes_eq name (codes "strlen")) (strlen_value args)
    (cond (bytes_eq name (codes "str_repeat")) (str_repeat_value args)
    (cond (bytes_eq name (codes "abs")) (abs_value args)
    (cond (bytes_eq name (codes "min")) (min_value args)
    (cond (bytes_eq name (codes "max")) (max_value args)
    (cond (bytes_eq name (codes "count")) (count_value args) None)))))
