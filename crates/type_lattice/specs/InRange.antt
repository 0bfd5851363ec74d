-- Types within their ranges, as tests: ints of 64 bits, strings of at most 32 bytes with zeros behind them, keys of ints and
-- strings alone, and classes that there are.
use Rattle.std.specs.Prelude.{ℕ, ℤ, pos, negsuc, ◌-◌, ◌^◌, Bool, true, not, ◌&&◌, ◌==◌, nat_le, nat_lt, List, [], ◌∷◌, ◌++◌, length, drop, replicate, Option, Some, None}
use Rattle.std.specs.List.{list_all}
use Rattle.std.specs.Str.{bytes_eq}
use Rattle.type_lattice.specs.declared.types.IntPart.{IntPart}
use Rattle.type_lattice.specs.declared.types.IntPart.TheVariants as ints
use Rattle.type_lattice.specs.declared.types.StrPart.{StrPart}
use Rattle.type_lattice.specs.declared.types.StrPart.TheVariants as strs
use Rattle.type_lattice.specs.declared.types.ObjPart.{ObjPart}
use Rattle.type_lattice.specs.declared.types.ObjPart.TheVariants as objs
use Rattle.type_lattice.specs.declared.types.Short.{Short}
use Rattle.type_lattice.specs.declared.types.Leaf.{Leaf}
use Rattle.type_lattice.specs.declared.types.HType.{HType}
use Rattle.type_lattice.specs.Never.{no_objs}

-- the test holds of what is there
abbrev pub where_there : {A : Type 0} → (A → Bool) → Option A → Bool
where_there test None = true
where_there test (Some a) = test a

-- ---- ranges

abbrev pub is_int64 : ℤ → Bool
is_int64 (pos n) = nat_lt n (2 ^ 63)
is_int64 (negsuc n) = nat_lt n (2 ^ 63)

abbrev pub is_byte : ℕ → Bool
is_byte b = nat_lt b 256

abbrev pub int_in_range : IntPart → Bool
int_in_range ints.No = true
int_in_range (ints.One i) = is_int64 i
int_in_range ints.Any = true

-- at most 32 bytes, and zeros behind them
abbrev pub short_in_range : Short → Bool
short_in_range s =
    nat_le s.len 32 && ((length s.bytes == 32) && (list_all is_byte s.bytes && bytes_eq (drop s.len s.bytes) (replicate (32 - s.len) 0)))

abbrev pub str_in_range : StrPart → Bool
str_in_range strs.No = true
str_in_range (strs.One s) = short_in_range s
str_in_range strs.Any = true

abbrev pub leaf_in_range : Leaf → Bool
leaf_in_range l = int_in_range l.int && str_in_range l.str

-- no part but ints and strings
abbrev pub has_keys_alone : Leaf → Bool
has_keys_alone l = not l.null && (not l.no && (not l.yes && (no_objs l.obj && (not l.vec && (not l.dict && not l.keyset)))))

abbrev pub key_in_range : Leaf → Bool
key_in_range l = leaf_in_range l && has_keys_alone l

abbrev pub entry_in_range : Leaf × Leaf → Bool
entry_in_range e = key_in_range e.0 && leaf_in_range e.1

-- whatever classes it names
abbrev pub type_in_range : HType → Bool
type_in_range t =
    int_in_range t.int && (str_in_range t.str && (where_there leaf_in_range t.vec && (where_there entry_in_range t.dict && where_there key_in_range t.keyset)))

-- ---- classes

abbrev pub obj_classes : ObjPart → List ℕ
obj_classes objs.No = []
obj_classes (objs.Exact c) = c ∷ []
obj_classes (objs.Sub c) = c ∷ []
obj_classes objs.Any = []

abbrev pub vec_classes : Option Leaf → List ℕ
vec_classes None = []
vec_classes (Some l) = obj_classes l.obj

abbrev pub dict_classes : Option (Leaf × Leaf) → List ℕ
dict_classes None = []
dict_classes (Some e) = obj_classes e.1.obj

-- the classes of a type, in the order of its text
abbrev pub classes_of : HType → List ℕ
classes_of t = obj_classes t.obj ++ (vec_classes t.vec ++ dict_classes t.dict)

-- ---- both

-- a proper type, where there are so many classes
abbrev pub is_proper : ℕ → HType → Bool
is_proper classes t = type_in_range t && list_all (λ c. nat_lt c classes) (classes_of t)
