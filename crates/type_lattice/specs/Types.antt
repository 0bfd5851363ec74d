-- Single types: the one without members, that of all cells, and those of literals.
use Rattle.std.specs.Prelude.{◌≡◌, ℕ, true, false, Some, None, List, [], ◌++◌, ◌-◌, take, length, replicate, nat_le, if◌then◌else◌}
use Rattle.type_lattice.specs.declared.types.IntPart.TheVariants as ints
use Rattle.type_lattice.specs.declared.types.StrPart.{StrPart}
use Rattle.type_lattice.specs.declared.types.StrPart.TheVariants as strs
use Rattle.type_lattice.specs.declared.types.ObjPart.TheVariants as objs
use Rattle.type_lattice.specs.declared.types.Short.{Short}
use Rattle.type_lattice.specs.declared.types.Leaf.{Leaf}
use Rattle.type_lattice.specs.declared.types.HType.{HType}
use Rattle.hack_values.specs.declared.cell.Cell.{Cell}
use Rattle.hack_values.specs.declared.cell.Cell.TheVariants as cells

-- the type without members
abbrev pub never : HType
never = record {
  uninit = false;
  null = false;
  no = false;
  yes = false;
  int = ints.No;
  str = strs.No;
  obj = objs.No;
  vec = None;
  dict = None;
  keyset = None;
}

-- the type of what isn't there yet
abbrev pub uninit : HType
uninit = record never { uninit = true }

-- a type without Uninit
abbrev pub initialised : HType → HType
initialised t = record t { uninit = false }

-- what holds every cell, in a container
abbrev pub cell_leaf : Leaf
cell_leaf = record {
  null = true;
  no = true;
  yes = true;
  int = ints.Any;
  str = strs.Any;
  obj = objs.Any;
  vec = true;
  dict = true;
  keyset = true;
}

-- what holds every key
abbrev pub key_leaf : Leaf
key_leaf = record {
  null = false;
  no = false;
  yes = false;
  int = ints.Any;
  str = strs.Any;
  obj = objs.No;
  vec = false;
  dict = false;
  keyset = false;
}

-- what holds nothing
abbrev pub never_leaf : Leaf
never_leaf = record {
  null = false;
  no = false;
  yes = false;
  int = ints.No;
  str = strs.No;
  obj = objs.No;
  vec = false;
  dict = false;
  keyset = false;
}

-- the type of all cells
abbrev pub cell : HType
cell = record {
  uninit = false;
  null = true;
  no = true;
  yes = true;
  int = ints.Any;
  str = strs.Any;
  obj = objs.Any;
  vec = Some cell_leaf;
  dict = Some (key_leaf, cell_leaf);
  keyset = Some key_leaf;
}

-- the string of a short one
abbrev pub short_bytes : Short → List ℕ
short_bytes s = take s.len s.bytes

-- a string as a part; only one of at most 32 bytes has a part of its own
abbrev pub str_part : List ℕ → StrPart
str_part s = if nat_le (length s) 32 then strs.One (record { len = length s; bytes = s ++ replicate (32 - length s) 0 }) else strs.Any

-- the least type that has a scalar or an empty container as a member
abbrev pub literal : Cell → HType
literal cells.Null = record never { null = true }
literal (cells.Bool false) = record never { no = true }
literal (cells.Bool true) = record never { yes = true }
literal (cells.Int i) = record never { int = ints.One i }
literal (cells.Str s) = record never { str = str_part s }
literal (cells.Vec items) = record never { vec = Some never_leaf }
literal (cells.Dict entries) = record never { dict = Some (never_leaf, never_leaf) }
literal (cells.Keyset elements) = record never { keyset = Some never_leaf }
literal (cells.Obj n) = record never { obj = objs.Any }

-- a scalar or an empty container
abbrev pub IsLiteral : Cell → Type 0
IsLiteral cells.Null = Unit {0}
IsLiteral (cells.Bool b) = Unit {0}
IsLiteral (cells.Int i) = Unit {0}
IsLiteral (cells.Str s) = Unit {0}
IsLiteral (cells.Vec items) = items ≡ []
IsLiteral (cells.Dict entries) = entries ≡ []
IsLiteral (cells.Keyset elements) = elements ≡ []
IsLiteral (cells.Obj n) = ⊥
