-- The join of types, part by part.
use Rattle.std.specs.Prelude.{ℕ, Bool, Option, Some, None, ◌||◌, ◌&&◌, ◌==◌, if◌then◌else◌}
use Rattle.std.specs.Ordering.{int_eq}
use Rattle.std.specs.Str.{bytes_eq}
use Rattle.type_lattice.specs.declared.types.IntPart.{IntPart}
use Rattle.type_lattice.specs.declared.types.IntPart.TheVariants as ints
use Rattle.type_lattice.specs.declared.types.StrPart.{StrPart}
use Rattle.type_lattice.specs.declared.types.StrPart.TheVariants as strs
use Rattle.type_lattice.specs.declared.types.ObjPart.{ObjPart}
use Rattle.type_lattice.specs.declared.types.ObjPart.TheVariants as objs
use Rattle.type_lattice.specs.declared.types.Short.{Short}
use Rattle.type_lattice.specs.declared.types.Leaf.{Leaf}
use Rattle.type_lattice.specs.declared.types.HType.{HType}
use Rattle.type_lattice.specs.Classes.{Tree, nearest}

-- No gives the other part, equal parts give themselves, and others give Any
abbrev pub int_join : IntPart → IntPart → IntPart
int_join ints.No b = b
int_join (ints.One i) ints.No = ints.One i
int_join (ints.One i) (ints.One j) = if int_eq i j then ints.One i else ints.Any
int_join (ints.One i) ints.Any = ints.Any
int_join ints.Any b = ints.Any

abbrev pub short_eq : Short → Short → Bool
short_eq s t = s.len == t.len && bytes_eq s.bytes t.bytes

abbrev pub str_join : StrPart → StrPart → StrPart
str_join strs.No b = b
str_join (strs.One s) strs.No = strs.One s
str_join (strs.One s) (strs.One t) = if short_eq s t then strs.One s else strs.Any
str_join (strs.One s) strs.Any = strs.Any
str_join strs.Any b = strs.Any

-- a class and those below it, or all objects where there is no class
abbrev pub sub_or_any : Option ℕ → ObjPart
sub_or_any None = objs.Any
sub_or_any (Some c) = objs.Sub c

-- two different parts of classes give the nearest class that both are or descend from, with those below it
abbrev pub obj_join : Tree → ObjPart → ObjPart → ObjPart
obj_join tree objs.No b = b
obj_join tree (objs.Exact c) objs.No = objs.Exact c
obj_join tree (objs.Exact c) (objs.Exact d) = if c == d then objs.Exact c else sub_or_any (nearest tree c d)
obj_join tree (objs.Exact c) (objs.Sub d) = sub_or_any (nearest tree c d)
obj_join tree (objs.Exact c) objs.Any = objs.Any
obj_join tree (objs.Sub c) objs.No = objs.Sub c
obj_join tree (objs.Sub c) (objs.Exact d) = sub_or_any (nearest tree c d)
obj_join tree (objs.Sub c) (objs.Sub d) = sub_or_any (nearest tree c d)
obj_join tree (objs.Sub c) objs.Any = objs.Any
obj_join tree objs.Any b = objs.Any

abbrev pub leaf_join : Tree → Leaf → Leaf → Leaf
leaf_join tree a b = record {
  null = a.null || b.null;
  no = a.no || b.no;
  yes = a.yes || b.yes;
  int = int_join a.int b.int;
  str = str_join a.str b.str;
  obj = obj_join tree a.obj b.obj;
  vec = a.vec || b.vec;
  dict = a.dict || b.dict;
  keyset = a.keyset || b.keyset;
}

abbrev pub part_join : {A : Type 0} → (A → A → A) → Option A → Option A → Option A
part_join f None b = b
part_join f (Some a) None = Some a
part_join f (Some a) (Some b) = Some (f a b)

abbrev pub entry_join : Tree → Leaf × Leaf → Leaf × Leaf → Leaf × Leaf
entry_join tree a b = (leaf_join tree a.0 b.0, leaf_join tree a.1 b.1)

abbrev pub join : Tree → HType → HType → HType
join tree a b = record {
  uninit = a.uninit || b.uninit;
  null = a.null || b.null;
  no = a.no || b.no;
  yes = a.yes || b.yes;
  int = int_join a.int b.int;
  str = str_join a.str b.str;
  obj = obj_join tree a.obj b.obj;
  vec = part_join (leaf_join tree) a.vec b.vec;
  dict = part_join (entry_join tree) a.dict b.dict;
  keyset = part_join (leaf_join tree) a.keyset b.keyset;
}
