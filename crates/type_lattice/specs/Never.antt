-- Types without members.
use Rattle.std.specs.Prelude.{◌≡◌, ◌↔◌, Bool, true, false, not, ◌&&◌, Option, Some, None, List, [], ◌∷◌}
use Rattle.type_lattice.specs.declared.types.IntPart.{IntPart}
use Rattle.type_lattice.specs.declared.types.IntPart.TheVariants as ints
use Rattle.type_lattice.specs.declared.types.StrPart.{StrPart}
use Rattle.type_lattice.specs.declared.types.StrPart.TheVariants as strs
use Rattle.type_lattice.specs.declared.types.ObjPart.{ObjPart}
use Rattle.type_lattice.specs.declared.types.ObjPart.TheVariants as objs
use Rattle.type_lattice.specs.declared.types.HType.{HType}
use Rattle.type_lattice.specs.Types.{never}

abbrev pub no_ints : IntPart → Bool
no_ints ints.No = true
no_ints (ints.One i) = false
no_ints ints.Any = false

abbrev pub no_strs : StrPart → Bool
no_strs strs.No = true
no_strs (strs.One s) = false
no_strs strs.Any = false

abbrev pub no_objs : ObjPart → Bool
no_objs objs.No = true
no_objs (objs.Exact c) = false
no_objs (objs.Sub c) = false
no_objs objs.Any = false

abbrev pub is_absent : {A : Type 0} → Option A → Bool
is_absent None = true
is_absent (Some a) = false

-- the type has no part
abbrev pub is_never : HType → Bool
is_never t =
    not t.uninit && (not t.null && (not t.no && (not t.yes
    && (no_ints t.int && (no_strs t.str && (no_objs t.obj && (is_absent t.vec && (is_absent t.dict && is_absent t.keyset))))))))

-- none of the types is without members
abbrev pub all_alive : List HType → Bool
all_alive [] = true
all_alive (t ∷ ts) = not (is_never t) && all_alive ts

-- the type without members alone has no part
abbrev pub NeverIsNever : Type 0
NeverIsNever = (t : HType) → (is_never t ≡ true) ↔ (t ≡ never)
