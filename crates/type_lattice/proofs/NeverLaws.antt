-- The type without members alone has no part.
use Rattle.std.proofs.Common.{◌≡◌, refl, ap, Bool, true, false, not, ◌&&◌, Option, Some, None}
use Rattle.type_lattice.specs.declared.types.HType.{HType}
use Rattle.type_lattice.specs.declared.types.IntPart.{IntPart}
use Rattle.type_lattice.specs.declared.types.IntPart.TheVariants as ints
use Rattle.type_lattice.specs.declared.types.StrPart.{StrPart}
use Rattle.type_lattice.specs.declared.types.StrPart.TheVariants as strs
use Rattle.type_lattice.specs.declared.types.ObjPart.{ObjPart}
use Rattle.type_lattice.specs.declared.types.ObjPart.TheVariants as objs
use Rattle.type_lattice.specs.Types.{never}
use Rattle.type_lattice.specs.Never.{NeverIsNever, no_ints, no_strs, no_objs, is_absent, is_never}

split : (a b : Bool) → (a && b) ≡ true → (a ≡ true) × (b ≡ true)
split true b h = (refl, h)
split false b h = absurd (cc)

pub unset : (b : Bool) → not b ≡ true → b ≡ false
unset true h = absurd (cc)
unset false h = refl

pub ints_none : (p : IntPart) → no_ints p ≡ true → p ≡ ints.No
ints_none ints.No h = refl
ints_none (ints.One i) h = absurd (cc)
ints_none ints.Any h = absurd (cc)

pub strs_none : (p : StrPart) → no_strs p ≡ true → p ≡ strs.No
strs_none strs.No h = refl
strs_none (strs.One s) h = absurd (cc)
strs_none strs.Any h = absurd (cc)

pub objs_none : (p : ObjPart) → no_objs p ≡ true → p ≡ objs.No
objs_none objs.No h = refl
objs_none (objs.Exact c) h = absurd (cc)
objs_none (objs.Sub c) h = absurd (cc)
objs_none objs.Any h = absurd (cc)

part_none : {A : Type 0} (o : Option A) → is_absent o ≡ true → o ≡ None
part_none None h = refl
part_none (Some a) h = absurd (cc)

no_part : (t : HType) → is_never t ≡ true → t ≡ never
no_part t h =
    let h1 = split _ _ h in
    let h2 = split _ _ h1.1 in
    let h3 = split _ _ h2.1 in
    let h4 = split _ _ h3.1 in
    let h5 = split _ _ h4.1 in
    let h6 = split _ _ h5.1 in
    let h7 = split _ _ h6.1 in
    let h8 = split (is_absent t.vec) _ h7.1 in
    let h9 = split (is_absent t.dict) (is_absent t.keyset) h8.1 in
    λ i. record {
      uninit = unset t.uninit h1.0 i;
      null = unset t.null h2.0 i;
      no = unset t.no h3.0 i;
      yes = unset t.yes h4.0 i;
      int = ints_none t.int h5.0 i;
      str = strs_none t.str h6.0 i;
      obj = objs_none t.obj h7.0 i;
      vec = part_none t.vec h8.0 i;
      dict = part_none t.dict h9.0 i;
      keyset = part_none t.keyset h9.1 i;
    }

pub never_is_never : NeverIsNever
never_is_never t = (no_part t, λ e. ap is_never e)
