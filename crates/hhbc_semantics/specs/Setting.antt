-- What a run stands in: a repository, and the natives that it may call.
use Rattle.std.specs.Prelude.{ℕ, List, [], ◌∷◌, codes}
use Rattle.type_lattice.specs.declared.types.IntPart.TheVariants as ints
use Rattle.type_lattice.specs.declared.types.StrPart.TheVariants as strs
use Rattle.type_lattice.specs.declared.types.HType.{HType}
use Rattle.type_lattice.specs.Types.{never}
use Rattle.hhbc_repo.specs.Linked.{Linked}
use Rattle.hhbc_repo.specs.Bare.{bare}

-- a native: how many arguments it takes, and the type of what it answers
pub record NativeRow : Type 0 where
  pub name : List ℕ
  pub arity : ℕ
  pub answers : HType

pub record Setting : Type 0 where
  pub natives : List NativeRow
  pub repo : Linked

abbrev pub any_int : HType
any_int = record never { int = ints.Any }

abbrev pub any_str : HType
any_str = record never { str = strs.Any }

-- the six natives that are there without more being asked
abbrev pub six_natives : List NativeRow
six_natives =
    (record { name = codes "strlen"; arity = 1; answers = any_int })
    ∷ (record { name = codes "str_repeat"; arity = 2; answers = any_str })
    ∷ (record { name = codes "abs"; arity = 1; answers = any_int })
    ∷ (record { name = codes "min"; arity = 2; answers = any_int })
    ∷ (record { name = codes "max"; arity = 2; answers = any_int })
    ∷ (record { name = codes "count"; arity = 1; answers = any_int })
    ∷ []

-- the repository with these
abbrev pub with_six : Linked → Setting
with_six r = record { natives = six_natives; repo = r }

-- the natives with another repository
abbrev pub with_repo : Setting → Linked → Setting
with_repo S r = record S { repo = r }

-- the setting, its repository without assertions and stated types
abbrev pub bare_setting : Setting → Setting
bare_setting S = with_repo S (bare S.repo)
