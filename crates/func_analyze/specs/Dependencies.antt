-- The names of the facts on which what a body gives depends.
use Rattle.std.specs.Prelude.{◌≡◌, ◌<◌, ◌≤◌, ℕ, List, [], ◌∷◌, ◌++◌, map, flat_map, codes, Option, Some, None, length, slice_get, Contains}
use Rattle.hhbc_ops.specs.declared.op.Op.{Op}
use Rattle.hhbc_ops.specs.declared.op.Op.TheVariants as ops
use Rattle.hhbc_repo.specs.declared.code.Code.{Code}
use Rattle.hhbc_repo.specs.declared.code.Code.TheVariants as kinds
use Rattle.hhbc_repo.specs.declared.code.Imm.{Imm}
use Rattle.hhbc_repo.specs.declared.code.Imm.TheVariants as imms
use Rattle.hhbc_repo.specs.declared.code.MemberKey.{MemberKey}
use Rattle.hhbc_repo.specs.declared.code.MemberKey.TheVariants as keys
use Rattle.hhbc_repo.specs.declared.code.Final.{Final}
use Rattle.hhbc_repo.specs.declared.code.Final.TheVariants as finals
use Rattle.hhbc_repo.specs.declared.body.Body.{Body}
use Rattle.hhbc_repo.specs.declared.body.Position.{Position}
use Rattle.hhbc_repo.specs.declared.repo.Class.{Class}
use Rattle.hhbc_repo.specs.declared.repo.Property.{Property}
use Rattle.hhbc_repo.specs.Linked.{Linked}
use Rattle.hhbc_repo.specs.Bodies.{body_at}
use Rattle.hhbc_semantics.specs.Truth.{Facts}
use Rattle.func_analyze.specs.Results.{BodyResult, IsResult}

-- what functions of a name return, what methods of it return, and what properties of it hold
pub data FactKind : Type 0 where
  OfFunctions : FactKind
  OfMethods : FactKind
  OfProperties : FactKind

pub record Dependency : Type 0 where
  pub kind : FactKind
  pub name : List ℕ

-- the names of all properties, by number
abbrev pub property_names : Linked → List (List ℕ)
property_names r = codes "message" ∷ flat_map (λ (c : Class). map (λ (p : Property). p.name) c.props) r.classes

-- the operand that is a name
abbrev pub names_in : Imm → List (List ℕ)
names_in (imms.Name name) = name ∷ []
names_in _ = []

abbrev pub of_names : FactKind → List (List ℕ) → List Dependency
of_names kind names = map (λ name. record { kind = kind; name = name }) names

-- a call asks what functions or methods of its name return; a constructor's has a name of its own
abbrev pub op_dependencies : Op → List Imm → List Dependency
op_dependencies ops.FCallFuncD is = of_names OfFunctions (flat_map names_in is)
op_dependencies ops.FCallObjMethodD is = of_names OfMethods (flat_map names_in is)
op_dependencies ops.FCallClsMethodD is = of_names OfMethods (flat_map names_in is)
op_dependencies ops.FCallCtor is = of_names OfMethods (codes "__construct" ∷ [])
op_dependencies _ is = []

-- a key asks what properties of its name hold, and one that is only known in a run what any property holds
abbrev pub key_dependencies : Linked → MemberKey → List Dependency
key_dependencies r (keys.PropName name) = of_names OfProperties (name ∷ [])
key_dependencies r (keys.NullsafeName name) = of_names OfProperties (name ∷ [])
key_dependencies r (keys.PropStack i) = of_names OfProperties (property_names r)
key_dependencies r (keys.PropLocal l) = of_names OfProperties (property_names r)
key_dependencies r _ = []

abbrev pub last_key : Final → MemberKey
last_key (finals.Query n mode key) = key
last_key (finals.Set n key) = key
last_key (finals.SetOp n op key) = key
last_key (finals.IncDec n op key) = key
last_key (finals.Unset n key) = key

abbrev pub code_dependencies : Linked → Code → List Dependency
code_dependencies r (kinds.Plain i) = op_dependencies i.op i.imms
code_dependencies r (kinds.Member m) = flat_map (key_dependencies r) m.dims ++ key_dependencies r (last_key m.last)

abbrev pub dependencies_in : Linked → Option Body → List Dependency
dependencies_in r None = []
dependencies_in r (Some b) = flat_map (λ (p : Position). code_dependencies r p.code) b.positions

-- the dependencies of a body, by its number
abbrev pub dependencies : Linked → ℕ → List Dependency
dependencies r n = dependencies_in r (body_at r n)

-- the facts of this kind and name are the same
abbrev pub AreSame : Linked → Facts → Facts → FactKind → List ℕ → Type 0
AreSame r F G OfFunctions name =
    (n : ℕ) (b : Body) → n < length r.functions → body_at r n ≡ Some b → b.name ≡ name → slice_get F.returns n ≡ slice_get G.returns n
AreSame r F G OfMethods name =
    (n : ℕ) (b : Body) → length r.functions ≤ n → body_at r n ≡ Some b → b.name ≡ name → slice_get F.returns n ≡ slice_get G.returns n
AreSame r F G OfProperties name =
    (q : ℕ) → slice_get (property_names r) q ≡ Some name → slice_get F.props q ≡ slice_get G.props q

-- what a body gives depends on the facts of its dependencies alone
abbrev pub ResultsDependOnNames : Type 0
ResultsDependOnNames =
    (r : Linked) (F G : Facts) (n : ℕ) (x : BodyResult)
    → ((d : Dependency) → Contains (dependencies r n) d → AreSame r F G d.kind d.name) → IsResult r F n x → IsResult r G n x
