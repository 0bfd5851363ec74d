-- The lines of texts that have a fault of their own, of linking, or of shapes.
use Rattle.std.specs.Prelude.{ℕ, List, [], ◌∷◌, ◌++◌, slice_get, codes}
use Rattle.std.specs.Fmt.{decimal}
use Rattle.hhbc_repo.specs.declared.link_fault.LinkFault.{LinkFault}
use Rattle.hhbc_repo.specs.declared.link_fault.LinkKind.{LinkKind}
use Rattle.hhbc_repo.specs.declared.link_fault.LinkKind.TheVariants as kinds
use Rattle.hhbc_repo.specs.Linked.{Linked}
use Rattle.hhbc_repo.specs.Shapes.{ShapeKind, IsFirstFault}
use Rattle.hhbc_repo.specs.Shapes as shapes
use Rattle.type_lattice.specs.TypeText.{named}
use Rattle.hhbbc_top.specs.Report.{body_names}

-- with the place of the fault
abbrev pub bad_text : ℕ → List ℕ
bad_text at = codes "bad text at " ++ (decimal at ++ 10 ∷ [])

abbrev pub kind_name : LinkKind → List ℕ
kind_name kinds.DuplicateName = codes "DuplicateName"
kind_name kinds.UnknownName = codes "UnknownName"
kind_name kinds.ClassCycle = codes "ClassCycle"
kind_name kinds.ClassTooDeep = codes "ClassTooDeep"
kind_name kinds.DuplicateProperty = codes "DuplicateProperty"
kind_name kinds.WrongArity = codes "WrongArity"
kind_name kinds.UnknownLabel = codes "UnknownLabel"
kind_name kinds.DuplicateLabel = codes "DuplicateLabel"
kind_name kinds.OverLimit = codes "OverLimit"

-- "-" stands for no owner
abbrev pub owner_text : List ℕ → List ℕ
owner_text [] = 45 ∷ []
owner_text (b ∷ bs) = b ∷ bs

-- the number found, where the kind has one
abbrev pub found_text : LinkKind → ℕ → List ℕ
found_text kinds.WrongArity n = 32 ∷ decimal n
found_text kinds.OverLimit n = 32 ∷ decimal n
found_text _ n = []

-- kind, owner and name, and the number found
abbrev pub bad_link : LinkFault → List ℕ
bad_link f =
    codes "bad link "
    ++ (kind_name f.kind ++ (32 ∷ (owner_text f.owner ++ (32 ∷ (f.name ++ (found_text f.kind f.found ++ 10 ∷ []))))))

abbrev pub shape_kind_name : ShapeKind → List ℕ
shape_kind_name shapes.Underflow = codes "Underflow"
shape_kind_name shapes.WrongFlavour = codes "Flavour"
shape_kind_name shapes.DepthMismatch = codes "DepthMismatch"
shape_kind_name shapes.IteratorDead = codes "IteratorDead"
shape_kind_name shapes.IteratorLive = codes "IteratorLive"
shape_kind_name shapes.IteratorMismatch = codes "IteratorMismatch"
shape_kind_name shapes.FallsOff = codes "FallsOff"
shape_kind_name shapes.StackTooDeep = codes "StackTooDeep"
shape_kind_name shapes.TooManyCells = codes "TooManyCells"

-- a check of a position that fails, in a body of a repository
pub record ShapeFault : Type 0 where
  pub repo : Linked
  pub body : ℕ
  pub position : ℕ
  pub kind : ShapeKind

-- it is the first of its repository
abbrev pub IsFirst : ShapeFault → Type 0
IsFirst f = IsFirstFault f.repo f.body f.position f.kind

-- kind, body and position
abbrev pub bad_shape : ShapeFault → List ℕ
bad_shape f =
    codes "bad shape "
    ++ (shape_kind_name f.kind ++ (32 ∷ (named (slice_get (body_names f.repo) f.body) ++ (32 ∷ (decimal f.position ++ 10 ∷ [])))))
