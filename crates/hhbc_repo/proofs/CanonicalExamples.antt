-- Canonical texts and canonical parts, computed by the definitions.
use Rattle.std.specs.Fmt.{digits}
use Rattle.std.proofs.Common.{◌≡◌, ℕ, List, [], ◌∷◌, ◌++◌, Some, None, true, false, pos, codes, refl}
use Rattle.hack_values.specs.declared.cell.Cell.TheVariants as cells
use Rattle.hhbc_ops.specs.declared.op.Op.{Op}
use Rattle.hhbc_ops.specs.declared.op.Op.TheVariants as ops
use Rattle.hhbc_ops.specs.declared.words.IncDecOp.TheVariants as changes
use Rattle.type_lattice.specs.declared.types.IntPart.TheVariants as ints
use Rattle.type_lattice.specs.declared.types.ObjPart.TheVariants as objs
use Rattle.type_lattice.specs.Types.{never, never_leaf, cell_leaf, key_leaf}
use Rattle.hhbc_repo.specs.declared.body.Body.{Body}
use Rattle.hhbc_repo.specs.declared.body.Position.{Position}
use Rattle.hhbc_repo.specs.declared.body.Region.{Region}
use Rattle.hhbc_repo.specs.declared.body.Assert.TheVariants as asserts
use Rattle.hhbc_repo.specs.declared.code.Code.TheVariants as forms
use Rattle.hhbc_repo.specs.declared.code.Imm.{Imm}
use Rattle.hhbc_repo.specs.declared.code.Imm.TheVariants as imms
use Rattle.hhbc_repo.specs.declared.code.Base.TheVariants as bases
use Rattle.hhbc_repo.specs.declared.code.MemberKey.TheVariants as keys
use Rattle.hhbc_repo.specs.declared.code.Final.TheVariants as finals
use Rattle.hhbc_repo.specs.CanonicalText.{canonical_text}
use Rattle.hhbc_repo.specs.Linked.{Linked}
use Rattle.hhbc_repo.specs.WrittenTypes.{canonical_type}

position : Op → List Imm → Position
position op imms = record { asserts = []; code = forms.Plain (record { op = op; imms = imms }) }

-- a function
called : List ℕ → List Position → List Region → Body
called name positions regions = record { name = name; params = 0; locals = []; iters = 0; stated = None; positions = positions; regions = regions }

function : Body → Linked
function b = record { functions = b ∷ []; classes = [] }

empty : canonical_text (record { functions = []; classes = [] }) ≡ codes ".profile 1;\n"
unfolding digits
empty = refl

jumping : canonical_text (function (called (codes "main") (position ops.Jmp (imms.Pos 1 ∷ []) ∷ position ops.String (imms.Str (codes "A\n") ∷ []) ∷ position ops.RetC [] ∷ []) []))
    ≡ codes ".profile 1;\n.function main() {\n  Jmp L0\n  L0:\n  String \"A\\n\"\n  RetC\n}\n"
unfolding digits position called function
jumping = refl

-- an iterator in a try body, whose catch body ends before a label
iterating : Body
iterating = record {
  name = codes "main";
  params = 1;
  locals = codes "c" ∷ codes "v" ∷ [];
  iters = 1;
  stated = None;
  positions = position ops.CGetL (imms.Local 0 ∷ [])
      ∷ position ops.IterInit (imms.Iter 0 ∷ imms.IterLocals None 1 ∷ imms.Pos 7 ∷ [])
      ∷ position ops.CGetL (imms.Local 1 ∷ [])
      ∷ position ops.PopC []
      ∷ position ops.IterNext (imms.Iter 0 ∷ imms.IterLocals None 1 ∷ imms.Pos 2 ∷ [])
      ∷ position ops.Jmp (imms.Pos 7 ∷ [])
      ∷ position ops.PopC []
      ∷ position ops.Null []
      ∷ position ops.RetC []
      ∷ [];
  regions = record { first = 2; mid = 6; last = 7 } ∷ [];
}

nested : canonical_text (function iterating)
    ≡ codes ".profile 1;\n.function main($c) {\n  .declvars $v;\n  .numiters 1;\n  CGetL $c\n  IterInit 0 V:$v L1\n" ++
    (codes "  .try {\n    L0:\n    CGetL $v\n    PopC\n    IterNext 0 V:$v L0\n    Jmp L1\n" ++
    codes "  } .catch {\n    PopC\n  }\n  L1:\n  Null\n  RetC\n}\n")
unfolding digits position function iterating
nested = refl

-- a class with a constant, a property and a method of a member sequence with an assertion
counter : Linked
counter = record {
  functions = [];
  classes = record {
    name = codes "Counter";
    parent = Some 0;
    consts = record { name = codes "K"; value = cells.Int (pos 5) } ∷ [];
    props = record { name = codes "counts"; initial = cells.Dict []; stated = Some (record never { dict = Some (key_leaf, cell_leaf) }) } ∷ [];
    methods = record {
      name = codes "add";
      params = 2;
      locals = codes "k" ∷ codes "o" ∷ [];
      iters = 0;
      stated = Some (record never { int = ints.Any });
      positions = record {
        asserts = asserts.Local 1 (record never { obj = objs.Sub 6 }) ∷ [];
        code = forms.Member (record { base = bases.This; dims = keys.PropName (codes "counts") ∷ []; last = finals.IncDec 0 changes.PreInc (keys.ElemLocal 0) });
      } ∷ position ops.RetC [] ∷ [];
      regions = [];
    } ∷ [];
  } ∷ record { name = codes "Empty"; parent = None; consts = []; props = []; methods = [] } ∷ [];
}

members : canonical_text counter
    ≡ codes ".profile 1;\n.class Counter extends Exception {\n  .const K = 5;\n  .property counts = Dict .holds Dict;\n" ++
    (codes "  .method add($k, $o) .returns Int {\n    AssertRATL $o Obj<=Counter\n    BaseH\n    Dim PT:counts\n" ++
    codes "    IncDecM 0 PreInc EL:$k\n    RetC\n  }\n}\n.class Empty {\n}\n")
unfolding digits position counter
members = refl

-- switches, and operands that aren't names
switching : Body
switching = called (codes "s") (
    position ops.Switch (imms.Int (pos 0) ∷ imms.Arms (record { text = None; target = 1 } ∷ record { text = None; target = 0 } ∷ []) ∷ [])
    ∷ position ops.SSwitch (imms.Arms (record { text = Some (codes "a"); target = 2 } ∷ record { text = None; target = 0 } ∷ []) ∷ [])
    ∷ position ops.VerifyRetTypeC (imms.Constraint (record never { uninit = false; null = true; vec = Some cell_leaf }) ∷ [])
    ∷ []) []

switches : canonical_text (function switching)
    ≡ codes ".profile 1;\n.function s() {\n  L0:\n  Switch 0 <L1 L0>\n  L1:\n  SSwitch <\"a\":L2, default:L0>\n  L2:\n  VerifyRetTypeC Null|Vec\n}\n"
unfolding digits position called function switching
switches = refl

-- the classes of a type stand in the order of its text
ordered : canonical_type (codes "A" ∷ codes "B" ∷ codes "C" ∷ [])
    (record never { obj = objs.Exact 2; vec = Some (record never_leaf { obj = objs.Sub 0 }); dict = Some (key_leaf, record never_leaf { obj = objs.Exact 1 }) })
    ≡ record {
      t = record never { obj = objs.Exact 0; vec = Some (record never_leaf { obj = objs.Sub 1 }); dict = Some (key_leaf, record never_leaf { obj = objs.Exact 2 }) };
      classes = codes "C" ∷ codes "A" ∷ codes "B" ∷ [];
    }
ordered = refl
