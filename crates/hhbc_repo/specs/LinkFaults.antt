-- The checks of linking, in order, as the list of all that fail: the first fault is the first of the list.
use Rattle.std.specs.Prelude.{ℕ, zero, suc, max, Bool, false, not, nat_le, nat_lt, nat_eq, ◌==◌, List, [], ◌∷◌, ◌++◌, map, length, take, Option, Some, None, is_some, slice_get, if◌then◌else◌, codes}
use Rattle.std.specs.List.{flat_map, position, list_any}
use Rattle.std.specs.Cmp.Lexicographic.{pointwise}
use Rattle.std.specs.Fmt.{decimal}
use Rattle.type_lattice.specs.Classes.{Tree, parent_of, chain, has}
use Rattle.hhbc_ops.specs.declared.op.Op.{Op}
use Rattle.hhbc_ops.specs.declared.op.Op.TheVariants as ops
use Rattle.hhbc_repo.specs.declared.link_fault.LinkFault.{LinkFault}
use Rattle.hhbc_repo.specs.declared.link_fault.LinkKind.{LinkKind}
use Rattle.hhbc_repo.specs.declared.link_fault.LinkKind.TheVariants as kinds
use Rattle.hhbc_repo.specs.declared.parts.BodyParts.{BodyParts}
use Rattle.hhbc_repo.specs.declared.parts.ClassParts.{ClassParts}
use Rattle.hhbc_repo.specs.declared.parts.PropertyParts.{PropertyParts}
use Rattle.hhbc_repo.specs.declared.parts.TypeParts.{TypeParts}
use Rattle.hhbc_repo.specs.declared.parts.ItemParts.{ItemParts}
use Rattle.hhbc_repo.specs.declared.parts.ItemParts.TheVariants as items
use Rattle.hhbc_repo.specs.declared.parts.PositionParts.{PositionParts}
use Rattle.hhbc_repo.specs.declared.parts.AssertParts.{AssertParts}
use Rattle.hhbc_repo.specs.declared.parts.AssertParts.TheVariants as claims
use Rattle.hhbc_repo.specs.declared.parts.CodeParts.{CodeParts}
use Rattle.hhbc_repo.specs.declared.parts.CodeParts.TheVariants as forms
use Rattle.hhbc_repo.specs.declared.parts.ImmParts.{ImmParts}
use Rattle.hhbc_repo.specs.declared.parts.ImmParts.TheVariants as imms
use Rattle.hhbc_repo.specs.declared.parts.ArmParts.{ArmParts}
use Rattle.hhbc_repo.specs.declared.parts.BaseParts.{BaseParts}
use Rattle.hhbc_repo.specs.declared.parts.BaseParts.TheVariants as bases
use Rattle.hhbc_repo.specs.declared.parts.MemberKeyParts.{MemberKeyParts}
use Rattle.hhbc_repo.specs.declared.parts.MemberKeyParts.TheVariants as keys
use Rattle.hhbc_repo.specs.declared.parts.FinalParts.{FinalParts}
use Rattle.hhbc_repo.specs.declared.parts.FinalParts.TheVariants as finals
use Rattle.hhbc_repo.specs.declared.repo.Const.{Const}
use Rattle.hhbc_repo.specs.Bodies.{built_in_names, built_in_tree}

abbrev pub Name : Type 0
Name = List ℕ

abbrev pub is_name : Name → Name → Bool
is_name name other = pointwise nat_eq other name

-- whether the name is among these, and the place of the first that is
abbrev pub names : List Name → Name → Bool
names all name = list_any (is_name name) all

abbrev pub place_in : List Name → Name → Option ℕ
place_in all name = position (is_name name) all

-- what is linked
pub record Whole : Type 0 where
  pub functions : List BodyParts
  pub classes : List ClassParts

-- a fault, if the check fails; the number found is told of limits and counts alone
abbrev pub check : Bool → LinkKind → Name → Name → ℕ → List LinkFault
check passes kind owner name found = if passes then [] else record { kind = kind; owner = owner; name = name; found = found } ∷ []

abbrev pub known : Bool → Name → Name → List LinkFault
known is owner name = check is kinds.UnknownName owner name 0

abbrev pub within : ℕ → ℕ → Name → Name → List LinkFault
within limit count owner name = check (nat_le count limit) kinds.OverLimit owner name count

-- each of the names is unlike those before it
abbrev pub differ_from : LinkKind → Name → (Name → Name) → List Name → List Name → List LinkFault
differ_from kind owner spelled before [] = []
differ_from kind owner spelled before (name ∷ more) =
    check (not (names before name)) kind owner (spelled name) 0 ++ differ_from kind owner spelled (before ++ name ∷ []) more

abbrev pub as_it_is : Name → Name
as_it_is name = name

abbrev pub dollar : Name → Name
dollar name = 36 ∷ name

-- Classes by number. The built-in ones come first.

abbrev pub class_names : Whole → List Name
class_names w = built_in_names ++ map (λ (c : ClassParts). c.name) w.classes

-- the first class of a name
abbrev pub class_of : Whole → Name → Option ℕ
class_of w name = place_in (class_names w) name

abbrev pub parent_in : Whole → Option Name → Option ℕ
parent_in w None = None
parent_in w (Some name) = class_of w name

-- a parent that isn't there ends a chain
abbrev pub parents : Whole → Tree
parents w = built_in_tree ++ map (λ (c : ClassParts). parent_in w c.parent) w.classes

abbrev pub above : Tree → Option ℕ → List ℕ
above tree None = []
above tree (Some p) = chain tree p

-- the ancestors of a class, the nearest first
abbrev pub ancestors : Whole → ℕ → List ℕ
ancestors w c = above (parents w) (parent_of (parents w) c)

-- how many different numbers these are
abbrev pub different : List ℕ → ℕ
different [] = 0
different (c ∷ cs) = if has c cs then different cs else suc (different cs)

-- the names that each class declares; Exception has its message
abbrev pub constants : Whole → List (List Name)
constants w = map (λ (n : Name). []) built_in_names ++ map (λ (c : ClassParts). map (λ (k : Const). k.name) c.consts) w.classes

abbrev pub property_names : ClassParts → List Name
property_names c = map (λ (p : PropertyParts). p.name) c.props

abbrev pub properties : Whole → List (List Name)
properties w = ((codes "message" ∷ []) ∷ map (λ (n : Name). []) (take 5 built_in_names)) ++ map property_names w.classes

abbrev pub methods : Whole → List (List BodyParts)
methods w = map (λ (n : Name). []) built_in_names ++ map (λ (c : ClassParts). c.methods) w.classes

abbrev pub at_class : {A : Type 0} → Option (List A) → List A
at_class None = []
at_class (Some xs) = xs

-- what a class and its ancestors declare, the nearest first
abbrev pub along : {A : Type 0} → List (List A) → List ℕ → List A
along table cs = flat_map (λ c. at_class (slice_get table c)) cs

abbrev pub with_name : List BodyParts → Name → Option BodyParts
with_name [] name = None
with_name (b ∷ bs) name = if is_name name b.name then Some b else with_name bs name

-- Bodies

-- the names of the locals, parameters first
abbrev pub locals_of : BodyParts → List Name
locals_of b = b.params ++ b.locals

abbrev pub label_of : ItemParts → List Name
label_of (items.Label name) = name ∷ []
label_of _ = []

abbrev pub labels_of : BodyParts → List Name
labels_of b = flat_map label_of b.items

abbrev pub position_in : ItemParts → List PositionParts
position_in (items.Position p) = p ∷ []
position_in _ = []

abbrev pub positions_of : BodyParts → List PositionParts
positions_of b = flat_map position_in b.items

-- the most try and catch bodies that are open at one place, of which so many are open before these items
abbrev pub nesting_from : ℕ → List ItemParts → ℕ
nesting_from opened [] = opened
nesting_from opened (items.Try ∷ more) = max opened (nesting_from (suc opened) more)
nesting_from zero (items.End ∷ more) = nesting_from zero more
nesting_from (suc opened) (items.End ∷ more) = max (suc opened) (nesting_from opened more)
nesting_from opened (_ ∷ more) = nesting_from opened more

abbrev pub nesting : BodyParts → ℕ
nesting b = nesting_from 0 b.items

-- a body within its repository, and what it is called in faults
pub record Place : Type 0 where
  pub whole : Whole
  pub body : BodyParts
  pub owner : Name

abbrev pub local_faults : Place → Name → List LinkFault
local_faults p name = known (names (locals_of p.body) name) p.owner (dollar name)

abbrev pub label_faults : Place → Name → List LinkFault
label_faults p name = check (names (labels_of p.body) name) kinds.UnknownLabel p.owner name 0

abbrev pub class_faults : Whole → Name → Name → List LinkFault
class_faults w owner name = known (is_some (class_of w name)) owner name

-- the classes of a type, in the order of its text
abbrev pub type_faults : Whole → Name → TypeParts → List LinkFault
type_faults w owner t = flat_map (class_faults w owner) t.classes

abbrev pub stated_faults : Whole → Name → Option TypeParts → List LinkFault
stated_faults w owner None = []
stated_faults w owner (Some t) = type_faults w owner t

abbrev pub assert_faults : Place → AssertParts → List LinkFault
assert_faults p (claims.Local name t) = local_faults p name ++ type_faults p.whole p.owner t
assert_faults p (claims.Stack i t) = type_faults p.whole p.owner t

abbrev pub key_local : Place → Option Name → List LinkFault
key_local p None = []
key_local p (Some name) = local_faults p name

abbrev pub operand_faults : Place → ImmParts → List LinkFault
operand_faults p (imms.Local name) = local_faults p name
operand_faults p (imms.Iter i) = known (nat_lt i p.body.iters) p.owner (decimal i)
operand_faults p (imms.Pos name) = label_faults p name
operand_faults p (imms.Class name) = class_faults p.whole p.owner name
operand_faults p (imms.Constraint t) = type_faults p.whole p.owner t
operand_faults p (imms.Arms arms) = flat_map (λ (a : ArmParts). label_faults p a.target) arms
operand_faults p (imms.IterLocals key value) = key_local p key ++ local_faults p value
operand_faults p _ = []

-- a constant of a class: where the class isn't there, it is the class that is unknown
abbrev pub constant_faults : Place → Name → Name → Option ℕ → List LinkFault
constant_faults p name class None = known false p.owner class
constant_faults p name class (Some c) = known (names (along (constants p.whole) (chain (parents p.whole) c)) name) p.owner name

abbrev pub same_count : Place → Name → ℕ → BodyParts → List LinkFault
same_count p name count b = check (length b.params == count) kinds.WrongArity p.owner name count

abbrev pub method_in : Place → Name → ℕ → Option BodyParts → List LinkFault
method_in p name count None = known false p.owner name
method_in p name count (Some b) = same_count p name count b

abbrev pub method_faults : Place → Name → Name → ℕ → Option ℕ → List LinkFault
method_faults p name class count None = known false p.owner class
method_faults p name class count (Some c) = method_in p name count (with_name (along (methods p.whole) (chain (parents p.whole) c)) name)

-- a function that isn't there may be a native
abbrev pub function_faults : Place → Name → ℕ → Option BodyParts → List LinkFault
function_faults p name count None = []
function_faults p name count (Some b) = same_count p name count b

abbrev pub instruction_faults : Place → Op → List ImmParts → List LinkFault
instruction_faults p ops.ClsCnsD (imms.Name name ∷ imms.Class class ∷ []) = constant_faults p name class (class_of p.whole class)
instruction_faults p ops.FCallClsMethodD (imms.Count n ∷ imms.Name name ∷ imms.Class class ∷ []) = method_faults p name class n (class_of p.whole class)
instruction_faults p ops.FCallFuncD (imms.Count n ∷ imms.Name name ∷ []) = function_faults p name n (with_name p.whole.functions name)
instruction_faults p op is = flat_map (operand_faults p) is

abbrev pub key_faults : Place → MemberKeyParts → List LinkFault
key_faults p (keys.ElemLocal name) = local_faults p name
key_faults p (keys.PropLocal name) = local_faults p name
key_faults p _ = []

abbrev pub base_faults : Place → BaseParts → List LinkFault
base_faults p (bases.Local name) = local_faults p name
base_faults p _ = []

abbrev pub last_key : FinalParts → MemberKeyParts
last_key (finals.Query n mode key) = key
last_key (finals.Set n key) = key
last_key (finals.SetOp n op key) = key
last_key (finals.IncDec n op key) = key
last_key (finals.Unset n key) = key

abbrev pub code_faults : Place → CodeParts → List LinkFault
code_faults p (forms.Plain i) = instruction_faults p i.op i.imms
code_faults p (forms.Member m) = base_faults p m.base ++ (flat_map (key_faults p) m.dims ++ key_faults p (last_key m.last))

abbrev pub position_faults : Place → PositionParts → List LinkFault
position_faults p q = flat_map (assert_faults p) q.asserts ++ code_faults p q.code

abbrev pub limit_faults : Place → List LinkFault
limit_faults p =
    within 255 (length (locals_of p.body)) p.owner (codes "locals")
    ++ (within 32 p.body.iters p.owner (codes "iterators")
    ++ (within 65535 (length (positions_of p.body)) p.owner (codes "positions")
    ++ within 64 (nesting p.body) p.owner (codes "nesting")))

abbrev pub body_faults : Place → List LinkFault
body_faults p =
    limit_faults p
    ++ (differ_from kinds.DuplicateName p.owner dollar [] (locals_of p.body)
    ++ (differ_from kinds.DuplicateLabel p.owner as_it_is [] (labels_of p.body)
    ++ (stated_faults p.whole p.owner p.body.stated ++ flat_map (position_faults p) (positions_of p.body))))

-- Functions and classes, in order

abbrev pub function_places : Whole → List Place
function_places w = map (λ (b : BodyParts). record { whole = w; body = b; owner = b.name }) w.functions

abbrev pub method_places : Whole → ClassParts → List Place
method_places w c = map (λ (b : BodyParts). record { whole = w; body = b; owner = c.name ++ (codes "::" ++ b.name) }) c.methods

-- the bodies by number
abbrev pub places : Whole → List Place
places w = function_places w ++ flat_map (method_places w) w.classes

abbrev pub count_faults : Whole → List LinkFault
count_faults w = within 65535 (length (places w)) [] (codes "functions") ++ within 16384 (length w.classes) [] (codes "classes")

-- each function is called by its own name in its fault
abbrev pub repeated_functions : List Name → List BodyParts → List LinkFault
repeated_functions before [] = []
repeated_functions before (b ∷ bs) = check (not (names before b.name)) kinds.DuplicateName b.name b.name 0 ++ repeated_functions (before ++ b.name ∷ []) bs

abbrev pub parent_faults : Whole → Name → Option Name → List LinkFault
parent_faults w owner None = []
parent_faults w owner (Some name) = class_faults w owner name

-- the class of a number: its name, its parent, no cycle, and its depth
abbrev pub class_checks : Whole → ℕ → ClassParts → List LinkFault
class_checks w n c =
    check (not (names (take n (class_names w)) c.name)) kinds.DuplicateName c.name c.name 0
    ++ (parent_faults w c.name c.parent
    ++ (check (not (has n (ancestors w n))) kinds.ClassCycle c.name c.name 0
    ++ check (nat_le (different (chain (parents w) n)) 64) kinds.ClassTooDeep c.name c.name 0))

abbrev pub property_checks : Whole → Name → List Name → List PropertyParts → List LinkFault
property_checks w owner before [] = []
property_checks w owner before (p ∷ ps) =
    check (not (names before p.name)) kinds.DuplicateProperty owner p.name 0
    ++ (stated_faults w owner p.stated ++ property_checks w owner (before ++ p.name ∷ []) ps)

abbrev pub member_checks : Whole → ℕ → ClassParts → List LinkFault
member_checks w n c =
    differ_from kinds.DuplicateName c.name as_it_is [] (map (λ (k : Const). k.name) c.consts)
    ++ (property_checks w c.name (along (properties w) (ancestors w n)) c.props
    ++ differ_from kinds.DuplicateName c.name as_it_is [] (map (λ (b : BodyParts). b.name) c.methods))

-- of the classes from this number on
abbrev pub each_class : (ℕ → ClassParts → List LinkFault) → ℕ → List ClassParts → List LinkFault
each_class f n [] = []
each_class f n (c ∷ cs) = f n c ++ each_class f (suc n) cs

abbrev pub first_class : ℕ
first_class = 6

abbrev pub faults : Whole → List LinkFault
faults w =
    count_faults w
    ++ (repeated_functions [] w.functions
    ++ (each_class (class_checks w) first_class w.classes
    ++ (each_class (member_checks w) first_class w.classes
    ++ flat_map body_faults (places w))))
