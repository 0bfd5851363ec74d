-- Parts that tokens of a text spell fit.
use Rattle.std.proofs.Common.{◌≡◌, ℕ, Bool, true, false, not, ◌&&◌, ◌||◌, nat_le, List, [], ◌∷◌, ◌++◌, Option, Some, None, codes, refl, sym, ap, subst, ◌∙◌, append_assoc, inl, inr}
use Rattle.std.specs.List.{list_all, list_any}
use Rattle.std.proofs.lemmas.Bool.{and_from, and_parts, le-leb}
use Rattle.std.proofs.lemmas.List.{append-nil}
use Rattle.hhas_lex.specs.Tokens.{Token, Directive, Word, Local, Integer, Mark}
use Rattle.hhas_lex.specs.Tokens as tokens
use Rattle.hhas_lex.specs.Shape.{is_int64}
use Rattle.hhas_lex.specs.Spelling.{is_proper, is_string, is_word}
use Rattle.hack_values.specs.declared.cell.Cell.{Cell}
use Rattle.hack_values.specs.declared.cell.Cell.TheVariants as cells
use Rattle.hhbc_ops.specs.declared.words.ImmKind.{ImmKind}
use Rattle.hhbc_ops.specs.declared.words.ImmKind.TheVariants as kinds
use Rattle.hhbc_ops.specs.Ops.{kinds_of, op_name}
use Rattle.type_lattice.specs.InRange.{where_there}
use Rattle.hhbc_repo.specs.declared.repo.Const.{Const}
use Rattle.hhbc_repo.specs.declared.parts.ArmParts.{ArmParts}
use Rattle.hhbc_repo.specs.declared.parts.AssertParts.{AssertParts}
use Rattle.hhbc_repo.specs.declared.parts.AssertParts.TheVariants as claims
use Rattle.hhbc_repo.specs.declared.parts.BaseParts.{BaseParts}
use Rattle.hhbc_repo.specs.declared.parts.BaseParts.TheVariants as bases
use Rattle.hhbc_repo.specs.declared.parts.BodyParts.{BodyParts}
use Rattle.hhbc_repo.specs.declared.parts.ClassParts.{ClassParts}
use Rattle.hhbc_repo.specs.declared.parts.CodeParts.{CodeParts}
use Rattle.hhbc_repo.specs.declared.parts.CodeParts.TheVariants as forms
use Rattle.hhbc_repo.specs.declared.parts.FinalParts.{FinalParts}
use Rattle.hhbc_repo.specs.declared.parts.FinalParts.TheVariants as finals
use Rattle.hhbc_repo.specs.declared.parts.ImmParts.{ImmParts}
use Rattle.hhbc_repo.specs.declared.parts.ImmParts.TheVariants as imms
use Rattle.hhbc_repo.specs.declared.parts.ItemParts.{ItemParts}
use Rattle.hhbc_repo.specs.declared.parts.ItemParts.TheVariants as items
use Rattle.hhbc_repo.specs.declared.parts.MemberKeyParts.{MemberKeyParts}
use Rattle.hhbc_repo.specs.declared.parts.MemberKeyParts.TheVariants as keys
use Rattle.hhbc_repo.specs.declared.parts.MemberSeqParts.{MemberSeqParts}
use Rattle.hhbc_repo.specs.declared.parts.PositionParts.{PositionParts}
use Rattle.hhbc_repo.specs.declared.parts.PropertyParts.{PropertyParts}
use Rattle.hhbc_repo.specs.declared.parts.TypeParts.{TypeParts}
use Rattle.hhbc_repo.specs.Languages.{Lang, Many, Perhaps, Separated}
use Rattle.hhbc_repo.specs.CodeSyntax.{AWord, ALocal, AString, AnInteger, AnIndex, is_reserved, ALabel, AnArm, TextArm, ADefault, Arms, StringArms, IterLocals, Operand, Operands, ABase, AKey, is_append, is_nullsafe, QueryKey, SetKey, ChangeKey, ADim, AMode, ASetOp, AChange, AFinal, is_query, AMemberSeq, ACode}
use Rattle.hhbc_repo.specs.BodySyntax.{AnAssert, APosition, Items, Done, Label, Position, Try, has_code, ItemsOf, parts_of, AnItemList, Params, Returns, Declared, Iterators, Inner, ABody}
use Rattle.hhbc_repo.specs.TextSyntax.{AScalar, AnInitial, AConst, AProperty, Member, AsConst, AsProperty, AsMethod, AMember, consts_of, props_of, methods_of, AClass, Declaration, AsFunction, AsClass, ADeclaration, functions_of, classes_of}
use Rattle.hhbc_repo.specs.TypeSyntax.{AType}
use Rattle.hhbc_repo.specs.TypeFits.{type_fits}
use Rattle.hhbc_repo.specs.Fits.{is_index, is_label, has_no_text, has_text, arm_fits, text_arm_fits, arms_fit, text_arms_fit, operand_fits, operands_fit, base_fits, key_fits, query_key_fits, set_key_fits, change_key_fits, final_fits, member_fits, code_fits, assert_fits, position_fits, item_fits, Open, InTry, InCatch, nests, body_fits, scalar_fits, initial_fits, const_fits, property_fits, class_fits, parts_fit}
use Rattle.hhbc_repo.proofs.SpelledTypes.{AreProper, Passes, all_front, all_back, all_both, behind_passes, ended_passes, both_passes, separated_passes, a_type, a_constraint}

-- ---- single tokens

one : (t : Token) (ts : List Token) → ts ≡ t ∷ [] → AreProper ts → is_proper t ≡ true
one t ts e p = (and_parts (is_proper t) true (subst AreProper e p)).0

a_word : Passes AWord is_word
a_word = record { passes = λ ts w e p. one (Word w) ts e p }

a_local : Passes ALocal is_word
a_local = record { passes = λ ts w e p. one (Local w) ts e p }

a_string : Passes AString is_string
a_string = record { passes = λ ts s e p. one (tokens.Str s) ts e p }

an_integer : Passes AnInteger is_int64
an_integer = record { passes = λ ts i e p. one (Integer i) ts e p }

an_index : Passes AnIndex is_index
an_index = record { passes = λ ts n w p. le-leb n 254 w.1 }

not_reserved : (w : List ℕ) → is_word w ≡ true → is_reserved w ≡ false → is_label w ≡ true
not_reserved w h e = and_from (is_word w) (not (is_reserved w)) h (ap not e)

a_label : Passes ALabel is_label
a_label = record { passes = λ ts w h p. not_reserved w (one (Word w) ts h.0 p) h.1 }

-- any value passes
anything : {V : Type 0} (A : Lang V) → Passes A (λ v. true)
anything A = record { passes = λ ts v w p. refl }

perhaps_all : {V : Type 0} (A : Lang V) (test : V → Bool) → Passes A test → (ts : List Token) (o : Option V) → Perhaps A ts o → AreProper ts → where_there test o ≡ true
perhaps_all A test h ts None w p = refl
perhaps_all A test h ts (Some v) w p = h.passes ts v w p

perhaps_passes : {V : Type 0} (A : Lang V) (test : V → Bool) → Passes A test → Passes (Perhaps A) (where_there test)
perhaps_passes A test h = record { passes = perhaps_all A test h }

many_all : {V : Type 0} (A : Lang V) (test : V → Bool) → Passes A test → (ts : List Token) (vs : List V) → Many A ts vs → AreProper ts → list_all test vs ≡ true
many_all A test h ts [] w p = refl
many_all A test h ts (v ∷ vs) w p =
    let q = subst AreProper w.4 p in
    and_from (test v) (list_all test vs) (h.passes w.0 v w.2 (all_front is_proper w.0 w.1 q)) (many_all A test h w.1 vs w.3 (all_back is_proper w.0 w.1 q))

many_passes : {V : Type 0} (A : Lang V) (test : V → Bool) → Passes A test → Passes (Many A) (list_all test)
many_passes A test h = record { passes = many_all A test h }

-- ---- operands

textless : (o : Option (List ℕ)) → o ≡ None → has_no_text o ≡ true
textless o e = ap has_no_text e

an_arm : Passes AnArm arm_fits
an_arm = record { passes = λ ts a h p. and_from (is_label a.target) (has_no_text a.text) (a_label.passes ts a.target h.0 p) (textless a.text h.1) }

a_default : Passes ADefault arm_fits
a_default = record {
  passes = λ ts a h p. and_from (is_label a.target) (has_no_text a.text) ((behind_passes _ ALabel is_label a_label).passes ts a.target h.0 p) (textless a.text h.1);
}

string_arm : (ts : List Token) (a : ArmParts) (s : List ℕ) → TextArm ts a s → AreProper ts → text_arm_fits a ≡ true
string_arm ts a s h p =
    let q = subst AreProper h.1.tokens p in
    let t = and_parts (is_string s) (list_all is_proper (Mark 58 ∷ h.1.rest)) q in
    and_from (is_label a.target) (has_text a.text)
    ((ended_passes _ ALabel is_label a_label).passes h.1.rest a.target h.1.word (all_back is_proper (tokens.Str s ∷ Mark 58 ∷ []) h.1.rest q))
    (ap has_text h.0 ∙ t.0)

arms_all : (ts : List Token) (arms : List ArmParts) → Arms ts arms → AreProper ts → arms_fit arms ≡ true
arms_all ts [] w p = absurd w
arms_all ts (a ∷ more) w p = many_all AnArm arm_fits an_arm ts (a ∷ more) w p

string_arms_all : (ts : List Token) (arms : List ArmParts) → StringArms ts arms → AreProper ts → text_arms_fit arms ≡ true
string_arms_all ts [] w p = absurd w
string_arms_all ts (a ∷ []) w p = a_default.passes ts a w p
string_arms_all ts (a ∷ b ∷ more) w p =
    let q = subst AreProper w.4 p in
    and_from (text_arm_fits a) (text_arms_fit (b ∷ more)) (string_arm w.0 a w.2.0 w.2.1 (all_front is_proper w.0 w.1 q))
    (string_arms_all w.1 (b ∷ more) w.3 (all_back is_proper w.0 w.1 q))

iter_locals : Passes IterLocals (λ p. where_there is_word p.0 && is_word p.1)
iter_locals =
    both_passes _ _ (where_there is_word) is_word
    (perhaps_passes _ is_word (behind_passes _ ALocal is_word a_local)) (behind_passes _ ALocal is_word a_local)

operand_all : (k : ImmKind) (ts : List Token) (m : ImmParts) → Operand k ts m → AreProper ts → operand_fits k m ≡ true
operand_all kinds.Int ts (imms.Int i) w p = an_integer.passes ts i w p
operand_all kinds.Count ts (imms.Count n) w p = an_index.passes ts n w p
operand_all kinds.Str ts (imms.Str s) w p = a_string.passes ts s w p
operand_all kinds.Name ts (imms.Name n) w p = a_word.passes ts n w p
operand_all kinds.Local ts (imms.Local n) w p = a_local.passes ts n w p
operand_all kinds.Iter ts (imms.Iter n) w p = an_index.passes ts n w p
operand_all kinds.Label ts (imms.Pos n) w p = a_label.passes ts n w p
operand_all kinds.Class ts (imms.Class n) w p = a_word.passes ts n w p
operand_all kinds.IncDec ts (imms.IncDec op) w p = refl
operand_all kinds.SetOp ts (imms.SetOp op) w p = refl
operand_all kinds.IsType ts (imms.IsType op) w p = refl
operand_all kinds.Constraint ts (imms.Constraint t) w p = a_constraint.passes ts t w p
operand_all kinds.Switch ts (imms.Arms arms) w p =
    (behind_passes _ _ arms_fit (ended_passes _ Arms arms_fit (record { passes = arms_all }))).passes ts arms w p
operand_all kinds.SSwitch ts (imms.Arms arms) w p =
    (behind_passes _ _ text_arms_fit (ended_passes _ StringArms text_arms_fit (record { passes = string_arms_all }))).passes ts arms w p
operand_all kinds.IterLocals ts (imms.IterLocals k v) w p = iter_locals.passes ts (k, v) w p
operand_all _ ts _ w p = absurd w

operands_all : (ks : List ImmKind) (ts : List Token) (ms : List ImmParts) → Operands ks ts ms → AreProper ts → operands_fit ks ms ≡ true
operands_all [] ts [] w p = refl
operands_all [] ts (m ∷ ms) w p = absurd w
operands_all (k ∷ ks) ts [] w p = absurd w
operands_all (k ∷ ks) ts (m ∷ ms) w p =
    let q = subst AreProper w.4 p in
    and_from (operand_fits k m) (operands_fit ks ms) (operand_all k w.0 m w.2 (all_front is_proper w.0 w.1 q)) (operands_all ks w.1 ms w.3 (all_back is_proper w.0 w.1 q))

-- ---- member sequences

base_all : (ts : List Token) (b : BaseParts) → ABase ts b → AreProper ts → base_fits b ≡ true
base_all ts (bases.Local n) w p = (behind_passes _ ALocal is_word a_local).passes ts n w p
base_all ts (bases.Stack n) w p = (behind_passes _ AnIndex is_index an_index).passes ts n w p
base_all ts bases.This w p = refl

key_all : (ts : List Token) (k : MemberKeyParts) → AKey ts k → AreProper ts → key_fits k ≡ true
key_all ts (keys.ElemStack n) w p = (behind_passes _ AnIndex is_index an_index).passes ts n w p
key_all ts (keys.ElemLocal n) w p = (behind_passes _ ALocal is_word a_local).passes ts n w p
key_all ts (keys.ElemText s) w p = (behind_passes _ AString is_string a_string).passes ts s w p
key_all ts (keys.ElemInt i) w p = (behind_passes _ AnInteger is_int64 an_integer).passes ts i w p
key_all ts (keys.PropStack n) w p = (behind_passes _ AnIndex is_index an_index).passes ts n w p
key_all ts (keys.PropLocal n) w p = (behind_passes _ ALocal is_word a_local).passes ts n w p
key_all ts (keys.PropName n) w p = (behind_passes _ AWord is_word a_word).passes ts n w p
key_all ts (keys.NullsafeName n) w p = (behind_passes _ AWord is_word a_word).passes ts n w p
key_all ts keys.Append w p = refl

query_key : Passes QueryKey query_key_fits
query_key = record { passes = λ ts k w p. and_from (key_fits k) (not (is_append k)) (key_all ts k w.0 p) (ap not w.1) }

set_key : Passes SetKey set_key_fits
set_key = record { passes = λ ts k w p. and_from (key_fits k) (not (is_nullsafe k)) (key_all ts k w.0 p) (ap not w.1) }

change_key : Passes ChangeKey change_key_fits
change_key = record {
  passes = λ ts k w p. and_from (key_fits k) (not (is_append k) && not (is_nullsafe k)) (key_all ts k w.0 p)
      (and_from (not (is_append k)) (not (is_nullsafe k)) (ap not w.1) (ap not w.2));
}

final_all : (ts : List Token) (f : FinalParts) → AFinal ts f → AreProper ts → final_fits f ≡ true
final_all ts (finals.Query n mode k) w p =
    (behind_passes _ _ _ (both_passes AnIndex _ is_index _ an_index (both_passes AMode QueryKey (λ m. true) query_key_fits (anything AMode) query_key))).passes ts (n, (mode, k)) w p
final_all ts (finals.Set n k) w p =
    (behind_passes _ _ _ (both_passes AnIndex SetKey is_index set_key_fits an_index set_key)).passes ts (n, k) w p
final_all ts (finals.SetOp n op k) w p =
    (behind_passes _ _ _ (both_passes AnIndex _ is_index _ an_index (both_passes ASetOp ChangeKey (λ m. true) change_key_fits (anything ASetOp) change_key))).passes ts (n, (op, k)) w p
final_all ts (finals.IncDec n op k) w p =
    (behind_passes _ _ _ (both_passes AnIndex _ is_index _ an_index (both_passes AChange ChangeKey (λ m. true) change_key_fits (anything AChange) change_key))).passes ts (n, (op, k)) w p
final_all ts (finals.Unset n k) w p =
    (behind_passes _ _ _ (both_passes AnIndex ChangeKey is_index change_key_fits an_index change_key)).passes ts (n, k) w p

implied : (a b : Bool) → (a ≡ true → b ≡ true) → not a || b ≡ true
implied true b h = h refl
implied false b h = refl

member_all : (ts : List Token) (m : MemberSeqParts) → AMemberSeq ts m → AreProper ts → member_fits m ≡ true
member_all ts m w p =
    let dims = list_all query_key_fits m.dims in
    let safe = not (list_any is_nullsafe m.dims) || is_query m.last in
    let dim = behind_passes _ QueryKey query_key_fits query_key in
    let q = (both_passes ABase _ base_fits _ (record { passes = base_all })
    (both_passes (Many ADim) AFinal (list_all query_key_fits) final_fits (many_passes ADim query_key_fits dim) (record { passes = final_all }))).passes ts (m.base, (m.dims, m.last)) w.word p in
    let b = and_parts (base_fits m.base) (dims && final_fits m.last) q in
    let d = and_parts dims (final_fits m.last) b.1 in
    and_from (base_fits m.base) (dims && (final_fits m.last && safe)) b.0
    (and_from dims (final_fits m.last && safe) d.0 (and_from (final_fits m.last) safe d.1 (implied (list_any is_nullsafe m.dims) (is_query m.last) w.nullsafe)))

code_all : (ts : List Token) (c : CodeParts) → ACode ts c → AreProper ts → code_fits c ≡ true
code_all ts (forms.Plain i) w p = operands_all (kinds_of i.op) w.rest i.imms w.word (all_back is_proper (Word (op_name i.op) ∷ []) w.rest (subst AreProper w.tokens p))
code_all ts (forms.Member m) w p = member_all ts m w p

-- ---- items

assert_all : (ts : List Token) (a : AssertParts) → AnAssert ts a → AreProper ts → assert_fits a ≡ true
assert_all ts (claims.Local name t) w p = (behind_passes _ _ _ (both_passes ALocal AType is_word type_fits a_local a_type)).passes ts (name, t) w p
assert_all ts (claims.Stack n t) w p = (behind_passes _ _ _ (both_passes AnIndex AType is_index type_fits an_index a_type)).passes ts (n, t) w p

position_all : (ts : List Token) (q : PositionParts) → APosition ts q → AreProper ts → position_fits q ≡ true
position_all ts q w p =
    (both_passes (Many AnAssert) ACode (list_all assert_fits) code_fits (many_passes AnAssert assert_fits (record { passes = assert_all })) (record { passes = code_all })).passes
    ts (q.asserts, q.code) w p

-- of a try body: what stands in it, in its catch body, and behind it
record InTryBody (x y z : List Token) : Type 0 where
  first : AreProper x
  second : AreProper y
  third : AreProper z

in_try : (x y z : List Token) → AreProper (Directive (codes "try") ∷ Mark 123 ∷ (x ++ (Mark 125 ∷ Directive (codes "catch") ∷ Mark 123 ∷ (y ++ (Mark 125 ∷ z))))) → InTryBody x y z
in_try x y z p =
    let behind = y ++ (Mark 125 ∷ z) in
    let caught = Mark 125 ∷ Directive (codes "catch") ∷ Mark 123 ∷ behind in
    let a = all_back is_proper (Directive (codes "try") ∷ Mark 123 ∷ []) (x ++ caught) p in
    let b = all_back is_proper (Mark 125 ∷ Directive (codes "catch") ∷ Mark 123 ∷ []) behind (all_back is_proper x caught a) in
    record {
      first = all_front is_proper x caught a;
      second = all_front is_proper y (Mark 125 ∷ z) b;
      third = all_back is_proper (Mark 125 ∷ []) z (all_back is_proper y (Mark 125 ∷ z) b);
    }

items_all : (ts : List Token) (i : Items) → ItemsOf ts i → AreProper ts → list_all item_fits (parts_of i) ≡ true
items_all ts Done w p = refl
items_all ts (Label l r) w p =
    let q = and_parts (is_word l) (list_all is_proper (Mark 58 ∷ w.1.0)) (subst AreProper w.1.2 p) in
    and_from (is_label l) (list_all item_fits (parts_of r)) (not_reserved l q.0 w.0) (items_all w.1.0 r w.1.1 (all_back is_proper (Mark 58 ∷ []) w.1.0 q.1))
items_all ts (Position q r) w p =
    let k = subst AreProper w.4 p in
    and_from (position_fits q) (list_all item_fits (parts_of r)) (position_all w.0 q w.2 (all_front is_proper w.0 w.1 k)) (items_all w.1 r w.3 (all_back is_proper w.0 w.1 k))
items_all ts (Try a b r) w p =
    let s = w.2 in
    let k = in_try s.0 s.1 s.2 (subst AreProper s.6 p) in
    all_both item_fits (parts_of a) (items.Catch ∷ (parts_of b ++ (items.End ∷ parts_of r))) (items_all s.0 a s.3 k.first)
    (all_both item_fits (parts_of b) (items.End ∷ parts_of r) (items_all s.1 b s.4 k.second) (items_all s.2 r s.5 k.third))

-- whether a code is still wanted behind items
abbrev after : Items → Bool → Bool
after Done wants = wants
after (Label l r) wants = after r wants
after (Position q r) wants = after r false
after (Try a b r) wants = after r false

after_none : (i : Items) → after i false ≡ false
after_none Done = refl
after_none (Label l r) = after_none r
after_none (Position q r) = after_none r
after_none (Try a b r) = after_none r

after_code : (i : Items) → has_code i ≡ true → after i true ≡ false
after_code Done h = absurd (cc)
after_code (Label l r) h = after_code r h
after_code (Position q r) h = after_none r
after_code (Try a b r) h = after_none r

nests_on : (ts : List Token) (i : Items) → ItemsOf ts i → (rest : List ItemParts) (os : List Open) (wants : Bool) → nests (parts_of i ++ rest) os wants ≡ nests rest os (after i wants)
nests_on ts Done w rest os wants = refl
nests_on ts (Label l r) w rest os wants = nests_on w.1.0 r w.1.1 rest os wants
nests_on ts (Position q r) w rest os wants = nests_on w.1 r w.3 rest os false
nests_on ts (Try a b r) w rest os wants =
    let s = w.2 in
    let last = items.End ∷ (parts_of r ++ rest) in
    let second = items.Catch ∷ (parts_of b ++ last) in
    let grouped : (parts_of a ++ (items.Catch ∷ (parts_of b ++ (items.End ∷ parts_of r)))) ++ rest ≡ parts_of a ++ second =
    append_assoc (parts_of a) (items.Catch ∷ (parts_of b ++ (items.End ∷ parts_of r))) rest
    ∙ ap (λ l. parts_of a ++ (items.Catch ∷ l)) (append_assoc (parts_of b) (items.End ∷ parts_of r) rest) in
    ap (λ l. nests l (InTry ∷ os) true) grouped
    ∙ nests_on s.0 a s.3 second (InTry ∷ os) true
    ∙ ap (λ c. nests second (InTry ∷ os) c) (after_code a w.0)
    ∙ nests_on s.1 b s.4 last (InCatch ∷ os) true
    ∙ ap (λ c. nests last (InCatch ∷ os) c) (after_code b w.1)
    ∙ nests_on s.2 r s.5 rest os false

abbrev items_fit : List ItemParts → Bool
items_fit is = nests is [] false && list_all item_fits is

item_list : Passes AnItemList items_fit
item_list = record {
  passes = λ ts is w p.
      let all = parts_of w.nested in
      ap items_fit w.parts ∙ and_from (nests all [] false) (list_all item_fits all)
      (ap (λ l. nests l [] false) (sym (append-nil all)) ∙ nests_on ts w.nested w.word [] [] false)
      (items_all ts w.nested w.word p);
}

-- ---- bodies

params_all : (ts : List Token) (xs : List (List ℕ)) → Params ts xs → AreProper ts → list_all is_word xs ≡ true
params_all ts [] w p = refl
params_all ts (x ∷ xs) w p =
    (behind_passes _ _ (list_all is_word) (ended_passes _ (Separated 44 ALocal) (list_all is_word) (separated_passes 44 ALocal is_word a_local))).passes ts (x ∷ xs) w p

declared_all : (ts : List Token) (xs : List (List ℕ)) → Declared ts xs → AreProper ts → list_all is_word xs ≡ true
declared_all ts [] w p = refl
declared_all ts (x ∷ xs) w p =
    (behind_passes _ _ (list_all is_word) (ended_passes _ (Separated 44 ALocal) (list_all is_word) (separated_passes 44 ALocal is_word a_local))).passes ts (x ∷ xs) w p

abbrev few_iterators : ℕ → Bool
few_iterators n = nat_le n 65535

iterators_all : (ts : List Token) (n : ℕ) → Iterators ts n → few_iterators n ≡ true
iterators_all ts n (inl w) = le-leb n 65535 w.word.word.1
iterators_all ts n (inr w) = ap few_iterators w.1

abbrev stated : Option TypeParts → Bool
stated o = where_there type_fits o

a_return : Passes Returns stated
a_return = perhaps_passes _ type_fits (behind_passes _ AType type_fits a_type)

inner_passes : Passes Inner (λ p. list_all is_word p.0 && (few_iterators p.1.0 && items_fit p.1.1))
inner_passes =
    both_passes Declared _ (list_all is_word) _ (record { passes = declared_all })
    (both_passes Iterators _ few_iterators items_fit (record { passes = λ ts n w p. iterators_all ts n w }) (ended_passes _ AnItemList items_fit item_list))

body_all : (ts : List Token) (b : BodyParts) → ABody ts b → AreProper ts → body_fits b ≡ true
body_all ts b w p =
    let name = is_word b.name in
    let params = list_all is_word b.params in
    let locals = list_all is_word b.locals in
    let iters = few_iterators b.iters in
    let items = items_fit b.items in
    let k = (both_passes AWord _ is_word _ a_word
    (both_passes Params _ (list_all is_word) _ (record { passes = params_all })
    (both_passes Returns _ stated _ a_return (behind_passes _ Inner _ inner_passes)))).passes ts (b.name, (b.params, (b.stated, (b.locals, (b.iters, b.items))))) w p in
    let x = and_parts name (params && (stated b.stated && (locals && (iters && items)))) k in
    let y = and_parts params (stated b.stated && (locals && (iters && items))) x.1 in
    let z = and_parts (stated b.stated) (locals && (iters && items)) y.1 in
    let u = and_parts locals (iters && items) z.1 in
    let v = and_parts iters items u.1 in
    and_from name (params && (locals && (iters && (stated b.stated && items)))) x.0
    (and_from params (locals && (iters && (stated b.stated && items))) y.0
    (and_from locals (iters && (stated b.stated && items)) u.0
    (and_from iters (stated b.stated && items) v.0 (and_from (stated b.stated) items z.0 v.1))))

a_body : Passes ABody body_fits
a_body = record { passes = body_all }

-- ---- members and classes

scalar_all : (ts : List Token) (c : Cell) → AScalar ts c → AreProper ts → scalar_fits c ≡ true
scalar_all ts cells.Null w p = refl
scalar_all ts (cells.Bool b) w p = refl
scalar_all ts (cells.Int i) w p = one (Integer i) ts w p
scalar_all ts (cells.Str s) w p = one (tokens.Str s) ts w p
scalar_all ts (cells.Vec items) w p = absurd w
scalar_all ts (cells.Dict entries) w p = absurd w
scalar_all ts (cells.Keyset elements) w p = absurd w
scalar_all ts (cells.Obj n) w p = absurd w

initial_all : (ts : List Token) (c : Cell) → AnInitial ts c → AreProper ts → initial_fits c ≡ true
initial_all ts (cells.Vec []) w p = refl
initial_all ts (cells.Vec (x ∷ xs)) w p = absurd w
initial_all ts (cells.Dict []) w p = refl
initial_all ts (cells.Dict (x ∷ xs)) w p = absurd w
initial_all ts (cells.Keyset []) w p = refl
initial_all ts (cells.Keyset (x ∷ xs)) w p = absurd w
initial_all ts cells.Null w p = refl
initial_all ts (cells.Bool b) w p = refl
initial_all ts (cells.Int i) w p = one (Integer i) ts w p
initial_all ts (cells.Str s) w p = one (tokens.Str s) ts w p
initial_all ts (cells.Obj n) w p = absurd w

const_all : (ts : List Token) (c : Const) → AConst ts c → AreProper ts → const_fits c ≡ true
const_all ts c w p =
    (behind_passes _ _ _ (both_passes AWord _ is_word scalar_fits a_word (behind_passes _ _ scalar_fits (ended_passes _ AScalar scalar_fits (record { passes = scalar_all }))))).passes ts (c.name, c.value) w p

property_all : (ts : List Token) (q : PropertyParts) → AProperty ts q → AreProper ts → property_fits q ≡ true
property_all ts q w p =
    (behind_passes _ _ _ (both_passes AWord _ is_word _ a_word (behind_passes _ _ _ (both_passes AnInitial _ initial_fits stated (record { passes = initial_all })
    (ended_passes _ _ stated (perhaps_passes _ type_fits (behind_passes _ AType type_fits a_type))))))).passes ts (q.name, (q.initial, q.stated)) w p

-- what stands in a class fits, each kind of it
abbrev member_passes : Member → Bool
member_passes (AsConst c) = const_fits c
member_passes (AsProperty q) = property_fits q
member_passes (AsMethod b) = body_fits b

member_fit : (ts : List Token) (m : Member) → AMember ts m → AreProper ts → member_passes m ≡ true
member_fit ts (AsConst c) w p = const_all ts c w p
member_fit ts (AsProperty q) w p = property_all ts q w p
member_fit ts (AsMethod b) w p = (behind_passes _ ABody body_fits a_body).passes ts b w p

consts_fit : (ms : List Member) → list_all member_passes ms ≡ true → list_all const_fits (consts_of ms) ≡ true
consts_fit [] h = refl
consts_fit (AsConst c ∷ ms) h = let p = and_parts (const_fits c) (list_all member_passes ms) h in and_from (const_fits c) (list_all const_fits (consts_of ms)) p.0 (consts_fit ms p.1)
consts_fit (AsProperty q ∷ ms) h = consts_fit ms (and_parts (property_fits q) (list_all member_passes ms) h).1
consts_fit (AsMethod b ∷ ms) h = consts_fit ms (and_parts (body_fits b) (list_all member_passes ms) h).1

props_fit : (ms : List Member) → list_all member_passes ms ≡ true → list_all property_fits (props_of ms) ≡ true
props_fit [] h = refl
props_fit (AsConst c ∷ ms) h = props_fit ms (and_parts (const_fits c) (list_all member_passes ms) h).1
props_fit (AsProperty q ∷ ms) h = let p = and_parts (property_fits q) (list_all member_passes ms) h in and_from (property_fits q) (list_all property_fits (props_of ms)) p.0 (props_fit ms p.1)
props_fit (AsMethod b ∷ ms) h = props_fit ms (and_parts (body_fits b) (list_all member_passes ms) h).1

methods_fit : (ms : List Member) → list_all member_passes ms ≡ true → list_all body_fits (methods_of ms) ≡ true
methods_fit [] h = refl
methods_fit (AsConst c ∷ ms) h = methods_fit ms (and_parts (const_fits c) (list_all member_passes ms) h).1
methods_fit (AsProperty q ∷ ms) h = methods_fit ms (and_parts (property_fits q) (list_all member_passes ms) h).1
methods_fit (AsMethod b ∷ ms) h = let p = and_parts (body_fits b) (list_all member_passes ms) h in and_from (body_fits b) (list_all body_fits (methods_of ms)) p.0 (methods_fit ms p.1)

class_all : (ts : List Token) (c : ClassParts) → AClass ts c → AreProper ts → class_fits c ≡ true
class_all ts c w p =
    let ms = w.members in
    let each = list_all member_passes ms in
    let consts = list_all const_fits c.consts in
    let props = list_all property_fits c.props in
    let methods = list_all body_fits c.methods in
    let q = (behind_passes _ _ _ (both_passes AWord _ is_word _ a_word (both_passes _ _ (where_there is_word) (list_all member_passes) (perhaps_passes _ is_word (behind_passes _ AWord is_word a_word))
    (behind_passes _ _ (list_all member_passes) (ended_passes _ (Many AMember) (list_all member_passes) (many_passes AMember member_passes (record { passes = member_fit }))))))).passes
    ts (c.name, (c.parent, ms)) w.word p in
    let x = and_parts (is_word c.name) (where_there is_word c.parent && each) q in
    let y = and_parts (where_there is_word c.parent) each x.1 in
    and_from (is_word c.name) (where_there is_word c.parent && (consts && (props && methods))) x.0
    (and_from (where_there is_word c.parent) (consts && (props && methods)) y.0
    (and_from consts (props && methods) (ap (list_all const_fits) w.consts ∙ consts_fit ms y.1)
    (and_from props methods (ap (list_all property_fits) w.props ∙ props_fit ms y.1) (ap (list_all body_fits) w.methods ∙ methods_fit ms y.1))))

-- ---- functions and classes

functions_fit : (ts : List Token) (ds : List Declaration) → Many ADeclaration ts ds → AreProper ts → list_all body_fits (functions_of ds) ≡ true
functions_fit ts [] w p = refl
functions_fit ts (AsFunction b ∷ ds) w p =
    let q = subst AreProper w.4 p in
    and_from (body_fits b) (list_all body_fits (functions_of ds)) ((behind_passes _ ABody body_fits a_body).passes w.0 b w.2 (all_front is_proper w.0 w.1 q))
    (functions_fit w.1 ds w.3 (all_back is_proper w.0 w.1 q))
functions_fit ts (AsClass c ∷ ds) w p = functions_fit w.1 ds w.3 (all_back is_proper w.0 w.1 (subst AreProper w.4 p))

classes_fit : (ts : List Token) (ds : List Declaration) → Many ADeclaration ts ds → AreProper ts → list_all class_fits (classes_of ds) ≡ true
classes_fit ts [] w p = refl
classes_fit ts (AsFunction b ∷ ds) w p = classes_fit w.1 ds w.3 (all_back is_proper w.0 w.1 (subst AreProper w.4 p))
classes_fit ts (AsClass c ∷ ds) w p =
    let q = subst AreProper w.4 p in
    and_from (class_fits c) (list_all class_fits (classes_of ds)) (class_all w.0 c w.2 (all_front is_proper w.0 w.1 q)) (classes_fit w.1 ds w.3 (all_back is_proper w.0 w.1 q))

pub declared_fit : (ts : List Token) (ds : List Declaration) → Many ADeclaration ts ds → AreProper ts → parts_fit (functions_of ds) (classes_of ds) ≡ true
declared_fit ts ds w p = and_from (list_all body_fits (functions_of ds)) (list_all class_fits (classes_of ds)) (functions_fit ts ds w p) (classes_fit ts ds w p)
