-- The lists that tokens spell have no more elements than there are tokens.
use Rattle.std.proofs.Common.{◌≡◌, ◌≤◌, ◌<◌, ℕ, zero, suc, ◌+◌, Bool, true, ◌&&◌, List, [], ◌∷◌, ◌++◌, map, length, Option, None, Some, refl, sym, ap, subst, ◌∙◌, arith, length-append, inl, inr, codes}
use Rattle.std.specs.List.{list_all, flat_map}
use Rattle.std.proofs.lemmas.Bool.{and_from, and_parts, lt-ltb}
use Rattle.std.proofs.lemmas.List.{length-map}
use Rattle.hhas_lex.specs.Tokens.{Token, Directive, Word, Mark}
use Rattle.hhbc_ops.specs.declared.words.ImmKind.{ImmKind}
use Rattle.hhbc_ops.specs.declared.words.ImmKind.TheVariants as kinds
use Rattle.hhbc_ops.specs.Ops.{kinds_of, op_name}
use Rattle.type_lattice.specs.InRange.{where_there}
use Rattle.hhbc_repo.specs.declared.repo.Const.{Const}
use Rattle.hhbc_repo.specs.declared.parts.ArmParts.{ArmParts}
use Rattle.hhbc_repo.specs.declared.parts.AssertParts.{AssertParts}
use Rattle.hhbc_repo.specs.declared.parts.AssertParts.TheVariants as claims
use Rattle.hhbc_repo.specs.declared.parts.BodyParts.{BodyParts}
use Rattle.hhbc_repo.specs.declared.parts.ClassParts.{ClassParts}
use Rattle.hhbc_repo.specs.declared.parts.CodeParts.{CodeParts}
use Rattle.hhbc_repo.specs.declared.parts.CodeParts.TheVariants as forms
use Rattle.hhbc_repo.specs.declared.parts.ImmParts.{ImmParts}
use Rattle.hhbc_repo.specs.declared.parts.ImmParts.TheVariants as imms
use Rattle.hhbc_repo.specs.declared.parts.ItemParts.{ItemParts}
use Rattle.hhbc_repo.specs.declared.parts.ItemParts.TheVariants as items
use Rattle.hhbc_repo.specs.declared.parts.FinalParts.{FinalParts}
use Rattle.hhbc_repo.specs.declared.parts.FinalParts.TheVariants as finals
use Rattle.hhbc_repo.specs.declared.parts.MemberKeyParts.{MemberKeyParts}
use Rattle.hhbc_repo.specs.declared.parts.PositionParts.{PositionParts}
use Rattle.hhbc_repo.specs.declared.parts.PropertyParts.{PropertyParts}
use Rattle.hhbc_repo.specs.declared.parts.TypeParts.{TypeParts}
use Rattle.hhbc_repo.specs.Languages.{Lang, Behind, Ended, Many, Perhaps, Separated}
use Rattle.hhbc_repo.specs.TypeSyntax.{Atom, Null, False, True, Bools, Int, OneInt, Str, OneStr, Obj, Exact, Sub, Vec, Dict, Keyset, AnAtom, Written, Never, Cell, Of, ALeaf, AKeyType, TypeAtom, Uninit, Plain, VecOf, DictOf, KeysetOf, ATypeAtom, WrittenType, NeverType, CellType, UninitCell, AtomsType, AWrittenType, AWrittenConstraint, atom_classes, classes_in, type_classes, type_of, constraint_of, AType, AConstraint}
use Rattle.hhbc_repo.specs.CodeSyntax.{AWord, ALocal, ADefault, AStringArm, Arms, StringArms, Operand, Operands, ADim, AFinal, AnArm, ACode}
use Rattle.hhbc_repo.specs.BodySyntax.{AnAssert, APosition, Items, Done, Label, Position, Try, ItemsOf, parts_of, Params, Returns, Declared, ABody}
use Rattle.hhbc_repo.specs.TextSyntax.{AConst, AProperty, Member, AsConst, AsProperty, AsMethod, AMember, consts_of, props_of, methods_of, AClass, Declaration, AsFunction, AsClass, ADeclaration, functions_of, classes_of}
use Rattle.hhbc_repo.specs.LinkFaults.{properties, property_names}
use Rattle.hhbc_repo.specs.LookUps.{total}
use Rattle.hhbc_repo.specs.Lengths.{fewer, type_parts_fewer, operand_parts_fewer, code_parts_fewer, assert_parts_fewer, position_parts_fewer, item_parts_fewer, body_parts_fewer, property_parts_fewer, class_parts_fewer, parts_fewer}
use Rattle.hhbc_repo.proofs.SpelledTypes.{all_both}

-- ---- numbers of tokens

both : (xs ys zs : List Token) → zs ≡ xs ++ ys → length zs ≡ length xs + length ys
both xs ys zs e = ap (λ (l : List Token). length l) e ∙ length-append xs ys

behind_more : {V : Type 0} {words : List Token} {A : Lang V} {ts : List Token} {v : V} (w : Behind words A ts v) → length ts ≡ length words + length w.rest
behind_more {words = words} {ts = ts} w = both words w.rest ts w.tokens

ended_more : {V : Type 0} {words : List Token} {A : Lang V} {ts : List Token} {v : V} (w : Ended A words ts v) → length ts ≡ length w.first + length words
ended_more {words = words} {ts = ts} w = both w.first words ts w.tokens

shorter : {A : Type 0} (n : ℕ) (xs : List A) (ts : List Token) → length xs ≤ length ts → length ts < n → fewer n xs ≡ true
shorter n xs ts h k = lt-ltb (length xs) n (omega (arith, h, k))

-- each value takes a token or more
abbrev Takes : {V : Type 0} → Lang V → Type 0
Takes {V} A = (ts : List Token) (v : V) → A ts v → 1 ≤ length ts

many_count : {V : Type 0} (A : Lang V) → Takes A → (ts : List Token) (vs : List V) → Many A ts vs → length vs ≤ length ts
many_count A h ts [] w = omega arith
many_count A h ts (v ∷ vs) w = let e = both w.0 w.1 ts w.4 in let a = h w.0 v w.2 in let b = many_count A h w.1 vs w.3 in omega (arith, e, a, b)

separated_count : {V : Type 0} (mark : ℕ) (A : Lang V) → Takes A → (ts : List Token) (vs : List V) → Separated mark A ts vs → length vs ≤ length ts
separated_count mark A h ts [] w = absurd w
separated_count mark A h ts (v ∷ []) w = h ts v w
separated_count mark A h ts (v ∷ u ∷ vs) w =
    let e = both w.0 (Mark mark ∷ w.1) ts w.4 in let a = h w.0 v w.2 in let b = separated_count mark A h w.1 (u ∷ vs) w.3 in omega (arith, e, a, b)

separated_classes : {V : Type 0} (mark : ℕ) (A : Lang V) (f : V → List (List ℕ)) → ((ts : List Token) (v : V) → A ts v → length (f v) ≤ length ts)
    → (ts : List Token) (vs : List V) → Separated mark A ts vs → length (flat_map f vs) ≤ length ts
separated_classes mark A f h ts [] w = absurd w
separated_classes mark A f h ts (v ∷ []) w = let a = h ts v w in let e = length-append (f v) [] in omega (arith, a, e)
separated_classes mark A f h ts (v ∷ u ∷ vs) w =
    let e = both w.0 (Mark mark ∷ w.1) ts w.4 in
    let a = h w.0 v w.2 in
    let b = separated_classes mark A f h w.1 (u ∷ vs) w.3 in
    let l = length-append (f v) (flat_map f (u ∷ vs)) in
    omega (arith, e, a, b, l)

-- ---- types

tokens_of : (ts : List Token) {us : List Token} → ts ≡ us → length ts ≡ length us
tokens_of ts e = ap (λ (l : List Token). length l) e

atom_count : (ts : List Token) (a : Atom) → AnAtom ts a → length (atom_classes a) ≤ length ts
atom_count ts (Exact c) w = let e = tokens_of ts w.0 in omega (arith, e)
atom_count ts (Sub c) w = let e = tokens_of ts w.0 in omega (arith, e)
atom_count ts Null w = omega arith
atom_count ts False w = omega arith
atom_count ts True w = omega arith
atom_count ts Bools w = omega arith
atom_count ts Int w = omega arith
atom_count ts (OneInt i) w = omega arith
atom_count ts Str w = omega arith
atom_count ts (OneStr s) w = omega arith
atom_count ts Obj w = omega arith
atom_count ts Vec w = omega arith
atom_count ts Dict w = omega arith
atom_count ts Keyset w = omega arith

leaf_count : (ts : List Token) (l : Written) → ALeaf ts l → length (classes_in l) ≤ length ts
leaf_count ts Never w = omega arith
leaf_count ts Cell w = omega arith
leaf_count ts (Of xs) w = separated_classes 124 AnAtom atom_classes atom_count ts xs w.0

key_count : (ts : List Token) (l : Written) → AKeyType ts l → length (classes_in l) ≤ length ts
key_count ts Never w = omega arith
key_count ts Cell w = absurd w
key_count ts (Of xs) w = separated_classes 124 AnAtom atom_classes atom_count ts xs w.0.0

type_atom_count : (ts : List Token) (a : TypeAtom) → ATypeAtom ts a → length (type_classes a) ≤ length ts
type_atom_count ts Uninit w = omega arith
type_atom_count ts (Plain a) w = atom_count ts a w
type_atom_count ts (VecOf leaf) w =
    let e = behind_more w in let f = ended_more w.word in let c = leaf_count w.word.first leaf w.word.word in omega (arith, e, f, c)
type_atom_count ts (DictOf key leaf) w =
    let b = w.word in
    let e = behind_more w in
    let f = both b.first b.second w.rest b.tokens in
    let k = ended_more b.left in
    let l = ended_more b.right in
    let c = key_count b.left.first key b.left.word in
    let d = leaf_count b.right.first leaf b.right.word in
    let a = length-append (classes_in key) (classes_in leaf) in
    omega (arith, e, f, k, l, c, d, a)
type_atom_count ts (KeysetOf key) w =
    let e = behind_more w in let f = ended_more w.word in let c = key_count w.word.first key w.word.word in omega (arith, e, f, c)

written_count : (ts : List Token) (t : WrittenType) → AWrittenType ts t → length (type_of t).classes ≤ length ts
written_count ts NeverType w = omega arith
written_count ts CellType w = omega arith
written_count ts UninitCell w = omega arith
written_count ts (AtomsType xs) w = separated_classes 124 ATypeAtom type_classes type_atom_count ts xs w.0

type_count : (ts : List Token) (t : TypeParts) → AType ts t → length t.classes ≤ length ts
type_count ts t w = subst (λ (u : TypeParts). length u.classes ≤ length ts) (sym w.is) (written_count ts w.value w.word)

plain_classes : (xs : List Atom) → flat_map type_classes (map Plain xs) ≡ flat_map atom_classes xs
plain_classes [] = refl
plain_classes (x ∷ xs) = ap (λ (l : List (List ℕ)). atom_classes x ++ l) (plain_classes xs)

broad_count : (ts : List Token) (t : Written) → AWrittenConstraint ts t → length (constraint_of t).classes ≤ length ts
broad_count ts Never w = absurd w
broad_count ts Cell w = omega arith
broad_count ts (Of xs) w =
    subst (λ (l : List (List ℕ)). length l ≤ length ts) (sym (plain_classes xs)) (separated_classes 124 AnAtom atom_classes atom_count ts xs w.0.0)

constraint_count : (ts : List Token) (t : TypeParts) → AConstraint ts t → length t.classes ≤ length ts
constraint_count ts t w = subst (λ (u : TypeParts). length u.classes ≤ length ts) (sym w.is) (broad_count ts w.value w.word)

one_token : {t : Token} (ts : List Token) → ts ≡ t ∷ [] → 1 ≤ length ts
one_token ts e = let l = tokens_of ts e in omega (arith, l)

atom_takes : (ts : List Token) (a : Atom) → AnAtom ts a → 1 ≤ length ts
atom_takes ts (Exact c) w = let e = tokens_of ts w.0 in omega (arith, e)
atom_takes ts (Sub c) w = let e = tokens_of ts w.0 in omega (arith, e)
atom_takes ts Null w = one_token ts w.0
atom_takes ts False w = one_token ts w.0
atom_takes ts True w = one_token ts w.0
atom_takes ts Bools w = one_token ts w.0
atom_takes ts Int w = one_token ts w.0
atom_takes ts (OneInt i) w = let e = tokens_of ts w.0 in omega (arith, e)
atom_takes ts Str w = one_token ts w.0
atom_takes ts (OneStr s) w = let e = tokens_of ts w.0 in omega (arith, e)
atom_takes ts Obj w = one_token ts w.0
atom_takes ts Vec w = one_token ts w.0
atom_takes ts Dict w = one_token ts w.0
atom_takes ts Keyset w = one_token ts w.0

atoms_take : (ts : List Token) (xs : List Atom) → Separated 124 AnAtom ts xs → 1 ≤ length ts
atoms_take ts [] w = absurd w
atoms_take ts (x ∷ []) w = atom_takes ts x w
atoms_take ts (x ∷ y ∷ xs) w = let e = both w.0 (Mark 124 ∷ w.1) ts w.4 in let a = atom_takes w.0 x w.2 in omega (arith, e, a)

broad_takes : (ts : List Token) (t : Written) → AWrittenConstraint ts t → 1 ≤ length ts
broad_takes ts Never w = absurd w
broad_takes ts Cell w = one_token ts w
broad_takes ts (Of xs) w = atoms_take ts xs w.0.0

-- ---- operands

arms_count : (ts : List Token) (xs : List ArmParts) → Arms ts xs → length xs ≤ length ts
arms_count ts [] w = absurd w
arms_count ts (a ∷ more) w = many_count AnArm (λ us b v. let e = tokens_of us v.0.0 in omega (arith, e)) ts (a ∷ more) w

string_arms_count : (ts : List Token) (xs : List ArmParts) → StringArms ts xs → length xs ≤ length ts
string_arms_count ts [] w = absurd w
string_arms_count ts (a ∷ []) w = let e = behind_more w.0 in omega (arith, e)
string_arms_count ts (a ∷ b ∷ more) w =
    let e = both w.0 w.1 ts w.4 in let f = behind_more w.2.1.1 in let r = string_arms_count w.1 (b ∷ more) w.3 in omega (arith, e, f, r)

operand_takes : (k : ImmKind) (ts : List Token) (m : ImmParts) → Operand k ts m → 1 ≤ length ts
operand_takes kinds.Int ts (imms.Int i) w = one_token ts w
operand_takes kinds.Count ts (imms.Count n) w = one_token ts w.0
operand_takes kinds.Str ts (imms.Str s) w = one_token ts w
operand_takes kinds.Name ts (imms.Name n) w = one_token ts w
operand_takes kinds.Local ts (imms.Local n) w = one_token ts w
operand_takes kinds.Iter ts (imms.Iter n) w = one_token ts w.0
operand_takes kinds.Label ts (imms.Pos n) w = one_token ts w.0
operand_takes kinds.Class ts (imms.Class n) w = one_token ts w
operand_takes kinds.IncDec ts (imms.IncDec op) w = one_token ts w
operand_takes kinds.SetOp ts (imms.SetOp op) w = one_token ts w
operand_takes kinds.IsType ts (imms.IsType op) w = one_token ts w
operand_takes kinds.Constraint ts (imms.Constraint t) w = broad_takes ts w.value w.word
operand_takes kinds.Switch ts (imms.Arms arms) w = let e = behind_more w in omega (arith, e)
operand_takes kinds.SSwitch ts (imms.Arms arms) w = let e = behind_more w in omega (arith, e)
operand_takes kinds.IterLocals ts (imms.IterLocals k v) w =
    let e = both w.first w.second ts w.tokens in let f = behind_more w.right in omega (arith, e, f)
operand_takes _ ts _ w = absurd w

operands_count : (ks : List ImmKind) (ts : List Token) (ms : List ImmParts) → Operands ks ts ms → length ms ≤ length ts
operands_count [] ts [] w = omega arith
operands_count [] ts (m ∷ ms) w = absurd w
operands_count (k ∷ ks) ts [] w = absurd w
operands_count (k ∷ ks) ts (m ∷ ms) w = let e = both w.0 w.1 ts w.4 in let a = operand_takes k w.0 m w.2 in let b = operands_count ks w.1 ms w.3 in omega (arith, e, a, b)

-- ---- members, declarations and finals take tokens

final_takes : (ts : List Token) (f : FinalParts) → AFinal ts f → 1 ≤ length ts
final_takes ts (finals.Query n mode k) w = let e = behind_more w in omega (arith, e)
final_takes ts (finals.Set n k) w = let e = behind_more w in omega (arith, e)
final_takes ts (finals.SetOp n op k) w = let e = behind_more w in omega (arith, e)
final_takes ts (finals.IncDec n op k) w = let e = behind_more w in omega (arith, e)
final_takes ts (finals.Unset n k) w = let e = behind_more w in omega (arith, e)

member_takes : (ts : List Token) (m : Member) → AMember ts m → 1 ≤ length ts
member_takes ts (AsConst c) w = let e = behind_more w in omega (arith, e)
member_takes ts (AsProperty p) w = let e = behind_more w in omega (arith, e)
member_takes ts (AsMethod b) w = let e = behind_more w in omega (arith, e)

declaration_takes : (ts : List Token) (d : Declaration) → ADeclaration ts d → 1 ≤ length ts
declaration_takes ts (AsFunction b) w = let e = behind_more w in omega (arith, e)
declaration_takes ts (AsClass c) w = let e = behind_more w.word in omega (arith, e)

-- members are constants, properties and methods
kinds_count : (ms : List Member) → length (consts_of ms) + (length (props_of ms) + length (methods_of ms)) ≡ length ms
kinds_count [] = refl
kinds_count (AsConst c ∷ ms) = let e = kinds_count ms in omega (arith, e)
kinds_count (AsProperty p ∷ ms) = let e = kinds_count ms in omega (arith, e)
kinds_count (AsMethod b ∷ ms) = let e = kinds_count ms in omega (arith, e)

declared_count : (ds : List Declaration) → length (functions_of ds) + length (classes_of ds) ≡ length ds
declared_count [] = refl
declared_count (AsFunction b ∷ ds) = let e = declared_count ds in omega (arith, e)
declared_count (AsClass c ∷ ds) = let e = declared_count ds in omega (arith, e)

-- the tokens of a class's members
members_in : (ts : List Token) (c : ClassParts) (w : AClass ts c) → (us : List Token) × (Many AMember us w.members) × (length us < length ts)
members_in ts c w =
    let k = w.word in
    let b = k.word in
    let p = b.right in
    let m = p.right in
    let e1 = behind_more k in
    let e2 = both b.first b.second k.rest b.tokens in
    let e3 = both p.first p.second b.second p.tokens in
    let e4 = behind_more m in
    let e5 = ended_more m.word in
    (m.word.first, m.word.word, omega (arith, e1, e2, e3, e4, e5))

-- so do all properties, with the one of Exception
properties_count : (ts : List Token) (ds : List Declaration) → Many ADeclaration ts ds → total (map property_names (classes_of ds)) ≤ length ts
properties_count ts [] w = omega arith
properties_count ts (AsFunction b ∷ ds) w = let e = both w.0 w.1 ts w.4 in let k = properties_count w.1 ds w.3 in omega (arith, e, k)
properties_count ts (AsClass c ∷ ds) w =
    let e = both w.0 w.1 ts w.4 in
    let k = properties_count w.1 ds w.3 in
    let m = members_in w.0 c w.2 in
    let few = m.2 in
    let count = many_count AMember member_takes m.0 w.2.members m.1 in
    let kinds = kinds_count w.2.members in
    let own = length-map c.props (λ (p : PropertyParts). p.name) in
    let are = ap (λ (ps : List PropertyParts). length ps) w.2.props in
    omega (arith, e, k, few, count, kinds, own, are)

pub properties_few : (n : ℕ) (ts : List Token) (ds : List Declaration) → Many ADeclaration ts ds → length ts + 2 < n
    → total (properties (record { functions = functions_of ds; classes = classes_of ds })) + 1 < n
properties_few n ts ds w h = let k = properties_count ts ds w in omega (arith, k, h)

module _ (n : ℕ) where
  operand_few : (k : ImmKind) (ts : List Token) (m : ImmParts) → Operand k ts m → length ts < n → operand_parts_fewer n m ≡ true
  operand_few kinds.Int ts (imms.Int i) w h = refl
  operand_few kinds.Count ts (imms.Count c) w h = refl
  operand_few kinds.Str ts (imms.Str s) w h = refl
  operand_few kinds.Name ts (imms.Name x) w h = refl
  operand_few kinds.Local ts (imms.Local x) w h = refl
  operand_few kinds.Iter ts (imms.Iter i) w h = refl
  operand_few kinds.Label ts (imms.Pos x) w h = refl
  operand_few kinds.Class ts (imms.Class x) w h = refl
  operand_few kinds.IncDec ts (imms.IncDec op) w h = refl
  operand_few kinds.SetOp ts (imms.SetOp op) w h = refl
  operand_few kinds.IsType ts (imms.IsType op) w h = refl
  operand_few kinds.Constraint ts (imms.Constraint t) w h = shorter n t.classes ts (constraint_count ts t w) h
  operand_few kinds.Switch ts (imms.Arms arms) w h =
      let e = behind_more w in let f = ended_more w.word in
      shorter n arms w.word.first (arms_count w.word.first arms w.word.word) (omega (arith, e, f, h))
  operand_few kinds.SSwitch ts (imms.Arms arms) w h =
      let e = behind_more w in let f = ended_more w.word in
      shorter n arms w.word.first (string_arms_count w.word.first arms w.word.word) (omega (arith, e, f, h))
  operand_few kinds.IterLocals ts (imms.IterLocals k v) w h = refl
  operand_few _ ts _ w h = absurd w

  operands_few : (ks : List ImmKind) (ts : List Token) (ms : List ImmParts) → Operands ks ts ms → length ts < n → list_all (operand_parts_fewer n) ms ≡ true
  operands_few [] ts [] w h = refl
  operands_few [] ts (m ∷ ms) w h = absurd w
  operands_few (k ∷ ks) ts [] w h = absurd w
  operands_few (k ∷ ks) ts (m ∷ ms) w h =
      let e = both w.0 w.1 ts w.4 in
      and_from (operand_parts_fewer n m) (list_all (operand_parts_fewer n) ms) (operand_few k w.0 m w.2 (omega (arith, e, h))) (operands_few ks w.1 ms w.3 (omega (arith, e, h)))

  many_few : {V : Type 0} (A : Lang V) (test : V → Bool) → ((ts : List Token) (v : V) → A ts v → length ts < n → test v ≡ true)
      → (ts : List Token) (vs : List V) → Many A ts vs → length ts < n → list_all test vs ≡ true
  many_few A test each ts [] w h = refl
  many_few A test each ts (v ∷ vs) w h =
      let e = both w.0 w.1 ts w.4 in
      and_from (test v) (list_all test vs) (each w.0 v w.2 (omega (arith, e, h))) (many_few A test each w.1 vs w.3 (omega (arith, e, h)))

  -- ---- codes

  code_few : (ts : List Token) (c : CodeParts) → ACode ts c → length ts < n → code_parts_fewer n c ≡ true
  code_few ts (forms.Plain i) w h =
      let e = behind_more w in
      let k : length w.rest < n = omega (arith, e, h) in
      and_from (fewer n i.imms) (list_all (operand_parts_fewer n) i.imms) (shorter n i.imms w.rest (operands_count (kinds_of i.op) w.rest i.imms w.word) k) (operands_few (kinds_of i.op) w.rest i.imms w.word k)
  code_few ts (forms.Member m) w h =
      let b = w.word in
      let e = both b.first b.second ts b.tokens in
      let f = both b.right.first b.right.second b.second b.right.tokens in
      shorter n m.dims b.right.first (many_count ADim (λ us k v. let g = behind_more v in omega (arith, g)) b.right.first m.dims b.right.left) (omega (arith, e, f, h))

  assert_few : (ts : List Token) (a : AssertParts) → AnAssert ts a → length ts < n → assert_parts_fewer n a ≡ true
  assert_few ts (claims.Local name t) w h =
      let e = behind_more w in let f = both w.word.first w.word.second w.rest w.word.tokens in
      shorter n t.classes w.word.second (type_count w.word.second t w.word.right) (omega (arith, e, f, h))
  assert_few ts (claims.Stack i t) w h =
      let e = behind_more w in let f = both w.word.first w.word.second w.rest w.word.tokens in
      shorter n t.classes w.word.second (type_count w.word.second t w.word.right) (omega (arith, e, f, h))

  assert_takes : (ts : List Token) (a : AssertParts) → AnAssert ts a → 1 ≤ length ts
  assert_takes ts (claims.Local name t) w = let e = behind_more w in omega (arith, e)
  assert_takes ts (claims.Stack i t) w = let e = behind_more w in omega (arith, e)

  position_few : (ts : List Token) (p : PositionParts) → APosition ts p → length ts < n → position_parts_fewer n p ≡ true
  position_few ts p w h =
      let e = both w.first w.second ts w.tokens in
      let k : length w.first < n = omega (arith, e, h) in
      and_from (fewer n p.asserts) (list_all (assert_parts_fewer n) p.asserts && code_parts_fewer n p.code)
      (shorter n p.asserts w.first (many_count AnAssert assert_takes w.first p.asserts w.left) k)
      (and_from (list_all (assert_parts_fewer n) p.asserts) (code_parts_fewer n p.code) (many_few AnAssert (assert_parts_fewer n) assert_few w.first p.asserts w.left k) (code_few w.second p.code w.right (omega (arith, e, h))))

  code_takes : (ts : List Token) (c : CodeParts) → ACode ts c → 1 ≤ length ts
  code_takes ts (forms.Plain i) w = let e = behind_more w in omega (arith, e)
  code_takes ts (forms.Member m) w =
      let b = w.word in
      let e = both b.first b.second ts b.tokens in
      let f = both b.right.first b.right.second b.second b.right.tokens in
      let g = final_takes b.right.second m.last b.right.right in
      omega (arith, e, f, g)

  -- ---- items

  items_count : (ts : List Token) (is : Items) → ItemsOf ts is → length (parts_of is) ≤ length ts
  items_count ts Done w = omega arith
  items_count ts (Label x r) w = let e = tokens_of ts w.1.2 in let k = items_count w.1.0 r w.1.1 in omega (arith, e, k)
  items_count ts (Position p r) w =
      let e = both w.0 w.1 ts w.4 in
      let f = both w.2.first w.2.second w.0 w.2.tokens in
      let c = code_takes w.2.second p.code w.2.right in
      let k = items_count w.1 r w.3 in
      omega (arith, e, f, c, k)
  items_count ts (Try a b r) w =
      let v = w.2 in
      let e = tokens_of ts v.6 in
      let p = length-append v.0 (Mark 125 ∷ Directive (codes "catch") ∷ Mark 123 ∷ (v.1 ++ (Mark 125 ∷ v.2))) in
      let q = length-append v.1 (Mark 125 ∷ v.2) in
      let x = items_count v.0 a v.3 in
      let y = items_count v.1 b v.4 in
      let z = items_count v.2 r v.5 in
      let s = length-append (parts_of a) (items.Catch ∷ (parts_of b ++ (items.End ∷ parts_of r))) in
      let t = length-append (parts_of b) (items.End ∷ parts_of r) in
      omega (arith, e, p, q, x, y, z, s, t)

  items_few : (ts : List Token) (is : Items) → ItemsOf ts is → length ts < n → list_all (item_parts_fewer n) (parts_of is) ≡ true
  items_few ts Done w h = refl
  items_few ts (Label x r) w h = let e = tokens_of ts w.1.2 in items_few w.1.0 r w.1.1 (omega (arith, e, h))
  items_few ts (Position p r) w h =
      let e = both w.0 w.1 ts w.4 in
      and_from (position_parts_fewer n p) (list_all (item_parts_fewer n) (parts_of r)) (position_few w.0 p w.2 (omega (arith, e, h))) (items_few w.1 r w.3 (omega (arith, e, h)))
  items_few ts (Try a b r) w h =
      let v = w.2 in
      let e = tokens_of ts v.6 in
      let p = length-append v.0 (Mark 125 ∷ Directive (codes "catch") ∷ Mark 123 ∷ (v.1 ++ (Mark 125 ∷ v.2))) in
      let q = length-append v.1 (Mark 125 ∷ v.2) in
      let test = item_parts_fewer n in
      all_both test (parts_of a) (items.Catch ∷ (parts_of b ++ (items.End ∷ parts_of r))) (items_few v.0 a v.3 (omega (arith, e, p, q, h)))
      (all_both test (parts_of b) (items.End ∷ parts_of r) (items_few v.1 b v.4 (omega (arith, e, p, q, h))) (items_few v.2 r v.5 (omega (arith, e, p, q, h))))

  -- ---- bodies

  local_takes : (ts : List Token) (x : List ℕ) → ALocal ts x → 1 ≤ length ts
  local_takes ts x w = one_token ts w

  params_few : (ts : List Token) (xs : List (List ℕ)) → Params ts xs → length ts < n → fewer n xs ≡ true
  params_few ts [] w h = lt-ltb 0 n (omega (arith, h))
  params_few ts (x ∷ xs) w h =
      let e = behind_more w in let f = ended_more w.word in
      shorter n (x ∷ xs) w.word.first (separated_count 44 ALocal local_takes w.word.first (x ∷ xs) w.word.word) (omega (arith, e, f, h))

  locals_few : (ts : List Token) (xs : List (List ℕ)) → Declared ts xs → length ts < n → fewer n xs ≡ true
  locals_few ts [] w h = lt-ltb 0 n (omega (arith, h))
  locals_few ts (x ∷ xs) w h =
      let e = behind_more w in let f = ended_more w.word in
      shorter n (x ∷ xs) w.word.first (separated_count 44 ALocal local_takes w.word.first (x ∷ xs) w.word.word) (omega (arith, e, f, h))

  stated_few : (word : Token) (ts : List Token) (t : Option TypeParts) → Perhaps (Behind (word ∷ []) AType) ts t → length ts < n → where_there (type_parts_fewer n) t ≡ true
  stated_few word ts None w h = refl
  stated_few word ts (Some t) w h = let e = behind_more w in shorter n t.classes w.rest (type_count w.rest t w.word) (omega (arith, e, h))

  body_few : (ts : List Token) (b : BodyParts) → ABody ts b → length ts < n → body_parts_fewer n b ≡ true
  body_few ts b w h =
      let params = w.right in
      let returns = params.right in
      let inner = returns.right.word in
      let iters = inner.right in
      let items = iters.right in
      let e1 = both w.first w.second ts w.tokens in
      let e2 = both params.first params.second w.second params.tokens in
      let e3 = both returns.first returns.second params.second returns.tokens in
      let e4 = behind_more returns.right in
      let e5 = both inner.first inner.second returns.right.rest inner.tokens in
      let e6 = both iters.first iters.second inner.second iters.tokens in
      let e7 = ended_more items in
      let is = items.word in
      let few : length items.first < n = omega (arith, e1, e2, e3, e4, e5, e6, e7, h) in
      let all = list_all (item_parts_fewer n) b.items in
      let each : all ≡ true = ap (list_all (item_parts_fewer n)) is.parts ∙ items_few items.first is.nested is.word few in
      let count : fewer n b.items ≡ true = ap (fewer n) is.parts ∙ shorter n (parts_of is.nested) items.first (items_count items.first is.nested is.word) few in
      let stated = where_there (type_parts_fewer n) b.stated in
      and_from (fewer n b.params) (fewer n b.locals && (stated && (fewer n b.items && all))) (params_few params.first b.params params.left (omega (arith, e1, e2, h)))
      (and_from (fewer n b.locals) (stated && (fewer n b.items && all)) (locals_few inner.first b.locals inner.left (omega (arith, e1, e2, e3, e4, e5, h)))
      (and_from stated (fewer n b.items && all) (stated_few _ returns.first b.stated returns.left (omega (arith, e1, e2, e3, h))) (and_from (fewer n b.items) all count each)))

  -- ---- classes

  abbrev member_few : Member → Bool
  member_few (AsConst c) = true
  member_few (AsProperty p) = property_parts_fewer n p
  member_few (AsMethod b) = body_parts_fewer n b

  member_fits : (ts : List Token) (m : Member) → AMember ts m → length ts < n → member_few m ≡ true
  member_fits ts (AsConst c) w h = refl
  member_fits ts (AsProperty p) w h =
      let b = w.word.right.word.right.word in
      let e1 = behind_more w in
      let e2 = both w.word.first w.word.second w.rest w.word.tokens in
      let e3 = behind_more w.word.right in
      let m = w.word.right.word in
      let e4 = both m.first m.second w.word.right.rest m.tokens in
      let e5 = ended_more m.right in
      stated_few _ m.right.first p.stated m.right.word (omega (arith, e1, e2, e3, e4, e5, h))
  member_fits ts (AsMethod b) w h = let e = behind_more w in body_few w.rest b w.word (omega (arith, e, h))

  props_fit : (ms : List Member) → list_all member_few ms ≡ true → list_all (property_parts_fewer n) (props_of ms) ≡ true
  props_fit [] h = refl
  props_fit (AsConst c ∷ ms) h = props_fit ms h
  props_fit (AsProperty q ∷ ms) h =
      let p = and_parts (property_parts_fewer n q) (list_all member_few ms) h in and_from (property_parts_fewer n q) (list_all (property_parts_fewer n) (props_of ms)) p.0 (props_fit ms p.1)
  props_fit (AsMethod b ∷ ms) h = props_fit ms (and_parts (body_parts_fewer n b) (list_all member_few ms) h).1

  methods_fit : (ms : List Member) → list_all member_few ms ≡ true → list_all (body_parts_fewer n) (methods_of ms) ≡ true
  methods_fit [] h = refl
  methods_fit (AsConst c ∷ ms) h = methods_fit ms h
  methods_fit (AsProperty q ∷ ms) h = methods_fit ms (and_parts (property_parts_fewer n q) (list_all member_few ms) h).1
  methods_fit (AsMethod b ∷ ms) h =
      let p = and_parts (body_parts_fewer n b) (list_all member_few ms) h in and_from (body_parts_fewer n b) (list_all (body_parts_fewer n) (methods_of ms)) p.0 (methods_fit ms p.1)

  class_few : (ts : List Token) (c : ClassParts) → AClass ts c → length ts < n → class_parts_fewer n c ≡ true
  class_few ts c w h =
      let ms = w.members in
      let k = members_in ts c w in
      let few : length k.0 < n = let l = k.2 in omega (arith, l, h) in
      let count = many_count AMember member_takes k.0 ms k.1 in
      let all = many_few AMember member_few member_fits k.0 ms k.1 few in
      let kinds = kinds_count ms in
      let consts : fewer n c.consts ≡ true = ap (fewer n) w.consts ∙ lt-ltb (length (consts_of ms)) n (let x = kinds in omega (arith, x, count, few)) in
      let props : fewer n c.props ≡ true = ap (fewer n) w.props ∙ lt-ltb (length (props_of ms)) n (let x = kinds in omega (arith, x, count, few)) in
      let methods : fewer n c.methods ≡ true = ap (fewer n) w.methods ∙ lt-ltb (length (methods_of ms)) n (let x = kinds in omega (arith, x, count, few)) in
      let each_prop : list_all (property_parts_fewer n) c.props ≡ true = ap (list_all (property_parts_fewer n)) w.props ∙ props_fit ms all in
      let each_method : list_all (body_parts_fewer n) c.methods ≡ true = ap (list_all (body_parts_fewer n)) w.methods ∙ methods_fit ms all in
      and_from (fewer n c.consts) (fewer n c.props && (fewer n c.methods && (list_all (property_parts_fewer n) c.props && list_all (body_parts_fewer n) c.methods))) consts
      (and_from (fewer n c.props) (fewer n c.methods && (list_all (property_parts_fewer n) c.props && list_all (body_parts_fewer n) c.methods)) props
      (and_from (fewer n c.methods) (list_all (property_parts_fewer n) c.props && list_all (body_parts_fewer n) c.methods) methods
      (and_from (list_all (property_parts_fewer n) c.props) (list_all (body_parts_fewer n) c.methods) each_prop each_method)))

  -- ---- functions and classes

  functions_few : (ts : List Token) (ds : List Declaration) → Many ADeclaration ts ds → length ts < n → list_all (body_parts_fewer n) (functions_of ds) ≡ true
  functions_few ts [] w h = refl
  functions_few ts (AsFunction b ∷ ds) w h =
      let e = both w.0 w.1 ts w.4 in let f = behind_more w.2 in
      and_from (body_parts_fewer n b) (list_all (body_parts_fewer n) (functions_of ds)) (body_few w.2.rest b w.2.word (omega (arith, e, f, h))) (functions_few w.1 ds w.3 (omega (arith, e, h)))
  functions_few ts (AsClass c ∷ ds) w h = let e = both w.0 w.1 ts w.4 in functions_few w.1 ds w.3 (omega (arith, e, h))

  classes_few : (ts : List Token) (ds : List Declaration) → Many ADeclaration ts ds → length ts < n → list_all (class_parts_fewer n) (classes_of ds) ≡ true
  classes_few ts [] w h = refl
  classes_few ts (AsFunction b ∷ ds) w h = let e = both w.0 w.1 ts w.4 in classes_few w.1 ds w.3 (omega (arith, e, h))
  classes_few ts (AsClass c ∷ ds) w h =
      let e = both w.0 w.1 ts w.4 in
      and_from (class_parts_fewer n c) (list_all (class_parts_fewer n) (classes_of ds)) (class_few w.0 c w.2 (omega (arith, e, h))) (classes_few w.1 ds w.3 (omega (arith, e, h)))

  pub declared_few : (ts : List Token) (ds : List Declaration) → Many ADeclaration ts ds → length ts < n → parts_fewer n (record { functions = functions_of ds; classes = classes_of ds }) ≡ true
  declared_few ts ds w h =
      let count = many_count ADeclaration declaration_takes ts ds w in
      let kinds = declared_count ds in
      let fs = list_all (body_parts_fewer n) (functions_of ds) in
      let cs = list_all (class_parts_fewer n) (classes_of ds) in
      and_from (fewer n (functions_of ds)) (fewer n (classes_of ds) && (fs && cs)) (lt-ltb (length (functions_of ds)) n (omega (arith, kinds, count, h)))
      (and_from (fewer n (classes_of ds)) (fs && cs) (lt-ltb (length (classes_of ds)) n (omega (arith, kinds, count, h))) (and_from fs cs (functions_few ts ds w h) (classes_few ts ds w h)))
