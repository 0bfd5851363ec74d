-- Codes and assertions come back from their numbers where no check fails, with other names for their labels alone.
use Rattle.std.proofs.Common.{◌≡◌, Bool, true, not, ◌&&◌, ◌||◌, List, [], ◌∷◌, ◌++◌, map, flat_map, Option, Some, None, option_map, is_some, refl, ap, ap₂}
use Rattle.std.specs.List.{list_all, list_any}
use Rattle.std.proofs.lemmas.Bool.{and_parts}
use Rattle.std.proofs.lemmas.Simd.{map-map}
use Rattle.hhas_lex.specs.Spelling.{is_word}
use Rattle.hhbc_ops.specs.declared.op.Op.{Op}
use Rattle.hhbc_ops.specs.declared.op.Op.TheVariants as ops
use Rattle.hhbc_ops.specs.declared.words.ImmKind.{ImmKind}
use Rattle.hhbc_ops.specs.declared.words.ImmKind.TheVariants as kinds
use Rattle.hhbc_ops.specs.Ops.{kinds_of}
use Rattle.type_lattice.specs.TypeText.{class_name}
use Rattle.type_lattice.specs.Keep.{is_constraint}
use Rattle.hhbc_repo.specs.declared.parts.ArmParts.{ArmParts}
use Rattle.hhbc_repo.specs.declared.parts.AssertParts.{AssertParts}
use Rattle.hhbc_repo.specs.declared.parts.AssertParts.TheVariants as claims
use Rattle.hhbc_repo.specs.declared.parts.BaseParts.{BaseParts}
use Rattle.hhbc_repo.specs.declared.parts.BaseParts.TheVariants as bases
use Rattle.hhbc_repo.specs.declared.parts.BodyParts.{BodyParts}
use Rattle.hhbc_repo.specs.declared.parts.CodeParts.{CodeParts}
use Rattle.hhbc_repo.specs.declared.parts.CodeParts.TheVariants as forms
use Rattle.hhbc_repo.specs.declared.parts.FinalParts.{FinalParts}
use Rattle.hhbc_repo.specs.declared.parts.FinalParts.TheVariants as finals
use Rattle.hhbc_repo.specs.declared.parts.ImmParts.{ImmParts}
use Rattle.hhbc_repo.specs.declared.parts.ImmParts.TheVariants as imms
use Rattle.hhbc_repo.specs.declared.parts.MemberKeyParts.{MemberKeyParts}
use Rattle.hhbc_repo.specs.declared.parts.MemberKeyParts.TheVariants as keys
use Rattle.hhbc_repo.specs.declared.parts.PositionParts.{PositionParts}
use Rattle.hhbc_repo.specs.declared.parts.TypeParts.{TypeParts}
use Rattle.hhbc_repo.specs.declared.body.Body.{Body}
use Rattle.hhbc_repo.specs.declared.link_fault.LinkFault.{LinkFault}
use Rattle.hhbc_repo.specs.declared.link_fault.LinkKind.TheVariants as reasons
use Rattle.hhbc_repo.specs.Canonical.{local_name, canonical_arm, canonical_operand, canonical_base, canonical_key, canonical_final, canonical_code, canonical_assert, canonical_position}
use Rattle.hhbc_repo.specs.CodeSyntax as parts
use Rattle.hhbc_repo.specs.LinkFaults.{Name, Whole, Place, names, dollar, known, class_names, class_of, locals_of, local_faults, type_faults, key_local, operand_faults, instruction_faults, key_faults, base_faults, last_key, code_faults, assert_faults, position_faults}
use Rattle.hhbc_repo.specs.Resolved.{local_number, class_number, resolved_arm, resolved_operand, resolved_base, resolved_key, resolved_final, resolved_code, resolved_assert, resolved_position, resolved_body}
use Rattle.hhbc_repo.proofs.Relabelled.{relabelled_arm, relabelled_operand, relabelled_code, relabelled_position, new_label}
use Rattle.hhbc_repo.specs.TypeFits.{type_fits}
use Rattle.hhbc_repo.specs.Fits.{is_index, operand_fits, operands_fit, base_fits, query_key_fits, final_fits, code_fits, assert_fits, position_fits}
use Rattle.hhbc_repo.proofs.NoFaults.{empty_left, empty_right, passes, constant_class, method_class}
use Rattle.hhbc_repo.proofs.TypesBack.{name_back, class_back, type_back}

-- each value of a list comes back
each_back : {A B : Type 0} (test : A → Bool) (faults_of : A → List LinkFault) (there : A → B) (back : B → A)
    → ((a : A) → test a ≡ true → faults_of a ≡ [] → back (there a) ≡ a) → (xs : List A) → list_all test xs ≡ true → flat_map faults_of xs ≡ [] → map back (map there xs) ≡ xs
each_back test faults_of there back one [] h e = refl
each_back test faults_of there back one (x ∷ xs) h e =
    let p = and_parts (test x) (list_all test xs) h in
    let first = one x p.0 (empty_left (faults_of x) (flat_map faults_of xs) e) in
    let more = each_back test faults_of there back one xs p.1 (empty_right (faults_of x) (flat_map faults_of xs) e) in
    λ i. first i ∷ more i

module _ (w : Whole) (b : BodyParts) (owner : Name) where
  abbrev here : Place
  here = record { whole = w; body = b; owner = owner }

  abbrev all : List Name
  all = class_names w

  abbrev body : Body
  body = resolved_body w b

  abbrev label : Name → Name
  label = new_label w b

  -- ---- operands

  pub local_back : (name : Name) → local_faults here name ≡ [] → local_name body (local_number b name) ≡ name
  local_back name e = name_back (locals_of b) name (passes (names (locals_of b) name) reasons.UnknownName owner (dollar name) 0 e)

  key_local_back : (k : Option Name) → key_local here k ≡ [] → option_map (local_name body) (option_map (local_number b) k) ≡ k
  key_local_back None e = refl
  key_local_back (Some name) e = ap (λ (n : Name). Some n) (local_back name e)

  arms_back : (xs : List ArmParts) → map (canonical_arm body) (map (resolved_arm b) xs) ≡ map (relabelled_arm label) xs
  arms_back xs = map-map (canonical_arm body) (resolved_arm b) xs

  operand_back : (k : ImmKind) (m : ImmParts) → operand_fits k m ≡ true → operand_faults here m ≡ [] → canonical_operand all body (resolved_operand w b m) ≡ relabelled_operand label m
  operand_back kinds.Int (imms.Int i) h e = refl
  operand_back kinds.Count (imms.Count n) h e = refl
  operand_back kinds.Str (imms.Str s) h e = refl
  operand_back kinds.Name (imms.Name n) h e = refl
  operand_back kinds.Local (imms.Local n) h e = ap imms.Local (local_back n e)
  operand_back kinds.Iter (imms.Iter i) h e = refl
  operand_back kinds.Label (imms.Pos n) h e = refl
  operand_back kinds.Class (imms.Class n) h e = ap imms.Class (class_back w owner n e)
  operand_back kinds.IncDec (imms.IncDec op) h e = refl
  operand_back kinds.SetOp (imms.SetOp op) h e = refl
  operand_back kinds.IsType (imms.IsType op) h e = refl
  operand_back kinds.Constraint (imms.Constraint t) h e = ap imms.Constraint (type_back w owner t (and_parts (type_fits t) (is_constraint t.t) h).0 e)
  operand_back kinds.Switch (imms.Arms xs) h e = ap imms.Arms (arms_back xs)
  operand_back kinds.SSwitch (imms.Arms xs) h e = ap imms.Arms (arms_back xs)
  operand_back kinds.IterLocals (imms.IterLocals k v) h e =
      ap₂ (λ (key : Option Name) (value : Name). imms.IterLocals key value)
      (key_local_back k (empty_left (key_local here k) (local_faults here v) e)) (local_back v (empty_right (key_local here k) (local_faults here v) e))
  operand_back _ _ h e = absurd (cc)

  operands_back : (ks : List ImmKind) (ms : List ImmParts) → operands_fit ks ms ≡ true → flat_map (operand_faults here) ms ≡ [] → map (canonical_operand all body) (map (resolved_operand w b) ms) ≡ map (relabelled_operand label) ms
  operands_back [] [] h e = refl
  operands_back [] (m ∷ ms) h e = absurd (cc)
  operands_back (k ∷ ks) [] h e = absurd (cc)
  operands_back (k ∷ ks) (m ∷ ms) h e =
      let p = and_parts (operand_fits k m) (operands_fit ks ms) h in
      ap₂ (λ (x : ImmParts) (xs : List ImmParts). x ∷ xs)
      (operand_back k m p.0 (empty_left (operand_faults here m) (flat_map (operand_faults here) ms) e))
      (operands_back ks ms p.1 (empty_right (operand_faults here m) (flat_map (operand_faults here) ms) e))

  some_class : (class : Name) → is_some (class_of w class) ≡ true → class_name all (class_number w class) ≡ class
  some_class class h = class_back w owner class (ap (λ (c : Bool). known c owner class) h)

  instruction_back : (op : Op) (ms : List ImmParts) → operands_fit (kinds_of op) ms ≡ true → instruction_faults here op ms ≡ [] → map (canonical_operand all body) (map (resolved_operand w b) ms) ≡ map (relabelled_operand label) ms
  instruction_back ops.ClsCnsD (imms.Name name ∷ imms.Class class ∷ []) h e =
      ap (λ (c : Name). imms.Name name ∷ imms.Class c ∷ []) (some_class class (constant_class here name class (class_of w class) e))
  instruction_back ops.FCallClsMethodD (imms.Count n ∷ imms.Name name ∷ imms.Class class ∷ []) h e =
      ap (λ (c : Name). imms.Count n ∷ imms.Name name ∷ imms.Class c ∷ []) (some_class class (method_class here name class n (class_of w class) e))
  instruction_back ops.FCallFuncD (imms.Count n ∷ imms.Name name ∷ []) h e = refl
  instruction_back op ms h e = operands_back (kinds_of op) ms h e

  -- ---- member sequences

  base_back : (m : BaseParts) → base_faults here m ≡ [] → canonical_base body (resolved_base b m) ≡ m
  base_back (bases.Local n) e = ap bases.Local (local_back n e)
  base_back (bases.Stack n) e = refl
  base_back bases.This e = refl

  key_back : (k : MemberKeyParts) → key_faults here k ≡ [] → canonical_key body (resolved_key b k) ≡ k
  key_back (keys.ElemStack n) e = refl
  key_back (keys.ElemLocal n) e = ap keys.ElemLocal (local_back n e)
  key_back (keys.ElemText s) e = refl
  key_back (keys.ElemInt i) e = refl
  key_back (keys.PropStack n) e = refl
  key_back (keys.PropLocal n) e = ap keys.PropLocal (local_back n e)
  key_back (keys.PropName n) e = refl
  key_back (keys.NullsafeName n) e = refl
  key_back keys.Append e = refl

  final_back : (f : FinalParts) → key_faults here (last_key f) ≡ [] → canonical_final body (resolved_final b f) ≡ f
  final_back (finals.Query n mode k) e = ap (λ (k : MemberKeyParts). finals.Query n mode k) (key_back k e)
  final_back (finals.Set n k) e = ap (λ (k : MemberKeyParts). finals.Set n k) (key_back k e)
  final_back (finals.SetOp n op k) e = ap (λ (k : MemberKeyParts). finals.SetOp n op k) (key_back k e)
  final_back (finals.IncDec n op k) e = ap (λ (k : MemberKeyParts). finals.IncDec n op k) (key_back k e)
  final_back (finals.Unset n k) e = ap (λ (k : MemberKeyParts). finals.Unset n k) (key_back k e)

  code_back : (c : CodeParts) → code_fits c ≡ true → code_faults here c ≡ [] → canonical_code all body (resolved_code w b c) ≡ relabelled_code label c
  code_back (forms.Plain i) h e = ap (λ (ms : List ImmParts). forms.Plain (record { op = i.op; imms = ms })) (instruction_back i.op i.imms h e)
  code_back (forms.Member m) h e =
      let dims = list_all query_key_fits m.dims in
      let safe = not (list_any parts.is_nullsafe m.dims) || parts.is_query m.last in
      let x = and_parts (base_fits m.base) (dims && (final_fits m.last && safe)) h in
      let y = and_parts dims (final_fits m.last && safe) x.1 in
      let of_dims = flat_map (key_faults here) m.dims in
      let of_last = key_faults here (last_key m.last) in
      let behind = empty_right (base_faults here m.base) (of_dims ++ of_last) e in
      let base = base_back m.base (empty_left (base_faults here m.base) (of_dims ++ of_last) e) in
      let each = each_back query_key_fits (key_faults here) (resolved_key b) (canonical_key body) (λ k g f. key_back k f) m.dims y.0 (empty_left of_dims of_last behind) in
      let last = final_back m.last (empty_right of_dims of_last behind) in
      λ i. forms.Member (record { base = base i; dims = each i; last = last i })

  -- ---- positions

  assert_back : (a : AssertParts) → assert_fits a ≡ true → assert_faults here a ≡ [] → canonical_assert all body (resolved_assert w b a) ≡ a
  assert_back (claims.Local name t) h e =
      ap₂ (λ (n : Name) (t : TypeParts). claims.Local n t)
      (local_back name (empty_left (local_faults here name) (type_faults w owner t) e))
      (type_back w owner t (and_parts (is_word name) (type_fits t) h).1 (empty_right (local_faults here name) (type_faults w owner t) e))
  assert_back (claims.Stack n t) h e = ap (λ (t : TypeParts). claims.Stack n t) (type_back w owner t (and_parts (is_index n) (type_fits t) h).1 e)

  pub position_back : (p : PositionParts) → position_fits p ≡ true → position_faults (record { whole = w; body = b; owner = owner }) p ≡ []
      → canonical_position (class_names w) (resolved_body w b) (resolved_position w b p) ≡ relabelled_position (new_label w b) p
  position_back p h e =
      let x = and_parts (list_all assert_fits p.asserts) (code_fits p.code) h in
      let of_asserts = flat_map (assert_faults here) p.asserts in
      let asserts = each_back assert_fits (assert_faults here) (resolved_assert w b) (canonical_assert all body) assert_back p.asserts x.0 (empty_left of_asserts (code_faults here p.code) e) in
      let code = code_back p.code x.1 (empty_right of_asserts (code_faults here p.code) e) in
      λ i. record { asserts = asserts i; code = code i }
