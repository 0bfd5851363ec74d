-- What parts link to has no longer lists than they have.
use Rattle.std.proofs.Common.{◌≡◌, ◌≤◌, ◌<◌, ◌^◌, ℕ, suc, ◌+◌, Bool, true, ◌&&◌, List, [], ◌∷◌, map, length, refl, sym, ap, ◌∙◌, subst, arith}
use Rattle.std.specs.List.{list_all, flat_map}
use Rattle.std.proofs.lemmas.Bool.{and_from, and_parts, lt-ltb, ltb-true}
use Rattle.std.proofs.lemmas.List.{length-append, length-map}
use Rattle.std.proofs.lemmas.List.Folds.{list_all-append}
use Rattle.type_lattice.specs.InRange.{where_there}
use Rattle.hhbc_repo.specs.declared.body.Body.{Body}
use Rattle.hhbc_repo.specs.declared.parts.AssertParts.{AssertParts}
use Rattle.hhbc_repo.specs.declared.parts.BodyParts.{BodyParts}
use Rattle.hhbc_repo.specs.declared.parts.ClassParts.{ClassParts}
use Rattle.hhbc_repo.specs.declared.parts.CodeParts.{CodeParts}
use Rattle.hhbc_repo.specs.declared.parts.CodeParts.TheVariants as forms
use Rattle.hhbc_repo.specs.declared.parts.ImmParts.{ImmParts}
use Rattle.hhbc_repo.specs.declared.parts.ImmParts.TheVariants as imms
use Rattle.hhbc_repo.specs.declared.parts.ItemParts.{ItemParts}
use Rattle.hhbc_repo.specs.declared.parts.ItemParts.TheVariants as items
use Rattle.hhbc_repo.specs.declared.parts.PositionParts.{PositionParts}
use Rattle.hhbc_repo.specs.declared.parts.PropertyParts.{PropertyParts}
use Rattle.hhbc_repo.specs.declared.repo.Class.{Class}
use Rattle.hhbc_repo.specs.Bodies.{bodies}
use Rattle.hhbc_repo.specs.LinkFaults.{Name, Place, Whole, body_faults, faults, locals_of}
use Rattle.hhbc_repo.specs.LookUps.{methods_in}
use Rattle.hhbc_repo.specs.Resolved.{resolved, resolved_arm, resolved_assert, resolved_body, resolved_class, resolved_code, resolved_item, resolved_key, resolved_operand, resolved_position, resolved_property, regions_from}
use Rattle.hhbc_repo.specs.Lengths.{fewer, assert_parts_fewer, operand_parts_fewer, code_parts_fewer, position_parts_fewer, item_parts_fewer, body_parts_fewer, property_parts_fewer, class_parts_fewer, type_parts_fewer, parts_fewer, operand_fewer, code_fewer, position_fewer, body_fewer, class_fewer, lists_fewer}
use Rattle.hhbc_repo.proofs.BodiesPass.{all_pass}
use Rattle.hhbc_repo.proofs.NoFaults.{faultless, passed}
use Rattle.hhbc_repo.proofs.WithinLimits.{limits_hold}

mapped : {A B : Type 0} (n : ℕ) (f : A → B) (xs : List A) → fewer n xs ≡ true → fewer n (map f xs) ≡ true
mapped n f xs h = let l = length-map xs f in let k = ltb-true (length xs) n h in lt-ltb (length (map f xs)) n (omega (arith, l, k))

module _ (n : ℕ) (w : Whole) (b : BodyParts) where
  operand_kept : (m : ImmParts) → operand_parts_fewer n m ≡ true → operand_fewer n (resolved_operand w b m) ≡ true
  operand_kept (imms.Arms arms) h = mapped n (resolved_arm b) arms h
  operand_kept (imms.Int i) h = refl
  operand_kept (imms.Count c) h = refl
  operand_kept (imms.Str s) h = refl
  operand_kept (imms.Name x) h = refl
  operand_kept (imms.Local x) h = refl
  operand_kept (imms.Iter i) h = refl
  operand_kept (imms.Pos x) h = refl
  operand_kept (imms.Class x) h = refl
  operand_kept (imms.IncDec op) h = refl
  operand_kept (imms.SetOp op) h = refl
  operand_kept (imms.IsType op) h = refl
  operand_kept (imms.Constraint t) h = refl
  operand_kept (imms.IterLocals k v) h = refl

  operands_kept : (ms : List ImmParts) → list_all (operand_parts_fewer n) ms ≡ true → list_all (operand_fewer n) (map (resolved_operand w b) ms) ≡ true
  operands_kept [] h = refl
  operands_kept (m ∷ ms) h =
      let p = and_parts (operand_parts_fewer n m) (list_all (operand_parts_fewer n) ms) h in
      and_from (operand_fewer n (resolved_operand w b m)) (list_all (operand_fewer n) (map (resolved_operand w b) ms)) (operand_kept m p.0) (operands_kept ms p.1)

  code_kept : (c : CodeParts) → code_parts_fewer n c ≡ true → code_fewer n (resolved_code w b c) ≡ true
  code_kept (forms.Plain i) h =
      let p = and_parts (fewer n i.imms) (list_all (operand_parts_fewer n) i.imms) h in
      and_from (fewer n (map (resolved_operand w b) i.imms)) (list_all (operand_fewer n) (map (resolved_operand w b) i.imms)) (mapped n (resolved_operand w b) i.imms p.0) (operands_kept i.imms p.1)
  code_kept (forms.Member m) h = mapped n (resolved_key b) m.dims h

  position_kept : (p : PositionParts) → position_parts_fewer n p ≡ true → position_fewer n (resolved_position w b p) ≡ true
  position_kept p h =
      let q = and_parts (fewer n p.asserts) (list_all (assert_parts_fewer n) p.asserts && code_parts_fewer n p.code) h in
      let r = and_parts (list_all (assert_parts_fewer n) p.asserts) (code_parts_fewer n p.code) q.1 in
      and_from (fewer n (map (resolved_assert w b) p.asserts)) (code_fewer n (resolved_code w b p.code)) (mapped n (resolved_assert w b) p.asserts q.0) (code_kept p.code r.1)

  items_kept : (is : List ItemParts) → list_all (item_parts_fewer n) is ≡ true → list_all (position_fewer n) (flat_map (resolved_item w b) is) ≡ true
  items_kept [] h = refl
  items_kept (items.Label name ∷ is) h = items_kept is h
  items_kept (items.Position p ∷ is) h =
      let q = and_parts (position_parts_fewer n p) (list_all (item_parts_fewer n) is) h in
      and_from (position_fewer n (resolved_position w b p)) (list_all (position_fewer n) (flat_map (resolved_item w b) is)) (position_kept p q.0) (items_kept is q.1)
  items_kept (items.Try ∷ is) h = items_kept is h
  items_kept (items.Catch ∷ is) h = items_kept is h
  items_kept (items.End ∷ is) h = items_kept is h

  positions_count : (is : List ItemParts) → length (flat_map (resolved_item w b) is) ≤ length is
  positions_count [] = omega arith
  positions_count (items.Label name ∷ is) = let k = positions_count is in omega (arith, k)
  positions_count (items.Position p ∷ is) = let k = positions_count is in omega (arith, k)
  positions_count (items.Try ∷ is) = let k = positions_count is in omega (arith, k)
  positions_count (items.Catch ∷ is) = let k = positions_count is in omega (arith, k)
  positions_count (items.End ∷ is) = let k = positions_count is in omega (arith, k)

  regions_count : (m : ℕ) (is : List ItemParts) → length (regions_from m is) ≤ length is
  regions_count m [] = omega arith
  regions_count m (items.Label name ∷ is) = let k = regions_count m is in omega (arith, k)
  regions_count m (items.Position p ∷ is) = let k = regions_count (suc m) is in omega (arith, k)
  regions_count m (items.Try ∷ is) = let k = regions_count m is in omega (arith, k)
  regions_count m (items.Catch ∷ is) = let k = regions_count m is in omega (arith, k)
  regions_count m (items.End ∷ is) = let k = regions_count m is in omega (arith, k)

  body_kept : 255 < n → (owner : Name) → body_parts_fewer n b ≡ true → body_faults (record { whole = w; body = b; owner = owner }) ≡ [] → body_fewer n (resolved_body w b) ≡ true
  body_kept many owner h e =
      let c = resolved_body w b in
      let few = (limits_hold (record { whole = w; body = b; owner = owner }) (faultless (record { whole = w; body = b; owner = owner }) e).limits).locals in
      let stated = where_there (type_parts_fewer n) b.stated in
      let all = list_all (item_parts_fewer n) b.items in
      let p = and_parts (fewer n b.params) (fewer n b.locals && (stated && (fewer n b.items && all))) h in
      let q = and_parts (fewer n b.locals) (stated && (fewer n b.items && all)) p.1 in
      let r = and_parts stated (fewer n b.items && all) q.1 in
      let s = and_parts (fewer n b.items) all r.1 in
      let count = ltb-true (length b.items) n s.0 in
      let x = positions_count b.items in
      let y = regions_count 0 b.items in
      and_from (fewer n c.locals) (fewer n c.positions && (fewer n c.regions && list_all (position_fewer n) c.positions)) (lt-ltb (length c.locals) n (omega (arith, few, many)))
      (and_from (fewer n c.positions) (fewer n c.regions && list_all (position_fewer n) c.positions) (lt-ltb (length c.positions) n (omega (arith, x, count)))
      (and_from (fewer n c.regions) (list_all (position_fewer n) c.positions) (lt-ltb (length c.regions) n (omega (arith, y, count))) (items_kept b.items s.1)))

-- ---- classes

record Few (n : ℕ) (c : ClassParts) : Type 0 where
  consts : fewer n c.consts ≡ true
  props : fewer n c.props ≡ true
  methods : fewer n c.methods ≡ true
  bodies : list_all (body_parts_fewer n) c.methods ≡ true

few : (n : ℕ) (c : ClassParts) → class_parts_fewer n c ≡ true → Few n c
few n c h =
    let props = list_all (property_parts_fewer n) c.props in
    let methods = list_all (body_parts_fewer n) c.methods in
    let p = and_parts (fewer n c.consts) (fewer n c.props && (fewer n c.methods && (props && methods))) h in
    let q = and_parts (fewer n c.props) (fewer n c.methods && (props && methods)) p.1 in
    let r = and_parts (fewer n c.methods) (props && methods) q.1 in
    record { consts = p.0; props = q.0; methods = r.0; bodies = (and_parts props methods r.1).1 }

methods_few : (n : ℕ) (cs : List ClassParts) → list_all (class_parts_fewer n) cs ≡ true → list_all (λ (c : ClassParts). list_all (body_parts_fewer n) c.methods) cs ≡ true
methods_few n [] h = refl
methods_few n (c ∷ cs) h =
    let p = and_parts (class_parts_fewer n c) (list_all (class_parts_fewer n) cs) h in
    and_from (list_all (body_parts_fewer n) c.methods) (list_all (λ (c : ClassParts). list_all (body_parts_fewer n) c.methods) cs) (few n c p.0).bodies (methods_few n cs p.1)

classes_kept : (n : ℕ) (w : Whole) (cs : List ClassParts) → list_all (class_parts_fewer n) cs ≡ true → list_all (body_fewer n) (methods_in (map (resolved_class w) cs)) ≡ true
    → list_all (class_fewer n) (map (resolved_class w) cs) ≡ true
classes_kept n w [] h k = refl
classes_kept n w (c ∷ cs) h k =
    let d = resolved_class w c in
    let p = and_parts (class_parts_fewer n c) (list_all (class_parts_fewer n) cs) h in
    let f = few n c p.0 in
    let m = and_parts (list_all (body_fewer n) d.methods) (list_all (body_fewer n) (methods_in (map (resolved_class w) cs)))
    (sym (list_all-append (body_fewer n) d.methods (methods_in (map (resolved_class w) cs))) ∙ k) in
    and_from (class_fewer n d) (list_all (class_fewer n) (map (resolved_class w) cs))
    (and_from (fewer n d.consts) (fewer n d.props && (fewer n d.methods && list_all (body_fewer n) d.methods)) f.consts
    (and_from (fewer n d.props) (fewer n d.methods && list_all (body_fewer n) d.methods) (mapped n (resolved_property w) c.props f.props)
    (and_from (fewer n d.methods) (list_all (body_fewer n) d.methods) (mapped n (resolved_body w) c.methods f.methods) m.0)))
    (classes_kept n w cs p.1 m.1)

-- ---- all of it

pub lists_kept : (n : ℕ) (w : Whole) → 255 < n → parts_fewer n w ≡ true → faults w ≡ [] → lists_fewer n (resolved w) ≡ true
lists_kept n w many h e =
    let fs = list_all (body_parts_fewer n) w.functions in
    let cs = list_all (class_parts_fewer n) w.classes in
    let p = and_parts (fewer n w.functions) (fewer n w.classes && (fs && cs)) h in
    let q = and_parts (fewer n w.classes) (fs && cs) p.1 in
    let r = and_parts fs cs q.1 in
    let all = all_pass w (body_parts_fewer n) (body_fewer n) (λ b owner f k. body_kept n w b many owner f k) r.0 (methods_few n w.classes r.1) (passed w e).bodies in
    let functions = map (resolved_body w) w.functions in
    let classes = map (resolved_class w) w.classes in
    let s = and_parts (list_all (body_fewer n) functions) (list_all (body_fewer n) (methods_in classes)) (sym (list_all-append (body_fewer n) functions (methods_in classes)) ∙ all) in
    and_from (fewer n functions) (fewer n classes && (list_all (body_fewer n) functions && list_all (class_fewer n) classes)) (mapped n (resolved_body w) w.functions p.0)
    (and_from (fewer n classes) (list_all (body_fewer n) functions && list_all (class_fewer n) classes) (mapped n (resolved_class w) w.classes q.0)
    (and_from (list_all (body_fewer n) functions) (list_all (class_fewer n) classes) s.0 (classes_kept n w w.classes r.1 s.1)))
